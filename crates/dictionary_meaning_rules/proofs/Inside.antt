-- Something open in a dictionary that passes: its records up to its close are items of as many levels as are open, the count and what
-- is held at the close are those of the items, and the records after the close pass too.
use Rattle.std.specs.Prelude.{◌≡◌, Bool, ℕ, ◌+◌, ◌≤◌, ◌<◌}
use Rattle.std.proofs.Math.Path.{refl, ap}
use Rattle.std.proofs.Common.{◌∙◌, ⊎_elim, arith, Option, Some}
use mathlib.Core.List.{List, [], ◌∷◌}
use Rattle.std.proofs.Math.ListN.{length}
use Rattle.dictionary_rules.specs.Record.{record_at}
use Rattle.dictionary_rules.specs.Records.{Records, ends, bad, whole, records_from}
use Rattle.dictionary_rules.specs.RecordsLaws.{records_end, records_bad, records_whole}
use Rattle.dictionary_rules.specs.declared.Record.{Record}
use Rattle.dictionary_rules.specs.declared.Record.TheVariants.{KnownTag, OpensComponent, OpensMessage, FieldItem, ComponentItem, OpensGroup, Closes}
use Rattle.dictionary_rules.specs.declared.RecordRead.{RecordRead}
use Rattle.dictionary_rules.specs.declared.RecordRead.TheVariants.{Whole, Bad, End}
use Rattle.dictionary_rules.specs.Step.{depth_of, opened, grown, held_with}
use Rattle.dictionary_rules.specs.Names.{Names, component_in, named}
use Rattle.dictionary_rules.specs.declared.Component.{Component}
use Rattle.dictionary_rules.specs.declared.Group.{Group}
use Rattle.dictionary_rules.specs.declared.Groups.{Groups}
use Rattle.dictionary_rules.specs.declared.Groups.TheVariants.{NoGroup, OneGroup, TwoGroups, ThreeGroups, FourGroups}
use Rattle.dictionary_rules.specs.declared.Held.{Held}
use Rattle.dictionary_rules.specs.declared.Held.TheVariants.{Several}
use Rattle.dictionary_rules.specs.declared.Open.{Open}
use Rattle.dictionary_rules.specs.declared.State.TheVariants.{TopLevel, Inside}
use Rattle.dictionary_meaning_rules.specs.Meaning.{Items, closed, field_then_lem, component_then_lem, group_then_lem, size_of}
use Rattle.dictionary_meaning_rules.proofs.Layable.{Reads, reads-close, reads-field, reads-component, reads-group}
use Rattle.dictionary_meaning_rules.proofs.Counted.{items_in, held_by, count_of, held_from}
use Rattle.dictionary_meaning_rules.specs.Steps.{Passing, note_of, field-goes, group-goes, item-goes, known-stops, component-stops, message-stops, close-goes, bad-stops, end-stops}

-- the record that stands at a place, and the records after it
pub record Next (bytes : List ℕ) (at : ℕ) (r : Record) (rest : Records) (place : ℕ) : Type 0 where
  pub next : ℕ
  pub read : record_at bytes at ≡ Whole r next
  pub there : records_from bytes next ≡ rest
  pub here : place ≡ at

pub next_of : (bytes : List ℕ) (at place : ℕ) (r : Record) (rest : Records) → records_from bytes at ≡ whole place r rest → Next bytes at r rest place
next_of bytes at place r rest e = go (record_at bytes at) refl
  where
    go : (x : RecordRead) → record_at bytes at ≡ x → Next bytes at r rest place
    go End q = let w = records_end bytes at q in let z : ◌≡◌ {A = ℕ} 0 1 = cc in absurd (omega arith)
    go Bad q = let w = records_bad bytes at q in let z : ◌≡◌ {A = ℕ} 0 1 = cc in absurd (omega arith)
    go (Whole x next) q =
        let w = records_whole bytes at x next q in
        let same : x ≡ r = cc in
        let more : records_from bytes next ≡ rest = cc in
        let here : place ≡ at = cc in
        record { next = next; read = rw same at q; there = more; here = here }

-- levels that stand one after the other, the innermost first
pub data ReadsAll (bytes : List ℕ) : ℕ → List Items → ℕ → Type 0 where
  no_level : {at : ℕ} → ReadsAll bytes at [] at
  one_level : {at upto after : ℕ} {level : Items} {levels : List Items} → Reads bytes at level upto → ReadsAll bytes upto levels after → ReadsAll bytes at (level ∷ levels) after

-- every component that items name is closed
pub data Resolved (look : ℕ → Option Component) : Items → Type 0 where
  resolved_close : Resolved look closed
  resolved_field : {tag : ℕ} {required : Bool} {rest : Items} → Resolved look rest → Resolved look (field_then_lem tag required rest)
  resolved_component : {number : ℕ} {required : Bool} {rest : Items} (c : Component) → look number ≡ Some c → Resolved look rest → Resolved look (component_then_lem number required rest)
  resolved_group : {tag : ℕ} {required : Bool} {inner rest : Items} → Resolved look inner → Resolved look rest → Resolved look (group_then_lem tag required inner rest)

pub data AllResolved (look : ℕ → Option Component) : List Items → Type 0 where
  none_resolved : AllResolved look []
  one_resolved : {level : Items} {levels : List Items} → Resolved look level → AllResolved look levels → AllResolved look (level ∷ levels)

unfoldable pub count_all : (ℕ → Option Component) → List Items → ℕ
count_all look [] = 0
count_all look (level ∷ levels) = count_of look level + count_all look levels

unfoldable pub held_all : (ℕ → Option Component) → Held → List Items → Held
held_all look held [] = held
held_all look held (level ∷ levels) = held_all look (held_from look held level) levels

abbrev pub look_in : Names → ℕ → Option Component
look_in names = component_in names.components

-- how something open closes
pub record Closing (bytes : List ℕ) (final names : Names) (at : ℕ) (rs : Records) (o : Open) : Type 0 where
  pub levels : List Items
  pub after : ℕ
  pub rest : Records
  pub last : Open
  pub there : records_from bytes after ≡ rest
  pub deep : length levels ≡ 1 + depth_of o.groups
  pub reads : ReadsAll bytes at levels after
  pub resolved : AllResolved (look_in names) levels
  pub owner : last.owner ≡ o.owner
  pub place : last.place ≡ o.place
  pub count : last.items ≡ o.items + count_all (look_in names) levels
  pub limit : o.items ≤ 1024 → last.items ≤ 1024
  pub held : last.held ≡ held_all (look_in names) o.held levels
  pub passes : Passing final rest TopLevel (named names (note_of last last.owner))
  pub fewer : size_of rest < size_of rs

module _ (bytes : List ℕ) (final names : Names) where
  abbrev Look : ℕ → Option Component
  Look = look_in names

  -- one item before what is known of the rest
  field-before : (at place : ℕ) (tag : ℕ) (required : Bool) (rest : Records) (o : Open) (depth : ℕ) →
      (n : Next bytes at (FieldItem tag required) rest place) → o.items + 1 ≤ 1024 →
      Closing bytes final names n.next rest (grown o (o.items + 1) depth Several o.groups) →
      Closing bytes final names at (whole place (FieldItem tag required) rest) o
  unfolding grown count_all count_of held_all held_from size_of
  field-before at place tag required rest o depth n h c = go c.levels c.deep c.reads c.resolved c.count c.held
    where
      go : (levels : List Items) → length levels ≡ 1 + depth_of (grown o (o.items + 1) depth Several o.groups).groups →
          ReadsAll bytes n.next levels c.after → AllResolved Look levels →
          c.last.items ≡ (grown o (o.items + 1) depth Several o.groups).items + count_all Look levels →
          c.last.held ≡ held_all Look (grown o (o.items + 1) depth Several o.groups).held levels →
          Closing bytes final names at (whole place (FieldItem tag required) rest) o
      go [] d r v k l = absurd (omega arith)
      go (level ∷ levels) d (one_level r rs) (one_resolved v vs) k l =
          record {
            levels = field_then_lem tag required level ∷ levels;
            after = c.after;
            rest = c.rest;
            last = c.last;
            there = c.there;
            deep = d;
            reads = one_level (reads-field n.read r) rs;
            resolved = one_resolved (resolved_field v) vs;
            owner = c.owner;
            place = c.place;
            count = omega arith;
            limit = λ x. c.limit h;
            held = l;
            passes = c.passes;
            fewer = omega (arith, c.fewer);
          }

  component-before : (at place : ℕ) (number : ℕ) (required : Bool) (rest : Records) (o : Open) (depth : ℕ) (component : Component) →
      (n : Next bytes at (ComponentItem required number) rest place) → Look number ≡ Some component → o.items + component.items ≤ 1024 →
      Closing bytes final names n.next rest (grown o (o.items + component.items) depth (held_with o.held component) o.groups) →
      Closing bytes final names at (whole place (ComponentItem required number) rest) o
  unfolding grown count_all count_of items_in held_all held_from held_by size_of
  component-before at place number required rest o depth component n looked h c = go c.levels c.deep c.reads c.resolved c.count c.held
    where
      go : (levels : List Items) → length levels ≡ 1 + depth_of o.groups → ReadsAll bytes n.next levels c.after → AllResolved Look levels →
          c.last.items ≡ o.items + component.items + count_all Look levels → c.last.held ≡ held_all Look (held_with o.held component) levels →
          Closing bytes final names at (whole place (ComponentItem required number) rest) o
      go [] d r v k l = absurd (omega arith)
      go (level ∷ levels) d (one_level r rs) (one_resolved v vs) k l =
          record {
            levels = component_then_lem number required level ∷ levels;
            after = c.after;
            rest = c.rest;
            last = c.last;
            there = c.there;
            deep = d;
            reads = one_level (reads-component n.read r) rs;
            resolved = one_resolved (resolved_component component looked v) vs;
            owner = c.owner;
            place = c.place;
            count = rw looked (omega arith);
            limit = λ x. c.limit h;
            held = rw looked l;
            passes = c.passes;
            fewer = omega (arith, c.fewer);
          }

  opened-depth : (group : Group) (groups : Groups) → depth_of groups + 1 ≤ 4 → depth_of (opened group groups) ≡ 1 + depth_of groups
  unfolding depth_of opened
  opened-depth group NoGroup h = refl
  opened-depth group (OneGroup a) h = refl
  opened-depth group (TwoGroups a b) h = refl
  opened-depth group (ThreeGroups a b c) h = refl
  opened-depth group (FourGroups a b c d) h = absurd (omega arith)

  group-before : (at place : ℕ) (tag : ℕ) (required : Bool) (rest : Records) (o : Open) (depth : ℕ) (group : Group) →
      (n : Next bytes at (OpensGroup tag required) rest place) → depth_of o.groups + 1 ≤ 4 → o.items + 1 ≤ 1024 →
      Closing bytes final names n.next rest (grown o (o.items + 1) depth Several (opened group o.groups)) →
      Closing bytes final names at (whole place (OpensGroup tag required) rest) o
  unfolding grown count_all count_of held_all held_from size_of
  group-before at place tag required rest o depth group n g h c = go c.levels (c.deep ∙ ap (λ (k : ℕ). 1 + k) (opened-depth group o.groups g)) c.reads c.resolved c.count c.held
    where
      go : (levels : List Items) → length levels ≡ 1 + (1 + depth_of o.groups) → ReadsAll bytes n.next levels c.after → AllResolved Look levels →
          c.last.items ≡ o.items + 1 + count_all Look levels → c.last.held ≡ held_all Look Several levels →
          Closing bytes final names at (whole place (OpensGroup tag required) rest) o
      go [] d r v k l = absurd (omega arith)
      go (inner ∷ []) d r v k l = absurd (omega arith)
      go (inner ∷ (level ∷ levels)) d (one_level i (one_level r rs)) (one_resolved w (one_resolved v vs)) k l =
          record {
            levels = group_then_lem tag required inner level ∷ levels;
            after = c.after;
            rest = c.rest;
            last = c.last;
            there = c.there;
            deep = omega arith;
            reads = one_level (reads-group n.read i r) rs;
            resolved = one_resolved (resolved_group w v) vs;
            owner = c.owner;
            place = c.place;
            count = omega arith;
            limit = λ x. c.limit h;
            held = l;
            passes = c.passes;
            fewer = omega (arith, c.fewer);
          }

  close-before : (at place : ℕ) (rest : Records) (o : Open) (groups : Groups) → (n : Next bytes at Closes rest place) → depth_of o.groups
      ≡ 1 + depth_of groups → Closing bytes final names n.next rest (grown o o.items o.depth o.held groups) →
      Closing bytes final names at (whole place Closes rest) o
  unfolding grown count_all count_of held_all held_from size_of
  close-before at place rest o groups n g c =
      record {
        levels = closed ∷ c.levels;
        after = c.after;
        rest = c.rest;
        last = c.last;
        there = c.there;
        deep = omega (arith, c.deep);
        reads = one_level (reads-close n.read) c.reads;
        resolved = one_resolved resolved_close c.resolved;
        owner = c.owner;
        place = c.place;
        count = omega (arith, c.count);
        limit = λ x. c.limit x;
        held = c.held;
        passes = c.passes;
        fewer = omega (arith, c.fewer);
      }

  owner_before : (at place : ℕ) (rest : Records) (o : Open) → (n : Next bytes at Closes rest place) → o.groups ≡ NoGroup → Passing final rest TopLevel (named names (note_of o o.owner)) → Closing bytes final names at (whole place Closes rest) o
  unfolding count_all count_of held_all held_from size_of depth_of
  owner_before at place rest o n g p =
      record {
        levels = closed ∷ [];
        after = n.next;
        rest = rest;
        last = o;
        there = n.there;
        deep = rw g;
        reads = one_level (reads-close n.read) no_level;
        resolved = one_resolved resolved_close none_resolved;
        owner = refl;
        place = refl;
        count = omega arith;
        limit = λ x. x;
        held = refl;
        passes = p;
        fewer = omega arith;
      }

  pub closes-inside : (rs : Records) (at : ℕ) (o : Open) → records_from bytes at ≡ rs → Passing final rs (Inside o) names → Closing bytes final names at rs o
  closes-inside (ends size) at o e p = end-stops final names size o p
  closes-inside (bad place) at o e p = bad-stops final names place (Inside o) p
  closes-inside (whole place (KnownTag tag) rest) at o e p = known-stops final place rest names o tag p
  closes-inside (whole place (OpensComponent number) rest) at o e p = component-stops final place rest names o number p
  closes-inside (whole place (OpensMessage msg_type) rest) at o e p = message-stops final place rest names o msg_type p
  closes-inside (whole place (FieldItem tag required) rest) at o e p =
      let n = next_of bytes at place (FieldItem tag required) rest e in
      let g = field-goes final place rest names o tag required p in
      field-before at place tag required rest o o.depth n g.0 (closes-inside rest n.next _ n.there g.1)
  closes-inside (whole place (ComponentItem required number) rest) at o e p =
      let n = next_of bytes at place (ComponentItem required number) rest e in
      let g = item-goes final place rest names o number required p in
      component-before at place number required rest o _ g.0 n g.1 g.2 (closes-inside rest n.next _ n.there g.3)
  closes-inside (whole place (OpensGroup tag required) rest) at o e p =
      let n = next_of bytes at place (OpensGroup tag required) rest e in
      let g = group-goes final place rest names o tag required p in
      group-before at place tag required rest o _ _ n g.0 g.1 (closes-inside rest n.next _ n.there g.2)
  closes-inside (whole place Closes rest) at o e p =
      let n = next_of bytes at place Closes rest e in
      ⊎_elim
      (λ w. owner_before at place rest o n w.0 w.1)
      (λ w. close-before at place rest o w.0 n w.1 (closes-inside rest n.next (grown o o.items o.depth o.held w.0) n.there w.2))
      (close-goes final place rest names o p)
