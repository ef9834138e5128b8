-- A run in an entry of which a tag was stored twice: of an earlier field with the tag no record is left.
-- Each record of the run was made of a field that was read, and what is read later stands behind it.
use Rattle.std.proofs.Math.Path.{◌≡◌, refl}
use Rattle.std.proofs.Common.{sym, ap, ◌∙◌, arith}
use Rattle.std.specs.Prelude.{Bool, false, length, drop}
use Rattle.std.proofs.Math.Bool.{true}
use mathlib.Core.List.{List, [], ◌∷◌, ◌++◌, append_assoc}
use Prim.Native.Nat.{ℕ, zero, suc, ◌≤◌, ◌<◌}
use Rattle.field_rules.specs.Choice.{pick}
use Rattle.field_rules.specs.Fields.{Fields, unreadable, field}
use Rattle.field_rules.specs.declared.Field.{Field}
use Rattle.build_records.specs.declared.Record.{Record}
use Rattle.build_group_rules.specs.Groups.{Rules, Frame, Move, adds, joins_at, disorders, leaves, decide, moved, walk}
use Rattle.build_group_rules.specs.Groups.{ended as ran, entry_record}
use Rattle.build_group_rules.specs.Reading.{list_store, joined_list}
use Rattle.build_required_rules.specs.Required.{has}
use Rattle.build_nesting_laws.specs.Entries.{All, all_none, all_more, all_append, all_map}
use Rattle.build_order_laws.specs.BodyStores.{walk_stores}
use Rattle.build_order_laws.specs.Twice.{twice_moved, twice_in_run}
use Rattle.promise_roundtrip.specs.RunSteps.{run_ends}
use Rattle.promise_roundtrip.specs.LaterHeld.{Rising, rising_field, Repeats}
use Rattle.promise_roundtrip.proofs.LaterHeldLaws.{rising_first}
use Rattle.promise_roundtrip.specs.StoredOver.{Before, Elsewhere, Distinct, distinct_none, all-member, Sequence, next_field, reached, all-joined, distinct_last, distinct_joined, Over, over-joined}

-- a record that was made of one of some fields
record Seen (fs : List Field) (r : Record) : Type 0 where
  before : List Field
  that : Field
  after : List Field
  is : fs ≡ before ++ (that ∷ after)
  tagged : r.tag ≡ that.tag
  placed : r.place ≡ that.place

seen_more : (fs : List Field) (g : Field) (r : Record) → Seen fs r → Seen (fs ++ (g ∷ [])) r
seen_more fs g r s = record { before = s.before; that = s.that; after = s.after ++ (g ∷ []); is = ap (λ (l : List Field). l ++ (g ∷ [])) s.is ∙ append_assoc s.before (s.that ∷ s.after) (g ∷ []); tagged = s.tagged; placed = s.placed }

seen-new : (fs : List Field) (depth number : ℕ) (g : Field) → Seen (fs ++ (g ∷ [])) (entry_record depth number g)
unfolding entry_record
seen-new fs depth number g = record { before = fs; that = g; after = []; is = refl; tagged = refl; placed = refl }

pub entry_place : (depth number : ℕ) (g : Field) → (entry_record depth number g).place ≡ g.place
unfolding entry_record
entry_place depth number g = refl

-- a run while it is read: its values start before a place, each somewhere else, and were read
pub record Kept (at : ℕ) (fs : List Field) (rs : List Record) : Type 0 where
  before : All (Before at) rs
  distinct : Distinct rs
  seen : All (Seen fs) rs

pub kept-none : (at : ℕ) → Kept at [] []
kept-none at = record { before = all_none; distinct = distinct_none; seen = all_none }

module _ {at : ℕ} {fs : List Field} {rs : List Record} (g : Field) (new : at ≤ g.place) (depth number : ℕ) (k : Kept at fs rs) where
  new-place : at ≤ (entry_record depth number g).place
  new-place = omega (arith, new, entry_place depth number g)

  new-before : Before (suc g.place) (entry_record depth number g)
  new-before = record { starts = omega (arith, entry_place depth number g) }

  all-before : All (Before (suc g.place)) rs
  all-before = all_map (λ x b. record { starts = omega (arith, b.starts, new) }) k.before

  kept_added : Kept (suc g.place) (fs ++ (g ∷ [])) (rs ++ (entry_record depth number g ∷ []))
  kept_added =
      record {
        before = all_append _ all-before (all_more new-before all_none);
        distinct = distinct_last at (entry_record depth number g) new-place k.before k.distinct;
        seen = all_append _ (all_map (seen_more fs g) k.seen) (all_more (seen-new fs depth number g) all_none);
      }

  kept-joined : (start : ℕ) → Kept (suc g.place) (fs ++ (g ∷ [])) (joined_list start (entry_record depth number g) rs)
  kept-joined start =
      record {
        before = all-joined start (entry_record depth number g) rs new-before all-before;
        distinct = distinct_joined at (entry_record depth number g) new-place start rs k.before k.distinct;
        seen = all-joined start (entry_record depth number g) rs (seen-new fs depth number g) (all_map (seen_more fs g) k.seen);
      }

-- what is read later stands behind, and leaves no record at a place before
new_elsewhere : {at q : ℕ} (depth number : ℕ) (g : Field) → at ≤ g.place → q < at → Elsewhere q (entry_record depth number g)
new_elsewhere {at} {q} depth number g p h = record { apart = λ e. omega (arith, p, h, entry_place depth number g, e) }

-- where reading stands behind a place, with no record there
record Past (q : ℕ) (fields : Fields) (rs : List Record) : Type 0 where
  at : ℕ
  rises : Rising at fields
  past : q < at
  gone : All (Elsewhere q) rs

-- a run that was read on leaves none there either
pub walk_gone : {L : Type 0} (rules : Rules L) (room : ℕ) (stack : List (Frame L)) (rs : List Record) (fields : Fields) (f : Field) (rest : Fields) (room₁ : ℕ) (rs₁ : List Record) (at q : ℕ)
    → walk rules list_store room stack rs fields ≡ ran f rest room₁ rs₁ → Rising at fields → q < at → All (Elsewhere q) rs → All (Elsewhere q) rs₁
walk_gone rules room stack rs fields f rest room₁ rs₁ at q e rises past gone =
    (run_ends rules (Past q)
    (λ g more ss depth number p. let r = rising_first p.rises in record { at = suc g.place; rises = r.1; past = omega (arith, p.past, r.0); gone = all_append _ p.gone (all_more (new_elsewhere depth number g r.0 p.past) all_none) })
    (λ g more ss start depth number p. let r = rising_first p.rises in record { at = suc g.place; rises = r.1; past = omega (arith, p.past, r.0); gone = all-joined start (entry_record depth number g) ss (new_elsewhere depth number g r.0 p.past) p.gone })
    room stack rs fields f rest room₁ rs₁ e (record { at = at; rises = rises; past = past; gone = gone })).gone

-- the fields that it took, and no record at a place before them
record Goes (fields last : Fields) (q : ℕ) (es : List Record) : Type 0 where
  taken : List Field
  sequence : Sequence fields taken last
  gone : All (Elsewhere q) es

walk-goes : {L : Type 0} (rules : Rules L) (room : ℕ) (stack : List (Frame L)) (rs : List Record) (fields : Fields) (f : Field) (rest : Fields) (room₁ : ℕ) (rs₁ : List Record) (at q : ℕ)
    → walk rules list_store room stack rs fields ≡ ran f rest room₁ rs₁ → Rising at fields → q < at → All (Elsewhere q) rs → Goes fields (field f rest) q rs₁
walk-goes rules room stack rs fields f rest room₁ rs₁ at q e rises past gone =
    let (fs, s) = reached (walk_stores rules room stack rs fields f rest room₁ rs₁ e).reaches in
    record { taken = fs; sequence = s; gone = walk_gone rules room stack rs fields f rest room₁ rs₁ at q e rises past gone }

-- behind some fields: two with one tag, and no record of the earlier
pub record RunLoses (seen : List Field) (fields last : Fields) (es : List Record) : Type 0 where
  pub taken : List Field
  pub sequence : Sequence fields taken last
  pub earlier : Field
  pub later : Field
  pub repeats : Repeats (seen ++ taken) earlier later
  pub gone : All (Elsewhere earlier.place) es

module _ (seen : List Field) (g : Field) (more last : Fields) (es : List Record) where
  loses_later : RunLoses (seen ++ (g ∷ [])) more last es → RunLoses seen (field g more) last es
  loses_later l = record { taken = g ∷ l.taken; sequence = next_field l.sequence; earlier = l.earlier; later = l.later; repeats = rw (append_assoc seen (g ∷ []) l.taken) at l.repeats; gone = l.gone }

  loses_now : (x : Record) → x.tag ≡ g.tag → Seen seen x → Goes more last x.place es → RunLoses seen (field g more) last es
  loses_now x tagged s k =
      record {
        taken = g ∷ k.taken;
        sequence = next_field k.sequence;
        earlier = s.that;
        later = g;
        repeats = record { before = s.before; between = s.after; after = k.taken; is = ap (λ (l : List Field). l ++ (g ∷ k.taken)) s.is ∙ append_assoc s.before (s.that ∷ s.after) (g ∷ k.taken); same_tag = sym s.tagged ∙ tagged };
        gone = rw (← s.placed) k.gone;
      }

entry-over : (at start depth number : ℕ) (g : Field) (rs : List Record) (new : at ≤ (entry_record depth number g).place) → All (Before at) rs → Distinct rs → has depth g.tag (drop start rs) ≡ true → Over at (entry_record depth number g) new rs (joined_list start (entry_record depth number g) rs)
unfolding entry_record
entry-over at start depth number g rs new a d h = over-joined at (entry_record depth number g) new start rs a d h

entry-tag : (depth number : ℕ) (g : Field) → (entry_record depth number g).tag ≡ g.tag
unfolding entry_record
entry-tag depth number g = refl

pub walk_loses : {L : Type 0} (rules : Rules L) (room : ℕ) (stack : List (Frame L)) (rs : List Record) (fields : Fields) (f : Field) (rest : Fields) (room₁ : ℕ) (rs₁ : List Record) (at : ℕ) (seen : List Field)
    → walk rules list_store room stack rs fields ≡ ran f rest room₁ rs₁ → Rising at fields → Kept at seen rs → twice_in_run rules stack rs fields ≡ true → RunLoses seen fields (field f rest) rs₁
unfolding walk twice_in_run twice_moved
walk_loses rules room stack rs (unreadable cause place) f rest room₁ rs₁ at seen e r k t = let z : ◌≡◌ {A = ℕ} 0 1 = cc in absurd (omega arith)
walk_loses rules zero stack rs (field g more) f rest room₁ rs₁ at seen e r k t = let z : ◌≡◌ {A = ℕ} 0 1 = cc in absurd (omega arith)
walk_loses {L} rules (suc room) stack rs (field g more) f rest room₁ rs₁ at seen e (rising_field p r) k t =
    by_move (decide rules (length rs) stack g.tag) (unfold list_store in e) t (λ stack₂ rs₂ e₂ k₂ t₂. walk_loses rules room stack₂ rs₂ more f rest room₁ rs₁ (suc g.place) (seen ++ (g ∷ [])) e₂ r k₂ t₂)
    (λ stack₂ rs₂ q e₂ h a. walk-goes rules room stack₂ rs₂ more f rest room₁ rs₁ (suc g.place) q e₂ r h a)
  where
    by_move : (m : Move L) → moved list_store room rs g more (λ stack₂ rs₂. walk rules list_store room stack₂ rs₂ more) m ≡ ran f rest room₁ rs₁ → twice_moved g rs (λ stack₂ rs₂. twice_in_run rules stack₂ rs₂ more) m ≡ true
        → ((stack₂ : List (Frame L)) (rs₂ : List Record) → walk rules list_store room stack₂ rs₂ more ≡ ran f rest room₁ rs₁ → Kept (suc g.place) (seen ++ (g ∷ [])) rs₂ → twice_in_run rules stack₂ rs₂ more ≡ true → RunLoses (seen ++ (g ∷ [])) more (field f rest) rs₁)
        → ((stack₂ : List (Frame L)) (rs₂ : List Record) (q : ℕ) → walk rules list_store room stack₂ rs₂ more ≡ ran f rest room₁ rs₁ → q < suc g.place → All (Elsewhere q) rs₂ → Goes more (field f rest) q rs₁)
        → RunLoses seen (field g more) (field f rest) rs₁
    by_move (adds stack₂ numbers) e t later goes =
        loses_later seen g more (field f rest) rs₁ (later stack₂ (rs ++ (entry_record numbers.depth numbers.number g ∷ [])) (unfold moved list_store in e) (kept_added g p numbers.depth numbers.number k) t)
    by_move (joins_at stack₂ start numbers) e t later goes = by_test (has numbers.depth g.tag (drop start rs)) refl t
      where
        r₂ : Record
        r₂ = entry_record numbers.depth numbers.number g

        over : has numbers.depth g.tag (drop start rs) ≡ true → RunLoses seen (field g more) (field f rest) rs₁
        over h =
            let o = entry-over at start numbers.depth numbers.number g rs (new-place g p numbers.depth numbers.number k) k.before k.distinct h in
            let old = o.old in
            let b = all-member k.before o.member in
            loses_now seen g more (field f rest) rs₁ old (o.tagged ∙ entry-tag numbers.depth numbers.number g) (all-member k.seen o.member) (goes stack₂ (joined_list start r₂ rs) old.place (unfold moved list_store in e) (omega (arith, b.starts, p)) o.gone)

        by_test : (d : Bool) → has numbers.depth g.tag (drop start rs) ≡ d → pick d true (twice_in_run rules stack₂ (joined_list start r₂ rs) more) ≡ true
            → RunLoses seen (field g more) (field f rest) rs₁
        by_test true d t = over d
        by_test false d t =
            loses_later seen g more (field f rest) rs₁ (later stack₂ (joined_list start r₂ rs) (unfold moved list_store in e) (kept-joined g p numbers.depth numbers.number k start) t)
    by_move (disorders group) e t later goes = let z : ◌≡◌ {A = ℕ} 0 1 = cc in absurd (omega arith)
    by_move leaves e t later goes = let z : ◌≡◌ {A = ℕ} 0 1 = cc in absurd (omega arith)
