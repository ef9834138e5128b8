-- The check over flat records is the check over the tree of which they are the records, and they are those of one tree alone. What hangs on a
-- field stands deeper than the field, so a look for fields of a depth passes over it; and what is cut out behind a field, or behind a
-- delimiter, is what hangs there, or its entry.
use Rattle.std.proofs.Math.Path.{◌≡◌, refl, ap}
use Rattle.std.proofs.Common.{sym, ◌∙◌, arith, eq-eqb, ne_eqb}
use Rattle.std.specs.Prelude.{Bool, ℕ, suc, ◌+◌, ◌≤◌, ◌<◌, eqb}
use Rattle.std.proofs.Math.Bool.{true, false}
use mathlib.Core.List.{List, [], ◌∷◌, ◌++◌}
use Rattle.field_rules.specs.Choice.{pick}
use Rattle.build_records.specs.declared.Record.{Record}
use Rattle.build_group_rules.specs.Groups.{Opened, none, opened}
use Rattle.build_required_rules.specs.Required.{Demands, or_else, has, fields_lack, before, shallow, run_lacks as lacks_by_records, nested_lack, entries_lack}
use Rattle.build_required_rules.specs.Required.{opens_entry, entry_lack, run_lack}
use Rattle.build_required_rules.specs.RequiredLaws.{run-empty, shallow-here, shallow_not}
use Rattle.build_required_rules.specs.Tree.{Run, no_entry, entry, Entry, field, holds, own_lacks, by_level, run_lacks, nested_lacks, first_lack}
use Rattle.build_required_rules.specs.Tree.{tree_lack, laid, laid_fields, RunKeeps, keeps_none, keeps_entry, FieldsKeep, keep-none, keep-field, Hangs}
use Rattle.build_required_rules.specs.Tree.{hangs-none, hangs-run}
use Rattle.build_required_rules.specs.declared.Lack.{Lack}
use Rattle.build_required_rules.specs.declared.Lack.TheVariants.{Missing}

-- each record of a list has a property
pub data Each (P : Record → Type 0) : List Record → Type 0 where
  each_none : Each P []
  each_more : {r : Record} {rs : List Record} → P r → Each P rs → Each P (r ∷ rs)

each_append : {P : Record → Type 0} {rs ss : List Record} → Each P rs → Each P ss → Each P (rs ++ ss)
each_append each_none b = b
each_append (each_more p a) b = each_more p (each_append a b)

each_map : {P Q : Record → Type 0} → ((r : Record) → P r → Q r) → {rs : List Record} → Each P rs → Each Q rs
each_map f each_none = each_none
each_map f (each_more {r} p a) = each_more (f r p) (each_map f a)

-- a record stands deeper
pub record Below (depth : ℕ) (r : Record) : Type 0 where
  pub below : depth < r.depth

-- a record is not of a kind
record Not (test : Record → Bool) (r : Record) : Type 0 where
  is_not : test r ≡ false

-- a list begins with a record of a kind, or is over
data Begins (test : Record → Bool) : List Record → Type 0 where
  begins-none : Begins test []
  begins-more : {r : Record} {rs : List Record} → test r ≡ true → Begins test (r ∷ rs)

-- what is cut out up to the first of a kind
module _ (test : Record → Bool) where
  before-begins : {rs : List Record} → Begins test rs → before test rs ≡ []
  unfolding before
  before-begins begins-none = refl
  before-begins (begins-more e) = rw e

  before-others : {rs more : List Record} → Each (Not test) rs → Begins test more → before test (rs ++ more) ≡ rs
  unfolding before
  before-others each_none b = before-begins b
  before-others (each_more {r} p a) b = rw p.is_not (ap (λ (l : List Record). r ∷ l) (before-others a b))

  entries-others : (check : List Record → Lack) {rs : List Record} (more : List Record) → Each (Not test) rs →
      entries_lack check test (rs ++ more) ≡ entries_lack check test more
  unfolding entries_lack
  entries-others check more each_none = refl
  entries-others check more (each_more p a) = rw p.is_not (entries-others check more a)

-- deeper records are passed over
module _ (depth : ℕ) where
  has-below : (tag : ℕ) {rs : List Record} (more : List Record) → Each (Below depth) rs → has depth tag (rs ++ more) ≡ has depth tag more
  unfolding has
  has-below tag more each_none = refl
  has-below tag more (each_more {r} p a) = rw (ne_eqb r.depth depth (λ same. omega (arith, p.below))) (has-below tag more a)

  nested-below : {L : Type 0} (nested : L → ℕ → List Record → Lack) (groups : ℕ → Opened L) {rs : List Record} (more : List Record) → Each (Below depth) rs →
      nested_lack nested groups depth (rs ++ more) ≡ nested_lack nested groups depth more
  unfolding nested_lack
  nested-below nested groups more each_none = refl
  nested-below nested groups more (each_more {r} p a) = rw (ne_eqb r.depth depth (λ same. omega (arith, p.below))) (nested-below nested groups more a)

  below-deep : (r : Record) → Below depth r → Not (shallow depth) r
  below-deep r b = record { is_not = shallow_not depth r b.below }

own_below_lem : (above depth : ℕ) (r : Record) → r.depth ≡ depth → above < depth → Below above r
own_below_lem above depth r d h = record { below = omega arith }

-- the first of two lists' lacks
first_else : (lacks later : List (ℕ × ℕ)) → first_lack (lacks ++ later) ≡ or_else (first_lack lacks) (first_lack later)
unfolding first_lack or_else
first_else [] later = refl
first_else ((tag, group) ∷ lacks) later = refl

module _ {L : Type 0} (demands : Demands L) where
  mutual
    unfolding laid

    -- nothing of a run stands above its depth
    run-below : {levels depth : ℕ} {level : L} {run : Run} → RunKeeps demands levels level depth run → (above : ℕ) → above < depth →
        Each (Below above) (laid run)
    run-below keeps_none above h = each_none
    run-below (keeps_entry {depth = depth} {r = r} d o hang fields later) above h =
        each_more (own_below_lem above depth r d h)
        (each_append (each_append (hanging-below hang above (omega arith)) (fields-below fields above h)) (run-below later above h))

    fields-below : {levels depth : ℕ} {level : L} {fields : Entry} → FieldsKeep demands levels level depth fields → (above : ℕ) → above < depth →
        Each (Below above) (laid_fields fields)
    fields-below keep-none above h = each_none
    fields-below (keep-field {depth = depth} {r = r} d o hang later) above h =
        each_more (own_below_lem above depth r d h) (each_append (hanging-below hang above (omega arith)) (fields-below later above h))

    -- what hangs on a field stands deeper
    hanging-below : {levels depth tag : ℕ} {level : L} {run : Run} → Hangs demands levels level depth tag run → (above : ℕ) → above ≤ depth →
        Each (Below above) (laid run)
    hanging-below hangs-none above h = each_none
    hanging-below (hangs-run g keeps) above h = run-below keeps above (omega arith)

  pub hangs-deeper : {levels depth tag : ℕ} {level : L} {run : Run} → Hangs demands levels level depth tag run → Each (Below depth) (laid run)
  hangs-deeper {depth = depth} hang = hanging-below hang depth (omega arith)

  module _ {levels depth : ℕ} {level : L} (r : Record) {hanging : Run} (d : r.depth ≡ depth) (hang : Hangs demands levels level depth r.tag hanging)
      (rest : List Record) where
    -- a field of its own, and what hangs on it: its tag is there, and what hangs there adds none
    has-field : (tag : ℕ) → has depth tag (r ∷ (laid hanging ++ rest)) ≡ pick (eqb r.tag tag) true (has depth tag rest)
    unfolding has
    has-field tag = rw (eq-eqb _ _ d, has-below depth tag rest (hangs-deeper hang))

    -- the run of a field is judged, and then those behind it
    nested-field : (nested : L → ℕ → List Record → Lack) (groups : ℕ → Opened L) → Begins (shallow depth) rest →
        nested_lack nested groups depth (r ∷ (laid hanging ++ rest))
        ≡ or_else (lacks_by_records nested (groups r.tag) r.tag (laid hanging)) (nested_lack nested groups depth rest)
    unfolding nested_lack
    nested-field nested groups b =
        let deeper = hangs-deeper hang in
        rw (eq-eqb _ _ d, before-others (shallow depth) (each_map (below-deep depth) deeper) b, nested-below depth nested groups rest deeper)

  -- the own fields of an entry by their depth
  fields-held : {levels depth : ℕ} {level : L} {fields : Entry} → FieldsKeep demands levels level depth fields → (tag : ℕ) →
      has depth tag (laid_fields fields) ≡ holds tag fields
  unfolding laid has holds
  fields-held keep-none tag = refl
  fields-held (keep-field {r = r} {later = later} d o hang fields) tag =
      has-field r d hang (laid_fields later) tag ∙ ap (pick (eqb r.tag tag) true) (fields-held fields tag)

  fields-begin : {levels depth : ℕ} {level : L} {fields : Entry} → FieldsKeep demands levels level depth fields → Begins (shallow depth) (laid_fields fields)
  unfolding laid
  fields-begin keep-none = begins-none
  fields-begin (keep-field {depth = depth} {r = r} d o hang fields) = begins-more (shallow-here depth r (omega (arith, d)))

  -- whether an entry starts at a field of the run's depth
  opens-own : (level : L) (depth : ℕ) (r : Record) (b : Bool) → r.depth ≡ depth → demands.opens level r.tag ≡ b → opens_entry demands level depth r ≡ b
  unfolding opens_entry
  opens-own level depth r b d o = rw (eq-eqb _ _ d) o

  -- records in which no entry starts
  below-opens : (level : L) (depth : ℕ) (r : Record) → Below depth r → Not (opens_entry demands level depth) r
  below-opens level depth r b = record { is_not = unfold opens_entry in rw (ne_eqb r.depth depth (λ same. omega (arith, b.below))) }

  fields_open : {levels depth : ℕ} {level : L} {fields : Entry} → FieldsKeep demands levels level depth fields →
      Each (Not (opens_entry demands level depth)) (laid_fields fields)
  unfolding laid
  fields_open keep-none = each_none
  fields_open (keep-field {depth = depth} {level = level} {r = r} d o hang fields) =
      each_more (record { is_not = opens-own level depth r false d o })
      (each_append (each_map (below-opens level depth) (hangs-deeper hang)) (fields_open fields))

  run-begins : {levels depth : ℕ} {level : L} {run : Run} → RunKeeps demands levels level depth run → Begins (opens_entry demands level depth) (laid run)
  unfolding laid
  run-begins keeps_none = begins-none
  run-begins (keeps_entry {depth = depth} {level = level} {r = r} d o hang fields later) = begins-more (opens-own level depth r true d o)

-- an entry whose tags are those of a tree's lacks what that lacks
own_lack : (group depth : ℕ) (rs : List Record) (fields : Entry) → ((tag : ℕ) → has depth tag rs ≡ holds tag fields) → (tags : List ℕ) →
    fields_lack tags group depth rs ≡ first_lack (own_lacks tags group fields)
unfolding fields_lack own_lacks first_lack
own_lack group depth rs fields same [] = refl
own_lack group depth rs fields same (tag ∷ tags) = rw (same tag) (by_test (holds tag fields) (own_lack group depth rs fields same tags))
  where
    by_test : (b : Bool) → fields_lack tags group depth rs ≡ first_lack (own_lacks tags group fields) →
        pick b (fields_lack tags group depth rs) (Missing tag group)
        ≡ first_lack (pick b (own_lacks tags group fields) ((tag, group) ∷ own_lacks tags group fields))
    by_test true later = later
    by_test false later = refl

module _ {L : Type 0} (demands : Demands L) where
  -- how runs one depth deeper are judged by their records
  abbrev deeper_lack : ℕ → ℕ → L → ℕ → List Record → Lack
  deeper_lack levels depth inner tag rs = run_lack demands levels inner tag (depth + 1) rs

  -- what each of two parts lacks is what they lack together
  module _ {levels depth : ℕ} {level : L} (r : Record) {hanging : Run} {fields : Entry} (d : r.depth ≡ depth)
      (hang : Hangs demands levels level depth r.tag hanging) (fs : FieldsKeep demands levels level depth fields)
      (h : lacks_by_records (deeper_lack levels depth) (demands.group level r.tag) r.tag (laid hanging)
      ≡ first_lack (by_level (demands.group level r.tag) (λ inner. run_lacks demands hanging inner r.tag)))
      (n : nested_lack (deeper_lack levels depth) (demands.group level) depth (laid_fields fields) ≡ first_lack (nested_lacks demands fields level)) where
    abbrev own : Entry
    own = field r hanging fields

    -- a field's run, and then those of the fields behind it
    nested-judged : nested_lack (deeper_lack levels depth) (demands.group level) depth (laid_fields own) ≡ first_lack (nested_lacks demands own level)
    unfolding laid run_lacks
    nested-judged =
        nested-field demands r d hang (laid_fields fields) (deeper_lack levels depth) (demands.group level) (fields-begin demands fs)
        ∙ rw (h, n) (sym (first_else _ (nested_lacks demands fields level)))

    own_held : (tag : ℕ) → has depth tag (laid_fields own) ≡ holds tag own
    unfolding laid holds
    own_held tag = has-field demands r d hang (laid_fields fields) tag ∙ ap (pick (eqb r.tag tag) true) (fields-held demands fs tag)

    -- an entry's own fields, and then its nested runs
    entry-judged : (group : ℕ) →
        entry_lack demands (deeper_lack levels depth) level group depth (laid_fields own)
        ≡ first_lack (own_lacks (demands.required level) group own ++ nested_lacks demands own level)
    unfolding entry_lack
    entry-judged group =
        rw (own_lack group depth (laid_fields own) own own_held (demands.required level), nested-judged)
        (sym (first_else (own_lacks (demands.required level) group own) (nested_lacks demands own level)))

    module _ {later : Run} (o : demands.opens level r.tag ≡ true) (ls : RunKeeps demands (suc levels) level depth later) (group : ℕ) where
      -- the delimiter cuts out its entry, and the entries behind it are left
      entry_cut : run_lack demands (suc levels) level group depth (laid (entry own later))
          ≡ or_else (entry_lack demands (deeper_lack levels depth) level group depth (laid_fields own))
          (run_lack demands (suc levels) level group depth (laid later))
      unfolding laid run_lack entries_lack
      entry_cut =
          let test = opens_entry demands level depth in
          let others = each_append (each_map (below-opens demands level depth) (hangs-deeper demands hang)) (fields_open demands fs) in
          let check = entry_lack demands (deeper_lack levels depth) level group depth in
          rw (opens-own demands level depth r true d o, before-others test others (run-begins demands ls), entries-others test check (laid later) others)

      -- an entry, and then those behind it
      run-judged : run_lack demands (suc levels) level group depth (laid later) ≡ tree_lack demands level group later →
          run_lack demands (suc levels) level group depth (laid (entry own later)) ≡ tree_lack demands level group (entry own later)
      unfolding tree_lack run_lacks
      run-judged l =
          entry_cut
          ∙ rw (entry-judged group, l)
          (sym (first_else (own_lacks (demands.required level) group own ++ nested_lacks demands own level) (run_lacks demands later level group)))

  -- no run hangs there, whatever level the tag has
  no_run : (levels depth tag : ℕ) (o : Opened L) →
      lacks_by_records (deeper_lack levels depth) o tag [] ≡ first_lack (by_level o (λ inner. run_lacks demands no_entry inner tag))
  unfolding lacks_by_records by_level run_lacks first_lack
  no_run levels depth tag none = refl
  no_run levels depth tag (opened inner) = run-empty demands levels inner tag (depth + 1)

  mutual
    unfolding run_lacks laid tree_lack first_lack nested_lack lacks_by_records by_level

    -- the law: of every tree that keeps to its level the check of its records is the check of the tree
    pub tree_lack_lem : {levels depth : ℕ} {level : L} {tree : Run} → RunKeeps demands levels level depth tree → (group : ℕ) →
        run_lack demands levels level group depth (laid tree) ≡ tree_lack demands level group tree
    tree_lack_lem {levels} {depth} {level} keeps_none group = run-empty demands levels level group depth
    tree_lack_lem (keeps_entry {r = r} d o hang fs ls) group = run-judged r d hang fs (hanging_lack hang) (nested_lack_lem fs) o ls group (tree_lack_lem ls group)

    nested_lack_lem : {levels depth : ℕ} {level : L} {fields : Entry} → FieldsKeep demands levels level depth fields →
        nested_lack (deeper_lack levels depth) (demands.group level) depth (laid_fields fields) ≡ first_lack (nested_lacks demands fields level)
    nested_lack_lem keep-none = refl
    nested_lack_lem (keep-field {r = r} d o hang fs) = nested-judged r d hang fs (hanging_lack hang) (nested_lack_lem fs)

    hanging_lack : {levels depth tag : ℕ} {level : L} {run : Run} → Hangs demands levels level depth tag run →
        lacks_by_records (deeper_lack levels depth) (demands.group level tag) tag (laid run)
        ≡ first_lack (by_level (demands.group level tag) (λ inner. run_lacks demands run inner tag))
    hanging_lack {levels} {depth} {tag} {level} hangs-none = no_run levels depth tag (demands.group level tag)
    hanging_lack {tag = tag} (hangs-run g keeps) = rw g (tree_lack_lem keeps tag)

-- where two lists are cut before the first of a kind, and are the same, their pieces are the same
behind-same : (rs : List Record) {more others : List Record} → rs ++ more ≡ rs ++ others → more ≡ others
behind-same [] e = e
behind-same (r ∷ rs) e = behind-same rs cc

cut_same : (test : Record → Bool) {rs ss more others : List Record} → Each (Not test) rs → Begins test more → Each (Not test) ss → Begins test others →
    rs ++ more ≡ ss ++ others → (rs ≡ ss) × (more ≡ others)
cut_same test {rs} {ss} {more} {others} a b c d e =
    let front : rs ≡ ss = sym (before-others test a b) ∙ ap (before test) e ∙ before-others test c d in
    (front, behind-same rs (e ∙ ap (λ (l : List Record). l ++ others) (sym front)))

module _ {L : Type 0} (demands : Demands L) where
  -- a field with what hangs on it, and the fields behind it
  field-same : {levels depth : ℕ} {level : L} {tag other_tag : ℕ} {run other : Run} {fields others : Entry} → Hangs demands levels level depth tag run →
      FieldsKeep demands levels level depth fields → Hangs demands levels level depth other_tag other → FieldsKeep demands levels level depth others →
      laid run ++ laid_fields fields ≡ laid other ++ laid_fields others → (laid run ≡ laid other) × (laid_fields fields ≡ laid_fields others)
  field-same {depth = depth} hang fs hang₁ fs₁ e =
      let deep = below-deep depth in
      cut_same (shallow depth) (each_map deep (hangs-deeper demands hang)) (fields-begin demands fs)
      (each_map deep (hangs-deeper demands hang₁)) (fields-begin demands fs₁) e

  -- an entry behind its delimiter, and the entries behind it
  entry-same : {levels depth : ℕ} {level : L} {tag other_tag : ℕ} {run other later later₁ : Run} {fields others : Entry} →
      Hangs demands levels level depth tag run → FieldsKeep demands levels level depth fields → RunKeeps demands (suc levels) level depth later →
      Hangs demands levels level depth other_tag other → FieldsKeep demands levels level depth others → RunKeeps demands (suc levels) level depth later₁ →
      (laid run ++ laid_fields fields) ++ laid later ≡ (laid other ++ laid_fields others) ++ laid later₁ →
      (laid run ++ laid_fields fields ≡ laid other ++ laid_fields others) × (laid later ≡ laid later₁)
  entry-same {depth = depth} {level = level} hang fs ls hang₁ fs₁ ls₁ e =
      let not = below-opens demands level depth in
      cut_same (opens_entry demands level depth) (each_append (each_map not (hangs-deeper demands hang)) (fields_open demands fs)) (run-begins demands ls)
      (each_append (each_map not (hangs-deeper demands hang₁)) (fields_open demands fs₁)) (run-begins demands ls₁) e

  -- a run without records has no entry
  none-laid : {levels depth : ℕ} {level : L} {run : Run} → RunKeeps demands levels level depth run → [] ≡ laid run → no_entry ≡ run
  unfolding laid
  none-laid keeps_none e = refl
  none-laid (keeps_entry d o hang fs ls) e = let z : ◌≡◌ {A = ℕ} 0 1 = cc in absurd (omega arith)

  mutual
    unfolding laid

    -- records are those of one tree alone
    pub one_tree : {levels depth : ℕ} {level : L} {tree other : Run} → RunKeeps demands levels level depth tree → RunKeeps demands levels level depth other →
        laid tree ≡ laid other → tree ≡ other
    one_tree keeps_none others e = none-laid others e
    one_tree (keeps_entry {r = r} d o hang fs ls) keeps_none e = let z : ◌≡◌ {A = ℕ} 0 1 = cc in absurd (omega arith)
    one_tree (keeps_entry {r = r} d o hang fs ls) (keeps_entry {r = q} d₁ o₁ hang₁ fs₁ ls₁) e =
        let first : r ≡ q = cc in
        let apart = entry-same hang fs ls hang₁ fs₁ ls₁ cc in
        let inside = field-same hang fs hang₁ fs₁ apart.0 in
        let hung = one-hanging hang (ap (λ (x : Record). x.tag) first) hang₁ inside.0 in
        let behind = one_entry fs fs₁ inside.1 in
        let later = one_tree ls ls₁ apart.1 in
        cc

    one_entry : {levels depth : ℕ} {level : L} {fields others : Entry} → FieldsKeep demands levels level depth fields →
        FieldsKeep demands levels level depth others → laid_fields fields ≡ laid_fields others → fields ≡ others
    one_entry keep-none keep-none e = refl
    one_entry keep-none (keep-field d o hang fs) e = let z : ◌≡◌ {A = ℕ} 0 1 = cc in absurd (omega arith)
    one_entry (keep-field d o hang fs) keep-none e = let z : ◌≡◌ {A = ℕ} 0 1 = cc in absurd (omega arith)
    one_entry (keep-field {r = r} d o hang fs) (keep-field {r = q} d₁ o₁ hang₁ fs₁) e =
        let first : r ≡ q = cc in
        let inside = field-same hang fs hang₁ fs₁ cc in
        let hung = one-hanging hang (ap (λ (x : Record). x.tag) first) hang₁ inside.0 in
        let behind = one_entry fs fs₁ inside.1 in
        cc

    one-hanging : {levels depth tag other_tag : ℕ} {level : L} {run other : Run} → Hangs demands levels level depth tag run → tag ≡ other_tag →
        Hangs demands levels level depth other_tag other → laid run ≡ laid other → run ≡ other
    one-hanging hangs-none t hangs-none e = refl
    one-hanging hangs-none t (hangs-run g keeps) e = none-laid keeps e
    one-hanging (hangs-run g keeps) t hangs-none e = sym (none-laid keeps (sym e))
    one-hanging {level = level} (hangs-run {inner = inner} g keeps) t (hangs-run {inner = inner₁} g₁ keeps₁) e =
        let same : opened inner ≡ opened inner₁ = sym g ∙ ap (demands.group level) t ∙ g₁ in
        let level-same : inner ≡ inner₁ = cc in
        one_tree keeps (rw level-same keeps₁) e
