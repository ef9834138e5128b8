-- The required check of RULES.md, Groups: "After a body group ends: for each entry its required fields in layout order, then its nested runs; the
-- first lack gives 4." A run is its records, in the order in which they stand in the message, and their depths tell what is nested in what, as
-- the code goes. `Tree` says the same over a run as a tree, and `TreeLaws` that the two agree. What a level is, is a parameter.
use Rattle.std.specs.Prelude.{ℕ, zero, suc, ◌+◌, List, [], ◌∷◌, Bool, true, false, eqb, leb}
use Rattle.field_rules.specs.Choice.{pick}
use Rattle.build_records.specs.declared.Record.{Record}
use Rattle.build_group_rules.specs.Groups.{Opened, none, opened}
use Rattle.build_required_rules.specs.declared.Lack.{Lack}
use Rattle.build_required_rules.specs.declared.Lack.TheVariants.{Missing, Complete}

-- what is looked up of a level: its delimiter, its required tags in layout order, and its groups
pub record Demands (L : Type 0) : Type 0 where
  pub opens : L → ℕ → Bool
  pub required : L → List ℕ
  pub group : L → ℕ → Opened L

-- "the first lack"
unfoldable pub or_else : Lack → Lack → Lack
or_else (Missing tag group) later = Missing tag group
or_else Complete later = later

-- a field of a depth and a tag stands among records
unfoldable pub has : ℕ → ℕ → List Record → Bool
has depth tag [] = false
has depth tag (r ∷ rs) = pick (eqb r.depth depth) (pick (eqb r.tag tag) true (has depth tag rs)) (has depth tag rs)

-- "its required fields in layout order"
unfoldable pub fields_lack : List ℕ → ℕ → ℕ → List Record → Lack
fields_lack [] group depth entry = Complete
fields_lack (tag ∷ tags) group depth entry = pick (has depth tag entry) (fields_lack tags group depth entry) (Missing tag group)

-- the records before the first of a kind
unfoldable pub before : (Record → Bool) → List Record → List Record
before test [] = []
before test (r ∷ rs) = pick (test r) [] (r ∷ before test rs)

-- a record of the depth of a run's entries, or above: it does not belong to a run that is nested in them
unfoldable pub shallow : ℕ → Record → Bool
shallow depth r = leb r.depth depth

module _ {L : Type 0} (nested : L → ℕ → List Record → Lack) where
  unfoldable pub run_lacks : Opened L → ℕ → List Record → Lack
  run_lacks none tag rs = Complete
  run_lacks (opened level) tag rs = nested level tag rs

  -- "then its nested runs": a run hangs on its count, and its records follow it
  unfoldable pub nested_lack : (ℕ → Opened L) → ℕ → List Record → Lack
  nested_lack groups depth [] = Complete
  nested_lack groups depth (r ∷ rs) =
      pick (eqb r.depth depth) (or_else (run_lacks (groups r.tag) r.tag (before (shallow depth) rs)) (nested_lack groups depth rs)) (nested_lack groups depth rs)

-- "for each entry": each record that opens one, with those up to the next
unfoldable pub entries_lack : (List Record → Lack) → (Record → Bool) → List Record → Lack
entries_lack check test [] = Complete
entries_lack check test (r ∷ rs) = pick (test r) (or_else (check (r ∷ before test rs)) (entries_lack check test rs)) (entries_lack check test rs)

module _ {L : Type 0} (demands : Demands L) where
  -- a record of the run's depth whose tag is the delimiter opens an entry
  unfoldable pub opens_entry : L → ℕ → Record → Bool
  opens_entry level depth r = pick (eqb r.depth depth) (demands.opens level r.tag) false

  unfoldable pub entry_lack : (L → ℕ → List Record → Lack) → L → ℕ → ℕ → List Record → Lack
  entry_lack nested level group depth entry =
      or_else (fields_lack (demands.required level) group depth entry) (nested_lack nested (demands.group level) depth entry)

  -- so many levels may be open
  unfoldable pub run_lack : ℕ → L → ℕ → ℕ → List Record → Lack
  run_lack zero level group depth rs = Complete
  run_lack (suc levels) level group depth rs =
      entries_lack (entry_lack (λ inner tag entries. run_lack levels inner tag (depth + 1) entries) level group depth) (opens_entry level depth) rs
