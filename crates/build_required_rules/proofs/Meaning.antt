-- What the check's contract means in the rules' terms: a level of a table asks for what the layout asks for that the table holds there.
use Rattle.std.specs.Prelude.{◌≡◌, Bool, ℕ, zero, suc, ◌+◌, ◌-◌}
use Rattle.std.proofs.Math.Path.{refl}
use Rattle.std.proofs.Common.{ap}
use mathlib.Core.List.{List, [], ◌∷◌}
use Rattle.dictionary_layout_rules.specs.Layout.{Layout, required_tags}
use Rattle.dictionary_tables_rules.proofs.Tabled.{Tabled, delimiter_means, group_means, required_means}
use Rattle.build_records.specs.declared.Record.{Record}
use Rattle.build_group_rules.specs.Groups.{Opened}
use Rattle.build_group_rules.proofs.Alike.{OpenedAlike, none_alike, opened_alike}
use Rattle.build_group_rules.proofs.Meaning.{opens_alike}
use Rattle.build_group_rules.specs.Reading.{opens_at}
use Rattle.build_group_rules.specs.declared.Group.{Group}
use Rattle.build_required_rules.specs.Required.{or_else, fields_lack, before, shallow, run_lacks, nested_lack, entries_lack, opens_entry, entry_lack, run_lack}
use Rattle.build_required_rules.specs.Checking.{table_demands, layout_demands, lack_of_run}
use Rattle.build_required_rules.specs.declared.Lack.{Lack}

before_same : (test other : Record → Bool) → ((r : Record) → test r ≡ other r) → (rs : List Record) → before test rs ≡ before other rs
unfolding before
before_same test other e [] = refl
before_same test other e (r ∷ rs) = rw (e r, before_same test other e rs)

-- checks that come to the same for each entry come to the same for the run
entries-same : (check another : List Record → Lack) (test other : Record → Bool) → ((entry : List Record) → check entry ≡ another entry) → ((r : Record) → test r ≡ other r) → (rs : List Record) → entries_lack check test rs ≡ entries_lack another other rs
unfolding entries_lack
entries-same check another test other c e [] = refl
entries-same check another test other c e (r ∷ rs) = rw (e r, before_same test other e rs, c (r ∷ before other rs), entries-same check another test other c e rs)

module _ {L M : Type 0} (Same : L → M → Type 0) (nested : L → ℕ → List Record → Lack) (others : M → ℕ → List Record → Lack)
    (alike : (l : L) (m : M) → Same l m → (tag : ℕ) (rs : List Record) → nested l tag rs ≡ others m tag rs) where
  run-same : {o : Opened L} {p : Opened M} → OpenedAlike Same o p → (tag : ℕ) (rs : List Record) → run_lacks nested o tag rs ≡ run_lacks others p tag rs
  unfolding run_lacks
  run-same none_alike tag rs = refl
  run-same (opened_alike {l} {m} s) tag rs = alike l m s tag rs

  nested_same : (groups : ℕ → Opened L) (groups₁ : ℕ → Opened M) → ((tag : ℕ) → OpenedAlike Same (groups tag) (groups₁ tag)) → (depth : ℕ) (rs : List Record) → nested_lack nested groups depth rs ≡ nested_lack others groups₁ depth rs
  unfolding nested_lack
  nested_same groups groups₁ g depth [] = refl
  nested_same groups groups₁ g depth (r ∷ rs) = rw (run-same (g r.tag) r.tag (before (shallow depth) rs), nested_same groups groups₁ g depth rs)

module _ (table : List ℕ) (level : ℕ) (layout : Layout) (t : Tabled table level layout) where
  same_start : (depth : ℕ) (r : Record) → opens_entry (table_demands table) level depth r ≡ opens_entry layout_demands layout depth r
  unfolding opens_entry table_demands layout_demands opens_at
  same_start depth r = rw (delimiter_means table level layout t)

  same-entry : (nested : ℕ → ℕ → List Record → Lack) (others : Layout → ℕ → List Record → Lack) → ((l : ℕ) (m : Layout) → Tabled table l m → (tag : ℕ) (rs : List Record) → nested l tag rs ≡ others m tag rs) →
      (group depth : ℕ) (entry : List Record) → entry_lack (table_demands table) nested level group depth entry ≡ entry_lack layout_demands others layout group depth entry
  unfolding entry_lack table_demands layout_demands
  same-entry nested others alike group depth entry =
      rw (required_means table level layout t) (ap (λ (l : Lack). or_else (fields_lack (required_tags layout) group depth entry) l) (nested_same (Tabled table) nested others alike _ _ (λ tag. opens_alike table (group_means table level layout t tag)) depth entry))

-- however many levels may be open
pub table_checks : (table : List ℕ) (levels level : ℕ) (layout : Layout) → Tabled table level layout → (group depth : ℕ) (rs : List Record) → run_lack (table_demands table) levels level group depth rs ≡ run_lack layout_demands levels layout group depth rs
unfolding run_lack
table_checks table zero level layout t group depth rs = refl
table_checks table (suc levels) level layout t group depth rs =
    entries-same _ _ _ _ (same-entry table level layout t _ _ (λ l m s tag entries. table_checks table levels l m s tag (depth + 1) entries) group depth) (same_start table level layout t depth) rs

-- the check of a run in words is the check of the layout that the table holds
pub run_means : (table : List ℕ) (group : Group) (layout : Layout) → Tabled table group.level layout → (rs : List Record) → lack_of_run table group rs ≡ run_lack layout_demands (5 - group.depth) layout group.tag group.depth rs
unfolding lack_of_run
run_means table group layout t rs = table_checks table (5 - group.depth) group.level layout t group.tag group.depth rs
