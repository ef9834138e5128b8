-- One turn of each check: with what its calls answered, the outcome of what was left before it is the outcome of what is left after it.
use mathlib.Core.Path.{◌≡◌, refl, sym, ap, ◌∙◌}
use mathlib.Core.Bool.{Bool, true, false}
use mathlib.Core.List.{List}
use Prim.Native.Nat.{ℕ, suc, ◌+◌, ◌-◌, ◌/◌, ◌≤◌, ◌<◌}
use native.Mathlib.Omega.{arith}
use lib.ListN.{length}
use lib.Dec.{eqb}
use borrow.Author.Tests.{eqb-true, eqb-false}
use Rattle.field_rules.specs.Choice.{pick}
use Rattle.dictionary_tables_rules.specs.Table.{item_of}
use Rattle.dictionary_tables_rules.proofs.Tabled.{group_of_item}
use Rattle.build_records.specs.Records.{records_of, record_at, between, stride}
use Rattle.build_records.proofs.WordLaws.{records_length}
use Rattle.build_records.specs.declared.Record.{Record}
use Rattle.build_group_rules.specs.Groups.{none, opened}
use Rattle.build_group_rules.proofs.ReadingLaws.{opened-none, opened_some}
use Rattle.build_group_rules.specs.declared.Group.{Group}
use Rattle.build_required_rules.specs.Required.{or_else, shallow, nested_lack, entries_lack, entry_lack, run_lack}
use Rattle.build_required_rules.specs.Checking.{table_demands, starts_at, count_at, end_from, lack_of_fields, lack_of_entry, lack_of_run}
use Rattle.build_required_rules.specs.RequiredLaws.{else_missing, else_complete, end-within, end-found, entries_over, entries_next, entries_open, run-empty, nested-over, nested-deep, nested-plain, nested-empty, nested-run}
use Rattle.build_required_rules.specs.declared.Lack.{Lack}
use Rattle.build_required_rules.specs.declared.Lack.TheVariants.{Missing, Complete}

-- a record that no run hangs on
data NoCount (table : List ℕ) (group : Group) (r : Record) : Type 0 where
  deep : (r.depth ≡ group.depth → ⊥) → NoCount table group r
  plain : (table_demands table).group group.level r.tag ≡ none → NoCount table group r

module _ (table : List ℕ) (group : Group) (r : Record) where
  abbrev own : ℕ
  own = group_of_item (item_of table group.level r.tag)

  group-none : own ≡ 0 → (table_demands table).group group.level r.tag ≡ none
  unfolding table_demands
  group-none n = opened-none own n

  group-some : (level : ℕ) → own ≡ level → (level ≡ 0 → ⊥) → (table_demands table).group group.level r.tag ≡ opened level
  unfolding table_demands
  group-some level n some = rw n (opened_some level some)

  count_none : count_at table group r ≡ 0 → NoCount table group r
  unfolding count_at
  count_none n = go (eqb r.depth group.depth) refl n
    where
      go : (b : Bool) → eqb r.depth group.depth ≡ b → pick b own 0 ≡ 0 → NoCount table group r
      go true q n = plain (group-none n)
      go false q n = deep (eqb-false _ _ q)

  count-some : (level : ℕ) → count_at table group r ≡ level → (level ≡ 0 → ⊥) → (r.depth ≡ group.depth) × ((table_demands table).group group.level r.tag ≡ opened level)
  unfolding count_at
  count-some level n some = go (eqb r.depth group.depth) refl n
    where
      go : (b : Bool) → eqb r.depth group.depth ≡ b → pick b own 0 ≡ level → (r.depth ≡ group.depth) × ((table_demands table).group group.level r.tag ≡ opened level)
      go true q n = (eqb-true _ _ q, group-some level n some)
      go false q n = absurd (some (sym n))

module _ (table : List ℕ) (group : Group) where
  -- what is left of an entry's nested runs, and of a run's entries
  abbrev pub nested_left : List Record → Lack
  nested_left rs =
      nested_lack (λ level tag entries. run_lack (table_demands table) (4 - group.depth) level tag (group.depth + 1) entries) ((table_demands table).group group.level) group.depth rs

  abbrev pub entries_left : List Record → Lack
  entries_left rs = entries_lack (lack_of_entry table group) (starts_at table group) rs

  pub run-deep : (rs : List Record) → 4 < group.depth → lack_of_run table group rs ≡ Complete
  unfolding lack_of_run run_lack
  run-deep rs h =
      let none : 5 - group.depth ≡ 0 = omega arith in
      rw none

  pub run-entries : (rs : List Record) → group.depth ≤ 4 → lack_of_run table group rs ≡ entries_left rs
  unfolding lack_of_run run_lack lack_of_entry starts_at
  run-entries rs h =
      let more : 5 - group.depth ≡ suc (4 - group.depth) = omega arith in
      rw more

  entry-parts : (rs : List Record) → lack_of_entry table group rs ≡ or_else (lack_of_fields table group rs) (nested_left rs)
  unfolding lack_of_entry entry_lack lack_of_fields
  entry-parts rs = refl

  module _ (rs : List Record) (own : Lack) (e : own ≡ lack_of_fields table group rs) where
    pub entry_missing : (tag missing : ℕ) → own ≡ Missing tag missing → own ≡ lack_of_entry table group rs
    entry_missing tag missing q = sym (entry-parts rs ∙ rw (← e) (else_missing own (nested_left rs) tag missing q))

    pub entry-nested : own ≡ Complete → lack_of_entry table group rs ≡ nested_left rs
    entry-nested q = entry-parts rs ∙ rw (← e) (else_complete own (nested_left rs) q)

  pub nested-over-all : (at to : ℕ) (rs : List Record) → to ≤ at → nested_left (between at to rs) ≡ Complete
  nested-over-all at to rs h = nested-over _ _ _ at to rs h

  pub entries-over-all : (at to : ℕ) (rs : List Record) → to ≤ at → entries_left (between at to rs) ≡ Complete
  entries-over-all at to rs h = entries_over (starts_at table group) (lack_of_entry table group) to rs at h

  -- no entry is passed on the way to where the next one starts, and one does start there
  pub entries_from : (at to : ℕ) (rs : List Record) → to ≤ length rs → (end : ℕ) → end ≡ end_from (starts_at table group) at (between at to rs) →
      (entries_left (between at to rs) ≡ entries_left (between end to rs)) × (end < to → starts_at table group (record_at end rs) ≡ true)
  entries_from at to rs l end e =
      rw e (entries_next (starts_at table group) (lack_of_entry table group) to rs l at, end-found (starts_at table group) to rs l at)

  module _ (at to : ℕ) (rs : List Record) (h : at < to) (l : to ≤ length rs) where
    pub turn_entry : starts_at table group (record_at at rs) ≡ true → (end : ℕ) → end ≡ end_from (starts_at table group) (at + 1) (between (at + 1) to rs) →
        (lack : Lack) → lack ≡ lack_of_entry table group (between at end rs) → entries_left (between at to rs) ≡ or_else lack (entries_left (between end to rs))
    turn_entry o end e lack q = rw q (entries_open (starts_at table group) (lack_of_entry table group) to rs at h l o end e)

    module _ (end : ℕ) (e : end ≡ end_from (shallow group.depth) (at + 1) (between (at + 1) to rs)) where
      pub turn_empty : end ≡ at + 1 → nested_left (between at to rs) ≡ nested_left (between end to rs)
      turn_empty n = nested-empty _ _ _ at to rs h l end e (λ level tag. run-empty (table_demands table) (4 - group.depth) level tag (group.depth + 1)) n

      module _ (found : Record) (f : found ≡ record_at at rs) where
        pub turn_plain : (count : ℕ) → count ≡ count_at table group found → count ≡ 0 → nested_left (between at to rs) ≡ nested_left (between end to rs)
        turn_plain count c n = go (count_none table group (record_at at rs) (ap (count_at table group) (sym f) ∙ sym c ∙ n))
          where
            go : NoCount table group (record_at at rs) → nested_left (between at to rs) ≡ nested_left (between end to rs)
            go (deep d) = nested-deep _ _ _ at to rs h l end e d
            go (plain g) = nested-plain _ _ _ at to rs h l end e g

        pub turn_run : (level : ℕ) → level ≡ count_at table group found → (level ≡ 0 → ⊥) →
            (lack : Lack) → lack ≡ lack_of_run table (record { level = level; tag = found.tag; depth = group.depth + 1 }) (between (at + 1) end rs) →
            nested_left (between at to rs) ≡ or_else lack (nested_left (between end to rs))
        unfolding lack_of_run
        turn_run level c filled lack q =
            let some = count-some table group (record_at at rs) level (ap (count_at table group) (sym f) ∙ sym c) filled in
            let levels : 5 - (group.depth + 1) ≡ 4 - group.depth = omega arith in
            nested-run _ _ _ at to rs h l end e some.0 level some.1 ∙ rw (q, f, levels)

-- the first of a kind stands behind the record, and within the words
pub end_fits : (test : Record → Bool) (at to end : ℕ) (words : List ℕ) → at < to → to ≤ length words / stride → end ≡ end_from test (at + 1) (between (at + 1) to (records_of words)) →
    (at < end) × (end ≤ length words / stride)
end_fits test at to end words h l e =
    let within = end-within test (at + 1) to (records_of words) (omega arith) (omega (arith, records_length words)) in
    (omega (arith, within.0), omega (arith, within.1))
