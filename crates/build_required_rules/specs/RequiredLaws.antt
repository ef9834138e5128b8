-- The laws of the required check: each way that a look goes at a record, where the records stand from one index to another.
use Rattle.std.specs.Prelude.{◌≡◌, Bool, drop, eqb, Some, None}
use Rattle.std.proofs.Math.Path.{refl}
use Rattle.std.proofs.Common.{sym, ap, ◌∙◌, subst}
use Rattle.std.proofs.Math.Bool.{true, false}
use mathlib.Core.List.{List, [], ◌∷◌}
use Prim.Native.Nat.{ℕ, zero, suc, ◌+◌, ◌-◌, ◌≤◌, ◌<◌}
use native.Mathlib.Omega.{arith}
use Rattle.std.proofs.Math.ListN.{length, take, length-drop}
use Rattle.std.proofs.Math.Seq.{take-take, length-take-le}
use borrow.Author.Tests.{eq-eqb, ne_eqb, le-leb, lt-leb, leb-false}
use Rattle.field_rules.specs.Choice.{pick, pick_same}
use Rattle.build_records.specs.Records.{record_at, between, held_from}
use Rattle.build_records.proofs.RecordLaws.{between-on, between-end}
use Rattle.build_records.specs.declared.Record.{Record}
use Rattle.build_group_rules.specs.Groups.{Opened, none, opened}
use Rattle.build_required_rules.specs.Required.{Demands, or_else, has, fields_lack, before, shallow, opens_entry, run_lacks, nested_lack, entries_lack, run_lack}
use Rattle.build_group_rules.specs.Reading.{opens_at}
use Rattle.build_group_rules.specs.declared.Group.{Group}
use Rattle.dictionary_tables_rules.specs.Table.{item_of}
use Rattle.dictionary_tables_rules.proofs.Tabled.{group_of_item}
use Rattle.build_required_rules.specs.Checking.{table_demands, starts_at, count_at, end_from}
use Rattle.build_required_rules.specs.declared.Lack.{Lack}
use Rattle.build_required_rules.specs.declared.Lack.TheVariants.{Missing, Complete}

-- a field stands among records where it is held among them
pub has-held : (at depth tag i : ℕ) (rs : List Record) → held_from at depth tag rs ≡ Some i → has depth tag rs ≡ true
unfolding held_from has
has-held at depth tag i [] e = let z : ◌≡◌ {A = ℕ} 0 1 = cc in absurd (omega arith)
has-held at depth tag i (r ∷ rs) e = go (eqb r.depth depth) (eqb r.tag tag) e (has-held (at + 1) depth tag i rs)
  where
    go : (d t : Bool) → pick d (pick t (Some at) (held_from (at + 1) depth tag rs)) (held_from (at + 1) depth tag rs) ≡ Some i → (held_from (at + 1) depth tag rs ≡ Some i → has depth tag rs ≡ true) → pick d (pick t true (has depth tag rs)) (has depth tag rs) ≡ true
    go true true e later = refl
    go true false e later = later e
    go false t e later = later e

pub has_not : (at depth tag : ℕ) (rs : List Record) → held_from at depth tag rs ≡ None → has depth tag rs ≡ false
unfolding held_from has
has_not at depth tag [] e = refl
has_not at depth tag (r ∷ rs) e = go (eqb r.depth depth) (eqb r.tag tag) e (has_not (at + 1) depth tag rs)
  where
    go : (d t : Bool) → pick d (pick t (Some at) (held_from (at + 1) depth tag rs)) (held_from (at + 1) depth tag rs) ≡ None → (held_from (at + 1) depth tag rs ≡ None → has depth tag rs ≡ false) → pick d (pick t true (has depth tag rs)) (has depth tag rs) ≡ false
    go true true e later = let z : ◌≡◌ {A = ℕ} 0 1 = cc in absurd (omega arith)
    go true false e later = later e
    go false t e later = later e

-- each required field in turn
module _ (tags : List ℕ) (group depth : ℕ) (entry : List Record) where
  pub fields-over : tags ≡ [] → fields_lack tags group depth entry ≡ Complete
  unfolding fields_lack
  fields-over e = rw e

  module _ (tag : ℕ) (later : List ℕ) (e : tags ≡ tag ∷ later) where
    pub fields_missing : has depth tag entry ≡ false → fields_lack tags group depth entry ≡ Missing tag group
    unfolding fields_lack
    fields_missing h = rw (e, h)

    pub fields-next : has depth tag entry ≡ true → fields_lack tags group depth entry ≡ fields_lack later group depth entry
    unfolding fields_lack
    fields-next h = rw (e, h)

-- what is first found missing decides
pub else_missing : (lack later : Lack) (tag group : ℕ) → lack ≡ Missing tag group → or_else lack later ≡ lack
unfolding or_else
else_missing lack later tag group e = rw e

pub else_complete : (lack later : Lack) → lack ≡ Complete → or_else lack later ≡ later
unfolding or_else
else_complete lack later e = rw e

module _ (test : Record → Bool) where
  end_after : (at : ℕ) (rs : List Record) → (at ≤ end_from test at rs) × (end_from test at rs ≤ at + length rs)
  unfolding end_from
  end_after at [] = (omega arith, omega arith)
  end_after at (r ∷ rs) = go (test r) (end_after (at + 1) rs)
    where
      go : (b : Bool) → (at + 1 ≤ end_from test (at + 1) rs) × (end_from test (at + 1) rs ≤ at + 1 + length rs) → (at ≤ pick b at (end_from test (at + 1) rs)) × (pick b at (end_from test (at + 1) rs) ≤ at + suc (length rs))
      go true h = (omega arith, omega arith)
      go false h = (omega arith, omega arith)

  before-take : (at : ℕ) (rs : List Record) → before test rs ≡ take (end_from test at rs - at) rs
  unfolding before end_from
  before-take at [] = let k : at - at ≡ 0 = omega arith in rw k
  before-take at (r ∷ rs) = go (test r) (before-take (at + 1) rs) (end_after (at + 1) rs).0
    where
      go : (b : Bool) → before test rs ≡ take (end_from test (at + 1) rs - (at + 1)) rs → at + 1 ≤ end_from test (at + 1) rs → pick b [] (r ∷ before test rs) ≡ take (pick b at (end_from test (at + 1) rs) - at) (r ∷ rs)
      go true e h = let k : at - at ≡ 0 = omega arith in rw k
      go false e h =
          let k : end_from test (at + 1) rs - at ≡ suc (end_from test (at + 1) rs - (at + 1)) = omega arith in
          rw k (ap (λ (l : List Record). r ∷ l) e)

  module _ (from to : ℕ) (rs : List Record) (low : from ≤ to) (high : to ≤ length rs) where
    between-length : length (between from to rs) ≡ to - from
    unfolding between
    between-length = length-take-le (to - from) (drop from rs) (omega (arith, length-drop from rs))

    -- the first record of a kind stands within
    pub end-within : (from ≤ end_from test from (between from to rs)) × (end_from test from (between from to rs) ≤ to)
    end-within = let h = end_after from (between from to rs) in (h.0, omega (arith, h.1, between-length))

    -- the records before the first of a kind
    pub before-between : before test (between from to rs) ≡ between from (end_from test from (between from to rs)) rs
    before-between = before-take from (between from to rs) ∙ cut (end_from test from (between from to rs)) end-within.1
      where
        cut : (end : ℕ) → end ≤ to → take (end - from) (between from to rs) ≡ between from end rs
        cut end h = unfold between in take-take (end - from) (to - from) (drop from rs) (omega arith)

  module _ (at to : ℕ) (rs : List Record) where
    pub end-here : at < to → at < length rs → test (record_at at rs) ≡ true → end_from test at (between at to rs) ≡ at
    unfolding end_from
    end-here h l t = rw (between-on at to rs h l, t)

    pub end_later : at < to → at < length rs → test (record_at at rs) ≡ false → end_from test at (between at to rs) ≡ end_from test (at + 1) (between (at + 1) to rs)
    unfolding end_from
    end_later h l t = rw (between-on at to rs h l, t)

    pub end-over : to ≤ at → end_from test at (between at to rs) ≡ at
    unfolding end_from
    end-over h = rw (between-end at to rs h)

  module _ (to : ℕ) (rs : List Record) (high : to ≤ length rs) where
    -- an outcome that passes over each record not of a kind is that of what is left from the first of the kind on
    end_passes : (outcome : List Record → Lack) → ((r : Record) (later : List Record) → test r ≡ false → outcome (r ∷ later) ≡ outcome later) →
        (at : ℕ) → outcome (between at to rs) ≡ outcome (between (end_from test at (between at to rs)) to rs)
    end_passes outcome over at = go (to - at) at refl
      where
        Left : ℕ → Type 0
        Left at = outcome (between at to rs) ≡ outcome (between (end_from test at (between at to rs)) to rs)

        step : (at : ℕ) → at < to → (b : Bool) → test (record_at at rs) ≡ b → Left (at + 1) → Left at
        step at h true t later = ap (λ (end : ℕ). outcome (between end to rs)) (sym (end-here at to rs h (omega arith) t))
        step at h false t later =
            ap outcome (between-on at to rs h (omega arith))
            ∙ over (record_at at rs) (between (at + 1) to rs) t
            ∙ later
            ∙ ap (λ (end : ℕ). outcome (between end to rs)) (sym (end_later at to rs h (omega arith) t))

        go : (left at : ℕ) → to - at ≡ left → Left at
        go zero at e = ap (λ (end : ℕ). outcome (between end to rs)) (sym (end-over at to rs (omega arith)))
        go (suc left) at e = step at (omega arith) (test (record_at at rs)) refl (go left (at + 1) (omega arith))

    -- what stands where the first of a kind was found is of the kind
    pub end-found : (at : ℕ) → end_from test at (between at to rs) < to → test (record_at (end_from test at (between at to rs)) rs) ≡ true
    end-found at = go (to - at) at refl
      where
        Found : ℕ → Type 0
        Found end = end < to → test (record_at end rs) ≡ true

        step : (at : ℕ) → at < to → (b : Bool) → test (record_at at rs) ≡ b → Found (end_from test (at + 1) (between (at + 1) to rs)) → Found (end_from test at (between at to rs))
        step at h true t later = subst Found (sym (end-here at to rs h (omega arith) t)) (λ _. t)
        step at h false t later = subst Found (sym (end_later at to rs h (omega arith) t)) later

        go : (left at : ℕ) → to - at ≡ left → Found (end_from test at (between at to rs))
        go zero at e = subst Found (sym (end-over at to rs (omega arith))) (λ h. absurd (omega arith))
        go (suc left) at e = step at (omega arith) (test (record_at at rs)) refl (go left (at + 1) (omega arith))

  -- each entry in turn
  module _ (check : List Record → Lack) (to : ℕ) (rs : List Record) where
    pub entries_over : (at : ℕ) → to ≤ at → entries_lack check test (between at to rs) ≡ Complete
    unfolding entries_lack
    entries_over at h = rw (between-end at to rs h)

    -- no record before the next entry opens one
    pub entries_next : to ≤ length rs → (at : ℕ) → entries_lack check test (between at to rs) ≡ entries_lack check test (between (end_from test at (between at to rs)) to rs)
    entries_next l at = end_passes to rs l (entries_lack check test) over at
      where
        over : (r : Record) (later : List Record) → test r ≡ false → entries_lack check test (r ∷ later) ≡ entries_lack check test later
        over r later t = unfold entries_lack in rw t

    pub entries_open : (at : ℕ) → at < to → to ≤ length rs → test (record_at at rs) ≡ true → (end : ℕ) → end ≡ end_from test (at + 1) (between (at + 1) to rs) →
        entries_lack check test (between at to rs) ≡ or_else (check (between at end rs)) (entries_lack check test (between end to rs))
    unfolding entries_lack
    entries_open at h l t end e =
        rw (between-on at to rs h (omega arith), t, before-between (at + 1) to rs (omega arith) l, ← e, entries_next l (at + 1), ← e)
        (ap (λ (entry : List Record). or_else (check entry) (entries_lack check test (between end to rs))) (sym (between-on at end rs (omega (arith, (end-within (at + 1) to rs (omega arith) l).0)) (omega arith))))

-- an empty run lacks nothing
pub run-empty : {L : Type 0} (demands : Demands L) (levels : ℕ) (level : L) (group depth : ℕ) → run_lack demands levels level group depth [] ≡ Complete
unfolding run_lack entries_lack
run-empty demands zero level group depth = refl
run-empty demands (suc levels) level group depth = refl

-- each nested run in turn
module _ {L : Type 0} (nested : L → ℕ → List Record → Lack) (groups : ℕ → Opened L) (depth at to : ℕ) (rs : List Record) where
  pub nested-over : to ≤ at → nested_lack nested groups depth (between at to rs) ≡ Complete
  unfolding nested_lack
  nested-over h = rw (between-end at to rs h)

  -- no run of the entry hangs on a record that is nested in it
  nested-next : to ≤ length rs → nested_lack nested groups depth (between at to rs) ≡ nested_lack nested groups depth (between (end_from (shallow depth) at (between at to rs)) to rs)
  nested-next l = end_passes (shallow depth) to rs l (nested_lack nested groups depth) over at
    where
      over : (r : Record) (later : List Record) → shallow depth r ≡ false → nested_lack nested groups depth (r ∷ later) ≡ nested_lack nested groups depth later
      over r later t = unfold nested_lack in rw (ne_eqb r.depth depth (λ same. let deep : depth < r.depth = leb-false _ _ (unfold shallow in t) in omega arith))

module _ {L : Type 0} (nested : L → ℕ → List Record → Lack) (groups : ℕ → Opened L) (depth at to : ℕ) (rs : List Record) (h : at < to) (l : to ≤ length rs)
    (end : ℕ) (e : end ≡ end_from (shallow depth) (at + 1) (between (at + 1) to rs)) where
  abbrev left : ℕ → Lack
  left from = nested_lack nested groups depth (between from to rs)

  abbrev run : Lack
  run = run_lacks nested (groups (record_at at rs).tag) (record_at at rs).tag (between (at + 1) end rs)

  -- a record, the records that are nested in its entry behind it, and what is left behind those
  nested_turn : left at ≡ pick (eqb (record_at at rs).depth depth) (or_else run (left end)) (left end)
  unfolding nested_lack
  nested_turn = rw (between-on at to rs h (omega arith), before-between (shallow depth) (at + 1) to rs (omega arith) l, ← e, nested-next nested groups depth (at + 1) to rs l, ← e)

  pub nested-deep : ((record_at at rs).depth ≡ depth → ⊥) → left at ≡ left end
  nested-deep d = nested_turn ∙ rw (ne_eqb _ _ d)

  pub nested-plain : groups (record_at at rs).tag ≡ none → left at ≡ left end
  unfolding run_lacks or_else
  nested-plain g = nested_turn ∙ rw g (pick_same (eqb (record_at at rs).depth depth) _)

  -- whatever opens: a run without records lacks nothing
  pub nested-empty : ((level : L) (tag : ℕ) → nested level tag [] ≡ Complete) → end ≡ at + 1 → left at ≡ left end
  unfolding or_else
  nested-empty c n =
      nested_turn ∙ rw (between-end (at + 1) end rs (omega arith), go (groups (record_at at rs).tag) (record_at at rs).tag) (pick_same (eqb (record_at at rs).depth depth) _)
    where
      go : (o : Opened L) (tag : ℕ) → run_lacks nested o tag [] ≡ Complete
      go none tag = unfold run_lacks in refl
      go (opened level) tag = unfold run_lacks in c level tag

  pub nested-run : (record_at at rs).depth ≡ depth → (level : L) → groups (record_at at rs).tag ≡ opened level →
      left at ≡ or_else (nested level (record_at at rs).tag (between (at + 1) end rs)) (left end)
  unfolding run_lacks
  nested-run d level g = nested_turn ∙ rw (eq-eqb _ _ d, g)

-- what a record is to a level of a table
module _ (table : List ℕ) (group : Group) (r : Record) where
  pub starts_not : (r.depth ≡ group.depth → ⊥) → starts_at table group r ≡ false
  unfolding starts_at opens_entry
  starts_not d = rw (ne_eqb _ _ d)

  pub starts-own : r.depth ≡ group.depth → starts_at table group r ≡ opens_at table group.level r.tag
  unfolding starts_at opens_entry table_demands
  starts-own d = rw (eq-eqb _ _ d)

  pub count_not : (r.depth ≡ group.depth → ⊥) → count_at table group r ≡ 0
  unfolding count_at
  count_not d = rw (ne_eqb _ _ d)

  module _ (d : r.depth ≡ group.depth) where
    pub count-item : (position inner : ℕ) → item_of table group.level r.tag ≡ Some (position, inner) → count_at table group r ≡ inner
    unfolding count_at group_of_item
    count-item position inner e = rw (eq-eqb _ _ d, e)

    pub count-nowhere : item_of table group.level r.tag ≡ None → count_at table group r ≡ 0
    unfolding count_at group_of_item
    count-nowhere e = rw (eq-eqb _ _ d, e)

pub shallow-here : (depth : ℕ) (r : Record) → r.depth ≤ depth → shallow depth r ≡ true
unfolding shallow
shallow-here depth r h = le-leb _ _ h

pub shallow_not : (depth : ℕ) (r : Record) → depth < r.depth → shallow depth r ≡ false
unfolding shallow
shallow_not depth r h = lt-leb _ _ h
