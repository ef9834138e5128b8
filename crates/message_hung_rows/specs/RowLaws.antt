-- One law for each way that a walk over a run's rows goes, by what the row at hand says; and what a row says of its tags.
-- Then where the run hangs, and what hanging it comes to.
use Rattle.std.specs.Prelude.{◌≡◌, true, false, List, get_or, set, take, eqb}
use Prim.Native.Nat.{ℕ, suc, ◌+◌, ◌-◌, ◌*◌, ◌≤◌, ◌<◌}
use native.Mathlib.Omega.{arith}
use borrow.Author.Tests.{eq-eqb, ne_eqb, lt-ltb, le-ltb}
use Rattle.message_maps.specs.Rows.{flat, row_at, rows_from, level_of, sizes}
use Rattle.message_maps.specs.RowsLaws.{rows_step, rows_none}
use Rattle.message_lent_rules.specs.Lent.{row_count, rows_of}
use Rattle.message_rules.specs.Changes.{after}
use Rattle.message_rules.specs.RowChanges.{changed_at, field_place, run_place}
use Rattle.message_rules.specs.declared.Change.TheVariants.{NoRun}
use Rattle.message_rules.specs.declared.Span.{Span}
use Rattle.message_hung_rows.specs.Hanging.{raised_from, is_untagged, untagged_in, is_of, all_of, raised, hung_place, hung_cut, hung_fields, start_of, delimiter_of_lem, hang_at}

module _ (words : List ℕ) (i to : ℕ) (more : i < to) where
  pub untagged_here : is_untagged (row_at words i) ≡ true → untagged_in (rows_from (to - i) i words) ≡ true
  unfolding untagged_in
  untagged_here h = rw (rows_step words i to more, h)

  pub untagged_on : is_untagged (row_at words i) ≡ false → untagged_in (rows_from (to - i) i words) ≡ untagged_in (rows_from (to - (i + 1)) (i + 1) words)
  unfolding untagged_in
  untagged_on h = rw (rows_step words i to more, h)

  module _ (start delimiter : ℕ) where
    pub all_not : is_of start delimiter (row_at words i) ≡ false → all_of start delimiter (rows_from (to - i) i words) ≡ false
    unfolding all_of
    all_not h = rw (rows_step words i to more, h)

    pub all-on : is_of start delimiter (row_at words i) ≡ true → all_of start delimiter (rows_from (to - i) i words) ≡ all_of start delimiter (rows_from (to - (i + 1)) (i + 1) words)
    unfolding all_of
    all-on h = rw (rows_step words i to more, h)

  pub raise_on : raised_from (to - i) i words ≡ raised_from (to - (i + 1)) (i + 1) (set words (4 * i + 2) (get_or words (4 * i + 2) 0 + 1))
  unfolding raised_from
  raise_on = let e : to - i ≡ suc (to - (i + 1)) = omega arith in rw e

module _ (words : List ℕ) (i to : ℕ) (past : to ≤ i) where
  pub untagged_end : untagged_in (rows_from (to - i) i words) ≡ false
  unfolding untagged_in
  untagged_end = rw (rows_none words i to past)

  pub all_end : (start delimiter : ℕ) → all_of start delimiter (rows_from (to - i) i words) ≡ true
  unfolding all_of
  all_end start delimiter = rw (rows_none words i to past)

  pub raise_end : raised_from (to - i) i words ≡ words
  unfolding raised_from
  raise_end = let e : to - i ≡ 0 = omega arith in rw e

-- the tags of a row
module _ (words : List ℕ) (i : ℕ) where
  pub tagged-below : (level_of (row_at words i) ≡ 0 → ⊥) → is_untagged (row_at words i) ≡ false
  unfolding is_untagged row_at level_of
  tagged-below h = rw (ne_eqb _ _ h)

  pub tagged-start : level_of (row_at words i) ≡ 0 → get_or words (4 * i + 3) 0 ≡ 0 → is_untagged (row_at words i) ≡ true
  unfolding is_untagged row_at level_of
  tagged-start h k = rw (eq-eqb _ _ h, eq-eqb _ _ k)

  pub tagged_delimiter : level_of (row_at words i) ≡ 0 → (get_or words (4 * i + 3) 0 ≡ 0 → ⊥)
      → is_untagged (row_at words i) ≡ eqb (get_or words (4 * i + 4) 0) 0
  unfolding is_untagged row_at level_of
  tagged_delimiter h k = rw (eq-eqb _ _ h, ne_eqb _ _ k)

  module _ (start delimiter : ℕ) where
    pub of-below : (level_of (row_at words i) ≡ 0 → ⊥) → is_of start delimiter (row_at words i) ≡ true
    unfolding is_of row_at level_of
    of-below h = rw (ne_eqb _ _ h)

    pub of_other : level_of (row_at words i) ≡ 0 → (get_or words (4 * i + 3) 0 ≡ start → ⊥) → is_of start delimiter (row_at words i) ≡ false
    unfolding is_of row_at level_of
    of_other h k = rw (eq-eqb _ _ h, ne_eqb _ _ k)

    pub of-start : level_of (row_at words i) ≡ 0 → get_or words (4 * i + 3) 0 ≡ start
        → is_of start delimiter (row_at words i) ≡ eqb (get_or words (4 * i + 4) 0) delimiter
    unfolding is_of row_at level_of
    of-start h k = rw (eq-eqb _ _ h, eq-eqb _ _ k)

-- behind the count, or where the run stands
module _ (span : Span) (start : ℕ) (words : List ℕ) (at : ℕ) (found : at ≡ field_place span start words) where
  pub place-count : at < span.to → hung_place span start words ≡ at + 1
  unfolding hung_place
  place-count h = rw (← found, lt-ltb _ _ h)

  pub place-run : span.to ≤ at → (first : ℕ) → first ≡ run_place span start words → hung_place span start words ≡ first
  unfolding hung_place
  place-run h first e = rw (← found, le-ltb _ _ h, ← e)

-- an empty run is none, and any other is a cut
module _ (span : Span) (fields : ℕ) (run_words run_values words values : List ℕ) where
  pub hang-none : row_count run_words ≡ 0 → hang_at span fields run_words run_values words values ≡ after NoRun words values
  unfolding hang_at
  hang-none h = rw (eq-eqb _ _ h)

  pub hang-some : (row_count run_words ≡ 0 → ⊥) → hang_at span fields run_words run_values words values
      ≡ changed_at (hung_cut span (start_of run_words) words) (flat (raised (rows_of run_words))) (row_count run_words) (take (sizes (rows_of run_words)) run_values)
      (all_of (start_of run_words) (delimiter_of_lem run_words) (rows_of run_words)) (hung_fields span (start_of run_words) run_words fields words) words values
  unfolding hang_at
  hang-some h = rw (ne_eqb _ _ h)
