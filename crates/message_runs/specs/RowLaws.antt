-- One law for each way that a walk over a run's rows goes.
use Rattle.std.specs.Prelude.{◌≡◌, true, false, List, ℕ, ◌+◌, ◌-◌, ◌≤◌, ◌<◌, leb}
use borrow.Author.Tests.{eq-eqb, ne_eqb}
use Rattle.message_maps.specs.Rows.{row_at, rows_from, level_of}
use Rattle.message_maps.specs.RowsLaws.{rows_step, rows_none}
use Rattle.message_lent_rules.specs.Lent.{rows_of, fields_in, is_laid}
use Rattle.message_rules.specs.Runs.{is_draft, last_from}

module _ (words : List ℕ) (i to : ℕ) (more : i < to) where
  module _ (start : ℕ) where
    pub last-here : level_of (row_at words i) ≡ 0 → last_from start i (rows_from (to - i) i words) ≡ last_from (i + 1) (i + 1) (rows_from (to - (i + 1)) (i + 1) words)
    unfolding last_from
    last-here h = rw (rows_step words i to more, eq-eqb _ _ h)

    pub last_on : (level_of (row_at words i) ≡ 0 → ⊥) → last_from start i (rows_from (to - i) i words) ≡ last_from start (i + 1) (rows_from (to - (i + 1)) (i + 1) words)
    unfolding last_from
    last_on h = rw (rows_step words i to more, ne_eqb _ _ h)

module _ (words : List ℕ) (i to : ℕ) (past : to ≤ i) where
  pub last_end : (start : ℕ) → last_from start i (rows_from (to - i) i words) ≡ start
  unfolding last_from
  last_end start = rw (rows_none words i to past)

module _ (words values : List ℕ) where
  pub draft_not : is_laid words values ≡ false → is_draft words values ≡ false
  unfolding is_draft
  draft_not h = rw h

  pub draft_on : is_laid words values ≡ true → is_draft words values ≡ leb (fields_in 0 (rows_of words)) 1024
  unfolding is_draft
  draft_on h = rw h
