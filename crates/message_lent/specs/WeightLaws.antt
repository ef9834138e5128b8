-- One law for each way to tell what a row weighs. A head's weight turns on the rows below it, and the next row often tells of them:
-- the head has none, or its first is a field of its own.
use Rattle.std.specs.Prelude.{◌≡◌, Bool, true, false, List, ℕ, ◌+◌, ◌-◌, ◌*◌, ◌≤◌, ◌<◌, get_or}
use Rattle.std.proofs.Common.{sym, arith}
use borrow.Author.Tests.{eq-eqb, ne_eqb, lt-ltb, le-ltb}
use Rattle.field_rules.specs.Choice.{pick}
use Rattle.message_maps.specs.Rows.{row_at, rows_from, level_of}
use Rattle.message_lent_rules.specs.Lent.{is_own, own_below, weight}
use Rattle.message_lent_rules.specs.LentLaws.{own-none, own-here, own-end}
use Rattle.message_lent.specs.Counted.{Told}

-- by whether a head has a field of its own
pub own-weight : {w : ℕ} {own : Bool} → w ≡ pick own 0 1 → own ≡ true → w ≡ 0
own-weight e h = rw h at e

pub bare-weight : {w : ℕ} {own : Bool} → w ≡ pick own 0 1 → own ≡ false → w ≡ 1
bare-weight e h = rw h at e

module _ (words : List ℕ) (i to floor : ℕ) where
  -- an answer that is a weight
  known : (w : ℕ) → w ≤ 1 → weight floor (row_at words i) (rows_from (to - (i + 1)) (i + 1) words) ≡ w → Told words floor i to w
  known w small e = record { few = omega arith; told = λ _. sym e; untold = λ h. absurd (omega arith) }

  pub field_told : get_or words (4 * i + 1) 0 ≡ 1 → Told words floor i to 1
  unfolding weight row_at
  field_told e = known 1 (omega arith) (rw (eq-eqb _ 1 e))

  -- a head
  module _ (head : get_or words (4 * i + 1) 0 ≡ 1 → ⊥) where
    pub above_told : level_of (row_at words i) < floor → Told words floor i to 0
    unfolding weight row_at level_of
    above_told h = known 0 (omega arith) (rw (ne_eqb _ 1 head, lt-ltb _ _ h))

    -- that may be an entry
    module _ (low : floor ≤ level_of (row_at words i)) where
      by_own : weight floor (row_at words i) (rows_from (to - (i + 1)) (i + 1) words) ≡ pick (own_below (level_of (row_at words i)) (rows_from (to - (i + 1)) (i + 1) words)) 0 1
      unfolding weight row_at level_of
      by_own = rw (ne_eqb _ 1 head, le-ltb _ _ low)

      pub last-told : to ≤ i + 1 → Told words floor i to 1
      last-told past = known 1 (omega arith) (bare-weight by_own (own-end words (i + 1) to past (level_of (row_at words i))))

      pub none_told : Told words floor i to 2
      none_told = record { few = omega arith; told = λ h. absurd (omega arith); untold = λ _. by_own }

      -- that has a row behind it
      module _ (more : i + 1 < to) where
        pub bare-told : level_of (row_at words (i + 1)) ≤ level_of (row_at words i) → Told words floor i to 1
        bare-told h = known 1 (omega arith) (bare-weight by_own (own-none words (i + 1) to more (level_of (row_at words i)) h))

        pub own-told : level_of (row_at words i) < level_of (row_at words (i + 1)) → is_own (level_of (row_at words i) + 1) (row_at words (i + 1)) ≡ true → Told words floor i to 0
        own-told h own = known 0 (omega arith) (own-weight by_own (own-here words (i + 1) to more (level_of (row_at words i)) h own))
