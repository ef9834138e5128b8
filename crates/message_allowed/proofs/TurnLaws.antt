-- What holds at each turn of the loop over the rows: the table knows the rows passed, the flag says whether one of them is an entry of a run
-- without its count, and the rows that are left have the outcome of all.
use Rattle.std.specs.Prelude.{◌≡◌, refl, Bool, true, false, List, [], ℕ, ◌+◌, ◌-◌, ◌*◌, ◌≤◌, ◌<◌, length, replicate}
use Rattle.std.proofs.Common.{sym, ap, ◌∙◌, arith}
use Rattle.std.proofs.Math.Path.{subst}
use Rattle.field_rules.specs.Choice.{pick}
use Rattle.message_maps.specs.Rows.{row_at, rows_from, rows_before, level_of, message_rows}
use Rattle.message_lent_rules.specs.Lent.{row_allowed, rows_allowed}
use Rattle.message_lent_rules.specs.LentLaws.{allowed_not, allowed_on, allowed_end}
use Rattle.message_lent_rules.specs.Standing.{uncounted, standing_of}
use Rattle.message_lent_rules.specs.declared.Standing.TheVariants.{Refused, Uncounted, Counted}
use Rattle.message_allowed.specs.Distinct.{reach, starts_run, loose}
use Rattle.message_allowed.specs.DistinctLaws.{allowed_reach}
use Rattle.message_allowed.specs.LooseLaws.{loose-next, loose-on, loose-end, refused, allowed}
use Rattle.message_allowed.specs.RowLaws.{before-next}
use Rattle.message_allowed.specs.Branch.{cell_of, tag_of, Sized, Known, grown}
use Rattle.message_allowed.proofs.KnownLaws.{allowed_tagged, cell_small, known-none, known_on, grown-length}

pub record Turn (words : List ℕ) (tops to : ℕ) (table : List ℕ) (flag : Bool) (i : ℕ) : Type 0 where
  pub within : i ≤ to
  pub room : tops + to + 2 ≤ length table
  pub known : Known words i tops table
  pub flagged : flag ≡ loose (rows_before i words)
  pub lawful : rows_allowed [] (rows_from (to - 0) 0 words) ≡ rows_allowed (rows_before i words) (rows_from (to - i) i words)
  pub counted : uncounted [] (rows_from (to - 0) 0 words) ≡ pick (loose (rows_before i words)) true (uncounted (rows_before i words) (rows_from (to - i) i words))

module _ (words : List ℕ) (tops to : ℕ) (few : to ≤ message_rows) (low : 1024 + 3 * to ≤ tops) (high : tops ≤ 10000) where
  pub turn_start : (table : List ℕ) → tops + to + 2 ≤ length table → table ≡ replicate (length table) 0 → Turn words tops to table false 0
  unfolding rows_before loose
  turn_start table room zeros =
      record {
        within = omega arith;
        room = room;
        known = subst (Known words 0 tops) (sym zeros) (known-none words (length table) tops (omega arith) (omega arith));
        flagged = refl;
        lawful = refl;
        counted = refl;
      }

  module _ (table : List ℕ) (flag : Bool) (i : ℕ) (turn : Turn words tops to table flag i) where
    pub turn_end : to ≤ i → pick flag Uncounted Counted ≡ standing_of (rows_from (to - 0) 0 words)
    turn_end past = allowed _ flag (turn.lawful ∙ allowed_end words i to past) (turn.counted ∙ loose-end words i to past ∙ sym turn.flagged)

    module _ (more : i < to) where
      pub turn_sized : Sized table tops i
      turn_sized = record { apart = omega arith; room = omega (arith, turn.room); least = high }

      pub turn_refused : row_allowed (rows_before i words) (row_at words i) ≡ false → Refused ≡ standing_of (rows_from (to - 0) 0 words)
      turn_refused h = refused _ (turn.lawful ∙ allowed_not words i to more h)

      module _ (h : row_allowed (rows_before i words) (row_at words i) ≡ true) where
        pub turn_inside : level_of (row_at words i) ≤ reach (rows_before i words)
        turn_inside = allowed_reach _ _ h

        pub turn_deep : level_of (row_at words i) ≤ i
        turn_deep = omega (arith, turn_inside, turn.known.near)

        module _ (r : ℕ) (after : List ℕ) (found : r ≡ cell_of table words (level_of (row_at words i)) (tag_of (row_at words i))) (entered : after ≡ grown words i tops r table) where
          small : r < 1024 + 3 * i
          small = rw found (cell_small words i table turn.known.tree (omega arith) (level_of (row_at words i)) (tag_of (row_at words i)))

          pub turn_length : length after ≡ length table
          turn_length = ap length entered ∙ grown-length words i tops r table (omega arith) turn_sized turn_deep small

          pub turn_on : (next : Bool) → next ≡ pick flag true (starts_run (rows_before i words) (row_at words i)) → Turn words tops to after next (i + 1)
          turn_on next told =
              record {
                within = omega arith;
                room = omega (arith, turn.room, turn_length);
                known = subst (Known words (i + 1) tops) (sym entered) (known_on words i tops r table (omega arith) turn_sized turn_deep small turn.known turn_inside (allowed_tagged _ _ h) found);
                flagged = told ∙ ap (λ (b : Bool). pick b true (starts_run (rows_before i words) (row_at words i))) turn.flagged ∙ loose-next (row_at words i) (rows_before i words) ∙ ap loose (sym (before-next words i));
                lawful = turn.lawful ∙ allowed_on words i to more h;
                counted = turn.counted ∙ loose-on words i to more;
              }
