-- `raise_rows` meets its contract. The invariant: raising the rows that are left gives what raising all gives, and they are as they were.
use mathlib.Core.Path.{◌≡◌}
use Prim.Native.Nat.{ℕ, ◌+◌, ◌-◌, ◌*◌, ◌≤◌, ◌<◌}
use lib.ListN.{get_or}
use Rattle.message_maps.specs.Rows.{message_rows}
use Rattle.message_hung_rows.specs.Hanging.{raised_from}
use Rattle.message_hung_rows.proofs.raise_rows.Given as goal

abbrev pub invariant-loop-row : goal.invariant-loop-row
invariant-loop-row l = (raised_from (l.to - l.from) l.from l.initial.words ≡ raised_from (l.to - l.row) l.row l.words) × ((j : ℕ) → l.row ≤ j → j < l.to → get_or l.words (4 * j + 2) 0 ≤ message_rows)
