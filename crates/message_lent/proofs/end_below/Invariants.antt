-- `end_below` meets its contract. The invariant: the rows that are left have the end of all.
use mathlib.Core.Path.{◌≡◌}
use Prim.Native.Nat.{◌-◌, ◌≤◌}
use Rattle.message_maps.specs.Rows.{rows_from, end_from}
use Rattle.message_lent.proofs.end_below.Given as goal

abbrev pub invariant-loop-i : goal.invariant-loop-i
invariant-loop-i l = (l.from ≤ l.i) × (l.i ≤ l.to) × (end_from l.level l.from (rows_from (l.to - l.from) l.from l.words) ≡ end_from l.level l.i (rows_from (l.to - l.i) l.i l.words))

abbrev pub decreases-loop-i : goal.decreases-loop-i
decreases-loop-i l = l.to - l.i
