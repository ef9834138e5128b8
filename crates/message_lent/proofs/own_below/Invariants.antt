-- `own_below_lem` meets its contract. The invariant: the rows that are left have the outcome of all.
use mathlib.Core.Path.{◌≡◌}
use Prim.Native.Nat.{◌-◌, ◌≤◌}
use Rattle.message_maps.specs.Rows.{rows_from}
use Rattle.message_lent_rules.specs.Lent.{own_below}
use Rattle.message_lent.proofs.own_below.Given as goal

abbrev pub invariant-loop-i : goal.invariant-loop-i
invariant-loop-i l = (l.from ≤ l.i) × (l.i ≤ l.to) × (own_below l.level (rows_from (l.to - l.from) l.from l.words) ≡ own_below l.level (rows_from (l.to - l.i) l.i l.words))

abbrev pub decreases-loop-i : goal.decreases-loop-i
decreases-loop-i l = l.to - l.i
