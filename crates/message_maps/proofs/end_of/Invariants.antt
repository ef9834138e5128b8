-- `end_of` meets its contract. The invariant: the rows that are left have the outcome of all.
use mathlib.Core.Path.{◌≡◌}
use Prim.Native.Nat.{◌-◌}
use Rattle.message_maps.specs.Rows.{rows_from, end_from}
use Rattle.message_maps.proofs.end_of.Given as goal

abbrev pub invariant-loop-i : goal.invariant-loop-i
invariant-loop-i l = end_from l.level l.from (rows_from (l.to - l.from) l.from l.words) ≡ end_from l.level l.i (rows_from (l.to - l.i) l.i l.words)
