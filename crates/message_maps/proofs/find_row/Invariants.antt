-- `find_row` meets its contract. The invariant: the rows that are left have the outcome of all.
use mathlib.Core.Path.{◌≡◌}
use Prim.Native.Nat.{◌-◌}
use Rattle.message_maps.specs.Rows.{rows_from, find_from}
use Rattle.message_maps.proofs.find_row.Given as goal

abbrev pub invariant-loop-i : goal.invariant-loop-i
invariant-loop-i l = find_from l.kind l.level l.tag l.from (rows_from (l.to - l.from) l.from l.words) ≡ find_from l.kind l.level l.tag l.i (rows_from (l.to - l.i) l.i l.words)
