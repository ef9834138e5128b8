-- `run_end` meets its contract. The invariant: the rows that are left have the outcome of all.
use mathlib.Core.Path.{◌≡◌}
use Prim.Native.Nat.{◌-◌}
use Rattle.message_maps.specs.Rows.{rows_from, run_end_from}
use Rattle.message_maps.proofs.run_end.Given as goal

abbrev pub invariant-loop-i : goal.invariant-loop-i
invariant-loop-i l = run_end_from l.level l.start l.from (rows_from (l.to - l.from) l.from l.words) ≡ run_end_from l.level l.start l.i (rows_from (l.to - l.i) l.i l.words)
