-- `last_start` meets its contract. The invariant: the rows that are left have the outcome of all.
use mathlib.Core.Path.{◌≡◌}
use Prim.Native.Nat.{◌-◌}
use Rattle.message_maps.specs.Rows.{rows_from}
use Rattle.message_rules.specs.Runs.{last_from}
use Rattle.message_runs.proofs.last_start.Given as goal

abbrev pub invariant-loop-i : goal.invariant-loop-i
invariant-loop-i l = last_from 0 0 (rows_from (l.count - 0) 0 l.words) ≡ last_from l.start l.i (rows_from (l.count - l.i) l.i l.words)
