-- `entry_from` meets its contract. The invariant: the rows that are left have the outcome of all.
use mathlib.Core.Path.{◌≡◌}
use Prim.Native.Nat.{◌-◌}
use Rattle.message_maps.specs.Rows.{rows_from}
use Rattle.message_look_ups.specs.Opening.{entry_from}
use Rattle.message_look_ups.proofs.entry_from.Given as goal

abbrev pub invariant-loop-i : goal.invariant-loop-i
invariant-loop-i l = entry_from l.level l.start l.number l.from (rows_from (l.to - l.from) l.from l.words) ≡ entry_from l.level l.start l.left l.i (rows_from (l.to - l.i) l.i l.words)
