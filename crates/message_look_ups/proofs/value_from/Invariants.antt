-- `value_from` meets its contract. The invariant: the rows that are left have the outcome of all.
use mathlib.Core.Path.{◌≡◌}
use Prim.Native.Nat.{◌+◌, ◌-◌, ◌*◌, ◌≤◌}
use Rattle.message_maps.specs.Rows.{rows_from}
use Rattle.message_look_ups.specs.Opening.{value_from}
use Rattle.message_look_ups.proofs.value_from.Given as goal

abbrev pub invariant-loop-i : goal.invariant-loop-i
invariant-loop-i l = (value_from l.level l.tag l.initial.place (rows_from (l.to - l.from) l.from l.words) ≡ value_from l.level l.tag l.place (rows_from (l.to - l.i) l.i l.words)) × (l.place ≤ l.initial.place + (l.i - l.from) * 4294967296)
