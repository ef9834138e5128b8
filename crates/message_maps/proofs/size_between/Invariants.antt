-- `size_between` meets its contract. The invariant: what is summed and the sum of the rows that are left are the whole.
use mathlib.Core.Path.{◌≡◌}
use Prim.Native.Nat.{◌+◌, ◌-◌, ◌*◌, ◌≤◌}
use Rattle.message_maps.specs.Rows.{rows_from, sizes}
use Rattle.message_maps.proofs.size_between.Given as goal

abbrev pub invariant-loop-i : goal.invariant-loop-i
invariant-loop-i l = (l.size + sizes (rows_from (l.to - l.i) l.i l.words) ≡ sizes (rows_from (l.to - l.from) l.from l.words)) × (l.size ≤ (l.i - l.from) * 4294967296)
