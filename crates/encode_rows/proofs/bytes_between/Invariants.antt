-- `bytes_between` meets its contract. The invariant: what is summed and the bytes of the rows that are left are the whole.
use mathlib.Core.Path.{◌≡◌}
use Prim.Native.Nat.{◌+◌, ◌-◌, ◌*◌, ◌≤◌}
use Rattle.message_maps.specs.Rows.{rows_from}
use Rattle.encode_rows.specs.Writing.{bytes_in}
use Rattle.encode_rows.proofs.bytes_between.Given as goal

abbrev pub invariant-loop-i : goal.invariant-loop-i
invariant-loop-i l = (l.size + bytes_in (rows_from (l.to - l.i) l.i l.words) ≡ bytes_in (rows_from (l.to - l.from) l.from l.words)) × (l.size ≤ (l.i - l.from) * 8589934592)
