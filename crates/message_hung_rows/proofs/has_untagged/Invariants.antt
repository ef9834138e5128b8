-- `has_untagged` meets its contract. The invariant: the rows that are left have the outcome of all.
use mathlib.Core.Path.{◌≡◌}
use Prim.Native.Nat.{◌-◌}
use Rattle.message_maps.specs.Rows.{rows_from}
use Rattle.message_hung_rows.specs.Hanging.{untagged_in}
use Rattle.message_hung_rows.proofs.has_untagged.Given as goal

abbrev pub invariant-loop-row : goal.invariant-loop-row
invariant-loop-row l = untagged_in (rows_from (l.count - 0) 0 l.words) ≡ untagged_in (rows_from (l.count - l.row) l.row l.words)
