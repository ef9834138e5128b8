-- `all_of` meets its contract. The invariant: the rows that are left have the outcome of all.
use mathlib.Core.Path.{◌≡◌}
use Prim.Native.Nat.{◌-◌}
use Rattle.message_maps.specs.Rows.{rows_from}
use Rattle.message_hung_rows.specs.Hanging.{all_of}
use Rattle.message_hung_rows.proofs.all_of.Given as goal

abbrev pub invariant-loop-row : goal.invariant-loop-row
invariant-loop-row l = all_of l.start l.delimiter (rows_from (l.count - 0) 0 l.words) ≡ all_of l.start l.delimiter (rows_from (l.count - l.row) l.row l.words)
