-- `fields_from_behind` meets its contract. The invariant: the rows passed are counted, and where the rows below each end is kept.
use mathlib.Core.Path.{◌≡◌}
use Prim.Native.Nat.{◌-◌, ◌≤◌}
use Rattle.message_maps.specs.Rows.{rows_from}
use Rattle.message_lent_rules.specs.Lent.{fields_in}
use Rattle.message_lent.specs.Counted.{Ended}
use Rattle.message_lent.proofs.fields_from_behind.Given as goal

abbrev pub invariant-loop-i : goal.invariant-loop-i
invariant-loop-i l = (l.from ≤ l.i) × (l.fields ≡ fields_in l.floor (rows_from (l.to - l.i) l.i l.words)) × (l.fields ≤ l.to - l.i) × Ended l.words l.i l.to l.ends
