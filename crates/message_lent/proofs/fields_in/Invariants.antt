-- `fields_in` meets its contract. The invariant: what is counted and the fields of the rows that are left are all.
use mathlib.Core.Path.{◌≡◌}
use Prim.Native.Nat.{◌+◌, ◌-◌, ◌≤◌}
use Rattle.message_maps.specs.Rows.{rows_from}
use Rattle.message_lent_rules.specs.Lent.{fields_in}
use Rattle.message_lent.proofs.fields_in.Given as goal

abbrev pub invariant-loop-i : goal.invariant-loop-i
invariant-loop-i l = (l.fields + fields_in l.floor (rows_from (l.to - l.i) l.i l.words) ≡ fields_in l.floor (rows_from (l.to - l.from) l.from l.words)) × (l.fields ≤ l.i - l.from)
