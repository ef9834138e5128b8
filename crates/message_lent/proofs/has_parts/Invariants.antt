-- `has_parts` meets its contract. The invariant: the rows that are left have the outcome of all.
use mathlib.Core.Path.{◌≡◌}
use Prim.Native.Nat.{◌+◌, ◌-◌, ◌≤◌}
use Rattle.message_maps.specs.Rows.{rows_from}
use Rattle.message_lent_rules.specs.Lent.{parts_from}
use Rattle.message_lent.proofs.has_parts.Given as goal

abbrev pub invariant-loop-i : goal.invariant-loop-i
invariant-loop-i l = (l.part ≤ l.i + 1) × (parts_from 1 (rows_from (l.to - 0) 0 l.words) ≡ parts_from l.part (rows_from (l.to - l.i) l.i l.words))
