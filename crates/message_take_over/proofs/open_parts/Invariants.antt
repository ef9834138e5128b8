-- `open_parts` meets its contract. The invariant: the heads up to the part that is open were added.
use Prim.Native.Nat.{◌-◌}
use Rattle.message_take_over.specs.Taking.{part_heads}
use Rattle.message_take_over.specs.Laying.{Adds}
use Rattle.message_take_over.proofs.open_parts.Given as goal

abbrev pub invariant-loop-before : goal.invariant-loop-before
invariant-loop-before l = Adds l.initial.words l.words l.rows l.next (part_heads (l.before - l.part) l.part)
