-- `own_count` meets its contract. The invariant: what was counted and what is left of the level are the whole.
use mathlib.Core.Path.{◌≡◌}
use Prim.Native.Nat.{◌+◌, ◌-◌, ◌≤◌}
use lib.ListN.{length}
use Rattle.dictionary_layout_rules.specs.Table.{siblings_from}
use Rattle.dictionary_pressing.proofs.own_count.Given as goal

abbrev pub invariant-loop-at : goal.invariant-loop-at
invariant-loop-at l = (l.count ≤ l.at) × (length (siblings_from l.rows l.first l.stop) ≡ l.count + length (siblings_from l.rows l.at l.stop))

abbrev pub decreases-loop-at : goal.decreases-loop-at
decreases-loop-at l = l.stop - l.at
