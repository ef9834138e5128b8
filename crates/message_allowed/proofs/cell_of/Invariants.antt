-- `cell_of` meets its contract. The invariant: from the word on what is reached is what is reached from the start.
use mathlib.Core.Path.{◌≡◌}
use Prim.Native.Nat.{◌-◌, ◌≤◌}
use lib.ListN.{get_or}
use Rattle.message_allowed.proofs.KnownLaws.{Way}
use Rattle.message_allowed.proofs.cell_of.Given as goal

abbrev pub invariant-loop-link : goal.invariant-loop-link
invariant-loop-link l = Way l.table l.words l.row l.level l.tag l.cell l.rest × (l.link ≡ get_or l.table l.cell 0) × (l.link ≤ l.row)

abbrev pub decreases-loop-link : goal.decreases-loop-link
decreases-loop-link l = 7177 - l.cell
