-- `way_of` meets its contract. The invariant: following the way from the link on gives the whole way's end. The measure: the turns that
-- are left, so the loop is run once more than the table has turns at most. An entry's key is one of the table, so one that is met after
-- all turns and is another has strayed.
use mathlib.Core.Path.{◌≡◌}
use Prim.Native.Nat.{◌-◌}
use Rattle.dictionary_chains.specs.Chain.{followed, way_of}
use Rattle.dictionary_chains.proofs.way_of.Given as goal

abbrev pub invariant-loop-link : goal.invariant-loop-link
invariant-loop-link l = way_of l.table l.index l.key ≡ followed l.table l.index l.key l.turns l.cell l.rest l.link

abbrev pub decreases-loop-link : goal.decreases-loop-link
decreases-loop-link l = l.most - l.turns
