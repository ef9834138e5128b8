-- `pass` meets its contract. Invariant: only items that stand for nothing lie between the start, the place since which nothing was kept, and the
-- place that is looked at, and what is kept is so.
use Prim.Native.Nat.{◌-◌}
use lib.ListN.{length}
use Rattle.dictionary_rules.specs.Index.{component_at}
use Rattle.dictionary_flattening.specs.Leaps.{Leads, Leaps}
use Rattle.dictionary_flattening.proofs.empty.pass.Given as goal

abbrev pub invariant-loop-at : goal.invariant-loop-at
invariant-loop-at l = Leads l.bytes (component_at l.index) l.from l.at × Leads l.bytes (component_at l.index) l.since l.at × Leaps l.bytes (component_at l.index) l.leaps

abbrev pub decreases-loop-at : goal.decreases-loop-at
decreases-loop-at l = length l.bytes - l.at
