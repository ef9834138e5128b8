-- `last_group` meets its contract. The invariant: from the link on stands a chain of linked items whose last group of the tag is that of the whole.
-- What is left of the chain falls, since links rise.
use mathlib.Core.Path.{◌≡◌}
use lib.ListN.{length}
use Rattle.dictionary_tables_rules.specs.Laid.{last_group}
use Rattle.dictionary_pressing.specs.Linking.{Chain}
use Rattle.dictionary_pressing.specs.ChainLaws.{ahead}
use Rattle.dictionary_pressing.proofs.last_group.Given as goal

abbrev pub invariant-loop-next : goal.invariant-loop-next
invariant-loop-next l = (x : Chain l.table l.start l.tag l.link) →
    (y : Chain l.table l.start l.tag l.next) × (last_group l.sofar l.tag x.owns ≡ last_group l.sofar l.tag y.owns)

abbrev pub decreases-loop-next : goal.decreases-loop-next
decreases-loop-next l = ahead (length l.table) l.next
