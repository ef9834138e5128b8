-- `pass_tags` meets its contract. The invariant: what was passed.
use Rattle.std.proofs.Common.{◌≡◌, ◌-◌, length}
use Rattle.dictionary_chains.specs.Chain.{index_words}
use Rattle.dictionary_rules.specs.Passing.{Passed}
use Rattle.dictionary_rules.specs.declared.State.TheVariants.{TopLevel}
use Rattle.dictionary_check.proofs.pass_tags.Given as goal

abbrev pub invariant-loop-tag : goal.invariant-loop-tag
invariant-loop-tag l = (length l.index ≡ index_words) × (Passed l.dictionary l.from TopLevel l.initial.index l.at TopLevel l.index)

abbrev pub decreases-loop-tag : goal.decreases-loop-tag
decreases-loop-tag l = length l.dictionary - l.at
