-- `grow` meets its contract.
use mathlib.Core.Path.{refl}
use Rattle.dictionary_rules.specs.Step.{grown}
use Rattle.dictionary_steps.proofs.grow.Goals as goal

pub returns : goal.returns
unfolding grown
returns c = refl
