-- `fresh` meets its contract.
use mathlib.Core.Path.{refl}
use Rattle.dictionary_rules.specs.Step.{opens}
use Rattle.dictionary_steps.proofs.fresh.Goals as goal

pub returns : goal.returns
unfolding opens
returns c = refl
