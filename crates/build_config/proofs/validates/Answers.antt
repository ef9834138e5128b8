-- `validates` meets its contract: its code is the definition.
use mathlib.Core.Path.{refl}
use Rattle.build_config.specs.Settings.{validates}
use Rattle.build_config.proofs.validates.Goals as goal

pub returns : goal.returns
unfolding validates
returns c = refl
