-- `config_of` meets its contract: it puts together what both calls answer.
use Rattle.build_config.specs.Settings.{config_of}
use Rattle.build_config.proofs.config_of.Goals as goal

pub returns : goal.returns
unfolding config_of
returns c = rw (c.validates-validate.ensures, c.separated_by-mode.ensures)
