-- `opens` meets its contract: each answer of the look-up cites its law.
use mathlib.Core.Path.{sym, ◌∙◌}
use Rattle.build_groups.proofs.LookUps.{no_delimiter, one_delimiter}
use Rattle.build_groups.proofs.opens.Goals as goal

pub returns-in_default : goal.returns-in_default
returns-in_default c = sym (no_delimiter _ _ _ (sym c.delimiter.ensures ∙ c.in_default.is))

pub returns : goal.returns
returns c = sym (one_delimiter _ _ _ _ (sym c.delimiter.ensures ∙ c.in-Some.is))
