-- `tags_of` meets its contract: one law for each way.
use mathlib.Core.Path.{sym, ◌∙◌}
use Rattle.builder.proofs.TagLaws.{kept-none, kept_half, kept-both}
use Rattle.builder.proofs.tags_of.Goals as goal

pub returns-in_default : goal.returns-in_default
returns-in_default c = kept-none _ (sym c.in_default.is ∙ c.tags_at.ensures)

pub returns-in_default-tags_at : goal.returns-in_default-tags_at
returns-in_default-tags_at c = kept_half _ _ _ (sym c.in-Some.is ∙ c.tags_at.ensures) (sym c.in_default-tags_at.is ∙ c.tags_at-2.ensures)

pub returns : goal.returns
returns c = kept-both _ _ _ (sym c.in-Some.is ∙ c.tags_at.ensures) _ _ (sym c.in-Some-tags_at.is ∙ c.tags_at-2.ensures)
