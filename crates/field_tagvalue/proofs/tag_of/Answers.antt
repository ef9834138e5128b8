-- `tag_of` meets its contract: what `number_of` answers, zero apart.
use mathlib.Core.Path.{sym, ◌∙◌}
use Rattle.field_rules.proofs.NumberLaws.{tag-none, tag_zero, tag_good}
use Rattle.field_tagvalue.proofs.tag_of.Goals as goal

pub returns-in_default : goal.returns-in_default
returns-in_default c = sym (tag-none _ (sym c.number_of.ensures ∙ c.in_default.is))

pub returns-then-worth-eq0 : goal.returns-then-worth-eq0
returns-then-worth-eq0 c = sym (tag_zero _ _ (sym c.number_of.ensures ∙ c.in-Some.is) c.if-worth-eq0.true)

pub returns : goal.returns
returns c = sym (tag_good _ _ (sym c.number_of.ensures ∙ c.in-Some.is) c.if-worth-eq0.false)
