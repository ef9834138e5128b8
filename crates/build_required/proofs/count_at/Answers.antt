-- `count_at` meets its contract: only an entry's own field is looked up.
use mathlib.Core.Path.{sym, ◌∙◌}
use Rattle.build_required_rules.specs.RequiredLaws.{count_not, count-item, count-nowhere}
use Rattle.build_required.proofs.count_at.Goals as goal

pub returns-then-found-group : goal.returns-then-found-group
returns-then-found-group c = sym (count_not _ _ _ c.if-found-group.true)

pub returns-in-Some : goal.returns-in-Some
returns-in-Some c = sym (count-item _ _ _ c.if-found-group.false _ _ (sym c.item_of.ensures ∙ c.in-Some.is))

pub returns-in-None : goal.returns-in-None
returns-in-None c = sym (count-nowhere _ _ _ c.if-found-group.false (sym c.item_of.ensures ∙ c.in-None.is))
