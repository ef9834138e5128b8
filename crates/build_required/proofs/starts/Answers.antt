-- `starts` meets its contract: only a record of the run's depth is compared with the delimiter.
use Rattle.std.proofs.Common.{sym, ◌∙◌, ne_eqb}
use Rattle.build_required_rules.specs.RequiredLaws.{starts_not, starts-own}
use Rattle.build_required.proofs.starts.Goals as goal

pub returns-then-found-group : goal.returns-then-found-group
returns-then-found-group c = c.opens.ensures ∙ sym (starts-own _ _ _ c.if-found-group.true)

pub returns-else-found-group : goal.returns-else-found-group
returns-else-found-group c = ne_eqb _ _ c.if-found-group.false ∙ sym (starts_not _ _ _ c.if-found-group.false)
