-- `is_incomplete` meets its contract, by its tests in their order.
use mathlib.Core.Path.{sym, ◌∙◌}
use Rattle.encoder.specs.Judging.{incomplete_at}
use Rattle.encoder.proofs.is_incomplete.Goals as goal

pub returns-then-not-holds : goal.returns-then-not-holds
unfolding incomplete_at
returns-then-not-holds c = rw (sym c.holds.ensures ∙ c.if-not-holds.true)

pub returns-then-not-holds-2 : goal.returns-then-not-holds-2
unfolding incomplete_at
returns-then-not-holds-2 c = rw (
  sym c.holds.ensures ∙ c.if-not-holds.false,
  sym c.holds-2.ensures ∙ c.if-not-holds-2.true,
)

pub returns-then-has_run : goal.returns-then-has_run
unfolding incomplete_at
returns-then-has_run c = rw (
  sym c.holds.ensures ∙ c.if-not-holds.false,
  sym c.holds-2.ensures ∙ c.if-not-holds-2.false,
  sym c.has_run.ensures ∙ c.if-has_run.true,
)

pub returns : goal.returns
unfolding incomplete_at
returns c = rw (
  sym c.holds.ensures ∙ c.if-not-holds.false,
  sym c.holds-2.ensures ∙ c.if-not-holds-2.false,
  sym c.has_run.ensures ∙ c.if-has_run.false,
) c.requires.loose_value
