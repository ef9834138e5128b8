-- `at_end` meets its contract: left open, then component 0, then 1.
use mathlib.Core.Path.{sym, ◌∙◌}
use Rattle.dictionary_rules.specs.Step.{at_end, present}
use Rattle.dictionary_rules.specs.Index.{looks_at}
use Rattle.dictionary_steps.proofs.at_end.Goals as goal

pub returns-in_default : goal.returns-in_default
unfolding at_end
returns-in_default c = rw c.in_default.is

pub returns-in_default-component_of : goal.returns-in_default-component_of
unfolding at_end present looks_at
returns-in_default-component_of c = rw (
  c.in-TopLevel.is,
  sym c.component_of.ensures ∙ c.in_default-component_of.is,
)

pub returns-in_default-component_of-2 : goal.returns-in_default-component_of-2
unfolding at_end present looks_at
returns-in_default-component_of-2 c = rw (
  c.in-TopLevel.is,
  sym c.component_of.ensures ∙ c.in-Some.is,
  sym c.component_of-2.ensures ∙ c.in_default-component_of-2.is,
)

pub returns : goal.returns
unfolding at_end present looks_at
returns c = rw (
  c.in-TopLevel.is,
  sym c.component_of.ensures ∙ c.in-Some.is,
  sym c.component_of-2.ensures ∙ c.in-Some-component_of.is,
)
