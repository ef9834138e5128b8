-- `on_component` meets its contract: at top level, and only once.
use mathlib.Core.Path.{sym, ◌∙◌}
use Rattle.dictionary_rules.specs.Step.{on_component, at_top_lem, once_component}
use Rattle.dictionary_rules.specs.Index.{looks_at}
use Rattle.dictionary_steps.proofs.on_component.Goals as goal

pub returns-in_default : goal.returns-in_default
unfolding on_component at_top_lem
returns-in_default c = rw c.in_default.is

pub returns-in_default-component_of : goal.returns-in_default-component_of
unfolding on_component at_top_lem once_component looks_at
returns-in_default-component_of c = rw (c.in-TopLevel.is, sym c.component_of.ensures ∙ c.in_default-component_of.is)

pub returns : goal.returns
unfolding on_component at_top_lem once_component looks_at
returns c = rw (c.in-TopLevel.is, sym c.component_of.ensures ∙ c.in-None.is, c.fresh.ensures)
