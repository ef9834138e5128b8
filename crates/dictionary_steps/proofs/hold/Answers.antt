-- `hold` meets its contract: an empty component adds nothing.
use borrow.Author.Tests.{eq-eqb, ne_eqb}
use Rattle.dictionary_rules.specs.Step.{held_with, held_also}
use Rattle.dictionary_steps.proofs.hold.Goals as goal

pub returns-then-component-eq0 : goal.returns-then-component-eq0
unfolding held_with
returns-then-component-eq0 c = rw (eq-eqb _ _ c.if-component-eq0.true)

pub returns-in-Empty : goal.returns-in-Empty
unfolding held_with held_also
returns-in-Empty c = rw (ne_eqb _ _ c.if-component-eq0.false, c.in-Empty.is)

pub returns-in-Only : goal.returns-in-Only
unfolding held_with held_also
returns-in-Only c = rw (ne_eqb _ _ c.if-component-eq0.false, c.in-Only.is)

pub returns-in-Several : goal.returns-in-Several
unfolding held_with held_also
returns-in-Several c = rw (ne_eqb _ _ c.if-component-eq0.false, c.in-Several.is)
