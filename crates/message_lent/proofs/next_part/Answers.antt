-- `next_part` meets its contract, by its three cases.
use mathlib.Core.Path.{sym, ◌∙◌}
use native.Mathlib.Omega.{arith}
use borrow.Author.Tests.{eq-eqb, ne_eqb}
use Rattle.message_lent_rules.specs.Lent.{next_part}
use Rattle.message_lent.proofs.next_part.Goals as goal

pub returns-then-level_of-ne0 : goal.returns-then-level_of-ne0
unfolding next_part
returns-then-level_of-ne0 c = record { value = rw (ne_eqb _ 0 (λ e. c.if-level_of-ne0.true (c.level_of.ensures ∙ e))); upper_bound = omega arith }

pub returns-then-is_part : goal.returns-then-is_part
unfolding next_part
returns-then-is_part c = record { value = rw (eq-eqb _ 0 (sym c.level_of.ensures ∙ c.if-level_of-ne0.false), sym c.is_part.ensures ∙ c.if-is_part.true); upper_bound = omega arith }

pub returns : goal.returns
unfolding next_part
returns c = record { value = rw (eq-eqb _ 0 (sym c.level_of.ensures ∙ c.if-level_of-ne0.false), sym c.is_part.ensures ∙ c.if-is_part.false); upper_bound = omega arith }
