-- `joins_of` meets its contract: one law for each way that looking back goes.
use mathlib.Core.Path.{sym, ◌∙◌}
use native.Mathlib.Omega.{arith}
use Rattle.message_take_over.specs.JoinLaws.{joins-own, joins-numbered, joins-first, joins-other, joins-run, joins_skips, joins-late, joins-count}
use Rattle.message_take_over.proofs.joins_of.Goals as goal

pub returns-then-taken-eq0-2 : goal.returns-then-taken-eq0-2
returns-then-taken-eq0-2 c = sym (joins-own _ _ c.if-taken-eq0.true c.if-taken-eq0-2.true)

pub returns-then-taken-eq0 : goal.returns-then-taken-eq0
returns-then-taken-eq0 c = sym (joins-numbered _ _ c.if-taken-eq0.true c.if-taken-eq0-2.false)

pub returns-in_default : goal.returns-in_default
returns-in_default c = sym (joins-first _ _ c.if-taken-eq0.false (sym c.nearest_before.ensures ∙ c.in_default.is))

pub returns-then-before-taken : goal.returns-then-before-taken
returns-then-before-taken c = sym (joins-other _ _ c.if-taken-eq0.false _ (sym c.nearest_before.ensures ∙ c.in-Some.is) c.if-before-taken.true)

pub returns-then-before-taken-2 : goal.returns-then-before-taken-2
returns-then-before-taken-2 c = c.joins_run.ensures ∙ sym (joins-run _ _ c.if-taken-eq0.false _ (sym c.nearest_before.ensures ∙ c.in-Some.is) c.if-before-taken.false c.if-before-taken-2.true)

pub returns-then-taken-before : goal.returns-then-taken-before
returns-then-taken-before c = sym (joins_skips _ _ c.if-taken-eq0.false _ (sym c.nearest_before.ensures ∙ c.in-Some.is) c.if-before-taken.false c.if-before-taken-2.false
    (λ e. c.if-taken-before.true (omega (arith, e))))

pub returns-then-taken-ne1 : goal.returns-then-taken-ne1
returns-then-taken-ne1 c = sym (joins-late _ _ c.if-taken-eq0.false _ (sym c.nearest_before.ensures ∙ c.in-Some.is) c.if-before-taken.false c.if-before-taken-2.false
    (omega (arith, c.if-taken-before.false)) c.if-taken-ne1.true)

pub returns : goal.returns
returns c = sym (joins-count _ _ c.if-taken-eq0.false _ (sym c.nearest_before.ensures ∙ c.in-Some.is) c.if-before-taken.false c.if-before-taken-2.false
    (omega (arith, c.if-taken-before.false)) c.if-taken-ne1.false)
