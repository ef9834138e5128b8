-- `joins_run` meets its contract: one law for each way.
use mathlib.Core.Path.{refl, sym, ◌∙◌}
use native.Mathlib.Omega.{arith}
use Rattle.message_take_over.specs.Taking.{on_count}
use Rattle.message_take_over.specs.JoinLaws.{run-same, run_skips, run-next}
use Rattle.message_take_over.proofs.joins_run.Goals as goal

pub returns-then-taken-number : goal.returns-then-taken-number
returns-then-taken-number c = sym (run-same _ _ _ c.if-taken-number.true)

pub returns-then-taken-number-2 : goal.returns-then-taken-number-2
returns-then-taken-number-2 c = sym (run_skips _ _ _ c.if-taken-number.false
    (λ e. c.if-taken-number-2.true (omega (arith, e))))

pub returns-in_default : goal.returns-in_default
returns-in_default c = sym (run-next _ _ _ c.if-taken-number.false (omega (arith, c.if-taken-number-2.false)) _ (sym c.nearest_before.ensures
    ∙ c.in_default.is) ∙ (unfold on_count in refl))

pub returns : goal.returns
returns c = sym (run-next _ _ _ c.if-taken-number.false (omega (arith, c.if-taken-number-2.false)) _ (sym c.nearest_before.ensures
    ∙ c.in-Some.is) ∙ (unfold on_count in refl))
