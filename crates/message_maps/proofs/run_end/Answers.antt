use mathlib.Core.Path.{◌≡◌, sym, ◌∙◌}
use native.Mathlib.Omega.{arith}
use Rattle.message_maps.specs.RowsLaws.{run-end-here, run-end-on, run-end-end}
use Rattle.message_maps.proofs.run_end.Goals as goal

pub returns-then-not-in_run : goal.returns-then-not-in_run
returns-then-not-in_run c = sym (c.loop-i.invariant ∙ run-end-here _ _ _ c.loop-i-test.true _ _ (sym c.in_run.ensures ∙ c.if-not-in_run.true))

pub loop-i-preserved : goal.loop-i-preserved
loop-i-preserved c = c.loop-i.invariant ∙ run-end-on _ _ _ c.loop-i-test.true _ _ (sym c.in_run.ensures ∙ c.if-not-in_run.false)

pub returns : goal.returns
returns c = let e : c.loop-i.i ≡ c.args.to = omega (arith, c.loop-i-test.false) in sym (c.loop-i.invariant ∙ run-end-end _ _ _ c.loop-i-test.false _ _ ∙ e)
