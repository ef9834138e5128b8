use mathlib.Core.Path.{◌≡◌, sym, ◌∙◌}
use native.Mathlib.Omega.{arith}
use Rattle.message_maps.specs.RowsLaws.{end-here, end_on, end-end}
use Rattle.message_maps.proofs.end_of.Goals as goal

pub returns-then-level_of-level : goal.returns-then-level_of-level
returns-then-level_of-level c = sym (c.loop-i.invariant ∙ end-here c.args.words.now c.loop-i.i c.args.to c.loop-i-test.true c.args.level
    (omega (arith, c.level_of.ensures)))

pub loop-i-preserved : goal.loop-i-preserved
loop-i-preserved c = c.loop-i.invariant ∙ end_on c.args.words.now c.loop-i.i c.args.to c.loop-i-test.true c.args.level (omega (arith, c.level_of.ensures))

pub returns : goal.returns
returns c = let e : c.loop-i.i ≡ c.args.to = omega (arith, c.loop-i-test.false) in sym (c.loop-i.invariant ∙ end-end _ _ _ c.loop-i-test.false _ ∙ e)
