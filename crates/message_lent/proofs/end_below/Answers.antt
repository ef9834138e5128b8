use mathlib.Core.Path.{sym, ◌∙◌}
use native.Mathlib.Omega.{arith}
use Rattle.message_maps.specs.RowsLaws.{end-here, end-end}
use Rattle.message_lent.specs.CountedLaws.{link, link_bounds, end-link}
use Rattle.message_lent.proofs.end_below.Goals as goal

pub returns-then-level_of-level-clause-value : goal.returns-then-level_of-level-clause-value
returns-then-level_of-level-clause-value c =
    sym (c.loop-i.invariant.2 ∙ end-here c.args.words.now c.loop-i.i c.args.to c.loop-i-test.true c.args.level (omega (arith, c.level_of.ensures)))

pub loop-i-smaller : goal.loop-i-smaller
loop-i-smaller c = omega (arith, (link_bounds c.args.words.now c.args.to c.loop-i.i _ c.loop-i-test.true (link _ _ _ _ c.loop-i.i c.requires.4 c.loop-i.invariant.0 c.loop-i-test.true)).0, c.loop-i-test.true)

pub loop-i-preserved : goal.loop-i-preserved
loop-i-preserved c = let bound = link_bounds c.args.words.now c.args.to c.loop-i.i _ c.loop-i-test.true (link _ _ _ _ c.loop-i.i c.requires.4 c.loop-i.invariant.0 c.loop-i-test.true) in (
  omega (arith, bound.0, c.loop-i.invariant.0),
  bound.1,
  c.loop-i.invariant.2 ∙ end-link c.args.words.now c.args.to c.loop-i.i _ c.loop-i-test.true (link _ _ _ _ c.loop-i.i c.requires.4 c.loop-i.invariant.0 c.loop-i-test.true) c.args.level
      (omega (arith, c.level_of.ensures, c.if-level_of-level.false)),
)

pub returns-clause-value : goal.returns-clause-value
returns-clause-value c = sym (c.loop-i.invariant.2 ∙ end-end c.args.words.now c.loop-i.i c.args.to c.loop-i-test.false c.args.level)
