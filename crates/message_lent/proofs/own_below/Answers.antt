use mathlib.Core.Path.{sym, ◌∙◌}
use native.Mathlib.Omega.{arith}
use Rattle.message_lent_rules.specs.LentLaws.{own-none, own-here, own-end}
use Rattle.message_lent.specs.CountedLaws.{link, link_bounds, own-link}
use Rattle.message_lent.proofs.own_below.Goals as goal

pub returns-then-level_of-level : goal.returns-then-level_of-level
returns-then-level_of-level c = sym (c.loop-i.invariant.2 ∙ own-none c.args.words.now c.loop-i.i c.args.to c.loop-i-test.true c.args.level
    (omega (arith, c.level_of.ensures)))

pub returns-then-is_own : goal.returns-then-is_own
returns-then-is_own c = sym (c.loop-i.invariant.2 ∙ own-here c.args.words.now c.loop-i.i c.args.to c.loop-i-test.true c.args.level
    (omega (arith, c.level_of.ensures)) (sym c.is_own.ensures ∙ c.if-is_own.true))

pub loop-i-smaller : goal.loop-i-smaller
loop-i-smaller c = omega (arith, (link_bounds c.args.words.now c.args.to c.loop-i.i _ c.loop-i-test.true (link _ _ _ _ c.loop-i.i c.requires.4 c.loop-i.invariant.0 c.loop-i-test.true)).0, c.loop-i-test.true)

pub loop-i-preserved : goal.loop-i-preserved
loop-i-preserved c = let bound = link_bounds c.args.words.now c.args.to c.loop-i.i _ c.loop-i-test.true (link _ _ _ _ c.loop-i.i c.requires.4 c.loop-i.invariant.0 c.loop-i-test.true) in (
  omega (arith, bound.0, c.loop-i.invariant.0),
  bound.1,
  c.loop-i.invariant.2 ∙ own-link c.args.words.now c.args.to c.loop-i.i _ c.loop-i-test.true (link _ _ _ _ c.loop-i.i c.requires.4 c.loop-i.invariant.0 c.loop-i-test.true) c.args.level
      (omega (arith, c.level_of.ensures, c.if-level_of-level.false)) (sym c.is_own.ensures
      ∙ c.if-is_own.false),
)

pub returns : goal.returns
returns c = sym (c.loop-i.invariant.2 ∙ own-end _ _ _ c.loop-i-test.false _)
