use mathlib.Core.Path.{sym, ap, ◌∙◌}
use Prim.Native.Nat.{ℕ, ◌+◌, ◌-◌}
use native.Mathlib.Omega.{arith}
use Rattle.message_maps.specs.Rows.{rows_from}
use Rattle.message_lent_rules.specs.Lent.{parts_from}
use Rattle.message_lent_rules.specs.LentLaws.{parts_not, parts-on, parts-end}
use Rattle.message_lent.proofs.has_parts.Goals as goal

pub returns-then-next-eq0 : goal.returns-then-next-eq0
returns-then-next-eq0 c = sym (c.loop-i.invariant.1 ∙ parts_not c.args.words.now c.loop-i.i c.args.to c.loop-i-test.true c.loop-i.part
    (sym c.next_part-next.ensures.value ∙ c.if-next-eq0.true))

pub loop-i-preserved : goal.loop-i-preserved
loop-i-preserved c = (
  omega (arith, c.next_part-next.ensures.upper_bound, c.loop-i.invariant.0),
  c.loop-i.invariant.1 ∙ parts-on c.args.words.now c.loop-i.i c.args.to c.loop-i-test.true c.loop-i.part
      (λ e. c.if-next-eq0.false (c.next_part-next.ensures.value ∙ e))
      ∙ ap (λ (p : ℕ). parts_from p (rows_from (c.args.to - (c.loop-i.i + 1)) (c.loop-i.i + 1) c.args.words.now))
      (sym c.next_part-next.ensures.value),
)

pub returns : goal.returns
returns c = sym (c.loop-i.invariant.1 ∙ parts-end _ _ _ c.loop-i-test.false _)
