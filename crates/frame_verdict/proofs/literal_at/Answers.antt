use Rattle.std.proofs.Common.{◌≡◌, ◌+◌, length, sym, ap, ◌∙◌, arith}
use Rattle.frame_verdict_rules.specs.Verdict.{stage_of}
use Rattle.frame_verdict.proofs.Loops.{literal-goes, literal-bad, literal-short, literal-on}
use Rattle.frame_verdict.proofs.literal_at.Goals as goal

pub returns-then-place-bytes : goal.returns-then-place-bytes
returns-then-place-bytes c = sym (c.loop-i.invariant.outcome ∙ literal-short _ _ c.loop-i.i _ (omega arith) (omega arith))

pub returns-then-bytes-place : goal.returns-then-bytes-place
returns-then-bytes-place c = sym (c.loop-i.invariant.outcome ∙ literal-bad _ _ c.loop-i.i _ (omega arith) (omega arith) (λ e. c.if-bytes-place.true (sym e)))

pub loop-i-preserved : goal.loop-i-preserved
loop-i-preserved c = let next : c.args.at + (c.loop-i.i + 1) ≡ c.args.at + c.loop-i.i + 1 = omega arith in record {
  within = omega arith;
  outcome = rw next (c.loop-i.invariant.outcome ∙ ap (stage_of _) (literal-goes _ _ c.loop-i.i (c.args.at + c.loop-i.i) (omega arith) (omega arith) (sym c.if-bytes-place.false)));
}

pub returns : goal.returns
returns c =
    let end : c.loop-i.i ≡ length c.args.wanted.now = omega arith in
    rw (← end) (sym (c.loop-i.invariant.outcome ∙ literal-on _ _ c.loop-i.i _ (omega arith) (omega arith)))
