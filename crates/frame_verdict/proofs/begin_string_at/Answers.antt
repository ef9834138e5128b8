use Rattle.std.proofs.Common.{◌≡◌, ◌+◌, ◌-◌, sym, ◌∙◌, arith}
use Rattle.frame_verdict_rules.specs.Readers.{begin_string}
use Rattle.frame_verdict.proofs.Loops.{text-ends, text-early, text-late, text-goes, text-none}
use Rattle.frame_verdict.proofs.begin_string_at.Goals as goal

pub loop-place-init : goal.loop-place-init
unfolding begin_string
loop-place-init c = let none : c.args.at - c.args.at ≡ 0 = omega arith in record { few = omega arith; outcome = rw none }

pub returns-then-read-eq0 : goal.returns-then-read-eq0
returns-then-read-eq0 c = sym (c.loop-place.invariant.outcome ∙ text-early _ c.loop-place.place _ _ (omega arith) c.if-bytes-place-eq-SEPARATOR.true (λ z. omega (arith, z)))

pub returns-then-bytes-place-eq-SEPARATOR : goal.returns-then-bytes-place-eq-SEPARATOR
returns-then-bytes-place-eq-SEPARATOR c = sym (c.loop-place.invariant.outcome ∙ text-ends _ c.loop-place.place _ _ (omega arith) c.if-bytes-place-eq-SEPARATOR.true (omega arith))

pub returns-then-read-eq16 : goal.returns-then-read-eq16
returns-then-read-eq16 c = sym (c.loop-place.invariant.outcome ∙ text-late _ c.loop-place.place _ _ (omega arith) c.if-bytes-place-eq-SEPARATOR.false (omega arith))

pub loop-place-preserved : goal.loop-place-preserved
loop-place-preserved c =
    let read = c.loop-place.place - c.args.at in
    let least : 1 - read - 1 ≡ 1 - (c.loop-place.place + 1 - c.args.at) = omega arith in
    let most : 16 - read - 1 ≡ 16 - (c.loop-place.place + 1 - c.args.at) = omega arith in
    record {
      few = omega arith;
      outcome = rw (← least, ← most) (c.loop-place.invariant.outcome ∙ text-goes _ c.loop-place.place _ _ (omega arith) c.if-bytes-place-eq-SEPARATOR.false (λ z. omega (arith, z)));
    }

pub returns : goal.returns
returns c = sym (c.loop-place.invariant.outcome ∙ text-none _ c.loop-place.place _ _ (omega arith))
