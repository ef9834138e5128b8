use Rattle.std.proofs.Common.{◌≡◌, ◌+◌, ◌-◌, ◌*◌, get_or, sym, ◌∙◌, ⊎_elim, arith}
use Rattle.frame_verdict_rules.specs.Readers.{may_become}
use Rattle.frame_verdict.proofs.Loops.{may_small, length-ends, length-few, length-low, length_high, length_more, length_large, length-goes, length_none}
use Rattle.frame_verdict.proofs.body_length_at.Goals as goal
use Rattle.frame_verdict.proofs.body_length_at.Goals.{After-may_become, then-not-is_ascii_digit-via-then-not-is_ascii_digit, then-not-is_ascii_digit-via-else-not-is_ascii_digit+then-read-eq5}

pub returns-then-n-lt4 : goal.returns-then-n-lt4
returns-then-n-lt4 c = sym (c.loop-place.invariant.outcome ∙ length-few _ c.loop-place.place _ _ _ c.loop-place-test.true c.if-byte-eq-SEPARATOR.true c.if-n-lt4.true)

pub returns-then-byte-eq-SEPARATOR : goal.returns-then-byte-eq-SEPARATOR
returns-then-byte-eq-SEPARATOR c = sym (c.loop-place.invariant.outcome ∙ length-ends _ c.loop-place.place _ _ _ c.loop-place-test.true c.if-byte-eq-SEPARATOR.true c.if-n-lt4.false)

pub returns-then-not-is_ascii_digit : goal.returns-then-not-is_ascii_digit
returns-then-not-is_ascii_digit c = let inside = c.loop-place-test.true in
    sym (c.loop-place.invariant.outcome ∙ elim c.then-not-is_ascii_digit.branch [
      | then-not-is_ascii_digit-via-then-not-is_ascii_digit w ↦ ⊎_elim (length-low _ c.loop-place.place _ _ _ inside c.if-byte-eq-SEPARATOR.false) (length_high _ c.loop-place.place _ _ _ inside c.if-byte-eq-SEPARATOR.false) w.if-not-is_ascii_digit.ensures.cases
      | then-not-is_ascii_digit-via-else-not-is_ascii_digit+then-read-eq5 w ↦
          length_more _ c.loop-place.place _ _ _ inside c.if-byte-eq-SEPARATOR.false w.if-not-is_ascii_digit.ensures.cases.0 w.if-not-is_ascii_digit.ensures.cases.1 (omega (arith, w.if-read-eq5.true))
    ])

-- N and how many digits may follow, as the laws count them
told : (c : After-may_become) → let read = c.loop-place.place - c.args.at in
    c.may_become.result ≡ may_become (5 - read - 1) (c.args.allowed - read - 1) (c.loop-place.n * 10 + (get_or c.args.bytes.now c.loop-place.place 0 - 48))
told c = let fewer : 5 - (c.loop-place.place - c.args.at) - 1 ≡ 4 - (c.loop-place.place - c.args.at) = omega arith in rw (fewer, ← c.from.ensures) c.may_become.ensures

pub returns-then-not-may_become : goal.returns-then-not-may_become
returns-then-not-may_become c =
    let digit = c.if-not-is_ascii_digit.ensures.cases in
    sym (c.loop-place.invariant.outcome ∙ length_large _ c.loop-place.place _ _ _ c.loop-place-test.true c.if-byte-eq-SEPARATOR.false digit.0 digit.1 (λ z. omega (arith, z, c.if-read-eq5.false))
    (sym (told (goal.at.returns-then-not-may_become c).After-may_become) ∙ c.if-not-may_become.true))

pub loop-place-preserved : goal.loop-place-preserved
loop-place-preserved c =
    let digit = c.if-not-is_ascii_digit.ensures.cases in
    let read = c.loop-place.place - c.args.at in
    let may = sym (told (goal.at.loop-place-preserved c).After-may_become) ∙ c.if-not-may_become.false in
    let left : 5 - read - 1 ≡ 5 - (c.loop-place.place + 1 - c.args.at) = omega arith in
    let room : c.args.allowed - read - 1 ≡ c.args.allowed - (c.loop-place.place + 1 - c.args.at) = omega arith in
    record {
      few = omega (arith, c.if-read-eq5.false);
      small = omega (arith, may_small _ _ _ may (omega arith), c.from.ensures);
      outcome = rw (← left, ← room, c.from.ensures) (c.loop-place.invariant.outcome ∙ length-goes _ c.loop-place.place _ _ _ c.loop-place-test.true c.if-byte-eq-SEPARATOR.false digit.0 digit.1 (λ z. omega (arith, z, c.if-read-eq5.false)) may);
    }

pub returns : goal.returns
returns c = sym (c.loop-place.invariant.outcome ∙ length_none _ c.loop-place.place _ _ _ (omega arith))
