use Rattle.std.proofs.Common.{◌+◌, ◌-◌, ◌*◌, get_or, drop, sym, ◌∙◌, ⊎_elim, arith}
use borrow.Author.Tests.{eqb-true, eqb-false}
use Rattle.field_rules.proofs.NumberLaws.{digit_step, digit_low, digit_high, digit_end, worth-step, worth-end, worth-least, number-empty, number-bad, number_large, number_good}
use Rattle.field_numbers.proofs.number_of.Goals as goal

pub returns-then-is_empty : goal.returns-then-is_empty
returns-then-is_empty c = sym (number-empty _ (eqb-true _ _ (sym c.if-is_empty.ensures)))

pub returns-then-not-is_ascii_digit : goal.returns-then-not-is_ascii_digit
returns-then-not-is_ascii_digit c = let h = c.loop-byte-test.true in
    sym (number-bad _ (c.loop-byte.invariant.digits ∙ ⊎_elim (digit_low _ _ h) (digit_high _ _ h) c.if-not-is_ascii_digit.ensures.cases))

pub returns-then-n-gt4294967295 : goal.returns-then-n-gt4294967295
returns-then-n-gt4294967295 c = let s = c.args.text.now in
    let i = c.loop-byte.byte-index in
    sym (number_large s (rw (c.loop-byte.invariant.value ∙ worth-step s _ _ c.loop-byte-test.true)
    (omega (arith, worth-least (drop (i + 1) s) (c.loop-byte.n * 10 + (get_or s i 0 - 48))))))

pub loop-byte-preserved : goal.loop-byte-preserved
loop-byte-preserved c = let h = c.loop-byte-test.true in
    let digit = c.if-not-is_ascii_digit.ensures.cases in
    record {
      small = omega arith;
      digits = c.loop-byte.invariant.digits ∙ digit_step _ _ h digit.0 digit.1;
      value = c.loop-byte.invariant.value ∙ worth-step _ _ _ h ∙ rw c.from.ensures;
    }

pub returns : goal.returns
returns c = let h = c.loop-byte-test.false in
    sym (number_good _ _ (eqb-false _ _ (sym c.if-is_empty.ensures)) (c.loop-byte.invariant.digits ∙ digit_end _ _ h) (c.loop-byte.invariant.value ∙ worth-end _ _ _ h) c.loop-byte.invariant.small)
