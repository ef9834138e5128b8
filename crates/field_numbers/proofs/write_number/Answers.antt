use Rattle.std.proofs.Common.{◌≡◌, suc, ◌+◌, ◌-◌, ◌<◌, length, sym, arith}
use Rattle.field_rules.specs.Decimal.{decimal}
use Rattle.field_rules.proofs.DecimalLaws.{decimal-some, answer_fits, answer-none, written_none}
use Rattle.field_numbers.proofs.Turns.{turn_start, turn_digit, turn_again, turn_end}
use Rattle.field_numbers.proofs.write_number.Goals as goal

pub returns-then-output-at : goal.returns-then-output-at
returns-then-output-at c =
    let short : length c.args.output.now < c.args.at + length (decimal c.args.n) = omega (arith, c.digits_of-digits.ensures.0, decimal-some c.args.n) in
    record { value = sym (answer-none _ _ _ short); output_after = sym (written_none _ _ _ short) }

pub loop-place-init : goal.loop-place-init
loop-place-init c =
    let all : c.args.at + c.digits_of-digits.result.count - c.args.at ≡ c.digits_of-digits.result.count = omega arith in
    rw all (turn_start _ _ _ _ _ c.digits_of-digits.ensures.0 c.digits_of-digits.ensures.1 (omega arith))

pub overflow_cast-output : goal.overflow_cast-output
overflow_cast-output c = omega (arith, turn_digit _ _ _ _ _ c.loop-place.invariant (omega arith))

pub overflow_add-output : goal.overflow_add-output
overflow_add-output c = omega (arith, turn_digit _ _ _ _ _ c.loop-place.invariant (omega arith))

pub loop-place-preserved : goal.loop-place-preserved
loop-place-preserved c =
    let end = c.args.at + c.digits_of-digits.result.count in
    let left : end - c.loop-place.place ≡ suc (end - (c.loop-place.place + 1)) = omega arith in
    turn_again _ _ _ _ _ (rw left at c.loop-place.invariant)

pub returns : goal.returns
returns c =
    let all = c.digits_of-digits.ensures.0 in
    record { value = rw all (sym (answer_fits _ _ _ (omega (arith, all)))); output_after = turn_end _ _ _ _ _ c.loop-place.invariant (omega arith) }
