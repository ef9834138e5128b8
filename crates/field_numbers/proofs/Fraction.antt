-- A fraction gives a number's digits from the highest down: its whole part is the digit that comes next, and ten times what stands behind
-- the point gives the others. No digit moves the bounds of what is still ahead, so nothing is lost however many there are.
use Rattle.std.proofs.Common.{◌≡◌, ℕ, suc, ◌+◌, ◌-◌, ◌*◌, ◌/◌, ◌%◌, ◌^◌, ◌<◌, ◌≤◌, length, ap, ◌∙◌, mul-le-mul_right, mod-lt, mul_assoc, add-mul, lt_of_mul-lt-mul_right, pow-suc, div-add-mod', mul_right_comm, arith}
use native.Mathlib.Nat.{one-le-pow, pow-le-pow_right}
use Rattle.field_rules.specs.Decimal.{decimal}
use Rattle.field_rules.proofs.DecimalLaws.{decimal-length}
use Rattle.field_numbers.specs.Fraction.{Ahead, one}
use Rattle.field_numbers.proofs.Powers.{digits_below}

-- the quotient and one part more has all digits ahead: 10 ^ 9 is less than 2 ^ 32, so the part is less than one in the last digit is worth
pub ahead-start : (n count power : ℕ) → n < 2 ^ 32 → count ≡ length (decimal n) → power * 10 ≡ 10 ^ count → Ahead n count (n * one / power + 1)
ahead-start n count power fits all tenfold =
    let some = one-le-pow count 10 (omega arith) in
    let few = pow-le-pow_right {n = 10} (omega arith) {i = count} {j = 10} (omega (arith, decimal-length n fits)) in
    let whole = div-add-mod' (n * one) power in
    let part = mod-lt (n * one) {m = power} (omega arith) in
    let product : (n * one / power + 1) * 10 ^ count ≡ (n * one / power * power + power) * 10 =
    rw (← tenfold, ← mul_assoc (n * one / power + 1) power 10, add-mul) (omega arith) in
    record {
      digits = rw all (digits_below n);
      low = rw product (omega arith);
      high = rw product (omega arith);
    }

-- the highest digit is taken: `lower` is what stands below it, whose digits are ahead then
pub record Taken (rest left fraction : ℕ) : Type 0 where
  pub lower : ℕ
  pub small : fraction / one < 10
  pub parts : rest ≡ fraction / one * 10 ^ left + lower
  pub ahead : Ahead lower left (fraction % one * 10)

times_power : (digit behind power : ℕ) → (digit * one + behind) * (power * 10) ≡ (digit * power * one + behind * power) * 10
times_power digit behind power = rw (← mul_assoc (digit * one + behind) power 10, add-mul, mul_right_comm digit one power)

pub ahead-taken : (rest left fraction : ℕ) → Ahead rest (suc left) fraction → Taken rest left fraction
ahead-taken rest left fraction ahead =
    let digit = fraction / one in
    let behind = fraction % one in
    let tenfold = pow-suc 10 left in
    let below : fraction < 10 * one = lt_of_mul-lt-mul_right (10 ^ suc left) (omega (arith, ahead.digits, ahead.high)) in
    let whole : fraction ≡ digit * one + behind = omega arith in
    let product : fraction * 10 ^ suc left ≡ (digit * 10 ^ left * one + behind * 10 ^ left) * 10 =
    ap (λ (f : ℕ). f * 10 ^ suc left) whole ∙ rw tenfold (times_power digit behind (10 ^ left)) in
    let part : behind * 10 ^ left ≤ 4294967295 * 10 ^ left = mul-le-mul_right (10 ^ left) (omega arith) in
    let next = mul_right_comm behind 10 (10 ^ left) in
    record {
      lower = rest - digit * 10 ^ left;
      small = omega arith;
      parts = omega (arith, ahead.low, ahead.high);
      ahead = record { digits = omega (arith, ahead.low); low = omega (arith, ahead.low, ahead.high); high = omega (arith, ahead.high) };
    }
