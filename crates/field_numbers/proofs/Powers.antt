-- A number has one digit, and one more for each power of ten that it reaches: by tenths, as its digits are.
-- A number of two digits or more reaches ten, and its tenth reaches a tenth of each further power that it reaches.
use Rattle.std.proofs.Common.{◌≡◌, ℕ, zero, suc, ◌+◌, ◌*◌, ◌/◌, ◌^◌, ◌<◌, ◌≤◌, Bool, true, false, leb, length, refl, ap, ⊎_elim, pow-suc, add-one, arith, le-leb, leb-false, leb-true}
use native.Mathlib.Nat.{one-le-pow}
use borrow.Author.Tests.{lt-leb}
use Rattle.field_rules.specs.Choice.{pick}
use Rattle.field_rules.specs.Decimal.{decimal}
use Rattle.field_rules.proofs.DecimalLaws.{one_digit_or_more, by_tenths, digits_within, decimal_small, decimal-some, decimal-length-step}

-- how many of the bounds a number reaches, each bound ten times the one before
unfoldable pub reached : ℕ → ℕ → ℕ → ℕ
reached zero bound n = 0
reached (suc more) bound n = pick (leb bound n) 1 0 + reached more (bound * 10) n

tenth_reaches : (bound n : ℕ) → leb (bound * 10) n ≡ leb bound (n / 10)
tenth_reaches bound n = by_test (leb bound (n / 10)) refl
  where
    by_test : (b : Bool) → leb bound (n / 10) ≡ b → leb (bound * 10) n ≡ b
    by_test true h = let z = leb-true bound (n / 10) h in le-leb (bound * 10) n (omega arith)
    by_test false h = let z = leb-false bound (n / 10) h in lt-leb (bound * 10) n (omega arith)

reached_tenth : (more bound n : ℕ) → reached more (bound * 10) n ≡ reached more bound (n / 10)
unfolding reached
reached_tenth zero bound n = refl
reached_tenth (suc more) bound n = rw (tenth_reaches bound n, reached_tenth more (bound * 10) n)

reached-none : (more bound n : ℕ) → n < bound → reached more bound n ≡ 0
unfolding reached
reached-none zero bound n h = refl
reached-none (suc more) bound n h = rw (lt-leb bound n h, reached-none more (bound * 10) n (omega arith))

pub digits_reached : (more n : ℕ) → n < 10 ^ suc more → length (decimal n) ≡ 1 + reached more 10 n
unfolding reached
digits_reached zero n h = ap length (decimal_small n (omega arith))
digits_reached (suc more) n h =
    ⊎_elim (λ s. omega (arith, ap length (decimal_small n s), reached-none (suc more) 10 n s))
    (λ s. rw (le-leb 10 n s)
    (omega (arith, decimal-length-step n s, reached_tenth more 10 n, digits_reached more (n / 10) (omega (arith, pow-suc 10 (suc more))))))
    (one_digit_or_more n)

-- a number that reaches a power of ten has more digits than the power has zeros
pub digits_over : (zeros n : ℕ) → 10 ^ zeros ≤ n → zeros < length (decimal n)
digits_over zero n h = decimal-some n
digits_over (suc zeros) n h =
    let power = pow-suc 10 zeros in
    let some = one-le-pow zeros 10 (omega arith) in
    omega (arith, decimal-length-step n (omega arith), digits_over zeros (n / 10) (omega arith))

-- between two powers of ten a number has as many digits as the higher one has zeros
pub digits_between : (zeros n : ℕ) → 10 ^ zeros ≤ n → n < 10 ^ suc zeros → suc zeros ≡ length (decimal n)
digits_between zeros n over below = omega (arith, digits_over zeros n over, digits_within zeros n below)

-- a number is below the power of ten that has as many zeros as it has digits
pub digits_below : (n : ℕ) → n < 10 ^ length (decimal n)
digits_below =
    by_tenths (λ n. n < 10 ^ length (decimal n)) (λ n h. rw (decimal_small n h) h)
    (λ n h r. rw (decimal-length-step n h, add-one, pow-suc) (omega arith))
