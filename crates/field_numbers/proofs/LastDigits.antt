-- A number's last digits, the highest of them first. As many as the number has are all that it has, and taking the highest off leaves those
-- of a smaller number: so its digits can be written one after the other from the highest down.
use Rattle.std.proofs.Common.{◌≡◌, ℕ, zero, suc, ◌+◌, ◌*◌, ◌/◌, ◌%◌, ◌^◌, ◌<◌, List, [], ◌∷◌, ◌++◌, length, sym, refl, mul_assoc, pow-suc, add-one, arith, length-append}
use Rattle.field_rules.specs.Decimal.{decimal}
use Rattle.field_rules.proofs.DecimalLaws.{by_tenths, decimal_small, decimal_step, decimal-length-step}

-- the last digits of a number, as many as are asked for: zeros lead where it has fewer
unfoldable pub last_digits : ℕ → ℕ → List ℕ
last_digits zero n = []
last_digits (suc more) n = last_digits more (n / 10) ++ ((48 + n % 10) ∷ [])

pub last-length : (count n : ℕ) → length (last_digits count n) ≡ count
unfolding last_digits
last-length zero n = refl
last-length (suc more) n = rw (length-append, last-length more (n / 10), add-one)

pub last-all : (n : ℕ) → last_digits (length (decimal n)) n ≡ decimal n
unfolding last_digits
last-all =
    by_tenths (λ n. last_digits (length (decimal n)) n ≡ decimal n)
    (λ n h. let one : n % 10 ≡ n = omega arith in rw (decimal_small n h, one))
    (λ n h r. rw (decimal-length-step n h, decimal_step n h, add-one, r))

-- the highest of them comes first, and the others are those of what is left below it
pub last-first : (more digit rest : ℕ) → digit < 10 → rest < 10 ^ more
    → last_digits (suc more) (digit * 10 ^ more + rest) ≡ (48 + digit) ∷ last_digits more rest
unfolding last_digits
last-first zero digit rest small fits = let one : (digit * 1 + rest) % 10 ≡ digit = omega arith in rw one
last-first (suc more) digit rest small fits =
    let power : digit * 10 ^ suc more ≡ digit * 10 ^ more * 10 = rw pow-suc (sym (mul_assoc digit (10 ^ more) 10)) in
    let tenth : (digit * 10 ^ suc more + rest) / 10 ≡ digit * 10 ^ more + rest / 10 = omega arith in
    let lowest : (digit * 10 ^ suc more + rest) % 10 ≡ rest % 10 = omega arith in
    rw (tenth, lowest, last-first more digit (rest / 10) small (omega (arith, pow-suc 10 more)))
