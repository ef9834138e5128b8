-- The digits of a number, without fuel: one digit below ten, else the digits of the tenth and one digit more.
-- Every other law follows by that recursion, and reading the digits is the way back.
use Rattle.std.specs.Prelude.{◌≡◌, refl, ◌⊎◌, Bool, true, false, List, [], ◌∷◌, ◌++◌, ℕ, zero, suc, ◌+◌, ◌-◌, ◌*◌, ◌/◌, ◌%◌, ◌^◌, ◌≤◌, ◌<◌, length, get_or, take, drop, leb, ltb}
use Rattle.std.proofs.Common.{sym, ap, ◌∙◌, inl, inr, ⊎_elim, append_assoc, append-nil, pow-suc, arith, length-append, length-take, length-drop, drop_of_length-le, take_all, drop-drop, ltb-true, ltb-false, lt-ltb, le-ltb, le-leb, leb-true, leb-false, Some, None}
use Rattle.std.proofs.Math.ListN.{get_or-append}
use Rattle.std.proofs.Math.Seq.{take-length}
use Rattle.std.proofs.lemmas.Bool.{lt-leb}
use Rattle.field_rules.specs.Choice.{pick}
use Rattle.field_rules.specs.Number.{is_digit, all_digits, worth, number_in, tag_of}
use Rattle.field_rules.proofs.NumberLaws.{number_good, tag_good}
use Rattle.field_rules.specs.CheckSum.{checksum_of, checksum_digits}
use Rattle.field_rules.specs.Decimal.{decimal_within, decimal, written_at, answer_at}

pub one_digit_or_more : (n : ℕ) → (n < 10) ⊎ (10 ≤ n)
one_digit_or_more n = by_test (ltb n 10) refl
  where
    by_test : (b : Bool) → ltb n 10 ≡ b → (n < 10) ⊎ (10 ≤ n)
    by_test true h = inl (ltb-true n 10 h)
    by_test false h = inr (ltb-false n 10 h)

-- fuel as large as the number is enough, and more changes nothing
pub within_small : (fuel n : ℕ) → n < 10 → decimal_within fuel n ≡ (48 + n) ∷ []
unfolding decimal_within
within_small zero n h = refl
within_small (suc fuel) n h = rw (lt-ltb n 10 h)

pub within_step : (fuel n : ℕ) → 10 ≤ n → decimal_within (suc fuel) n ≡ decimal_within fuel (n / 10) ++ ((48 + n % 10) ∷ [])
unfolding decimal_within
within_step fuel n h = rw (le-ltb n 10 h)

pub fuel_enough : (fuel more n : ℕ) → n ≤ fuel → n ≤ more → decimal_within fuel n ≡ decimal_within more n
fuel_enough zero more n f m = within_small zero n (omega arith) ∙ sym (within_small more n (omega arith))
fuel_enough (suc fuel) zero n f m = within_small (suc fuel) n (omega arith) ∙ sym (within_small zero n (omega arith))
fuel_enough (suc fuel) (suc more) n f m =
    ⊎_elim (λ h. within_small (suc fuel) n h ∙ sym (within_small (suc more) n h))
    (λ h. rw (within_step fuel n h, within_step more n h, fuel_enough fuel more (n / 10) (omega arith) (omega arith)))
    (one_digit_or_more n)

pub decimal_small : (n : ℕ) → n < 10 → decimal n ≡ (48 + n) ∷ []
unfolding decimal
decimal_small n h = within_small n n h

pub decimal_step : (n : ℕ) → 10 ≤ n → decimal n ≡ decimal (n / 10) ++ ((48 + n % 10) ∷ [])
unfolding decimal
decimal_step zero h = absurd (omega arith)
decimal_step (suc n) h =
    within_step n (suc n) h ∙ rw (fuel_enough n (suc n / 10) (suc n / 10) (omega arith) (omega arith))

-- what holds of one digit, and of a number where it holds of its tenth, holds of every number
module _ (P : ℕ → Type 0) (small : (n : ℕ) → n < 10 → P n) (step : (n : ℕ) → 10 ≤ n → P (n / 10) → P n) where
  pub by_tenths_within : (fuel n : ℕ) → n ≤ fuel → P n
  by_tenths_within zero n f = small n (omega arith)
  by_tenths_within (suc fuel) n f =
      ⊎_elim (small n) (λ h. step n h (by_tenths_within fuel (n / 10) (omega arith))) (one_digit_or_more n)

  pub by_tenths : (n : ℕ) → P n
  by_tenths n = by_tenths_within n n (omega arith)

pub decimal-length-step : (n : ℕ) → 10 ≤ n → length (decimal n) ≡ length (decimal (n / 10)) + 1
decimal-length-step n h = rw (decimal_step n h, length-append)

-- a number below a power of ten has at most as many digits as the power has zeros
pub digits_within : (zeros n : ℕ) → n < 10 ^ suc zeros → length (decimal n) ≤ suc zeros
digits_within zero n h = omega (arith, ap length (decimal_small n (omega arith)))
digits_within (suc zeros) n h =
    ⊎_elim (λ s. omega (arith, ap length (decimal_small n s)))
    (λ s. omega (arith, decimal-length-step n s, digits_within zeros (n / 10) (omega (arith, pow-suc 10 (suc zeros)))))
    (one_digit_or_more n)

pub decimal-some : (n : ℕ) → 1 ≤ length (decimal n)
decimal-some n =
    ⊎_elim (λ h. omega (arith, ap length (decimal_small n h))) (λ h. omega (arith, decimal-length-step n h)) (one_digit_or_more n)

pub decimal-length : (n : ℕ) → n < 2 ^ 32 → (1 ≤ length (decimal n)) × (length (decimal n) ≤ 10)
decimal-length n h = (decimal-some n, digits_within 9 n (omega arith))

pub all_digits_cons : (x : ℕ) (s : List ℕ) → 48 ≤ x → x ≤ 57 → all_digits s ≡ true → all_digits (x ∷ s) ≡ true
unfolding all_digits is_digit
all_digits_cons x s low high rest = rw (le-leb 48 x low, le-leb x 57 high, rest)

pub all_digits-first : (x : ℕ) (s : List ℕ) → all_digits (x ∷ s) ≡ true → (48 ≤ x) × (x ≤ 57) × (all_digits s ≡ true)
unfolding all_digits is_digit
all_digits-first x s all = by_tests (leb 48 x) (leb x 57) refl refl all
  where
    by_tests : (a b : Bool) → leb 48 x ≡ a → leb x 57 ≡ b → pick (pick a b false) (all_digits s) false ≡ true → (48 ≤ x) × (x ≤ 57) × (all_digits s ≡ true)
    by_tests true true low high rest = (leb-true 48 x low, leb-true x 57 high, rest)
    by_tests true false low high none = let z : ◌≡◌ {A = ℕ} 0 1 = cc in absurd (omega arith)
    by_tests false b low high none = let z : ◌≡◌ {A = ℕ} 0 1 = cc in absurd (omega arith)

pub all_digits-append : (a b : List ℕ) → all_digits a ≡ true → all_digits b ≡ true → all_digits (a ++ b) ≡ true
all_digits-append [] b p q = q
all_digits-append (x ∷ a) b p q =
    let first = all_digits-first x a p in
    all_digits_cons x (a ++ b) first.0 first.1 (all_digits-append a b first.2 q)

-- the byte of a digit, after which further digits may stand
pub digit_byte : (d : ℕ) (s : List ℕ) → d < 10 → all_digits s ≡ true → all_digits ((48 + d) ∷ s) ≡ true
digit_byte d s h rest = all_digits_cons (48 + d) s (omega arith) (omega arith) rest

pub last_digit : (d : ℕ) → d < 10 → all_digits ((48 + d) ∷ []) ≡ true
unfolding all_digits
last_digit d h = digit_byte d [] h refl

pub decimal_digits : (n : ℕ) → all_digits (decimal n) ≡ true
decimal_digits =
    by_tenths (λ n. all_digits (decimal n) ≡ true) (λ n h. rw (decimal_small n h) (last_digit n h))
    (λ n h r. rw (decimal_step n h) (all_digits-append (decimal (n / 10)) _ r (last_digit (n % 10) (omega arith))))

pub worth-append : (m : ℕ) (a b : List ℕ) → worth m (a ++ b) ≡ worth (worth m a) b
unfolding worth
worth-append m [] b = refl
worth-append m (x ∷ a) b = worth-append (m * 10 + (x - 48)) a b

pub decimal-worth : (n : ℕ) → worth 0 (decimal n) ≡ n
unfolding worth
decimal-worth =
    by_tenths (λ n. worth 0 (decimal n) ≡ n) (λ n h. rw (decimal_small n h) (omega arith))
    (λ n h r. rw (decimal_step n h, worth-append, r) (omega arith))

pub decimal_no_zero : (n : ℕ) → 1 ≤ n → get_or (decimal n) 0 0 ≡ 48 → ⊥
decimal_no_zero =
    by_tenths (λ n. 1 ≤ n → get_or (decimal n) 0 0 ≡ 48 → ⊥) (λ n h p e. let z = rw (decimal_small n h) at e in omega arith)
    (λ n h r p e.
    r (omega arith)
    (sym (get_or-append (decimal (n / 10)) _ 0 0 (decimal-some (n / 10))) ∙ rw (decimal_step n h) at e))

pub number-reads : (n : ℕ) → n ≤ 4294967295 → number_in (decimal n) ≡ Some n
number-reads n h = number_good (decimal n) n (λ e. omega (arith, decimal-some n)) (decimal_digits n) (decimal-worth n) h

pub decimal-reads : (n : ℕ) → 1 ≤ n → n ≤ 4294967295 → tag_of (decimal n) ≡ Some n
decimal-reads n p h = tag_good (decimal n) n (number-reads n h) (λ e. omega arith)

pub checksum_reads : (n : ℕ) → n < 256 → checksum_of (checksum_digits n) ≡ Some n
unfolding checksum_of checksum_digits worth
checksum_reads n h =
    number_good (checksum_digits n) n (λ e. omega arith)
    (digit_byte (n / 100) _ (omega arith) (digit_byte (n / 10 % 10) _ (omega arith) (last_digit (n % 10) (omega arith))))
    (omega arith) (omega arith)

-- a digit read after a number is a digit written after its digits
pub decimal_digit : (m x : ℕ) → 1 ≤ m → 48 ≤ x → x ≤ 57 → decimal (m * 10 + (x - 48)) ≡ decimal m ++ (x ∷ [])
decimal_digit m x some low high =
    let tenth : (m * 10 + (x - 48)) / 10 ≡ m = omega arith in
    let digit : 48 + (m * 10 + (x - 48)) % 10 ≡ x = omega arith in
    decimal_step (m * 10 + (x - 48)) (omega arith) ∙ rw (tenth, digit)

pub decimal-after : (text : List ℕ) (m : ℕ) → 1 ≤ m → all_digits text ≡ true → decimal (worth m text) ≡ decimal m ++ text
unfolding worth
decimal-after [] m some all = sym (append-nil (decimal m))
decimal-after (x ∷ text) m some all =
    let first = all_digits-first x text all in
    decimal-after text (m * 10 + (x - 48)) (omega arith) first.2
    ∙ rw (decimal_digit m x some first.0 first.1, append_assoc)

-- the digits of a number are the only text that is worth it and has no leading zero
pub decimal_unique : (text : List ℕ) (n : ℕ) → 1 ≤ length text → all_digits text ≡ true → (get_or text 0 0 ≡ 48 → ⊥) → worth 0 text ≡ n → text ≡ decimal n
unfolding worth
decimal_unique [] n some all lead w = absurd (omega arith)
decimal_unique (x ∷ text) n some all lead w =
    let first = all_digits-first x text all in
    let digit : 48 + (0 * 10 + (x - 48)) ≡ x = omega arith in
    sym
    (ap decimal (sym w)
    ∙ decimal-after text (0 * 10 + (x - 48)) (omega arith) first.2
    ∙ rw (decimal_small (0 * 10 + (x - 48)) (omega arith), digit))

-- whether the bytes have room decides what is written and what is answered
module _ (at : ℕ) (bytes output : List ℕ) where
  pub written_fits : at + length bytes ≤ length output → written_at at bytes output ≡ take at output ++ (bytes ++ drop (at + length bytes) output)
  unfolding written_at
  written_fits h = rw (le-leb _ _ h)

  pub answer_fits : at + length bytes ≤ length output → answer_at at bytes output ≡ Some (at + length bytes)
  unfolding answer_at
  answer_fits h = rw (le-leb _ _ h)

  pub written_none : length output < at + length bytes → written_at at bytes output ≡ output
  unfolding written_at
  written_none h = rw (lt-leb _ _ h)

  pub answer-none : length output < at + length bytes → answer_at at bytes output ≡ None
  unfolding answer_at
  answer-none h = rw (lt-leb _ _ h)

  pub written-length : length (written_at at bytes output) ≡ length output
  written-length = by_test (leb (at + length bytes) (length output)) refl
    where
      by_test : (b : Bool) → leb (at + length bytes) (length output) ≡ b → length (written_at at bytes output) ≡ length output
      by_test true h =
          let fits = leb-true _ _ h in rw (written_fits fits) (simp (length-append, length-take, length-drop) (omega arith))
      by_test false h = ap length (written_none (leb-false _ _ h))

  -- what the kit's `copy` leaves of `&mut output[at..]`, put back into the output, is what writing says
  pub written_copied : (copied : List ℕ) → at + length bytes ≤ length output
      → copied ≡ take (length bytes) bytes ++ drop (length bytes) (take (length output - at) (drop at output))
      → take at output ++ (copied ++ drop (length output - at) (drop at output)) ≡ written_at at bytes output
  written_copied copied fits leaves =
      let end : length (drop at output) ≤ length output - at = omega (arith, length-drop at output) in
      rw (leaves, written_fits fits, take-length, take_all _ _ end, drop_of_length-le _ end, append-nil, drop-drop)
