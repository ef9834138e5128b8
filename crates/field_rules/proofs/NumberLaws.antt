-- The laws of texts of digits: each way that reading a number goes, for a reader that stands at the place i of the text.
use Rattle.std.specs.Prelude.{◌≡◌, true, false, List, [], ◌∷◌, ℕ, ◌+◌, ◌*◌, ◌-◌, ◌≤◌, ◌<◌, length, get_or, drop}
use Rattle.std.proofs.Common.{le_refl, add-one, arith, drop_of_length-le, drop-cons, Some, None}
use borrow.Author.Tests.{eq-eqb, ne_eqb, le-leb, lt-leb}
use Rattle.field_rules.specs.Choice.{pick_same}
use Rattle.field_rules.specs.Number.{is_digit, all_digits, worth, number_in, non_zero, tag_of}
use Rattle.field_rules.specs.CheckSum.{sum_of, checksum_of}

module _ (s : List ℕ) (i : ℕ) where
  pub digit_step : i < length s → 48 ≤ get_or s i 0 → get_or s i 0 ≤ 57 → all_digits (drop i s) ≡ all_digits (drop (i + 1) s)
  unfolding all_digits is_digit
  digit_step h l u = rw (drop-cons s i 0, le-leb _ _ l, le-leb _ _ u, add-one)

  pub digit_low : i < length s → get_or s i 0 < 48 → all_digits (drop i s) ≡ false
  unfolding all_digits is_digit
  digit_low h l = rw (drop-cons s i 0, lt-leb _ _ l)

  pub digit_high : i < length s → 57 < get_or s i 0 → all_digits (drop i s) ≡ false
  unfolding all_digits is_digit
  digit_high h l = rw (drop-cons s i 0, le-leb 48 (get_or s i 0) (omega arith), lt-leb _ _ l)

  pub digit_end : length s ≤ i → all_digits (drop i s) ≡ true
  unfolding all_digits
  digit_end h = rw (drop_of_length-le s h)

  pub worth-step : (n : ℕ) → i < length s → worth n (drop i s) ≡ worth (n * 10 + (get_or s i 0 - 48)) (drop (i + 1) s)
  unfolding worth
  worth-step n h = rw (drop-cons s i 0, add-one)

  pub worth-end : (n : ℕ) → length s ≤ i → worth n (drop i s) ≡ n
  unfolding worth
  worth-end n h = rw (drop_of_length-le s h)

  pub sum_step : i < length s → sum_of (drop i s) ≡ get_or s i 0 + sum_of (drop (i + 1) s)
  unfolding sum_of
  sum_step h = rw (drop-cons s i 0, add-one)

  pub sum-end : length s ≤ i → sum_of (drop i s) ≡ 0
  unfolding sum_of
  sum-end h = rw (drop_of_length-le s h)

-- what digits are worth is at least what came before
pub worth-least : (s : List ℕ) (n : ℕ) → n ≤ worth n s
unfolding worth
worth-least [] n = le_refl n
worth-least (x ∷ s) n = omega (arith, worth-least s (n * 10 + (x - 48)))

module _ (s : List ℕ) where
  pub number-empty : length s ≡ 0 → number_in s ≡ None
  unfolding number_in
  number-empty h = rw (eq-eqb _ _ h)

  pub number-bad : all_digits s ≡ false → number_in s ≡ None
  unfolding number_in
  number-bad h = rw (h, pick_same)

  pub number_large : 4294967295 < worth 0 s → number_in s ≡ None
  unfolding number_in
  number_large h = rw (lt-leb _ _ h, pick_same, pick_same)

  pub number_good : (n : ℕ) → (length s ≡ 0 → ⊥) → all_digits s ≡ true → worth 0 s ≡ n → n ≤ 4294967295 → number_in s ≡ Some n
  unfolding number_in
  number_good n l d w h = rw (ne_eqb _ _ l, d, w, le-leb _ _ h)

  pub tag-none : number_in s ≡ None → tag_of s ≡ None
  unfolding tag_of non_zero
  tag-none h = rw h

  pub tag_zero : (n : ℕ) → number_in s ≡ Some n → n ≡ 0 → tag_of s ≡ None
  unfolding tag_of non_zero
  tag_zero n h z = rw (h, eq-eqb _ _ z)

  pub tag_good : (n : ℕ) → number_in s ≡ Some n → (n ≡ 0 → ⊥) → tag_of s ≡ Some n
  unfolding tag_of non_zero
  tag_good n h z = rw (h, ne_eqb _ _ z)

  pub checksum_other : (length s ≡ 3 → ⊥) → checksum_of s ≡ None
  unfolding checksum_of
  checksum_other h = rw (ne_eqb _ _ h)

  pub checksum_three : length s ≡ 3 → checksum_of s ≡ number_in s
  unfolding checksum_of
  checksum_three h = rw (eq-eqb _ _ h)

-- a tag has a digit at least
pub tag-some : (s : List ℕ) (t : ℕ) → tag_of s ≡ Some t → 1 ≤ length s
unfolding tag_of non_zero number_in
tag-some [] t h = let z : ◌≡◌ {A = ℕ} 0 1 = cc in absurd (omega arith)
tag-some (x ∷ s) t h = omega arith
