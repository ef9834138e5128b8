-- The laws of a tag that is read on the way to `=`: its digits are worth what the text is worth, and a byte that is no digit, or a number past
-- the limit, leaves no tag, wherever `=` stands behind it.
use Rattle.std.specs.Prelude.{◌≡◌, refl, Bool, true, false, ◌⊎◌, ℕ, zero, suc, ◌+◌, ◌-◌, ◌*◌, ◌≤◌, ◌<◌, eqb, length, get_or, take, drop, Option, Some, None}
use Rattle.std.proofs.Common.{sym, ◌∙◌, inl, inr, le_refl, add-one, arith, take-suc, eqb-true, le-leb}
use Rattle.std.proofs.Math.Path.{ap}
use mathlib.Core.List.{List, [], ◌∷◌, ◌++◌}
use Rattle.std.proofs.Math.Seq.{take-nil}
use Rattle.std.proofs.lemmas.Bool.{eqb-false, lt-leb}
use Rattle.field_rules.specs.Choice.{pick, pick_same}
use Rattle.field_rules.specs.Find.{find_in}
use Rattle.field_rules.proofs.FindLaws.{find_miss, find_behind}
use Rattle.field_rules.specs.Number.{is_digit, all_digits, worth, number_in, non_zero, tag_of}
use Rattle.field_rules.proofs.NumberLaws.{worth-least, number-empty, number-bad, number_large, number_good, tag-none, tag_zero, tag_good}
use Rattle.field_rules.proofs.DecimalLaws.{all_digits-append, all_digits_cons, worth-append}
use Rattle.field_tagvalue.specs.Tagged.{or_zero, tagged_at}

none-worth : (text : List ℕ) → length text ≡ 0 → worth 0 text ≡ 0
unfolding worth
none-worth [] e = refl
none-worth (x ∷ text) e = absurd (omega arith)

-- digits within the limit are worth their tag, or 0 where they are none: no digits at all, or zeros
pub digits_tell : (text : List ℕ) (n : ℕ) → all_digits text ≡ true → worth 0 text ≡ n → n ≤ 4294967295 → or_zero (tag_of text) ≡ n
unfolding or_zero
digits_tell text n all is h = go (eqb (length text) 0) refl (eqb n 0) refl
  where
    go : (a : Bool) → eqb (length text) 0 ≡ a → (b : Bool) → eqb n 0 ≡ b → or_zero (tag_of text) ≡ n
    go true e b f =
        let none = eqb-true (length text) 0 e in
        rw (tag-none text (number-empty text none)) (sym (none-worth text none) ∙ is)
    go false e true f =
        let number = number_good text n (eqb-false (length text) 0 e) all is h in
        rw (tag_zero text n number (eqb-true n 0 f)) (sym (eqb-true n 0 f))
    go false e false f =
        let number = number_good text n (eqb-false (length text) 0 e) all is h in
        rw (tag_good text n number (eqb-false n 0 f))

-- a byte that is no digit
unfoldable pub NoDigit : ℕ → Type 0
NoDigit x = (x < 48) ⊎ (57 < x)

no_digit : (x : ℕ) → NoDigit x → is_digit x ≡ false
unfolding NoDigit is_digit
no_digit x (inl low) = rw (lt-leb 48 x low)
no_digit x (inr high) = rw (le-leb 48 x (omega arith), lt-leb x 57 high)

stray : (s : List ℕ) (i q : ℕ) → i < q → i < length s → NoDigit (get_or s i 0) → all_digits (take q s) ≡ false
unfolding all_digits
stray [] i q h l n = absurd (omega arith)
stray (x ∷ s) i zero h l n = absurd (omega arith)
stray (x ∷ s) zero (suc q) h l n = rw (no_digit x n)
stray (x ∷ s) (suc i) (suc q) h l n = rw (stray s i q (omega arith) (omega arith) n) (pick_same (is_digit x) false)

worth_grows : (n : ℕ) (s : List ℕ) (k q : ℕ) → k ≤ q → worth n (take k s) ≤ worth n (take q s)
unfolding worth
worth_grows n [] k q h = rw (take-nil k, take-nil q) (le_refl n)
worth_grows n (x ∷ s) zero q h = worth-least (take q (x ∷ s)) n
worth_grows n (x ∷ s) (suc k) zero h = absurd (omega arith)
worth_grows n (x ∷ s) (suc k) (suc q) h = worth_grows (n * 10 + (x - 48)) s k q (omega arith)

module _ (s : List ℕ) (i : ℕ) (inside : i < length s) where
  -- a byte that is no digit spoils every text that holds it
  pub stray_spoils : (q : ℕ) → i < q → NoDigit (get_or s i 0) → tag_of (take q s) ≡ None
  stray_spoils q h n = tag-none (take q s) (number-bad (take q s) (stray s i q h inside n))

  -- digits past the limit stay past it
  pub large_spoils : (q : ℕ) → i < q → 4294967295 < worth 0 (take (i + 1) s) → tag_of (take q s) ≡ None
  large_spoils q h l = tag-none (take q s) (number_large (take q s) (omega (arith, worth_grows 0 s (i + 1) q (omega arith))))

  one_more : take (i + 1) s ≡ take i s ++ (get_or s i 0 ∷ [])
  one_more = rw (add-one i) (take-suc s i 0 inside)

  -- a digit more
  pub digit_worth : worth 0 (take (i + 1) s) ≡ worth 0 (take i s) * 10 + (get_or s i 0 - 48)
  unfolding worth
  digit_worth = rw (one_more, worth-append)

  pub digit_more : all_digits (take i s) ≡ true → 48 ≤ get_or s i 0 → get_or s i 0 ≤ 57 → all_digits (take (i + 1) s) ≡ true
  unfolding all_digits
  digit_more all low high = rw one_more (all_digits-append (take i s) (get_or s i 0 ∷ []) all (all_digits_cons (get_or s i 0) [] low high refl))

  -- where no `=` stands up to a byte, it stands behind it
  pub equals-behind : find_in 61 0 s ≡ find_in 61 i (drop i s) → (get_or s i 0 ≡ 61 → ⊥) → (q : ℕ) → find_in 61 0 s ≡ Some q → i < q
  equals-behind so_far other q found = omega (arith, find_behind 61 (i + 1) (drop (i + 1) s) q (sym (so_far ∙ find_miss 61 s i inside other) ∙ found))

-- what the answer tells: where `=` stands, and the tag before it
module _ (s : List ℕ) where
  pub equals-none : tagged_at s (find_in 61 0 s) ≡ None → find_in 61 0 s ≡ None
  equals-none h = go (find_in 61 0 s) refl h
    where
      go : (f : Option ℕ) → find_in 61 0 s ≡ f → tagged_at s f ≡ None → f ≡ None
      go None e t = refl
      go (Some q) e t = let z : ◌≡◌ {A = ℕ} 0 1 = unfold tagged_at in cc in absurd (omega arith)

  pub equals-told : (q t : ℕ) → tagged_at s (find_in 61 0 s) ≡ Some (q, t) → (find_in 61 0 s ≡ Some q) × (or_zero (tag_of (take q s)) ≡ t)
  equals-told q t h = go (find_in 61 0 s) refl h
    where
      go : (f : Option ℕ) → find_in 61 0 s ≡ f → tagged_at s f ≡ Some (q, t) → (f ≡ Some q) × (or_zero (tag_of (take q s)) ≡ t)
      go None e k = let z : ◌≡◌ {A = ℕ} 0 1 = unfold tagged_at in cc in absurd (omega arith)
      go (Some p) e k =
          let both : ◌≡◌ {A = ℕ × ℕ} (p, or_zero (tag_of (take p s))) (q, t) = unfold tagged_at in cc in
          let place : p ≡ q = ap (λ (x : ℕ × ℕ). x.0) both in
          let tells : or_zero (tag_of (take p s)) ≡ t = ap (λ (x : ℕ × ℕ). x.1) both in
          (ap Some place, ap (λ (n : ℕ). or_zero (tag_of (take n s))) (sym place) ∙ tells)

-- no tag is 0
pub zero_none : (text : List ℕ) → or_zero (tag_of text) ≡ 0 → tag_of text ≡ None
unfolding tag_of non_zero or_zero
zero_none text h = go (number_in text) h
  where
    go : (n : Option ℕ) → or_zero (non_zero n) ≡ 0 → non_zero n ≡ None
    go None e = refl
    go (Some n) e = by (eqb n 0) refl e
      where
        by : (b : Bool) → eqb n 0 ≡ b → or_zero (pick b None (Some n)) ≡ 0 → pick b None (Some n) ≡ None
        by true q k = refl
        by false q k = absurd (eqb-false n 0 q k)

pub some-tag : (text : List ℕ) (t : ℕ) → or_zero (tag_of text) ≡ t → (t ≡ 0 → ⊥) → tag_of text ≡ Some t
unfolding or_zero
some-tag text t h some = go (tag_of text) h
  where
    go : (n : Option ℕ) → or_zero n ≡ t → n ≡ Some t
    go None e = absurd (some (sym e))
    go (Some n) e = ap Some e
