-- How the four words come to stand, and what a core's answer says of its outcome.
use Rattle.std.specs.Prelude.{ℕ, ◌%◌, ◌^◌, ◌≡◌, refl, List, [], ◌∷◌, length, set, get_or}
use Rattle.std.proofs.Common.{ap, ◌∙◌, arith}
use Rattle.dictionary_rules.specs.declared.Checked.{Checked}
use Rattle.dictionary_rules.specs.Check.{number_of_check, values_of_check}
use Rattle.face_told.specs.Told.{told}

-- four words that are set one after the other
pub four-set : (s : List ℕ) (a b c d : ℕ) → length s ≡ 4 → set (set (set (set s 0 a) 1 b) 2 c) 3 d ≡ a ∷ b ∷ c ∷ d ∷ []
four-set (w ∷ x ∷ y ∷ z ∷ []) a b c d e = refl
four-set [] a b c d e = absurd (omega (arith, e))
four-set (w ∷ []) a b c d e = absurd (omega (arith, e))
four-set (w ∷ x ∷ []) a b c d e = absurd (omega (arith, e))
four-set (w ∷ x ∷ y ∷ []) a b c d e = absurd (omega (arith, e))
four-set (w ∷ x ∷ y ∷ z ∷ v ∷ rest) a b c d e = absurd (omega (arith, e))

pub told-set : (s : List ℕ) (a b c records first second : ℕ) → length s ≡ 4 → a ≡ records % 2 ^ 32 → b ≡ first % 2 ^ 32 → c ≡ second % 2 ^ 32 → set (set (set (set s 0 a) 1 b) 2 c) 3 0 ≡ told records (first, second)
unfolding told
told-set s a b c records first second whole ea eb ec = rw (ea, eb, ec) (four-set s _ _ _ 0 whole)

-- a check's number and value are those of its verdict
pub checked-number : (k o : Checked) (n : ℕ) → k ≡ o → n ≡ number_of_check k → n ≡ number_of_check o
checked-number k o n e h = h ∙ ap number_of_check e

pub checked_out : (k o : Checked) (v : ℕ) (out : List ℕ) → k ≡ o → v ≡ get_or (values_of_check k) 0 0 → out ≡ told 0 (v, 0) → out ≡ told 0 (get_or (values_of_check o) 0 0, 0)
checked_out k o v out e h t = t ∙ ap (λ (n : ℕ). told 0 (n, 0)) h ∙ ap (λ (x : Checked). told 0 (get_or (values_of_check x) 0 0, 0)) e
