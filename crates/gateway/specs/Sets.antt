-- A list that is stored to place by place, from its start, is a table.
use Rattle.std.specs.Prelude.{◌≡◌, refl, ℕ, zero, suc, ◌≤◌, List, [], ◌∷◌, ◌++◌, length, set, drop}
use Rattle.std.proofs.Common.{◌∙◌, ap, not-suc-le-zero, le_of_suc-le-suc, length-set}
use Rattle.face_messages.specs.Lent.{table}

-- the first i places stored to
abbrev pub sets : {A : Type 0} → (ℕ → A) → List A → ℕ → List A
sets f xs zero = xs
sets f xs (suc i) = set (sets f xs i) i (f i)

pub length-sets : {A : Type 0} (f : ℕ → A) (xs : List A) (i : ℕ) → length (sets f xs i) ≡ length xs
length-sets f xs zero = refl
length-sets f xs (suc i) = length-set (sets f xs i) i (f i) ∙ length-sets f xs i

sets_cons : {A : Type 0} (f : ℕ → A) (x : A) (xs : List A) (i : ℕ) → sets f (x ∷ xs) (suc i) ≡ f 0 ∷ sets (λ k. f (suc k)) xs i
sets_cons f x xs zero = refl
sets_cons f x xs (suc i) = ap (λ l. set l (suc i) (f (suc i))) (sets_cons f x xs i)

pub sets-part : {A : Type 0} (f : ℕ → A) (xs : List A) (i : ℕ) → i ≤ length xs → sets f xs i ≡ table f i ++ drop i xs
unfolding table
sets-part f xs zero h = refl
sets-part f [] (suc i) h = absurd (not-suc-le-zero h)
sets-part f (x ∷ xs) (suc i) h = sets_cons f x xs i ∙ ap (λ l. f 0 ∷ l) (sets-part (λ k. f (suc k)) xs i (le_of_suc-le-suc h))
