-- What a preparation tells follows from its outcome.
use Rattle.std.specs.Prelude.{ℕ, ◌≡◌, List}
use Rattle.std.proofs.Common.{ap, ◌∙◌}
use Rattle.dictionary_prepared.specs.declared.Preparing.{Preparing}
use Rattle.dictionary_prepared.specs.Memory.{Preparation, prepared, preparing_of, copy_of, memory_of, number_of_preparing, value_of_preparing}
use Rattle.face_told.specs.Told.{told}

-- its number, what it leaves of the copy and the memory, and its value in `out`
pub prepared-told : (k : Preparing) (copy memory : List ℕ) (o : Preparation) (n v : ℕ) (out : List ℕ) → prepared k copy memory ≡ o → n ≡ number_of_preparing k → v ≡ value_of_preparing k → out ≡ told 0 (v, 0)
    → (n ≡ number_of_preparing (preparing_of o)) × ((copy ≡ copy_of o) × ((memory ≡ memory_of o) × (out ≡ told 0 (value_of_preparing (preparing_of o), 0))))
unfolding preparing_of copy_of memory_of
prepared-told k copy memory o n v out e en ev t =
    (en ∙ ap (λ (x : Preparation). number_of_preparing (preparing_of x)) e, (ap copy_of e, (ap memory_of e, t ∙ ap (λ (x : ℕ). told 0 (x, 0)) ev ∙ ap (λ (x : Preparation). told 0 (value_of_preparing (preparing_of x), 0)) e)))
