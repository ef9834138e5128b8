-- What a settings word comes to: the lowest word of each setting, and that no bit but bit 0 changes anything.
use Rattle.std.specs.Prelude.{◌≡◌, refl, Bool, true, false, List, [], ◌∷◌, map, ℕ, ◌+◌, ◌*◌, ◌%◌, eqb}
use Rattle.std.proofs.Common.{ap, arith}
use Rattle.field_rules.specs.Field.{separated_by}
use Rattle.build_config.specs.Settings.{validates, config_of}
use Rattle.build_config.specs.declared.Config.{Config}

pub words : map validates (0 ∷ 1 ∷ 2 ∷ 3 ∷ 4294967294 ∷ 4294967295 ∷ []) ≡ false ∷ true ∷ false ∷ true ∷ false ∷ true ∷ []
unfolding validates
words = refl

pub higher_bits : (settings separator n : ℕ) → config_of (settings + 2 * n) separator ≡ config_of settings separator
unfolding config_of validates
higher_bits settings separator n =
    let low : (settings + 2 * n) % 2 ≡ settings % 2 = omega arith in
    ap (λ (bit : ℕ). record { mode = separated_by separator; validate = eqb bit 1 }) low
