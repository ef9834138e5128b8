-- The decimal digits of a number, and writing bytes at a place of an output.
use Rattle.std.specs.Prelude.{ℕ, zero, suc, ◌+◌, ◌/◌, ◌%◌, List, [], ◌∷◌, ◌++◌, length, take, drop, leb, ltb, Option, Some, None}
use Rattle.field_rules.specs.Choice.{pick}

-- the digits of n, where `fuel` digits more than one are enough
unfoldable pub decimal_within : ℕ → ℕ → List ℕ
decimal_within zero n = (48 + n) ∷ []
decimal_within (suc fuel) n = pick (ltb n 10) ((48 + n) ∷ []) (decimal_within fuel (n / 10) ++ ((48 + n % 10) ∷ []))

-- the digits of n, the highest first, with no leading zero
unfoldable pub decimal : ℕ → List ℕ
decimal n = decimal_within n n

-- the output with the bytes at a place, or as it was where they have no room
unfoldable pub written_at : ℕ → List ℕ → List ℕ → List ℕ
written_at at bytes output =
    pick (leb (at + length bytes) (length output))
    (take at output ++ (bytes ++ drop (at + length bytes) output))
    output

-- where the next bytes go
unfoldable pub answer_at : ℕ → List ℕ → List ℕ → Option ℕ
answer_at at bytes output = pick (leb (at + length bytes) (length output)) (Some (at + length bytes)) None
