-- The CheckSum: the sum of bytes, the value that is compared with it, and how it is written (RULES.md, Integrity and Encoding).
use Rattle.std.specs.Prelude.{ℕ, ◌+◌, ◌/◌, ◌%◌, List, [], ◌∷◌, length, eqb, Option, None}
use Rattle.field_rules.specs.Choice.{pick}
use Rattle.field_rules.specs.Number.{number_in}

-- the sum of all bytes; a CheckSum is this mod 256
unfoldable pub sum_of : List ℕ → ℕ
sum_of [] = 0
sum_of (x ∷ s) = x + sum_of s

-- a value of three digits is compared; "any other CheckSum value is not compared"
unfoldable pub checksum_of : List ℕ → Option ℕ
checksum_of value = pick (eqb (length value) 3) (number_in value) None

-- "three digits"
unfoldable pub checksum_digits : ℕ → List ℕ
checksum_digits sum = (48 + sum / 100) ∷ (48 + sum / 10 % 10) ∷ (48 + sum % 10) ∷ []
