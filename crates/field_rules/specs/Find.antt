-- The first place of a byte.
use Rattle.std.specs.Prelude.{ℕ, ◌+◌, List, [], ◌∷◌, eqb, Option, Some, None}
use Rattle.field_rules.specs.Choice.{pick}

-- the first place of b in a list whose first element stands at `at`
unfoldable pub find_in : ℕ → ℕ → List ℕ → Option ℕ
find_in b at [] = None
find_in b at (x ∷ s) = pick (eqb x b) (Some at) (find_in b (at + 1) s)
