-- Numbers under 2^32 stand in the four words as they are.
use Rattle.std.specs.Prelude.{ℕ, ◌%◌, ◌<◌, ◌^◌, ◌≡◌, refl, List, [], ◌∷◌}
use Rattle.std.proofs.Common.{arith}
use Rattle.message_rules.specs.declared.FoundValue.{FoundValue}
use Rattle.message_rules.specs.declared.FoundValue.TheVariants as value
use Rattle.message_rules.specs.declared.FoundMap.{FoundMap}
use Rattle.message_rules.specs.declared.FoundMap.TheVariants as map
use Rattle.message_rules.specs.declared.Value.{Value}
use Rattle.face_told.specs.Told.{told, told_map, told_value}

-- "`[records, first value, second value, 0]`", the numbers themselves
unfoldable pub uncut : ℕ → ℕ × ℕ → List ℕ
uncut records values = records ∷ values.0 ∷ values.1 ∷ 0 ∷ []

pub told-uncut : (records : ℕ) (values : ℕ × ℕ) → records < 2 ^ 32 → values.0 < 2 ^ 32 → values.1 < 2 ^ 32 → told records values ≡ uncut records values
unfolding told uncut
told-uncut records values r f s =
    let a : records % 2 ^ 32 ≡ records = omega (arith, r) in
    let b : values.0 % 2 ^ 32 ≡ values.0 = omega (arith, f) in
    let c : values.1 % 2 ^ 32 ≡ values.1 = omega (arith, s) in
    rw (a, b, c)

-- one value, and nothing else
pub one-uncut : (value : ℕ) → value < 2 ^ 32 → told 0 (value, 0) ≡ uncut 0 (value, 0)
one-uncut value small = told-uncut 0 (value, 0) (omega arith) small (omega arith)

-- ===== a look-up: how many were found, and where =====

unfoldable pub uncut_map : FoundMap → List ℕ
uncut_map map.NoMessage = uncut 0 (0, 0)
uncut_map map.Absent = uncut 0 (0, 0)
uncut_map (map.At row) = uncut 1 (row, 0)

unfoldable pub uncut_value : FoundValue → List ℕ
uncut_value value.NoMessage = uncut 0 (0, 0)
uncut_value value.Absent = uncut 0 (0, 0)
uncut_value (value.At v) = uncut 1 (v.place, v.size)

pub map-uncut : (found : FoundMap) → ((row : ℕ) → found ≡ map.At row → row < 2 ^ 32) → told_map found ≡ uncut_map found
unfolding told_map uncut_map
map-uncut map.NoMessage small = one-uncut 0 (omega arith)
map-uncut map.Absent small = one-uncut 0 (omega arith)
map-uncut (map.At row) small = told-uncut 1 (row, 0) (omega arith) (small row refl) (omega arith)

pub value_uncut : (found : FoundValue) → ((v : Value) → found ≡ value.At v → (v.place < 2 ^ 32) × (v.size < 2 ^ 32)) → told_value found ≡ uncut_value found
unfolding told_value uncut_value
value_uncut value.NoMessage small = one-uncut 0 (omega arith)
value_uncut value.Absent small = one-uncut 0 (omega arith)
value_uncut (value.At v) small = told-uncut 1 (v.place, v.size) (omega arith) (small v refl).0 (small v refl).1
