-- What is told of a look-up, by what was found.
use Rattle.std.specs.Prelude.{ℕ, ◌≡◌, refl, List}
use Rattle.message_rules.specs.declared.Value.{Value}
use Rattle.message_rules.specs.declared.FoundValue.{FoundValue}
use Rattle.message_rules.specs.declared.FoundValue.TheVariants as value
use Rattle.message_rules.specs.declared.FoundMap.{FoundMap}
use Rattle.message_rules.specs.declared.FoundMap.TheVariants as map
use Rattle.message_rules.specs.LookUps.{number_of_value, number_of_map}
use Rattle.face_told.specs.Told.{told, told_map, told_value}

pub map-refused : (found : FoundMap) (out : List ℕ) → found ≡ map.NoMessage → out ≡ told 0 (0, 0) → (27 ≡ number_of_map found) × (out ≡ told_map found)
unfolding number_of_map told_map
map-refused found out e h = rw e (refl, h)

pub map_absent : (found : FoundMap) (out : List ℕ) → found ≡ map.Absent → out ≡ told 0 (0, 0) → (0 ≡ number_of_map found) × (out ≡ told_map found)
unfolding number_of_map told_map
map_absent found out e h = rw e (refl, h)

pub map_at : (found : FoundMap) (row : ℕ) (out : List ℕ) → found ≡ map.At row → out ≡ told 1 (row, 0) → (0 ≡ number_of_map found) × (out ≡ told_map found)
unfolding number_of_map told_map
map_at found row out e h = rw e (refl, h)

pub value_refused : (found : FoundValue) (out : List ℕ) → found ≡ value.NoMessage → out ≡ told 0 (0, 0) → (27 ≡ number_of_value found) × (out ≡ told_value found)
unfolding number_of_value told_value
value_refused found out e h = rw e (refl, h)

pub value_absent : (found : FoundValue) (out : List ℕ) → found ≡ value.Absent → out ≡ told 0 (0, 0) → (0 ≡ number_of_value found) × (out ≡ told_value found)
unfolding number_of_value told_value
value_absent found out e h = rw e (refl, h)

pub value_at : (found : FoundValue) (v : Value) (out : List ℕ) → found ≡ value.At v → out ≡ told 1 (v.place, v.size) → (0 ≡ number_of_value found) × (out ≡ told_value found)
unfolding number_of_value told_value
value_at found v out e h = rw e (refl, h)
