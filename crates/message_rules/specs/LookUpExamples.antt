-- Worked examples of this crate's definitions, one table under one statement, which antt computes.
-- A wrong definition is refused here, whatever code is proved against it.
use Rattle.std.specs.Prelude.{◌≡◌, refl, List, [], ◌∷◌, Bool, true, false, ℕ, length}
use Rattle.field_rules.specs.Text.{bytes}
use Rattle.message_maps.specs.Map.{Map, end, field, entry, Looked, none, some, values_in}
use Rattle.message_lent_rules.specs.Meaning.{Message, parts}
use Rattle.message_rules.specs.declared.Part.TheVariants.{Header, Body, Trailer}
use Rattle.message_rules.specs.LookUps.{rows_in, standing, map_at, value_in, entry_in, part_row, value_of_map, entry_of}
use Rattle.message_rules.specs.declared.FoundValue.TheVariants as value
use Rattle.message_rules.specs.declared.FoundMap.TheVariants as map

-- two entries in the body, one with a nested run, and a trailer
second : Map
second = field 79 (bytes "B") (field 539 (bytes "1") (entry 539 524 (field 524 (bytes "party") end) end))

order : Message
order =
    record {
      header = field 8 (bytes "FIX.4.4") (field 35 (bytes "D") end);
      body = field 38 (bytes "600") (field 78 (bytes "2") (entry 78 79 (field 79 (bytes "A") end) (entry 78 79 second (field 58 (bytes "x") end))));
      trailer = field 93 (bytes "1") end;
    }

-- the parts' heads are rows 0, 3 and 14
parts_rows : part_row Header order ∷ part_row Body order ∷ part_row Trailer order ∷ [] ≡ 0 ∷ 3 ∷ 14 ∷ []
unfolding order second part_row rows_in
parts_rows = refl

-- a field's row and a number past all rows name no map; an entry's map knows where its values start
maps_named : map_at 0 0 (parts order) ∷ map_at 4 0 (parts order) ∷ map_at 8 0 (parts order) ∷ map_at 14 0 (parts order) ∷ map_at 16 0 (parts order) ∷ []
    ≡ some (standing order.header 0) ∷ none ∷ some (standing second 13) ∷ some (standing order.trailer 21) ∷ none ∷ []
unfolding order second parts map_at rows_in values_in
maps_named = refl

-- 58 stands behind both entries; 79 is no field of the body itself
values-found : value_of_map 58 (map_at 3 0 (parts order)) ∷ value_of_map 79 (map_at 3 0 (parts order)) ∷ value_of_map 524 (map_at 11 0 (parts order)) ∷ value_of_map 38 (map_at 4 0 (parts order)) ∷ []
    ≡ value.At (record { place = 20; size = 1 }) ∷ value.Absent ∷ value.At (record { place = 15; size = 5 }) ∷ value.Absent ∷ []
unfolding order second parts map_at rows_in values_in value_of_map value_in
values-found = refl

-- entries from 0; the nested run hangs in the second entry
entries-found : entry_of 78 0 3 (map_at 3 0 (parts order)) ∷ entry_of 78 1 3 (map_at 3 0 (parts order)) ∷ entry_of 78 2 3 (map_at 3 0 (parts order)) ∷ entry_of 539 0 8 (map_at 8 0 (parts order)) ∷ entry_of 539 0 3 (map_at 3 0 (parts order)) ∷ []
    ≡ map.At 6 ∷ map.At 8 ∷ map.Absent ∷ map.At 11 ∷ map.Absent ∷ []
unfolding order second parts map_at rows_in values_in entry_of entry_in
entries-found = refl
