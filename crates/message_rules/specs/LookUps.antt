-- Looking up what a message holds: a field of a map, an entry of a run. A map within the message, a part's or an entry's, is named by the
-- row of its head; rows are counted in map order, one to each field and one to each head.
use Rattle.std.specs.Prelude.{ℕ, zero, suc, ◌+◌, ◌-◌, Bool, true, false, List, [], ◌∷◌, length, eqb, leb}
use Rattle.field_rules.specs.Choice.{pick}
use Rattle.message_maps.specs.Map.{Map, end, field, entry, Looked, none, some, values_in}
use Rattle.message_lent_rules.specs.Lent.{is_message}
use Rattle.message_lent_rules.specs.Meaning.{Message, parts, message_in}
use Rattle.message_rules.specs.declared.Part.{Part}
use Rattle.message_rules.specs.declared.Part.TheVariants.{Header, Body, Trailer}
use Rattle.message_rules.specs.declared.FoundValue.{FoundValue}
use Rattle.message_rules.specs.declared.FoundValue.TheVariants as value
use Rattle.message_rules.specs.declared.FoundMap.{FoundMap}
use Rattle.message_rules.specs.declared.FoundMap.TheVariants as map

-- The rules' number for each answer: what is absent is no refusal
unfoldable pub number_of_value : FoundValue → ℕ
number_of_value value.NoMessage = 27
number_of_value value.Absent = 0
number_of_value (value.At v) = 0

unfoldable pub number_of_map : FoundMap → ℕ
number_of_map map.NoMessage = 27
number_of_map map.Absent = 0
number_of_map (map.At row) = 0

-- how many rows a map has
unfoldable pub rows_in : Map → ℕ
rows_in end = 0
rows_in (field t v rest) = 1 + rows_in rest
rows_in (entry s d own rest) = 1 + (rows_in own + rows_in rest)

-- a map, and where its first value stands
pub data Standing : Type 0 where
  standing : Map → ℕ → Standing

-- the map that a row names
unfoldable pub map_at : ℕ → ℕ → Map → Looked Standing
map_at row place end = none
map_at row place (field t v rest) = pick (eqb row 0) none (map_at (row - 1) (place + length v) rest)
map_at row place (entry s d own rest) =
    pick (eqb row 0) (some (standing own place))
    (pick (leb row (rows_in own)) (map_at (row - 1) place own) (map_at (row - 1 - rows_in own) (place + length (values_in own)) rest))

-- the field of a tag: where its value stands
unfoldable pub value_in : ℕ → ℕ → Map → FoundValue
value_in tag place end = value.Absent
value_in tag place (field t v rest) =
    pick (eqb t tag) (value.At (record { place = place; size = length v })) (value_in tag (place + length v) rest)
value_in tag place (entry s d own rest) = value_in tag (place + length (values_in own)) rest

-- the entry of a number in the run on a start tag: the row that names its map
unfoldable pub entry_in : ℕ → ℕ → ℕ → Map → FoundMap
entry_in start number row end = map.Absent
entry_in start number row (field t v rest) = entry_in start number (row + 1) rest
entry_in start number row (entry s d own rest) =
    pick (eqb s start)
    (pick (eqb number 0) (map.At row) (entry_in start (number - 1) (row + 1 + rows_in own) rest))
    (entry_in start number (row + 1 + rows_in own) rest)

-- the row that names a part's map
unfoldable pub part_row : Part → Message → ℕ
part_row Header m = 0
part_row Body m = 1 + rows_in m.header
part_row Trailer m = 1 + rows_in m.header + (1 + rows_in m.body)

-- what is looked for in the map that a row names
unfoldable pub value_of_map : ℕ → Looked Standing → FoundValue
value_of_map tag none = value.Absent
value_of_map tag (some (standing own place)) = value_in tag place own

unfoldable pub entry_of : ℕ → ℕ → ℕ → Looked Standing → FoundMap
entry_of start number row none = map.Absent
entry_of start number row (some (standing own place)) = entry_in start number (row + 1) own

-- "27 first"
unfoldable pub part_found : Part → List ℕ → List ℕ → FoundMap
part_found part words values = pick (is_message words values) (map.At (part_row part (message_in words values))) map.NoMessage

unfoldable pub field_found : ℕ → ℕ → List ℕ → List ℕ → FoundValue
field_found row tag words values =
    pick (is_message words values) (value_of_map tag (map_at row 0 (parts (message_in words values)))) value.NoMessage

unfoldable pub entry_found : ℕ → ℕ → ℕ → List ℕ → List ℕ → FoundMap
entry_found row start number words values =
    pick (is_message words values) (entry_of start number row (map_at row 0 (parts (message_in words values)))) map.NoMessage
