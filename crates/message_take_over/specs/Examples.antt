-- Worked examples of this crate's definitions, which antt computes. A wrong definition is refused here, whatever law is proved of it.
use Rattle.std.specs.Prelude.{◌≡◌, refl, true, false, List, [], ◌∷◌, ℕ}
use Rattle.build_records.specs.Records.{value_at}
use Rattle.build_records.specs.declared.Record.{Record}
use Rattle.message_maps.specs.Map.{Map, end, field, entry}
use Rattle.message_maps.specs.Rows.{row}
use Rattle.message_take_over.specs.Taking.{nearest_in, on_count, joins_in_run, joins_on_count, joins_behind, joins_of, is_joined, has_room, is_next, are_next, part_heads, own_rows, record_rows, rows_behind, rows_of, values_at}
use Rattle.message_take_over.specs.Derived.{valued, entry_number, records_in, derived, given}

-- a record whose value is one byte
at : ℕ → ℕ → ℕ → ℕ → ℕ → Record
at part depth number tag place = record { part = part; depth = depth; number = number; tag = tag; place = place; length = 1 }

-- P6 with a nested run and a field behind it: two entries, of which the first has one nested
order : List Record
order = at 1 0 0 35 0 ∷ at 2 0 0 78 1 ∷ at 2 1 1 79 2 ∷ at 2 1 1 539 3 ∷ at 2 2 1 524 4 ∷ at 2 1 1 80 5 ∷ at 2 1 2 79 6 ∷ at 2 0 0 58 7 ∷ at 3 0 0 10 0 ∷ []

order_rows : rows_of order ≡
    row 2 0 1 0 ∷ row 1 1 35 1 ∷ row 2 0 2 0 ∷ row 1 1 78 1 ∷ row 2 1 78 79 ∷ row 1 2 79 1 ∷ row 1 2 539 1 ∷ row 2 2 539 524 ∷ row 1 3 524 1 ∷ row 1 2 80 1
    ∷ row 2 1 78 79 ∷ row 1 2 79 1 ∷ row 1 1 58 1 ∷ row 2 0 3 0 ∷ row 1 1 10 1 ∷ []
unfolding rows_of rows_behind record_rows part_heads own_rows joins_of joins_behind joins_in_run joins_on_count on_count nearest_in order at
order_rows = refl

-- the parts of no records; a value may stand anywhere in the bytes, and twice
others : (rows_of [] ≡ row 2 0 1 0 ∷ row 2 0 2 0 ∷ row 2 0 3 0 ∷ []) × (values_at (65 ∷ 66 ∷ []) (at 1 0 0 8 1 ∷ at 1 0 0 9 0 ∷ at 1 0 0 35 1 ∷ []) ≡ 66 ∷ 65 ∷ 66 ∷ [])
unfolding rows_of rows_behind part_heads values_at value_at at
others = (refl, refl)

-- each record may come next, or not: a part that comes back, a fourth; no count; an entry number that skips or starts late; a depth
-- that skips; an entry of another part's count; a value outside the bytes; an entry number in the part's own map
judged : are_next 8 1 0 [] order
    ∷ are_next 8 1 0 [] (at 2 0 0 38 0 ∷ at 1 0 0 35 0 ∷ []) ∷ are_next 8 1 0 [] (at 4 0 0 38 0 ∷ []) ∷ are_next 8 1 0 [] (at 2 1 1 79 0 ∷ [])
    ∷ are_next 8 1 0 [] (at 2 0 0 78 0 ∷ at 2 1 1 79 0 ∷ at 2 1 3 79 0 ∷ []) ∷ are_next 8 1 0 [] (at 2 0 0 78 0 ∷ at 2 1 2 79 0 ∷ [])
    ∷ are_next 8 1 0 [] (at 2 0 0 78 0 ∷ at 2 2 1 79 0 ∷ []) ∷ are_next 8 1 0 [] (at 1 0 0 35 0 ∷ at 2 1 1 79 0 ∷ []) ∷ are_next 8 1 0 [] (at 2 0 0 38 8 ∷ [])
    ∷ are_next 8 1 0 [] (at 2 0 1 38 0 ∷ []) ∷ []
    ≡ true ∷ false ∷ false ∷ false ∷ false ∷ false ∷ false ∷ false ∷ false ∷ false ∷ []
unfolding are_next is_next has_room is_joined joins_of joins_behind joins_in_run joins_on_count on_count nearest_in order at
judged = refl

-- the maps that the order's body stands for, and the records that they have
allocations : Map
allocations =
    field 78 (66 ∷ [])
    (entry 78 79 (field 79 (67 ∷ []) (field 539 (68 ∷ []) (entry 539 524 (field 524 (69 ∷ []) end) (field 80 (70 ∷ []) end))))
    (entry 78 79 (field 79 (71 ∷ []) end) (field 58 (72 ∷ []) end)))

derives : derived (record { header = field 35 (65 ∷ []) end; body = allocations; trailer = field 10 (65 ∷ []) end }) ≡ given (65 ∷ 66 ∷ 67 ∷ 68 ∷ 69 ∷ 70 ∷ 71 ∷ 72 ∷ []) order
unfolding derived records_in entry_number given value_at allocations order at
derives = refl

-- a run without its count has its records all the same, and another run is numbered anew
alone : records_in 2 0 0 0 0 (entry 78 79 (field 79 [] end) (entry 78 79 (field 79 [] end) (entry 539 524 (field 524 [] end) end)))
    ≡ valued 2 1 1 79 [] ∷ valued 2 1 2 79 [] ∷ valued 2 1 1 524 [] ∷ []
unfolding records_in entry_number
alone = refl
