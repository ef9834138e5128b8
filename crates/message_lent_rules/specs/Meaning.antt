-- What lent words and bytes mean: three maps. The rows are read from the last to the first, over the maps that are open at each level.
use Rattle.std.specs.Prelude.{ℕ, zero, suc, ◌+◌, ◌-◌, ◌*◌, ◌≡◌, List, [], ◌∷◌, ◌++◌, length, take, drop, eqb}
use Rattle.field_rules.specs.Choice.{pick}
use Rattle.message_maps.specs.Map.{Map, end, field, entry, values_in}
use Rattle.message_maps.specs.Rows.{Row, row, laid, flat, padded, size_of, message_words}
use Rattle.message_lent_rules.specs.Lent.{rows_of}

-- a message: three maps
pub record Message : Type 0 where
  pub header : Map
  pub body : Map
  pub trailer : Map

-- its parts as entries of one map: 1 header, 2 body, 3 trailer
unfoldable pub parts : Message → Map
parts m = entry 1 0 m.header (entry 2 0 m.body (entry 3 0 m.trailer end))

-- the layout of a message, with zeros past it
unfoldable pub words_of : Message → List ℕ
words_of m = padded message_words (length (laid 0 (parts m)) ∷ flat (laid 0 (parts m)))

unfoldable pub value_bytes_of : Message → List ℕ
value_bytes_of m = padded 8192 (values_in (parts m))

-- words and values that lay a map out: the number of its rows, its rows, and its values. What stands behind the rows and behind the values
-- is no part of the layout, and may be anything.
pub record LaysOut (map : Map) (words values : List ℕ) : Type 0 where
  pub words_lent : length words ≡ message_words
  pub values-lent : length values ≡ 8192
  pub behind_rows : List ℕ
  pub rows_first : words ≡ length (laid 0 map) ∷ (flat (laid 0 map) ++ behind_rows)
  pub behind-values : List ℕ
  pub values-first : values ≡ values_in map ++ behind-values

-- so many empty maps are opened
unfoldable pub opened : ℕ → List Map → List Map
opened zero maps = maps
opened (suc n) maps = end ∷ opened n maps

-- a row in front of what is open, the deepest first
unfoldable pub with_field : ℕ → List ℕ → List Map → List Map
with_field tag value [] = []
with_field tag value (m ∷ maps) = field tag value m ∷ maps

unfoldable pub with_entry : ℕ → ℕ → List Map → List Map
with_entry start delimiter [] = []
with_entry start delimiter (own ∷ []) = []
with_entry start delimiter (own ∷ rest ∷ maps) = entry start delimiter own rest ∷ maps

unfoldable pub with_row : Row → List ℕ → List Map → List Map
with_row (row k l t x) value maps =
    pick (eqb k 1) (with_field t value (opened (l + 1 - length maps) maps)) (with_entry t x (opened (l + 2 - length maps) maps))

unfoldable pub open_in : List Row → List ℕ → List Map
open_in [] values = end ∷ []
open_in (r ∷ rows) values = with_row r (take (size_of r) values) (open_in rows (drop (size_of r) values))

-- the map at level 0
unfoldable pub outermost : List Map → Map
outermost [] = end
outermost (m ∷ maps) = m

unfoldable pub third_of : Map → Map → Map → Message
third_of h b end = record { header = h; body = b; trailer = end }
third_of h b (field t v rest) = record { header = h; body = b; trailer = end }
third_of h b (entry s d own rest) = record { header = h; body = b; trailer = own }

unfoldable pub second_of : Map → Map → Message
second_of h end = record { header = h; body = end; trailer = end }
second_of h (field t v rest) = record { header = h; body = end; trailer = end }
second_of h (entry s d own rest) = third_of h own rest

unfoldable pub parts_in : Map → Message
parts_in end = record { header = end; body = end; trailer = end }
parts_in (field t v rest) = record { header = end; body = end; trailer = end }
parts_in (entry s d own rest) = second_of own rest

-- the message that is lent, where it is one
unfoldable pub message_in : List ℕ → List ℕ → Message
message_in words values = parts_in (outermost (open_in (rows_of words) values))
