-- The operations on a message, in the rules' words: "27 first", and then "judged by what it would leave: 41, 42, 21".
use Rattle.std.specs.Prelude.{ℕ, ◌+◌, Bool, true, List, ◌∷◌, length, eqb, leb}
use Rattle.field_rules.specs.Choice.{pick}
use Rattle.message_maps.specs.Map.{Map, end, without_field, stored, field_count, values_in}
use Rattle.message_maps.specs.Rows.{laid, flat, padded, message_words}
use Rattle.message_lent_rules.specs.Lent.{is_message}
use Rattle.message_lent_rules.specs.Meaning.{Message, parts, words_of, value_bytes_of, message_in}
use Rattle.message_rules.specs.declared.Part.{Part}
use Rattle.message_rules.specs.declared.Part.TheVariants.{Header, Body, Trailer}
use Rattle.message_rules.specs.declared.Change.{Change}
use Rattle.message_rules.specs.declared.Change.TheVariants.{Made, NoMessage, NotStorable, NoRun, TooManyFields}

-- The rules' number for each answer
unfoldable pub number_of_change : Change → ℕ
number_of_change Made = 0
number_of_change NoMessage = 27
number_of_change NotStorable = 41
number_of_change NoRun = 42
number_of_change TooManyFields = 21

unfoldable pub part_of : Part → Message → Map
part_of Header m = m.header
part_of Body m = m.body
part_of Trailer m = m.trailer

-- a message with another map in a part
unfoldable pub with_part : Part → Map → Message → Message
with_part Header map m = record { header = map; body = m.body; trailer = m.trailer }
with_part Body map m = record { header = m.header; body = map; trailer = m.trailer }
with_part Trailer map m = record { header = m.header; body = m.body; trailer = map }

-- the number of stored fields of a message, and all its values
unfoldable pub field_total : Message → ℕ
field_total m = field_count m.header + (field_count m.body + field_count m.trailer)

unfoldable pub value_total : Message → ℕ
value_total m = length (values_in (parts m))

-- what a call answers, and what it leaves of words and values
pub data After : Type 0 where
  after : Change → List ℕ → List ℕ → After

-- "judged by what it would leave: 41, 42, 21": the size of all values, whether a run is whole, the number of fields. What is refused
-- leaves everything as it was.
abbrev pub judged_by : List ℕ → List ℕ → ℕ → Bool → ℕ → List ℕ → List ℕ → After
judged_by words values size whole fields left_words left_values =
    pick (leb size 8192)
    (pick whole
    (pick (leb fields 1024) (after Made left_words left_values) (after TooManyFields words values))
    (after NoRun words values))
    (after NotStorable words values)

-- a map in the layout of what is lent, with zeros past it
unfoldable pub map_words : Map → List ℕ
map_words map = padded message_words (length (laid 0 map) ∷ flat (laid 0 map))

unfoldable pub map_values : Map → List ℕ
map_values map = padded 8192 (values_in map)

unfoldable pub judged_map : List ℕ → List ℕ → Bool → ℕ → Map → After
judged_map words values whole fields map =
    judged_by words values (length (values_in map)) whole fields (map_words map) (map_values map)

unfoldable pub judged : List ℕ → List ℕ → Bool → Message → After
judged words values whole m = judged_by words values (value_total m) whole (field_total m) (words_of m) (value_bytes_of m)

-- "27 first"
unfoldable pub of_message : List ℕ → List ℕ → (Message → After) → After
of_message words values then = pick (is_message words values) (then (message_in words values)) (after NoMessage words values)

-- an empty message
unfoldable pub no_fields : Message
no_fields = record { header = end; body = end; trailer = end }

-- what is lent must have its lengths: 27
unfoldable pub of_store : List ℕ → List ℕ → After → After
of_store words values then =
    pick (eqb (length words) message_words)
    (pick (eqb (length values) 8192) then (after NoMessage words values))
    (after NoMessage words values)

unfoldable pub emptying : List ℕ → List ℕ → After
emptying words values = of_store words values (after Made (words_of no_fields) (value_bytes_of no_fields))

-- a new message: its header has 8 and then 35
unfoldable pub new_message : List ℕ → List ℕ → Message
new_message begin_string message_type =
    with_part Header (stored 35 message_type (stored 8 begin_string end)) no_fields

unfoldable pub making : List ℕ → List ℕ → List ℕ → List ℕ → After
making begin_string message_type words values =
    of_store words values (judged words values true (new_message begin_string message_type))

-- a field is stored in a part
unfoldable pub storing : Part → ℕ → List ℕ → List ℕ → List ℕ → After
storing part tag value words values =
    of_message words values (λ m.
    pick (eqb tag 0) (after NotStorable words values)
    (judged words values true (with_part part (stored tag value (part_of part m)) m)))

-- a field is removed from a part; its run stays. Where it isn't held the message stays as it is.
unfoldable pub removing : Part → ℕ → List ℕ → List ℕ → After
removing part tag words values =
    of_message words values (λ m. judged words values true (with_part part (without_field tag (part_of part m)) m))
