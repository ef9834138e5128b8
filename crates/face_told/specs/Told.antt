-- What a caller in another language is told: the number is the answer, the rest stands in four lent words.
use Rattle.std.specs.Prelude.{ℕ, ◌%◌, ◌^◌, Bool, List, [], ◌∷◌, eqb}
use Rattle.field_rules.specs.Choice.{pick}
use Rattle.message_rules.specs.declared.Part.{Part}
use Rattle.message_rules.specs.declared.Part.TheVariants.{Header, Body, Trailer}
use Rattle.message_rules.specs.Changes.{After, after, number_of_change}
use Rattle.encode_rules.specs.Encode.{Left, left, number_of_encoding, length_of_encoding}
use Rattle.message_rules.specs.declared.FoundValue.{FoundValue}
use Rattle.message_rules.specs.declared.FoundValue.TheVariants as value
use Rattle.message_rules.specs.declared.FoundMap.{FoundMap}
use Rattle.message_rules.specs.declared.FoundMap.TheVariants as map
use Rattle.message_take_over.specs.Taking.{AfterTaking, after as after_taking, number_of_taken}

-- "`[records, first value, second value, 0]`, fixed on every answer", each of them as a word of 32 bits
unfoldable pub told : ℕ → ℕ × ℕ → List ℕ
told records values = records % 2 ^ 32 ∷ values.0 % 2 ^ 32 ∷ values.1 % 2 ^ 32 ∷ 0 ∷ []

-- "part (1 header, 2 body, 3 trailer)"; every other number is the trailer as well
unfoldable pub part_numbered : ℕ → Part
part_numbered number = pick (eqb number 1) Header (pick (eqb number 2) Body Trailer)

-- ===== a change of a message: its number, and what it leaves of words and values =====

unfoldable pub change_number : After → ℕ
change_number (after change words values) = number_of_change change

unfoldable pub changed_words : After → List ℕ
changed_words (after change words values) = words

unfoldable pub changed_values : After → List ℕ
changed_values (after change words values) = values

-- ===== a built message taken over: 0 or 27 =====

unfoldable pub taking_number : AfterTaking → ℕ
taking_number (after_taking taken words values) = number_of_taken taken

unfoldable pub taken_words : AfterTaking → List ℕ
taken_words (after_taking taken words values) = words

unfoldable pub taken_values : AfterTaking → List ℕ
taken_values (after_taking taken words values) = values

-- ===== an encoding: its number and length, and what it leaves =====

unfoldable pub encoding_number : Left → ℕ
encoding_number (left encoding words values output) = number_of_encoding encoding

unfoldable pub encoding_length : Left → ℕ
encoding_length (left encoding words values output) = length_of_encoding encoding

unfoldable pub left_words : Left → List ℕ
left_words (left encoding words values output) = words

unfoldable pub left_values : Left → List ℕ
left_values (left encoding words values output) = values

unfoldable pub left_output : Left → List ℕ
left_output (left encoding words values output) = output

-- ===== a look-up: how many were found, and where =====

unfoldable pub told_map : FoundMap → List ℕ
told_map map.NoMessage = told 0 (0, 0)
told_map map.Absent = told 0 (0, 0)
told_map (map.At row) = told 1 (row, 0)

unfoldable pub told_value : FoundValue → List ℕ
told_value value.NoMessage = told 0 (0, 0)
told_value value.Absent = told 0 (0, 0)
told_value (value.At v) = told 1 (v.place, v.size)
