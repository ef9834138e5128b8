-- Encode, the operation: "Encode: 22, 43, 20, 21, 23", and 27 first. What is refused leaves everything as it was.
use Rattle.std.specs.Prelude.{ℕ, Bool, true, false, List, ◌++◌, length, drop, ltb, Result, Ok, Err}
use Rattle.field_rules.specs.Choice.{pick}
use Rattle.field_rules.specs.Separator.{is_refused_separator}
use Rattle.message_maps.specs.Map.{Map, end, field, entry, holds}
use Rattle.message_lent_rules.specs.Lent.{is_message}
use Rattle.message_lent_rules.specs.Meaning.{Message, words_of, value_bytes_of, message_in}
use Rattle.message_rules.specs.Changes.{field_total}
use Rattle.encode_rules.specs.Encoding.{dropped, body_length, encoding, encoded_message}
use Rattle.encode_rules.specs.declared.Encoding.{Encoding}
use Rattle.encode_rules.specs.declared.Encoding.TheVariants.{Written, NoMessage, InvalidSeparator, Incomplete, TooLong, TooManyFields, NoRoom}

-- The rules' number for each answer
unfoldable pub number_of_encoding : Encoding → ℕ
number_of_encoding (Written length) = 0
number_of_encoding NoMessage = 27
number_of_encoding InvalidSeparator = 22
number_of_encoding Incomplete = 43
number_of_encoding TooLong = 20
number_of_encoding TooManyFields = 21
number_of_encoding NoRoom = 23

-- the length that an encoding returns, 0 where it is refused
unfoldable pub length_of_encoding : Encoding → ℕ
length_of_encoding (Written length) = length
length_of_encoding NoMessage = 0
length_of_encoding InvalidSeparator = 0
length_of_encoding Incomplete = 0
length_of_encoding TooLong = 0
length_of_encoding TooManyFields = 0
length_of_encoding NoRoom = 0

-- "a run without its count field": what is left of a map has an entry whose start tag the map lacks, or an entry has one in its own map
unfoldable pub lacks_count : Map → Map → Bool
lacks_count map end = false
lacks_count map (field t v rest) = lacks_count map rest
lacks_count map (entry s d own rest) = pick (holds s map) (pick (lacks_count own own) true (lacks_count map rest)) true

unfoldable pub has_uncounted : Message → Bool
has_uncounted m =
    pick (lacks_count m.header m.header) true
    (pick (lacks_count m.body m.body) true (lacks_count m.trailer m.trailer))

-- "encoding a run without its count field, or a header without 8 or 35"
unfoldable pub is_incomplete : Message → Bool
is_incomplete m = pick (holds 8 m.header) (pick (holds 35 m.header) (has_uncounted m) true) true

-- "Encode: 22, 43, 20, 21, 23": runs are judged once the trailer's 10 is dropped, and before 9 is set
unfoldable pub judging : ℕ → Message → ℕ → Result ℕ Encoding
judging separator m room =
    pick (is_refused_separator separator) (Err InvalidSeparator)
    (pick (is_incomplete (dropped m)) (Err Incomplete)
    (pick (ltb 8192 (length (encoding separator m))) (Err TooLong)
    (pick (ltb 1024 (field_total (encoded_message separator m))) (Err TooManyFields)
    (pick (ltb room (length (encoding separator m))) (Err NoRoom)
    (Ok (body_length (dropped m)))))))

-- "27 first"
unfoldable pub encode_verdict : ℕ → List ℕ → List ℕ → ℕ → Result ℕ Encoding
encode_verdict separator words values room =
    pick (is_message words values) (judging separator (message_in words values) room) (Err NoMessage)

-- what a call answers, and what it leaves of words, values and output
pub data Left : Type 0 where
  left : Encoding → List ℕ → List ℕ → List ℕ → Left

-- "an encoding is written at the start of the output, its length returned ..; the rest of the output stays"
unfoldable pub encoded : ℕ → Message → List ℕ → Left
encoded separator m output =
    left (Written (length (encoding separator m)))
    (words_of (encoded_message separator m)) (value_bytes_of (encoded_message separator m))
    (encoding separator m ++ drop (length (encoding separator m)) output)

unfoldable pub after_verdict : ℕ → List ℕ → List ℕ → List ℕ → Result ℕ Encoding → Left
after_verdict separator words values output (Err refusal) = left refusal words values output
after_verdict separator words values output (Ok body) = encoded separator (message_in words values) output

unfoldable pub encoding_of : ℕ → List ℕ → List ℕ → List ℕ → Left
encoding_of separator words values output =
    after_verdict separator words values output (encode_verdict separator words values (length output))
