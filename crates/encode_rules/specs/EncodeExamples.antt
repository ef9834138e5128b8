-- Worked examples of this crate's definitions: a call that is answered by each number, and what calls leave. antt computes them.
-- A wrong definition is refused here, whatever code is proved against it.
use Rattle.std.specs.Prelude.{◌≡◌, refl, List, [], ◌∷◌, ℕ, zero, suc, replicate, Result, Ok, Err}
use Rattle.field_rules.specs.Text.{bytes}
use Rattle.field_rules.specs.Number.{is_digit}
use Rattle.field_rules.specs.Decimal.{decimal, decimal_within}
use Rattle.field_rules.specs.CheckSum.{sum_of, checksum_digits}
use Rattle.field_rules.specs.Separator.{is_refused_separator}
use Rattle.message_maps.specs.Map.{Map, end, field, entry, joined, holds, holds_any, replaced, without_field, run_on, without_run, stored, field_count, values_in}
use Rattle.message_maps.specs.Rows.{laid, flat, padded, row_at, rows_from, level_of, size_of, matches, sizes}
use Rattle.message_lent_rules.specs.Lent.{held_before, delimiter_is, continues, follows_on, deepest, field_allowed, head_allowed, row_allowed, rows_allowed, is_part}
use Rattle.message_lent_rules.specs.Lent.{next_part, parts_from, is_own, own_below, weight, fields_in, row_count, rows_of, is_laid, is_message}
use Rattle.message_lent_rules.specs.Meaning.{Message, parts, words_of, value_bytes_of, opened, with_field, with_entry, with_row, open_in, outermost, third_of}
use Rattle.message_lent_rules.specs.Meaning.{second_of, parts_in, message_in}
use Rattle.message_rules.specs.Changes.{field_total}
use Rattle.encode_rules.specs.Encoding.{text, text_under, is_first, is_rest, header_text, message_text, bytes_of, dropped, body_length, measured, sum_digits}
use Rattle.encode_rules.specs.Encoding.{summed, encoding, encoded_message}
use Rattle.encode_rules.specs.Encode.{number_of_encoding, lacks_count, has_uncounted, is_incomplete, judging, encode_verdict, Left, left, encoded}
use Rattle.encode_rules.specs.Encode.{after_verdict, encoding_of}
use Rattle.encode_rules.specs.declared.Encoding.TheVariants.{Written, NoMessage, InvalidSeparator, Incomplete, TooLong, TooManyFields, NoRoom}
use Rattle.encode_rules.specs.declared.Encoding.{Encoding}

-- a header with 8 and 35, and what a body or trailer has
with_body_lem : Map → Message
with_body_lem body = record { header = field 8 (bytes "FIX.4.4") (field 35 (bytes "0") end); body = body; trailer = end }

with-trailer : Map → Message
with-trailer trailer = record { header = field 8 (bytes "FIX.4.4") (field 35 (bytes "0") end); body = end; trailer = trailer }

with-header : Map → Message
with-header more = record { header = field 8 (bytes "FIX.4.4") (field 35 (bytes "0") more); body = end; trailer = end }

-- one entry of a run
run : ℕ → Map
run start = entry start 79 (field 79 (bytes "A") end) end

-- a count and so many entries without any field, each of which counts as one
entries : ℕ → Map
entries zero = end
entries (suc n) = entry 78 79 end (entries n)

many : ℕ → Map
many n = field 78 (bytes "1") (entries n)

-- the new 9 and 10 count: 1,020 fields beside 8 and 35 are fine, 1,021 are not; a held 10 counts once; 21 comes before 23
fields_counted_lem : judging 1 (with_body_lem (many 1019)) 0 ∷ judging 1 (with_body_lem (many 1020)) 0 ∷ judging 1 (with-trailer (field 10 (bytes "000") (many 1019))) 0 ∷ []
    ≡ Err NoRoom ∷ Err TooManyFields ∷ Err NoRoom ∷ []
unfolding with_body_lem with-trailer many entries judging is_refused_separator is_digit is_incomplete has_uncounted lacks_count encoding summed sum_digits message_text header_text text_under text is_first is_rest measured dropped body_length bytes_of without_field stored holds holds_any replaced joined without_run run_on decimal decimal_within sum_of checksum_digits encoded_message field_total field_count
fields_counted_lem = refl

-- a body of one value without 35 in the header
typeless : ℕ → Message
typeless size = record { header = field 8 (bytes "FIX.4.4") end; body = field 58 (replicate size 65) end; trailer = end }

-- 8,192 bytes are encoded, 8,193 are not; 43 comes before 20, and 20 before 21 and 23
bytes_counted : judging 1 (with_body_lem (field 58 (replicate 8159 65) end)) 8192 ∷ judging 1 (with_body_lem (field 58 (replicate 8160 65) end)) 0 ∷ judging 1 (with_body_lem (field 58 (replicate 8160 65) (many 1020))) 0 ∷ judging 1 (typeless 8192) 0 ∷ []
    ≡ Ok 8168 ∷ Err TooLong ∷ Err TooLong ∷ Err Incomplete ∷ []
unfolding with_body_lem typeless many entries judging is_refused_separator is_digit is_incomplete has_uncounted lacks_count encoding summed sum_digits message_text header_text text_under text is_first is_rest measured dropped body_length bytes_of without_field stored holds holds_any replaced joined without_run run_on decimal decimal_within sum_of checksum_digits encoded_message field_total field_count
bytes_counted = refl

-- P1's 26 bytes have room in 26, and not in 25; `=`, `0` and `9` separate nothing, `/` and `:` do
rooms : List (Result ℕ Encoding)
rooms =
    judging 1 (with_body_lem end) 26 ∷ judging 1 (with_body_lem end) 25
    ∷ judging 61 (with_body_lem end) 26 ∷ judging 48 (with_body_lem end) 26 ∷ judging 57 (with_body_lem end) 26
    ∷ judging 47 (with_body_lem end) 26 ∷ judging 58 (with_body_lem end) 26 ∷ []

-- without 8, without 35; 22 comes before 43
headless : List (Result ℕ Encoding)
headless =
    judging 1 (record { header = field 35 (bytes "0") end; body = end; trailer = end }) 0
    ∷ judging 1 (record { header = field 8 (bytes "FIX.4.4") end; body = end; trailer = end }) 0
    ∷ judging 61 (record { header = end; body = end; trailer = end }) 0 ∷ []

-- runs without their counts and with them, also in an entry; a header run on 9 needs a 9 beforehand, a trailer run on 10 is refused with 10
-- present, and in a body 10 is ordinary
runs : List (Result ℕ Encoding)
runs =
    judging 1 (with_body_lem (run 78)) 100 ∷ judging 1 (with_body_lem (field 78 (bytes "1") (run 78))) 100
    ∷ judging 1 (with_body_lem (field 78 (bytes "1") (entry 78 79 (field 79 (bytes "A") (run 539)) end))) 100
    ∷ judging 1 (with-header (run 9)) 100 ∷ judging 1 (with-header (field 9 (bytes "") (run 9))) 100
    ∷ judging 1 (with-trailer (field 10 (bytes "000") (run 10))) 100
    ∷ judging 1 (with_body_lem (field 10 (bytes "1") (run 10))) 100 ∷ []

verdicts : rooms ∷ headless ∷ runs ∷ []
    ≡ (Ok 5 ∷ Err NoRoom ∷ Err InvalidSeparator ∷ Err InvalidSeparator ∷ Err InvalidSeparator ∷ Ok 5 ∷ Ok 5 ∷ [])
    ∷ (Err Incomplete ∷ Err Incomplete ∷ Err InvalidSeparator ∷ [])
    ∷ (Err Incomplete ∷ Ok 15 ∷ Err Incomplete ∷ Err Incomplete ∷ Ok 10 ∷ Err Incomplete ∷ Ok 15 ∷ []) ∷ []
unfolding rooms headless runs with_body_lem with-trailer with-header run judging is_refused_separator is_digit is_incomplete has_uncounted lacks_count encoding summed
    sum_digits message_text header_text text_under text is_first is_rest measured dropped body_length bytes_of without_field stored holds holds_any replaced joined
    without_run run_on decimal decimal_within sum_of checksum_digits encoded_message field_total field_count
verdicts = refl

-- P1 once it is encoded
heartbeat : Message
heartbeat =
    record { header = field 8 (bytes "FIX.4.4") (field 35 (bytes "0") (field 9 (bytes "5") end)); body = end; trailer = field 10 (bytes "163") end }

-- a call for a message that is lent
calling : Message → List ℕ → Left
calling m output = encoding_of 1 (words_of m) (value_bytes_of m) output

-- P1's bytes stand at the start of the output, what was behind them stays, and the message holds the new 9 and 10, last where it had none;
-- encoded again it is the same. What is refused leaves everything, and nothing that is lent is no message.
calls : calling (with_body_lem end) (bytes "..............................") ∷ calling heartbeat (bytes "..............................") ∷ calling heartbeat
    (bytes ".........................") ∷ encoding_of 1 [] [] (bytes "..") ∷ []
    ≡ left (Written 26) (words_of heartbeat) (value_bytes_of heartbeat) (bytes "8=FIX.4.4|9=5|35=0|10=163|....")
    ∷ left (Written 26) (words_of heartbeat) (value_bytes_of heartbeat) (bytes "8=FIX.4.4|9=5|35=0|10=163|....")
    ∷ left NoRoom (words_of heartbeat) (value_bytes_of heartbeat) (bytes ".........................")
    ∷ left NoMessage [] [] (bytes "..") ∷ []
unfolding calling heartbeat with_body_lem encoding_of after_verdict encode_verdict encoded words_of value_bytes_of parts laid flat padded values_in is_message is_laid
    rows_of row_count rows_from row_at rows_allowed row_allowed field_allowed head_allowed held_before follows_on continues delimiter_is deepest level_of size_of sizes
    matches parts_from next_part is_part fields_in weight own_below is_own message_in open_in with_row with_entry with_field opened outermost third_of second_of parts_in
    judging is_refused_separator is_digit is_incomplete has_uncounted lacks_count encoding summed sum_digits message_text header_text text_under text is_first is_rest
    measured dropped body_length bytes_of without_field stored holds holds_any replaced joined without_run run_on decimal decimal_within sum_of checksum_digits
    encoded_message field_total field_count
calls = refl

-- The rules' numbers
numbers : number_of_encoding (Written 26) ∷ number_of_encoding NoMessage ∷ number_of_encoding InvalidSeparator ∷ number_of_encoding Incomplete
    ∷ number_of_encoding TooLong ∷ number_of_encoding TooManyFields ∷ number_of_encoding NoRoom ∷ []
    ≡ 0 ∷ 27 ∷ 22 ∷ 43 ∷ 20 ∷ 21 ∷ 23 ∷ []
unfolding number_of_encoding
numbers = refl
