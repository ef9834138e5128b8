-- P1 to P11 of the rules, one table under one statement: what is read by the dictionary of the examples, as a tree. `builder` carries
-- the same table through the whole build, with the dictionary in bytes.
use Rattle.std.specs.Prelude.{◌≡◌, refl, List, [], ◌∷◌, ◌++◌, map, Bool, true, false, ℕ, zero, suc, ◌+◌, ◌*◌, ◌%◌, length}
use Prim.Native.String.{String}
use Rattle.build_config.specs.Settings.{validating}
use Rattle.field_rules.specs.Computing.{reading-fields}
use Rattle.field_rules.specs.Text.{bytes}
use Rattle.field_rules.specs.CheckSum.{sum_of, checksum_of, checksum_digits}
use Rattle.field_rules.specs.Decimal.{decimal_within}
use Rattle.build_integrity_rules.specs.Integrity.{number_of_reason, integrity_of, begun, counted, summed, typed, length_is, length_agrees, sum_is, sum_agrees}
use Rattle.dictionary_layout_rules.specs.Layout.{followed_by as layout_then, first_of, position_from, position_in, group_since, group_of, delimiter_of_lem, required_tags}
use Rattle.dictionary_layout_rules.specs.Tree.{Nodes, nothing, field_item_lem, group_item_lem, Dictionary, holds_tag, knows, plain_fields, header_tags_lem, trailer_tags_lem, flattened, same_bytes, message_of, layout_of}
use Rattle.build_records.specs.Records.{stored, value_at}
use Rattle.build_records.specs.declared.Record.{Record}
use Rattle.build_group_rules.specs.Groups.{is_delimiter, counting, opens, declared, entry_kind, in_entry_lem, decide, entry_record, moved, walk}
use Rattle.build_group_rules.specs.Reading.{accepted, opened_as, layout_rules, joined_list, list_store, answer_of}
use Rattle.build_required_rules.specs.Required.{or_else, has, fields_lack, before, shallow, run_lacks, nested_lack, entries_lack, opens_entry, entry_lack, run_lack}
use Rattle.build_required_rules.specs.Checking.{layout_demands}
use Rattle.build_answers.specs.Answer.{number_of, values_of}
use Rattle.build_parts.specs.Parts.{part_record}
use Rattle.build_parts.specs.Header.{header_from}
use Rattle.build_parts.specs.Trailer.{trailer_from}
use Rattle.build_rules.specs.Beginning.{verified_records, header_of, with_checksum, started_by, start_of, msg_type_record}
use Rattle.build_body_rules.specs.Body.{behind_run, stored_run, and_then, next_from, with_run, takes, body_within, body_from}
use Rattle.build_body_rules.specs.Kinds.{group_kind, placed_kind, body_kind, checked, ran_as, run_from, body_of}
use Rattle.build_rules.specs.Message.{Outcome, shown_with, refusal, after_trailer, after_body, after_type, after_header, message_read}

abbrev pub fields : List ℕ → Nodes
fields [] = nothing
fields (tag ∷ tags) = field_item_lem tag false (fields tags)

-- "header 8 9 35 34 49; trailer 93 89 10; message `0` with 112; message `D` with 38, group 78 (79 and 80 required; group 539 with 524
-- required, 525), 58"
abbrev pub dictionary : Dictionary
dictionary = record {
  known = 8 ∷ 9 ∷ 35 ∷ 34 ∷ 49 ∷ 93 ∷ 89 ∷ 10 ∷ 112 ∷ 38 ∷ 78 ∷ 79 ∷ 80 ∷ 539 ∷ 524 ∷ 525 ∷ 58 ∷ [];
  header = fields (8 ∷ 9 ∷ 35 ∷ 34 ∷ 49 ∷ []);
  trailer = fields (93 ∷ 89 ∷ 10 ∷ []);
  messages = record { msg_type = bytes "0"; nodes = fields (112 ∷ []) }
      ∷ record { msg_type = bytes "D"; nodes = field_item_lem 38 false (group_item_lem 78 false (field_item_lem 79 true (field_item_lem 80 true (group_item_lem 539 false (field_item_lem 524 true (field_item_lem 525 false nothing)) nothing))) (field_item_lem 58 false nothing)) }
      ∷ [];
}

unfoldable pub times : ℕ → List ℕ → List ℕ
times zero text = []
times (suc n) text = text ++ times n text

-- "the fields between 35 and a right CheckSum"
abbrev pub closed : List ℕ → List ℕ
closed message = message ++ (bytes "10=" ++ (checksum_digits (sum_of message % 256) ++ bytes "|"))

abbrev pub order : String → List ℕ
order text = closed (bytes "8=FIX.4.4|9=" ++ (decimal_within 3 (length (bytes "35=D|" ++ bytes text)) ++ (bytes "|" ++ (bytes "35=D|" ++ bytes text))))

-- an order with one empty field so many times
abbrev pub crowd : ℕ → List ℕ
crowd n = closed (bytes "8=FIX.4.4|9=" ++ (decimal_within 4 (5 + 4 * n) ++ (bytes "|35=D|" ++ times n (bytes "58=|"))))

-- part, depth, entry number, tag, place and length
abbrev pub shows : ℕ → ℕ → ℕ → ℕ → ℕ → ℕ → Record
shows part depth number tag place size = record { part = part; depth = depth; number = number; tag = tag; place = place; length = size }

-- the header of an order whose BodyLength has two digits
abbrev pub header : List Record
header = shows 1 0 0 8 2 7 ∷ shows 1 0 0 9 12 2 ∷ shows 1 0 0 35 18 1 ∷ []

abbrev pub heartbeat : List Record
heartbeat = shows 1 0 0 8 2 7 ∷ shows 1 0 0 9 12 1 ∷ shows 1 0 0 35 17 1 ∷ shows 3 0 0 10 22 3 ∷ []

-- validation, the message, the number, the values, and the records that are shown
abbrev pub Row : Type 0
Row = Bool × List ℕ × ℕ × (ℕ × ℕ) × List Record

abbrev pub table : List Row
table =
    (true, bytes "8=FIX.4.4|9=5|35=0|10=163|", 0, (0, 0), heartbeat)
    ∷ (true, bytes "8=FIX.4.4|9=5|35=0|10=162|", 14, (0, 0), [])
    ∷ (true, bytes "8=FIX.4.4|9=5|35=0|10=abc|", 0, (0, 0), heartbeat)
    ∷ (true, bytes "8=FIX.4.4|9=0|10=200|", 13, (0, 0), [])
    ∷ (true, bytes "9=5|35=0|10=163|", 11, (0, 0), [])
    ∷ (true, bytes "8=FIX.4.4|9=6|35=0|10=163|", 12, (0, 0), [])
    -- "3 | MsgType not in the dictionary | place and length"
    ∷ (true, closed (bytes "8=FIX.4.4|9=5|35=X|"), 3, (17, 1), shows 1 0 0 8 2 7 ∷ shows 1 0 0 9 12 1 ∷ shows 1 0 0 35 17 1 ∷ [])
    -- no field where one is needed: in the header, in the body
    ∷ (true, order "34|", 10, (0, 0), [])
    ∷ (true, order "38=5|x=1|", 10, (0, 0), [])
    -- a header past 35, and a trailer past the verified CheckSum, which stands first
    ∷ (true, order "34=7|49=A|38=5|", 0, (0, 0), header ++ (shows 1 0 0 34 23 1 ∷ shows 1 0 0 49 28 1 ∷ shows 2 0 0 38 33 1 ∷ shows 3 0 0 10 38 3 ∷ []))
    ∷ (true, order "38=5|93=1|89=x|", 0, (0, 0), header ++ (shows 2 0 0 38 23 1 ∷ shows 3 0 0 10 38 3 ∷ shows 3 0 0 93 28 1 ∷ shows 3 0 0 89 33 1 ∷ []))
    -- "38 is 800 and stands first"
    ∷ (true, order "38=600|58=x|38=800|", 0, (0, 0), header ++ (shows 2 0 0 38 35 3 ∷ shows 2 0 0 58 30 1 ∷ shows 3 0 0 10 42 3 ∷ []))
    ∷ (true, order "78=2|79=A|80=5|", 0, (0, 0), header ++ (shows 2 0 0 78 23 1 ∷ shows 2 1 1 79 28 1 ∷ shows 2 1 1 80 33 1 ∷ shows 3 0 0 10 38 3 ∷ []))
    ∷ (true, order "78=0|58=x|", 2, (58, 78), header)
    ∷ (true, order "78=1|79=A|58=x|", 4, (80, 78), header)
    ∷ (true, order "78=1|79=A|80=5|80=6|", 2, (80, 78), header)
    ∷ (true, order "78=1|79=A|80=5|539=0|", 2, (10, 539), header)
    ∷ (true, order "5001=x|", 1, (5001, 0), header)
    ∷ (false, order "5001=x|", 0, (0, 0), header ++ (shows 2 0 0 5001 25 1 ∷ shows 3 0 0 10 30 3 ∷ []))
    ∷ []

-- "over 1,024 fields read", the 10 that stops the trailer included
abbrev pub crowds : List Row
crowds =
    (true, crowd 1020, 0, (0, 0), shows 1 0 0 8 2 7 ∷ shows 1 0 0 9 12 4 ∷ shows 1 0 0 35 20 1 ∷ shows 2 0 0 58 4101 0 ∷ shows 3 0 0 10 4105 3 ∷ [])
    ∷ (true, crowd 1021, 21, (0, 0), [])
    ∷ []

abbrev pub Answered : Type 0
Answered = ℕ × (ℕ × ℕ) × List Record

abbrev pub answered : Outcome → Answered
answered read = (number_of read.answer, values_of read.answer, read.records)

-- "Body-level required marks are not checked.": message `D` requires 38 here
abbrev pub marked : Dictionary
marked = record {
  known = dictionary.known;
  header = dictionary.header;
  trailer = dictionary.trailer;
  messages = record { msg_type = bytes "D"; nodes = field_item_lem 38 true (field_item_lem 58 false nothing) } ∷ [];
}

abbrev pub rows_read : List Row → Type 0
rows_read rows = map (λ (row : Row). answered (message_read dictionary (validating row.0) row.1)) rows ≡ map {B = Answered} (λ (row : Row). (row.2, row.3, row.4)) rows

-- THE TABLE, the crowds, and an order without 38 by that other dictionary
pub all_read : rows_read table × rows_read crowds × (number_of (message_read marked (validating true) (order "58=x|")).answer ≡ 0)
unfolding times message_read number_of start_of started_by header_of verified_records with_checksum header_from after_header after_type after_body after_trailer refusal
    shown_with msg_type_record value_at trailer_from part_record values_of body_from body_within takes with_run next_from and_then stored_run behind_run body_of run_from
    ran_as checked body_kind placed_kind group_kind answer_of number_of_reason integrity_of begun counted summed typed length_is length_agrees sum_is sum_agrees sum_of
    checksum_of checksum_digits decimal_within layout_then position_from first_of position_in group_since group_of delimiter_of_lem required_tags holds_tag knows
    plain_fields header_tags_lem trailer_tags_lem flattened same_bytes message_of layout_of stored is_delimiter counting opens declared entry_kind in_entry_lem decide
    entry_record moved walk accepted opened_as layout_rules joined_list list_store or_else has fields_lack before shallow run_lacks nested_lack entries_lack
    opens_entry entry_lack run_lack layout_demands reading-fields
all_read = (refl, refl, refl)
