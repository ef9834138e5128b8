-- Worked examples of "clean": the five tests of each message, one table under one statement, and one clean message whole.
use Rattle.std.specs.Prelude.{◌≡◌, refl, Bool, true, false, List, [], ◌∷◌, ◌++◌, map, ℕ, ◌-◌, length, eqb, Option, Some, None}
use Rattle.build_config.specs.Settings.{validating}
use Rattle.field_rules.specs.Computing.{reading-fields}
use Rattle.field_rules.specs.Text.{bytes}
use Rattle.field_rules.specs.CheckSum.{sum_of, checksum_of, checksum_digits}
use Rattle.field_rules.specs.Decimal.{decimal_within}
use Rattle.field_rules.specs.Field.{start_at, separated_by}
use Rattle.field_rules.specs.Fields.{fields_from}
use Rattle.build_integrity_rules.specs.Integrity.{integrity_of, begun, counted, summed, typed, length_is, length_agrees, sum_is, sum_agrees}
use Rattle.dictionary_layout_rules.specs.Layout.{followed_by as layout_then, first_of, position_from, position_in, group_since, group_of, delimiter_of_lem, required_tags}
use Rattle.dictionary_layout_rules.specs.Tree.{holds_tag, knows, plain_fields, header_tags_lem, trailer_tags_lem, flattened, same_bytes, message_of, layout_of}
use Rattle.build_records.specs.Records.{stored, value_at}
use Rattle.build_group_rules.specs.Groups.{is_delimiter, counting, opens, declared, entry_kind, in_entry_lem, decide, entry_record, moved, walk}
use Rattle.build_group_rules.specs.Reading.{accepted, opened_as, layout_rules, joined_list, list_store}
use Rattle.build_required_rules.specs.Required.{or_else, has, fields_lack, before, shallow, run_lacks, nested_lack, entries_lack, opens_entry, entry_lack, run_lack}
use Rattle.build_required_rules.specs.Checking.{layout_demands}
use Rattle.build_parts.specs.Parts.{part_record}
use Rattle.build_parts.specs.Header.{header_from}
use Rattle.build_parts.specs.Trailer.{trailer_from}
use Rattle.build_body_rules.specs.Body.{behind_run, stored_run, and_then, next_from, with_run, takes, body_within, body_from}
use Rattle.build_body_rules.specs.Kinds.{group_kind, placed_kind, body_kind, checked, ran_as, run_from, body_of}
use Rattle.build_rules.specs.Beginning.{verified_records, header_of, with_checksum, started_by, start_of, msg_type_record}
use Rattle.build_rules.specs.Message.{after_trailer, after_body, after_type, after_header, message_read}
use Rattle.build_rules.specs.Examples.{dictionary, closed, order}
use Rattle.build_order_laws.specs.Counted.{fields_counted, counted_fields, counted_to}
use Rattle.build_order_laws.specs.Twice.{twice_in_header, twice_in_trailer, twice_moved, twice_in_run, twice_behind, twice_taking, twice_within, twice_in_body}
use Rattle.build_order_laws.specs.Twice.{twice_from_body, twice_from_header, stored_twice}
use Rattle.encode_rewriting_laws.specs.Plain.{is_plain, plain_tags, plain_length, three_digits}
use Rattle.promise_roundtrip.specs.Clean.{Clean}
use Rattle.field_rules.specs.declared.Field.{Field}

-- a tag stored twice; plain tags; a plain BodyLength; a CheckSum of three digits; the trailer stops at length minus 7
abbrev Tests : Type 0
Tests = Bool × Bool × Bool × Bool × Bool

abbrev tests_at : List ℕ → Option Field → Tests
tests_at message (Some f) = (
  stored_twice dictionary (validating true) message,
  plain_tags message f.first (fields_from (separated_by 1) message (start_at 0)),
  plain_length message (fields_from (separated_by 1) message (start_at 0)),
  three_digits message f,
  eqb f.first (length message - 7),
)
tests_at message None =
    (stored_twice dictionary (validating true) message, true, plain_length message (fields_from (separated_by 1) message (start_at 0)), false, false)

abbrev tests : List ℕ → Tests
tests message = tests_at message (message_read dictionary (validating true) message).stop

abbrev heartbeat : List ℕ
heartbeat = bytes "8=FIX.4.4|9=5|35=0|10=163|"

abbrev Row : Type 0
Row = List ℕ × Tests

abbrev table : List Row
table =
    -- P1, P3, P5, and a run of two entries
    (heartbeat, (false, true, true, true, true))
    ∷ (bytes "8=FIX.4.4|9=5|35=0|10=abc|", (false, true, true, false, true))
    ∷ (order "38=600|58=x|38=800|", (true, true, true, true, true))
    ∷ (order "78=2|79=A|80=5|79=B|80=6|58=x|", (false, true, true, true, true))
    -- leading zeros: of a tag, of BodyLength
    ∷ (closed (bytes "8=FIX.4.4|9=6|035=0|"), (false, false, true, true, true))
    ∷ (closed (bytes "8=FIX.4.4|9=05|35=0|"), (false, true, false, true, true))
    -- the trailer stops at an earlier 10
    ∷ (order "93=x|10=123|", (false, true, true, true, false))
    ∷ []

pub tests_hold : map (λ (row : Row). tests row.0) table ≡ map (λ (row : Row). row.1) table
unfolding stored_twice twice_from_header twice_from_body twice_in_body twice_within twice_taking twice_behind twice_in_run twice_moved twice_in_trailer twice_in_header
    is_plain plain_tags plain_length three_digits message_read start_of started_by header_of verified_records with_checksum header_from after_header after_type after_body
    after_trailer msg_type_record value_at trailer_from part_record body_from body_within takes with_run next_from and_then stored_run behind_run body_of run_from ran_as
    checked body_kind placed_kind group_kind integrity_of begun counted summed typed length_is length_agrees sum_is sum_agrees sum_of checksum_of checksum_digits
    decimal_within layout_then position_from first_of position_in group_since group_of delimiter_of_lem required_tags holds_tag knows plain_fields header_tags_lem trailer_tags_lem
    flattened same_bytes message_of layout_of stored is_delimiter counting opens declared entry_kind in_entry_lem decide entry_record moved walk accepted opened_as
    layout_rules joined_list list_store or_else has fields_lack before shallow run_lacks nested_lack entries_lack opens_entry entry_lack run_lack layout_demands
    reading-fields
tests_hold = refl

-- P1 is clean
pub heartbeat_clean : Clean dictionary (validating true) heartbeat
unfolding stored_twice twice_from_header twice_from_body twice_in_body twice_within twice_taking twice_behind twice_in_run twice_moved twice_in_trailer twice_in_header
    is_plain plain_tags plain_length three_digits message_read start_of started_by header_of verified_records with_checksum header_from after_header after_type after_body
    after_trailer msg_type_record value_at trailer_from part_record body_from body_within takes with_run next_from and_then stored_run behind_run body_of run_from ran_as
    checked body_kind placed_kind group_kind integrity_of begun counted summed typed length_is length_agrees sum_is sum_agrees sum_of checksum_of checksum_digits
    decimal_within layout_then position_from first_of position_in group_since group_of delimiter_of_lem required_tags holds_tag knows plain_fields header_tags_lem trailer_tags_lem
    flattened same_bytes message_of layout_of stored is_delimiter counting opens declared entry_kind in_entry_lem decide entry_record moved walk accepted opened_as
    layout_rules joined_list list_store or_else has fields_lack before shallow run_lacks nested_lack entries_lack opens_entry entry_lack run_lack layout_demands
    reading-fields fields_counted counted_fields counted_to
heartbeat_clean =
    record {
      repeat-free = record { valid = refl; holds-begin_string = refl; holds-body_length = refl; holds_msg_type = refl; none-twice = refl };
      stop = record { first = 19; tag = 10; place = 22; length = 3; next = start_at 26 };
      stops = refl;
      at_checksum = refl;
      tags-plain = refl;
      length-plain = refl;
      three_digits_lem = refl;
    }
