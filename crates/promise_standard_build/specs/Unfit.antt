-- For each condition of what fits a dictionary the smallest order without it: it is refused, or its records do not tell it. Each condition
-- is needed. The dictionaries are that of the examples, but for what is said beside them.
use Rattle.std.specs.Prelude.{◌≡◌, refl, List, [], ◌∷◌, map, true, false, ℕ, drop}
use Prim.Native.String.{String}
use Rattle.build_config.specs.Settings.{validating}
use Rattle.field_rules.specs.Computing.{reading-fields}
use Rattle.field_rules.specs.Text.{bytes}
use Rattle.field_rules.specs.CheckSum.{sum_of, checksum_of, checksum_digits}
use Rattle.field_rules.specs.Decimal.{decimal_within}
use Rattle.build_integrity_rules.specs.Integrity.{number_of_reason, integrity_of, begun, counted, summed, typed, length_is, length_agrees, sum_is, sum_agrees}
use Rattle.dictionary_layout_rules.specs.Layout.{followed_by as layout_then, first_of, position_from, position_in, group_since, group_of, delimiter_of_lem, required_tags}
use Rattle.dictionary_layout_rules.specs.Tree.{Nodes, nothing, field_item_lem, group_item_lem, Message, Dictionary, holds_tag, knows, plain_fields, header_tags_lem}
use Rattle.dictionary_layout_rules.specs.Tree.{trailer_tags_lem, flattened, same_bytes, message_of, layout_of}
use Rattle.build_records.specs.Records.{stored, value_at}
use Rattle.build_records.specs.declared.Record.{Record}
use Rattle.build_group_rules.specs.Groups.{is_delimiter, counting, opens, declared, entry_kind, in_entry_lem, decide, entry_record, moved, walk}
use Rattle.build_group_rules.specs.Reading.{accepted, opened_as, layout_rules, joined_list, list_store, answer_of}
use Rattle.build_required_rules.specs.Required.{or_else, has, fields_lack, before, shallow, run_lacks, nested_lack, entries_lack, opens_entry, entry_lack, run_lack}
use Rattle.build_required_rules.specs.Checking.{layout_demands}
use Rattle.build_answers.specs.Answer.{number_of, values_of}
use Rattle.build_parts.specs.Parts.{part_record}
use Rattle.build_parts.specs.Header.{header_from}
use Rattle.build_parts.specs.Trailer.{trailer_from}
use Rattle.build_rules.specs.Beginning.{verified_records, header_of, with_checksum, started_by, start_of, msg_type_record}
use Rattle.build_body_rules.specs.Body.{behind_run, stored_run, and_then, next_from, with_run, takes, body_within, body_from}
use Rattle.build_body_rules.specs.Kinds.{group_kind, placed_kind, body_kind, checked, ran_as, run_from, body_of}
use Rattle.build_rules.specs.Message.{Outcome, shown_with, refusal, after_trailer, after_body, after_type, after_header, message_read}
use Rattle.build_rules.specs.Examples.{dictionary, fields, order}

-- "group 78 (79 and 80 required; group 539 with 524 required, 525)"
abbrev allocations : Nodes
allocations = field_item_lem 79 true (field_item_lem 80 true (group_item_lem 539 false (field_item_lem 524 true (field_item_lem 525 false nothing)) nothing))

abbrev order_nodes : Nodes
order_nodes = field_item_lem 38 false (group_item_lem 78 false allocations (field_item_lem 58 false nothing))

-- header tags, trailer tags and the messages
abbrev with : List ℕ → List ℕ → List Message → Dictionary
with header trailer messages = record { known = dictionary.known; header = fields header; trailer = fields trailer; messages = messages }

abbrev orders_as : Nodes → List Message
orders_as nodes = record { msg_type = bytes "D"; nodes = nodes } ∷ []

abbrev usual : List ℕ
usual = 8 ∷ 9 ∷ 35 ∷ 34 ∷ 49 ∷ []

abbrev end : List ℕ
end = 93 ∷ 89 ∷ 10 ∷ []

-- behind 8, 9 and 35, part, depth, entry number and tag of each record
abbrev Seen : Type 0
Seen = ℕ × ℕ × ℕ × ℕ

abbrev seen : Outcome → ℕ × List Seen
seen read = (number_of read.answer, map (λ (r : Record). (r.part, r.depth, r.number, r.tag)) (drop 3 read.records))

abbrev Row : Type 0
Row = Dictionary × String × ℕ × List Seen

abbrev table : List Row
table =
    -- "each is a header tag of the dictionary": 56 is not
    (dictionary, "56=T|38=1|", 1, [])
    -- "the field behind the header is none of its header tags": 38 is
    ∷ (with (38 ∷ usual) end (orders_as order_nodes), "34=2|38=1|", 0, (1, 0, 0, 34) ∷ (1, 0, 0, 38) ∷ (3, 0, 0, 10) ∷ [])
    -- "no field of the header opens a group": of two entries of 627 the second replaces the first
    ∷ (with (627 ∷ 628 ∷ usual) end (orders_as order_nodes), "627=2|628=A|628=B|38=1|", 0, (1, 0, 0, 627) ∷ (1, 0, 0, 628) ∷ (2, 0, 0, 38) ∷ (3, 0, 0, 10) ∷ [])
    -- "MsgType is in the dictionary"
    ∷ (with usual end [], "38=1|", 3, [])
    -- "a field of the layout that is no group, or an unknown user tag that is accepted": 44 is neither, and 58 a group
    ∷ (dictionary, "44=1|", 1, [])
    ∷ (with usual end (orders_as (group_item_lem 58 false (field_item_lem 79 false nothing) nothing)), "58=x|", 2, [])
    -- "a group is a group of the layout": 78 is a field
    ∷ (with usual end (orders_as (fields (78 ∷ 79 ∷ []))), "78=2|79=A|79=B|", 0, (2, 0, 0, 78) ∷ (2, 0, 0, 79) ∷ (3, 0, 0, 10) ∷ [])
    -- "its entries fit the layout of that group": 80 stands before 79 there
    ∷ (with usual end (orders_as (group_item_lem 78 false (fields (80 ∷ 79 ∷ [])) nothing)), "78=1|79=A|80=5|", 2, [])
    -- "and have what it requires": 80 is missing
    ∷ (dictionary, "78=1|79=A|58=x|", 4, [])
    -- "the tag behind them is none that it would take": 58 is one
    ∷ (
      with usual end (orders_as (group_item_lem 78 false (fields (79 ∷ 58 ∷ [])) (field_item_lem 58 false nothing))),
      "78=1|79=A|58=x|",
      0,
      (2, 0, 0, 78) ∷ (2, 1, 1, 79) ∷ (2, 1, 1, 58) ∷ (3, 0, 0, 10) ∷ [],
    )
    -- "the field behind the body is .. none that the body takes": 93 is
    ∷ (with usual end (orders_as (fields (38 ∷ 93 ∷ []))), "38=1|93=1|89=z|", 0, (2, 0, 0, 38) ∷ (2, 0, 0, 93) ∷ (3, 0, 0, 10) ∷ (3, 0, 0, 89) ∷ [])
    -- "a trailer tag of the dictionary": 10 is not
    ∷ (with usual (93 ∷ 89 ∷ []) (orders_as order_nodes), "38=1|", 1, [])
    -- "no field of the trailer opens a group": of two entries the second replaces the first
    ∷ (dictionary, "38=1|93=2|89=a|89=b|", 0, (2, 0, 0, 38) ∷ (3, 0, 0, 10) ∷ (3, 0, 0, 93) ∷ (3, 0, 0, 89) ∷ [])
    ∷ []

-- THE TABLE
each_needed : map (λ (row : Row). seen (message_read row.0 (validating true) (order row.1))) table ≡ map (λ (row : Row). (row.2, row.3)) table
unfolding message_read number_of start_of started_by header_of verified_records with_checksum header_from after_header after_type after_body after_trailer refusal
    shown_with msg_type_record value_at trailer_from part_record values_of body_from body_within takes with_run next_from and_then stored_run behind_run body_of run_from
    ran_as checked body_kind placed_kind group_kind answer_of number_of_reason integrity_of begun counted summed typed length_is length_agrees sum_is sum_agrees sum_of
    checksum_of checksum_digits decimal_within layout_then position_from first_of position_in group_since group_of delimiter_of_lem required_tags holds_tag knows plain_fields
    header_tags_lem trailer_tags_lem flattened same_bytes message_of layout_of stored is_delimiter counting opens declared entry_kind in_entry_lem decide entry_record moved walk
    accepted opened_as layout_rules joined_list list_store or_else has fields_lack before shallow run_lacks nested_lack entries_lack opens_entry entry_lack run_lack
    layout_demands reading-fields
each_needed = refl
