-- What is read through records, an index and tables of any content: header and trailer tags are those that are kept, or else what is listed of the
-- records; MsgType chooses the table that is kept for it or laid from the records, and where none can be laid the dictionary has no such message. Where
-- the records are a dictionary that passed its check, the index is what the check left, and the tables are none or those that were laid, this is what
-- the dictionary means (ThroughLaws).
use Rattle.std.specs.Prelude.{ℕ, suc, List, [], take, drop, replicate, Option, Some, None}
use Rattle.field_rules.specs.Choice.{pick}
use Rattle.field_rules.specs.Fields.{Fields, field}
use Rattle.field_rules.specs.declared.Field.{Field}
use Rattle.build_config.specs.declared.Config.{Config}
use Rattle.build_records.specs.Records.{value_at}
use Rattle.build_records.specs.declared.Record.{Record}
use Rattle.dictionary_rules.specs.Index.{tag_at}
use Rattle.dictionary_layout_rules.specs.RowsLayout.{layout_in}
use Rattle.dictionary_tables_rules.specs.Tags.{tags_found}
use Rattle.dictionary_directory.specs.Directory.{kept_at, tags_listed, tags_at}
use Rattle.dictionary_prepared.specs.Memory.{is_prepared, records_in, index_in, tables_in}
use Rattle.dictionary_meaning_rules.specs.MessageTable.{Tabling, tabling, place_of, placed_table}
use Rattle.dictionary_meaning_rules.specs.declared.MessageTable.TheVariants.{Rows, NoMessage, Unprepared}
use Rattle.build_group_rules.specs.Groups.{Rules}
use Rattle.build_group_rules.specs.Reading.{accepted, table_rules, layout_rules}
use Rattle.build_required_rules.specs.Required.{Demands}
use Rattle.build_required_rules.specs.Checking.{table_demands, layout_demands}
use Rattle.build_answers.specs.declared.Answer.TheVariants.{InvalidMsgType, NotPrepared}
use Rattle.build_body_rules.specs.Kinds.{body_of}
use Rattle.build_body_rules.specs.Body.{body_from}
use Rattle.build_rules.specs.Beginning.{Start, started, unsound, start_of, msg_type_record}
use Rattle.build_rules.specs.Message.{Outcome, refusal, after_body}
use Rattle.builder.specs.Build.{BuildOutcome, untouched, judged}

-- "and then MsgType must be in the dictionary, else 3"
unfoldable pub unknown_type : List Record → Outcome
unknown_type header = refusal (InvalidMsgType (msg_type_record header).place (msg_type_record header).length) header

module _ (trailers : List ℕ) (f : Field) (rest : Fields) (room : ℕ) (header : List Record) (checksum : Field) where
  -- body and trailer, from the field that ended the header on, by what a level asks for
  abbrev pub after_level : {L : Type 0} → Rules L → Demands L → L → Outcome
  after_level rules demands level = after_body header checksum (body_from (body_of rules demands trailers level) (field f rest) (suc room) [])

  module _ (records index : List ℕ) (config : Config) where
    -- by the layout that is laid from the records
    unfoldable pub after_table : Tabling → Outcome
    after_table (tabling (Rows count) rows) = after_level (layout_rules (accepted config (tag_at index))) layout_demands (layout_in rows count)
    after_table (tabling NoMessage rows) = unknown_type header
    after_table (tabling Unprepared rows) = unknown_type header

    -- by the table that is kept for the message whose record stands at a place, whatever its words are
    unfoldable pub after_kept : List ℕ → ℕ → Option (ℕ × ℕ) → Outcome
    after_kept tables place (Some (from, size)) = after_level (table_rules config (take size (drop from tables)) (tag_at index)) (table_demands (take size (drop from tables))) 0
    after_kept tables place None = after_table (placed_table records index (Some place) (replicate 4096 0))

    unfoldable pub after_placed : List ℕ → Option ℕ → Outcome
    after_placed tables None = unknown_type header
    after_placed tables (Some place) = after_kept tables place (kept_at tables place)

module _ (records index tables : List ℕ) (config : Config) (message : List ℕ) where
  unfoldable pub after_start : List ℕ → Start → Outcome
  after_start trailers (unsound answer) = refusal answer []
  after_start trailers (started f rest room header checksum) =
      after_placed trailers f rest room header checksum records index config tables (place_of index (value_at message (msg_type_record header)))

  -- with these header and trailer tags
  unfoldable pub message_by : List ℕ → List ℕ → Outcome
  message_by headers trailers = after_start trailers (start_of headers config message)

module _ (records index tables : List ℕ) (config : Config) (message : List ℕ) where
  -- "the plain field items directly in components 0 and 1"
  abbrev pub message_listed : Outcome
  message_listed = message_by records index tables config message (tags_listed records index 0) (tags_listed records index 1)

  -- by the tables that are kept for the header's tags and for the trailer's, whatever their words are; where not both are kept, the tags are listed
  unfoldable pub message_kept : Option (ℕ × ℕ) → Option (ℕ × ℕ) → Outcome
  message_kept (Some (from, size)) (Some (start, long)) =
      message_by records index tables config message (tags_found (take size (drop from tables))) (tags_found (take long (drop start tables)))
  message_kept (Some (from, size)) None = message_listed
  message_kept None trailers = message_listed

  unfoldable pub message_through : Outcome
  message_through = message_kept (tags_at tables 0) (tags_at tables 1)

-- The build over memory that a dictionary was prepared in: 27 where the stamp or a length tells that none was, then as a build with a dictionary
-- that passed its check, and whatever the memory holds.
unfoldable pub build_over : List ℕ → Config → List ℕ → List ℕ → ℕ → List ℕ → BuildOutcome
build_over message config copy memory lent words =
    pick (is_prepared copy memory)
    (judged message config lent words (message_through (records_in copy memory) (index_in memory) (tables_in memory) config message))
    (untouched NotPrepared words)
