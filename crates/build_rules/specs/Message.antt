-- From a message's bytes to its answer and its records, by what a dictionary means: integrity, header, body and trailer in turn.
use Rattle.std.specs.Prelude.{ℕ, suc, List, [], ◌∷◌, ◌++◌, Bool, true, false, leb, Option, Some, None}
use Rattle.build_records.specs.Records.{value_at}
use Rattle.build_config.specs.declared.Config.{Config}
use Rattle.field_rules.specs.Choice.{pick}
use Rattle.field_rules.specs.Fields.{Fields, field}
use Rattle.field_rules.specs.declared.Field.{Field}
use Rattle.dictionary_layout_rules.specs.Layout.{Layout}
use Rattle.dictionary_layout_rules.specs.Tree.{Dictionary, knows, header_tags_lem, trailer_tags_lem, Choice, no_message, laid_out, layout_of}
use Rattle.build_records.specs.declared.Record.{Record}
use Rattle.build_group_rules.specs.Reading.{accepted, layout_rules}
use Rattle.build_required_rules.specs.Checking.{layout_demands}
use Rattle.build_answers.specs.declared.Answer.{Answer}
use Rattle.build_answers.specs.declared.Answer.TheVariants.{Valid, InvalidMsgType, TooManyFields}
use Rattle.build_answers.specs.Answer.{number_of}
use Rattle.build_parts.specs.Parts.{Reading, ended, refused, part_record}
use Rattle.build_parts.specs.Trailer.{Trailer, stopped, unstopped, crowded, trailer_from}
use Rattle.build_rules.specs.Beginning.{Start, started, unsound, start_of, msg_type_record}
use Rattle.build_body_rules.specs.Body.{body_from}
use Rattle.build_body_rules.specs.Kinds.{body_of}

-- the answer, the records that are shown with it, and what stopped the trailer
pub record Outcome : Type 0 where
  pub answer : Answer
  pub records : List Record
  pub stop : Option Field

-- "1 to 4 also header records"; 10 to 14 and 21: "no records"
unfoldable pub shown_with : Answer → List Record → List Record
shown_with answer header = pick (leb 1 (number_of answer)) (pick (leb (number_of answer) 4) header []) []

unfoldable pub refusal : Answer → List Record → Outcome
refusal answer header = record { answer = answer; records = shown_with answer header; stop = None }

-- "Records .. stand in part and map order, each count followed by its entries"
unfoldable pub after_trailer : List Record → List Record → Trailer → Outcome
after_trailer header body (stopped f trailer) = record { answer = Valid; records = header ++ (body ++ trailer); stop = Some f }
after_trailer header body (unstopped trailer) = record { answer = Valid; records = header ++ (body ++ trailer); stop = None }
after_trailer header body crowded = refusal TooManyFields header

-- "The verified CheckSum stands first in the trailer."
unfoldable pub after_body : List Record → Field → Reading → Outcome
after_body header checksum (refused answer) = refusal answer header
after_body header checksum (ended f rest room body) = after_trailer header body (trailer_from (field f rest) (suc room) (part_record 3 checksum ∷ []))

module _ (dictionary : Dictionary) (config : Config) where
  -- "and then MsgType must be in the dictionary, else 3"
  unfoldable pub after_type : Field → Fields → ℕ → List Record → Field → Choice → Outcome
  after_type f rest room header checksum no_message = refusal (InvalidMsgType (msg_type_record header).place (msg_type_record header).length) header
  after_type f rest room header checksum (laid_out layout) =
      after_body header checksum (body_from (body_of (layout_rules (accepted config (knows dictionary))) layout_demands (trailer_tags_lem dictionary) layout) (field f rest) (suc room) [])

  unfoldable pub after_header : List ℕ → Start → Outcome
  after_header message (unsound answer) = refusal answer []
  after_header message (started f rest room header checksum) = after_type f rest room header checksum (layout_of dictionary (value_at message (msg_type_record header)))

  unfoldable pub message_read : List ℕ → Outcome
  message_read message = after_header message (start_of (header_tags_lem dictionary) config message)
