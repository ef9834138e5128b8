-- "no tag stored twice in one map": whether a tag of a message is. Header, body, the entries of its runs, and trailer are gone through as they
-- are read; a tag is stored twice where the map that takes its field holds it already.
use Rattle.std.specs.Prelude.{ℕ, zero, suc, List, [], ◌∷◌, ◌++◌, Bool, true, false, length, drop, eqb, Result, Ok, Err}
use Rattle.build_config.specs.declared.Config.{Config}
use Rattle.field_rules.specs.Choice.{pick}
use Rattle.field_rules.specs.Fields.{Fields, unreadable, field, fields_from}
use Rattle.field_rules.specs.declared.Field.{Field}
use Rattle.build_integrity_rules.specs.Integrity.{integrity_of}
use Rattle.dictionary_layout_rules.specs.Tree.{Dictionary, knows, header_tags_lem, trailer_tags_lem, holds_tag, Choice, no_message, laid_out, layout_of}
use Rattle.build_records.specs.Records.{stored, value_at}
use Rattle.build_records.specs.declared.Record.{Record}
use Rattle.build_group_rules.specs.Groups.{Rules, Frame, run, outermost, Move, adds, joins_at, disorders, leaves, decide}
use Rattle.build_group_rules.specs.Groups.{entry_record}
use Rattle.build_group_rules.specs.Reading.{accepted, layout_rules, joined_list}
use Rattle.build_required_rules.specs.Required.{Demands, has}
use Rattle.build_required_rules.specs.Checking.{layout_demands}
use Rattle.build_parts.specs.Parts.{Reading, ended, refused, part_record}
use Rattle.build_body_rules.specs.Body.{Kind, plain, counts, other, Body, with_run, body_from}
use Rattle.build_body_rules.specs.Kinds.{body_of}
use Rattle.build_rules.specs.Beginning.{header_of, verified_records, msg_type_record}
use Rattle.build_integrity_rules.specs.declared.GarbledReason.{GarbledReason}
use Rattle.build_integrity_rules.specs.declared.Verified.{Verified}

-- "Header tags go to the header; the first other field ends it."
unfoldable pub twice_in_header : List ℕ → Fields → List Record → Bool
twice_in_header tags (unreadable cause place) records = false
twice_in_header tags (field f rest) records =
    pick (holds_tag f.tag tags) (pick (has 0 f.tag records) true (twice_in_header tags rest (stored (part_record 1 f) records))) false

-- "The trailer takes every field up to the first tag 10 or until none can be read."
unfoldable pub twice_in_trailer : Fields → List Record → Bool
twice_in_trailer (unreadable cause place) records = false
twice_in_trailer (field f rest) records =
    pick (eqb f.tag 10) false (pick (has 0 f.tag records) true (twice_in_trailer rest (stored (part_record 3 f) records)))

-- "Each delimiter opens an entry. Declared tags must rise in position", so no entry stores one twice (`entry_other` of nesting); "unknown
-- user tags join the open entry", whose map may hold them already
unfoldable pub twice_moved : {L : Type 0} → Field → List Record → (List (Frame L) → List Record → Bool) → Move L → Bool
twice_moved f records on (adds stack numbers) = on stack (records ++ (entry_record numbers.depth numbers.number f ∷ []))
twice_moved f records on (joins_at stack start numbers) =
    pick (has numbers.depth f.tag (drop start records)) true (on stack (joined_list start (entry_record numbers.depth numbers.number f) records))
twice_moved f records on (disorders group) = false
twice_moved f records on leaves = false

-- in an entry of a run, or of one that is nested in it
unfoldable pub twice_in_run : {L : Type 0} → Rules L → List (Frame L) → List Record → Fields → Bool
twice_in_run rules stack records (unreadable cause place) = false
twice_in_run rules stack records (field f rest) =
    twice_moved f records (λ stack₁ records₁. twice_in_run rules stack₁ records₁ rest) (decide rules (length records) stack f.tag)

-- behind what was read, where it was not refused
unfoldable pub twice_behind : Reading → (Fields → ℕ → List Record → Bool) → Bool
twice_behind (ended f rest room records) on = on (field f rest) (suc room) records
twice_behind (refused answer) on = false

module _ {L : Type 0} (rules : Rules L) (body : Body L) where
  -- "A group run hangs on its start tag; a second run replaces the first": a count that the body holds is a tag stored twice
  unfoldable pub twice_taking : (Fields → ℕ → List Record → Bool) → Field → Fields → ℕ → List Record → Kind L → Bool
  twice_taking on f rest room records plain = pick (has 0 f.tag records) true (on rest room (stored (part_record 2 f) records))
  twice_taking on f rest room records (counts inner) =
      pick (has 0 f.tag records) true
      (pick (twice_in_run rules (run (outermost f.tag inner) 0 ∷ []) [] rest) true (twice_behind (with_run (part_record 2 f) records (body.run inner f.tag rest room)) on))
  twice_taking on f rest room records other = false

  -- so many turns, which is enough where it is more than the room
  unfoldable pub twice_within : ℕ → Fields → ℕ → List Record → Bool
  twice_within zero fields room records = false
  twice_within (suc turns) (unreadable cause place) room records = false
  twice_within (suc turns) (field f rest) zero records = false
  twice_within (suc turns) (field f rest) (suc room) records = twice_taking (twice_within turns) f rest room records (body.kind f.tag)

-- "The body takes fields of the message's layout and, with validation off, tags of 5000 and above that the dictionary lacks."
unfoldable pub twice_in_body : {L : Type 0} → Rules L → Demands L → List ℕ → L → Fields → ℕ → List Record → Bool
twice_in_body rules demands tags level fields room records = twice_within rules (body_of rules demands tags level) (suc room) fields room records

module _ (dictionary : Dictionary) (config : Config) (message : List ℕ) where
  -- in the body of a message with a layout, or in the trailer behind it: "The verified CheckSum stands first in the trailer."
  unfoldable pub twice_from_body : Field → Fields → ℕ → Choice → Bool
  twice_from_body checksum fields room no_message = false
  twice_from_body checksum fields room (laid_out layout) =
      pick (twice_in_body (layout_rules (accepted config (knows dictionary))) layout_demands (trailer_tags_lem dictionary) layout fields room []) true
      (twice_behind (body_from (body_of (layout_rules (accepted config (knows dictionary))) layout_demands (trailer_tags_lem dictionary) layout) fields room []) (λ behind left body. twice_in_trailer behind (part_record 3 checksum ∷ [])))

  -- in the header, where the three verified fields stand first, each with a tag of its own; or behind it
  unfoldable pub twice_from_header : Result Verified GarbledReason → Bool
  twice_from_header (Err reason) = false
  twice_from_header (Ok v) =
      pick (twice_in_header (header_tags_lem dictionary) (fields_from config.mode message v.msg_type.next) (verified_records v)) true
      (twice_behind (header_of (header_tags_lem dictionary) config message v) (λ behind left header. twice_from_body v.checksum behind left (layout_of dictionary (value_at message (msg_type_record header)))))

  -- "no tag stored twice in one map", for the fields of a message as far as it is read
  unfoldable pub stored_twice : Bool
  stored_twice = twice_from_header (integrity_of config.mode message)
