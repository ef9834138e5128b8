-- From a message's bytes to the end of its header: integrity, the fields that it verified, and the rest of the header.
use Rattle.std.specs.Prelude.{ℕ, List, [], ◌∷◌, Bool, true, false, take, drop, eqb, Result, Ok, Err}
use Rattle.field_rules.specs.Choice.{pick}
use Rattle.field_rules.specs.Fields.{Fields, fields_from}
use Rattle.field_rules.specs.declared.Field.{Field}
use Rattle.build_config.specs.declared.Config.{Config}
use Rattle.build_integrity_rules.specs.Integrity.{integrity_of}
use Rattle.build_integrity_rules.specs.declared.Verified.{Verified}
use Rattle.build_records.specs.Records.{blank, stored}
use Rattle.build_records.specs.declared.Record.{Record}
use Rattle.build_answers.specs.declared.Answer.{Answer}
use Rattle.build_answers.specs.declared.Answer.TheVariants.{Garbled as garbled}
use Rattle.build_parts.specs.Parts.{Reading, ended, refused, part_record}
use Rattle.build_parts.specs.Header.{header_from}
use Rattle.build_integrity_rules.specs.declared.GarbledReason.{GarbledReason}

-- the fields that were verified, in the order in which they were read
unfoldable pub verified_records : Verified → List Record
verified_records v = stored (part_record 1 v.msg_type) (stored (part_record 1 v.body_length) (stored (part_record 1 v.begin_string) []))

-- "a 1,025th field read" is 21, and three are read by then
abbrev pub room_behind : ℕ
room_behind = 1021

unfoldable pub header_of : List ℕ → Config → List ℕ → Verified → Reading
header_of tags config message v = header_from tags (fields_from config.mode message v.msg_type.next) room_behind (verified_records v)

-- the header and the verified CheckSum, or why reading was refused
pub data Start : Type 0 where
  started : Field → Fields → ℕ → List Record → Field → Start
  unsound : Answer → Start

unfoldable pub with_checksum : Field → Reading → Start
with_checksum checksum (ended f rest room records) = started f rest room records checksum
with_checksum checksum (refused answer) = unsound answer

unfoldable pub started_by : List ℕ → Config → List ℕ → Result Verified GarbledReason → Start
started_by tags config message (Ok v) = with_checksum v.checksum (header_of tags config message v)
started_by tags config message (Err reason) = unsound (garbled reason)

unfoldable pub start_of : List ℕ → Config → List ℕ → Start
start_of tags config message = started_by tags config message (integrity_of config.mode message)

-- MsgType is the value that was stored last under 35
unfoldable pub msg_type_record : List Record → Record
msg_type_record [] = blank
msg_type_record (r ∷ rs) = pick (eqb r.tag 35) r (msg_type_record rs)
