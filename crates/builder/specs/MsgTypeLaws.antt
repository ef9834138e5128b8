-- Where the header ended, the record that MsgType is taken from lies in the message, so that its value can be cut out.
-- Every field that was read lies in it, those that were verified too; storing keeps this of every record of the header.
use Rattle.std.proofs.Math.Path.{◌≡◌}
use Rattle.std.specs.Prelude.{Bool, eqb, length, Ok}
use Rattle.std.proofs.Math.Bool.{true, false}
use mathlib.Core.List.{List, [], ◌∷◌}
use Prim.Native.Nat.{ℕ, zero, suc, ◌+◌, ◌≤◌}
use native.Mathlib.Omega.{arith}
use Rattle.field_rules.proofs.FieldsLaws.{step-inside, all-inside}
use Rattle.field_rules.specs.declared.Mode.{Mode}
use Rattle.build_config.specs.declared.Config.{Config}
use Rattle.field_rules.specs.Choice.{pick}
use Rattle.field_rules.specs.Fields.{Fields, unreadable, field, Each, each_end, each_field, Inside}
use Rattle.field_rules.specs.declared.Field.{Field}
use Rattle.build_integrity_rules.specs.Integrity.{integrity_of}
use Rattle.build_integrity_rules.specs.declared.Verified.{Verified}
use Rattle.dictionary_layout_rules.specs.Tree.{holds_tag}
use Rattle.build_records.specs.Records.{stored}
use Rattle.build_records.specs.declared.Record.{Record}
use Rattle.build_parts.specs.Parts.{ended, part_record}
use Rattle.build_parts.specs.Header.{header_from}
use Rattle.build_rules.specs.Beginning.{verified_records, room_behind, header_of, msg_type_record}
use Rattle.build_integrity_rules.proofs.VerifiedLaws.{VerifiedRead, verified-read}

-- a record's value lies in the message where its field's does
abbrev RecordIn : List ℕ → Record → Type 0
RecordIn message r = r.place + r.length ≤ length message

data RecordsIn (message : List ℕ) : List Record → Type 0 where
  no_record : RecordsIn message []
  one_more : {r : Record} {rs : List Record} → RecordIn message r → RecordsIn message rs → RecordsIn message (r ∷ rs)

module _ (message : List ℕ) where
  stored_in : (r : Record) → RecordIn message r → (rs : List Record) → RecordsIn message rs → RecordsIn message (stored r rs)
  unfolding stored
  stored_in r h [] no_record = one_more h no_record
  stored_in r h (x ∷ rs) (one_more g more) = go (eqb x.depth r.depth) (eqb x.tag r.tag) (stored_in r h rs more)
    where
      go : (d t : Bool) → RecordsIn message (stored r rs) → RecordsIn message (pick d (pick t (r ∷ rs) (x ∷ stored r rs)) (x ∷ stored r rs))
      go true true later = one_more h more
      go true false later = one_more g later
      go false t later = one_more g later

  -- a field's record lies where the field does
  field_in : (f : Field) → Inside message f → {rs : List Record} → RecordsIn message rs → RecordsIn message (stored (part_record 1 f) rs)
  unfolding part_record
  field_in f h {rs} i = stored_in (part_record 1 f) h.within rs i

  verified_records_lem : (mode : Mode) (v : Verified) → VerifiedRead mode message v → RecordsIn message (verified_records v)
  unfolding verified_records
  verified_records_lem mode v r =
      field_in v.msg_type (step-inside mode message _ _ r.types)
      (field_in v.body_length (step-inside mode message _ _ r.counts) (field_in v.begin_string (step-inside mode message _ _ r.begins) no_record))

  header_in : (tags : List ℕ) (fields : Fields) → Each (Inside message) fields → (room : ℕ) (records : List Record) → RecordsIn message records → (f : Field) (rest : Fields) (left : ℕ) (header : List Record) →
      header_from tags fields room records ≡ ended f rest left header → RecordsIn message header
  unfolding header_from
  header_in tags (unreadable cause place) each_end room records i f rest left header h = let z : ◌≡◌ {A = ℕ} 0 1 = cc in absurd (omega arith)
  header_in tags (field g behind) (each_field lies more) zero records i f rest left header h = let z : ◌≡◌ {A = ℕ} 0 1 = cc in absurd (omega arith)
  header_in tags (field g behind) (each_field lies more) (suc room) records i f rest left header h =
      go (holds_tag g.tag tags) h (header_in tags behind more room (stored (part_record 1 g) records) (field_in g lies i) f rest left header)
    where
      go : (b : Bool) → pick b (header_from tags behind room (stored (part_record 1 g) records)) (ended g behind room records) ≡ ended f rest left header →
          (header_from tags behind room (stored (part_record 1 g) records) ≡ ended f rest left header → RecordsIn message header) → RecordsIn message header
      go true h later = later h
      go false h later = let same : records ≡ header = cc in rw (← same) i

  -- a header without MsgType has the blank record, which lies anywhere
  type_in : {rs : List Record} → RecordsIn message rs → RecordIn message (msg_type_record rs)
  unfolding msg_type_record
  type_in no_record = omega arith
  type_in (one_more {r} {rs} h more) = go (eqb r.tag 35) (type_in more)
    where
      go : (b : Bool) → RecordIn message (msg_type_record rs) → RecordIn message (pick b r (msg_type_record rs))
      go true later = h
      go false later = later

-- the record that MsgType is taken from lies in the message
pub msg_type-inside : (tags : List ℕ) (config : Config) (message : List ℕ) (v : Verified) (f : Field) (rest : Fields) (room : ℕ) (records : List Record) →
    integrity_of config.mode message ≡ Ok v → header_of tags config message v ≡ ended f rest room records →
    (msg_type_record records).place + (msg_type_record records).length ≤ length message
unfolding header_of
msg_type-inside tags config message v f rest room records sound ends =
    type_in message
    (header_in message tags _ (all-inside config.mode message v.msg_type.next) room_behind (verified_records v) (verified_records_lem message config.mode v (verified-read config.mode message v sound)) f rest room records ends)
