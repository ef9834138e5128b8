-- "A message of the standard goes through the whole build": integrity, header, body and trailer of a message that fits the dictionary, one
-- after the other, with room for all of its fields.
use Rattle.std.specs.Prelude.{◌≡◌, refl, Bool, ℕ, suc, ◌+◌, ◌-◌, ◌≤◌, length}
use Rattle.std.proofs.Math.Path.{ap}
use Rattle.std.proofs.Common.{◌∙◌, arith, length-append, Some, Ok}
use mathlib.Core.List.{List, [], ◌∷◌, ◌++◌}
use Rattle.field_rules.specs.Field.{start_at, value_of}
use Rattle.field_rules.specs.Fields.{Fields, unreadable, field, fields_from}
use Rattle.field_rules.proofs.FieldsLaws.{fields-field}
use Rattle.field_rules.specs.declared.Cause.TheVariants.{NoEquals}
use Rattle.field_rules.specs.declared.Field.{Field}
use Rattle.standard_rules.specs.Standard.{Tables, Told, told, Message}
use Rattle.standard_rules.specs.Reading.{others}
use Rattle.build_config.specs.declared.Config.{Config}
use Rattle.build_integrity_rules.specs.Integrity.{integrity_of}
use Rattle.build_integrity_rules.specs.declared.Verified.{Verified}
use Rattle.build_integrity_rules.proofs.VerifiedLaws.{verified-read}
use Rattle.build_order_laws.specs.VerifiedTags.{VerifiedTags, verified-tags}
use Rattle.dictionary_layout_rules.specs.Layout.{Layout}
use Rattle.dictionary_layout_rules.specs.Tree.{Dictionary, knows, header_tags_lem, trailer_tags_lem, laid_out, layout_of}
use Rattle.build_records.specs.Records.{stored, value_at}
use Rattle.build_records.specs.declared.Record.{Record}
use Rattle.build_group_rules.specs.Reading.{accepted, layout_rules}
use Rattle.build_answers.specs.declared.Answer.TheVariants.{Valid}
use Rattle.build_parts.specs.Parts.{Reading, ended, part_record}
use Rattle.build_parts.specs.Header.{header_from}
use Rattle.build_parts.specs.Trailer.{stopped, trailer_from}
use Rattle.build_required_rules.specs.Checking.{layout_demands}
use Rattle.build_body_rules.specs.Body.{Body, body_from}
use Rattle.build_body_rules.specs.Kinds.{body_of}
use Rattle.build_rules.specs.Beginning.{verified_records, room_behind, header_of, started, with_checksum, started_by, start_of, msg_type_record}
use Rattle.build_rules.specs.Message.{Outcome, after_trailer, after_body, after_type, after_header, message_read}
use Rattle.promise_standard.specs.Reading.{standard_mode, ReadsAs, no_field, one_field, Readable}
use Rattle.promise_standard.specs.Sound.{SoundAs, standard_sound, standard_read}
use Rattle.promise_standard.specs.Groups.{numbered, records_as, Tell, one_record, tag_behind}
use Rattle.promise_standard.specs.GroupOwn.{Fresh}
use Rattle.promise_standard.proofs.GroupSteps.{reads_split, numbered_each, records_tell}
use Rattle.promise_standard_build.specs.Fitting.{header_fields, trailer_fields, header_numbers, trailer_numbers, fields_of, behind_body, behind_header, FitsDictionary, TellMessage}
use Rattle.promise_standard_build.proofs.BodyWalk.{body-walk}
use Rattle.promise_standard_build.proofs.PartWalks.{plain-outside, Recorded, part-stored, part-fresh, header-walk, trailer-walk}
use Rattle.promise_standard_build.specs.MessageTags.{header-fresh, body-fresh, trailer-fresh, no_ten, behind-both}

-- ===== what is read, field by field =====

-- the last of the fields that were read
pub record Last (message : List ℕ) (fields : Fields) (fs : List Told) (t : ℕ) (end : Fields) : Type 0 where
  pub last : Field
  pub tag_is : last.tag ≡ t
  pub reads : ReadsAs message fields fs (field last end)

pub reads-last : (message : List ℕ) (fields end : Fields) (fs : List Told) (t : ℕ) (v : List ℕ) → ReadsAs message fields (fs ++ (told t v ∷ [])) end
    → Last message fields fs t end
reads-last message _ end [] t v (one_field {f = f} tag value no_field) = record { last = f; tag_is = tag; reads = no_field }
reads-last message _ end (f ∷ fs) t v (one_field tag value more) =
    let l = reads-last message _ end fs t v more in
    record { last = l.last; tag_is = l.tag_is; reads = one_field tag value l.reads }

-- the fields behind one that was read
reads-behind : (message : List ℕ) (f : Field) (fields end : Fields) (t : ℕ) (v : List ℕ) (fs : List Told)
    → ReadsAs message (field f fields) (told t v ∷ fs) end → ReadsAs message fields fs end
reads-behind message f fields end t v fs (one_field tag value more) = more

module _ {T : Tables} {bytes : List ℕ} (m : Message T bytes) (small : length bytes ≤ 8192) where
  abbrev pub verified : Verified
  verified = (standard_sound bytes m small).verified

  pub verified_are : VerifiedTags verified
  verified_are = verified-tags standard_mode bytes verified (standard_sound bytes m small).sound

  abbrev pub behind_type : Fields
  behind_type = fields_from standard_mode bytes verified.msg_type.next

  start-reads : fields_from standard_mode bytes (start_at 0) ≡ field verified.begin_string
      (field verified.body_length (field verified.msg_type behind_type))
  start-reads =
      let v = verified-read standard_mode bytes verified (standard_sound bytes m small).sound in
      fields-field standard_mode bytes (start_at 0) verified.begin_string v.begins
      ∙ ap (field verified.begin_string) (fields-field standard_mode bytes verified.begin_string.next verified.body_length v.counts
      ∙ ap (field verified.body_length) (fields-field standard_mode bytes verified.body_length.next verified.msg_type v.types))

  -- the fields behind MsgType, up to CheckSum
  pub others-read : Readable (told 35 m.msg_type ∷ others m) → Last bytes behind_type (others m) 10 (unreadable NoEquals (length bytes))
  others-read readable =
      let reads = rw start-reads at (standard_read bytes m small readable) in
      reads-last bytes behind_type _ (others m) 10 m.check-sum (reads-behind bytes _ _ _ _ _ _
      (reads-behind bytes _ _ _ _ _ _ (reads-behind bytes _ _ _ _ _ _ reads)))

-- ===== the parts =====

-- the records of 8, 9 and 35
unfoldable pub three_of : Verified → List Record
three_of v = part_record 1 v.begin_string ∷ (part_record 1 v.body_length ∷ (part_record 1 v.msg_type ∷ []))

module _ (v : Verified) (are : VerifiedTags v) (ts : List ℕ) (fresh : Fresh 0 0 (8 ∷ (9 ∷ (35 ∷ ts))) []) where
  one : Fresh 0 0 (9 ∷ (35 ∷ ts)) (part_record 1 v.begin_string ∷ [])
  one = part-fresh 1 v.begin_string 8 _ [] are.begins fresh

  two : Fresh 0 0 (35 ∷ ts) (part_record 1 v.begin_string ∷ (part_record 1 v.body_length ∷ []))
  two = part-fresh 1 v.body_length 9 _ _ are.counts one

  three_stored : verified_records v ≡ three_of v
  unfolding verified_records three_of
  three_stored =
      ap (λ (l : List Record). stored (part_record 1 v.msg_type) (stored (part_record 1 v.body_length) l))
      (part-stored 1 v.begin_string 8 _ [] are.begins fresh)
      ∙ ap (λ (l : List Record). stored (part_record 1 v.msg_type) l) (part-stored 1 v.body_length 9 _ _ are.counts one)
      ∙ part-stored 1 v.msg_type 35 ts _ are.types two

  three_fresh : Fresh 0 0 ts (three_of v)
  unfolding three_of
  three_fresh = part-fresh 1 v.msg_type 35 ts _ are.types two

-- MsgType is that of 35's record
type-found : (v : Verified) (rs : List Record) → VerifiedTags v → msg_type_record (three_of v ++ rs) ≡ part_record 1 v.msg_type
unfolding three_of msg_type_record part_record
type-found v rs are = rw (are.begins, are.counts, are.types)

-- how the body of a message with a layout is read
abbrev body_by : Dictionary → Config → Layout → Body Layout
body_by dictionary config layout = body_of (layout_rules (accepted config (knows dictionary))) layout_demands (trailer_tags_lem dictionary) layout

module _ (dictionary : Dictionary) (config : Config) (message : List ℕ) (x : Field) (rest : Fields) (room : ℕ) (header : List Record)
    (checksum : Field) where
  -- MsgType is in the dictionary: the body is next
  type-goes : (type : List ℕ) (layout : Layout) → value_at message (msg_type_record header) ≡ type → layout_of dictionary type ≡ laid_out layout
      → after_header dictionary config message (started x rest room header checksum)
      ≡ after_body header checksum (body_from (body_by dictionary config layout) (field x rest) (suc room) [])
  unfolding after_header after_type
  type-goes type layout is known = rw (is, known)

  -- the trailer is stopped by CheckSum: the message is valid
  body-goes : (read : Reading) (y z : Field) (later : Fields) (left : ℕ) (body trailer : List Record) → read ≡ ended y later left body
      → trailer_from (field y later) (suc left) (part_record 3 checksum ∷ []) ≡ stopped z trailer
      → after_body header checksum read ≡ record { answer = Valid; records = header ++ (body ++ trailer); stop = Some z }
  unfolding after_body after_trailer
  body-goes read y z later left body trailer reads stops = rw (reads, stops)

-- integrity passed, and the header ended at a field
header-goes : (known : List ℕ) (config : Config) (message : List ℕ) (v : Verified) (x : Field) (rest : Fields) (room : ℕ) (header : List Record)
    → config.mode ≡ standard_mode → integrity_of standard_mode message ≡ Ok v
    → header_from known (fields_from standard_mode message v.msg_type.next) room_behind (verified_records v) ≡ ended x rest room header
    → start_of known config message ≡ started x rest room header v.checksum
unfolding start_of started_by header_of with_checksum
header-goes known config message v x rest room header mode sound reads = rw (mode, sound, reads)

-- 8, 9 and 35 and then the header
three_tell : {T : Tables} {bytes : List ℕ} (m : Message T bytes) (s : SoundAs bytes m) (rs : List Record) → VerifiedTags s.verified
    → Tell bytes 1 (numbered 0 0 m.header_is) m.header rs → Tell bytes 1 (header_numbers m) (header_fields m) (three_of s.verified ++ rs)
unfolding three_of part_record value_of
three_tell m s rs are tells =
    one_record refl refl refl are.begins s.begin_string (one_record refl refl refl are.counts s.body_length
    (one_record refl refl refl are.types s.msg_type tells))

-- 10 and then the trailer
ten_tells : {T : Tables} {bytes : List ℕ} (m : Message T bytes) (s : SoundAs bytes m) (rs : List Record) → VerifiedTags s.verified
    → Tell bytes 3 (numbered 0 0 m.trailer_is) m.trailer rs
    → Tell bytes 3 (trailer_numbers m) (trailer_fields m) (part_record 3 s.verified.checksum ∷ rs)
unfolding part_record value_of
ten_tells m s rs are tells = one_record refl refl refl are.sums s.check-sum tells

-- MsgType as it is read
pub type_value : {T : Tables} {bytes : List ℕ} (m : Message T bytes) (s : SoundAs bytes m) (rs : List Record) → VerifiedTags s.verified
    → value_at bytes (msg_type_record (three_of s.verified ++ rs)) ≡ m.msg_type
unfolding value_at value_of
type_value {bytes = bytes} m s rs are = ap (value_at bytes) (type-found s.verified rs are) ∙ (unfold part_record in s.msg_type)

-- what reading a message comes to: Valid, and these records
pub record ReadAs {T : Tables} {bytes : List ℕ} (m : Message T bytes) (read : Outcome) : Type 0 where
  pub valid : read.answer ≡ Valid
  pub tell : TellMessage m read.records

module _ (dictionary : Dictionary) (config : Config) {T : Tables} {bytes : List ℕ} (m : Message T bytes) (separator : config.mode ≡ standard_mode)
    (size : length m.header + length m.body + length m.trailer ≤ 1020) (fits : FitsDictionary dictionary config m) where
  abbrev accepts : ℕ → Bool
  accepts = accepted config (knows dictionary)

  -- the header's fields are read up to x, the body's up to y, the trailer's up to z
  module _ (s : SoundAs bytes m) (are : VerifiedTags s.verified) (x y z : Field) (rest later end : Fields) (last : z.tag ≡ 10)
      (x-is : x.tag ≡ behind_header m) (y-is : y.tag ≡ behind_body m)
      (in_header_lem : ReadsAs bytes (fields_from standard_mode bytes s.verified.msg_type.next) m.header (field x rest))
      (in_Body : ReadsAs bytes (field x rest) m.body (field y later)) (in_trailer_lem : ReadsAs bytes (field y later) m.trailer (field z end)) where
    abbrev header_room : ℕ
    header_room = 1020 - length m.header

    abbrev body_room : ℕ
    body_room = header_room - length m.body

    abbrev trailer_room : ℕ
    trailer_room = body_room - length m.trailer

    header_read : Recorded bytes 1 m.header (three_of s.verified)
        (λ rs. start_of (header_tags_lem dictionary) config bytes ≡ started x rest header_room rs s.verified.checksum)
    header_read =
        let fresh = header-fresh m fits.header-plain in
        let r = header-walk bytes x rest header_room (header_tags_lem dictionary) m.header (three_of s.verified) _ in_header_lem fits.header-known
        (rw x-is fits.header-ends) (three_fresh s.verified are _ fresh) in
        record {
          records = r.records;
          walked = header-goes (header_tags_lem dictionary) config bytes s.verified x rest header_room _ separator s.sound
              (ap (header_from (header_tags_lem dictionary) _ room_behind) (three_stored s.verified are _ fresh)
              ∙ ap (λ (n : ℕ). header_from (header_tags_lem dictionary) (fields_from standard_mode bytes s.verified.msg_type.next) n (three_of s.verified))
              (omega (arith, size)) ∙ r.walked);
          tells = r.tells;
        }

    body-read : body_from (body_by dictionary config fits.layout) (field x rest)
        (suc header_room) [] ≡ ended y later body_room (records_as (numbered 0 0 m.body_is) (field x rest))
    body-read =
        ap (λ (n : ℕ). body_from (body_by dictionary config fits.layout) (field x rest) n []) (omega (arith, size))
        ∙ body-walk accepts fits.layout (trailer_tags_lem dictionary) bytes T _ y later body_room (rw y-is fits.body-ends) (rw y-is fits.trailer-known)
        (rw y-is fits.body_fits) [] (field x rest) (body-fresh m) in_Body

    trailer-read : Recorded bytes 3 m.trailer (part_record 3 s.verified.checksum ∷ [])
        (λ rs. trailer_from (field y later) (suc body_room) (part_record 3 s.verified.checksum ∷ []) ≡ stopped z rs)
    trailer-read =
        let r = trailer-walk bytes z end trailer_room m.trailer (part_record 3 s.verified.checksum ∷ []) (field y later) in_trailer_lem (no_ten m) last
        (part-fresh 3 s.verified.checksum 10 _ [] are.sums (trailer-fresh m fits.trailer-plain)) in
        record {
          records = r.records;
          walked = ap (λ (n : ℕ). trailer_from (field y later) n (part_record 3 s.verified.checksum ∷ []))
              (omega (arith, size)) ∙ r.walked;
          tells = r.tells;
        }

    parts-read : ReadAs m (message_read dictionary config bytes)
    unfolding message_read
    parts-read =
        let h = header_read in
        let t = trailer-read in
        let header : List Record = three_of s.verified ++ h.records in
        let body : List Record = records_as (numbered 0 0 m.body_is) (field x rest) in
        let trailer : List Record = part_record 3 s.verified.checksum ∷ t.records in
        let read : after_header dictionary config bytes (start_of (header_tags_lem dictionary) config bytes) ≡ record {
          answer = Valid;
          records = header ++
              (body ++ trailer);
          stop = Some z;
        } =
        ap (after_header dictionary config bytes) h.walked
        ∙ type-goes dictionary config bytes x rest header_room header s.verified.checksum m.msg_type fits.layout (type_value m s h.records are)
        fits.type-known
        ∙ body-goes dictionary config bytes x rest header_room header s.verified.checksum _ y z later body_room body trailer body-read t.walked in
        record {
          valid = ap (λ (o : Outcome). o.answer) read;
          tell = record {
            header_records = header;
            body_records = body;
            trailer_records = trailer;
            in_order = ap (λ (o : Outcome). o.records) read;
            header_tells = three_tell m s h.records are (rw (plain-outside m.header_is fits.header-plain) h.tells);
            body_tells = records_tell bytes (field x rest) (field y later) m.body (numbered 0 0 m.body_is) in_Body (numbered_each 0 0 m.body_is);
            trailer_tells = ten_tells m s t.records are (rw (plain-outside m.trailer_is fits.trailer-plain) t.tells);
          };
        }

module _ (dictionary : Dictionary) (config : Config) {T : Tables} {bytes : List ℕ} (m : Message T bytes) (separator : config.mode ≡ standard_mode)
    (few : length (fields_of m) ≤ 1024) (fits : FitsDictionary dictionary config m) where
  -- THE STANDARD, messages: a message of the standard that fits the dictionary, of at most 8,192 bytes and 1,024 fields, is valid, and its
  -- records are its fields.
  pub fitting_read : length bytes ≤ 8192 → Readable (told 35 m.msg_type ∷ others m) → ReadAs m (message_read dictionary config bytes)
  fitting_read small readable =
      let l = others-read m small readable in
      let a = reads_split bytes l.last (unreadable NoEquals (length bytes)) (behind_type m small) m.header (m.body ++ m.trailer) l.reads in
      let b = reads_split bytes l.last (unreadable NoEquals (length bytes)) (field a.next a.rest) m.body m.trailer a.reads_second in
      let size : length m.header + length m.body + length m.trailer ≤ 1020 =
      omega (arith, length-append (others m) (told 10 m.check-sum ∷ []), length-append m.header (m.body ++ m.trailer), length-append m.body m.trailer) in
      parts-read dictionary config m separator size fits (standard_sound bytes m small) (verified_are m small) a.next b.next l.last a.rest b.rest (unreadable NoEquals (length bytes))
      l.tag_is
      (a.tag_is ∙ ap (λ (k : ℕ). tag_behind k (m.body ++ m.trailer)) l.tag_is ∙ behind-both 10 m.body m.trailer)
      (b.tag_is ∙ ap (λ (k : ℕ). tag_behind k m.trailer) l.tag_is) a.reads_first b.reads_first b.reads_second
