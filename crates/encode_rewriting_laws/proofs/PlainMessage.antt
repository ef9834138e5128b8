-- A clean message is what its own records are rewritten to: plain tags make each part the text of its records, the plain BodyLength and
-- the CheckSum of three digits the rest.
use Rattle.std.specs.Prelude.{◌≡◌, refl, true, List, ◌∷◌, ◌++◌, ℕ, ◌-◌, length, drop}
use Rattle.std.proofs.Common.{sym, ap, ◌∙◌, append_assoc, arith, Ok}
use Rattle.build_records.specs.Records.{value_at}
use Rattle.field_rules.specs.declared.Mode.{Mode}
use Rattle.field_rules.specs.Decimal.{decimal}
use Rattle.field_rules.specs.Field.{start_at, field_bytes, value_of}
use Rattle.field_rules.specs.Fields.{Fields, field, fields_from}
use Rattle.field_rules.specs.declared.Field.{Field}
use Rattle.build_integrity_rules.specs.Integrity.{integrity_of}
use Rattle.build_integrity_rules.specs.declared.Verified.{Verified}
use Rattle.build_records.specs.declared.Record.{Record}
use Rattle.build_parts.specs.Parts.{part_record}
use Rattle.encode_rules.specs.Encoding.{summed}
use Rattle.build_order_laws.specs.VerifiedTags.{verified-checked}
use Rattle.encode_rewriting_laws.proofs.EncodedText.{written-append}
use Rattle.encode_rewriting_laws.specs.Plain.{plain_tags, plain_length, three_digits}
use Rattle.encode_rewriting_laws.proofs.PlainRewritten.{clean_rewritten}
use Rattle.encode_rewriting_laws.proofs.ReadMessage.{Followed}
use Rattle.encode_rewriting_laws.specs.ReadPlaces.{follows_cursor, stop-verified}
use Rattle.field_rules.specs.Fields.{start_of}
use Rattle.field_rules.proofs.PlaceLaws.{fields-start}
use Rattle.encode_rewriting_laws.proofs.ReadWritten.{follows_written}
use Rattle.encode_rewriting_laws.specs.Written.{written, rewritten}

-- where the trailer stops at a field that starts where the CheckSum stands, all before it is the text of the records
pub followed-written : (mode : Mode) (message : List ℕ) (header body trailer : List Record) (stop : Field) (more : Fields)
    → Followed mode message header body trailer (field stop more)
    → plain_tags message stop.first (fields_from mode message (start_at 0)) ≡ true
    → message ≡ written mode.separator message (header ++ (body ++ trailer)) ++ drop stop.first message
unfolding start_of
followed-written mode message header body trailer stop more followed plain =
    let first = follows_cursor mode message followed.header_follows (start_at 0) refl in
    let second = follows_cursor mode message followed.body_follows first.cursor first.left in
    let third = follows_cursor mode message followed.trailer_follows second.cursor second.left in
    let stops : stop.first ≡ third.cursor.at = ap start_of third.left ∙ fields-start mode message third.cursor in
    let of_header =
    follows_written mode message followed.header_follows stop.first (start_at 0) first.cursor refl first.left
    (omega (arith, second.behind, third.behind, stops)) plain in
    let of_body_lem =
    follows_written mode message followed.body_follows stop.first first.cursor second.cursor first.left second.left
    (omega (arith, third.behind, stops)) of_header.plain in
    let of_trailer =
    follows_written mode message followed.trailer_follows stop.first second.cursor third.cursor second.left third.left
    (omega (arith, stops)) of_body_lem.plain in
    of_header.bytes
    ∙ ap (λ (l : List ℕ). written mode.separator message header ++ l)
    (of_body_lem.bytes ∙ ap (λ (l : List ℕ). written mode.separator message body ++ l)
    (of_trailer.bytes ∙ ap (λ (n : ℕ). written mode.separator message trailer ++ drop n message) (sym stops)))
    ∙ simp (written-append, append_assoc)

-- the header's 8 and 9 come first
opened : (separator : ℕ) (message : List ℕ) (begin size : Field) (others : List Record) (rest : List ℕ) → begin.tag ≡ 8 → size.tag ≡ 9
    → written separator message (part_record 1 begin ∷ part_record 1 size ∷ others) ++ rest ≡ field_bytes separator (decimal 8) (value_of message begin)
    ++ (field_bytes separator (decimal 9) (value_of message size) ++ (written separator message others ++ rest))
unfolding written part_record value_at value_of
opened separator message begin size others rest eight nine = rw (eight, nine) (simp append_assoc)

closed : (mode : Mode) (message : List ℕ) (begin : Field) (others : List Record) → begin.tag ≡ 8
    → rewritten mode.separator message (part_record 1 begin) others
    ≡ summed mode.separator (field_bytes mode.separator (decimal 8) (value_of message begin)
    ++ (field_bytes mode.separator (decimal 9) (decimal (length (written mode.separator message others))) ++ written mode.separator message others))
unfolding rewritten part_record value_at value_of
closed mode message begin others eight = rw eight

-- "clean": then the message is what its records are rewritten to
pub clean_message : (mode : Mode) (message : List ℕ) (v : Verified) → integrity_of mode message ≡ Ok v
    → (others body trailer : List Record) (stop : Field) (more : Fields)
    → Followed mode message (part_record 1 v.begin_string ∷ part_record 1 v.body_length ∷ others) body trailer (field stop more)
    → stop.first ≡ length message - 7
    → plain_tags message stop.first (fields_from mode message (start_at 0)) ≡ true → plain_length message (fields_from mode message (start_at 0)) ≡ true
    → three_digits message stop ≡ true
    → message ≡ rewritten mode.separator message (part_record 1 v.begin_string) (others ++ (body ++ trailer))
clean_message mode message v sound others body trailer stop more followed at_checksum tags-plain length-plain three =
    let checked = verified-checked mode message v sound in
    let first = follows_cursor mode message followed.header_follows (start_at 0) refl in
    let second = follows_cursor mode message followed.body_follows first.cursor first.left in
    let third = follows_cursor mode message followed.trailer_follows second.cursor second.left in
    let same : stop ≡ v.checksum = stop-verified mode message v sound third.cursor stop more third.left at_checksum in
    let whole : message ≡ written mode.separator message (part_record 1 v.begin_string ∷ part_record 1 v.body_length
    ∷ (others ++ (body ++ trailer))) ++ drop (length message - 7) message =
    followed-written mode message (part_record 1 v.begin_string ∷ part_record 1 v.body_length ∷ others) body trailer stop more followed tags-plain
    ∙ ap (λ (n : ℕ). written mode.separator message (part_record 1 v.begin_string ∷ part_record 1 v.body_length ∷ (others ++ (body ++ trailer)))
    ++ drop n message) at_checksum in
    clean_rewritten mode message v sound (written mode.separator message (others ++ (body ++ trailer)))
    (whole ∙ opened mode.separator message v.begin_string v.body_length (others ++ (body ++ trailer)) (drop (length message - 7) message)
    checked.tags.begins checked.tags.counts)
    length-plain (ap (three_digits message) (sym same) ∙ three)
    ∙ sym (closed mode message v.begin_string (others ++ (body ++ trailer)) checked.tags.begins)
