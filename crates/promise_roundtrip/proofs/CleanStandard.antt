-- A clean message that keeps to FIX's tables is one of the standard: it is its own encoding, and its records are those of the fields that were
-- read, so no value holds a separator.
use Rattle.std.specs.Prelude.{◌≡◌, refl, Bool, List, [], ◌∷◌, ◌++◌, ℕ, ◌-◌, ◌≤◌, length}
use Rattle.std.proofs.Common.{sym, ap, ◌∙◌, subst}
use Rattle.field_rules.specs.Field.{start_at}
use Rattle.field_rules.specs.Fields.{field}
use Rattle.field_rules.proofs.FieldsLaws.{fields-field}
use Rattle.standard_rules.specs.Standard as standard
use Rattle.standard_rules.specs.Standard.{Tables}
use Rattle.build_integrity_rules.proofs.VerifiedLaws.{verified-read}
use Rattle.build_config.specs.declared.Config.{Config}
use Rattle.dictionary_layout_rules.specs.Tree.{Dictionary}
use Rattle.dictionary_meaning_rules.specs.Meaning.{dictionary_of}
use Rattle.build_records.specs.declared.Record.{Record}
use Rattle.build_nesting_laws.specs.Entries.{All, all_append}
use Rattle.build_parts.specs.Parts.{part_record}
use Rattle.build_answers.specs.declared.Answer.TheVariants.{Valid}
use Rattle.builder.specs.Build.{build_of}
use Rattle.build_rules.specs.Message.{message_read}
use Rattle.encode_rules.specs.Encoding.{encoding}
use Rattle.message_read_laws.specs.PartReading.{of_field}
use Rattle.message_read_laws.specs.ShapeLaws.{all_left, all_right}
use Rattle.message_read_laws.specs.Parted.{Takes}
use Rattle.promise_records.specs.TakenOver.{TakenOver, build_of-taken}
use Rattle.message_take_over.specs.Taking.{after}
use Rattle.message_take_over.specs.declared.Taken.TheVariants.{Made}
use Rattle.message_maps.specs.Rows.{message_words}
use Rattle.message_lent_rules.specs.Meaning.{Message, words_of, value_bytes_of}
use Rattle.message_lent_rules.proofs.MeantLaws.{layout_meant}
use Rattle.build_order_laws.specs.Follows.{no_field, one_field}
use Rattle.build_order_laws.specs.InOrder.{InOrder}
use Rattle.encode_rewriting_laws.proofs.EncodedBuilt.{encoding-rewritten}
use Rattle.encode_rewriting_laws.proofs.ReadWritten.{Writable, follows_writable}
use Rattle.encode_rewriting_laws.proofs.ReadMessage.{Followed, followed_writable}
use Rattle.promise_standard_encodings.specs.EncodedMaps.{Some}
use Rattle.promise_standard_encodings.specs.EncodedStandard.{Conformant}
use Rattle.promise_standard_encodings.proofs.EncodedClean.{built_standard}
use Rattle.promise_roundtrip.specs.BuiltTaken.{BuiltTaken}
use Rattle.promise_roundtrip.specs.Clean.{Clean}
use Rattle.promise_roundtrip.proofs.ComesBack.{repeat-free-order, order-built, clean_text}

module _ (dictionary : Dictionary) (config : Config) (message : List ℕ) (o : InOrder dictionary config message) where
  abbrev check : Record
  check = part_record 3 o.parts.verified.checksum

  -- the CheckSum's record is that of the field that was verified
  check_writable : All (Writable config.mode.separator message) (check ∷ [])
  check_writable =
      let sums = (verified-read config.mode message o.parts.verified o.parts.sound).sums in
      follows_writable config.mode message (one_field check (of_field 3 o.parts.verified.checksum) no_field) (start_at (length message - 7))
      (sym (fields-field config.mode message (start_at (length message - 7)) o.parts.verified.checksum sums))

  -- all that was read can be written
  order_writable : All (Writable config.mode.separator message) (o.parts.header ++ (o.parts.body ++ (check ∷ o.trailer)))
  order_writable =
      let read : Followed config.mode message o.parts.header o.parts.body o.trailer o.last =
      record { behind_header = field o.parts.f o.parts.rest; behind_body = field o.parts.g o.parts.more; header_follows = o.header_follows; body_follows = o.body_follows; trailer_follows = o.trailer_follows } in
      let all = followed_writable read in
      let behind = all_right o.parts.header (o.parts.body ++ o.trailer) all in
      all_append (Writable config.mode.separator message) (all_left o.parts.header (o.parts.body ++ o.trailer) all)
      (all_append (Writable config.mode.separator message) (all_left o.parts.body o.trailer behind)
      (all_append (Writable config.mode.separator message) check_writable (all_right o.parts.body o.trailer behind)))

-- THE STANDARD, clean messages: for all of FIX's tables that what was built keeps to
pub clean_standard : {T : Tables} (dictionary : Dictionary) (config : Config) (message : List ℕ) → config.mode.separator ≡ 1 → Clean dictionary config message
    → (t : Takes message (message_read dictionary config message).records) → Conformant T Some t.meant → standard.Message T message
clean_standard dictionary config message one c t conforms =
    let o = repeat-free-order dictionary config message c.repeat-free in
    let built = order-built dictionary config message o t.meant t refl in
    let same : message ≡ encoding config.mode.separator t.meant = clean_text dictionary config message o c ∙ sym (encoding-rewritten config.mode.separator built) in
    let starts = ap (λ (l : List Record). l ++ (o.parts.body ++ (part_record 3 o.parts.verified.checksum ∷ o.trailer))) o.header-starts in
    let writable : All (Writable 1 message) (o.parts.header ++ (o.parts.body ++ (part_record 3 o.parts.verified.checksum ∷ o.trailer))) =
    subst (λ (separator : ℕ). All (Writable separator message) (o.parts.header ++ (o.parts.body ++ (part_record 3 o.parts.verified.checksum ∷ o.trailer)))) one (order_writable dictionary config message o) in
    built_standard built (subst (All (Writable 1 message)) starts writable) conforms (same ∙ ap (λ (separator : ℕ). encoding separator t.meant) one)

-- and of the calls: what a build answered with 0 is taken over, and the message that this leaves keeps to the tables
pub clean_message_standard : {T : Tables} (message : List ℕ) (config : Config) (dictionary : List ℕ) (lent : ℕ) (before words values : List ℕ)
    → length words ≡ message_words → length values ≡ 8192 → config.mode.separator ≡ 1
    → (build_of message config dictionary lent before).answer ≡ Valid → Clean (dictionary_of dictionary) config message
    → (calls : BuiltTaken message (build_of message config dictionary lent before) words values) → Conformant T Some calls.taken → standard.Message T message
clean_message_standard {T} message config dictionary lent before words values whole store one valid c calls conforms =
    let t = build_of-taken message config dictionary lent before words values whole store valid in
    let same = one_meaning t.0.takes.meant calls.taken (sym t.1 ∙ calls.takes-over) in
    clean_standard (dictionary_of dictionary) config message one c t.0.takes (subst (Conformant T Some) same conforms)
  where
    -- one layout is that of one message
    one_meaning : (m n : Message) → after Made (words_of m) (value_bytes_of m) ≡ after Made (words_of n) (value_bytes_of n) → n ≡ m
    one_meaning m n e =
        let words_same : words_of m ≡ words_of n = cc in
        let values_same : value_bytes_of m ≡ value_bytes_of n = cc in
        sym (layout_meant n) ∙ rw (← words_same, ← values_same) (layout_meant m)
