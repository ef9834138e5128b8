-- THEOREM 5 through the exports: where a tag was stored twice in one map, the build tells fewer records than fields were read, take-over answers 0,
-- and encode answers 0, 20 or 23 by its length alone. Under each tag the caller's records hold the last field that the part took: the value that is
-- lost is the earlier one.
use Rattle.std.specs.Prelude.{ℕ, ◌≤◌, ◌<◌, ◌≡◌, true, List, [], ◌∷◌, length, get_or, take, replicate}
use Rattle.std.proofs.Common.{sym, ◌∙◌, lt_of_not-le, arith}
use Rattle.std.proofs.Math.Decide.{dec_le}
use Rattle.message_maps.specs.Rows.{message_words}
use Rattle.build_config.specs.Settings.{config_of}
use Rattle.dictionary_meaning_rules.specs.Meaning.{dictionary_of}
use Rattle.build_records.specs.Records.{record_words}
use Rattle.message_lent_rules.specs.Meaning.{Message, words_of, value_bytes_of, message_in}
use Rattle.message_rules.specs.Changes.{field_total}
use Rattle.build_rules.specs.Message.{Outcome, message_read}
use Rattle.encode_rules.specs.Encoding.{encoding}
use Rattle.encode_rules.specs.declared.Encoding.TheVariants.{Written, TooLong, NoRoom}
use Rattle.build_order_laws.specs.Counted.{fields_counted}
use Rattle.build_order_laws.specs.Twice.{stored_twice}
use Rattle.build_order_laws.proofs.TwiceMessage.{twice_fewer}
use Rattle.build_order_laws.specs.InParts.{InParts, in_parts}
use Rattle.face_messages.specs.declared.FieldRecord.{FieldRecord}
use Rattle.face_messages.specs.Lent.{records_from}
use Rattle.promise_records.specs.TakenOver.{build_shown}
use Rattle.promise_roundtrip.proofs.LastReadLaws.{LastRead, last-read}
use Rattle.promise_roundtrip.proofs.Dealer.{message_loses}
use Rattle.promise_roundtrip.proofs.DealerEarlier.{EarlierLost, stored_twice_earlier}
use Rattle.promise_exported_messages.specs.Exports.{Calls}
use Rattle.promise_exported_messages.specs.CallLaws.{same-separator, number-written, length-written, number_too_long, length_too_long, number_no_room}
use Rattle.promise_exported_messages.specs.CallLaws.{length_no_room, built_valid, counted_as, taking_is, records_are, taken_made, encoding_as}
use Rattle.promise_exported_messages.specs.CallLaws.{encoded_so}

module _ (message : List ℕ) (separator settings : ℕ) (dictionary : List ℕ) (records : List FieldRecord) (words values output : List ℕ)
    (calls : Calls message separator settings dictionary records words values output) where
  abbrev pub read : Outcome
  read = message_read (dictionary_of dictionary) (config_of settings separator) message

  -- "the fields read in sequence", of which each that was stored over another is one
  abbrev pub fields_read : ℕ
  fields_read = fields_counted (config_of settings separator).mode message read.stop

  -- how an encode ends, by the length of its encoding alone: written, with fewer fields than were read; 20; or 23
  pub data Encodes (size : ℕ) : Type 0 where
    written : size ≤ 8192 → size ≤ length output → calls.encoded ≡ 0 → calls.encoded_out ≡ 0 ∷ size ∷ 0 ∷ 0 ∷ []
        → field_total (message_in calls.encoded-words calls.encoded-values) < fields_read → Encodes size
    too_long : 8192 < size → calls.encoded ≡ 20 → calls.encoded-words ≡ calls.taken_words → calls.encoded-values ≡ calls.taken_values
        → calls.encoded_output ≡ output → calls.encoded_out ≡ 0 ∷ 0 ∷ 0 ∷ 0 ∷ [] → Encodes size
    no_room : size ≤ 8192 → length output < size → calls.encoded ≡ 23 → calls.encoded-words ≡ calls.taken_words
        → calls.encoded-values ≡ calls.taken_values → calls.encoded_output ≡ output → calls.encoded_out ≡ 0 ∷ 0 ∷ 0 ∷ 0 ∷ [] → Encodes size

  pub record Loses : Type 0 where
    pub fewer_told : get_or calls.built_out 0 0 < fields_read
    pub records_read : records_from (take (get_or calls.built_out 0 0) calls.built_records) ≡ read.records
    pub parts : InParts (dictionary_of dictionary) (config_of settings separator) message read
    pub last : LastRead (dictionary_of dictionary) (config_of settings separator) message parts
    pub lost : EarlierLost (dictionary_of dictionary) (config_of settings separator) message parts
    pub taken-over : calls.taken ≡ 0
    pub meant : Message
    pub words_mean : calls.taken_words ≡ words_of meant
    pub values_mean : calls.taken_values ≡ value_bytes_of meant
    pub encodes : Encodes (length (encoding separator meant))

-- THE DEALER'S CASE, for every message, dictionary, separator and setting
pub stored_twice_lost_exported : (message : List ℕ) (separator settings : ℕ) (dictionary : List ℕ) (records : List FieldRecord) (words values output : List ℕ)
    (calls : Calls message separator settings dictionary records words values output)
    → length words ≡ message_words → length values ≡ 8192
    → calls.built ≡ 0 → stored_twice (dictionary_of dictionary) (config_of settings separator) message ≡ true
    → Loses message separator settings dictionary records words values output calls
unfolding config_of
stored_twice_lost_exported message separator settings dictionary records words values output calls whole store answered twice =
    let config = config_of settings separator in
    let blank : List ℕ = replicate record_words 0 in
    let a = built_valid calls.builds answered in
    let s = build_shown message config dictionary (length records) blank a in
    let l = message_loses message config dictionary (length records) blank words values whole store a twice in
    let m = l.calls.taken in
    let k = taken_made calls.takes-over (words_of m) (value_bytes_of m) (taking_is calls.builds words values ∙ l.calls.takes-over) in
    let same = encoding_as output (same-separator settings separator) k.words_are k.values_are in
    let text = encoding config.mode.separator m in
    let only = l.only_length output in
    let p = in_parts (dictionary_of dictionary) config message s.valid in
    let count : get_or calls.built_out 0 0 ≡ length (message_read (dictionary_of dictionary) config message).records =
    counted_as calls.builds s.count in
    record {
      fewer_told = omega (arith, count, twice_fewer (dictionary_of dictionary) config message s.valid twice);
      records_read = records_are calls.builds (message_read (dictionary_of dictionary) config message).records s.words s.count;
      parts = p;
      last = last-read (dictionary_of dictionary) config message p;
      lost = stored_twice_earlier (dictionary_of dictionary) config message s.valid twice;
      taken-over = k.made;
      meant = m;
      words_mean = k.words_are;
      values_mean = k.values_are;
      encodes =
          elim (dec_le (length text) 8192) [
            | yes short ↦
                elim (dec_le (length text) (length output)) [
                  | yes fits ↦
                      let is = only.written short fits in
                      let e = encoded_so calls.encodes (Written (length text)) _ _ _ (same ∙ is) in
                      written short fits (e.number_is ∙ number-written (length text)) (e.out_is ∙ length-written (length text) short)
                      (rw (e.words_are, e.values_are) (l.loses output (length text) _ _ _ is))
                  | no full ↦
                      let e = encoded_so calls.encodes NoRoom _ _ _ (same ∙ only.no_room short (lt_of_not-le full)) in
                      no_room short (lt_of_not-le full) (e.number_is ∙ number_no_room) (e.words_are ∙ sym k.words_are)
                      (e.values_are ∙ sym k.values_are) e.output_is (e.out_is ∙ length_no_room)
                ]
            | no long ↦
                let e = encoded_so calls.encodes TooLong _ _ _ (same ∙ only.too_long (lt_of_not-le long)) in
                too_long (lt_of_not-le long) (e.number_is ∙ number_too_long) (e.words_are ∙ sym k.words_are) (e.values_are ∙ sym k.values_are)
                e.output_is (e.out_is ∙ length_too_long)
          ];
    }
