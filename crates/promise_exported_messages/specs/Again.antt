-- THEOREM 2 through the exports: a repeat-free message that was built, taken over and encoded builds again from the bytes in the caller's output,
-- into as many lent records, the same but for the 9 and the 10; or its encoding passes 8,192 bytes, and everything is as it was.
use Rattle.std.specs.Prelude.{ℕ, ◌≤◌, ◌≡◌, refl, List, [], ◌∷◌, ◌++◌, take, drop, replicate}
use Rattle.std.proofs.Math.Path.{sym, ap}
use Rattle.std.proofs.Common.{◌∙◌, lt_of_not-le, arith, le-ltb, take_at}
use Rattle.std.proofs.Math.Decide.{dec_le}
use Rattle.std.proofs.Math.ListN.{length, get_or}
use Rattle.message_maps.specs.Rows.{message_words}
use Rattle.build_config.specs.Settings.{config_of}
use Rattle.dictionary_meaning_rules.specs.Meaning.{dictionary_of}
use Rattle.build_records.specs.Records.{record_words}
use Rattle.message_lent_rules.specs.Meaning.{words_of, value_bytes_of}
use Rattle.build_answers.specs.Answer.{number_of}
use Rattle.build_answers.specs.declared.Answer.TheVariants.{Valid}
use Rattle.build_rules.specs.Message.{Outcome, message_read}
use Rattle.builder.specs.Build.{BuildOutcome, shown, build_of}
use Rattle.encode_rules.specs.Encoding.{encoding}
use Rattle.encode_rules.specs.declared.Encoding.TheVariants.{Written, TooLong}
use Rattle.build_order_laws.specs.SimilarLaws.{similar_length}
use Rattle.face_messages.specs.declared.FieldRecord.{FieldRecord}
use Rattle.face_messages.specs.Lent.{built_from, records_from}
use Rattle.promise_records.specs.TakenOver.{Shown, build_shown, shown_build, build_of-taken}
use Rattle.promise_roundtrip.specs.Clean.{RepeatFree}
use Rattle.promise_roundtrip.specs.AgainValues.{Split}
use Rattle.promise_roundtrip.proofs.Again.{Again}
use Rattle.promise_roundtrip.proofs.AgainTheorem.{comes_back}
use Rattle.promise_exported_messages.specs.Exports.{Builds, Calls}
use Rattle.promise_exported_messages.specs.CallLaws.{same-separator, from-blank, number_valid, number-written, length-written, number_too_long}
use Rattle.promise_exported_messages.specs.CallLaws.{length_too_long, counts-told, built_valid, count-told, taking_is, records_are, taken_made}
use Rattle.promise_exported_messages.specs.CallLaws.{encoding_as, encoded_so}

module _ (message : List ℕ) (separator settings : ℕ) (dictionary : List ℕ) where
  -- what is read of some bytes with the dictionary, the separator and the setting
  abbrev pub read_of : List ℕ → Outcome
  read_of bytes = message_read (dictionary_of dictionary) (config_of settings separator) bytes

  -- a second build: it answers 0 and tells as many records as the first; those that it left, and the same of each but the 9 and the 10
  pub record BuiltAgain (before : Split (read_of message).records) (copy : List ℕ) (number : ℕ) (records_left : List FieldRecord) (out : List ℕ) : Type 0 where
    pub valid : number ≡ 0
    pub tells : out ≡ length (read_of message).records ∷ 0 ∷ 0 ∷ 0 ∷ []
    pub records_read : records_from (take (length (read_of message).records) records_left) ≡ (read_of copy).records
    pub again : Again message before copy (read_of copy)
    pub free : RepeatFree (dictionary_of dictionary) (config_of settings separator) copy

  module _ (records : List FieldRecord) (words values output : List ℕ) (calls : Calls message separator settings dictionary records words values output) where
    -- "encoding what was built succeeds or passes 8,192 bytes"
    pub data Encodes (before : Split (read_of message).records) : Type 0 where
      succeeds : (copy : List ℕ) → length copy ≤ 8192 → calls.encoded ≡ 0 → calls.encoded_output ≡ copy ++ drop (length copy) output
          → calls.encoded_out ≡ 0 ∷ length copy ∷ 0 ∷ 0 ∷ []
          → ((others : List FieldRecord) (number : ℕ) (records_left : List FieldRecord) (out : List ℕ) → 1024 ≤ length others
          → Builds (take (get_or calls.encoded_out 1 0) calls.encoded_output) separator settings dictionary others number records_left out
          → BuiltAgain before copy number records_left out)
          → Encodes before
      passes : calls.encoded ≡ 20 → calls.encoded-words ≡ calls.taken_words → calls.encoded-values ≡ calls.taken_values → calls.encoded_output ≡ output
          → calls.encoded_out ≡ 0 ∷ 0 ∷ 0 ∷ 0 ∷ [] → Encodes before

    -- what the calls answer and leave
    pub record RoundTrip : Type 0 where
      pub records_read : records_from (take (get_or calls.built_out 0 0) calls.built_records) ≡ (read_of message).records
      pub taken-over : calls.taken ≡ 0
      pub before : Split (read_of message).records
      pub encodes : Encodes before

  -- the build of what was encoded
  module _ {built : BuildOutcome} {lent : ℕ} (s : Shown message (config_of settings separator) dictionary lent built)
      (before : Split (read_of message).records) (copy : List ℕ) (short : length copy ≤ 8192) (again : Again message before copy (read_of copy))
      (free : RepeatFree (dictionary_of dictionary) (config_of settings separator) copy) where
    second_build : (others : List FieldRecord) (number : ℕ) (records_left : List FieldRecord) (out : List ℕ) → 1024 ≤ length others
        → Builds copy separator settings dictionary others number records_left out → BuiltAgain before copy number records_left out
    unfolding shown
    second_build others number records_left out many b =
        let e : build_of copy (config_of settings separator) dictionary (length others) (replicate record_words 0) ≡ shown (length others) (read_of copy) =
        shown_build copy (config_of settings separator) dictionary (length others) (replicate record_words 0) s.separates
        (le-ltb (length others) 1024 many) short s.checked in
        let is : built_from copy separator settings dictionary (length others) ≡ shown (length others) (read_of copy) =
        from-blank copy separator settings dictionary (length others) ∙ e in
        let size : length (read_of copy).records ≡ length (read_of message).records = sym (similar_length again.similar) in
        let answer : (built_from copy separator settings dictionary (length others)).answer ≡ Valid = ap (λ (o : BuildOutcome). o.answer) is ∙ again.valid in
        let count : get_or out 0 0 ≡ length (read_of message).records = count-told b ∙ ap (λ (o : BuildOutcome). o.records) is ∙ size in
        record {
          valid = b.answers ∙ ap number_of answer ∙ number_valid;
          tells = counts-told b answer ∙ ap (λ (n : ℕ). n ∷ 0 ∷ 0 ∷ 0 ∷ []) count;
          records_read =
              ap (λ (n : ℕ). records_from (take n records_left)) (sym count)
              ∙ records_are b (read_of copy).records (ap (λ (o : BuildOutcome). o.words) e) (ap (λ (o : BuildOutcome). o.records) e);
          again = again;
          free = free;
        }

builds_as : {bytes other : List ℕ} {separator settings : ℕ} {dictionary : List ℕ} {records : List FieldRecord} {number : ℕ} {records_left : List FieldRecord}
    {out : List ℕ}
    → bytes ≡ other
    → Builds bytes separator settings dictionary records number records_left out → Builds other separator settings dictionary records number records_left out
builds_as e b = rw (← e) b

-- the first bytes of an output, as many as were told
copied : (out output_left copy output : List ℕ) → out ≡ 0 ∷ length copy ∷ 0 ∷ 0 ∷ [] → output_left ≡ copy ++ drop (length copy) output
    → take (get_or out 1 0) output_left ≡ copy
copied out output_left copy output tells is = rw (tells, is) (take_at copy (drop (length copy) output) (length copy) refl)

-- "Encoded and, if within 8,192 bytes, built again with the same separator, setting and dictionary, it gives 0 and the same", the second build being
-- one of the first bytes of the output, as many as were told, into any 1,024 lent records or more
pub repeat-free_again_exported : (message : List ℕ) (separator settings : ℕ) (dictionary : List ℕ) (records : List FieldRecord) (words values output : List ℕ)
    (calls : Calls message separator settings dictionary records words values output)
    → length words ≡ message_words → length values ≡ 8192 → 8192 ≤ length output
    → calls.built ≡ 0 → RepeatFree (dictionary_of dictionary) (config_of settings separator) message
    → RoundTrip message separator settings dictionary records words values output calls
repeat-free_again_exported message separator settings dictionary records words values output calls whole store room answered free =
    let config = config_of settings separator in
    let blank : List ℕ = replicate record_words 0 in
    let a = built_valid calls.builds answered in
    let s = build_shown message config dictionary (length records) blank a in
    let (t, made) = build_of-taken message config dictionary (length records) blank words values whole store a in
    let back = comes_back (dictionary_of dictionary) config message free s.separates t.takes in
    let m = t.takes.meant in
    let k = taken_made calls.takes-over (words_of m) (value_bytes_of m) (taking_is calls.builds words values ∙ made) in
    let same = encoding_as output (same-separator settings separator) k.words_are k.values_are in
    record {
      records_read = records_are calls.builds (message_read (dictionary_of dictionary) config message).records s.words s.count;
      taken-over = k.made;
      before = back.before;
      encodes =
          elim (dec_le (length (encoding config.mode.separator m)) 8192) [
            | yes short ↦
                let copy = encoding config.mode.separator m in
                let e = encoded_so calls.encodes (Written (length copy)) _ _ _ (same ∙ back.written output short (omega arith)) in
                let tells = e.out_is ∙ length-written (length copy) short in
                succeeds copy short (e.number_is ∙ number-written (length copy)) e.output_is tells
                (λ others number records_left out many b. second_build message separator settings dictionary s back.before copy short (back.again short)
                (back.repeat-free short) others number records_left out many
                (builds_as (copied calls.encoded_out calls.encoded_output copy output tells e.output_is) b))
            | no long ↦
                let e = encoded_so calls.encodes TooLong _ _ _ (same ∙ back.too_long output (lt_of_not-le long)) in
                passes (e.number_is ∙ number_too_long) (e.words_are ∙ sym k.words_are) (e.values_are ∙ sym k.values_are) e.output_is
                (e.out_is ∙ length_too_long)
          ];
    }
