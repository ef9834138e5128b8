-- THEOREM 1 through the exports: a clean message that was built, taken over and encoded is in the caller's output, byte for byte.
use Rattle.std.specs.Prelude.{ℕ, ◌≤◌, ◌≡◌, List, [], ◌∷◌, ◌++◌, length, drop, replicate}
use Rattle.std.proofs.Common.{◌∙◌}
use Rattle.message_maps.specs.Rows.{message_words}
use Rattle.build_config.specs.Settings.{config_of}
use Rattle.dictionary_meaning_rules.specs.Meaning.{dictionary_of}
use Rattle.build_records.specs.Records.{record_words}
use Rattle.encode_rules.specs.declared.Encoding.TheVariants.{Written}
use Rattle.face_messages.specs.declared.FieldRecord.{FieldRecord}
use Rattle.promise_records.specs.TakenOver.{build_shown}
use Rattle.promise_roundtrip.specs.Clean.{Clean}
use Rattle.promise_roundtrip.proofs.ComesBack.{clean_message_comes_back}
use Rattle.promise_exported_messages.specs.Exports.{Calls}
use Rattle.promise_exported_messages.specs.CallLaws.{same-separator, number-written, length-written, built_valid, taking_is, taken_made, encoding_as, encoded_so}

-- what take-over and encode answer, and what is left of the output
pub record Back (message output : List ℕ) (taken encoded : ℕ) (output_left out : List ℕ) : Type 0 where
  pub taken-over : taken ≡ 0
  pub is_encoded : encoded ≡ 0
  pub own-bytes : output_left ≡ message ++ drop (length message) output
  pub own-length : out ≡ 0 ∷ length message ∷ 0 ∷ 0 ∷ []

-- "For every message, dictionary, separator and setting": where the build answers 0 and the message is clean, take-over and encode answer 0, the
-- output begins with the message's own bytes, the rest of it is as it was, and the length that is told is the message's
pub clean_message_comes_back_exported : (message : List ℕ) (separator settings : ℕ) (dictionary : List ℕ) (records : List FieldRecord) (words values output : List ℕ) (calls : Calls message separator settings dictionary records words values output)
    → length words ≡ message_words → length values ≡ 8192 → length message ≤ length output
    → calls.built ≡ 0 → Clean (dictionary_of dictionary) (config_of settings separator) message
    → Back message output calls.taken calls.encoded calls.encoded_output calls.encoded_out
clean_message_comes_back_exported message separator settings dictionary records words values output calls whole store room answered clean =
    let a = built_valid calls.builds answered in
    let b = clean_message_comes_back message (config_of settings separator) dictionary (length records) (replicate record_words 0) words values output whole store room a clean in
    let t = taken_made calls.takes-over _ _ (taking_is calls.builds words values ∙ b.calls.takes-over) in
    let written = encoding_as output (same-separator settings separator) t.words_are t.values_are ∙ b.encodes in
    let e = encoded_so calls.encodes (Written (length message)) _ _ _ written in
    let short = (build_shown message (config_of settings separator) dictionary (length records) (replicate record_words 0) a).short in
    record {
      taken-over = t.made;
      is_encoded = e.number_is ∙ number-written (length message);
      own-bytes = e.output_is;
      own-length = e.out_is ∙ length-written (length message) short;
    }
