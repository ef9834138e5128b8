-- The same through the operations: a build, take-over of what it left, the encoding of that, and a build of what was encoded.
-- For every repeat-free message, config, dictionary, number of lent records and lent contents, an output of 8,192 bytes or more.
use Rattle.std.specs.Prelude.{◌≡◌, false, List, ◌++◌, ℕ, ◌≤◌, ◌<◌, length, drop}
use Rattle.std.proofs.Math.Path.{sym, ap}
use Rattle.std.proofs.Common.{◌∙◌, lt_of_not-le, arith}
use Rattle.std.proofs.Math.Decide.{dec_le}
use Rattle.message_maps.specs.Rows.{message_words}
use Rattle.build_config.specs.declared.Config.{Config}
use Rattle.dictionary_meaning_rules.specs.Meaning.{dictionary_of}
use Rattle.message_lent_rules.specs.Meaning.{Message, words_of, value_bytes_of}
use Rattle.build_answers.specs.declared.Answer.TheVariants.{Valid}
use Rattle.build_rules.specs.Message.{Outcome, message_read}
use Rattle.builder.specs.Build.{BuildOutcome, words_with, shown, build_of}
use Rattle.message_take_over.specs.Derived.{derived, given}
use Rattle.promise_records.specs.TakenOver.{Shown, build_shown, shown_build, build_of-taken}
use Rattle.encode_rules.specs.Encoding.{encoding, encoded_message}
use Rattle.field_rules.specs.Separator.{is_refused_separator}
use Rattle.encode_rules.specs.Encode.{left, encoding_of}
use Rattle.encode_rules.specs.declared.Encoding.TheVariants.{Written, TooLong}
use Rattle.build_order_laws.specs.SimilarLaws.{similar_length}
use Rattle.promise_roundtrip.specs.Clean.{RepeatFree}
use Rattle.promise_roundtrip.specs.AgainValues.{Split}
use Rattle.promise_roundtrip.proofs.Again.{Again}
use Rattle.promise_roundtrip.specs.BuiltTaken.{BuiltTaken}
use Rattle.promise_roundtrip.proofs.AgainTheorem.{comes_back}

module _ (message : List ℕ) (config : Config) (dictionary : List ℕ) (lent : ℕ) where
  -- what is read of some bytes with the dictionary and the setting
  abbrev pub read_of : List ℕ → Outcome
  read_of bytes = message_read (dictionary_of dictionary) config bytes

  -- a second build that answers 0, with as many records as the first, and the same of each but the 9 and the 10
  pub record BuiltAgain (before : Split (read_of message).records) (copy second : List ℕ) : Type 0 where
    pub valid : (build_of copy config dictionary lent second).answer ≡ Valid
    pub count : (build_of copy config dictionary lent second).records ≡ length (read_of message).records
    pub words : (build_of copy config dictionary lent second).words ≡ words_with (read_of copy).records
    pub again : Again message before copy (read_of copy)

  -- "encoding what was built succeeds or passes 8,192 bytes"
  pub data Encodes (before : Split (read_of message).records) (m : Message) (output second : List ℕ) : Type 0 where
    succeeds : length (encoding config.mode.separator m) ≤ 8192
        → encoding_of config.mode.separator (words_of m) (value_bytes_of m) output
        ≡ left (Written (length (encoding config.mode.separator m))) (words_of (encoded_message config.mode.separator m)) (value_bytes_of (encoded_message config.mode.separator m)) (encoding config.mode.separator m ++ drop (length (encoding config.mode.separator m)) output)
        → BuiltAgain before (encoding config.mode.separator m) second → Encodes before m output second
    passes : 8192 < length (encoding config.mode.separator m) → encoding_of config.mode.separator (words_of m) (value_bytes_of m) output ≡ left TooLong (words_of m) (value_bytes_of m) output → Encodes before m output second

  -- what the operations leave, one after the other
  pub record RoundTrip (first words values output second : List ℕ) : Type 0 where
    pub count : (build_of message config dictionary lent first).records ≡ length (read_of message).records
    pub built : (build_of message config dictionary lent first).words ≡ words_with (read_of message).records
    pub before : Split (read_of message).records
    pub calls : BuiltTaken message (build_of message config dictionary lent first) words values
    pub kept : derived calls.taken ≡ given message (read_of message).records
    pub encodes : Encodes before calls.taken output second

  -- the build of what was encoded
  module _ (before : Split (read_of message).records) (built : BuildOutcome) (s : Shown message config dictionary lent built) (copy second : List ℕ) (short : length copy ≤ 8192) (again : Again message before copy (read_of copy)) where
    second_build : BuiltAgain before copy second
    unfolding shown
    second_build =
        let e : build_of copy config dictionary lent second ≡ shown lent (read_of copy) = shown_build copy config dictionary lent second s.separates s.enough short s.checked in
        record {
          valid = ap (λ (o : BuildOutcome). o.answer) e ∙ again.valid;
          count = ap (λ (o : BuildOutcome). o.records) e ∙ sym (similar_length again.similar);
          words = ap (λ (o : BuildOutcome). o.words) e;
          again = again;
        }

  -- "Encoded and, if within 8,192 bytes, built again with the same separator, setting and dictionary, it gives 0 and the same"
  pub repeat-free_again : (first words values output second : List ℕ) → length words ≡ message_words → length values ≡ 8192 → 8192 ≤ length output → (build_of message config dictionary lent first).answer ≡ Valid
      → RepeatFree (dictionary_of dictionary) config message → RoundTrip first words values output second
  repeat-free_again first words values output second whole store room a free =
      let s = build_shown message config dictionary lent first a in
      let (t, made) = build_of-taken message config dictionary lent first words values whole store a in
      let separates : is_refused_separator config.mode.separator ≡ false = s.separates in
      let back = comes_back (dictionary_of dictionary) config message free separates t.takes in
      record {
        count = s.count;
        built = s.words;
        before = back.before;
        calls = record { taken = t.takes.meant; takes-over = made };
        kept = t.same;
        encodes =
            elim (dec_le (length (encoding config.mode.separator t.takes.meant)) 8192) [
              | yes short ↦ succeeds short (back.written output short (omega arith)) (second_build back.before _ s _ second short (back.again short))
              | no long ↦ passes (lt_of_not-le long) (back.too_long output (lt_of_not-le long))
            ];
      }
