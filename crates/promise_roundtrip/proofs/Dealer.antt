-- THEOREM 5, the dealer's case: where a tag was stored twice in one map, the encoding holds fewer fields than were read. There are fewer
-- records than fields, and an encoding has a field to each record. Encode is never refused but for its length. A clean message has no such tag.
use Rattle.std.specs.Prelude.{◌≡◌, Bool, true, false, List, ℕ, ◌≤◌, ◌<◌, length}
use Rattle.std.proofs.Common.{arith}
use Rattle.message_maps.specs.Rows.{message_words}
use Rattle.build_config.specs.declared.Config.{Config}
use Rattle.dictionary_meaning_rules.specs.Meaning.{dictionary_of}
use Rattle.dictionary_layout_rules.specs.Tree.{Dictionary}
use Rattle.build_answers.specs.declared.Answer.TheVariants.{Valid}
use Rattle.build_rules.specs.Message.{message_read}
use Rattle.builder.specs.Build.{BuildOutcome, build_of}
use Rattle.message_lent_rules.specs.Meaning.{words_of, value_bytes_of, message_in}
use Rattle.message_rules.specs.Changes.{field_total}
use Rattle.encode_rules.specs.Encoding.{encoded_message}
use Rattle.encode_rules.specs.Encode.{left, encoding_of}
use Rattle.encoder.specs.EncodedLaws.{encode_lends}
use Rattle.encode_rules.specs.declared.Encoding.TheVariants.{Written}
use Rattle.message_read_laws.specs.Parted.{Takes}
use Rattle.promise_records.specs.TakenOver.{TakenOver, build_taken, build_shown}
use Rattle.build_order_laws.specs.Counted.{fields_counted}
use Rattle.build_order_laws.specs.InParts.{in_parts}
use Rattle.build_order_laws.specs.Twice.{stored_twice}
use Rattle.build_order_laws.proofs.TwiceMessage.{twice_fewer}
use Rattle.promise_roundtrip.specs.BuiltTaken.{BuiltTaken}
use Rattle.promise_roundtrip.specs.Clean.{Clean, none-twice_iff}
use Rattle.promise_roundtrip.specs.DealerHolds.{length-held, checksum_held, encoded_records}
use Rattle.promise_roundtrip.specs.DealerEncodes.{OnlyLength, built_encodes}

module _ (dictionary : Dictionary) (config : Config) (message : List ℕ) where
  -- an encoding of what was built has a field to each record, repeats or not
  pub a-field_each : (message_read dictionary config message).answer ≡ Valid → (t : Takes message (message_read dictionary config message).records)
      → field_total (encoded_message config.mode.separator t.meant) ≡ length (message_read dictionary config message).records
  a-field_each a t =
      let p = in_parts dictionary config message a in
      encoded_records config.mode.separator t (length-held dictionary config message _ p) (checksum_held dictionary config message _ p)

  -- what was built and taken over, and how many fields its encoding has
  pub record Lost (words values : List ℕ) : Type 0 where
    pub taken : TakenOver message (message_read dictionary config message).records words values
    pub fewer : field_total (encoded_message config.mode.separator taken.takes.meant) < fields_counted config.mode message (message_read dictionary config message).stop

  -- "If a tag was stored twice in one map, the encoding holds fewer fields than were read"
  pub stored_twice_lost : (words values : List ℕ) → (message_read dictionary config message).answer ≡ Valid → stored_twice dictionary config message ≡ true
      → length message ≤ 8192 → length words ≡ message_words → length values ≡ 8192 → Lost words values
  stored_twice_lost words values a twice short whole store =
      let t = build_taken dictionary config message words values short whole store a in
      record { taken = t; fewer = omega (arith, a-field_each a t.takes, twice_fewer dictionary config message a twice) }

  -- ".. and no clean message has such a tag"
  pub clean_never_twice : Clean dictionary config message → stored_twice dictionary config message ≡ false
  clean_never_twice c = (none-twice_iff dictionary config message c.repeat-free.valid).0 c.repeat-free.none-twice

-- what the calls of build and take-over make of a message, and what an encode then answers and leaves of it: it is refused by its length alone,
-- with 20 or 23, and where it is not, there are fewer fields than were read
pub record Loses (message : List ℕ) (config : Config) (dictionary : List ℕ) (built : BuildOutcome) (words values : List ℕ) : Type 0 where
  pub calls : BuiltTaken message built words values
  pub only_length : (output : List ℕ) → OnlyLength config.mode.separator calls.taken output
  pub loses : (output : List ℕ) (size : ℕ) (left_words left_values left-output : List ℕ)
      → encoding_of config.mode.separator (words_of calls.taken) (value_bytes_of calls.taken) output ≡ left (Written size) left_words left_values left-output
      → field_total (message_in left_words left_values) < fields_counted config.mode message (message_read (dictionary_of dictionary) config message).stop

-- THE DEALER'S CASE, for every message, dictionary, separator and setting, through the operations
pub message_loses : (message : List ℕ) (config : Config) (dictionary : List ℕ) (lent : ℕ) (before words values : List ℕ) → length words ≡ message_words → length values ≡ 8192
    → (build_of message config dictionary lent before).answer ≡ Valid → stored_twice (dictionary_of dictionary) config message ≡ true
    → Loses message config dictionary (build_of message config dictionary lent before) words values
message_loses message config dictionary lent before words values whole store a twice =
    let s = build_shown message config dictionary lent before a in
    let l = stored_twice_lost (dictionary_of dictionary) config message words values s.valid twice s.short whole store in
    let t = l.taken in
    record {
      calls = record { taken = t.takes.meant; takes-over = rw (s.words, s.count) t.made };
      only_length = λ output. built_encodes (dictionary_of dictionary) config message output s.valid s.separates t.takes;
      loses = λ output size w v o e.
          let left_is = (encode_lends config.mode.separator (words_of t.takes.meant) (value_bytes_of t.takes.meant) output size w v o e).1.meant in
          rw (left_is, t.lends.meant) l.fewer;
    }
