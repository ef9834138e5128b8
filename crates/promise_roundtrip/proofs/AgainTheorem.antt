-- "Encoded and, if within 8,192 bytes, built again with the same separator, setting and dictionary, it gives 0 and the same maps and runs,
-- only 9 and 10 recomputed and 10 first in the trailer": of a repeat-free message, whatever message its records stand for.
use Rattle.std.specs.Prelude.{◌≡◌, Bool, false, List, ◌∷◌, ◌++◌, ℕ, ◌≤◌, ◌<◌, length, drop}
use Rattle.build_config.specs.declared.Config.{Config}
use Rattle.dictionary_layout_rules.specs.Tree.{Dictionary}
use Rattle.build_records.specs.declared.Record.{Record}
use Rattle.message_lent_rules.specs.Meaning.{Message, words_of, value_bytes_of}
use Rattle.build_nesting_laws.specs.Formed.{Own}
use Rattle.build_nesting_laws.specs.Entries.{All, all_more}
use Rattle.build_parts.specs.Parts.{part_record}
use Rattle.build_rules.specs.Message.{message_read}
use Rattle.message_read_laws.specs.PartReading.{of_field, own-field}
use Rattle.message_read_laws.specs.Parted.{Takes}
use Rattle.build_order_laws.specs.InOrder.{InOrder}
use Rattle.encode_rules.specs.Encoding.{encoding, encoded_message}
use Rattle.field_rules.specs.Separator.{is_refused_separator}
use Rattle.encode_rules.specs.Encode.{left, encoding_of}
use Rattle.encode_rules.specs.declared.Encoding.TheVariants.{Written, TooLong}
use Rattle.encode_rewriting_laws.specs.Written.{rewritten}
use Rattle.encode_rewriting_laws.proofs.EncodedBuilt.{Built, encoding-rewritten}
use Rattle.encode_rewriting_laws.proofs.EncodedFit.{encoding-written, encoding_too_long}
use Rattle.encode_rewriting_laws.proofs.EncodedParts.{read-built}
use Rattle.encode_rewriting_laws.proofs.ReadMessage.{Followed, followed_sound}
use Rattle.encode_rewriting_laws.proofs.ReadRewritten.{ReadsLike, no_digit}
use Rattle.promise_roundtrip.proofs.ComesBack.{repeat-free-order}
use Rattle.promise_roundtrip.specs.Clean.{RepeatFree}
use Rattle.promise_roundtrip.specs.AgainValues.{Split}
use Rattle.promise_roundtrip.proofs.Again.{follows_as, split_parts, Again, split_of, read_same, once_again}

-- a message that was read, and what its records stand for: encoding it "succeeds or passes 8,192 bytes", and what is written reads the same
pub record ComesBack (dictionary : Dictionary) (config : Config) (message : List ℕ) (m : Message) : Type 0 where
  pub written : (output : List ℕ) → length (encoding config.mode.separator m) ≤ 8192 → length (encoding config.mode.separator m) ≤ length output
      → encoding_of config.mode.separator (words_of m) (value_bytes_of m) output ≡ left (Written (length (encoding config.mode.separator m))) (words_of (encoded_message config.mode.separator m)) (value_bytes_of (encoded_message config.mode.separator m)) (encoding config.mode.separator m ++ drop (length (encoding config.mode.separator m)) output)
  pub too_long : (output : List ℕ) → 8192 < length (encoding config.mode.separator m) → encoding_of config.mode.separator (words_of m) (value_bytes_of m) output ≡ left TooLong (words_of m) (value_bytes_of m) output
  pub before : Split (message_read dictionary config message).records
  pub again : length (encoding config.mode.separator m) ≤ 8192 → Again message before (encoding config.mode.separator m) (message_read dictionary config (encoding config.mode.separator m))
  pub repeat-free : length (encoding config.mode.separator m) ≤ 8192 → RepeatFree dictionary config (encoding config.mode.separator m)

module _ (dictionary : Dictionary) (config : Config) (message : List ℕ) (free : RepeatFree dictionary config message) where
  -- "no tag stored twice in one map": each field has a record of its own, in the order of reading
  order : InOrder dictionary config message
  order = repeat-free-order dictionary config message free

  abbrev before : Split (message_read dictionary config message).records
  before = split_of dictionary config message order

  module _ (separates : is_refused_separator config.mode.separator ≡ false) (takes : Takes message (message_read dictionary config message).records) where
    abbrev begin : Record
    begin = part_record 1 order.parts.verified.begin_string

    abbrev size : Record
    size = part_record 1 order.parts.verified.body_length

    abbrev type : Record
    type = part_record 1 order.parts.verified.msg_type

    abbrev check : Record
    check = part_record 3 order.parts.verified.checksum

    abbrev copy : List ℕ
    copy = rewritten config.mode.separator message begin (type ∷ (order.others ++ (order.parts.body ++ order.trailer)))

    header-own : All (Own 0 0) (begin ∷ size ∷ type ∷ order.others)
    header-own = rw order.header-starts at order.header-own

    built : Built message takes.meant begin size type order.others order.parts.body check order.trailer
    unfolding split_of split_parts
    built =
        read-built takes.stand takes.within before.is before.begins before.counts before.types before.sums (of_field 3 order.parts.verified.checksum).of
        (follows_as order.header-starts order.header_follows) order.body_follows order.trailer_follows
        header-own (all_more (own-field 3 order.parts.verified.checksum) order.trailer-own)

    copied : encoding config.mode.separator takes.meant ≡ copy
    copied = encoding-rewritten config.mode.separator built

    followed : Followed config.mode message (begin ∷ size ∷ type ∷ order.others) order.parts.body order.trailer order.last
    followed =
        record {
          behind_header = _;
          behind_body = _;
          header_follows = follows_as order.header-starts order.header_follows;
          body_follows = order.body_follows;
          trailer_follows = order.trailer_follows;
        }

    like : length copy ≤ 8192 → ReadsLike config.mode message copy begin type (order.others ++ (order.parts.body ++ order.trailer))
    unfolding split_of split_parts
    like short = followed_sound config.mode message begin size type order.others order.parts.body order.trailer order.last followed (no_digit config.mode.separator separates) before.begins before.types short

    copy_again : length copy ≤ 8192 → Again message before copy (message_read dictionary config copy)
    copy_again short = read_same dictionary config message order copy (like short)

    copy-free : length copy ≤ 8192 → RepeatFree dictionary config copy
    copy-free short =
        record {
          valid = (copy_again short).valid;
          holds-begin_string = free.holds-begin_string;
          holds-body_length = free.holds-body_length;
          holds_msg_type = free.holds_msg_type;
          none-twice = once_again dictionary config message order copy (like short);
        }

    pub comes_back : ComesBack dictionary config message takes.meant
    comes_back =
        record {
          written = λ output short fits. rw copied (encoding-written built config.mode.separator separates output (rw copied at short) (rw copied at fits));
          too_long = λ output long. encoding_too_long built config.mode.separator separates output (rw copied at long);
          before = before;
          again = λ short. rw copied (copy_again (rw copied at short));
          repeat-free = λ short. rw copied (copy-free (rw copied at short));
        }
