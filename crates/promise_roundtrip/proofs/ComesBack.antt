-- THEOREM 1, clean: what was built, taken over and encoded is the message's own bytes. The records stand in the order of reading, their text
-- with the message's own BodyLength and CheckSum is the message, and an encoding writes just that text.
use Rattle.std.specs.Prelude.{◌≡◌, Bool, true, false, ℕ, ◌-◌, ◌≤◌, length, drop}
use Rattle.std.proofs.Math.Path.{refl, ap}
use Rattle.std.proofs.Common.{sym, ◌∙◌, arith, Option, Some}
use mathlib.Core.List.{List, [], ◌∷◌, ◌++◌}
use Rattle.message_maps.specs.Rows.{message_words}
use Rattle.field_rules.specs.Field.{start_at}
use Rattle.field_rules.specs.Fields.{Fields, field, fields_from}
use Rattle.dictionary_layout_rules.specs.Tree.{Dictionary}
use Rattle.build_records.specs.declared.Record.{Record}
use Rattle.build_nesting_laws.specs.Entries.{all_more}
use Rattle.build_parts.specs.Parts.{part_record}
use Rattle.build_rules.specs.Message.{message_read}
use Rattle.message_lent_rules.specs.Meaning.{Message, words_of, value_bytes_of}
use Rattle.encode_rules.specs.Encoding.{encoded_message}
use Rattle.field_rules.specs.Separator.{is_refused_separator}
use Rattle.encode_rules.specs.Encode.{left, encoding_of}
use Rattle.encode_rules.specs.declared.Encoding.TheVariants.{Written}
use Rattle.build_config.specs.declared.Config.{Config}
use Rattle.dictionary_meaning_rules.specs.Meaning.{dictionary_of}
use Rattle.build_answers.specs.declared.Answer.TheVariants.{Valid}
use Rattle.builder.specs.Build.{BuildOutcome, build_of}
use Rattle.promise_roundtrip.specs.BuiltTaken.{BuiltTaken}
use Rattle.promise_records.specs.TakenOver.{TakenOver, build_taken, build_shown}
use Rattle.message_read_laws.specs.Parted.{Takes}
use Rattle.message_read_laws.specs.PartReading.{own-field}
use Rattle.build_order_laws.specs.Follows.{Follows}
use Rattle.build_order_laws.specs.TrailerStores.{Last, at-stop, at_end}
use Rattle.build_order_laws.specs.InOrder.{InOrder, in_order}
use Rattle.build_order_laws.specs.VerifiedTags.{verified-tags}
use Rattle.encode_rewriting_laws.specs.Written.{rewritten}
use Rattle.encode_rewriting_laws.proofs.EncodedBuilt.{Built}
use Rattle.encode_rewriting_laws.proofs.EncodedFit.{encoding-written}
use Rattle.encode_rewriting_laws.proofs.EncodedParts.{read-built}
use Rattle.encode_rewriting_laws.proofs.PlainMessage.{clean_message}
use Rattle.promise_roundtrip.specs.Clean.{RepeatFree, Clean}
use Rattle.field_rules.specs.declared.Field.{Field}

module _ (dictionary : Dictionary) (config : Config) (message : List ℕ) where
  -- "no tag stored twice in one map": the records stand in the order of reading
  pub repeat-free-order : RepeatFree dictionary config message → InOrder dictionary config message
  repeat-free-order r = in_order dictionary config message r.valid r.none-twice

  module _ (o : InOrder dictionary config message) where
    abbrev begin : Record
    begin = part_record 1 o.parts.verified.begin_string

    abbrev size : Record
    size = part_record 1 o.parts.verified.body_length

    abbrev type : Record
    type = part_record 1 o.parts.verified.msg_type

    abbrev check : Record
    check = part_record 3 o.parts.verified.checksum

    -- what the encoding of the records comes to
    abbrev pub encoding_back : List ℕ
    encoding_back = rewritten config.mode.separator message begin (type ∷ (o.others ++ (o.parts.body ++ o.trailer)))

    header_follows : Follows 1 (fields_from config.mode message (start_at 0)) (begin ∷ size ∷ type ∷ o.others) (field o.parts.f o.parts.rest)
    header_follows = rw (← o.header-starts) o.header_follows

    -- the records of a message that was taken over are those of a message that was built
    pub order-built : (m : Message) → (t : Takes message (message_read dictionary config message).records) → t.meant ≡ m → Built message m begin size type o.others o.parts.body check o.trailer
    unfolding part_record
    order-built m t same =
        let tags = verified-tags config.mode message o.parts.verified o.parts.sound in
        let records = o.records ∙ ap (λ (l : List Record). l ++ (o.parts.body ++ (check ∷ o.trailer))) o.header-starts in
        rw (← same)
        (read-built t.stand t.within records
        tags.begins tags.counts tags.types tags.sums refl header_follows o.body_follows o.trailer_follows
        (rw (← o.header-starts) o.header-own) (all_more {r = check} (own-field 3 o.parts.verified.checksum) o.trailer-own))

    -- a clean message is the text of its own records
    pub clean_text : Clean dictionary config message → message ≡ encoding_back
    clean_text c = by_last (message_read dictionary config message).stop o.last o.is_last c.stops o.trailer_follows
      where
        by_last : (stop : Option Field) (last : Fields) → Last stop last → stop ≡ Some c.stop → Follows 3 (field o.parts.g o.parts.more) o.trailer last → message ≡ encoding_back
        by_last _ _ (at-stop {f = f} {rest = rest} ten) e follows =
            let same : f ≡ c.stop = cc in
            clean_message config.mode message o.parts.verified o.parts.sound (type ∷ o.others) o.parts.body o.trailer c.stop rest
            (record { behind_header = field o.parts.f o.parts.rest; behind_body = field o.parts.g o.parts.more; header_follows = header_follows; body_follows = o.body_follows; trailer_follows = rw (← same) follows })
            c.at_checksum c.tags-plain c.length-plain c.three_digits_lem
        by_last _ _ at_end e follows = let z : ◌≡◌ {A = ℕ} 0 1 = cc in absurd (omega arith)

-- what was built, taken over and encoded
pub record Back (separator : ℕ) (message words values output : List ℕ) (rs : List Record) : Type 0 where
  pub taken : TakenOver message rs words values
  pub left_words : List ℕ
  pub left_values : List ℕ
  pub encoded : encoding_of separator (words_of taken.takes.meant) (value_bytes_of taken.takes.meant) output ≡ left (Written (length message)) left_words left_values (message ++ drop (length message) output)

-- "A clean valid message encodes back to its own bytes"
pub clean_comes_back : (dictionary : Dictionary) (config : Config) (message words values output : List ℕ) → Clean dictionary config message → is_refused_separator config.mode.separator ≡ false
    → length message ≤ 8192 → length words ≡ message_words → length values ≡ 8192 → length message ≤ length output → Back config.mode.separator message words values output (message_read dictionary config message).records
clean_comes_back dictionary config message words values output c separates short whole store room =
    let r = c.repeat-free in
    let t = build_taken dictionary config message words values short whole store r.valid in
    let o = repeat-free-order dictionary config message r in
    let m = t.takes.meant in
    let same = clean_text dictionary config message o c in
    let built = order-built dictionary config message o m t.takes refl in
    let size = ap length same in
    record {
      taken = t;
      left_words = words_of (encoded_message config.mode.separator m);
      left_values = value_bytes_of (encoded_message config.mode.separator m);
      encoded = encoding-written built config.mode.separator separates output (omega (arith, size)) (omega (arith, size)) ∙ sym (ap (λ (e : List ℕ). left (Written (length e)) (words_of (encoded_message config.mode.separator m)) (value_bytes_of (encoded_message config.mode.separator m)) (e ++ drop (length e) output)) same);
    }

-- the bytes that the calls of build, take-over and encode make of a message, one after the other
pub record ComesBack (message : List ℕ) (config : Config) (built : BuildOutcome) (words values output : List ℕ) : Type 0 where
  pub calls : BuiltTaken message built words values
  pub left_words : List ℕ
  pub left_values : List ℕ
  pub encodes : encoding_of config.mode.separator (words_of calls.taken) (value_bytes_of calls.taken) output
      ≡ left (Written (length message)) left_words left_values (message ++ drop (length message) output)

-- CLEAN: "For every message, dictionary, separator and setting: if the build answers 0 and the message is clean, taking over what was built and
-- encoding it answers with the message's own bytes."
pub clean_message_comes_back : (message : List ℕ) (config : Config) (dictionary : List ℕ) (lent : ℕ) (before words values output : List ℕ) → length words ≡ message_words → length values ≡ 8192 → length message ≤ length output
    → (build_of message config dictionary lent before).answer ≡ Valid → Clean (dictionary_of dictionary) config message
    → ComesBack message config (build_of message config dictionary lent before) words values output
clean_message_comes_back message config dictionary lent before words values output whole store room a c =
    let s = build_shown message config dictionary lent before a in
    let b = clean_comes_back (dictionary_of dictionary) config message words values output c s.separates s.short whole store room in
    record {
      calls = record { taken = b.taken.takes.meant; takes-over = rw (s.words, s.count) b.taken.made };
      left_words = b.left_words;
      left_values = b.left_values;
      encodes = b.encoded;
    }
