-- The dealer's order, P5 `38=600|58=x|38=800|`, computed: the field that is lost is 38=600. Its records stand for one message only, which is
-- encoded as they are written; the theorem's facts are shown for it.
use Rattle.std.specs.Prelude.{◌≡◌, refl, true, false, List, [], ◌∷◌, ◌++◌, ℕ, ◌≤◌, length, drop, eqb}
use Rattle.std.proofs.Common.{ap, ◌∙◌, arith}
use Rattle.message_maps.specs.Rows.{message_words}
use Rattle.build_config.specs.Settings.{validating}
use Rattle.field_rules.specs.Computing.{reading-fields}
use Rattle.field_rules.specs.Choice.{pick}
use Rattle.field_rules.specs.Text.{bytes}
use Rattle.field_rules.specs.Fields.{Fields, unreadable, field}
use Rattle.field_rules.specs.Decimal.{decimal}
use Rattle.field_rules.specs.Number.{is_digit}
use Rattle.field_rules.specs.CheckSum.{sum_of, checksum_of, checksum_digits}
use Rattle.field_rules.specs.Decimal.{decimal_within}
use Rattle.field_rules.specs.Field.{start_at, value_of, separated_by}
use Rattle.field_rules.specs.Fields.{fields_from}
use Rattle.build_integrity_rules.specs.Integrity.{integrity_of, begun, counted, summed, typed, length_is, length_agrees, sum_is, sum_agrees}
use Rattle.dictionary_layout_rules.specs.Layout.{followed_by as layout_then, first_of, position_from, position_in, group_since, group_of}
use Rattle.dictionary_layout_rules.specs.Tree.{holds_tag, knows, plain_fields, header_tags_lem, trailer_tags_lem, flattened, same_bytes, message_of, layout_of}
use Rattle.build_records.specs.Records.{stored, value_at}
use Rattle.build_group_rules.specs.Reading.{accepted, opened_as, layout_rules}
use Rattle.build_required_rules.specs.Required.{has}
use Rattle.build_required_rules.specs.Checking.{layout_demands}
use Rattle.build_parts.specs.Parts.{part_record}
use Rattle.build_parts.specs.Header.{header_from}
use Rattle.build_parts.specs.Trailer.{trailer_from}
use Rattle.build_rules.specs.Beginning.{verified_records, header_of, with_checksum, started_by, start_of, msg_type_record}
use Rattle.build_body_rules.specs.Body.{and_then, next_from, takes, body_within, body_from}
use Rattle.build_body_rules.specs.Kinds.{group_kind, placed_kind, body_kind, body_of}
use Rattle.build_rules.specs.Message.{after_trailer, after_body, after_type, after_header, message_read}
use Rattle.build_records.specs.declared.Record.{Record}
use Rattle.build_answers.specs.declared.Answer.TheVariants.{Valid}
use Rattle.build_rules.specs.Message.{Outcome}
use Rattle.build_rules.specs.Examples.{dictionary, order, header, shows}
use Rattle.build_nesting_laws.specs.Entries.{all_none, all_more}
use Rattle.message_lent_rules.specs.Meaning.{words_of, value_bytes_of}
use Rattle.message_read_laws.specs.Parted.{Takes}
use Rattle.encode_rules.specs.Encoding.{sum_digits, summed as with_sum, encoding, encoded_message}
use Rattle.field_rules.specs.Separator.{is_refused_separator}
use Rattle.encode_rules.specs.Encode.{left, encoding_of}
use Rattle.encode_rules.specs.declared.Encoding.TheVariants.{Written}
use Rattle.build_order_laws.specs.Counted.{counted_to, counted_fields, fields_counted}
use Rattle.build_order_laws.specs.Twice.{twice_in_header, twice_in_trailer, twice_behind, twice_taking, twice_within, twice_in_body, twice_from_body, twice_from_header}
use Rattle.build_order_laws.specs.Twice.{stored_twice}
use Rattle.message_rules.specs.Changes.{field_total}
use Rattle.encode_rewriting_laws.specs.Written.{written, rewritten}
use Rattle.encode_rewriting_laws.proofs.EncodedBuilt.{Built, encoding-rewritten}
use Rattle.encode_rewriting_laws.proofs.EncodedFit.{encoding-written}
use Rattle.encode_rewriting_laws.proofs.EncodedParts.{stands_parted}
use Rattle.promise_roundtrip.proofs.Dealer.{Lost, a-field_each, stored_twice_lost}

-- P5 as the dealer's customer sent it, and as it is encoded
abbrev pub sent : List ℕ
sent = order "38=600|58=x|38=800|"

abbrev pub resent : List ℕ
resent = order "38=800|58=x|"

abbrev pub begin : Record
begin = shows 1 0 0 8 2 7

abbrev pub size : Record
size = shows 1 0 0 9 12 2

abbrev pub type : Record
type = shows 1 0 0 35 18 1

abbrev pub of_body : List Record
of_body = shows 2 0 0 38 35 3 ∷ shows 2 0 0 58 30 1 ∷ []

abbrev pub check : Record
check = shows 3 0 0 10 42 3

-- the values under a tag: of the fields as they are read, and of records
unfoldable pub read_under : ℕ → List ℕ → Fields → List (List ℕ)
read_under tag message (unreadable cause place) = []
read_under tag message (field f rest) = pick (eqb f.tag tag) (value_of message f ∷ read_under tag message rest) (read_under tag message rest)

unfoldable pub recorded_under : ℕ → List ℕ → List Record → List (List ℕ)
recorded_under tag message [] = []
recorded_under tag message (r ∷ rs) = pick (eqb r.tag tag) (value_at message r ∷ recorded_under tag message rs) (recorded_under tag message rs)

-- what it is read to
abbrev pub read : Outcome
read = message_read dictionary (validating true) sent

-- it is valid, 38 is stored twice, seven fields are counted and six have records: of `600` and `800`, both read under 38, only `800` is there
pub record OrderRead : Type 0 where
  pub valid : read.answer ≡ Valid
  pub twice : stored_twice dictionary (validating true) sent ≡ true
  pub records : read.records ≡ (begin ∷ size ∷ type ∷ []) ++ (of_body ++ (check ∷ []))
  pub fields_counted_lem : fields_counted (separated_by 1) sent read.stop ≡ 7
  pub fields_recorded : length read.records ≡ 6
  pub both_read : read_under 38 sent (fields_from (separated_by 1) sent (start_at 0)) ≡ bytes "600" ∷ bytes "800" ∷ []
  pub one_recorded : recorded_under 38 sent read.records ≡ bytes "800" ∷ []

order-read : OrderRead
unfolding stored_twice twice_from_header twice_from_body twice_in_body twice_within twice_taking twice_behind twice_in_trailer twice_in_header fields_counted counted_fields
    counted_to read_under recorded_under message_read start_of started_by header_of verified_records with_checksum header_from after_header after_type after_body
    after_trailer msg_type_record value_at trailer_from part_record body_from body_within takes next_from and_then body_of body_kind placed_kind group_kind integrity_of
    begun counted summed typed length_is length_agrees sum_is sum_agrees sum_of checksum_of checksum_digits decimal_within layout_then position_from first_of position_in
    group_since group_of holds_tag knows plain_fields header_tags_lem trailer_tags_lem flattened same_bytes message_of layout_of stored accepted layout_rules has layout_demands
    opened_as reading-fields
order-read = record { valid = refl; twice = refl; records = refl; fields_counted_lem = refl; fields_recorded = refl; both_read = refl; one_recorded = refl }

-- the records stand for a message of that shape, whichever take-over made of them
sent-built : (t : Takes sent read.records) → Built sent t.meant begin size type [] of_body check []
sent-built t =
    let p =
    stands_parted t.stand order-read.records
    (all_more {r = begin} (record { of = refl }) (all_more {r = size} (record { of = refl }) (all_more {r = type} (record { of = refl }) all_none)))
    (all_more {r = shows 2 0 0 38 35 3} (record { of = refl }) (all_more {r = shows 2 0 0 58 30 1} (record { of = refl }) all_none))
    (all_more {r = check} (record { of = refl }) all_none) in
    record {
      header = p.header-stands;
      body = p.body_stands;
      trailer = p.trailer-stands;
      begins = refl;
      counts = refl;
      types = refl;
      sums = refl;
      header-own =
          all_more {r = begin} (record { deep = refl; numbered = refl })
          (all_more {r = size} (record { deep = refl; numbered = refl }) (all_more {r = type} (record { deep = refl; numbered = refl }) all_none));
      trailer-own = all_more {r = check} (record { deep = refl; numbered = refl }) all_none;
      within = t.within;
    }

sent-rewritten : rewritten 1 sent begin (type ∷ ([] ++ (of_body ++ []))) ≡ resent
unfolding rewritten written with_sum sum_digits value_at decimal decimal_within sum_of checksum_digits
sent-rewritten = refl

resent-short : length resent ≡ 39
unfolding decimal_within sum_of checksum_digits
resent-short = refl

sent-short : length sent ≡ 46
unfolding decimal_within sum_of checksum_digits
sent-short = refl

separates : is_refused_separator 1 ≡ false
unfolding is_refused_separator is_digit
separates = refl

-- what was built, taken over and encoded
pub record DealersOrder (words values output : List ℕ) : Type 0 where
  pub reads : OrderRead
  pub lost : Lost dictionary (validating true) sent words values
  pub encoded : encoding 1 lost.taken.takes.meant ≡ resent
  pub fields-left : field_total (encoded_message 1 lost.taken.takes.meant) ≡ 6
  pub left_words : List ℕ
  pub left_values : List ℕ
  pub writes : encoding_of 1 (words_of lost.taken.takes.meant) (value_bytes_of lost.taken.takes.meant) output
      ≡ left (Written 39) left_words left_values (resent ++ drop 39 output)

-- "for P5 the field that is lost is 38=600"
pub dealers_order : (words values output : List ℕ) → length words ≡ message_words → length values ≡ 8192 → 39 ≤ length output
    → DealersOrder words values output
dealers_order words values output whole store room =
    let c = order-read in
    let l = stored_twice_lost dictionary (validating true) sent words values c.valid c.twice (omega (arith, sent-short)) whole store in
    let t = l.taken.takes in
    let m = t.meant in
    let w = ap length sent-rewritten in
    record {
      reads = c;
      lost = l;
      encoded = encoding-rewritten 1 (sent-built t) ∙ sent-rewritten;
      fields-left = a-field_each dictionary (validating true) sent c.valid t ∙ c.fields_recorded;
      left_words = words_of (encoded_message 1 m);
      left_values = value_bytes_of (encoded_message 1 m);
      writes =
          encoding-written (sent-built t) 1 separates output (omega (arith, w, resent-short)) (omega (arith, w, resent-short))
          ∙ written_as (words_of (encoded_message 1 m)) (value_bytes_of (encoded_message 1 m));
    }
  where
    written_as : (a b : List ℕ)
        → left (Written (length (rewritten 1 sent begin (type ∷ ([] ++ (of_body ++ [])))))) a b (rewritten 1 sent begin (type ∷ ([] ++ (of_body ++ [])))
        ++ drop (length (rewritten 1 sent begin (type ∷ ([] ++ (of_body ++ []))))) output) ≡ left (Written 39) a b (resent ++ drop 39 output)
    written_as a b =
        ap (λ (e : List ℕ). left (Written (length e)) a b (e ++ drop (length e) output)) sent-rewritten
        ∙ ap (λ (n : ℕ). left (Written n) a b (resent ++ drop n output)) resent-short
