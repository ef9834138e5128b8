-- Laws of what specs/EncodedStandard.antt defines.
-- A complete and conformant message is written as a message of the standard.
use Rattle.std.specs.Prelude.{◌≡◌, Bool, true, false, List, ◌++◌, ◌≢◌, ℕ, ◌+◌, ◌/◌, ◌%◌, ◌<◌, eqb}
use Rattle.std.proofs.Math.Path.{refl, ap}
use Rattle.std.proofs.Common.{sym, ◌∙◌, subst, append_assoc, eq-eqb, eqb-true}
use native.Mathlib.Omega.{arith}
use Rattle.std.proofs.Math.ListN.{length, length-append}
use Rattle.field_rules.specs.Choice.{pick, pick_same}
use Rattle.field_rules.specs.Number.{worth}
use Rattle.field_rules.specs.CheckSum.{sum_of, checksum_digits}
use Rattle.field_rules.specs.Decimal.{decimal, decimal_within}
use Rattle.field_rules.proofs.DecimalLaws.{digit_byte, last_digit}
use Rattle.field_rules.specs.Field.{field_bytes}
use Rattle.field_rules.proofs.FieldTextLaws.{bytes-size}
use Rattle.standard_rules.specs.Standard as standard
use Rattle.standard_rules.specs.Standard.{Tables, All, Int, Value, Distinct, placed, Once, total}
use Rattle.standard_rules.specs.Reading.{fields-append}
use Rattle.standard_rules.proofs.StandardLaws.{all_map, numbers_append, one_of, distinct_append, once_of}
use Rattle.message_maps.specs.Map.{Map, end, field, entry, holds, without_field}
use Rattle.message_lent_rules.specs.Meaning.{Message}
use Rattle.message_lent_rules.specs.StandLaws.{never, not_so}
use Rattle.message_lent_rules.specs.StoredLaws.{formed_without}
use Rattle.message_rules.specs.SplitLaws.{field_split}
use Rattle.encode_rules.specs.Encoding.{text, message_text, dropped, body_length, measured, sum_digits, summed, encoding}
use Rattle.encoder.specs.SizeLaws.{encoding_length}
use Rattle.promise_standard.specs.Texts.{sum_same, digits_int, int_value}
use Rattle.promise_standard_encodings.specs.EncodedMaps.{Unplaced, tags_of}
use Rattle.promise_standard_encodings.proofs.EncodedMapsLaws.{tags-here, tags_distinct, decimal_int, field_is, map-written}
use Rattle.promise_standard_encodings.specs.EncodedHeader.{under-held, others_of, others_formed, others_fewer, others-held, header-written}
use Rattle.promise_standard_encodings.specs.EncodedStandard.{Complete, Conformant}

-- "three digits"
sum_int : (n : ℕ) → n < 256 → Int (checksum_digits n) n
unfolding checksum_digits worth
sum_int n h =
    digits_int (checksum_digits n) n (omega arith)
    (digit_byte (n / 100) _ (omega arith) (digit_byte (n / 10 % 10) _ (omega arith) (last_digit (n % 10) (omega arith))))
    (omega arith)

-- ===== tags =====

-- tags of one part are none of another
of_others : {P Q : ℕ → Type 0} {xs ys : List ℕ} → ((t : ℕ) → P t → Q t → ⊥) → All P xs → All Q ys → All (λ x. All (λ y. y ≢ x) ys) xs
of_others {Q = Q} differ a b = all_map (λ x p. all_map (λ y q e. differ x p (subst Q e q)) b) a

held_more : (t : ℕ) (v : List ℕ) (rest : Map) (u : ℕ) → holds u rest ≡ true → holds u (field t v rest) ≡ true
unfolding holds
held_more t v rest u h = rw h (pick_same (eqb t u) true)

held-behind : (s d : ℕ) (own rest : Map) (u : ℕ) → holds u rest ≡ true → holds u (entry s d own rest) ≡ true
unfolding holds
held-behind s d own rest u h = h

held-here : (m : Map) → All (λ t. holds t m ≡ true) (tags_of m)
unfolding tags_of
held-here end = All.none
held-here (field t v rest) = All.also {x = t} (unfold holds in rw (eq-eqb t t refl)) (all_map (held_more t v rest) (held-here rest))
held-here (entry s d own rest) = all_map (held-behind s d own rest) (held-here rest)

unplaced_tags : (m : Map) → ((tag : ℕ) → one_of placed tag ≡ true → holds tag m ≡ false) → All Unplaced (tags_of m)
unplaced_tags m h = all_map (λ t held. not_so (one_of placed t) (λ p. never (sym held ∙ h t p))) (held-here m)

module _ {T : Tables} {IsValue : List ℕ → Type 0} (m : Message) (whole : Complete m) (c : Conformant T IsValue m) where
  abbrev others : Map
  others = others_of m.header

  abbrev last : Map
  last = without_field 10 m.trailer

  abbrev tags : List ℕ
  tags = tags_of others ++ (tags_of m.body ++ tags_of last)

  -- a header tag is no body tag, a body tag no trailer tag, and no tag stands in header and trailer
  tags_once : Distinct tags
  tags_once =
      let of_header = tags-here c.header in
      let of_body = tags-here c.body in
      let of_trailer = tags-here c.trailer in
      let differ : All (λ x. All (λ y. y ≢ x) (tags_of last)) (tags_of others) = of_others (λ t h k. never (sym k ∙ c.header-trailer t h)) (held-here others) (held-here last) in
      distinct_append (tags_of others) (tags_of m.body ++ tags_of last) (tags_distinct others (others_formed m.header whole.formed.header))
      (distinct_append (tags_of m.body) (tags_of last) (tags_distinct m.body whole.formed.body) (tags_distinct last (formed_without 10 m.trailer whole.formed.trailer))
      (of_others (λ t b k. b.no_trailer k) of_body of_trailer))
      (both-append (tags_of m.body) (tags_of last) (of_others (λ t h b. b.no_header h) of_header of_body) differ)
    where
      both-append : (ys zs : List ℕ) {xs : List ℕ} → All (λ x. All (λ y. y ≢ x) ys) xs → All (λ x. All (λ y. y ≢ x) zs) xs → All (λ x. All (λ y. y ≢ x) (ys ++ zs)) xs
      both-append ys zs All.none All.none = All.none
      both-append ys zs (All.also p a) (All.also q b) = All.also (numbers_append ys zs p q) (both-append ys zs a b)

  header_unplaced : (tag : ℕ) → one_of placed tag ≡ true → holds tag others ≡ false
  header_unplaced tag p = by_tests (eqb tag 8) (eqb tag 9) (eqb tag 35) (eqb tag 10) refl refl refl refl p
    where
      at : (t : ℕ) → eqb tag t ≡ true → holds t others ≡ false → holds tag others ≡ false
      at t e h = ap (λ (u : ℕ). holds u others) (eqb-true tag t e) ∙ h

      held : (holds 8 others ≡ false) × (holds 9 others ≡ false) × (holds 35 others ≡ false)
      held = others-held m.header whole.formed.header

      by_tests : (a b g d : Bool) → eqb tag 8 ≡ a → eqb tag 9 ≡ b → eqb tag 35 ≡ g → eqb tag 10 ≡ d → pick a true (pick b true (pick g true (pick d true false))) ≡ true → holds tag others ≡ false
      by_tests true b g d x y z w p = at 8 x held.0
      by_tests false true g d x y z w p = at 9 y held.1
      by_tests false false true d x y z w p = at 35 z held.2
      by_tests false false false true x y z w p = at 10 w (others_fewer m.header 10 c.check-sum_in_header)
      by_tests false false false false x y z w p = never (sym p)

  all_once : Once tags
  all_once =
      once_of tags_once
      (numbers_append (tags_of others) (tags_of m.body ++ tags_of last) (unplaced_tags others header_unplaced)
      (numbers_append (tags_of m.body) (tags_of last) (unplaced_tags m.body c.placed_in_body) (unplaced_tags last c.placed_in_trailer)))

-- ===== bytes =====

module _ {T : Tables} (m : Message) (whole : Complete m) (c : Conformant T Value m) where
  abbrev begin : List ℕ
  begin = (field_split 8 m.header whole.begin_string).value

  abbrev type : List ℕ
  type = (field_split 35 m.header whole.msg_type).value

  abbrev size : List ℕ
  size = decimal (body_length (dropped m))

  abbrev first : List ℕ
  first = field_bytes 1 (decimal 8) begin

  abbrev second : List ℕ
  second = field_bytes 1 (decimal 9) size

  abbrev counted-bytes : List ℕ
  counted-bytes = field_bytes 1 (decimal 35) type ++ (text 1 (others_of m.header) ++ (text 1 m.body ++ text 1 (without_field 10 m.trailer)))

  text_is : message_text 1 (measured (dropped m)) ≡ first ++ (second ++ counted-bytes)
  unfolding message_text measured dropped
  text_is =
      let seen = (field_split 8 m.header whole.begin_string).seen in
      let seen-type = (field_split 35 m.header whole.msg_type).seen in
      rw (header-written m.header whole.formed.header c.begin_string-alone c.body_length-alone c.msg_type-alone 1 begin size type seen seen-type)
      (simp append_assoc)

  abbrev sum : List ℕ
  sum = sum_digits (first ++ (second ++ counted-bytes))

  abbrev last-bytes : List ℕ
  last-bytes = field_bytes 1 (decimal 10) sum

  encoding_is : encoding 1 m ≡ first ++ (second ++ (counted-bytes ++ last-bytes))
  unfolding encoding summed decimal decimal_within
  encoding_is = rw text_is (simp append_assoc)

  -- BodyLength counts what it should
  counted-length : body_length (dropped m) ≡ length counted-bytes
  counted-length =
      let held = (under-held 1 8 begin m.header whole.formed.header c.begin_string-alone (field_split 8 m.header whole.begin_string).seen).1 in
      let nine : length (decimal 9) ≡ 1 = unfold decimal decimal_within in refl in
      let ten : length (decimal 10) ≡ 2 = unfold decimal decimal_within in refl in
      let three : length sum ≡ 3 = unfold sum_digits checksum_digits in refl in
      omega (
        arith,
        encoding_length 1 m,
        ap length encoding_is,
        length-append first (second ++ (counted-bytes ++ last-bytes)),
        length-append second (counted-bytes ++ last-bytes),
        length-append counted-bytes last-bytes,
        bytes-size 1 (decimal 8) begin,
        bytes-size 1 (decimal 9) size,
        bytes-size 1 (decimal 10) sum,
        held,
        nine,
        ten,
        three,
      )

  sum_is_lem : Int sum (total (first ++ (second ++ counted-bytes)) % 256)
  unfolding sum_digits
  sum_is_lem = rw (← (sum_same (first ++ (second ++ counted-bytes)))) (sum_int (sum_of (first ++ (second ++ counted-bytes)) % 256) (omega arith))

  three_digits_lem : length sum ≡ 3
  unfolding sum_digits checksum_digits
  three_digits_lem = refl

  -- "so is an encoding with separator 0x01 under the same conditions, no value holding 0x01 and no run on the header's 8 or 9"
  pub encoding_standard : standard.Message T (encoding 1 m)
  encoding_standard =
      let f = whole.formed in
      let o = map-written (others_of m.header) c.header (others_formed m.header f.header) in
      let b = map-written m.body c.body f.body in
      let t = map-written (without_field 10 m.trailer) c.trailer (formed_without 10 m.trailer f.trailer) in
      let begin_value : Value begin = c.begin_string begin (field_split 8 m.header whole.begin_string).seen in
      let type_value : Value type = c.msg_type type (field_split 35 m.header whole.msg_type).seen in
      let behind = fields-append b.all t.all _ _ b.text_is t.text_is in
      record {
        begin_string = begin;
        body_length = size;
        msg_type = type;
        header = o.all;
        body = b.all;
        trailer = t.all;
        check-sum = sum;
        first = first;
        second = second;
        counted = counted-bytes;
        last = last-bytes;
        header_tags = tags_of (others_of m.header);
        body-tags = tags_of m.body;
        trailer_tags = tags_of (without_field 10 m.trailer);
        whole = encoding_is;
        first_is = field_is 8 begin (λ e. omega arith) begin_value;
        second_is = field_is 9 size (λ e. omega arith) (int_value size _ (decimal_int (body_length (dropped m))));
        counted_is = standard.Fields.plain (field_is 35 type (λ e. omega arith) type_value) c.msg_type_no_data (fields-append o.all (b.all ++ t.all) _ _ o.text_is behind);
        last_is = field_is 10 sum (λ e. omega arith) (int_value sum _ sum_is_lem);
        length_is_lem = rw (← counted-length) (decimal_int (body_length (dropped m)));
        sum_is_lem = sum_is_lem;
        three_digits_lem = three_digits_lem;
        header_is = o.members_are;
        body_is = b.members_are;
        trailer_is = t.members_are;
        no_tag-twice = all_once m whole c;
        outside_groups = c.outside_groups;
      }
