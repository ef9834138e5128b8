-- A built message is never incomplete and has no field too many: 8, 9, 35 and 10 are held, every run stands behind its count, and its
-- fields are its records. So its encoding is written unless it is too long.
use Rattle.std.specs.Prelude.{◌≡◌, refl, true, false, List, ◌∷◌, ◌++◌, ℕ, ◌+◌, ◌≤◌, ◌<◌, length, drop}
use Rattle.std.proofs.Common.{ap, ◌∙◌}
use native.Mathlib.Omega.{arith}
use Rattle.std.proofs.Math.ListN.{length-append}
use Rattle.build_records.specs.declared.Record.{Record}
use Rattle.message_maps.specs.Map.{Map, holds}
use Rattle.message_lent_rules.specs.Meaning.{Message, words_of, value_bytes_of}
use Rattle.message_lent_rules.proofs.FormedLaws.{layout_lends}
use Rattle.message_rules.specs.Changes.{field_total}
use Rattle.build_nesting_laws.specs.Formed.{Own}
use Rattle.build_nesting_laws.specs.Entries.{All}
use Rattle.message_read_laws.specs.ShapeLaws.{all_first, all_rest}
use Rattle.message_take_over.specs.Derived.{Stands, no_more as stands-none, own as stands-own, in_entry as stands-entry}
use Rattle.encode_rules.specs.Encoding.{dropped, encoded_message}
use Rattle.field_rules.specs.Separator.{is_refused_separator}
use Rattle.encode_rules.specs.Encode.{has_uncounted, is_incomplete, left, encoded, encoding_of}
use Rattle.encoder.specs.SizeLaws.{encoded-fields}
use Rattle.encoder.specs.CountLaws.{gone_once, dropped-uncounted}
use Rattle.encoder.specs.FoundLaws.{hangs}
use Rattle.encoder.specs.VerdictLaws.{refused_long, found_fit, encodes, refuses}
use Rattle.encode_rules.specs.declared.Encoding.TheVariants.{Written, TooLong}
use Rattle.encode_rewriting_laws.specs.Written.{rewritten}
use Rattle.encode_rewriting_laws.proofs.EncodedText.{stands-count, stands-counted}
use Rattle.encode_rewriting_laws.proofs.EncodedBuilt.{Built, built_maps, encoding-rewritten}

pub no_run : {bytes : List ℕ} {part start entries : ℕ} {map : Map} {rs : List Record} (tag : ℕ) → Stands bytes part 0 0 start entries map rs → All (Own 0 0) rs → hangs tag map ≡ false
unfolding hangs
no_run tag stands-none a = refl
no_run tag (stands-own r o more) a = no_run tag more (all_rest a)
no_run tag (stands-entry r o inner more) a = absurd (omega (arith, o.deep, (all_first a).deep))

module _ {bytes : List ℕ} {m : Message} {begin size type : Record} {others of_body : List Record} {check : Record} {of_trailer : List Record} (built : Built bytes m begin size type others of_body check of_trailer) where
  -- "a header without 8 or 35"
  holds-begin_string : holds 8 m.header ≡ true
  holds-begin_string = ap (holds 8) (built_maps built).header_is ∙ (unfold holds in refl)

  holds-body_length : holds 9 m.header ≡ true
  holds-body_length = ap (holds 9) (built_maps built).header_is ∙ (unfold holds in refl)

  holds_msg_type : holds 35 m.header ≡ true
  holds_msg_type = ap (holds 35) (built_maps built).header_is ∙ (unfold holds in refl)

  holds_checksum : holds 10 m.trailer ≡ true
  holds_checksum = ap (holds 10) (built_maps built).trailer_is ∙ (unfold holds in refl)

  -- "a run without its count field"
  all-counted : has_uncounted m ≡ false
  unfolding has_uncounted
  all-counted =
      let f = built.within.formed in
      rw (stands-counted built.header f.header, stands-counted built.body f.body) (stands-counted built.trailer f.trailer)

  pub built-complete : is_incomplete (dropped m) ≡ false
  unfolding is_incomplete dropped
  built-complete =
      rw (holds-begin_string, holds_msg_type)
      (dropped-uncounted m built.within.formed.trailer ∙ rw (no_run 10 built.trailer built.trailer-own, all-counted))

  -- the new 9 and 10 stand for the old
  encoded-same : (separator : ℕ) → field_total (encoded_message separator m) ≡ field_total m
  encoded-same separator =
      let e = rw (holds-body_length, holds_checksum) at (encoded-fields separator m (gone_once 10 m.trailer built.within.formed.trailer)) in
      omega (arith, e)

  -- so the encoded message has a field to each record
  pub encoded-total : (separator : ℕ) → field_total (encoded_message separator m) ≡ length ((begin ∷ size ∷ type ∷ others) ++ (of_body ++ (check ∷ of_trailer)))
  unfolding field_total
  encoded-total separator =
      omega (
        arith,
        encoded-same separator,
        stands-count built.header,
        stands-count built.body,
        stands-count built.trailer,
        length-append (begin ∷ size ∷ type ∷ others) (of_body ++ (check ∷ of_trailer)),
        length-append of_body (check ∷ of_trailer),
      )

  pub encoded-few : (separator : ℕ) → field_total (encoded_message separator m) ≤ 1024
  unfolding field_total
  encoded-few separator = omega (arith, encoded-same separator, built.within.few)

  -- "Encode: 22, 43, 20, 21, 23": of a built message nothing but its length and the output's is left to judge
  module _ (separator : ℕ) (separates : is_refused_separator separator ≡ false) (output : List ℕ) where
    abbrev pub rewriting : List ℕ
    rewriting = rewritten separator bytes begin (type ∷ (others ++ (of_body ++ of_trailer)))

    pub encoding-written : length rewriting ≤ 8192 → length rewriting ≤ length output
        → encoding_of separator (words_of m) (value_bytes_of m) output ≡ left (Written (length rewriting)) (words_of (encoded_message separator m)) (value_bytes_of (encoded_message separator m)) (rewriting ++ drop (length rewriting) output)
    encoding-written short fits =
        let l = layout_lends m built.within in
        let same = encoding-rewritten separator built in
        let verdict = found_fit (words_of m) (value_bytes_of m) l.is_message separator (length output) separates (rw l.meant built-complete) (rw (l.meant, same) short) (rw l.meant (encoded-few separator)) (rw (l.meant, same) fits) in
        encodes separator (words_of m) (value_bytes_of m) output _ verdict ∙ ap (λ (n : Message). encoded separator n output) l.meant ∙ (unfold encoded in rw same)

    pub encoding_too_long : 8192 < length rewriting → encoding_of separator (words_of m) (value_bytes_of m) output ≡ left TooLong (words_of m) (value_bytes_of m) output
    encoding_too_long long =
        let l = layout_lends m built.within in
        let same = encoding-rewritten separator built in
        refuses separator (words_of m) (value_bytes_of m) output TooLong (refused_long (words_of m) (value_bytes_of m) l.is_message separator (length output) separates (rw l.meant built-complete) (rw (l.meant, same) long))
