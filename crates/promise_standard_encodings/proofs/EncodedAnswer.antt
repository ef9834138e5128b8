-- The same of the call: where encode answers 0 with separator 0x01, and what it was lent conforms, the bytes that it wrote are a message of the
-- standard. That the message is formed and has its 8 and 35 is what encode found itself.
use Rattle.std.proofs.Math.Path.{◌≡◌, refl, sym}
use Rattle.std.proofs.Common.{◌∙◌, arith, take_at, Result, Ok, Err}
use Rattle.std.specs.Prelude.{Bool, List, ◌++◌, ℕ, length, take, drop}
use Rattle.std.proofs.Math.Bool.{true, false}
use Rattle.field_rules.specs.Choice.{pick}
use Rattle.field_rules.specs.Number.{is_digit}
use Rattle.standard_rules.specs.Standard as standard
use Rattle.standard_rules.specs.Standard.{Tables, Value}
use Rattle.message_maps.specs.Map.{holds}
use Rattle.message_lent_rules.specs.Meaning.{Message, message_in}
use Rattle.message_lent_rules.proofs.FormedLaws.{lent_formed}
use Rattle.message_lent_rules.specs.StandLaws.{never, not_so}
use Rattle.encode_rules.specs.Encoding.{dropped, encoding}
use Rattle.field_rules.specs.Separator.{is_refused_separator}
use Rattle.encode_rules.specs.Encode.{has_uncounted, is_incomplete, encode_verdict, left, encoded, encoding_of}
use Rattle.encoder.specs.EncodedLaws.{never_written, encode_lends}
use Rattle.encoder.specs.VerdictLaws.{refused_incomplete, encodes, refuses}
use Rattle.encode_rules.specs.declared.Encoding.TheVariants.{Written, Incomplete}
use Rattle.promise_standard_encodings.specs.EncodedStandard.{Complete, Conformant}
use Rattle.promise_standard_encodings.proofs.EncodedStandardLaws.{encoding_standard}
use Rattle.encode_rules.specs.declared.Encoding.{Encoding}

-- "a header without 8 or 35" is incomplete
holds-both : (m : Message) → is_incomplete (dropped m) ≡ false → (holds 8 m.header ≡ true) × (holds 35 m.header ≡ true)
unfolding is_incomplete dropped
holds-both m e = by_tests (holds 8 m.header) (holds 35 m.header) (has_uncounted (dropped m)) (unfold dropped in e)
  where
    by_tests : (a b c : Bool) → pick a (pick b c true) true ≡ false → (a ≡ true) × (b ≡ true)
    by_tests true true c e = (refl, refl)
    by_tests true false c e = never e
    by_tests false b c e = never e

output_is : (m : Message) (output : List ℕ) (n : ℕ) (w v o : List ℕ) → encoded 1 m output ≡ left (Written n) w v o → (length (encoding 1 m) ≡ n) × (encoding 1 m ++ drop (length (encoding 1 m)) output ≡ o)
unfolding encoded
output_is m output n w v o e = (cc, cc)

module _ (words values output : List ℕ) (n : ℕ) (w v o : List ℕ) (answered : encoding_of 1 words values output ≡ left (Written n) w v o) where
  -- what was written is the encoding
  bytes-written : take n o ≡ encoding 1 (message_in words values)
  bytes-written = by_verdict (encode_verdict 1 words values (length output)) refl
    where
      by_verdict : (d : Result ℕ Encoding) → encode_verdict 1 words values (length output) ≡ d → take n o ≡ encoding 1 (message_in words values)
      by_verdict (Ok body) d =
          let same : encoded 1 (message_in words values) output ≡ left (Written n) w v o = sym (encodes 1 words values output body d) ∙ answered in
          let left_is = output_is (message_in words values) output n w v o same in
          rw (← left_is.1) (take_at (encoding 1 (message_in words values)) (drop (length (encoding 1 (message_in words values))) output) n left_is.0)
      by_verdict (Err refusal) d =
          let same = sym (refuses 1 words values output refusal d) ∙ answered in
          let is-written : Err refusal ≡ Err (Written n) = cc in
          absurd (never_written 1 words values (length output) n (d ∙ is-written))

  complete : Complete (message_in words values)
  unfolding is_refused_separator is_digit
  complete =
      let lent = (encode_lends 1 words values output n w v o answered).0 in
      let whole : is_incomplete (dropped (message_in words values)) ≡ false =
      not_so (is_incomplete (dropped (message_in words values)))
      (λ i.
      let same = sym (refuses 1 words values output Incomplete (refused_incomplete words values lent 1 (length output) refl i)) ∙ answered in
      let z : ◌≡◌ {A = ℕ} 0 1 = cc in
      omega arith) in
      let both = holds-both (message_in words values) whole in
      record { formed = (lent_formed words values lent).formed; begin_string = both.0; msg_type = both.1 }

  -- THE STANDARD, encodings
  pub encode_standard : {T : Tables} → Conformant T Value (message_in words values) → standard.Message T (take n o)
  encode_standard c = rw bytes-written (encoding_standard (message_in words values) complete c)
