-- A sound message with a plain BodyLength and a CheckSum of three digits is its own encoding: the BodyLength's digits are those of what
-- it counts, and the last seven bytes those of the sum.
use Rattle.std.specs.Prelude.{◌≡◌, true, List, [], ◌∷◌, ◌++◌, ℕ, ◌-◌, ◌≤◌, length, take, drop}
use Rattle.std.proofs.Common.{sym, ap, ◌∙◌, append_assoc, arith, length-append, length-drop, take_at, Ok}
use Rattle.field_rules.specs.declared.Mode.{Mode}
use Rattle.field_rules.specs.Decimal.{decimal}
use Rattle.field_rules.specs.Field.{start_at, field_at, field_bytes, value_of}
use Rattle.field_rules.specs.Fields.{fields_from}
use Rattle.field_rules.specs.declared.Cursor.{Cursor}
use Rattle.field_rules.specs.declared.Field.{Field}
use Rattle.build_integrity_rules.specs.Integrity.{integrity_of}
use Rattle.build_integrity_rules.proofs.VerifiedLaws.{verified-read}
use Rattle.build_integrity_rules.specs.declared.Verified.{Verified}
use Rattle.encode_rules.specs.Encoding.{summed, sum_digits}
use Rattle.build_order_laws.specs.VerifiedTags.{verified-checked}
use Rattle.encode_rewriting_laws.specs.Plain.{plain_length, three_digits}
use Rattle.encode_rewriting_laws.proofs.PlainSound.{right_length, plain_second, plain_value}
use Rattle.encode_rewriting_laws.proofs.PlainSum.{last_seven}
use Rattle.field_rules.proofs.SpelledLaws.{value_ends}
use Rattle.encode_rewriting_laws.specs.ReadSound.{tagged, placed, placed-read, placed-next}

-- the last seven bytes are those of the sum: so all is the text that is summed
seven_summed : (mode : Mode) (message begin n m counted : List ℕ) (place : ℕ)
    → message ≡ (begin ++ (tagged mode.separator 9 n ++ counted)) ++ drop place message
    → length (begin ++ (tagged mode.separator 9 n ++ counted)) ≡ place → n ≡ m
    → drop place message ≡ 49 ∷ 48 ∷ 61 ∷ (sum_digits (take place message) ++ (mode.separator ∷ []))
    → message ≡ summed mode.separator (begin ++ (tagged mode.separator 9 m ++ counted))
unfolding summed
seven_summed mode message begin n m counted place whole size same seven =
    let front : take place message ≡ begin ++ (tagged mode.separator 9 n ++ counted) =
    ap (λ (l : List ℕ). take place l) whole ∙ take_at (begin ++ (tagged mode.separator 9 n ++ counted)) (drop place message) place size in
    whole ∙ ap (λ (l : List ℕ). (begin ++ (tagged mode.separator 9 n ++ counted)) ++ l)
    (seven ∙ ap (λ (l : List ℕ). 49 ∷ 48 ∷ 61 ∷ (sum_digits l ++ (mode.separator ∷ []))) front)
    ∙ ap (λ (l : List ℕ). summed mode.separator (begin ++ (tagged mode.separator 9 l ++ counted))) same

-- a message that starts with the texts of 8 and 9 that were read
module _ (mode : Mode) (message : List ℕ) (v : Verified) (sound : integrity_of mode message ≡ Ok v) (counted : List ℕ)
    (whole : message ≡ tagged mode.separator 8 (value_of message v.begin_string)
    ++ (tagged mode.separator 9 (value_of message v.body_length) ++ (counted ++ drop (length message - 7) message))) where
  begins-next : v.begin_string.next ≡ start_at (length (tagged mode.separator 8 (value_of message v.begin_string)))
  begins-next =
      let r = verified-read mode message v sound in
      let b = value_of message v.begin_string in
      let read = placed-read mode 8 message [] b _ whole (omega arith) (omega arith) (value_ends mode message _ _ r.begins) in
      let same : Ok v.begin_string ≡ Ok (placed 0 8 b) = sym r.begins ∙ read in
      let is : v.begin_string ≡ placed 0 8 b = cc in
      ap (λ (f : Field). f.next) is ∙ placed-next mode.separator 8 [] b

  counts-at : v.body_length.next.at ≡ length (tagged mode.separator 8 (value_of message v.begin_string)
      ++ tagged mode.separator 9 (value_of message v.body_length))
  counts-at =
      let r = verified-read mode message v sound in
      let b = tagged mode.separator 8 (value_of message v.begin_string) in
      let n = value_of message v.body_length in
      let read = placed-read mode 9 message b n _ whole (omega arith) (omega arith) (value_ends mode message _ _ r.counts) in
      let there : field_at mode message (start_at (length b)) ≡ Ok v.body_length =
      ap (λ (c : Cursor). field_at mode message c) (sym begins-next) ∙ r.counts in
      let same : Ok v.body_length ≡ Ok (placed (length b) 9 n) = sym there ∙ read in
      let is : v.body_length ≡ placed (length b) 9 n = cc in
      ap (λ (f : Field). f.next.at) is ∙ ap (λ (c : Cursor). c.at) (placed-next mode.separator 9 b n)

  -- the BodyLength is the number of bytes between it and the CheckSum
  module _ (plain : plain_length message (fields_from mode message (start_at 0)) ≡ true) where
    length_long : 7 ≤ length message
    length_long = omega (arith, (right_length message v.body_length (verified-checked mode message v sound).length_right).right)

    front-size : length (tagged mode.separator 8 (value_of message v.begin_string)
        ++ (tagged mode.separator 9 (value_of message v.body_length) ++ counted)) ≡ length message - 7
    front-size =
        let b = tagged mode.separator 8 (value_of message v.begin_string) in
        let n = tagged mode.separator 9 (value_of message v.body_length) in
        omega (
          arith,
          length_long,
          ap length whole,
          length-append b (n ++ (counted ++ drop (length message - 7) message)),
          length-append n (counted ++ drop (length message - 7) message),
          length-append counted (drop (length message - 7) message),
          length-drop (length message - 7) message,
          length-append b (n ++ counted),
          length-append n counted,
        )

    length_value : value_of message v.body_length ≡ decimal (length counted)
    length_value =
        let b = tagged mode.separator 8 (value_of message v.begin_string) in
        let n = tagged mode.separator 9 (value_of message v.body_length) in
        let right = right_length message v.body_length (verified-checked mode message v sound).length_right in
        let r = verified-read mode message v sound in
        let size : right.number ≡ length counted =
        omega (arith, length_long, right.right, counts-at, front-size, length-append b (n ++ counted), length-append n counted, length-append b n) in
        plain_value mode message v.begin_string.next v.body_length r.counts right.number right.reads
        (plain_second mode message v sound plain) ∙ ap decimal size

    clean_text : three_digits message v.checksum ≡ true
        → message ≡ summed mode.separator (tagged mode.separator 8 (value_of message v.begin_string)
        ++ (tagged mode.separator 9 (decimal (length counted)) ++ counted))
    clean_text three =
        let checked = verified-checked mode message v sound in
        seven_summed mode message (tagged mode.separator 8 (value_of message v.begin_string)) (value_of message v.body_length)
        (decimal (length counted)) counted (length message - 7) (whole ∙ simp append_assoc) front-size length_value
        (last_seven mode message v.checksum length_long (verified-read mode message v sound).sums checked.tags.sums checked.sum_right three)

-- a message that starts with the texts of 8 and 9, and has `counted` between them and the CheckSum, is what its encoding comes to
pub clean_rewritten : (mode : Mode) (message : List ℕ) (v : Verified) → integrity_of mode message ≡ Ok v → (counted : List ℕ)
    → message ≡ field_bytes mode.separator (decimal 8) (value_of message v.begin_string)
    ++ (field_bytes mode.separator (decimal 9) (value_of message v.body_length) ++ (counted ++ drop (length message - 7) message))
    → plain_length message (fields_from mode message (start_at 0)) ≡ true → three_digits message v.checksum ≡ true
    → message ≡ summed mode.separator (field_bytes mode.separator (decimal 8) (value_of message v.begin_string)
    ++ (field_bytes mode.separator (decimal 9) (decimal (length counted)) ++ counted))
unfolding tagged
clean_rewritten mode message v sound counted whole plain three = clean_text mode message v sound counted whole plain three
