-- What encode leaves where it answers 0 is a message again, and holds the new 9 and 10.
use Rattle.std.specs.Prelude.{◌≡◌, refl, Bool, true, false, List, ℕ, length, ltb, Result, Ok, Err}
use Rattle.std.proofs.Common.{sym, ◌∙◌, arith}
use Rattle.field_rules.specs.Choice.{pick}
use Rattle.field_rules.specs.Separator.{is_refused_separator}
use Rattle.message_lent_rules.specs.Lent.{is_message}
use Rattle.message_lent_rules.specs.Meaning.{Message, words_of, value_bytes_of, message_in}
use Rattle.message_lent_rules.specs.Formed.{Formed, Within}
use Rattle.message_lent_rules.proofs.FormedLaws.{lent_formed, Lends, IsLayout, is_layout_lends}
use Rattle.message_lent_rules.specs.StoredLaws.{formed_stored, formed_without}
use Rattle.message_rules.specs.Changes.{field_total, value_total}
use Rattle.encode_rules.specs.Encoding.{dropped, body_length, measured, encoding, encoded_message}
use Rattle.encode_rules.specs.Encode.{is_incomplete, judging, encode_verdict, left, encoded, encoding_of}
use Rattle.encoder.specs.Leaving.{Encodable}
use Rattle.encoder.specs.SizeLaws.{encoded-values}
use Rattle.encoder.specs.VerdictLaws.{fit_to-encode, encodes, refuses}
use Rattle.encode_rules.specs.declared.Encoding.TheVariants.{Written, NoMessage, InvalidSeparator, Incomplete, TooLong, TooManyFields, NoRoom}
use Rattle.encode_rules.specs.declared.Encoding.{Encoding}

encoded_formed : (separator : ℕ) (m : Message) → Formed m → Formed (encoded_message separator m)
unfolding encoded_message measured dropped
encoded_formed separator m f =
    record {
      header = formed_stored 9 _ m.header (λ e. omega arith) f.header;
      body = f.body;
      trailer = formed_stored 10 _ _ (λ e. omega arith) (formed_without 10 m.trailer f.trailer);
    }

fit_within : (separator : ℕ) (words values output : List ℕ) (body : ℕ) → Encodable separator words values output body
    → Within (encoded_message separator (message_in words values))
fit_within separator words values output body fit =
    let m = message_in words values in
    record {
      formed = encoded_formed separator m (lent_formed words values fit.message).formed;
      small = unfold value_total in omega (arith, encoded-values separator m, fit.short);
      few = unfold field_total in fit.few;
    }

-- no refusal says 0
pub never_written : (separator : ℕ) (words values : List ℕ) (room n : ℕ) → encode_verdict separator words values room ≡ Err (Written n) → ⊥
unfolding encode_verdict judging
never_written separator words values room n verdict =
    let m = message_in words values in
    by_tests (is_message words values) (is_refused_separator separator) (is_incomplete (dropped m)) (ltb 8192 (length (encoding separator m)))
    (ltb 1024 (field_total (encoded_message separator m))) (ltb room (length (encoding separator m))) verdict
  where
    by_tests : (a b c d e f : Bool)
        → pick a (pick b (Err InvalidSeparator)
        (pick c (Err Incomplete) (pick d (Err TooLong)
        (pick e (Err TooManyFields) (pick f (Err NoRoom) (Ok (body_length (dropped (message_in words values))))))))) (Err NoMessage)
        ≡ Err (Written n)
        → ⊥
    by_tests false b c d e f v = let z : ◌≡◌ {A = ℕ} 0 1 = cc in omega arith
    by_tests true true c d e f v = let z : ◌≡◌ {A = ℕ} 0 1 = cc in omega arith
    by_tests true false true d e f v = let z : ◌≡◌ {A = ℕ} 0 1 = cc in omega arith
    by_tests true false false true e f v = let z : ◌≡◌ {A = ℕ} 0 1 = cc in omega arith
    by_tests true false false false true f v = let z : ◌≡◌ {A = ℕ} 0 1 = cc in omega arith
    by_tests true false false false false true v = let z : ◌≡◌ {A = ℕ} 0 1 = cc in omega arith
    by_tests true false false false false false v = let z : ◌≡◌ {A = ℕ} 0 1 = cc in omega arith

-- nor 27, where a message is lent
pub never_none : (separator : ℕ) (words values : List ℕ) (room : ℕ) → is_message words values ≡ true
    → encode_verdict separator words values room ≡ Err NoMessage → ⊥
unfolding encode_verdict judging
never_none separator words values room lent verdict =
    let m = message_in words values in
    by_tests (is_refused_separator separator) (is_incomplete (dropped m)) (ltb 8192 (length (encoding separator m)))
    (ltb 1024 (field_total (encoded_message separator m))) (ltb room (length (encoding separator m))) (rw lent at verdict)
  where
    by_tests : (b c d e f : Bool)
        → pick b (Err InvalidSeparator) (pick c (Err Incomplete)
        (pick d (Err TooLong) (pick e (Err TooManyFields) (pick f (Err NoRoom) (Ok (body_length (dropped (message_in words values))))))))
        ≡ Err NoMessage
        → ⊥
    by_tests true c d e f v = let z : ◌≡◌ {A = ℕ} 0 1 = cc in omega arith
    by_tests false true d e f v = let z : ◌≡◌ {A = ℕ} 0 1 = cc in omega arith
    by_tests false false true e f v = let z : ◌≡◌ {A = ℕ} 0 1 = cc in omega arith
    by_tests false false false true f v = let z : ◌≡◌ {A = ℕ} 0 1 = cc in omega arith
    by_tests false false false false true v = let z : ◌≡◌ {A = ℕ} 0 1 = cc in omega arith
    by_tests false false false false false v = let z : ◌≡◌ {A = ℕ} 0 1 = cc in omega arith

left_is : (separator : ℕ) (m : Message) (output : List ℕ) (n : ℕ) (w v o : List ℕ) → encoded separator m output ≡ left (Written n) w v o
    → (words_of (encoded_message separator m) ≡ w) × (value_bytes_of (encoded_message separator m) ≡ v)
unfolding encoded
left_is separator m output n w v o e = (cc, cc)

-- the layout of the message that encoding leaves, with zeros behind it
pub encode_layout : (separator : ℕ) (words values output : List ℕ) (n : ℕ) (w v o : List ℕ)
    → encoding_of separator words values output ≡ left (Written n) w v o
    → (is_message words values ≡ true) × IsLayout (encoded_message separator (message_in words values)) w v
encode_layout separator words values output n w v o e = by_verdict (encode_verdict separator words values (length output)) refl
  where
    by_verdict : (d : Result ℕ Encoding) → encode_verdict separator words values (length output) ≡ d
        → (is_message words values ≡ true) × IsLayout (encoded_message separator (message_in words values)) w v
    by_verdict (Ok body) d =
        let fit = fit_to-encode separator words values output body d in
        let same = left_is separator (message_in words values) output n w v o (sym (encodes separator words values output body d) ∙ e) in
        (fit.message, record { within = fit_within separator words values output body fit; words_are = sym same.0; values_are = sym same.1 })
    by_verdict (Err refusal) d =
        let same = sym (refuses separator words values output refusal d) ∙ e in
        let is-written : Err refusal ≡ Err (Written n) = cc in
        absurd (never_written separator words values (length output) n (d ∙ is-written))

pub encode_lends : (separator : ℕ) (words values output : List ℕ) (n : ℕ) (w v o : List ℕ) → encoding_of separator words values output ≡ left (Written n) w v o
    → (is_message words values ≡ true) × Lends w v (encoded_message separator (message_in words values))
encode_lends separator words values output n w v o e = let l = encode_layout separator words values output n w v o e in (l.0, is_layout_lends _ w v l.1)
