-- A message that is lent is judged by its rows as it is by what it means, one law for each answer.
use Rattle.std.proofs.Math.Path.{◌≡◌, refl, ap}
use Rattle.std.proofs.Common.{◌∙◌, arith}
use Rattle.std.specs.Prelude.{Bool, ℕ, ◌+◌, ◌-◌, ◌≤◌, ◌<◌, Ok, Err}
use Rattle.std.proofs.Math.Bool.{true, false}
use mathlib.Core.List.{List, []}
use Rattle.std.proofs.Math.ListN.{length}
use Rattle.std.proofs.Math.Dec.{ltb}
use borrow.Author.Tests.{lt-ltb, le-ltb, ltb-false}
use Rattle.field_rules.specs.Choice.{pick}
use Rattle.field_rules.specs.Decimal.{decimal}
use Rattle.field_rules.specs.Separator.{is_refused_separator}
use Rattle.message_maps.specs.Rows.{rows_from}
use Rattle.message_lent_rules.specs.Lent.{rows_of, is_message}
use Rattle.message_lent_rules.specs.Meaning.{message_in}
use Rattle.message_lent_rules.proofs.FormedLaws.{lent_formed}
use Rattle.message_rules.specs.Changes.{part_of, field_total}
use Rattle.message_rules.specs.RowChanges.{span_of}
use Rattle.message_rules.specs.StoreLaws.{lent_in, heads-of, count_is, fields_now}
use Rattle.message_rules.specs.declared.Part.TheVariants.{Header, Trailer}
use Rattle.message_rules.specs.declared.Span.{Span}
use Rattle.encode_rules.specs.Encoding.{bytes_of, dropped, body_length, encoding, encoded_message}
use Rattle.message_lent_rules.specs.Standing.{uncounted}
use Rattle.encode_rows.specs.MessageLaws.{message-length, size_is}
use Rattle.encode_rules.specs.Encode.{has_uncounted, is_incomplete, judging, encode_verdict, left, encoded, after_verdict, encoding_of}
use Rattle.encoder.specs.Judging.{SpanWithin, size_at, incomplete_at, all_bytes, body_at, added_at, fields_at}
use Rattle.encoder.specs.Leaving.{Encodable}
use Rattle.encoder.specs.SizeLaws.{size_under, body_bytes, encoding_length, encoded-fields}
use Rattle.encoder.specs.FoundLaws.{span_within, held_is, hung_is, size-found}
use Rattle.encoder.specs.CountLaws.{uncounted_is, gone_once, dropped-uncounted}
use Rattle.encode_rules.specs.declared.Encoding.{Encoding}
use Rattle.encode_rules.specs.declared.Encoding.TheVariants.{NoMessage, InvalidSeparator, Incomplete, TooLong, TooManyFields, NoRoom}

module _ (words values : List ℕ) (lent : is_message words values ≡ true) where
  head_within : SpanWithin words (span_of Header (message_in words values))
  head_within = span_within words values Header (message_in words values) (lent_in words values Header lent)

  tail_within : SpanWithin words (span_of Trailer (message_in words values))
  tail_within = span_within words values Trailer (message_in words values) (lent_in words values Trailer lent)

  begin_is : size_at words (span_of Header (message_in words values)) 8 ≡ size_under 8 (message_in words values).header
  unfolding part_of
  begin_is = size-found words values Header (message_in words values) (lent_in words values Header lent) 8

  taken_is : size_at words (span_of Header (message_in words values)) 8 + size_at words (span_of Header (message_in words values)) 9
      + size_at words (span_of Trailer (message_in words values)) 10
      ≡ size_under 8 (message_in words values).header + size_under 9 (message_in words values).header + size_under 10 (message_in words values).trailer
  unfolding part_of
  taken_is =
      let m = message_in words values in
      let head = lent_in words values Header lent in
      rw (
        size-found words values Header m head 8,
        size-found words values Header m head 9,
        size-found words values Trailer m (lent_in words values Trailer lent) 10,
      )

  all_is : all_bytes words (span_of Header (message_in words values)) ≡ bytes_of (message_in words values).header
      + (bytes_of (message_in words values).body + bytes_of (message_in words values).trailer)
  unfolding all_bytes
  all_is = size_is words values lent 1 ∙ message-length 1 (message_in words values)

  taken-within : size_at words (span_of Header (message_in words values)) 8 + size_at words (span_of Header (message_in words values)) 9
      + size_at words (span_of Trailer (message_in words values)) 10
      ≤ all_bytes words (span_of Header (message_in words values))
  taken-within = omega (arith, taken_is, all_is, body_bytes (message_in words values))

  body_is : body_at words (span_of Header (message_in words values)) (span_of Trailer (message_in words values)) ≡ body_length (dropped (message_in words values))
  unfolding body_at
  body_is = rw (taken_is, all_is) (omega (arith, body_bytes (message_in words values)))

  fields_is : (separator : ℕ)
      → fields_at words (span_of Header (message_in words values)) (span_of Trailer (message_in words values))
      ≡ field_total (encoded_message separator (message_in words values))
  unfolding fields_at added_at part_of
  fields_is separator =
      let m = message_in words values in
      let head = lent_in words values Header lent in
      let once = gone_once 10 m.trailer (lent_formed words values lent).formed.trailer in
      rw (
        held_is words values Header m head 9,
        held_is words values Trailer m (lent_in words values Trailer lent) 10,
        fields_now words values Header m head,
        encoded-fields separator m once,
      )
      (omega arith)

  incomplete_is : incomplete_at words (span_of Header (message_in words values)) (span_of Trailer (message_in words values))
      ≡ is_incomplete (dropped (message_in words values))
  unfolding incomplete_at is_incomplete part_of rows_of
  incomplete_is =
      let m = message_in words values in
      let head = lent_in words values Header lent in
      let f = (lent_formed words values lent).formed in
      let rows : uncounted [] (rows_from ((span_of Header m).count - 0) 0 words) ≡ has_uncounted m =
      ap (λ (n : ℕ). uncounted [] (rows_from (n - 0) 0 words)) (count_is words values Header m head) ∙ ap (uncounted []) head.all ∙ uncounted_is m f in
      rw (
        held_is words values Header m head 8,
        held_is words values Header m head 35,
        hung_is words values Trailer m (lent_in words values Trailer lent) 10,
        rows,
        ← dropped-uncounted m f.trailer,
      )
      (unfold dropped in refl)

  -- the judgement in its order
  module _ (separator room : ℕ) where
    pub refused-separator : is_refused_separator separator ≡ true → encode_verdict separator words values room ≡ Err InvalidSeparator
    unfolding encode_verdict judging
    refused-separator s = rw (lent, s)

    module _ (separates : is_refused_separator separator ≡ false) where
      pub refused_incomplete : is_incomplete (dropped (message_in words values)) ≡ true → encode_verdict separator words values room ≡ Err Incomplete
      unfolding encode_verdict judging
      refused_incomplete i = rw (lent, separates, i)

      module _ (complete : is_incomplete (dropped (message_in words values)) ≡ false) where
        pub refused_long : 8192 < length (encoding separator (message_in words values)) → encode_verdict separator words values room ≡ Err TooLong
        unfolding encode_verdict judging
        refused_long l = rw (lent, separates, complete, lt-ltb 8192 _ l)

        module _ (short : length (encoding separator (message_in words values)) ≤ 8192) where
          pub refused-many : 1024 < field_total (encoded_message separator (message_in words values))
              → encode_verdict separator words values room ≡ Err TooManyFields
          unfolding encode_verdict judging
          refused-many f = rw (lent, separates, complete, le-ltb 8192 _ short, lt-ltb 1024 _ f)

          module _ (few : field_total (encoded_message separator (message_in words values)) ≤ 1024) where
            pub refused-room : room < length (encoding separator (message_in words values)) → encode_verdict separator words values room ≡ Err NoRoom
            unfolding encode_verdict judging
            refused-room r = rw (lent, separates, complete, le-ltb 8192 _ short, le-ltb 1024 _ few, lt-ltb room _ r)

            pub found_fit : length (encoding separator (message_in words values)) ≤ room
                → encode_verdict separator words values room ≡ Ok (body_length (dropped (message_in words values)))
            unfolding encode_verdict judging
            found_fit r = rw (lent, separates, complete, le-ltb 8192 _ short, le-ltb 1024 _ few, le-ltb room _ r)

pub refused-message : (separator : ℕ) (words values : List ℕ) (room : ℕ) → is_message words values ≡ false
    → encode_verdict separator words values room ≡ Err NoMessage
unfolding encode_verdict
refused-message separator words values room h = rw h

-- the header and the trailer of the message that is lent
pub record Parts (words values : List ℕ) (head tail : Span) : Type 0 where
  pub lent : is_message words values ≡ true
  pub head_is : head ≡ span_of Header (message_in words values)
  pub tail_is : tail ≡ span_of Trailer (message_in words values)

module _ (words values : List ℕ) (head tail : Span) (p : Parts words values head tail) where
  pub both-within : (SpanWithin words head) × (SpanWithin words tail)
  both-within = (rw p.head_is (head_within words values p.lent), rw p.tail_is (tail_within words values p.lent))

  pub loose_at : uncounted [] (rows_of words) ≡ uncounted [] (rows_from (head.count - 0) 0 words)
  unfolding rows_of span_of
  loose_at = rw p.head_is (ap (λ (n : ℕ). uncounted [] (rows_from (n - 0) 0 words)) (heads-of words values p.lent).count)

  pub taken_fits : size_at words head 8 + size_at words head 9 + size_at words tail 10 ≤ all_bytes words head
  taken_fits = rw (p.head_is, p.tail_is) (taken-within words values p.lent)

  pub judged_incomplete : incomplete_at words head tail ≡ is_incomplete (dropped (message_in words values))
  judged_incomplete = rw (p.head_is, p.tail_is) (incomplete_is words values p.lent)

  pub judged-body : body_at words head tail ≡ body_length (dropped (message_in words values))
  judged-body = rw (p.head_is, p.tail_is) (body_is words values p.lent)

  pub judged-length : (separator : ℕ)
      → length (encoding separator (message_in words values)) ≡ size_at words head 8 + length (decimal (body_length (dropped (message_in words values))))
      + body_length (dropped (message_in words values)) + 10
  judged-length separator = encoding_length separator (message_in words values) ∙ rw (p.head_is, begin_is words values p.lent)

  pub judged-fields : (separator : ℕ) → fields_at words head tail ≡ field_total (encoded_message separator (message_in words values))
  judged-fields separator = rw (p.head_is, p.tail_is) (fields_is words values p.lent separator)

-- what a verdict says of a message, and what is left by it
module _ (separator : ℕ) (words values output : List ℕ) where
  pub fit_to-encode : (body : ℕ) → encode_verdict separator words values (length output) ≡ Ok body → Encodable separator words values output body
  unfolding encode_verdict judging
  fit_to-encode body verdict =
      let m = message_in words values in
      let n = length (encoding separator m) in
      by_tests (is_message words values) (is_refused_separator separator) (is_incomplete (dropped m)) (ltb 8192 n)
      (ltb 1024 (field_total (encoded_message separator m))) (ltb (length output) n) refl refl refl refl verdict
    where
      by_tests : (a b c d e f : Bool) → is_message words values ≡ a → ltb 8192 (length (encoding separator (message_in words values))) ≡ d
          → ltb 1024 (field_total (encoded_message separator (message_in words values))) ≡ e
          → ltb (length output) (length (encoding separator (message_in words values))) ≡ f
          → pick a (pick b (Err InvalidSeparator)
          (pick c (Err Incomplete) (pick d (Err TooLong)
          (pick e (Err TooManyFields) (pick f (Err NoRoom) (Ok (body_length (dropped (message_in words values))))))))) (Err NoMessage)
          ≡ Ok body
          → Encodable separator words values output body
      by_tests true false false false false false lent short few room v =
          record { message = lent; measured = cc; short = ltb-false _ _ short; few = ltb-false _ _ few; room = ltb-false _ _ room }
      by_tests true false false false false true lent short few room v = let z : ◌≡◌ {A = ℕ} 0 1 = cc in absurd (omega arith)
      by_tests true false false false true f lent short few room v = let z : ◌≡◌ {A = ℕ} 0 1 = cc in absurd (omega arith)
      by_tests true false false true e f lent short few room v = let z : ◌≡◌ {A = ℕ} 0 1 = cc in absurd (omega arith)
      by_tests true false true d e f lent short few room v = let z : ◌≡◌ {A = ℕ} 0 1 = cc in absurd (omega arith)
      by_tests true true c d e f lent short few room v = let z : ◌≡◌ {A = ℕ} 0 1 = cc in absurd (omega arith)
      by_tests false b c d e f lent short few room v = let z : ◌≡◌ {A = ℕ} 0 1 = cc in absurd (omega arith)

  pub encodes : (body : ℕ) → encode_verdict separator words values (length output) ≡ Ok body
      → encoding_of separator words values output ≡ encoded separator (message_in words values) output
  unfolding encoding_of after_verdict
  encodes body verdict = rw verdict

  pub refuses : (refusal : Encoding) → encode_verdict separator words values (length output) ≡ Err refusal
      → encoding_of separator words values output ≡ left refusal words values output
  unfolding encoding_of after_verdict
  refuses refusal verdict = rw verdict
