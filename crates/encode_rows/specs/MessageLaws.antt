-- A message that is lent, written part by part, is the text of the message; its length is the total of its fields; and the CheckSum comes
-- behind it.
use Rattle.std.specs.Prelude.{◌≡◌, Bool, true, ℕ, ◌+◌, ◌-◌, ◌≤◌, length, take, eqb}
use Rattle.std.proofs.Math.Path.{refl, sym, ap}
use Rattle.std.proofs.Common.{◌∙◌, length-append, take-append-drop, take_at, eqb-true}
use Rattle.std.proofs.Math.Bool.{false}
use mathlib.Core.List.{List, [], ◌∷◌, ◌++◌, append_assoc}
use native.Mathlib.Omega.{arith}
use Rattle.std.proofs.Math.ListN.{drop}
use Rattle.std.proofs.Math.Seq.{drop_at}
use Rattle.field_rules.specs.Choice.{pick}
use Rattle.field_rules.specs.Decimal.{decimal, written_at}
use Rattle.field_rules.proofs.DecimalLaws.{written_fits}
use Rattle.field_rules.specs.CheckSum.{checksum_digits}
use Rattle.field_rules.specs.Field.{field_bytes}
use Rattle.message_maps.specs.Map.{Map, end, field, entry, values_in}
use Rattle.message_maps.specs.Rows.{row, laid, rows_from, sizes}
use Rattle.message_lent_rules.specs.Lent.{row_count, rows_of, is_message}
use Rattle.message_lent_rules.specs.Meaning.{Message, message_in}
use Rattle.message_rules.specs.Changes.{part_of}
use Rattle.message_rules.specs.RowChanges.{place_of, span_of}
use Rattle.message_rules.specs.PlaceLaws.{rows_part, part_rows, place_grows}
use Rattle.message_rules.specs.StoreLaws.{In, lent_in, rows_all, own_rows_lem, count_is, span_grows}
use Rattle.message_rules.specs.declared.Part.{Part}
use Rattle.message_rules.specs.declared.Part.TheVariants.{Header, Body, Trailer}
use Rattle.encode_rules.specs.Encoding.{text, text_under, is_first, is_rest, header_text, message_text, bytes_of, sum_digits, summed}
use Rattle.encode_rows.specs.Writing.{chosen, bytes_in, row_bytes, items_at, header_at, text_at, Stands, Spans, tail_of}
use Rattle.encode_rows.specs.WritingLaws.{text-laid, bytes-append, bytes-laid, text-length, written_twice}

-- all of a map
text-all : (separator : ℕ) (m : Map) → text_under (chosen 0) separator m ≡ text separator m
unfolding text_under text chosen
text-all separator end = refl
text-all separator (field t v rest) = ap (λ (s : List ℕ). field_bytes separator (decimal t) v ++ s) (text-all separator rest)
text-all separator (entry s d own rest) = ap (λ (t : List ℕ). text separator own ++ t) (text-all separator rest)

-- a tag is 8, 9, 35 or another, and only one of these
one_of : (t : ℕ) (x : List ℕ)
    → length (pick (eqb t 8) x []) + (length (pick (eqb t 9) x []) + (length (pick (eqb t 35) x []) + length (pick (is_rest t) x []))) ≡ length x
unfolding is_rest is_first
one_of t x = by_tests (eqb t 8) (eqb t 9) (eqb t 35) refl refl refl
  where
    by_tests : (a b c : Bool) → eqb t 8 ≡ a → eqb t 9 ≡ b → eqb t 35 ≡ c
        → length (pick a x []) + (length (pick b x []) + (length (pick c x []) + length (pick (pick (pick a true (pick b true c)) false true) x [])))
        ≡ length x
    by_tests true true c p q r = let e = eqb-true t 8 p in let f = eqb-true t 9 q in absurd (omega arith)
    by_tests true false true p q r = let e = eqb-true t 8 p in let f = eqb-true t 35 r in absurd (omega arith)
    by_tests true false false p q r = omega arith
    by_tests false true true p q r = let e = eqb-true t 9 q in let f = eqb-true t 35 r in absurd (omega arith)
    by_tests false true false p q r = omega arith
    by_tests false false true p q r = omega arith
    by_tests false false false p q r = omega arith

abbrev four_lengths : ℕ → Map → ℕ
four_lengths separator m =
    length (text_under (λ tag. eqb tag 8) separator m)
    + (length (text_under (λ tag. eqb tag 9) separator m) + (length (text_under (λ tag. eqb tag 35) separator m) + length (text_under is_rest separator m)))

header_lengths : (separator : ℕ) (m : Map) → four_lengths separator m ≡ bytes_of m
unfolding text_under bytes_of
header_lengths separator end = refl
header_lengths separator (field t v rest) =
    let x = field_bytes separator (decimal t) v in
    omega (
      arith,
      length-append (pick (eqb t 8) x []) (text_under (λ tag. eqb tag 8) separator rest),
      length-append (pick (eqb t 9) x []) (text_under (λ tag. eqb tag 9) separator rest),
      length-append (pick (eqb t 35) x []) (text_under (λ tag. eqb tag 35) separator rest),
      length-append (pick (is_rest t) x []) (text_under is_rest separator rest),
      one_of t x,
      header_lengths separator rest,
      length-append (decimal t) (61 ∷ (v ++ (separator ∷ []))),
      length-append v (separator ∷ []),
    )
header_lengths separator (entry s d own rest) =
    let x = text separator own in
    omega (
      arith,
      length-append (pick (eqb s 8) x []) (text_under (λ tag. eqb tag 8) separator rest),
      length-append (pick (eqb s 9) x []) (text_under (λ tag. eqb tag 9) separator rest),
      length-append (pick (eqb s 35) x []) (text_under (λ tag. eqb tag 35) separator rest),
      length-append (pick (is_rest s) x []) (text_under is_rest separator rest),
      one_of s x,
      header_lengths separator rest,
      text-length separator own,
    )

pub message-length : (separator : ℕ) (m : Message) → length (message_text separator m) ≡ bytes_of m.header + (bytes_of m.body + bytes_of m.trailer)
unfolding message_text header_text
message-length separator m =
    simp length-append (omega (arith, header_lengths separator m.header, text-length separator m.body, text-length separator m.trailer))

-- the values of a part stand behind those of the parts before it
module _ (words values : List ℕ) (part : Part) (m : Message) (i : In words values part m) where
  part-place : place_of words (span_of part m).from ≡ length i.split.values-before
  unfolding place_of
  part-place =
      ap sizes (rows_part words (row_count words) 0 (span_of part m).from [] i.split.before (laid 1 (part_of part m) ++ i.split.behind)
      (rows_all words values part m i) refl (omega (arith, i.split.from)))
      ∙ i.split.size-before

  pub items-own : (which separator : ℕ) → items_at words values (span_of part m) which separator ≡ text_under (chosen which) separator (part_of part m)
  unfolding items_at
  items-own which separator =
      let n = sizes (rows_of words) in
      let behind = i.split.values-behind ++ drop n values in
      let v : values ≡ i.split.values-before ++ (values_in (part_of part m) ++ behind) =
      sym (take-append-drop n values) ∙ rw i.texts (simp append_assoc) in
      let d : drop (place_of words (span_of part m).from) values ≡ values_in (part_of part m) ++ behind =
      rw part-place (ap (drop (length i.split.values-before)) v ∙ drop_at i.split.values-before _ _ refl) in
      rw (own_rows_lem words values part m i, d) (text-laid which separator false (part_of part m) behind)

  pub items-all : (separator : ℕ) → items_at words values (span_of part m) 0 separator ≡ text separator (part_of part m)
  items-all separator = items-own 0 separator ∙ text-all separator (part_of part m)

  place-within : place_of words (span_of part m).to ≤ length values
  unfolding place_of rows_of
  place-within =
      let e = count_is words values part m i in
      omega (
        arith,
        place_grows words (span_of part m).to (span_of part m).count (span_grows words values part m i).1,
        ap (λ (n : ℕ). sizes (rows_from (n - 0) 0 words)) e,
        i.sized.within,
        i.sized.store,
      )

  pub span_stands : Stands words values (span_of part m)
  span_stands =
      let g = span_grows words values part m i in
      record { whole = i.sized.whole; grows = g.0; within = omega (arith, g.1, g.2); place = place-within }

total-bytes : (m : Message)
    → bytes_in (row 2 0 1 0 ∷ (laid 1 m.header ++ (row 2 0 2 0 ∷ (laid 1 m.body ++ (row 2 0 3 0 ∷ (laid 1 m.trailer ++ []))))))
    ≡ bytes_of m.header + (bytes_of m.body + bytes_of m.trailer)
unfolding bytes_in row_bytes
total-bytes m =
    omega (
      arith,
      bytes-append (laid 1 m.header) (row 2 0 2 0 ∷ (laid 1 m.body ++ (row 2 0 3 0 ∷ (laid 1 m.trailer ++ [])))),
      bytes-append (laid 1 m.body) (row 2 0 3 0 ∷ (laid 1 m.trailer ++ [])),
      bytes-append (laid 1 m.trailer) [],
      bytes-laid 1 m.header,
      bytes-laid 1 m.body,
      bytes-laid 1 m.trailer,
    )

module _ (words values : List ℕ) (h : is_message words values ≡ true) where
  pub text_at_is : (separator : ℕ)
      → text_at words values (span_of Header (message_in words values)) (span_of Body (message_in words values))
      (span_of Trailer (message_in words values)) separator ≡ message_text separator (message_in words values)
  unfolding text_at header_at message_text header_text chosen part_of
  text_at_is separator =
      let m = message_in words values in
      let head = lent_in words values Header h in
      rw (
        items-own words values Header m head 8 separator,
        items-own words values Header m head 9 separator,
        items-own words values Header m head 35 separator,
        items-own words values Header m head 1 separator,
        items-all words values Body m (lent_in words values Body h) separator,
        items-all words values Trailer m (lent_in words values Trailer h) separator,
      )
      (simp append_assoc)

  pub size_is : (separator : ℕ)
      → bytes_in (rows_from ((span_of Header (message_in words values)).count - 0) 0 words) ≡ length (message_text separator (message_in words values))
  unfolding rows_of
  size_is separator =
      let m = message_in words values in
      let i = lent_in words values Header h in
      ap (λ (n : ℕ). bytes_in (rows_from (n - 0) 0 words)) (count_is words values Header m i)
      ∙ ap bytes_in (i.all ∙ part_rows m)
      ∙ total-bytes m
      ∙ sym (message-length separator m)

  pub spans_of : (separator : ℕ) (output : List ℕ) → length (message_text separator (message_in words values)) ≤ length output
      → Spans words values output (span_of Header (message_in words values)) (span_of Body (message_in words values))
      (span_of Trailer (message_in words values)) separator
  spans_of separator output room =
      let m = message_in words values in
      record {
        header = span_stands words values Header m (lent_in words values Header h);
        body = span_stands words values Body m (lent_in words values Body h);
        trailer = span_stands words values Trailer m (lent_in words values Trailer h);
        room = omega (arith, ap length (text_at_is separator));
      }

-- the CheckSum behind the text
pub tail_length : (separator : ℕ) (before : List ℕ) → length (tail_of separator before) ≡ 7
unfolding tail_of sum_digits checksum_digits
tail_length separator before = refl

pub summed-length : (separator : ℕ) (what : List ℕ) → length (summed separator what) ≡ length what + 7
unfolding summed
summed-length separator what = length-append what _ ∙ (unfold tail_of in omega (arith, tail_length separator what))

pub tail_written : (separator at : ℕ) (what output one two : List ℕ) → length what + 7 ≤ length output → at ≡ length what → one ≡ written_at 0 what output
    → two ≡ written_at at (tail_of separator (take at one)) one → two ≡ written_at 0 (summed separator what) output
tail_written separator at what output one two room e o t =
    let n : 0 + length what ≡ length what = omega arith in
    let whole : one ≡ what ++ drop (length what) output = o ∙ written_fits 0 what output (omega arith) ∙ rw n in
    let before : take at one ≡ what = ap (take at) whole ∙ take_at what (drop (length what) output) at (sym e) in
    let together : length (what ++ tail_of separator what) ≡ length what + 7 = length-append what (tail_of separator what) ∙ rw (tail_length separator what) in
    let last : written_at 0 (what ++ tail_of separator what) output ≡ written_at 0 (summed separator what) output = unfold summed tail_of in
    refl in t ∙ rw (before, o, e) (ap (λ (k : ℕ). written_at k (tail_of separator what) (written_at 0 what output)) (sym n)
    ∙ written_twice 0 what (tail_of separator what) output (omega arith))
    ∙ last
