-- Sizes and numbers of fields of a message that is encoded, from those of the message that is held: each change takes out or puts in one
-- field, and the bytes and fields of all others stay.
use Rattle.std.specs.Prelude.{◌≡◌, Bool, true, false, List, [], ◌++◌, ℕ, ◌+◌, ◌≤◌, eqb}
use Rattle.std.proofs.Math.Path.{refl}
use Rattle.std.proofs.Common.{ap, ◌∙◌, length-append, eqb-true}
use native.Mathlib.Omega.{arith}
use Rattle.std.proofs.Math.ListN.{length}
use Rattle.field_rules.specs.Choice.{pick}
use Rattle.field_rules.specs.Decimal.{decimal, decimal_within}
use Rattle.field_rules.specs.CheckSum.{checksum_digits}
use Rattle.message_maps.specs.Map.{Map, end, field, entry, joined, holds, replaced, without_field, run_on, without_run, stored, field_count, values_in}
use Rattle.message_lent_rules.specs.Meaning.{Message}
use Rattle.message_rules.specs.Changes.{field_total, value_total}
use Rattle.message_rules.specs.LayoutLaws.{count-joined}
use Rattle.message_rules.specs.PlaceLaws.{part-values}
use Rattle.message_rules.specs.StoreLaws.{count_without}
use Rattle.message_rules.specs.SplitLaws.{field_split, field_gone, run_split}
use Rattle.encode_rules.specs.Encoding.{message_text, bytes_of, dropped, body_length, measured, sum_digits, encoding, encoded_message}
use Rattle.encode_rows.specs.MessageLaws.{message-length, summed-length}

-- how many bytes a map's own field of a tag takes, 0 where the map lacks it
unfoldable pub size_under : ℕ → Map → ℕ
size_under tag end = 0
size_under tag (field t v rest) = pick (eqb t tag) (length (decimal t) + length v + 2) (size_under tag rest)
size_under tag (entry s d own rest) = size_under tag rest

pub bytes_without : (tag : ℕ) (m : Map) → bytes_of (without_field tag m) + size_under tag m ≡ bytes_of m
unfolding without_field bytes_of size_under
bytes_without tag end = refl
bytes_without tag (field t v rest) = by_test (eqb t tag) (bytes_without tag rest)
  where
    by_test : (b : Bool) → bytes_of (without_field tag rest) + size_under tag rest ≡ bytes_of rest
        → bytes_of (pick b rest (field t v (without_field tag rest))) + pick b (length (decimal t) + length v + 2) (size_under tag rest)
        ≡ (length (decimal t) + length v + 2) + bytes_of rest
    by_test true h = omega arith
    by_test false h = omega arith
bytes_without tag (entry s d own rest) = omega (arith, bytes_without tag rest)

size-other : (tag gone : ℕ) (m : Map) → eqb gone tag ≡ false → size_under tag (without_field gone m) ≡ size_under tag m
unfolding without_field size_under
size-other tag gone end h = refl
size-other tag gone (field t v rest) h = by_test (eqb t gone) refl (size-other tag gone rest h)
  where
    by_test : (b : Bool) → eqb t gone ≡ b → size_under tag (without_field gone rest) ≡ size_under tag rest
        → size_under tag (pick b rest (field t v (without_field gone rest))) ≡ pick (eqb t tag) (length (decimal t) + length v + 2) (size_under tag rest)
    by_test true e k =
        let other : eqb t tag ≡ false = ap (λ (n : ℕ). eqb n tag) (eqb-true t gone e) ∙ h in
        rw other
    by_test false e k = ap (λ (n : ℕ). pick (eqb t tag) (length (decimal t) + length v + 2) n) k
size-other tag gone (entry s d own rest) h = size-other tag gone rest h

bytes-joined : (a b : Map) → bytes_of (joined a b) ≡ bytes_of a + bytes_of b
unfolding joined bytes_of
bytes-joined end b = omega arith
bytes-joined (field t v rest) b = omega (arith, bytes-joined rest b)
bytes-joined (entry s d own rest) b = omega (arith, bytes-joined rest b)

bytes-field : (tag : ℕ) (value : List ℕ) (m : Map) → bytes_of (field tag value m) ≡ length (decimal tag) + length value + 2 + bytes_of m
unfolding bytes_of
bytes-field tag value m = refl

count-field : (tag : ℕ) (value : List ℕ) (m : Map) → field_count (field tag value m) ≡ 1 + field_count m
unfolding field_count
count-field tag value m = refl

-- a field is stored: bytes and fields of the others stay
bytes-stored : (tag : ℕ) (value : List ℕ) (m : Map) → bytes_of (stored tag value m) + size_under tag m ≡ bytes_of m + (length (decimal tag) + length value + 2)
unfolding stored
bytes-stored tag value m = by_test (holds tag m) refl
  where
    by_test : (b : Bool) → holds tag m ≡ b
        → bytes_of (pick b (replaced tag value m) (joined (without_run tag m) (field tag value (run_on tag m)))) + size_under tag m
        ≡ bytes_of m + (length (decimal tag) + length value + 2)
    by_test true e =
        let s = field_split tag m e in
        omega (
          arith,
          ap bytes_of (s.put value),
          bytes-joined s.front (field tag value s.back),
          bytes-field tag value s.back,
          ap bytes_of s.gone,
          bytes-joined s.front s.back,
          bytes_without tag m,
        )
    by_test false e =
        let s = run_split tag m in
        omega (
          arith,
          bytes-joined (without_run tag m) (field tag value (run_on tag m)),
          bytes-field tag value (run_on tag m),
          ap bytes_of s.gone,
          ap bytes_of s.taken,
          bytes-joined s.front s.back,
          ap bytes_of s.whole,
          bytes-joined s.front (joined s.run s.back),
          bytes-joined s.run s.back,
          ap bytes_of (field_gone tag m e),
          bytes_without tag m,
        )

count-stored : (tag : ℕ) (value : List ℕ) (m : Map) → field_count (stored tag value m) ≡ field_count m + pick (holds tag m) 0 1
unfolding stored
count-stored tag value m = by_test (holds tag m) refl
  where
    by_test : (b : Bool) → holds tag m ≡ b
        → field_count (pick b (replaced tag value m) (joined (without_run tag m) (field tag value (run_on tag m)))) ≡ field_count m + pick b 0 1
    by_test true e =
        let s = field_split tag m e in
        omega (
          arith,
          ap field_count (s.put value),
          count-joined s.front (field tag value s.back),
          count-field tag value s.back,
          ap field_count s.whole,
          count-joined s.front (field tag s.value s.back),
          count-field tag s.value s.back,
        )
    by_test false e =
        let s = run_split tag m in
        omega (
          arith,
          count-joined (without_run tag m) (field tag value (run_on tag m)),
          count-field tag value (run_on tag m),
          ap field_count s.gone,
          ap field_count s.taken,
          count-joined s.front s.back,
          ap field_count s.whole,
          count-joined s.front (joined s.run s.back),
          count-joined s.run s.back,
        )

-- values are among the bytes
values-short : (m : Map) → length (values_in m) ≤ bytes_of m
unfolding values_in bytes_of
values-short end = omega arith
values-short (field t v rest) = omega (arith, length-append v (values_in rest), values-short rest)
values-short (entry s d own rest) = omega (arith, length-append (values_in own) (values_in rest), values-short own, values-short rest)

total-values : (m : Message) → value_total m ≡ length (values_in m.header) + (length (values_in m.body) + length (values_in m.trailer))
unfolding value_total
total-values m =
    ap length (part-values m)
    ∙ omega (
      arith,
      length-append (values_in m.header) (values_in m.body ++ (values_in m.trailer ++ [])),
      length-append (values_in m.body) (values_in m.trailer ++ []),
      length-append (values_in m.trailer) [],
    )

total-short : (m : Message) → value_total m ≤ bytes_of m.header + (bytes_of m.body + bytes_of m.trailer)
total-short m = omega (arith, total-values m, values-short m.header, values-short m.body, values-short m.trailer)

digits_of_nine : length (decimal 9) ≡ 1
unfolding decimal decimal_within
digits_of_nine = refl

digits_of_ten : length (decimal 10) ≡ 2
unfolding decimal decimal_within
digits_of_ten = refl

pub sum-size : (before : List ℕ) → length (sum_digits before) ≡ 3
unfolding sum_digits checksum_digits
sum-size before = refl

-- the bytes of all fields, but the header's own 8 and 9 and the trailer's own 10
pub body_bytes : (m : Message)
    → body_length (dropped m) + (size_under 8 m.header + size_under 9 m.header + size_under 10 m.trailer)
    ≡ bytes_of m.header + (bytes_of m.body + bytes_of m.trailer)
unfolding body_length dropped
body_bytes m =
    omega (arith, bytes_without 9 (without_field 8 m.header), bytes_without 8 m.header, size-other 9 8 m.header refl, bytes_without 10 m.trailer)

measured-bytes : (m : Message)
    → bytes_of (measured m).header + (bytes_of (measured m).body + bytes_of (measured m).trailer) ≡ body_length m + size_under 8 m.header
    + length (decimal (body_length m)) + 3
unfolding measured
measured-bytes m = with-length (body_length m) (unfold body_length in refl)
  where
    with-length : (n : ℕ) → n ≡ bytes_of (without_field 9 (without_field 8 m.header)) + (bytes_of m.body + bytes_of m.trailer)
        → bytes_of (stored 9 (decimal n) m.header) + (bytes_of m.body + bytes_of m.trailer) ≡ n + size_under 8 m.header + length (decimal n) + 3
    with-length n e =
        omega (
          arith,
          bytes-stored 9 (decimal n) m.header,
          digits_of_nine,
          bytes_without 9 (without_field 8 m.header),
          bytes_without 8 m.header,
          size-other 9 8 m.header refl,
        )

-- the length of an encoding
pub encoding_length : (separator : ℕ) (m : Message)
    → length (encoding separator m) ≡ size_under 8 m.header + length (decimal (body_length (dropped m))) + body_length (dropped m) + 10
unfolding encoding
encoding_length separator m =
    summed-length separator (message_text separator (measured (dropped m)))
    ∙ (let e = message-length separator (measured (dropped m)) in
    let f : size_under 8 (dropped m).header ≡ size_under 8 m.header = unfold dropped in refl in omega (arith, measured-bytes (dropped m)))

-- the fields with the new 9 and 10
pub encoded-fields : (separator : ℕ) (m : Message) → holds 10 (without_field 10 m.trailer) ≡ false
    → field_total (encoded_message separator m) ≡ field_total m + pick (holds 9 m.header) 0 1 + pick (holds 10 m.trailer) 0 1
unfolding encoded_message measured dropped field_total
encoded-fields separator m once = by_test (holds 10 m.trailer) (count_without 10 m.trailer)
  where
    by_test : (b : Bool) → field_count (without_field 10 m.trailer) + pick b 1 0 ≡ field_count m.trailer
        → field_count (stored 9 (decimal (body_length (dropped m))) m.header)
        + (field_count m.body + field_count (stored 10 (sum_digits (message_text separator (measured (dropped m)))) (without_field 10 m.trailer)))
        ≡ field_count m.header + (field_count m.body + field_count m.trailer) + pick (holds 9 m.header) 0 1 + pick b 0 1
    by_test true k =
        omega (
          arith,
          count-stored 9 (decimal (body_length (dropped m))) m.header,
          rw once at (count-stored 10 (sum_digits (message_text separator (measured (dropped m)))) (without_field 10 m.trailer)),
        )
    by_test false k =
        omega (
          arith,
          count-stored 9 (decimal (body_length (dropped m))) m.header,
          rw once at (count-stored 10 (sum_digits (message_text separator (measured (dropped m)))) (without_field 10 m.trailer)),
        )

-- an encoding within the limits leaves a message within them, and a message within them is written
pub measured-values : (separator : ℕ) (m : Message) → value_total (measured (dropped m)) ≤ length (encoding separator m)
unfolding encoding
measured-values separator m =
    omega (
      arith,
      total-short (measured (dropped m)),
      message-length separator (measured (dropped m)),
      summed-length separator (message_text separator (measured (dropped m))),
    )

pub measured-fields : (separator : ℕ) (m : Message) → field_total (measured (dropped m)) ≤ field_total (encoded_message separator m)
unfolding encoded_message field_total
measured-fields separator m =
    omega (arith, count-stored 10 (sum_digits (message_text separator (measured (dropped m)))) (measured (dropped m)).trailer)

pub encoded-values : (separator : ℕ) (m : Message) → value_total (encoded_message separator m) ≤ length (encoding separator m)
unfolding encoded_message encoding
encoded-values separator m =
    let n = measured (dropped m) in
    let digits = sum_digits (message_text separator n) in
    let new : Message = record { header = n.header; body = n.body; trailer = stored 10 digits n.trailer } in
    omega (
      arith,
      total-short new,
      bytes-stored 10 digits n.trailer,
      digits_of_ten,
      sum-size (message_text separator n),
      message-length separator n,
      summed-length separator (message_text separator n),
    )
