-- Texts that are no messages of the standard, refused for how they are written: a tag text, a value, a delimiter, BodyLength, CheckSum.
-- BodyLength and CheckSum are right where they are not the point. In quotation marks: a row of the table "From the standard" of
-- docs/DIFFERENCES.md.
use Rattle.std.specs.Prelude.{◌≡◌, refl, true, List, [], ◌∷◌, ℕ, length}
use Rattle.std.proofs.Common.{ap, subst, arith}
use Prim.Native.String.{String}
use Rattle.field_rules.specs.Text.{bytes}
use Rattle.standard_rules.specs.Standard.{All, Digit, worth_after, TagNum, told, Message}
use Rattle.standard_rules.specs.Reading.{walk, step, goes, end, by_length, fields, fields_are, begin_string_is, body_length_is, check-sum_is, never_stuck}
use Rattle.standard_rules.proofs.WritingLaws.{StartsWith, message-written, sum_of-bytes, length_of-bytes}
use Rattle.standard_rules.proofs.Samples.{Sample, lookup, never, apart, framed, lengths_right, sums_right}

-- ===== tags =====

zero_first : {ds : List ℕ} {t : ℕ} → TagNum (48 ∷ ds) t → ⊥
zero_first n = n.no_leading_zero (cc n.starts)

-- "`01=x|`": a tag has no leading zero
abbrev pub leading_zero : String
leading_zero = "8=F|9=10|35=0|01=x|10=129|"

leading_zero_fourth : Message Sample (bytes leading_zero) → StartsWith Sample (told 1 (bytes "x")) (bytes "01=x|10=129|")
unfolding walk step goes end by_length
leading_zero_fourth m = (message-written lookup m).1.1.1.0

pub leading_zero_refused : Message Sample (bytes leading_zero) → ⊥
leading_zero_refused m = zero_first (leading_zero_fourth m).is_tag

-- ===== values =====

-- "`1=|`": a value has a byte at least
abbrev pub empty_value : String
empty_value = "8=F|9=8|35=0|1=|10=176|"

empty_value_fourth : Message Sample (bytes empty_value) → StartsWith Sample (told 1 []) (bytes "1=|10=176|")
unfolding walk step goes end by_length
empty_value_fourth m = (message-written lookup m).1.1.1.0

pub empty_value_refused : Message Sample (bytes empty_value) → ⊥
empty_value_refused m = omega (arith, ((empty_value_fourth m).is_value (λ l p. never refl p)).some)

-- "`store.2.1.01 encode.01`": a value holds no delimiter. It ends there, and is empty.
abbrev pub delimiter_alone : String
delimiter_alone = "8=F|9=9|35=D|1=||10=198|"

delimiter_alone-fourth : Message Sample (bytes delimiter_alone) → StartsWith Sample (told 1 []) (bytes "1=||10=198|")
unfolding walk step goes end by_length
delimiter_alone-fourth m = (message-written lookup m).1.1.1.0

pub delimiter_alone-refused : Message Sample (bytes delimiter_alone) → ⊥
delimiter_alone-refused m = omega (arith, ((delimiter_alone-fourth m).is_value (λ l p. never refl p)).some)

-- the same with a byte before and behind it: what is behind the delimiter is no field, for its tag text is `b|10`
abbrev pub delimiter_inside : String
delimiter_inside = "8=F|9=11|35=D|1=a|b|10=178|"

delimiter_inside_fifth : Message Sample (bytes delimiter_inside) → StartsWith Sample (told 50010 (bytes "178")) (bytes "b|10=178|")
unfolding walk step goes end by_length
delimiter_inside_fifth m = (message-written lookup m).1.1.1.1.0

pub delimiter_inside-refused : Message Sample (bytes delimiter_inside) → ⊥
delimiter_inside-refused m = first (delimiter_inside_fifth m).is_tag.int.digits
  where
    first : All Digit (bytes "b|10") → ⊥
    first (All.also digit _) = omega (arith, digit)

-- ===== data =====

-- "`96=x|`": a data field stands straight after its length field. Reading is stuck at one that does not.
abbrev pub bare : String
bare = "8=F|9=10|35=D|96=x|10=163|"

pub bare-refused : Message Sample (bytes bare) → ⊥
unfolding walk step goes end by_length
bare-refused m = apart refl (never_stuck lookup m)

-- a length that is too large, `95=2|96=x|`: two bytes behind `96=` stands the `1` of `10=`, and not the delimiter
abbrev pub length_too_large : String
length_too_large = "8=F|9=15|35=0|95=2|96=x|10=114|"

length_too_large_fifth : Message Sample (bytes length_too_large) → StartsWith Sample (told 96 (bytes "x|")) (bytes "96=x|10=114|")
unfolding walk step goes end by_length
length_too_large_fifth m = (message-written lookup m).1.1.1.1.0

pub length_too_large_refused : Message Sample (bytes length_too_large) → ⊥
length_too_large_refused m =
    let ends : bytes "1" ≡ bytes "|" = (length_too_large_fifth m).ends in
    let same : ◌≡◌ {A = ℕ} 49 1 = cc in
    absurd (omega arith)

-- and one that is too small, `95=1|96=xy|`
abbrev pub length_too_small : String
length_too_small = "8=F|9=16|35=0|95=1|96=xy|10=235|"

length_too_small_fifth : Message Sample (bytes length_too_small) → StartsWith Sample (told 96 (bytes "x")) (bytes "96=xy|10=235|")
unfolding walk step goes end by_length
length_too_small_fifth m = (message-written lookup m).1.1.1.1.0

pub length_too_small_refused : Message Sample (bytes length_too_small) → ⊥
length_too_small_refused m =
    let ends : bytes "y" ≡ bytes "|" = (length_too_small_fifth m).ends in
    let same : ◌≡◌ {A = ℕ} 121 1 = cc in
    absurd (omega arith)

-- ===== the delimiter =====

-- "`1=x^` with the separator set to `^`": the delimiter is 0x01. No field of this text ends, and a message has one that does.
abbrev pub other_delimiter : String
other_delimiter = "8=F^9=5^35=0^10=085^"

other_delimiter_fields : (m : Message Sample (bytes other_delimiter)) → fields m ≡ []
unfolding walk step goes end by_length
other_delimiter_fields m = fields_are lookup m

pub other_delimiter_refused : Message Sample (bytes other_delimiter) → ⊥
other_delimiter_refused m = omega (arith, ap length (other_delimiter_fields m))

-- ===== CheckSum =====

-- "`8=|9=5|35=0|10=abc|`": a CheckSum is three digits
abbrev pub letters : String
letters = "8=F|9=5|35=0|10=abc|"

letters-sum : (m : Message Sample (bytes letters)) → m.check-sum ≡ bytes "abc"
unfolding walk step goes end by_length
letters-sum m = check-sum_is lookup m

pub letters-refused : Message Sample (bytes letters) → ⊥
letters-refused m = first (subst (All Digit) (letters-sum m) m.sum_is_lem.digits)
  where
    first : All Digit (bytes "abc") → ⊥
    first (All.also digit _) = omega (arith, digit)

-- the right sum in two digits
abbrev pub two_digits : String
two_digits = "8=F|9=5|35=0|10=62|"

two_digits-sum : (m : Message Sample (bytes two_digits)) → m.check-sum ≡ bytes "62"
unfolding walk step goes end by_length
two_digits-sum m = check-sum_is lookup m

pub two_digits-refused : Message Sample (bytes two_digits) → ⊥
two_digits-refused m = omega (arith, m.three_digits_lem, ap length (two_digits-sum m))

-- the right sum behind a tag with a leading zero
abbrev pub zero_ten : String
zero_ten = "8=F|9=5|35=0|010=062|"

zero_ten_fourth : Message Sample (bytes zero_ten) → StartsWith Sample (told 10 (bytes "062")) (bytes "010=062|")
unfolding walk step goes end by_length
zero_ten_fourth m = (message-written lookup m).1.1.1.0

pub zero_ten_refused : Message Sample (bytes zero_ten) → ⊥
zero_ten_refused m = zero_first (zero_ten_fourth m).is_tag

-- "`8=|9=5|35=0|010=12|`": both, in seven bytes; the sum would be 62
abbrev pub zero_ten_two_digits : String
zero_ten_two_digits = "8=F|9=5|35=0|010=12|"

zero_ten_two_digits-sum : (m : Message Sample (bytes zero_ten_two_digits)) → m.check-sum ≡ bytes "12"
unfolding walk step goes end by_length
zero_ten_two_digits-sum m = check-sum_is lookup m

pub zero_ten_two_digits-refused : Message Sample (bytes zero_ten_two_digits) → ⊥
zero_ten_two_digits-refused m = omega (arith, m.three_digits_lem, ap length (zero_ten_two_digits-sum m))

-- a sum that is too large by one
abbrev pub wrong-sum : String
wrong-sum = "8=F|9=5|35=0|10=063|"

wrong-sum-sum : (m : Message Sample (bytes wrong-sum)) → m.check-sum ≡ bytes "063"
unfolding walk step goes end by_length
wrong-sum-sum m = check-sum_is lookup m

pub wrong-sum-refused : Message Sample (bytes wrong-sum) → ⊥
wrong-sum-refused m =
    let worth : ◌≡◌ {A = ℕ} 63 62 = (sum_of-bytes m (bytes "063") (wrong-sum-sum m)).worth in
    absurd (omega arith)

-- ===== BodyLength =====

-- with a sign, `9=+5|`
abbrev pub signed_length : String
signed_length = "8=F|9=+5|35=0|10=105|"

signed_length-length : (m : Message Sample (bytes signed_length)) → m.body_length ≡ bytes "+5"
unfolding walk step goes end by_length
signed_length-length m = body_length_is lookup m

pub signed_length-refused : Message Sample (bytes signed_length) → ⊥
signed_length-refused m = first (subst (All Digit) (signed_length-length m) m.length_is_lem.digits)
  where
    first : All Digit (bytes "+5") → ⊥
    first (All.also digit _) = omega (arith, digit)

-- empty, `9=|`
abbrev pub empty-length : String
empty-length = "8=F|9=|35=0|10=009|"

empty-length-length : (m : Message Sample (bytes empty-length)) → m.body_length ≡ []
unfolding walk step goes end by_length
empty-length-length m = body_length_is lookup m

pub empty-length-refused : Message Sample (bytes empty-length) → ⊥
empty-length-refused m = omega (arith, m.length_is_lem.some, ap length (empty-length-length m))

-- too small by one, and too large by one
abbrev pub small_length : String
small_length = "8=F|9=4|35=0|10=061|"

abbrev pub large_length : String
large_length = "8=F|9=6|35=0|10=063|"

small_length-values : (m : Message Sample (bytes small_length)) → (m.begin_string ≡ bytes "F") × (m.body_length ≡ bytes "4") × (m.check-sum ≡ bytes "061")
unfolding walk step goes end by_length
small_length-values m = (begin_string_is lookup m, body_length_is lookup m, check-sum_is lookup m)

large_length-values : (m : Message Sample (bytes large_length)) → (m.begin_string ≡ bytes "F") × (m.body_length ≡ bytes "6") × (m.check-sum ≡ bytes "063")
unfolding walk step goes end by_length
large_length-values m = (begin_string_is lookup m, body_length_is lookup m, check-sum_is lookup m)

pub small_length-refused : Message Sample (bytes small_length) → ⊥
small_length-refused m =
    let v = small_length-values m in
    omega (arith, (length_of-bytes m).worth, ap length v.0, ap length v.1, ap length v.2, ap (worth_after 0) v.1)

pub large_length-refused : Message Sample (bytes large_length) → ⊥
large_length-refused m =
    let v = large_length-values m in
    omega (arith, (length_of-bytes m).worth, ap length v.0, ap length v.1, ap length v.2, ap (worth_after 0) v.1)

-- ===== and not for the rest of their frame =====

all-framed : framed (leading_zero ∷ empty_value ∷ delimiter_alone ∷ delimiter_inside ∷ bare ∷ length_too_large ∷ length_too_small ∷ []) ≡ true
all-framed = refl

-- those with a wrong CheckSum have the right BodyLength, and the other way round
all_lengths_right : lengths_right (letters ∷ wrong-sum ∷ []) ≡ true
all_lengths_right = refl

all_sums_right : sums_right (signed_length ∷ empty-length ∷ small_length ∷ large_length ∷ []) ≡ true
all_sums_right = refl
