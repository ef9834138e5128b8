-- Worked examples of this crate's definitions, one table to a definition, each under one statement that antt computes.
-- A wrong definition is refused here, whatever code is proved against it.
use Rattle.std.specs.Prelude.{◌≡◌, refl, true, false, List, [], ◌∷◌, map, ℕ, ◌%◌, length, Some, None, Result, Ok, Err}
use Prim.Native.String.{String}
use Rattle.field_rules.specs.Text.{bytes}
use Rattle.field_rules.specs.Find.{find_in}
use Rattle.field_rules.specs.Number.{is_digit, all_digits, worth, number_in, non_zero, tag_of}
use Rattle.field_rules.specs.Separator.{is_refused_separator}
use Rattle.field_rules.specs.CheckSum.{sum_of, checksum_of, checksum_digits}
use Rattle.field_rules.specs.Decimal.{decimal, decimal_within, written_at, answer_at}
use Rattle.field_rules.specs.Field.{separated_by, start_at, field_at}
use Rattle.field_rules.specs.Fields.{Fields, unreadable, field, fields_from}
use Rattle.field_rules.specs.Computing.{reading-fields}
use Rattle.field_rules.specs.declared.Cursor.{Cursor}
use Rattle.field_rules.specs.declared.Field.{Field}
use Rattle.field_rules.specs.declared.Cause.TheVariants.{NoEquals, NoSeparator, BadTag}
use Rattle.field_rules.specs.declared.Cause.{Cause}

-- a table of texts with their answers, and what a definition makes of the texts
abbrev Table : Type 0 → Type 0
Table A = List (String × A)

abbrev Holds : {A : Type 0} → (List ℕ → A) → Table A → Type 0
Holds f table = map (λ row. f (bytes row.0)) table ≡ map (λ row. row.1) table

-- the first place of `=`
equals-found : Holds (find_in 61 0) (("8=x|=", Some 1) ∷ ("=", Some 0) ∷ ("8|", None) ∷ ("", None) ∷ [])
unfolding find_in
equals-found = refl

numbers : Holds number_in (("0", Some 0) ∷ ("0042", Some 42) ∷ ("4294967295", Some 4294967295) ∷ ("4294967296", None) ∷ ("99999999999999999999999999", None) ∷ ("", None) ∷ ("-1", None) ∷ ("4:", None) ∷ ("4/", None) ∷ [])
unfolding number_in is_digit all_digits worth
numbers = refl

tags : Holds tag_of (("1", Some 1) ∷ ("0035", Some 35) ∷ ("4294967295", Some 4294967295) ∷ ("4294967296", None) ∷ ("0", None) ∷ ("000", None) ∷ ("", None) ∷ ("1a", None) ∷ [])
unfolding tag_of non_zero number_in is_digit all_digits worth
tags = refl

-- 22: `=` and the digits, but neither neighbour of the digits
separators : map is_refused_separator (61 ∷ 48 ∷ 57 ∷ 47 ∷ 58 ∷ 1 ∷ []) ≡ true ∷ true ∷ true ∷ false ∷ false ∷ false ∷ []
unfolding is_refused_separator is_digit
separators = refl

checksums : Holds checksum_of (("163", Some 163) ∷ ("007", Some 7) ∷ ("999", Some 999) ∷ ("abc", None) ∷ ("16", None) ∷ ("0163", None) ∷ ("", None) ∷ [])
unfolding checksum_of number_in is_digit all_digits worth
checksums = refl

-- P1 and P4: the bytes before the CheckSum
sums : Holds (λ s. sum_of s % 256) (("8=FIX.4.4|9=5|35=0|", 163) ∷ ("8=FIX.4.4|9=0|", 200) ∷ ("", 0) ∷ [])
unfolding sum_of
sums = refl

checksum_texts : map checksum_digits (0 ∷ 7 ∷ 42 ∷ 163 ∷ 255 ∷ []) ≡ map bytes ("000" ∷ "007" ∷ "042" ∷ "163" ∷ "255" ∷ [])
unfolding checksum_digits
checksum_texts = refl

decimals : map decimal (0 ∷ 9 ∷ 10 ∷ 35 ∷ 1000 ∷ []) ≡ map bytes ("0" ∷ "9" ∷ "10" ∷ "35" ∷ "1000" ∷ [])
unfolding decimal decimal_within
decimals = refl

-- written where there is room, and nowhere else
writing : Holds (written_at 1 (bytes "35")) (("....", bytes ".35.") ∷ ("...", bytes ".35") ∷ ("..", bytes "..") ∷ ("", []) ∷ [])
unfolding written_at
writing = refl

writing_answers : Holds (answer_at 1 (bytes "35")) (("....", Some 3) ∷ ("...", Some 3) ∷ ("..", None) ∷ ("", None) ∷ [])
unfolding answer_at
writing_answers = refl

abbrev one : ℕ → ℕ → ℕ → ℕ → ℕ → Result Field (Cause × ℕ)
one at tag place n next = Ok (record { first = at; tag = tag; place = place; length = n; next = start_at next })

-- the field at the start: the tag limits, zero, no digits, no separator, leading zeros, an empty value; the reasons in their order
fields : Holds (λ s. field_at (separated_by 1) s (start_at 0)) (("4294967295=x|", one 0 4294967295 11 1 13) ∷ ("4294967296=x|", Err (BadTag, 0))
    ∷ ("0=x|", Err (BadTag, 0)) ∷ ("=x|", Err (BadTag, 0)) ∷ ("1a=x|", Err (BadTag, 0)) ∷ ("1a=x", Err (NoSeparator, 0))
    ∷ ("1=x", Err (NoSeparator, 0)) ∷ ("1", Err (NoEquals, 0)) ∷ ("", Err (NoEquals, 0)) ∷ ("0035=x|", one 0 35 5 1 7)
    ∷ ("58=|", one 0 58 3 0 4) ∷ ("58=a=b|", one 0 58 3 3 7) ∷ ("5|8=x|", Err (BadTag, 0)) ∷ [])
unfolding reading-fields
fields = refl

-- in the middle of a message, at its end and past it
fields-later : map (λ (at : ℕ). field_at (separated_by 1) (bytes "8=a|35=D|") (start_at at)) (4 ∷ 9 ∷ 10 ∷ []) ≡ one 4 35 7 1 9 ∷ Err (NoEquals, 9) ∷ Err (NoEquals, 10) ∷ []
unfolding reading-fields
fields-later = refl

-- one after the other, with the reason at the end
all-fields : fields_from (separated_by 1) (bytes "8=a|35=D|0=x|") (start_at 0) ≡ field (record { first = 0; tag = 8; place = 2; length = 1; next = start_at 4 }) (field (record { first = 4; tag = 35; place = 7; length = 1; next = start_at 9 }) (unreadable BadTag 9))
unfolding reading-fields
all-fields = refl
