-- P1 to P4, as far as integrity goes, and the corners of each check: one table under one statement, which antt computes.
use Rattle.std.specs.Prelude.{◌≡◌, refl, List, [], ◌∷◌, map, ℕ}
use Prim.Native.String.{String}
use Rattle.field_rules.specs.Computing.{reading-fields}
use Rattle.field_rules.specs.Text.{bytes}
use Rattle.field_rules.specs.CheckSum.{sum_of, checksum_of}
use Rattle.field_rules.specs.Field.{separated_by}
use Rattle.build_integrity_rules.specs.Integrity.{number_of_reason, number_of_integrity, integrity_of, begun, counted, summed, typed, length_is, length_agrees, sum_is, sum_agrees}

abbrev table : List (String × ℕ)
table =
    ("8=FIX.4.4|9=5|35=0|10=163|", 0)
    ∷ ("8=FIX.4.4|9=5|35=0|10=162|", 14)
    ∷ ("8=FIX.4.4|9=5|35=0|10=abc|", 0)
    ∷ ("8=FIX.4.4|9=0|10=200|", 13)
    ∷ ("", 11)
    ∷ ("9=5|35=0|10=163|", 11)
    ∷ ("8=FIX.4.4|", 12)
    ∷ ("8=FIX.4.4|35=0|10=163|", 12)
    ∷ ("8=FIX.4.4|9=6|35=0|10=163|", 12)
    ∷ ("8=FIX.4.4|9=|35=0|10=163|", 12)
    ∷ ("8=FIX.4.4|9=+5|35=0|10=163|", 12)
    ∷ ("8=FIX.4.4|9=18446744073709551621|35=0|10=163|", 12)
    ∷ ("8=FIX.4.4|9=0005|35=0|10=051|", 0)
    ∷ ("8=FIX.4.4|9=5|35=0|11=163|", 14)
    ∷ ("8=FIX.4.4|9=5|35=0|10=419|", 14)
    ∷ ("8=FIX.4.4|9=5|35=0|010=12|", 0)
    ∷ ("8=FIX.4.4|9=5|35=0|10=1|||", 0)
    ∷ ("8=FIX.4.4|9=5|36=0|10=164|", 13)
    ∷ ("8=FIX.4.4|9=5|36=0|10=163|", 14)
    ∷ ("8=FIX.4.4|9=1|x10=abc|", 13)
    ∷ ("8=FIX.4.4|9=1|x10=000|", 14)
    ∷ []

pub all_hold : map (λ row. number_of_integrity (integrity_of (separated_by 1) (bytes row.0))) table ≡ map (λ row. row.1) table
unfolding number_of_integrity number_of_reason integrity_of begun counted summed typed length_is length_agrees sum_is sum_agrees sum_of checksum_of reading-fields
all_hold = refl
