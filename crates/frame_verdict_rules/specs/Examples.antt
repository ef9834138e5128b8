-- Verdicts at the boundaries of the frame: one table under one statement. P1 and P2 stand first, as later examples cite them.
use Rattle.std.specs.Prelude.{◌≡◌, refl, List, [], ◌∷◌, ◌++◌, ℕ, take, replicate}
use Rattle.field_rules.specs.Number.{is_digit, worth}
use Rattle.field_rules.specs.CheckSum.{sum_of, checksum_digits}
use Rattle.frame_verdict_rules.specs.Frame.{separator, begin_tag, length_tag, type_tag, sum_tag}
use Rattle.frame_verdict_rules.specs.Readers.{◌>>=◌, literal, with_head, any, headed, text_kind, text, begin_string, may_become, digit_kind, body_length}
use Rattle.frame_verdict_rules.specs.Verdict.{checksum_for, body_reader, frame_reader, stage_of, as_verdict, verdict_of}
use Rattle.frame_verdict_rules.specs.declared.Verdict.{Verdict}
use Rattle.frame_verdict_rules.specs.declared.Verdict.TheVariants.{Frame, Never, Wait}

-- `8=FIX.4.4|`
abbrev pub begun : List ℕ
begun = begin_tag ++ (70 ∷ 73 ∷ 88 ∷ 46 ∷ 52 ∷ 46 ∷ 52 ∷ separator ∷ [])

-- the same and `9=` with these digits
abbrev pub announcing : List ℕ → List ℕ
announcing digits = begun ++ (length_tag ++ digits)

-- P1 `8=FIX.4.4|9=5|35=0|10=163|`, up to `10=` and whole
abbrev pub summed : List ℕ
summed = announcing (53 ∷ separator ∷ []) ++ (type_tag ++ (48 ∷ separator ∷ sum_tag))

abbrev pub p1 : List ℕ
p1 = summed ++ (49 ∷ 54 ∷ 51 ∷ separator ∷ [])

-- P2, P1 with `162`
abbrev pub p2 : List ℕ
p2 = summed ++ (49 ∷ 54 ∷ 50 ∷ separator ∷ [])

-- a frame of 8,192 bytes, the largest: up to `10=`, and whole
abbrev pub largest_summed : List ℕ
largest_summed = announcing (56 ∷ 49 ∷ 54 ∷ 56 ∷ separator ∷ []) ++ (type_tag ++ (replicate 8164 48 ++ (separator ∷ [])))

abbrev pub largest : List ℕ
largest = largest_summed ++ (sum_tag ++ (checksum_for largest_summed ++ (separator ∷ [])))

-- some bytes, and the verdict on the place where they stand
pub data Row : Type 0 where
  row : List ℕ → Verdict → Row

abbrev pub table : List Row
table =
    -- P1, P1 with a byte behind it, P1 without its last byte, P2, no bytes
    row p1 (Frame 26) ∷ row (p1 ++ (0 ∷ [])) (Frame 26) ∷ row (take 25 p1) Wait ∷ row p2 Never ∷ row [] Wait
    -- `8=` with 0 bytes and a separator, with 16 bytes, with a 17th
    ∷ row (begin_tag ++ (separator ∷ [])) Never ∷ row (begin_tag ++ replicate 16 70) Wait ∷ row (begin_tag ++ replicate 17 70) Never
    -- `9=|`, `9=x`, `9=0000`, `9=00000`, `9=0003`, `9=0003|`, `9=00003`, `9=00004`, a sixth digit
    ∷ row (announcing (separator ∷ [])) Never ∷ row (announcing (120 ∷ [])) Never
    ∷ row (announcing (replicate 4 48)) Wait ∷ row (announcing (replicate 5 48)) Never
    ∷ row (announcing (replicate 3 48 ++ (51 ∷ []))) Wait ∷ row (announcing (replicate 3 48 ++ (51 ∷ separator ∷ []))) Never ∷ row (announcing (replicate 4 48 ++ (51 ∷ []))) Never
    ∷ row (announcing (replicate 4 48 ++ (52 ∷ []))) Wait ∷ row (announcing (replicate 4 48 ++ (52 ∷ 48 ∷ []))) Never
    -- `9=8168|` makes 8,192 bytes in all, `9=8169` more
    ∷ row (announcing (56 ∷ 49 ∷ 54 ∷ 56 ∷ separator ∷ [])) Wait ∷ row (announcing (56 ∷ 49 ∷ 54 ∷ 57 ∷ [])) Never
    -- a frame of 8,192 bytes, and without its last byte
    ∷ row largest (Frame 8192) ∷ row (take 8191 largest) Wait
    -- the N bytes: a wrong byte of `35=`, and a wrong last byte
    ∷ row (announcing (53 ∷ separator ∷ 51 ∷ 54 ∷ [])) Never ∷ row (take 18 p1 ++ (48 ∷ [])) Never
    -- a right and a wrong first CheckSum digit
    ∷ row (summed ++ (49 ∷ [])) Wait ∷ row (summed ++ (50 ∷ [])) Never
    ∷ []

abbrev pub judged : List Row → List Verdict
judged [] = []
judged (row bytes v ∷ rows) = verdict_of bytes ∷ judged rows

abbrev pub expected : List Row → List Verdict
expected [] = []
expected (row bytes v ∷ rows) = v ∷ expected rows

-- THE TABLE
pub examples : judged table ≡ expected table
unfolding verdict_of as_verdict stage_of frame_reader body_reader checksum_for ◌>>=◌ literal with_head any headed text_kind text begin_string may_become digit_kind body_length is_digit worth sum_of checksum_digits
examples = refl
