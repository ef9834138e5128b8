-- The verdict on a place, computed: the frame is read stage by stage.
use Rattle.std.specs.Prelude.{List, [], ◌∷◌, ◌++◌, ℕ, ◌+◌, ◌-◌, ◌%◌, length}
use Rattle.field_rules.specs.Number.{worth}
use Rattle.field_rules.specs.CheckSum.{sum_of, checksum_digits}
use Rattle.frame_verdict_rules.specs.Frame.{separator, begin_tag, length_tag, type_tag, sum_tag, frame_most, lead}
use Rattle.frame_verdict_rules.specs.Readers.{Out, on, bad, short, Reader, ◌>>=◌, literal, any, begin_string, body_length}
use Rattle.frame_verdict_rules.specs.declared.Verdict.{Verdict}
use Rattle.frame_verdict_rules.specs.declared.Verdict.TheVariants.{Frame, Never, Wait}
use Rattle.frame_verdict_rules.specs.declared.Stage.{Stage}
use Rattle.frame_verdict_rules.specs.declared.Stage.TheVariants.{On, Bad, Short}
use Rattle.frame_verdict_rules.specs.declared.Length.{Length}
use Rattle.frame_verdict_rules.specs.declared.Length.TheVariants.{Announced, BadLength, ShortLength}

-- the bytes of a frame that are neither BeginString nor digits nor the N bytes: `8=`, `9=`, `10=`, three digits, three separators
abbrev pub framing : ℕ
framing = 13

-- the three digits that must stand in a frame whose bytes before `10=` are these
unfoldable pub checksum_for : List ℕ → List ℕ
checksum_for s = checksum_digits (sum_of s % 256)

-- "N bytes that start `35=` and end with a separator, `10=`, three digits equal to the sum mod 256 of all before `10=`, separator",
-- where `before` are the bytes in front of the N
unfoldable pub body_reader : List ℕ → ℕ → Reader (Unit {0})
body_reader before n = do
  e₁ ← literal type_tag
  middle ← any (n - 4)
  e₂ ← literal (separator ∷ [])
  e₃ ← literal sum_tag
  e₄ ← literal (checksum_for (before ++ (type_tag ++ (middle ++ (separator ∷ [])))))
  literal (separator ∷ [])

-- a frame
unfoldable pub frame_reader : Reader (Unit {0})
frame_reader = do
  e₁ ← literal begin_tag
  begin ← begin_string
  e₂ ← literal length_tag
  digits ← body_length 5 (frame_most - (framing + length begin)) 0
  body_reader (lead begin digits) (worth 0 digits)

-- an outcome as a place of the bytes s: what was read is forgotten, and what is left says where reading stands
unfoldable pub stage_of : {A : Type 0} → List ℕ → Out A → Stage
stage_of s (on a r) = On (length s - length r)
stage_of s bad = Bad
stage_of s short = Short

-- the same where digits were read behind others that are worth v: N, and where reading stands
unfoldable pub length_of : ℕ → List ℕ → Out (List ℕ) → Length
length_of v s (on digits r) = Announced (worth v digits) (length s - length r)
length_of v s bad = BadLength
length_of v s short = ShortLength

unfoldable pub as_verdict : Stage → Verdict
as_verdict (On n) = Frame n
as_verdict Bad = Never
as_verdict Short = Wait

-- the verdict on the place where the bytes s stand
unfoldable pub verdict_of : List ℕ → Verdict
verdict_of s = as_verdict (stage_of s (frame_reader s))
