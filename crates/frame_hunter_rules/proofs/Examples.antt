-- P12, hunted: P2 and then P1. The verdicts themselves have their table in `frame_verdict_rules`; here the hunt is computed over them,
-- from the place where a frame fails on to the one that follows. And the numbers of the answers.
use Rattle.std.specs.Prelude.{◌≡◌, refl, false, [], ◌∷◌, ◌++◌, map}
use Rattle.field_rules.specs.Number.{is_digit, worth}
use Rattle.field_rules.specs.CheckSum.{sum_of, checksum_digits}
use Rattle.frame_verdict_rules.specs.Readers.{◌>>=◌, literal, with_head, any, headed, text_kind, text, begin_string, may_become, digit_kind, body_length}
use Rattle.frame_verdict_rules.specs.Verdict.{checksum_for, body_reader, frame_reader, stage_of, as_verdict, verdict_of}
use Rattle.frame_verdict_rules.specs.Examples.{p1, p2}
use Rattle.frame_hunter_rules.specs.declared.Answer.TheVariants.{Fine, OutputShort, StoreFull, AfterEnd, BadStore}
use Rattle.frame_hunter_rules.specs.Bytes.{number_of_hunter}
use Rattle.frame_hunter_rules.specs.Hunt.{act_on, followed, framer, took_by, hunt_from, take_one}

-- P12: 26 dropped, P1 handed out
pub examples : take_one verdict_of (framer (p2 ++ p1) 0 false) ≡ record { frame = p1; after = framer [] 26 false }
unfolding take_one took_by hunt_from followed act_on verdict_of as_verdict stage_of frame_reader body_reader checksum_for ◌>>=◌ literal with_head any headed text_kind text begin_string may_become digit_kind body_length is_digit worth sum_of checksum_digits
examples = refl

-- RULES.md, Numbers
numbers : map number_of_hunter (Fine ∷ OutputShort ∷ StoreFull ∷ AfterEnd ∷ BadStore ∷ []) ≡ 0 ∷ 23 ∷ 25 ∷ 26 ∷ 27 ∷ []
unfolding number_of_hunter
numbers = refl
