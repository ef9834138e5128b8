use mathlib.Core.Path.{refl, sym, ◌∙◌}
use native.Mathlib.Omega.{arith}
use Rattle.build_parts.specs.Parts.{part_told}
use Rattle.build_parts.specs.PartLaws.{Taken, taken, none_before, stays-refused, stays_at}
use Rattle.build_parts.specs.HeaderLaws.{header_missing, header_takes, header-stops}
use Rattle.build_parts.proofs.read_header.Goals as goal
use Rattle.build_parts.proofs.read_header.Goals.{In-Ok}

pub loop-answer-init : goal.loop-answer-init
loop-answer-init c = (refl, omega arith, omega arith, refl)

pub shape_of-words-in-Err : goal.shape_of-words-in-Err
shape_of-words-in-Err c = c.loop-answer.invariant.0

pub returns-in-Err : goal.returns-in-Err
unfolding part_told
returns-in-Err c = record { words_after = sym (c.loop-answer.invariant.3 ∙ header_missing _ _ _ _ _ _ _ (sym c.next_field.ensures ∙ c.in-Err.is)); stays = stays-refused _ _ _ _ _ (none_before _ _) _ }

-- the field that was read
got : (c : In-Ok) → Taken c.args.config.mode c.args.message.now c.loop-answer.at c.loop-answer.room c.in-Ok.field
got c = taken _ _ _ _ _ (sym c.next_field.ensures ∙ c.in-Ok.is)

pub overflow_sub-room : goal.overflow_sub-room
overflow_sub-room c = omega (arith, (got c).one_less)

pub shape_of-words-then-not-holds : goal.shape_of-words-then-not-holds
shape_of-words-then-not-holds c = c.loop-answer.invariant.0

pub returns-then-not-holds : goal.returns-then-not-holds
unfolding part_told
returns-then-not-holds c = record { words_after = sym (c.loop-answer.invariant.3 ∙ header-stops _ _ _ _ _ _ _ (sym c.next_field.ensures ∙ c.in-Ok.is) (sym c.holds.ensures ∙ c.if-not-holds.true)); stays = stays_at _ _ _ _ _ (none_before _ _) _ _ (record { fits = omega (arith, (got (goal.at.returns-then-not-holds c).In-Ok).one_less); inside = (got (goal.at.returns-then-not-holds c).In-Ok).inside; starts = omega arith; falls = omega (arith, (got (goal.at.returns-then-not-holds c).In-Ok).one_less) }) }

pub record_of-requires : goal.record_of-requires
record_of-requires c = let i = (got (goal.at.record_of-requires c).In-Ok).inside in (omega (arith, i.within), omega (arith, i.within))

pub keep-records-requires : goal.keep-records-requires
keep-records-requires c = (omega arith, omega (arith, (got (goal.at.keep-records-requires c).In-Ok).one_less))

pub loop-answer-smaller : goal.loop-answer-smaller
loop-answer-smaller c = omega (arith, (got (goal.at.loop-answer-smaller c).In-Ok).one_less)

pub loop-answer-preserved : goal.loop-answer-preserved
loop-answer-preserved c = (
  c.keep-records.auto.words ∙ c.loop-answer.invariant.0,
  omega (arith, (got (goal.at.loop-answer-preserved c).In-Ok).one_less, c.keep-records.ensures.by_one),
  omega arith,
  c.loop-answer.invariant.3
      ∙ header_takes _ _ _ _ _ _ _ (sym c.next_field.ensures ∙ c.in-Ok.is) (sym c.holds.ensures ∙ c.if-not-holds.false)
      ∙ rw (c.keep-records.ensures.part, c.record_of.ensures),
)
