use mathlib.Core.Path.{refl, sym, ◌∙◌}
use native.Mathlib.Omega.{arith}
use Rattle.field_rules.proofs.FieldsLaws.{step-inside}
use Rattle.build_parts.specs.Trailer.{trailer_told, trailer_counts}
use Rattle.build_parts.specs.TrailerLaws.{trailer-stops, trailer-crowded, trailer-ends, trailer-on}
use Rattle.build_parts.proofs.read_trailer.Goals as goal

pub loop-config-init : goal.loop-config-init
loop-config-init c = (refl, omega arith, omega arith, c.requires.1, refl, refl)

pub shape_of-words-then-tag-eq-CHECKSUM : goal.shape_of-words-then-tag-eq-CHECKSUM
shape_of-words-then-tag-eq-CHECKSUM c = c.loop-config.invariant.0

pub returns-then-tag-eq-CHECKSUM : goal.returns-then-tag-eq-CHECKSUM
unfolding trailer_told trailer_counts
returns-then-tag-eq-CHECKSUM c = record { words_after = sym (c.loop-config.invariant.5 ∙ trailer-stops _ _ _ _ c.if-tag-eq-CHECKSUM.true); from_bound = (omega arith, omega arith); words_unchanged = c.loop-config.invariant.4 }

pub shape_of-words-then-room-eq0 : goal.shape_of-words-then-room-eq0
shape_of-words-then-room-eq0 c = c.loop-config.invariant.0

pub returns-then-room-eq0 : goal.returns-then-room-eq0
unfolding trailer_told trailer_counts
returns-then-room-eq0 c = record { words_after = sym (c.loop-config.invariant.5 ∙ trailer-crowded _ _ _ _ c.if-tag-eq-CHECKSUM.false c.if-room-eq0.true); from_bound = (omega arith, omega arith); words_unchanged = c.loop-config.invariant.4 }

pub record_of-requires : goal.record_of-requires
record_of-requires c = (omega (arith, c.loop-config.invariant.3.within), omega (arith, c.loop-config.invariant.3.within))

pub keep-records-requires : goal.keep-records-requires
keep-records-requires c = (omega arith, omega arith)

pub shape_of-words-in_default : goal.shape_of-words-in_default
shape_of-words-in_default c = c.keep-records.auto.words ∙ c.loop-config.invariant.0

pub returns-in_default : goal.returns-in_default
unfolding trailer_told trailer_counts
returns-in_default c = record { words_after = sym (c.loop-config.invariant.5 ∙ trailer-ends _ _ _ _ _ c.if-tag-eq-CHECKSUM.false (omega arith) _ _ (sym c.next_field.ensures ∙ c.in_default.is) ∙ rw (c.keep-records.ensures.part, c.record_of.ensures)); from_bound = (omega (arith, c.keep-records.ensures.grows), omega (arith, c.keep-records.ensures.by_one)); words_unchanged = c.keep-records.ensures.before ∙ c.loop-config.invariant.4 }

pub loop-config-preserved : goal.loop-config-preserved
loop-config-preserved c = let r = sym c.next_field.ensures ∙ c.in-Ok.is in (
  c.keep-records.auto.words ∙ c.loop-config.invariant.0,
  omega (arith, c.keep-records.ensures.by_one),
  omega (arith, c.keep-records.ensures.grows),
  step-inside _ _ _ _ r,
  c.keep-records.ensures.before ∙ c.loop-config.invariant.4,
  c.loop-config.invariant.5 ∙ trailer-on _ _ _ _ _ c.if-tag-eq-CHECKSUM.false (omega arith) _ r ∙ rw (c.keep-records.ensures.part, c.record_of.ensures),
)
