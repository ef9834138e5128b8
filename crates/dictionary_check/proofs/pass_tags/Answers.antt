use Rattle.std.proofs.Common.{sym, ◌∙◌, ◌+◌, ◌≤◌, ◌<◌, arith, length}
use Rattle.dictionary_rules.specs.RecordsLaws.{record_falls}
use Rattle.dictionary_rules.proofs.PassingLaws.{passed_none, passed_on, passed-tag}
use Rattle.dictionary_check.proofs.pass_tags.Goals as goal
use Rattle.dictionary_check.proofs.pass_tags.Goals.{In-Some}

pub loop-tag-init : goal.loop-tag-init
loop-tag-init c = (c.requires.2, passed_none c.requires.0)

-- the record that is read ends in the dictionary
falls : (c : In-Some) → (c.loop-tag.at < c.loop-tag.at + 5) × (c.loop-tag.at + 5 ≤ length c.args.dictionary.now)
falls c = record_falls _ _ _ _ c.in-Some.ensures

pub known_tag_at-requires : goal.known_tag_at-requires
known_tag_at-requires c = c.loop-tag.invariant.1.within

pub overflow_cast-at : goal.overflow_cast-at
overflow_cast-at c = omega (arith, falls (goal.at.overflow_cast-at c).In-Some)

pub know_tag-requires : goal.know_tag-requires
know_tag-requires c = c.loop-tag.invariant.0

pub overflow_add-at : goal.overflow_add-at
overflow_add-at c = omega (arith, falls (goal.at.overflow_add-at c).In-Some)

pub loop-tag-smaller : goal.loop-tag-smaller
loop-tag-smaller c = omega (arith, falls (goal.at.loop-tag-smaller c).In-Some)

pub loop-tag-preserved : goal.loop-tag-preserved
loop-tag-preserved c = (
  c.know_tag.auto.index ∙ c.loop-tag.invariant.0,
  passed_on c.loop-tag.invariant.1 (rw c.know_tag.ensures (passed-tag c.in-Some.ensures)),
)

pub shape_of-index : goal.shape_of-index
shape_of-index c = c.loop-tag.invariant.0 ∙ sym c.requires.2

pub returns : goal.returns
returns c = c.loop-tag.invariant.1
