-- `read_message` meets its contract: header, body and trailer are read in turn by the tags that are kept or listed. Each return cites the law of its way.
use mathlib.Core.Path.{sym, ◌∙◌}
use native.Mathlib.Omega.{arith}
use Rattle.builder.specs.Reading.{HeaderEnds}
use Rattle.builder.proofs.ReadingLaws.{begun-refused, body_refused, body_unfollowed, body-followed}
use Rattle.builder.proofs.read_message.Goals as goal
use Rattle.builder.proofs.read_message.Goals.{In-Ok}

header-ends : (c : In-Ok) → HeaderEnds c.args.message.now c.begin_by.new.words c.in-Ok.headed
header-ends c = c.begin_by.ensures.begins.ends _ c.in-Ok.is

pub begin_by-requires : goal.begin_by-requires
begin_by-requires c = (c.requires.0, c.requires.1, c.requires.2, c.tags_of-tags.ensures)

pub read_headed-requires : goal.read_headed-requires
read_headed-requires c = (c.requires.0, omega (arith, c.requires.1, c.begin_by.auto.words), header-ends (goal.at.read_headed-requires c).In-Ok, c.requires.2)

pub follows-requires : goal.follows-requires
follows-requires c = (c.requires.2, c.tags_of-tags.ensures)

pub close-requires : goal.close-requires
close-requires c = let e = c.read_headed.ensures.stays.ends _ _ c.in-Ok-read_headed.is in (
  c.requires.0,
  omega (arith, c.requires.1, c.begin_by.auto.words, c.read_headed.auto.words),
  (header-ends (goal.at.close-requires c).In-Ok).sums,
  record { fits = omega (arith, e.fits, c.read_headed.auto.words); inside = e.inside; starts = e.starts; falls = e.falls },
)

pub shape_of-words-then-follows : goal.shape_of-words-then-follows
shape_of-words-then-follows c = c.close.auto.words ∙ c.read_headed.auto.words ∙ c.begin_by.auto.words

pub returns-then-follows : goal.returns-then-follows
returns-then-follows c = record {
  words_after = c.close.ensures.words_after
      ∙ body-followed _ _ _ _ _ _ _ c.tags_of-tags.ensures _ c.begin_by.ensures.words_after _ c.in-Ok.is _ _
      c.read_headed.ensures.by_index _ _ c.in-Ok-read_headed.is (sym c.follows.ensures ∙ c.if-follows.true);
  records_le_record_room = c.close.ensures.records_le_record_room;
}

pub returns-in-Err : goal.returns-in-Err
returns-in-Err c = record { words_after = c.refused.ensures.0 _ ∙ begun-refused _ _ _ _ _ _ _ c.tags_of-tags.ensures _ c.begin_by.ensures.words_after _ c.in-Err.is _; records_le_record_room = omega (arith, c.refused.ensures.1) }

pub returns-in-Err-read_headed : goal.returns-in-Err-read_headed
returns-in-Err-read_headed c = record {
  words_after = c.refused-in-Err-read_headed.ensures.0 _
      ∙ body_refused _ _ _ _ _ _ _ c.tags_of-tags.ensures _ c.begin_by.ensures.words_after _ c.in-Ok.is _ _
      c.read_headed.ensures.by_index _ c.in-Err-read_headed.is;
  records_le_record_room = omega (arith, c.refused-in-Err-read_headed.ensures.1, (header-ends (goal.at.returns-in-Err-read_headed c).In-Ok).fits, c.begin_by.auto.words, c.requires.1);
}

pub returns-else-follows : goal.returns-else-follows
returns-else-follows c = record {
  words_after = c.refused-in-Ok-read_headed.ensures.0 _
      ∙ body_unfollowed _ _ _ _ _ _ _ c.tags_of-tags.ensures _ c.begin_by.ensures.words_after _ c.in-Ok.is _ _
      c.read_headed.ensures.by_index _ _ c.in-Ok-read_headed.is (sym c.follows.ensures ∙ c.if-follows.false);
  records_le_record_room = omega (arith, c.refused-in-Ok-read_headed.ensures.1, (header-ends (goal.at.returns-else-follows c).In-Ok).fits, c.begin_by.auto.words, c.requires.1);
}
