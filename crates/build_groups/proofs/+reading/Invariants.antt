-- What the run reader and the entry reader keep. The loops' invariant: what is left to be read from where reading stands has the outcome of
-- the whole, and reading stands within the message. A run's depth is twice what is left of it and one, an entry's is twice.
use Rattle.std.proofs.Common.{◌≡◌, ◌+◌, ◌-◌, ◌*◌, ◌≤◌, Ok}
use Rattle.field_rules.specs.declared.Field.{Field}
use Rattle.dictionary_rules.specs.Index.{tag_at}
use Rattle.build_group_rules.specs.Reading.{FitsAt}
use Rattle.build_group_rules.proofs.ReadingLaws.{room_of}
use Rattle.build_group_rules.specs.declared.Progress.{Progress}
use Rattle.build_groups.proofs.Turns.{entry_left, run_left}
use Rattle.build_groups.proofs.+reading.Given as goal

abbrev pub decreases-read_entry : goal.decreases-read_entry
decreases-read_entry l = 2 * (4 - l.group.depth)

abbrev pub decreases-read_run : goal.decreases-read_run
decreases-read_run l = 2 * (4 - l.group.depth) + 1

abbrev pub invariant-read_entry-loop-reading : goal.invariant-read_entry-loop-reading
invariant-read_entry-loop-reading l = record {
  fits : (f : Field) (progress : Progress) → l.reading ≡ Ok (f, progress) → FitsAt l.message f progress;
  left : entry_left l.message l.config l.table (tag_at l.index) l.group (record { number = l.number; last = l.initial.last; start = l.start }) l.initial.reading l.initial.words
      ≡ entry_left l.message l.config l.table (tag_at l.index) l.group (record { number = l.number; last = l.last; start = l.start }) l.reading l.words;
}

abbrev pub decreases-read_entry-loop-reading : goal.decreases-read_entry-loop-reading
decreases-read_entry-loop-reading l = room_of l.reading

abbrev pub invariant-read_run-loop-reading : goal.invariant-read_run-loop-reading
invariant-read_run-loop-reading l = record {
  counted : l.number + room_of l.reading ≤ room_of l.initial.reading;
  fits : (f : Field) (progress : Progress) → l.reading ≡ Ok (f, progress) → FitsAt l.message f progress;
  left : run_left l.message l.config l.table (tag_at l.index) l.group l.initial.number l.initial.reading l.initial.words
      ≡ run_left l.message l.config l.table (tag_at l.index) l.group l.number l.reading l.words;
}

abbrev pub decreases-read_run-loop-reading : goal.decreases-read_run-loop-reading
decreases-read_run-loop-reading l = room_of l.reading
