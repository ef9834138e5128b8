-- What the run check and the entry check keep. The loops' invariant: what is left of the records has the outcome of all of them.
-- A run's depth is twice what is left of it and one, an entry's is twice.
use Rattle.std.proofs.Common.{◌≡◌, ◌+◌, ◌-◌, ◌*◌, ◌<◌, true}
use Rattle.build_records.specs.Records.{records_of, record_at, between}
use Rattle.build_required_rules.specs.Checking.{starts_at}
use Rattle.build_required.proofs.Turns.{nested_left, entries_left}
use Rattle.build_required.proofs.+checking.Given as goal

abbrev pub decreases-check_entry : goal.decreases-check_entry
decreases-check_entry l = 2 * (5 - l.group.depth)

abbrev pub decreases-check_run : goal.decreases-check_run
decreases-check_run l = 2 * (5 - l.group.depth) + 1

abbrev pub invariant-check_entry-loop-at : goal.invariant-check_entry-loop-at
invariant-check_entry-loop-at l =
    nested_left l.table l.group (between l.from l.to (records_of l.words)) ≡ nested_left l.table l.group (between l.at l.to (records_of l.words))

abbrev pub decreases-check_entry-loop-at : goal.decreases-check_entry-loop-at
decreases-check_entry-loop-at l = l.to - l.at

-- each turn starts where an entry does
abbrev pub invariant-check_run-loop-at : goal.invariant-check_run-loop-at
invariant-check_run-loop-at l = record {
  left : entries_left l.table l.group (between l.from l.to (records_of l.words)) ≡ entries_left l.table l.group (between l.at l.to (records_of l.words));
  starts : l.at < l.to → starts_at l.table l.group (record_at l.at (records_of l.words)) ≡ true;
}

abbrev pub decreases-check_run-loop-at : goal.decreases-check_run-loop-at
decreases-check_run-loop-at l = l.to - l.at
