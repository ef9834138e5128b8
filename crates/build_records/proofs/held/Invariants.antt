-- `held` meets its contract. The loop's invariant: what is found from here on is what is found from the start.
use mathlib.Core.Path.{◌≡◌}
use Rattle.build_records.specs.Records.{records_of, between, held_from}
use Rattle.build_records.proofs.held.Given as goal

abbrev pub invariant-loop-at : goal.invariant-loop-at
invariant-loop-at l = held_from l.from l.depth l.tag (between l.from l.to (records_of l.words)) ≡ held_from l.at l.depth l.tag (between l.at l.to (records_of l.words))
