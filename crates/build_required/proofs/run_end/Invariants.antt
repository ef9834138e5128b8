-- `run_end` meets its contract. The loop's invariant: the end that is found from here on is the one that is found from the start.
use mathlib.Core.Path.{◌≡◌}
use Prim.Native.Nat.{max, ◌≤◌}
use Rattle.build_records.specs.Records.{records_of, between}
use Rattle.build_required_rules.specs.Required.{shallow}
use Rattle.build_required_rules.specs.Checking.{end_from}
use Rattle.build_required.proofs.run_end.Given as goal

abbrev pub invariant-loop-at : goal.invariant-loop-at
invariant-loop-at l = record {
  within : l.at ≤ max l.from l.to;
  end : end_from (shallow l.depth) l.from (between l.from l.to (records_of l.words)) ≡ end_from (shallow l.depth) l.at (between l.at l.to (records_of l.words));
}
