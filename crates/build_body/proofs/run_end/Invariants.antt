-- `run_end` meets its contract. The loop's invariant: what stands behind the run from here on is what stands behind it from its place on.
use mathlib.Core.Path.{◌≡◌}
use Rattle.build_parts.specs.Parts.{part_of}
use Rattle.build_body_rules.specs.Body.{behind_run}
use Rattle.build_body.proofs.run_end.Given as goal

abbrev pub invariant-loop-end : goal.invariant-loop-end
invariant-loop-end l = behind_run (part_of l.place l.records l.words) ≡ behind_run (part_of l.end l.records l.words)
