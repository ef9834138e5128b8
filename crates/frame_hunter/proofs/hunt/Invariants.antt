-- `hunt` meets its contract. The invariant: the hunt from here, behind the places passed, has the outcome of the whole.
-- Each turn is one law of `Moves`.
use Rattle.std.proofs.Common.{◌≡◌, drop}
use Rattle.frame_verdict_rules.specs.Verdict.{verdict_of}
use Rattle.frame_hunter_rules.specs.Hunt.{hunt_from}
use Rattle.frame_hunter.proofs.Moves.{behind}
use Rattle.frame_hunter.proofs.hunt.Given as goal

abbrev pub invariant-loop-place : goal.invariant-loop-place
invariant-loop-place l = hunt_from verdict_of l.ended l.held ≡ behind l.place (hunt_from verdict_of l.ended (drop l.place l.held))
