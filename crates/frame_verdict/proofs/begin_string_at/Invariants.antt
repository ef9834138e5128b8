-- `begin_string_at` meets its contract. The invariant: a text that lacks one byte less and has room for one less for each byte read.
-- Each turn is one law of `Loops`.
use mathlib.Core.Path.{◌≡◌}
use Prim.Native.Nat.{◌-◌, ◌≤◌}
use lib.ListN.{drop}
use Rattle.frame_verdict_rules.specs.Readers.{text, begin_string}
use Rattle.frame_verdict_rules.specs.Verdict.{stage_of}
use Rattle.frame_verdict.proofs.begin_string_at.Given as goal

abbrev pub invariant-loop-place : goal.invariant-loop-place
invariant-loop-place l = record {
  few : l.place - l.at ≤ 16;
  outcome : stage_of l.bytes (begin_string (drop l.at l.bytes)) ≡ stage_of l.bytes (text (1 - (l.place - l.at)) (16 - (l.place - l.at)) (drop l.place l.bytes));
}
