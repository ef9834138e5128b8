-- `body_length_at` meets its contract. The invariant: what is left has the outcome of the whole, behind digits worth `n`; and `n` stays
-- small enough for the next digit. Each turn is one law of `Loops`.
use mathlib.Core.Path.{◌≡◌}
use Prim.Native.Nat.{◌-◌, ◌≤◌}
use lib.ListN.{drop}
use Rattle.frame_verdict_rules.specs.Readers.{body_length}
use Rattle.frame_verdict_rules.specs.Verdict.{length_of}
use Rattle.frame_verdict.proofs.body_length_at.Given as goal

abbrev pub invariant-loop-place : goal.invariant-loop-place
invariant-loop-place l = record {
  few : l.place - l.at ≤ 5;
  small : l.n ≤ 8192;
  outcome : length_of 0 l.bytes (body_length 5 l.allowed 0 (drop l.at l.bytes))
      ≡ length_of l.n l.bytes (body_length (5 - (l.place - l.at)) (l.allowed - (l.place - l.at)) l.n (drop l.place l.bytes));
}
