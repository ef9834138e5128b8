-- `literal_at` meets its contract. The invariant: what is left of both has the outcome of the whole; each turn is one law of `Loops`.
use mathlib.Core.Path.{◌≡◌}
use Prim.Native.Nat.{◌+◌, ◌≤◌}
use lib.ListN.{length, drop}
use Rattle.frame_verdict_rules.specs.Readers.{literal}
use Rattle.frame_verdict_rules.specs.Verdict.{stage_of}
use Rattle.frame_verdict.proofs.literal_at.Given as goal

abbrev pub invariant-loop-i : goal.invariant-loop-i
invariant-loop-i l = record {
  within : l.at + l.i ≤ length l.bytes;
  outcome : stage_of l.bytes (literal l.wanted (drop l.at l.bytes)) ≡ stage_of l.bytes (literal (drop l.i l.wanted) (drop (l.at + l.i) l.bytes));
}
