-- `judge` meets its contract, by the laws of a turn. The invariant: the rows that are left have the outcome of all, the table knows those
-- passed, and the flag says whether one of them is an entry of a run without its count.
use Rattle.message_allowed.proofs.TurnLaws.{Turn}
use Rattle.message_allowed.proofs.judge.Given as goal

abbrev pub invariant-loop-i : goal.invariant-loop-i
invariant-loop-i l = Turn l.words l.tops l.to l.table l.loose l.i
