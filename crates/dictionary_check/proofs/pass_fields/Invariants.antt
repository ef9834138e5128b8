-- `pass_fields` meets its contract. The invariant: what was passed.
use Prim.Native.Nat.{◌-◌}
use lib.ListN.{length}
use Rattle.dictionary_rules.specs.Passing.{Passed}
use Rattle.dictionary_rules.specs.declared.State.TheVariants.{Inside}
use Rattle.dictionary_check.proofs.pass_fields.Given as goal

abbrev pub invariant-loop-counted : goal.invariant-loop-counted
invariant-loop-counted l = Passed l.dictionary l.from (Inside l.initial.counted) l.index l.at (Inside l.counted) l.index

abbrev pub decreases-loop-counted : goal.decreases-loop-counted
decreases-loop-counted l = length l.dictionary - l.at
