-- `write` meets its contract: it stores the four words.
use mathlib.Core.Path.{refl}
use native.Mathlib.Omega.{arith}
use lib.ListN.{length-set}
use Rattle.dictionary_chains.specs.Chain.{written}
use Rattle.dictionary_chains.proofs.write.Goals as goal

pub bounds-index-at-2 : goal.bounds-index-at-2
bounds-index-at-2 c = simp length-set (omega arith)

pub bounds-index-at-3 : goal.bounds-index-at-3
bounds-index-at-3 c = simp length-set (omega arith)

pub bounds-index-at-4 : goal.bounds-index-at-4
bounds-index-at-4 c = simp length-set (omega arith)

pub returns : goal.returns
returns c = unfold written in refl
