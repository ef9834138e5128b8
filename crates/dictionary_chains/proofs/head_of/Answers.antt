-- `head_of` meets its contract: each table has its own 2,048 heads.
use native.Mathlib.Omega.{arith}
use Rattle.dictionary_chains.specs.Chain.{head_of, rank_of}
use Rattle.dictionary_chains.proofs.head_of.Goals as goal

pub returns-in-Tags : goal.returns-in-Tags
unfolding head_of rank_of
returns-in-Tags c = rw c.in-Tags.is (omega arith)

pub returns-in-Components : goal.returns-in-Components
unfolding head_of rank_of
returns-in-Components c = rw c.in-Components.is (omega arith)

pub returns-in-MsgTypes : goal.returns-in-MsgTypes
unfolding head_of rank_of
returns-in-MsgTypes c = rw c.in-MsgTypes.is (omega arith)
