-- `most_turns` meets its contract: each table has its own number.
use Rattle.dictionary_chains.specs.Chain.{most_turns}
use Rattle.dictionary_chains.proofs.most_turns.Goals as goal

pub returns-in-Tags : goal.returns-in-Tags
unfolding most_turns
returns-in-Tags c = rw c.in-Tags.is

pub returns-in-Components : goal.returns-in-Components
unfolding most_turns
returns-in-Components c = rw c.in-Components.is

pub returns-in-MsgTypes : goal.returns-in-MsgTypes
unfolding most_turns
returns-in-MsgTypes c = rw c.in-MsgTypes.is
