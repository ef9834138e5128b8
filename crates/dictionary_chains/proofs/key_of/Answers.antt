-- `key_of` meets its contract: each table reads its own words.
use Rattle.dictionary_chains.specs.Chain.{key_of}
use Rattle.dictionary_chains.proofs.key_of.Goals as goal

pub returns-in-Components : goal.returns-in-Components
unfolding key_of
returns-in-Components c = rw c.in-Components.is c.from-low.ensures

pub returns-in-Tags : goal.returns-in-Tags
unfolding key_of
returns-in-Tags c = rw (c.in-Tags.is, c.from.ensures, c.from-low.ensures)

pub returns-in-MsgTypes : goal.returns-in-MsgTypes
unfolding key_of
returns-in-MsgTypes c = rw (c.in-MsgTypes.is, c.from-in-MsgTypes-3.ensures, c.from-in-MsgTypes-2.ensures, c.from-in-MsgTypes.ensures, c.from-low.ensures)
