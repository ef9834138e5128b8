-- `message_of` meets its contract: an entry that is found holds the place.
use mathlib.Core.Path.{sym, ◌∙◌}
use borrow.Author.Rules.{rules}
use Rattle.dictionary_chains.specs.Chain.{key_room}
use Rattle.dictionary_chains.proofs.ChainLaws.{found_small}
use Rattle.dictionary_chains.specs.declared.Table.TheVariants.{MsgTypes}
use Rattle.dictionary_rules.specs.IndexLaws.{message-nowhere, message-placed}
use Rattle.dictionary_names.proofs.message_of.Goals as goal

-- the key is of 64 bits, as a MsgType's must be
pub find-at-requires : goal.find-at-requires
unfolding key_room
find-at-requires c = search rules

pub returns-then-at-eq0 : goal.returns-then-at-eq0
returns-then-at-eq0 c = sym (message-nowhere _ _ (sym c.find-at.ensures ∙ c.if-at-eq0.true))

pub entry_at-entry-requires : goal.entry_at-entry-requires
entry_at-entry-requires c = (c.requires, rw c.find-at.ensures (found_small MsgTypes _ _))

pub returns : goal.returns
returns c = sym (message-placed _ _ _ (sym c.find-at.ensures) c.if-at-eq0.false ∙ rw c.entry_at-entry.ensures)
