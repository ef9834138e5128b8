-- `pass` meets its contract, state by state.
use Rattle.dictionary_check.proofs.pass.Goals as goal

pub returns-in-TopLevel : goal.returns-in-TopLevel
returns-in-TopLevel c = rw c.in-TopLevel.is c.pass_tags-at.ensures

pub returns-in-Inside : goal.returns-in-Inside
returns-in-Inside c = rw c.in-Inside.is c.pass_fields.ensures
