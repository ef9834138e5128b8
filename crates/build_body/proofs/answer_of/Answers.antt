-- `answer_of` meets its contract: each refusal has its answer.
use mathlib.Core.Path.{sym, ap}
use Rattle.build_group_rules.specs.Reading.{answer_of}
use Rattle.build_body.proofs.answer_of.Goals as goal

pub returns-in-Malformed : goal.returns-in-Malformed
unfolding answer_of
returns-in-Malformed c = sym (ap answer_of c.in-Malformed.is)

pub returns-in-TooManyFields : goal.returns-in-TooManyFields
unfolding answer_of
returns-in-TooManyFields c = sym (ap answer_of c.in-TooManyFields.is)

pub returns-in-InvalidOrderInGroup : goal.returns-in-InvalidOrderInGroup
unfolding answer_of
returns-in-InvalidOrderInGroup c = sym (ap answer_of c.in-InvalidOrderInGroup.is)
