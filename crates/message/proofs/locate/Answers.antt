-- `locate` meets its contract: where the check passes, the part's rows are told.
use mathlib.Core.Path.{◌≡◌, sym, ◌∙◌}
use mathlib.Core.Bool.{true}
use Rattle.message_lent_rules.specs.Lent.{is_message}
use Rattle.message_rules.specs.RowChanges.{located_in}
use Rattle.message.proofs.locate.Goals as goal

pub returns-then-not-is_message : goal.returns-then-not-is_message
unfolding located_in
returns-then-not-is_message c = rw (sym c.is_message.ensures ∙ c.if-not-is_message.true)

pub span_of-requires : goal.span_of-requires
span_of-requires c =
    let is_at : is_message c.args.words.now c.args.values.now ≡ true = sym c.is_message.ensures ∙ c.if-not-is_message.false in
    is_at

pub returns : goal.returns
unfolding located_in
returns c =
    let is_at : is_message c.args.words.now c.args.values.now ≡ true = sym c.is_message.ensures ∙ c.if-not-is_message.false in
    rw (is_at, c.span_of.ensures)
