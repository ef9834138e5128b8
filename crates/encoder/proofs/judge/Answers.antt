-- `judge` meets its contract: what the rows' standing tells is what the message is judged by.
use mathlib.Core.Path.{sym, ◌∙◌}
use Rattle.message_lent_rules.proofs.StandingLaws.{refused_none, uncounted-held, counted-held}
use Rattle.encoder.specs.VerdictLaws.{refused-message}
use Rattle.encoder.proofs.judge.Goals as goal

pub returns-in-Refused : goal.returns-in-Refused
returns-in-Refused c = sym (refused-message _ _ _ _ (refused_none _ _ (sym c.message_standing-standing.ensures ∙ c.in-Refused.is)))

pub measure-requires : goal.measure-requires
measure-requires c = record { values_value = (uncounted-held _ _ (sym c.message_standing-standing.ensures ∙ c.in-Uncounted.is)).0; loose_value = (uncounted-held _ _ (sym c.message_standing-standing.ensures ∙ c.in-Uncounted.is)).1 }

pub returns-in-Uncounted : goal.returns-in-Uncounted
returns-in-Uncounted c = c.measure.ensures

pub measure-requires-in-Counted : goal.measure-requires-in-Counted
measure-requires-in-Counted c = record { values_value = (counted-held _ _ (sym c.message_standing-standing.ensures ∙ c.in-Counted.is)).0; loose_value = (counted-held _ _ (sym c.message_standing-standing.ensures ∙ c.in-Counted.is)).1 }

pub returns-in-Counted : goal.returns-in-Counted
returns-in-Counted c = c.measure-in-Counted.ensures
