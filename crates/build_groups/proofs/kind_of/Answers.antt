-- `kind_of` meets its contract: each return cites the law of its way, with what the look-ups before it answered.
use mathlib.Core.Path.{sym, ◌∙◌}
use Rattle.build_group_rules.specs.Reading.{meant}
use Rattle.build_groups.proofs.LookUps.{kind_delimiter, kind_user, kind_other, kind_wrong, kind_plain, kind_count, kind_deep}
use Rattle.build_groups.proofs.kind_of.Goals as goal

pub returns-then-opens : goal.returns-then-opens
unfolding meant
returns-then-opens c = sym (kind_delimiter _ _ _ _ _ _ (sym c.opens.ensures ∙ c.if-opens.true))

pub returns-then-accepted : goal.returns-then-accepted
unfolding meant
returns-then-accepted c =
    sym (kind_user _ _ _ _ _ _ (sym c.opens.ensures ∙ c.if-opens.false) (sym c.item_of.ensures ∙ c.in_default.is) (sym c.accepted.ensures ∙ c.if-accepted.true))

pub returns-in_default : goal.returns-in_default
unfolding meant
returns-in_default c =
    sym (kind_other _ _ _ _ _ _ (sym c.opens.ensures ∙ c.if-opens.false) (sym c.item_of.ensures ∙ c.in_default.is) (sym c.accepted.ensures ∙ c.if-accepted.false))

pub returns-then-position-last : goal.returns-then-position-last
unfolding meant
returns-then-position-last c =
    sym (kind_wrong _ _ _ _ _ _ (sym c.opens.ensures ∙ c.if-opens.false) _ _ (sym c.item_of.ensures ∙ c.in-Some.is) c.if-position-last.true)

pub returns-then-inner-eq0 : goal.returns-then-inner-eq0
unfolding meant
returns-then-inner-eq0 c =
    sym (kind_plain _ _ _ _ _ _ (sym c.opens.ensures ∙ c.if-opens.false) _ _ (sym c.item_of.ensures ∙ c.in-Some.is) c.if-position-last.false c.if-inner-eq0.true)

pub returns-then-group-lt-LEVELS : goal.returns-then-group-lt-LEVELS
unfolding meant
returns-then-group-lt-LEVELS c =
    sym (kind_count _ _ _ _ _ _ (sym c.opens.ensures ∙ c.if-opens.false) _ _ (sym c.item_of.ensures ∙ c.in-Some.is) c.if-position-last.false c.if-inner-eq0.false c.if-group-lt-LEVELS.true)

pub returns : goal.returns
unfolding meant
returns c =
    sym (kind_deep _ _ _ _ _ _ (sym c.opens.ensures ∙ c.if-opens.false) _ _ (sym c.item_of.ensures ∙ c.in-Some.is) c.if-position-last.false c.if-inner-eq0.false c.if-group-lt-LEVELS.false)
