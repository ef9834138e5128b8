-- `kind_of` meets its contract: each return cites the law of its way, with what the look-ups before it answered.
use mathlib.Core.Path.{◌≡◌, sym, ◌∙◌}
use Rattle.dictionary_tables_rules.specs.Table.{item_of}
use Rattle.build_body_rules.specs.Kinds.{meant_by}
use Rattle.build_body_rules.specs.KindLaws.{kind_user, kind_other, kind_plain, kind_counts}
use Rattle.build_body.proofs.kind_of.Goals as goal
use Rattle.build_body.proofs.kind_of.Goals.{In-Some, In_default}
use Rattle.std.proofs.Common.{Some, None}

-- the tag is no item of the level, or it is one
nowhere : (c : In_default) → item_of c.args.table.now c.args.level c.args.tag ≡ None
nowhere c = sym c.item_of.ensures ∙ c.in_default.is

stands : (c : In-Some) → item_of c.args.table.now c.args.level c.args.tag ≡ Some (c.in-Some.field-0-0, c.in-Some.inner)
stands c = sym c.item_of.ensures ∙ c.in-Some.is

pub returns-then-accepted : goal.returns-then-accepted
unfolding meant_by
returns-then-accepted c = sym (kind_user _ _ _ _ _ (nowhere (goal.at.returns-then-accepted c).In_default) (sym c.accepted.ensures ∙ c.if-accepted.true))

pub returns-in_default : goal.returns-in_default
unfolding meant_by
returns-in_default c = sym (kind_other _ _ _ _ _ (nowhere (goal.at.returns-in_default c).In_default) (sym c.accepted.ensures ∙ c.if-accepted.false))

pub returns-then-inner-eq0 : goal.returns-then-inner-eq0
unfolding meant_by
returns-then-inner-eq0 c = sym (kind_plain _ _ _ _ _ _ _ (stands (goal.at.returns-then-inner-eq0 c).In-Some) c.if-inner-eq0.true)

pub returns : goal.returns
unfolding meant_by
returns c = sym (kind_counts _ _ _ _ _ _ _ (stands (goal.at.returns c).In-Some) c.if-inner-eq0.false)
