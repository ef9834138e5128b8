use mathlib.Core.Path.{◌≡◌, refl, sym, ap, ◌∙◌}
use mathlib.Core.List.{◌∷◌}
use native.Mathlib.Omega.{arith}
use lib.ListN.{length}
use Rattle.dictionary_tables_rules.specs.Table.{required_from, required_of}
use Rattle.dictionary_tables_rules.proofs.MarkLaws.{required_none, required_first}
use Rattle.build_required_rules.specs.Checking.{table_demands, lack_of_fields}
use Rattle.build_required_rules.specs.RequiredLaws.{has-held, has_not, fields-over, fields_missing, fields-next}
use Rattle.build_required.proofs.check_fields.Goals as goal
use Rattle.build_required.proofs.check_fields.Goals.{In-Some}

pub loop-tag-init : goal.loop-tag-init
unfolding lack_of_fields table_demands required_of
loop-tag-init c = refl

pub returns-in_default : goal.returns-in_default
returns-in_default c = sym (c.loop-tag.invariant ∙ fields-over _ _ _ _ (required_none _ _ _ (sym c.next_required.ensures ∙ c.in_default.is)))

-- the next required tag, and those behind it
next-tag : (c : In-Some) → required_from c.args.table.now c.args.group.level c.loop-tag.link ≡ c.in-Some.tag ∷ required_from c.args.table.now c.args.group.level c.in-Some.behind
next-tag c = required_first _ _ _ _ _ (sym c.next_required.ensures ∙ c.in-Some.is)

pub returns-in_default-held : goal.returns-in_default-held
returns-in_default-held c = sym (c.loop-tag.invariant ∙ fields_missing _ _ _ _ _ _ (next-tag (goal.at.returns-in_default-held c).In-Some) (has_not _ _ _ _ (sym c.held.ensures ∙ c.in_default-held.is)))

pub loop-tag-smaller : goal.loop-tag-smaller
loop-tag-smaller c = omega (arith, ap length (next-tag (goal.at.loop-tag-smaller c).In-Some))

pub loop-tag-preserved : goal.loop-tag-preserved
loop-tag-preserved c = c.loop-tag.invariant ∙ fields-next _ _ _ _ _ _ (next-tag (goal.at.loop-tag-preserved c).In-Some) (has-held _ _ _ _ _ (sym c.held.ensures ∙ c.in-Some-held.is))
