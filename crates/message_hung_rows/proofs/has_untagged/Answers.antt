use mathlib.Core.Path.{sym, ◌∙◌}
use Rattle.message_hung_rows.specs.RowLaws.{untagged_here, untagged_on, untagged_end}
use Rattle.message_hung_rows.proofs.has_untagged.Goals as goal

pub returns-then-is_untagged : goal.returns-then-is_untagged
returns-then-is_untagged c = sym (c.loop-row.invariant ∙ untagged_here _ _ _ c.loop-row-test.true (sym c.is_untagged.ensures ∙ c.if-is_untagged.true))

pub loop-row-preserved : goal.loop-row-preserved
loop-row-preserved c = c.loop-row.invariant ∙ untagged_on _ _ _ c.loop-row-test.true (sym c.is_untagged.ensures ∙ c.if-is_untagged.false)

pub returns : goal.returns
returns c = sym (c.loop-row.invariant ∙ untagged_end _ _ _ c.loop-row-test.false)
