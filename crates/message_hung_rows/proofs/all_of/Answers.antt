use mathlib.Core.Path.{sym, ◌∙◌}
use Rattle.message_hung_rows.specs.RowLaws.{all_not, all-on, all_end}
use Rattle.message_hung_rows.proofs.all_of.Goals as goal

pub returns-then-not-is_of : goal.returns-then-not-is_of
returns-then-not-is_of c = sym (c.loop-row.invariant ∙ all_not _ _ _ c.loop-row-test.true _ _ (sym c.is_of.ensures ∙ c.if-not-is_of.true))

pub loop-row-preserved : goal.loop-row-preserved
loop-row-preserved c = c.loop-row.invariant ∙ all-on _ _ _ c.loop-row-test.true _ _ (sym c.is_of.ensures ∙ c.if-not-is_of.false)

pub returns : goal.returns
returns c = sym (c.loop-row.invariant ∙ all_end _ _ _ c.loop-row-test.false _ _)
