-- `is_draft` meets its contract: what is laid out is a draft within the limit of its fields.
use mathlib.Core.Path.{◌≡◌, sym, ◌∙◌}
use native.Mathlib.Omega.{arith}
use Rattle.message_lent_rules.specs.Lent.{rows_of, fields_in}
use Rattle.message_lent_rules.specs.LentLaws.{laid_out}
use Rattle.message_runs.specs.RowLaws.{draft_not, draft_on}
use Rattle.message_runs.proofs.is_draft.Goals as goal
use Rattle.message_runs.proofs.is_draft.Goals.{After-fields_in}

pub row_count-requires : goal.row_count-requires
row_count-requires c = (laid_out _ _ (sym c.is_laid.ensures ∙ c.if-is_laid.true)).whole

pub fields_in-requires : goal.fields_in-requires
fields_in-requires c = let l = laid_out _ _ (sym c.is_laid.ensures ∙ c.if-is_laid.true) in (omega arith, omega (arith, c.row_count.ensures, l.counted), l.whole)

fields_at : (c : After-fields_in) → c.fields_in.result ≡ fields_in 0 (rows_of c.args.words.now)
unfolding rows_of
fields_at c = rw c.row_count.ensures at c.fields_in.ensures

pub returns-then-is_laid : goal.returns-then-is_laid
returns-then-is_laid c = rw (fields_at c) (sym (draft_on _ _ (sym c.is_laid.ensures ∙ c.if-is_laid.true)))

pub returns-else-is_laid : goal.returns-else-is_laid
returns-else-is_laid c = c.if-is_laid.false ∙ sym (draft_not _ _ (sym c.is_laid.ensures ∙ c.if-is_laid.false))
