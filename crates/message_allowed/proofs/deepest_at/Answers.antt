-- `deepest_at` meets its contract, by the row before.
use mathlib.Core.Path.{sym, ◌∙◌}
use native.Mathlib.Omega.{arith}
use borrow.Author.Tests.{eq-eqb, ne_eqb}
use Rattle.message_maps.specs.Rows.{row_at, rows_before, level_of}
use Rattle.message_maps.specs.RowsLaws.{before-step}
use Rattle.message_lent_rules.specs.Lent.{deepest}
use Rattle.message_allowed.proofs.deepest_at.Goals as goal

pub returns-then-row-eq0 : goal.returns-then-row-eq0
unfolding deepest rows_before
returns-then-row-eq0 c = let e = c.if-row-eq0.true in rw e

pub returns-then-kind_of-eq2 : goal.returns-then-kind_of-eq2
unfolding deepest row_at level_of
returns-then-kind_of-eq2 c = rw (before-step c.args.words.now c.args.row (omega arith), eq-eqb _ 2 (sym c.kind_of.ensures ∙ c.if-kind_of-eq2.true))
    (omega (arith, c.level_of-outer.ensures))

pub returns : goal.returns
unfolding deepest row_at level_of
returns c = rw (before-step c.args.words.now c.args.row (omega arith), ne_eqb _ 2 (λ e. c.if-kind_of-eq2.false (c.kind_of.ensures ∙ e)))
    (omega (arith, c.level_of-outer.ensures))
