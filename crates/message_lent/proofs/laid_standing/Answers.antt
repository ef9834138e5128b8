-- `laid_standing` meets its contract, by its tests in their order.
use mathlib.Core.Path.{◌∙◌}
use borrow.Author.Tests.{eq-eqb, ne_eqb, le-leb, lt-leb}
use Rattle.message_lent_rules.specs.Lent.{rows_of, is_laid}
use Rattle.message_lent_rules.specs.Standing.{laid_standing}
use Rattle.message_lent_rules.proofs.StandingLaws.{too_large, stands-laid}
use Rattle.message_lent.proofs.laid_standing.Goals as goal

pub returns-then-words-ne-WORDS : goal.returns-then-words-ne-WORDS
unfolding laid_standing is_laid
returns-then-words-ne-WORDS c = rw (ne_eqb _ _ c.if-words-ne-WORDS.true)

pub returns-then-values-ne8192 : goal.returns-then-values-ne8192
unfolding laid_standing is_laid
returns-then-values-ne8192 c = rw (eq-eqb _ _ c.if-words-ne-WORDS.false, ne_eqb _ _ c.if-values-ne8192.true)

pub returns-then-count-gt-ROWS : goal.returns-then-count-gt-ROWS
unfolding laid_standing is_laid
returns-then-count-gt-ROWS c = rw (eq-eqb _ _ c.if-words-ne-WORDS.false, eq-eqb _ _ c.if-values-ne8192.false, lt-leb _ _ (rw c.row_count-count.ensures at c.if-count-gt-ROWS.true))

pub returns-then-size_between-gt8192 : goal.returns-then-size_between-gt8192
unfolding rows_of
returns-then-size_between-gt8192 c = too_large _ _ (eq-eqb _ _ c.if-words-ne-WORDS.false) (eq-eqb _ _ c.if-values-ne8192.false) (le-leb _ _ (rw c.row_count-count.ensures at c.if-count-gt-ROWS.false))
    (lt-leb _ _ (rw (c.size_between.ensures, c.row_count-count.ensures) at c.if-size_between-gt8192.true))

pub returns : goal.returns
unfolding rows_of
returns c = rw c.row_count-count.ensures at c.standing.ensures
    ∙ stands-laid _ _ (eq-eqb _ _ c.if-words-ne-WORDS.false) (eq-eqb _ _ c.if-values-ne8192.false) (le-leb _ _ (rw c.row_count-count.ensures at c.if-count-gt-ROWS.false))
    (le-leb _ _ (rw (c.size_between.ensures, c.row_count-count.ensures) at c.if-size_between-gt8192.false))
