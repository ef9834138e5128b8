-- `follows_on` meets its contract, by the newest row that is no deeper.
use mathlib.Core.Path.{◌≡◌, sym, ◌∙◌}
use Prim.Native.Nat.{ℕ, ◌+◌, ◌<◌}
use mathlib.Core.List.{List}
use native.Mathlib.Omega.{arith}
use lib.ListN.{get_or}
use Rattle.message_maps.specs.Rows.{rows_before}
use Rattle.message_allowed.specs.Distinct.{opened, reach}
use Rattle.message_allowed.specs.Branch.{Known}
use Rattle.message_allowed.specs.RowLaws.{opened-few, follows_nothing, follows_row}
use Rattle.message_allowed.proofs.follows_on.Goals as goal

-- the newest row that is no deeper is the one that the table has
newest : (words table : List ℕ) (row tops level : ℕ) → Known words row tops table → level < reach (rows_before row words)
    → get_or table (tops + (level + 1)) 0 ≡ opened (level + 1) (rows_before row words)
newest words table row tops level known h = known.opens (level + 1) (omega arith)

pub returns-else-last-ne0 : goal.returns-else-last-ne0
returns-else-last-ne0 c =
    rw c.if-last-ne0.false
    (sym (follows_nothing c.args.words.now c.args.level c.args.start c.args.delimiter c.args.row (sym (newest _ _ _ _ _ c.requires.3 c.requires.4) ∙ c.if-last-ne0.false)))

pub continues_run-requires : goal.continues_run-requires
continues_run-requires c =
    (omega (arith, newest _ _ _ _ _ c.requires.3 c.requires.4, opened-few c.args.words.now (c.args.level + 1) c.args.row, c.if-last-ne0.true), c.requires.1)

pub returns-then-last-ne0 : goal.returns-then-last-ne0
returns-then-last-ne0 c =
    let last = newest _ _ _ _ _ c.requires.3 c.requires.4 in
    c.continues_run.ensures
    ∙ rw last (sym (follows_row c.args.words.now c.args.level c.args.start c.args.delimiter c.args.row (omega (arith, last, c.if-last-ne0.true))))
