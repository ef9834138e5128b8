-- `delimiter` meets its contract: the first item is read only where the level has one and it lies in the table.
use mathlib.Core.Path.{◌≡◌, sym, ap, ◌∙◌}
use Prim.Native.Nat.{◌+◌}
use native.Mathlib.Omega.{arith}
use lib.ListN.{get_or-eq_default}
use Rattle.dictionary_tables_rules.specs.Table.{items_at, tag_at}
use Rattle.dictionary_tables_rules.proofs.TableLaws.{heads_at_bounds, items_from, delimiter_empty, delimiter_none, delimiter_some}
use Rattle.dictionary_tables.proofs.delimiter.Goals as goal
use Rattle.dictionary_tables.proofs.delimiter.Goals.{After-heads_at}
use Rattle.std.proofs.Common.{Some}

-- the items of the level start where the code says
from : (c : After-heads_at) → c.args.level + 1 + c.heads_at.result ≡ items_at c.args.table.now c.args.level
from c = items_from _ _ _ c.heads_at.ensures

pub returns-then-table-level : goal.returns-then-table-level
returns-then-table-level c = sym (delimiter_empty _ _ (get_or-eq_default c.args.table.now 0 c.if-table-level.true))

pub returns-then-table-level-eq0 : goal.returns-then-table-level-eq0
returns-then-table-level-eq0 c = sym (delimiter_empty _ _ c.if-table-level-eq0.true)

pub overflow_add-from-2 : goal.overflow_add-from-2
overflow_add-from-2 c = omega (arith, c.heads_at.ensures, (heads_at_bounds c.args.table.now c.args.level).1, c.if-table-level.false)

pub overflow_add-from-3 : goal.overflow_add-from-3
overflow_add-from-3 c = omega (arith, c.heads_at.ensures, (heads_at_bounds c.args.table.now c.args.level).1, c.if-table-level.false)

pub returns-then-table-from : goal.returns-then-table-from
returns-then-table-from c = sym (delimiter_none _ _ (omega (arith, from (goal.at.returns-then-table-from c).After-heads_at, c.if-table-from.true)))

pub returns : goal.returns
returns c = let f = from (goal.at.returns c).After-heads_at in
    ap Some (c.tag_at.ensures ∙ ap (tag_at _) f) ∙ sym (delimiter_some _ _ c.if-table-level-eq0.false (omega (arith, f, c.if-table-from.false)))
