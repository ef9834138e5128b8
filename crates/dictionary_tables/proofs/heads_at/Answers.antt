-- `heads_at` meets its contract: the law of each way.
use mathlib.Core.Path.{sym}
use Rattle.dictionary_tables_rules.specs.Table.{heads_at}
use Rattle.dictionary_tables_rules.proofs.TableLaws.{heads-few, heads-many}
use Rattle.dictionary_tables.proofs.heads_at.Goals as goal

pub returns-then-table-level-gt16 : goal.returns-then-table-level-gt16
unfolding heads_at
returns-then-table-level-gt16 c = sym (heads-many _ c.if-table-level-gt16.true)

pub returns : goal.returns
unfolding heads_at
returns c = sym (heads-few _ c.if-table-level-gt16.false)
