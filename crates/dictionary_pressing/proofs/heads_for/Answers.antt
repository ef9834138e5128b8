-- `heads_for` meets its contract: by the two ways that the definition goes.
use mathlib.Core.Path.{sym}
use Rattle.dictionary_tables_rules.proofs.TableLaws.{heads-few, heads-many}
use Rattle.dictionary_pressing.proofs.heads_for.Goals as goal

pub returns-then-count-gt16 : goal.returns-then-count-gt16
returns-then-count-gt16 c = sym (heads-many _ c.if-count-gt16.true)

pub returns : goal.returns
returns c = sym (heads-few _ c.if-count-gt16.false)
