-- `part_size` meets its contract: there are no more than 128 heads.
use native.Mathlib.Omega.{arith}
use Rattle.dictionary_tables_rules.specs.Laid.{part_size}
use Rattle.dictionary_tables_rules.proofs.TableLaws.{heads_bounds}
use Rattle.dictionary_pressing.proofs.part_size.Goals as goal

pub overflow_add-result : goal.overflow_add-result
overflow_add-result c = omega (arith, (heads_bounds c.args.count).1, c.heads_for.ensures)

pub overflow_add-result-2 : goal.overflow_add-result-2
overflow_add-result-2 c = omega (arith, (heads_bounds c.args.count).1, c.heads_for.ensures)

pub returns : goal.returns
unfolding part_size
returns c = omega (arith, c.heads_for.ensures)
