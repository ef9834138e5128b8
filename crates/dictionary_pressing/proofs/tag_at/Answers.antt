-- `tag_at` meets its contract: two words of 16 bits make a tag.
use Prim.Native.Nat.{◌+◌}
use native.Mathlib.Omega.{arith}
use Rattle.dictionary_tables_rules.specs.Table.{tag_at}
use Rattle.dictionary_pressing.proofs.tag_at.Goals as goal

pub overflow_mul-result : goal.overflow_mul-result
overflow_mul-result c = omega (arith, c.from-2.ensures, c.type_inv.table (c.args.at + 1))

pub overflow_add-result : goal.overflow_add-result
overflow_add-result c = omega (
  arith,
  c.from-2.ensures,
  c.type_inv.table (c.args.at + 1),
  c.from.ensures,
  c.type_inv.table c.args.at,
)

pub returns : goal.returns
unfolding tag_at
returns c = omega (arith, c.from-2.ensures, c.from.ensures)
