-- `put_row` meets its contract: four stores; each mark is 1 or 0, so both fit into one word.
use mathlib.Core.Path.{◌≡◌, refl}
use Prim.Native.Nat.{◌≤◌}
use native.Mathlib.Omega.{arith}
use mir.Val.{bool_byte}
use lib.ListN.{length-set}
use mathlib.Core.Bool.{Bool, true, false}
use Rattle.dictionary_layout_rules.specs.Table.{mark, marks}
use Rattle.dictionary_meaning_rules.specs.Laying.{put_row}
use Rattle.dictionary_flattening.proofs.put_row.Goals as goal

stored : (b : Bool) → bool_byte b ≡ mark b
unfolding mark
stored true = refl
stored false = refl

one_bit : (b : Bool) → bool_byte b ≤ 1
one_bit true = omega arith
one_bit false = omega arith

pub bounds-words-at-2 : goal.bounds-words-at-2
bounds-words-at-2 c = simp length-set (omega arith)

pub overflow_mul-words : goal.overflow_mul-words
overflow_mul-words c = omega (arith, one_bit c.args.is_group)

pub overflow_add-words-2 : goal.overflow_add-words-2
overflow_add-words-2 c = omega (arith, one_bit c.args.required, one_bit c.args.is_group)

pub bounds-words-at-3 : goal.bounds-words-at-3
bounds-words-at-3 c = simp length-set (omega arith)

pub bounds-words-at-4 : goal.bounds-words-at-4
bounds-words-at-4 c = simp length-set (omega arith)

pub returns : goal.returns
unfolding put_row marks
returns c = rw (stored c.args.required, stored c.args.is_group)
