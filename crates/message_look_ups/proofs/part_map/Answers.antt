-- `part_map` meets its contract: the row that names a part stands before its first.
use mathlib.Core.Path.{◌≡◌, sym, ◌∙◌}
use Prim.Native.Nat.{◌+◌}
use native.Mathlib.Omega.{arith}
use Rattle.message_lent_rules.specs.Meaning.{message_in}
use Rattle.message_rules.specs.ChangeLaws.{located_no, located_at}
use Rattle.message_rules.specs.LookUps.{part_row}
use Rattle.message_look_ups.specs.LookUpLaws.{part_row_lem, part_none, part_at}
use Rattle.message_look_ups.proofs.part_map.Goals as goal
use Rattle.message_look_ups.proofs.part_map.Goals.{In-Some}

pub returns-in_default : goal.returns-in_default
returns-in_default c = sym (part_none _ _ _ (located_no _ _ _ (sym c.locate.ensures ∙ c.in_default.is)))

from_at : (c : In-Some) → c.in-Some.span.from ≡ part_row c.args.part (message_in c.args.words.now c.args.values.now) + 1
from_at c = let l = located_at _ _ _ _ (sym c.locate.ensures ∙ c.in-Some.is) in
    rw l.1 (part_row_lem c.args.part (message_in c.args.words.now c.args.values.now))

pub overflow_sub-result : goal.overflow_sub-result
overflow_sub-result c = omega (arith, from_at c)

pub returns : goal.returns
returns c = let l = located_at _ _ _ _ (sym c.locate.ensures ∙ c.in-Some.is) in sym (part_at _ _ _ _ l.0 (omega (arith, from_at c)))
