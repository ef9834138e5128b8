-- `weight_of` meets its contract: by the quick look, and where that can't tell by whether the head has a field of its own.
use mathlib.Core.Path.{sym, ◌∙◌}
use Prim.Native.Nat.{◌≤◌}
use native.Mathlib.Omega.{arith}
use Rattle.message_lent.specs.WeightLaws.{own-weight, bare-weight}
use Rattle.message_lent.proofs.weight_of.Goals as goal

pub returns-then-quick-ne-UNTOLD : goal.returns-then-quick-ne-UNTOLD
returns-then-quick-ne-UNTOLD c =
    let known : c.quick_weight-quick.result ≤ 1 = omega (arith, c.quick_weight-quick.ensures.few, c.if-quick-ne-UNTOLD.true) in
    record { value = c.quick_weight-quick.ensures.told (known); upper_bound = known }

pub returns-then-own_below : goal.returns-then-own_below
returns-then-own_below c = record { value = sym (own-weight (c.quick_weight-quick.ensures.untold c.if-quick-ne-UNTOLD.false) (sym (rw c.level_of.ensures at c.own_below.ensures) ∙ c.if-own_below.true)); upper_bound = omega arith }

pub returns : goal.returns
returns c = record { value = sym (bare-weight (c.quick_weight-quick.ensures.untold c.if-quick-ne-UNTOLD.false) (sym (rw c.level_of.ensures at c.own_below.ensures) ∙ c.if-own_below.false)); upper_bound = omega arith }
