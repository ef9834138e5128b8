use mathlib.Core.Path.{sym, ◌∙◌}
use Prim.Native.Nat.{◌≤◌}
use native.Mathlib.Omega.{arith}
use Rattle.message_rules.specs.RowChanges.{place_of}
use Rattle.message_look_ups.specs.OpeningLaws.{value_here, value_on, value_end}
use Rattle.message_look_ups.proofs.value_from.Goals as goal

pub returns-then-is_row : goal.returns-then-is_row
unfolding place_of
returns-then-is_row c = rw (← c.size_between-place.ensures, c.size_of-size.ensures.value) (sym (c.loop-i.invariant.0 ∙ value_here _ _ _ c.loop-i-test.true _ _ _ (sym c.is_row.ensures ∙ c.if-is_row.true)))

pub overflow_add-place : goal.overflow_add-place
overflow_add-place c =
    let place_at : c.size_between-place.result ≤ 8192 = unfold place_of in omega (arith, c.requires.3, c.size_between-place.ensures) in
    omega (arith, c.loop-i.invariant.1, c.requires.1, place_at, c.size_of-size.ensures.upper_bound)

pub loop-i-preserved : goal.loop-i-preserved
loop-i-preserved c = (c.loop-i.invariant.0 ∙ value_on _ _ _ c.loop-i-test.true _ _ _ (sym c.is_row.ensures ∙ c.if-is_row.false) ∙ rw c.size_of-size.ensures.value, omega (arith, c.loop-i.invariant.1, c.size_of-size.ensures.upper_bound))

pub returns : goal.returns
unfolding place_of
returns c = rw (← c.size_between-place.ensures) (sym (c.loop-i.invariant.0 ∙ value_end _ _ _ c.loop-i-test.false _ _ _))
