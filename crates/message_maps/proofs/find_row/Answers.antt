use mathlib.Core.Path.{◌≡◌, sym, ◌∙◌}
use native.Mathlib.Omega.{arith}
use Rattle.message_maps.specs.RowsLaws.{find_here, find_on, find_end}
use Rattle.message_maps.proofs.find_row.Goals as goal

pub returns-then-is_row : goal.returns-then-is_row
returns-then-is_row c = sym (c.loop-i.invariant ∙ find_here _ _ _ c.loop-i-test.true _ _ _ (sym c.is_row.ensures ∙ c.if-is_row.true))

pub loop-i-preserved : goal.loop-i-preserved
loop-i-preserved c = c.loop-i.invariant ∙ find_on _ _ _ c.loop-i-test.true _ _ _ (sym c.is_row.ensures ∙ c.if-is_row.false)

pub returns : goal.returns
returns c = let e : c.loop-i.i ≡ c.args.to = omega (arith, c.loop-i-test.false) in sym (c.loop-i.invariant ∙ find_end _ _ _ c.loop-i-test.false _ _ _ ∙ e)
