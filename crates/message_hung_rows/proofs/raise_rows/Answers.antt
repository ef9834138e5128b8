use mathlib.Core.Path.{refl, sym, ◌∙◌}
use Prim.Native.Nat.{◌+◌, ◌*◌}
use native.Mathlib.Omega.{arith}
use lib.Seq.{get_or-set_other}
use Rattle.message_hung_rows.specs.RowLaws.{raise_on, raise_end}
use Rattle.message_hung_rows.proofs.raise_rows.Goals as goal

pub loop-row-init : goal.loop-row-init
loop-row-init c = (refl, c.requires.3)

pub overflow_add-words : goal.overflow_add-words
overflow_add-words c = omega (arith, c.loop-row.invariant.1 c.loop-row.row (omega arith) c.loop-row-test.true)

pub loop-row-preserved : goal.loop-row-preserved
loop-row-preserved c = let i = c.loop-row.row in
    let w = c.loop-row.words in (
      c.loop-row.invariant.0 ∙ raise_on w i _ c.loop-row-test.true,
      λ j a b. rw (get_or-set_other w (4 * i + 2) (4 * j + 2) _ 0 (λ e. omega arith)) (c.loop-row.invariant.1 j (omega arith) b),
    )

pub returns : goal.returns
returns c = sym (c.loop-row.invariant.0 ∙ raise_end _ _ _ c.loop-row-test.false)
