use Prim.Native.Nat.{◌<◌}
use native.Mathlib.Omega.{arith}
use Rattle.dictionary_layout_rules.proofs.TableLaws.{sibling_rises}
use Rattle.dictionary_pressing.specs.RowsLaws.{counted-on, counted-end}
use Rattle.dictionary_pressing.proofs.own_count.Goals as goal
use Rattle.dictionary_pressing.proofs.own_count.Goals.{After-next_sibling-at}

rises : (c : After-next_sibling-at) → c.loop-at.at < c.next_sibling-at.result
rises c = rw c.next_sibling-at.ensures (sibling_rises _ _ _ c.loop-at-test.true)

pub loop-at-init : goal.loop-at-init
loop-at-init c = (omega arith, omega arith)

pub overflow_add-count : goal.overflow_add-count
overflow_add-count c = omega (arith, rises c)

pub loop-at-smaller : goal.loop-at-smaller
loop-at-smaller c = omega (arith, rises c)

pub loop-at-preserved : goal.loop-at-preserved
loop-at-preserved c = (
  omega (arith, rises c),
  rw c.next_sibling-at.ensures
      (omega (arith, c.loop-at.invariant.1, counted-on c.args.rows.now c.loop-at.at c.args.stop c.loop-at-test.true)),
)

pub returns : goal.returns
returns c = omega (arith, c.loop-at.invariant.1, counted-end c.args.rows.now c.loop-at.at c.args.stop c.loop-at-test.false)
