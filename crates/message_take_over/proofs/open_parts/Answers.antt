use mathlib.Core.Path.{◌≡◌}
use Prim.Native.Nat.{◌-◌}
use native.Mathlib.Omega.{arith}
use Rattle.message_take_over.specs.LayingLaws.{adds_none, adds_then, heads-next, heads-length, heads_added, heads-none}
use Rattle.message_take_over.proofs.open_parts.Goals as goal

pub loop-before-init : goal.loop-before-init
loop-before-init c = rw (heads-none _) (adds_none _ _)

pub put_row-next-requires : goal.put_row-next-requires
put_row-next-requires c = (omega (arith, c.loop-before.invariant.counts, heads-length (c.loop-before.before - c.args.part) c.args.part), omega (arith, c.loop-before.invariant.whole))

pub loop-before-preserved : goal.loop-before-preserved
loop-before-preserved c = rw (heads-next c.args.part c.loop-before.before (omega arith)) (adds_then c.loop-before.invariant c.put_row-next.ensures)

pub shape_of-words : goal.shape_of-words
shape_of-words c = c.loop-before.invariant.whole

pub returns : goal.returns
returns c = let e : c.loop-before.before ≡ c.args.to = omega arith in
    let a = rw e at c.loop-before.invariant in
    record { adds = a; value = heads_added _ _ _ _ _ _ a }
