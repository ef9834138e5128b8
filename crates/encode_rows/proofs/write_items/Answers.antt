use mathlib.Core.Path.{ap}
use Prim.Native.Nat.{ℕ, ◌+◌}
use native.Mathlib.Omega.{arith}
use Rattle.message_rules.specs.RowChanges.{place_of}
use Rattle.encode_rows.specs.WritingLaws.{going_start, going_on, going_done, going-room, going-place}
use Rattle.encode_rows.proofs.write_items.Goals as goal

pub loop-i-init : goal.loop-i-init
unfolding place_of
loop-i-init c = going_start _ _ _ _ _ _ _ _ _ c.requires.0 c.size_between-place.ensures

pub write_row-next-requires : goal.write_row-next-requires
write_row-next-requires c = (
  omega (arith, c.requires.1),
  c.requires.2,
  going-place _ _ _ _ _ _ _ _ _ _ _ _ _ c.requires.4 c.loop-i-test.true c.loop-i.invariant c.requires.3,
  going-room _ _ _ _ _ _ _ _ _ _ _ _ _ c.requires.4 c.loop-i-test.true c.loop-i.invariant _ c.row_on-on.ensures,
)

pub size_of-place-requires : goal.size_of-place-requires
size_of-place-requires c = (omega (arith, c.requires.1, c.loop-i-test.true), c.requires.2)

pub overflow_add-place : goal.overflow_add-place
overflow_add-place c = let g = going-place _ _ _ _ _ _ _ _ _ _ _ _ _ c.requires.4 c.loop-i-test.true c.loop-i.invariant c.requires.3 in omega (arith, g, c.size_of-place.ensures.value)

pub loop-i-preserved : goal.loop-i-preserved
loop-i-preserved c =
    going_on _ _ _ _ _ _ _ _ _ _ _ _ _ c.requires.4 c.loop-i-test.true c.loop-i.invariant _ _ _ _ c.row_on-on.ensures
    c.write_row-next.ensures.value c.write_row-next.ensures.output_after
    (ap (λ (n : ℕ). c.loop-i.place + n) c.size_of-place.ensures.value)

pub shape_of-output : goal.shape_of-output
shape_of-output c = c.loop-i.invariant.size

pub returns : goal.returns
returns c = record { value = (going_done _ _ _ _ _ _ _ _ _ _ _ _ _ c.requires.4 c.loop-i-test.false c.loop-i.invariant).0; output_after = (going_done _ _ _ _ _ _ _ _ _ _ _ _ _ c.requires.4 c.loop-i-test.false c.loop-i.invariant).1 }
