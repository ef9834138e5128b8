use mathlib.Core.Path.{refl, sym, ap, ◌∙◌}
use Prim.Native.Nat.{ℕ}
use native.Mathlib.Omega.{arith}
use lib.ListN.{length, length-set, length-replicate}
use Rattle.message_maps.specs.Rows.{message_words}
use Rattle.build_records.proofs.WordLaws.{records_length}
use Rattle.message_take_over.specs.Newest.{newest_start}
use Rattle.message_take_over.specs.GoingLaws.{going_start, going-whole, going_ready, going-refused, going_on, going-deep, going_newest}
use Rattle.message_take_over.specs.GoingLaws.{going_done}
use Rattle.message_take_over.proofs.lay_records.Goals as goal

pub put_row-rows-requires : goal.put_row-rows-requires
put_row-rows-requires c = (omega arith, ap length c.requires.2 ∙ length-replicate {A = ℕ} message_words 0)

pub loop-i-init : goal.loop-i-init
loop-i-init c = (going_start _ _ _ _ _ _ c.requires.2 c.put_row-rows.ensures, newest_start _ _ refl)

pub lay_record-requires : goal.lay_record-requires
lay_record-requires c = (
  going_ready _ _ _ c.loop-i.invariant.0 c.loop-i-test.true c.requires.1,
  c.loop-i.invariant.1,
)

pub shape_of-words-in_default : goal.shape_of-words-in_default
shape_of-words-in_default c = c.lay_record.auto.words ∙ going-whole _ _ _ c.loop-i.invariant.0 c.requires.1
    ∙ sym (ap length c.requires.2 ∙ length-replicate {A = ℕ} message_words 0)

pub returns-in_default : goal.returns-in_default
returns-in_default c = going-refused _ _ _ c.loop-i.invariant.0 c.loop-i-test.true (omega (arith, c.requires.0, records_length c.args.records.now)) _
    (sym c.lay_record.ensures.value ∙ c.in_default.is)

pub enter-requires : goal.enter-requires
enter-requires c = let stepped = sym c.lay_record.ensures.value ∙ c.in-Some.is in
    let deep =
    going-deep _ _ _ c.loop-i.invariant.0 c.loop-i-test.true (omega (arith, c.requires.0, records_length c.args.records.now))
    c.requires.1 _ stepped in
    (omega (arith, c.loop-i-test.true, c.requires.1), omega (arith, deep, c.loop-i.invariant.1.room))

pub loop-i-preserved : goal.loop-i-preserved
loop-i-preserved c = let stepped = sym c.lay_record.ensures.value ∙ c.in-Some.is in (
  going_on _ _ _ c.loop-i.invariant.0 c.loop-i-test.true (omega (arith, c.requires.0, records_length c.args.records.now)) _ _ stepped
      (rw c.in-Some.is at c.lay_record.ensures.adds_rows),
  going_newest _ _ _ c.loop-i.invariant.0 c.loop-i-test.true (omega (arith, c.requires.0, records_length c.args.records.now))
      c.requires.1 _ stepped _ _ c.loop-i.invariant.1 c.enter.ensures,
)

pub open_parts-all-requires : goal.open_parts-all-requires
open_parts-all-requires c = let g = c.loop-i.invariant.0 in
    (g.last, omega arith, omega (arith, g.few, g.last, g.here, c.requires.1), going-whole _ _ _ g c.requires.1)

pub overflow_cast-words : goal.overflow_cast-words
overflow_cast-words c = omega (arith, c.loop-i.invariant.0.few, c.loop-i.invariant.0.last, c.loop-i.invariant.0.here, c.requires.1, c.open_parts-all.ensures.value)

pub bounds-words-0 : goal.bounds-words-0
bounds-words-0 c = omega (arith, c.open_parts-all.ensures.adds.whole, going-whole _ _ _ c.loop-i.invariant.0 c.requires.1)

pub shape_of-words : goal.shape_of-words
shape_of-words c = simp length-set (c.open_parts-all.ensures.adds.whole ∙ going-whole _ _ _ c.loop-i.invariant.0 c.requires.1
    ∙ sym (ap length c.requires.2 ∙ length-replicate {A = ℕ} message_words 0))

pub returns : goal.returns
returns c = going_done _ _ _ c.loop-i.invariant.0 c.loop-i-test.false _ _ c.open_parts-all.ensures.adds

pub slice_bounds-last-end : goal.slice_bounds-last-end
slice_bounds-last-end c = refl
