use Prim.Native.Nat.{◌+◌}
use native.Mathlib.Omega.{arith}
use Rattle.dictionary_rules.specs.Passing.{Passed, with_field}
use Rattle.dictionary_rules.proofs.PassingLaws.{passed_none, passed_on}
use Rattle.dictionary_rules.specs.declared.State.TheVariants.{Inside}
use Rattle.dictionary_check.proofs.pass_fields.Goals as goal

pub loop-counted-init : goal.loop-counted-init
loop-counted-init c = passed_none c.requires.0

pub field_counts-requires : goal.field_counts-requires
field_counts-requires c = (c.loop-counted.invariant.within, c.requires.1)

pub count_field-counted-requires : goal.count_field-counted-requires
count_field-counted-requires c = (c.field_counts.ensures c.loop-counted-test.true).0

pub overflow_add-at : goal.overflow_add-at
overflow_add-at c =
    let counts : let o = c.loop-counted.counted in
    Passed c.args.dictionary.now c.loop-counted.at (Inside o) c.args.index.now (c.loop-counted.at + 6) (Inside (with_field o)) c.args.index.now = (c.field_counts.ensures c.loop-counted-test.true).1 in
    omega (arith, (counts).within)

pub loop-counted-smaller : goal.loop-counted-smaller
loop-counted-smaller c =
    let counts : let o = c.loop-counted.counted in
    Passed c.args.dictionary.now c.loop-counted.at (Inside o) c.args.index.now (c.loop-counted.at + 6) (Inside (with_field o)) c.args.index.now = (c.field_counts.ensures c.loop-counted-test.true).1 in
    omega (arith, (counts).within)

pub loop-counted-preserved : goal.loop-counted-preserved
loop-counted-preserved c =
    let counts : let o = c.loop-counted.counted in
    Passed c.args.dictionary.now c.loop-counted.at (Inside o) c.args.index.now (c.loop-counted.at + 6) (Inside (with_field o)) c.args.index.now = (c.field_counts.ensures c.loop-counted-test.true).1 in
    rw c.count_field-counted.ensures (passed_on c.loop-counted.invariant (counts))

pub returns : goal.returns
returns c = c.loop-counted.invariant
