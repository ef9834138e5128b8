use Prim.Native.Nat.{◌≤◌}
use native.Mathlib.Omega.{arith}
use Rattle.message_lent_rules.specs.LentLaws.{fields-on, fields-end}
use Rattle.message_lent.proofs.fields_in.Goals as goal

pub overflow_add-fields : goal.overflow_add-fields
overflow_add-fields c =
    let known : c.quick_weight-weight.result ≤ 1 = omega (arith, c.quick_weight-weight.ensures.few, c.if-weight-eq-UNTOLD.false) in
    omega (arith, known)

pub loop-i-preserved : goal.loop-i-preserved
loop-i-preserved c =
    let known : c.quick_weight-weight.result ≤ 1 = omega (arith, c.quick_weight-weight.ensures.few, c.if-weight-eq-UNTOLD.false) in (
      omega (
        arith,
        c.loop-i.invariant.0,
        c.quick_weight-weight.ensures.told (known),
        fields-on c.args.words.now c.loop-i.i c.args.to
            c.loop-i-test.true c.args.floor,
      ),
      omega (arith, c.loop-i.invariant.1, known),
    )

pub returns : goal.returns
returns c = omega (arith, c.loop-i.invariant.0, fields-end c.args.words.now c.loop-i.i c.args.to c.loop-i-test.false c.args.floor)
