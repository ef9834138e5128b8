use mathlib.Core.Path.{◌≡◌, sym, ap, ◌∙◌}
use Prim.Native.Nat.{ℕ, ◌-◌}
use native.Mathlib.Omega.{arith}
use Rattle.message_maps.specs.Rows.{rows_from}
use Rattle.message_lent_rules.specs.Lent.{fields_in}
use Rattle.message_lent_rules.specs.LentLaws.{fields-end}
use Rattle.message_lent.specs.CountedLaws.{ended-none, ended-on, ended-back, fields_back}
use Rattle.message_lent.proofs.fields_from_behind.Goals as goal

pub loop-i-init : goal.loop-i-init
loop-i-init c = (
  omega arith,
  sym (fields-end c.args.words.now c.args.to c.args.to (omega arith) c.args.floor),
  omega arith,
  ended-none c.args.words.now c.args.to _,
)

pub loop-i-preserved : goal.loop-i-preserved
loop-i-preserved c = (
  omega arith,
  fields_back c.args.words.now c.loop-i.i c.args.to (omega arith) c.args.floor c.loop-i.fields c.weight_of-fields.result c.loop-i.auto.i
      c.loop-i.invariant.1 c.weight_of-fields.ensures.value,
  omega (arith, c.weight_of-fields.ensures.upper_bound, c.loop-i.invariant.2, c.loop-i.auto.i),
  ended-on c.args.words.now (c.loop-i.i - 1) c.args.to c.end_below-end.result c.loop-i.ends (omega (arith, c.loop-i.auto.ends))
      (rw c.level_of.ensures at c.end_below-end.ensures.value)
      (ended-back c.args.words.now c.loop-i.i c.args.to (omega arith) c.loop-i.ends c.loop-i.invariant.3),
)

pub returns : goal.returns
returns c = let e : c.loop-i.i ≡ c.args.from = omega (arith, c.loop-i.invariant.0, c.loop-i-test.false) in
    c.loop-i.invariant.1 ∙ ap (λ (n : ℕ). fields_in c.args.floor (rows_from (c.args.to - n) n c.args.words.now)) e
