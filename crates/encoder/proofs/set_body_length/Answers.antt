-- `set_body_length` meets its contract: ten digits have room for every number, and are stored as they are written.
use mathlib.Core.Path.{◌≡◌, sym, ap, ◌∙◌}
use mathlib.Core.List.{List}
use Prim.Native.Nat.{ℕ, ◌+◌}
use native.Mathlib.Omega.{arith}
use lib.ListN.{length}
use lib.Seq.{length-take-le}
use Rattle.field_rules.specs.Decimal.{decimal}
use Rattle.field_rules.proofs.DecimalLaws.{decimal-length, written-length}
use Rattle.message_rules.specs.Changes.{storing}
use Rattle.message_rules.specs.declared.Part.TheVariants.{Header}
use Rattle.encode_rows.specs.WritingLaws.{next_is, never_full}
use Rattle.encoder.specs.LeavingLaws.{digits_back}
use Rattle.encoder.proofs.set_body_length.Goals as goal
use Rattle.encoder.proofs.set_body_length.Goals.{In-Some}

pub returns-in_default : goal.returns-in_default
returns-in_default c = let n = c.args.body in
    absurd (never_full 0 (decimal n) _ (omega (arith, (decimal-length n (omega arith)).1))
    (sym c.write_number.ensures.value ∙ c.in_default.is))

ends : (c : In-Some) → c.in-Some.end ≡ 0 + length (decimal c.args.body)
ends c = let n = c.args.body in
    next_is 0 _ (decimal n) _ (omega (arith, (decimal-length n (omega arith)).1)) (sym c.write_number.ensures.value ∙ c.in-Some.is)

ten : (c : In-Some) → length c.write_number.new.output ≡ 10
ten c = ap length c.write_number.ensures.output_after ∙ written-length 0 _ _

pub slice_bounds-digits-end : goal.slice_bounds-digits-end
slice_bounds-digits-end c = omega (arith, ends (goal.at.slice_bounds-digits-end c).In-Some, ten (goal.at.slice_bounds-digits-end c).In-Some, (decimal-length c.args.body (omega arith)).1)

pub slice_bounds-store_in-end : goal.slice_bounds-store_in-end
slice_bounds-store_in-end c = sym (length-take-le _ _ (omega (
  arith,
  ends (goal.at.slice_bounds-store_in-end c).In-Some,
  ten (goal.at.slice_bounds-store_in-end c).In-Some,
  (decimal-length c.args.body (omega arith)).1,
)))

pub store_in-requires : goal.store_in-requires
store_in-requires c = record { values_value = c.requires.values_value; blank = c.requires.blank }

pub returns : goal.returns
returns c = let n = c.args.body in
    c.store_in.ensures
    ∙ ap (λ (value : List ℕ). storing Header 9 value c.args.words.now c.args.values.now)
    (digits_back (decimal n) _ _ _ (omega (arith, (decimal-length n (omega arith)).1)) (ends (goal.at.returns c).In-Some) c.write_number.ensures.output_after)
