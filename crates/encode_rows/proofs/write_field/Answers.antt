-- `write_field` meets its contract: its four pieces are written one behind the other.
use mathlib.Core.Path.{◌≡◌, sym, ap, ◌∙◌}
use Prim.Native.Nat.{◌+◌}
use native.Mathlib.Omega.{arith}
use lib.ListN.{length}
use Rattle.field_rules.specs.Decimal.{decimal}
use Rattle.field_rules.proofs.DecimalLaws.{written-length}
use Rattle.encode_rows.specs.WritingLaws.{next_is, never_full, field-written}
use Rattle.encode_rows.proofs.write_field.Goals as goal
use Rattle.encode_rows.proofs.write_field.Goals.{In-Some}

pub returns-in_default : goal.returns-in_default
returns-in_default c = record {
  value = absurd (never_full c.args.at (decimal c.args.tag) c.args.output.now (omega (arith, c.requires))
      (sym c.write_number.ensures.value ∙ c.in_default.is));
  output_after = absurd (never_full c.args.at (decimal c.args.tag) c.args.output.now (omega (arith, c.requires))
      (sym c.write_number.ensures.value ∙ c.in_default.is));
}

digits-at : (c : In-Some) → c.in-Some.digits ≡ c.args.at + length (decimal c.args.tag)
digits-at c = next_is c.args.at _ (decimal c.args.tag) c.args.output.now (omega (arith, c.requires))
    (sym c.write_number.ensures.value ∙ c.in-Some.is)

length_at : (c : In-Some) → length c.write_number.new.output ≡ length c.args.output.now
length_at c = ap length c.write_number.ensures.output_after ∙ written-length _ _ _

pub write_bytes-place-requires : goal.write_bytes-place-requires
write_bytes-place-requires c = let d = digits-at (goal.at.write_bytes-place-requires c).In-Some in let e = length_at (goal.at.write_bytes-place-requires c).In-Some in omega (arith, d, e, c.requires)

pub write_bytes-end-requires : goal.write_bytes-end-requires
write_bytes-end-requires c =
    let second_at : length c.write_bytes-place.new.output ≡ length c.args.output.now = ap length c.write_bytes-place.ensures.output_after ∙ written-length _ _ _ ∙ length_at (goal.at.write_bytes-end-requires c).In-Some in
    let d = digits-at (goal.at.write_bytes-end-requires c).In-Some in
    let e = length_at (goal.at.write_bytes-end-requires c).In-Some in
    let f = second_at in
    omega (arith, d, f, c.write_bytes-place.ensures.value, c.requires)

pub write_bytes-requires : goal.write_bytes-requires
write_bytes-requires c =
    let second_at : length c.write_bytes-place.new.output ≡ length c.args.output.now = ap length c.write_bytes-place.ensures.output_after ∙ written-length _ _ _ ∙ length_at (goal.at.write_bytes-requires c).In-Some in
    let third_at : length c.write_bytes-end.new.output ≡ length c.args.output.now = ap length c.write_bytes-end.ensures.output_after ∙ written-length _ _ _ ∙ second_at in
    let d = digits-at (goal.at.write_bytes-requires c).In-Some in
    let e = length_at (goal.at.write_bytes-requires c).In-Some in
    let f = second_at in
    let g = third_at in
    omega (arith, d, g, c.write_bytes-place.ensures.value, c.write_bytes-end.ensures.value, c.requires)

pub returns : goal.returns
returns c = let d = digits-at (goal.at.returns c).In-Some in
    let e = length_at (goal.at.returns c).In-Some in record {
      value = omega (arith, d, c.write_bytes-place.ensures.value, c.write_bytes-end.ensures.value, c.write_bytes.ensures.value);
      output_after = field-written c.args.at _ (decimal c.args.tag) c.args.value.now c.args.output.now _ _ _ _ _ _ _ c.requires d c.write_number.ensures.output_after
          c.write_bytes-place.ensures.value c.write_bytes-place.ensures.output_after c.write_bytes-end.ensures.value c.write_bytes-end.ensures.output_after
          c.write_bytes.ensures.output_after;
    }
