-- `write_row` meets its contract: a field that is to be written is written, anything else is nothing.
use mathlib.Core.Path.{◌≡◌, sym, ap, ◌∙◌}
use Prim.Native.Nat.{ℕ, ◌+◌, ◌-◌, ◌*◌}
use native.Mathlib.Omega.{arith}
use lib.ListN.{length, get_or, take, drop}
use Rattle.message_maps.specs.Rows.{row_at}
use Rattle.field_rules.specs.Decimal.{decimal}
use Rattle.field_rules.specs.Field.{field_bytes}
use Rattle.encode_rows.specs.Writing.{row_text}
use Rattle.encode_rows.specs.WritingLaws.{nothing_written, field-done, row_off, row_head, row_field, row-size, field-length}
use Rattle.encode_rows.proofs.write_row.Goals as goal
use Rattle.encode_rows.proofs.write_row.Goals.{After-tag_of}

pub returns-then-not-on : goal.returns-then-not-on
unfolding row_at
returns-then-not-on c = record { value = (nothing_written _ _ _ (row_off _ _ _ _ _ _ _ (c.if-not-on.true)) c.requires.3).0; output_after = (nothing_written _ _ _ (row_off _ _ _ _ _ _ _ (c.if-not-on.true)) c.requires.3).1 }

pub returns-then-kind_of-ne1 : goal.returns-then-kind_of-ne1
unfolding row_at
returns-then-kind_of-ne1 c = record { value = (nothing_written _ _ _ (row_head _ _ _ _ _ _ _ (λ e. c.if-kind_of-ne1.true (c.kind_of.ensures ∙ e))) c.requires.3).0; output_after = (nothing_written _ _ _ (row_head _ _ _ _ _ _ _ (λ e. c.if-kind_of-ne1.true (c.kind_of.ensures ∙ e))) c.requires.3).1 }

text_at : (c : After-tag_of) → row_text c.args.separator c.args.on (row_at c.args.words.now c.args.row) (drop c.args.place c.args.values.now)
    ≡ field_bytes c.args.separator (decimal c.tag_of.result) (take (c.args.place + c.size_of.result - c.args.place)
    (drop c.args.place c.args.values.now))
unfolding row_at
text_at c = let one = sym c.kind_of.ensures ∙ c.if-kind_of-ne1.false in
    let size : get_or c.args.words.now (4 * c.args.row + 4) 0 ≡ c.args.place + c.size_of.result - c.args.place =
    omega (
      arith,
      c.size_of.ensures.value,
      row-size (get_or c.args.words.now (4 * c.args.row + 1) 0) (get_or c.args.words.now (4 * c.args.row + 2) 0) (get_or c.args.words.now (4 * c.args.row + 3) 0)
          (get_or c.args.words.now (4 * c.args.row + 4) 0) one,
    ) in
    row_field _ _ _ _ _ _ _ (c.if-not-on.false) one
    ∙ rw (← c.tag_of.ensures) (ap (λ (n : ℕ). field_bytes c.args.separator (decimal c.tag_of.result) (take n (drop c.args.place c.args.values.now))) size)

pub write_field-requires : goal.write_field-requires
write_field-requires c = let t = text_at (goal.at.write_field-requires c).After-tag_of in
    omega (
      arith,
      ap length t,
      field-length c.args.separator (decimal c.tag_of.result)
          (take (c.args.place + c.size_of.result - c.args.place) (drop c.args.place c.args.values.now)),
      c.requires.3,
    )

pub returns : goal.returns
returns c = record {
  value = (field-done c.args.at c.args.separator _ _ (decimal c.tag_of.result)
      (take (c.args.place + c.size_of.result - c.args.place) (drop c.args.place c.args.values.now)) _ _ (text_at (goal.at.returns c).After-tag_of) c.write_field.ensures.value
      c.write_field.ensures.output_after).0;
  output_after = (field-done c.args.at c.args.separator _ _ (decimal c.tag_of.result)
      (take (c.args.place + c.size_of.result - c.args.place) (drop c.args.place c.args.values.now)) _ _ (text_at (goal.at.returns c).After-tag_of) c.write_field.ensures.value
      c.write_field.ensures.output_after).1;
}
