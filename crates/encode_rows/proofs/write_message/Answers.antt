-- `write_message` meets its contract: three spans, the text of the message in them, and the CheckSum behind it.
use mathlib.Core.Path.{◌≡◌, ap, ◌∙◌}
use mathlib.Core.List.{List}
use Prim.Native.Nat.{ℕ, ◌+◌}
use native.Mathlib.Omega.{arith}
use lib.ListN.{length}
use Rattle.field_rules.specs.Decimal.{written_at}
use Rattle.field_rules.proofs.DecimalLaws.{written-length}
use Rattle.message_lent_rules.specs.Meaning.{message_in}
use Rattle.encode_rules.specs.Encoding.{message_text}
use Rattle.encode_rows.specs.Writing.{text_at}
use Rattle.encode_rows.specs.MessageLaws.{text_at_is, spans_of, tail_written}
use Rattle.encode_rows.proofs.write_message.Goals as goal

pub write_text-at-requires : goal.write_text-at-requires
write_text-at-requires c = rw (c.span_of-head.ensures, c.span_of-middle.ensures, c.span_of-tail.ensures)
    (spans_of _ _ c.requires.values_value _ _ (omega (arith, c.requires.values_len_bound.1)))

pub write_tail-requires : goal.write_tail-requires
write_tail-requires c =
    let text-is : text_at c.args.words.now c.args.values.now c.span_of-head.result c.span_of-middle.result c.span_of-tail.result
    c.args.separator ≡ message_text c.args.separator (message_in c.args.words.now c.args.values.now) = rw (c.span_of-head.ensures, c.span_of-middle.ensures, c.span_of-tail.ensures) (text_at_is _ _ c.requires.values_value _) in
    let text-size : c.write_text-at.result ≡ length (message_text c.args.separator (message_in c.args.words.now c.args.values.now)) = c.write_text-at.ensures.value ∙ ap length (text-is) in
    let text-written : c.write_text-at.new.output ≡ written_at 0 (message_text c.args.separator (message_in c.args.words.now c.args.values.now)) c.args.output.now = c.write_text-at.ensures.output_after ∙ ap (λ (l : List ℕ). written_at 0 l c.args.output.now) (text-is) in
    omega (
      arith,
      text-size,
      ap length (text-written),
      written-length 0 (message_text c.args.separator (message_in c.args.words.now c.args.values.now)) c.args.output.now,
      c.requires.values_len_bound.1,
    )

pub overflow_add-result : goal.overflow_add-result
overflow_add-result c =
    let text-is : text_at c.args.words.now c.args.values.now c.span_of-head.result c.span_of-middle.result c.span_of-tail.result
    c.args.separator ≡ message_text c.args.separator (message_in c.args.words.now c.args.values.now) = rw (c.span_of-head.ensures, c.span_of-middle.ensures, c.span_of-tail.ensures) (text_at_is _ _ c.requires.values_value _) in
    let text-size : c.write_text-at.result ≡ length (message_text c.args.separator (message_in c.args.words.now c.args.values.now)) = c.write_text-at.ensures.value ∙ ap length (text-is) in
    omega (arith, text-size, c.requires.values_len_bound.0)

pub returns : goal.returns
returns c =
    let text-is : text_at c.args.words.now c.args.values.now c.span_of-head.result c.span_of-middle.result c.span_of-tail.result
    c.args.separator ≡ message_text c.args.separator (message_in c.args.words.now c.args.values.now) = rw (c.span_of-head.ensures, c.span_of-middle.ensures, c.span_of-tail.ensures) (text_at_is _ _ c.requires.values_value _) in
    let text-size : c.write_text-at.result ≡ length (message_text c.args.separator (message_in c.args.words.now c.args.values.now)) = c.write_text-at.ensures.value ∙ ap length (text-is) in
    let text-written : c.write_text-at.new.output ≡ written_at 0 (message_text c.args.separator (message_in c.args.words.now c.args.values.now)) c.args.output.now = c.write_text-at.ensures.output_after ∙ ap (λ (l : List ℕ). written_at 0 l c.args.output.now) (text-is) in
    record { value = ap (λ (n : ℕ). n + 7) (text-size); output_after = tail_written _ _ _ _ _ _ c.requires.values_len_bound.1 (text-size) (text-written) c.write_tail.ensures }
