-- `take_over` meets its contract: what is refused is refused before anything lent is touched, and a message is written whole.
use mathlib.Core.Path.{sym, ◌∙◌}
use Rattle.message_take_over.specs.TakeLaws.{take_short, take-store, take_past, take-many, take-refused, take_no_message, take-blank, take-made}
use Rattle.message_take_over.proofs.take_over.Goals as goal

pub returns-then-words-ne-WORDS : goal.returns-then-words-ne-WORDS
returns-then-words-ne-WORDS c = sym (take_short _ _ _ _ _ c.if-words-ne-WORDS.true)

pub returns-then-values-ne8192 : goal.returns-then-values-ne8192
returns-then-values-ne8192 c = sym (take-store _ _ _ _ _ c.if-values-ne8192.true)

pub returns-then-records-count : goal.returns-then-records-count
returns-then-records-count c = sym (take_past _ _ _ _ _ c.if-records-count.true)

pub returns-then-count-gt1024 : goal.returns-then-count-gt1024
returns-then-count-gt1024 c = sym (take-many _ _ _ _ _ c.if-count-gt1024.true)

pub returns-then-not-lay_records : goal.returns-then-not-lay_records
returns-then-not-lay_records c = sym (take-refused _ _ _ _ _ c.if-words-ne-WORDS.false c.if-values-ne8192.false c.if-records-count.false c.if-count-gt1024.false _ _ c.lay_records.ensures (c.if-not-lay_records.true))

pub returns-then-not-is_message : goal.returns-then-not-is_message
returns-then-not-is_message c = sym (take_no_message _ _ _ _ _ c.if-words-ne-WORDS.false c.if-values-ne8192.false c.if-records-count.false c.if-count-gt1024.false _ _ c.lay_records.ensures (c.if-not-lay_records.false)
    (sym c.is_message.ensures ∙ c.if-not-is_message.true))

pub put_rows-requires : goal.put_rows-requires
put_rows-requires c = (
  take-blank c.lay_records.ensures (c.if-not-lay_records.false) _
      (sym c.is_message.ensures ∙ c.if-not-is_message.false),
  c.if-words-ne-WORDS.false,
)

pub put_values-requires : goal.put_values-requires
put_values-requires c = (c.if-records-count.false, sym c.lay_records.ensures.told ∙ c.if-not-lay_records.false, c.if-values-ne8192.false)

pub returns : goal.returns
returns c = sym (take-made _ _ _ _ _ c.if-words-ne-WORDS.false c.if-values-ne8192.false c.if-records-count.false c.if-count-gt1024.false _ _ c.lay_records.ensures (c.if-not-lay_records.false)
    (sym c.is_message.ensures ∙ c.if-not-is_message.false) _ _ c.put_rows.ensures c.put_values.ensures)
