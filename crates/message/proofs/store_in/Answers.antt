-- `store_in` meets its contract: the part is judged by the message that would be left.
use mathlib.Core.Path.{◌≡◌, sym, ◌∙◌}
use Rattle.message_lent_rules.specs.Meaning.{message_in}
use Rattle.message_rules.specs.RowChanges.{span_of, counted_fields}
use Rattle.message_rules.specs.ChangeLaws.{store_zero, store-on}
use Rattle.message_rules.specs.StoreLaws.{lent_in, span_grows, put_large, few-fields}
use Rattle.message_rules.specs.FewLaws.{counted_ready, counted-judged}
use Rattle.message_rules.specs.BlankLaws.{blank-behind}
use Rattle.message.proofs.store_in.Goals as goal

pub returns-then-tag-eq0 : goal.returns-then-tag-eq0
returns-then-tag-eq0 c = sym (store_zero _ _ _ _ _ c.requires.values_value c.if-tag-eq0.true)

pub returns-then-value-gt8192 : goal.returns-then-value-gt8192
returns-then-value-gt8192 c = let lent = c.requires.values_value in
    sym (store-on _ _ _ _ _ lent c.if-tag-eq0.false ∙ put_large _ _ _ _ (lent_in _ _ _ lent) _ _ c.if-value-gt8192.true)

pub counted_fields-fields-requires : goal.counted_fields-fields-requires
counted_fields-fields-requires c = let i = lent_in _ _ _ c.requires.values_value in
    let g = span_grows _ _ _ _ i in
    (rw c.span_of-span.ensures g.2, i.sized.whole)

pub put_field-requires : goal.put_field-requires
put_field-requires c =
    let fields_at : c.counted_fields-fields.result ≡ counted_fields c.args.words.now (span_of c.args.part (message_in c.args.words.now c.args.values.now)).count = rw c.span_of-span.ensures at c.counted_fields-fields.ensures in
    record {
      ready = rw (c.span_of-span.ensures, fields_at)
          (counted_ready _ _ _ _ (lent_in _ _ _ c.requires.values_value) _ _ c.if-value-gt8192.false (few-fields _ _ c.requires.values_value));
      blank_from = rw c.span_of-span.ensures (blank-behind _ _ _ _ c.requires.values_value c.requires.blank);
    }

pub returns : goal.returns
returns c =
    let fields_at : c.counted_fields-fields.result ≡ counted_fields c.args.words.now (span_of c.args.part (message_in c.args.words.now c.args.values.now)).count = rw c.span_of-span.ensures at c.counted_fields-fields.ensures in
    rw (c.span_of-span.ensures, fields_at) at c.put_field.ensures
    ∙ counted-judged _ _ _ _ (lent_in _ _ _ c.requires.values_value) _ _ ∙ sym (store-on _ _ _ _ _ c.requires.values_value c.if-tag-eq0.false)
