-- `put_field` meets its contract: the row that is found is cut out for the new one, or the run moves behind it.
use mathlib.Core.Path.{◌≡◌, ◌∙◌}
use native.Mathlib.Omega.{arith}
use Rattle.message_rules.specs.RowChanges.{field_place}
use Rattle.message_rules.specs.ChangeLaws.{put-place, able_place, put_last, able_last}
use Rattle.message_rules.specs.FrameLaws.{find_within}
use Rattle.message.proofs.put_field.Goals as goal

pub cut_rows-requires : goal.cut_rows-requires
cut_rows-requires c =
    let at-is : c.find_row-at.result ≡ field_place c.args.span c.args.tag c.args.words.now = unfold field_place in c.find_row-at.ensures in
    record { cuttable = able_place _ _ _ _ _ _ c.requires.ready _ (at-is) c.if-at-to.true; blank_from = c.requires.blank_from }

pub returns-then-at-to : goal.returns-then-at-to
returns-then-at-to c =
    let at-is : c.find_row-at.result ≡ field_place c.args.span c.args.tag c.args.words.now = unfold field_place in c.find_row-at.ensures in
    c.cut_rows.ensures ∙ put-place _ _ _ _ _ _ _ (at-is) c.if-at-to.true

pub run_end-last-requires : goal.run_end-last-requires
run_end-last-requires c = (
  omega (
    arith,
    find_within 2 1 c.args.tag c.args.span.from c.args.span.to c.args.words.now c.requires.ready.forwards,
    c.find_row-first.ensures,
  ),
  omega (arith, c.requires.ready.last, c.requires.ready.few),
  c.requires.ready.whole,
)

pub cut_rows-requires-2 : goal.cut_rows-requires-2
cut_rows-requires-2 c =
    let at-is : c.find_row-at.result ≡ field_place c.args.span c.args.tag c.args.words.now = unfold field_place in c.find_row-at.ensures in
    record { cuttable = able_last _ _ _ _ _ _ _ _ _ (at-is) c.if-at-to.false c.find_row-first.ensures c.run_end-last.ensures c.requires.ready; blank_from = c.requires.blank_from }

pub returns : goal.returns
returns c =
    let at-is : c.find_row-at.result ≡ field_place c.args.span c.args.tag c.args.words.now = unfold field_place in c.find_row-at.ensures in
    c.cut_rows-2.ensures ∙ put_last _ _ _ _ _ _ _ _ _ (at-is) c.if-at-to.false c.find_row-first.ensures c.run_end-last.ensures
