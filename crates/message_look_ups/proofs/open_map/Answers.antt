-- `open_map` meets its contract: a row of a message that is a head has a level, and rows below it.
use mathlib.Core.Path.{◌≡◌, sym, ◌∙◌}
use mathlib.Core.Bool.{true, false}
use Prim.Native.Nat.{◌+◌, ◌≤◌, ◌<◌}
use native.Mathlib.Omega.{arith}
use borrow.Author.Tests.{eq-eqb, ne_eqb}
use Rattle.message_maps.specs.Rows.{row_at, message_rows}
use Rattle.message_lent_rules.specs.Lent.{is_message, row_count}
use Rattle.message_look_ups.specs.Opening.{is_head, rows_below}
use Rattle.message_look_ups.specs.OpeningLaws.{sized_here, opened_no, opened_past, opened-other, opened_head, level_near}
use Rattle.message_look_ups.proofs.open_map.Goals as goal

pub returns-then-not-is_message : goal.returns-then-not-is_message
returns-then-not-is_message c = sym (opened_no _ _ _ (sym c.is_message.ensures ∙ c.if-not-is_message.true))

pub row_count-count-requires : goal.row_count-count-requires
row_count-count-requires c =
    let lent_at : is_message c.args.words.now c.args.values.now ≡ true = sym c.is_message.ensures ∙ c.if-not-is_message.false in
    (sized_here _ _ (lent_at)).whole

pub returns-then-count-map : goal.returns-then-count-map
returns-then-count-map c =
    let lent_at : is_message c.args.words.now c.args.values.now ≡ true = sym c.is_message.ensures ∙ c.if-not-is_message.false in
    sym (opened_past _ _ _ (lent_at) (omega (arith, c.row_count-count.ensures, c.if-count-map.true)))

pub kind_of-requires : goal.kind_of-requires
kind_of-requires c =
    let lent_at : is_message c.args.words.now c.args.values.now ≡ true = sym c.is_message.ensures ∙ c.if-not-is_message.false in
    let s = sized_here _ _ (lent_at) in (omega (arith, c.row_count-count.ensures, s.counted, c.if-count-map.false), s.whole)

pub returns-then-kind_of-ne2 : goal.returns-then-kind_of-ne2
returns-then-kind_of-ne2 c =
    let lent_at : is_message c.args.words.now c.args.values.now ≡ true = sym c.is_message.ensures ∙ c.if-not-is_message.false in
    let other_at : is_head (row_at c.args.words.now c.args.map) ≡ false = unfold is_head row_at in ne_eqb _ _ (λ e. c.if-kind_of-ne2.true (c.kind_of.ensures ∙ e)) in
    sym (opened-other _ _ _ (lent_at) (other_at))

pub level_of-level-requires : goal.level_of-level-requires
level_of-level-requires c =
    let lent_at : is_message c.args.words.now c.args.values.now ≡ true = sym c.is_message.ensures ∙ c.if-not-is_message.false in
    let s = sized_here _ _ (lent_at) in (omega (arith, c.row_count-count.ensures, s.counted, c.if-count-map.false), s.whole)

pub end_of-to-requires : goal.end_of-to-requires
end_of-to-requires c =
    let lent_at : is_message c.args.words.now c.args.values.now ≡ true = sym c.is_message.ensures ∙ c.if-not-is_message.false in
    let s = sized_here _ _ (lent_at) in (omega (arith, c.if-count-map.false), omega (arith, c.row_count-count.ensures, s.counted), s.whole)

pub overflow_add-result : goal.overflow_add-result
overflow_add-result c =
    let lent_at : is_message c.args.words.now c.args.values.now ≡ true = sym c.is_message.ensures ∙ c.if-not-is_message.false in
    let below_at : c.args.map < row_count c.args.words.now = omega (arith, c.row_count-count.ensures, c.if-count-map.false) in
    let head_at : is_head (row_at c.args.words.now c.args.map) ≡ true = unfold is_head row_at in eq-eqb _ _ (sym c.kind_of.ensures ∙ c.if-kind_of-ne2.false) in
    let level-at : c.level_of-level.result + 1 ≤ message_rows = omega (arith, c.level_of-level.ensures, level_near _ _ _ (lent_at) (below_at) (head_at)) in
    omega (arith, level-at)

pub returns : goal.returns
returns c =
    let lent_at : is_message c.args.words.now c.args.values.now ≡ true = sym c.is_message.ensures ∙ c.if-not-is_message.false in
    let below_at : c.args.map < row_count c.args.words.now = omega (arith, c.row_count-count.ensures, c.if-count-map.false) in
    let head_at : is_head (row_at c.args.words.now c.args.map) ≡ true = unfold is_head row_at in eq-eqb _ _ (sym c.kind_of.ensures ∙ c.if-kind_of-ne2.false) in
    sym (opened_head _ _ _ (lent_at) (below_at) (head_at)
    ∙ (unfold rows_below in rw (← c.level_of-level.ensures, ← c.row_count-count.ensures, ← c.end_of-to.ensures)))
