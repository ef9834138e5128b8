-- `remove_in` meets its contract: the row that is found is cut out; where none is found, the cut takes none.
use mathlib.Core.Path.{◌≡◌, sym, ◌∙◌}
use mathlib.Core.Bool.{true}
use Prim.Native.Nat.{◌+◌, ◌-◌, ◌^◌, ◌≤◌, ◌<◌}
use native.Mathlib.Omega.{arith}
use Rattle.message_maps.specs.Map.{without_field}
use Rattle.message_maps.specs.Rows.{rows_from, find_from}
use Rattle.message_lent_rules.specs.Meaning.{message_in}
use Rattle.message_rules.specs.Changes.{part_of, with_part, field_total}
use Rattle.message_rules.specs.RowChanges.{span_of, held_rows}
use Rattle.message_rules.specs.ChangeLaws.{remove-on}
use Rattle.message_rules.specs.FrameLaws.{find_within}
use Rattle.message_rules.specs.StoreLaws.{lent_in, few-fields, span_grows, remove-leaves, remove-fields}
use Rattle.message_rules.specs.FewLaws.{cut_any, changed-any}
use Rattle.message_rules.specs.BlankLaws.{not_blank}
use Rattle.message.proofs.remove_in.Goals as goal
use Rattle.message.proofs.remove_in.Goals.{After-find_row-at, After-held_rows-held}

pub find_row-at-requires : goal.find_row-at-requires
find_row-at-requires c = let i = lent_in _ _ _ c.requires in
    let g = span_grows _ _ _ _ i in
    rw c.span_of-span.ensures (g.0, omega (arith, g.1, g.2), i.sized.whole)

found_at : (c : After-find_row-at) → let s = span_of c.args.part (message_in c.args.words.now c.args.values.now) in
    c.find_row-at.result ≡ find_from 1 1 c.args.tag s.from (rows_from (s.to - s.from) s.from c.args.words.now)
found_at c = rw c.span_of-span.ensures at c.find_row-at.ensures

held_at : (c : After-held_rows-held) → c.held_rows-held.result ≡ held_rows c.find_row-at.result (span_of c.args.part (message_in c.args.words.now c.args.values.now)).to
held_at c = rw c.span_of-span.ensures at c.held_rows-held.ensures

pub overflow_add-place : goal.overflow_add-place
overflow_add-place c =
    let row_at : c.find_row-at.result + c.held_rows-held.result < 2 ^ 64 = let g = span_grows _ _ _ _ (lent_in _ _ _ c.requires) in
    let s = span_of c.args.part (message_in c.args.words.now c.args.values.now) in
    omega (
      arith,
      find_within 1 1 c.args.tag s.from s.to c.args.words.now g.0,
      found_at (goal.at.overflow_add-place c).After-find_row-at,
      g.1,
      g.2,
      remove-fields _ _ _ _ (lent_in _ _ _ c.requires) _ _ (found_at (goal.at.overflow_add-place c).After-find_row-at) _ (held_at c),
      few-fields _ _ c.requires,
    ) in
    omega (arith, row_at)

pub overflow_add-place-2 : goal.overflow_add-place-2
overflow_add-place-2 c =
    let row_at : c.find_row-at.result + c.held_rows-held.result < 2 ^ 64 = let g = span_grows _ _ _ _ (lent_in _ _ _ c.requires) in
    let s = span_of c.args.part (message_in c.args.words.now c.args.values.now) in
    omega (
      arith,
      find_within 1 1 c.args.tag s.from s.to c.args.words.now g.0,
      found_at (goal.at.overflow_add-place-2 c).After-find_row-at,
      g.1,
      g.2,
      remove-fields _ _ _ _ (lent_in _ _ _ c.requires) _ _ (found_at (goal.at.overflow_add-place-2 c).After-find_row-at) _ (held_at c),
      few-fields _ _ c.requires,
    ) in
    omega (arith, row_at)

pub overflow_add-place-3 : goal.overflow_add-place-3
overflow_add-place-3 c =
    let row_at : c.find_row-at.result + c.held_rows-held.result < 2 ^ 64 = let g = span_grows _ _ _ _ (lent_in _ _ _ c.requires) in
    let s = span_of c.args.part (message_in c.args.words.now c.args.values.now) in
    omega (
      arith,
      find_within 1 1 c.args.tag s.from s.to c.args.words.now g.0,
      found_at (goal.at.overflow_add-place-3 c).After-find_row-at,
      g.1,
      g.2,
      remove-fields _ _ _ _ (lent_in _ _ _ c.requires) _ _ (found_at (goal.at.overflow_add-place-3 c).After-find_row-at) _ (held_at c),
      few-fields _ _ c.requires,
    ) in
    omega (arith, row_at)

pub cut_rows-requires : goal.cut_rows-requires
cut_rows-requires c =
    let few-left : let m = message_in c.args.words.now c.args.values.now in
    field_total (with_part c.args.part (without_field c.args.tag (part_of c.args.part m)) m) ≤ 1024 = omega (arith, remove-fields _ _ _ _ (lent_in _ _ _ c.requires) _ _ (found_at (goal.at.cut_rows-requires c).After-find_row-at) _ (held_at (goal.at.cut_rows-requires c).After-held_rows-held), few-fields _ _ c.requires) in
    record {
      cuttable = rw c.span_of-span.ensures (cut_any _ _ _ _ _ _ 0 (few-left)
          (remove-leaves _ _ _ _ (lent_in _ _ _ c.requires) _ _ (found_at (goal.at.cut_rows-requires c).After-find_row-at) _ (held_at (goal.at.cut_rows-requires c).After-held_rows-held)).able);
      blank_from = not_blank _ _ _;
    }

pub returns : goal.returns
returns c =
    let few-left : let m = message_in c.args.words.now c.args.values.now in
    field_total (with_part c.args.part (without_field c.args.tag (part_of c.args.part m)) m) ≤ 1024 = omega (arith, remove-fields _ _ _ _ (lent_in _ _ _ c.requires) _ _ (found_at (goal.at.returns c).After-find_row-at) _ (held_at (goal.at.returns c).After-held_rows-held), few-fields _ _ c.requires) in
    rw c.span_of-span.ensures at c.cut_rows.ensures
    ∙ changed-any _ _ _ _ _ _ true _ 0 (few-left) (omega arith)
    ∙ (remove-leaves _ _ _ _ (lent_in _ _ _ c.requires) _ _ (found_at (goal.at.returns c).After-find_row-at) _ (held_at (goal.at.returns c).After-held_rows-held)).done true
    ∙ sym (remove-on _ _ _ _ c.requires)
