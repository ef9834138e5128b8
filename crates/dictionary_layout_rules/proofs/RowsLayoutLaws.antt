-- Laws of what specs/RowsLayout.antt defines.
use Rattle.std.specs.Prelude.{◌≡◌, true, false, List, [], ◌∷◌, map, ℕ, zero, suc, ◌+◌, ◌≤◌, ◌<◌}
use Rattle.std.proofs.Math.Path.{refl}
use Rattle.std.proofs.Common.{ap, ◌∙◌, arith, lt-ltb, le-ltb}
use Rattle.field_rules.specs.Choice.{pick}
use Rattle.dictionary_layout_rules.specs.Layout.{Layout, end, field, group, items}
use Rattle.dictionary_layout_rules.specs.Table.{Row, next_sibling, row_at, siblings_from}
use Rattle.dictionary_layout_rules.proofs.TableLaws.{walk-on}
use Rattle.dictionary_layout_rules.specs.Tabled.{RowsStand, own_rows, Tabled}
use Rattle.dictionary_layout_rules.proofs.TabledLaws.{field-rest, group-inner, group-rest, own_rows_lem}
use Rattle.dictionary_layout_rules.specs.RowsLayout.{layout_in, layout_within}

-- a row as it is looked at, with what is held within it and after it
abbrev held_from : ℕ → List ℕ → ℕ → Row → Layout
held_from fuel table stop row =
    pick row.is_group
    (group row.tag row.required (layout_within fuel table (row.place + 1) row.link) (layout_within fuel table row.next stop))
    (field row.tag row.required (layout_within fuel table row.next stop))

within_on : (fuel : ℕ) (table : List ℕ) (at stop : ℕ) (row : Row) → at < stop → row_at table at stop ≡ row →
    layout_within (suc fuel) table at stop ≡ held_from fuel table stop row
unfolding layout_within row_at
within_on fuel table at stop row h e = rw (lt-ltb _ _ h) (ap (held_from fuel table stop) e)

-- the first row of a layout that stands is that of its first item
first-row : (table : List ℕ) (at stop : ℕ) (layout : Layout) (row : Row) (rows : List Row) → RowsStand table at layout → stop ≡ at + items layout →
    at < stop → own_rows at layout ≡ row ∷ rows → row_at table at stop ≡ row
first-row table at stop layout row rows s e h own =
    let walked : siblings_from table at stop ≡ row ∷ rows = own_rows_lem table at stop layout s e ∙ own in
    let here = walk-on table at stop h in
    cc

-- what stands is held, if the fuel is enough for its items
held-within : (fuel : ℕ) (table : List ℕ) (at stop : ℕ) (layout : Layout) → RowsStand table at layout → stop ≡ at + items layout →
    items layout ≤ fuel → layout_within fuel table at stop ≡ layout
unfolding items own_rows
held-within zero table at stop end s e h = unfold layout_within in refl
held-within zero table at stop (field tag required rest) s e h = absurd (omega arith)
held-within zero table at stop (group tag required inner rest) s e h = absurd (omega arith)
held-within (suc fuel) table at stop end s e h = unfold layout_within in rw (le-ltb at stop (omega arith))
held-within (suc fuel) table at stop (field tag required rest) s e h =
    let first = first-row table at stop (field tag required rest) _ _ s e (omega arith) refl in
    within_on fuel table at stop _ (omega arith) first
    ∙ ap (field tag required) (held-within fuel table (at + 1) stop rest (field-rest s) (omega arith) (omega arith))
held-within (suc fuel) table at stop (group tag required inner rest) s e h =
    let first = first-row table at stop (group tag required inner rest) _ _ s e (omega arith) refl in
    within_on fuel table at stop _ (omega arith) first
    ∙ ap (λ (l : Layout). group tag required l (layout_within fuel table (at + 1 + items inner) stop))
    (held-within fuel table (at + 1) (at + 1 + items inner) inner (group-inner s) refl (omega arith))
    ∙ ap (group tag required inner) (held-within fuel table (at + 1 + items inner) stop rest (group-rest s) (omega arith) (omega arith))

pub layout_held : (table : List ℕ) (count : ℕ) (layout : Layout) → Tabled table (record { first = 0; end = count }) layout → layout_in table count ≡ layout
unfolding layout_in
layout_held table count layout t = held-within count table 0 count layout t.stands t.ends (omega (arith, t.ends))

-- group 78 with 65615 in it, then 58; and the same where the group's link doesn't rise: nothing lies in it, and the level ends there
held : map (λ (link : ℕ). layout_in (78 ∷ 0 ∷ 2 ∷ link ∷ 79 ∷ 1 ∷ 1 ∷ 2 ∷ 58 ∷ 0 ∷ 0 ∷ 3 ∷ []) 3) (2 ∷ 0 ∷ []) ≡
    group 78 false (field 65615 true end) (field 58 false end) ∷ group 78 false end end ∷ []
unfolding layout_in layout_within next_sibling
held = refl
