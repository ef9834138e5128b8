-- How many words a table has, by the rows alone: each group among them has a level, and each level a part.
-- So two layouts that the same rows hold have tables of one size. Where no group is empty, a table has 14 words at the most to each item.
use Rattle.std.specs.Prelude.{◌≡◌, Bool, true, false, List, [], ◌∷◌, ◌++◌, length, drop, eqb, ltb}
use Rattle.std.proofs.Math.Path.{refl}
use Rattle.std.proofs.Common.{sym, ap, ◌∙◌, eq-eqb, ne_eqb, eqb-true, lt-ltb, le-ltb, ltb-true, ltb-false}
use Prim.Native.Nat.{ℕ, zero, suc, ◌+◌, ◌-◌, ◌*◌, ◌≤◌, ◌<◌}
use native.Mathlib.Omega.{arith}
use Rattle.std.proofs.lemmas.Bool.{eqb-false}
use Rattle.field_rules.specs.Choice.{pick}
use Rattle.dictionary_layout_rules.specs.Layout.{Layout, end, field, group, items}
use Rattle.dictionary_layout_rules.specs.Measures.{NoEmptyGroup, none-at_end, none-after-field, none_in_group}
use Rattle.dictionary_layout_rules.specs.Table.{group_at, link_at, next_sibling, row_at, Row, siblings_within, siblings_from}
use Rattle.dictionary_layout_rules.specs.Tabled.{RowsStand, Tabled}
use Rattle.dictionary_layout_rules.proofs.TabledLaws.{field-rest, group-inner, group-rest}
use Rattle.dictionary_tables_rules.specs.Table.{heads_for}
use Rattle.dictionary_tables_rules.proofs.TableLaws.{heads-few, heads-many, heads_bounds}
use Rattle.dictionary_tables_rules.specs.Laid.{own_count, part_size, inner_size, table_size, table_of}
use Rattle.dictionary_pressing.specs.Pressing.{pressed, Pressing, Pressable}
use Rattle.dictionary_pressing.specs.RowsLaws.{rows_counted, field_says, group_says}

unfoldable pub least : ℕ → ℕ → ℕ
least one other = pick (ltb one other) one other

-- the part of the level that a row opens
unfoldable pub part_behind : List ℕ → ℕ → ℕ → ℕ
part_behind rows at stop = pick (eqb (group_at rows at) 1) (part_size (length (siblings_from rows (at + 1) (least (link_at rows at) stop)))) 0

-- the parts of the levels within, of so many rows from one on
unfoldable pub parts_from : ℕ → List ℕ → ℕ → ℕ → ℕ
parts_from zero rows at stop = 0
parts_from (suc left) rows at stop = part_behind rows at stop + parts_from left rows (at + 1) stop

unfoldable pub size_in : List ℕ → ℕ → ℕ
size_in rows stop = part_size (length (siblings_from rows 0 stop)) + parts_from stop rows 0 stop

pub least-one : (one other : ℕ) → one < other → least one other ≡ one
unfolding least
least-one one other h = rw (lt-ltb _ _ h)

pub least_other : (one other : ℕ) → other ≤ one → least one other ≡ other
unfolding least
least_other one other h = rw (le-ltb _ _ h)

least_first : (one other : ℕ) → one ≤ other → least one other ≡ one
unfolding least
least_first one other h = go (ltb one other) refl
  where
    go : (t : Bool) → ltb one other ≡ t → pick t one other ≡ one
    go true e = refl
    go false e = omega (arith, ltb-false one other e)

pub least-within : (one other : ℕ) → least one other ≤ other
unfolding least
least-within one other = go (ltb one other) refl
  where
    go : (t : Bool) → ltb one other ≡ t → pick t one other ≤ other
    go true e = omega (arith, ltb-true one other e)
    go false e = omega arith

parts-field : (rows : List ℕ) (at stop : ℕ) → (group_at rows at ≡ 1 → ⊥) → part_behind rows at stop ≡ 0
unfolding part_behind
parts-field rows at stop n = rw (ne_eqb _ _ n)

parts-group : (rows : List ℕ) (at stop link : ℕ) → group_at rows at ≡ 1 → link_at rows at ≡ link → link ≤ stop →
    part_behind rows at stop ≡ part_size (length (siblings_from rows (at + 1) link))
unfolding part_behind
parts-group rows at stop link g l h = rw (eq-eqb _ _ g, l, least_first link stop h)

parts-sum : (rows : List ℕ) (at stop left : ℕ) (layout : Layout) → RowsStand rows at layout → at + items layout ≤ stop →
    parts_from (items layout + left) rows at stop ≡ inner_size layout + parts_from left rows (at + items layout) stop
unfolding items inner_size
parts-sum rows at stop left end s h =
    let z : at + 0 ≡ at = omega arith in
    let n : 0 + left ≡ left = omega arith in
    rw (z, n) (omega arith)
parts-sum rows at stop left (field tag required rest) s h =
    let n : 1 + items rest + left ≡ suc (items rest + left) = omega arith in
    let m : at + (1 + items rest) ≡ at + 1 + items rest = omega arith in
    let plain = eqb-false _ _ (field_says rows at tag required rest s).grouped in
    rw (n, m) (step (items rest + left)
    ∙ rw (parts-field rows at stop plain, parts-sum rows (at + 1) stop left rest (field-rest s) (omega arith))
    (omega arith))
  where
    step : (k : ℕ) → parts_from (suc k) rows at stop ≡ part_behind rows at stop + parts_from k rows (at + 1) stop
    step k = unfold parts_from in refl
parts-sum rows at stop left (group tag required inner rest) s h =
    let n : 1 + (items inner + items rest) + left ≡ suc (items inner + (items rest + left)) = omega arith in
    let m : at + (1 + (items inner + items rest)) ≡ at + 1 + items inner + items rest = omega arith in
    let r = group_says rows at tag required inner rest s in
    let p : part_behind rows at stop ≡ part_size (own_count inner) =
    parts-group rows at stop (at + 1 + items inner) (eqb-true _ _ r.grouped) r.linked (omega arith)
    ∙ ap part_size (rows_counted rows (at + 1) (at + 1 + items inner) inner
    (record { stands = group-inner s; ends = refl })) in
    rw (n, m) (step (items inner + (items rest + left))
    ∙ rw (
      p,
      parts-sum rows (at + 1) stop (items rest + left) inner (group-inner s) (omega arith),
      parts-sum rows (at + 1 + items inner) stop left rest (group-rest s) (omega arith),
    ) (omega arith))
  where
    step : (k : ℕ) → parts_from (suc k) rows at stop ≡ part_behind rows at stop + parts_from k rows (at + 1) stop
    step k = unfold parts_from in refl

-- the rows say how many words a layout takes
pub size_rows : (rows : List ℕ) (count : ℕ) (layout : Layout) → Tabled rows (record { first = 0; end = count }) layout → size_in rows count ≡ table_size layout
unfolding size_in parts_from
size_rows rows count layout t =
    let n : count ≡ items layout = t.ends ∙ omega arith in
    let m : items layout + 0 ≡ count = omega arith in
    rw (rows_counted rows 0 count layout t)
    (ap (λ (k : ℕ). part_size (own_count layout) + k) (ap (λ (k : ℕ). parts_from k rows 0 count) (sym m)
    ∙ parts-sum rows 0 count 0 layout t.stands (omega arith) ∙ omega arith))

-- a level has no more items than rows
siblings_most : (fuel : ℕ) (rows : List ℕ) (at stop : ℕ) → length (siblings_within fuel rows at stop) ≤ fuel
unfolding siblings_within
siblings_most zero rows at stop = omega arith
siblings_most (suc fuel) rows at stop = go (ltb at stop) (siblings_most fuel rows (next_sibling rows at stop) stop)
  where
    go : (t : Bool) → length (siblings_within fuel rows (next_sibling rows at stop) stop) ≤ fuel →
        length (pick {A = List Row} t (row_at rows at stop ∷ siblings_within fuel rows (next_sibling rows at stop) stop) []) ≤ suc fuel
    go true h = omega arith
    go false h = omega arith

pub counted_most : (rows : List ℕ) (at stop : ℕ) → length (siblings_from rows at stop) ≤ stop - at
unfolding siblings_from
counted_most rows at stop = siblings_most (stop - at) rows at stop

-- a part has few words to each item
pub part_most : (count : ℕ) → part_size count ≤ 129 + 5 * count
unfolding part_size
part_most count = omega (arith, (heads_bounds count).1)

-- nine words where a level has no item, and else no more than 14 to each of its own
part_bound : (count : ℕ) → part_size count ≤ 14 * count + (9 - 9 * count)
unfolding part_size
part_bound count = go (ltb 16 count) refl
  where
    go : (t : Bool) → ltb 16 count ≡ t → 1 + heads_for count + 5 * count ≤ 14 * count + (9 - 9 * count)
    go true e = omega (arith, heads-many count (ltb-true 16 count e), ltb-true 16 count e)
    go false e = omega (arith, heads-few count (ltb-false 16 count e))

own-some : (layout : Layout) → (layout ≡ end → ⊥) → 1 ≤ own_count layout
unfolding own_count
own-some end some = absurd (some refl)
own-some (field tag required rest) some = omega arith
own-some (group tag required inner rest) some = omega arith

inner_bound : {layout : Layout} → NoEmptyGroup layout → inner_size layout + 14 * own_count layout ≤ 14 * items layout
unfolding inner_size own_count items
inner_bound none-at_end = omega arith
inner_bound (none-after-field more) = omega (arith, inner_bound more)
inner_bound (none_in_group {inner} some within more) =
    omega (arith, inner_bound within, inner_bound more, own-some inner some, part_bound (own_count inner))

-- so a table has few words to each item of all levels
pub size_bound : {layout : Layout} → NoEmptyGroup layout → table_size layout ≤ 9 + 14 * items layout
size_bound {layout} filled = omega (arith, inner_bound filled, part_bound (own_count layout))

-- what can be pressed is a level from the table's first word on, whichever layout the rows are said to hold
module _ (rows : List ℕ) (count words : ℕ) (p : Pressable rows count words) where
  pub pressable_level : (layout : Layout) → Tabled rows (record { first = 0; end = count }) layout → Pressing rows 0 count words 0
  pressable_level layout t =
      let same : table_size layout ≡ table_size p.layout = sym (size_rows rows count layout t) ∙ size_rows rows count p.layout p.tabled in
      record { layout = layout; tabled = t; room = omega (arith, p.room); small = omega (arith, p.small) }

  pub pressable_as : (layout : Layout) (t : Tabled rows (record { first = 0; end = count }) layout) → (pressable_level layout t).layout ≡ layout
  unfolding pressable_level
  pressable_as layout t = refl

pub pressed-table : (layout : Layout) (table : List ℕ) → pressed 0 layout table ≡ table_of layout ++ drop (table_size layout) table
unfolding pressed table_of
pressed-table layout table = let z : 0 + table_size layout ≡ table_size layout = omega arith in rw z

-- summing up, row by row
pub size-start : (rows : List ℕ) (count : ℕ) → size_in rows count ≡ part_size (length (siblings_from rows 0 count)) + parts_from (count - 0) rows 0 count
unfolding size_in
size-start rows count = let z : count - 0 ≡ count = omega arith in rw z

module _ (rows : List ℕ) (at stop : ℕ) (some : at < stop) where
  parts-step : parts_from (stop - at) rows at stop ≡ part_behind rows at stop + parts_from (stop - (at + 1)) rows (at + 1) stop
  unfolding parts_from
  parts-step = let n : stop - at ≡ suc (stop - (at + 1)) = omega arith in rw n

  pub parts-on : (group_at rows at ≡ 1 → ⊥) → parts_from (stop - at) rows at stop ≡ parts_from (stop - (at + 1)) rows (at + 1) stop
  parts-on n = parts-step ∙ rw (parts-field rows at stop n) (omega arith)

  pub parts_in : group_at rows at ≡ 1 →
      parts_from (stop - at) rows at stop ≡
      part_size (length (siblings_from rows (at + 1) (least (link_at rows at) stop))) + parts_from (stop - (at + 1)) rows (at + 1) stop
  parts_in g = parts-step ∙ unfold part_behind in rw (eq-eqb _ _ g)

pub parts-end : (rows : List ℕ) (at stop : ℕ) → stop ≤ at → parts_from (stop - at) rows at stop ≡ 0
unfolding parts_from
parts-end rows at stop h = let n : stop - at ≡ 0 = omega arith in rw n
