-- Writing a level's items, one row after the other: by what the row says, the next item of the layout is a field or a group.
use Rattle.std.specs.Prelude.{◌≡◌, Bool, true, false, ℕ, ◌+◌, ◌*◌, ◌/◌, ◌≤◌, ◌<◌, take, drop, eqb}
use Rattle.std.proofs.Math.Path.{refl, ap}
use Rattle.std.proofs.Common.{sym, ◌∙◌, arith, length-set, length-append, length-drop, length-take-le, eqb-true}
use mathlib.Core.List.{List, ◌++◌}
use Rattle.std.proofs.Math.ListN.{length}
use Rattle.std.proofs.lemmas.Bool.{eqb-false}
use Rattle.dictionary_layout_rules.specs.Layout.{Layout, end, field, group, items}
use Rattle.dictionary_layout_rules.specs.Table.{tag_at, required_at, group_at, link_at, siblings_from}
use Rattle.dictionary_layout_rules.specs.Tabled.{RowSays, RowsStand, Tabled}
use Rattle.dictionary_layout_rules.proofs.TabledLaws.{field-rest, group-inner, group-rest, stands-length}
use Rattle.dictionary_tables_rules.specs.Table.{heads_for}
use Rattle.dictionary_tables_rules.specs.Laid.{own_count, part_size, inner_size, table_size, level_words}
use Rattle.dictionary_tables_rules.proofs.Tabled.{level_length}
use Rattle.dictionary_pressing.specs.Linking.{items_start, linked}
use Rattle.dictionary_pressing.specs.Pressing.{put_item, pressed, press_items, Pressing, Pressed, Forward}
use Rattle.dictionary_pressing.specs.PressingLaws.{press_linked}
use Rattle.dictionary_pressing.specs.RowsLaws.{rows_counted, field_says, group_says}

-- the next item is a field
record FieldHere (rows : List ℕ) (at : ℕ) (rest : Layout) : Type 0 where
  tag : ℕ
  required : Bool
  after : Layout
  says : RowSays rows at tag required false (at + 1)
  stands : RowsStand rows (at + 1) after
  counts : items rest ≡ 1 + items after
  owns : own_count rest ≡ 1 + own_count after
  inners : inner_size rest ≡ inner_size after
  presses : (slot free : ℕ) (table : List ℕ) → press_items slot free rest table ≡ press_items (slot + 5) free after (put_item table slot tag 0 required)

field-here : (rows : List ℕ) (at : ℕ) (rest : Layout) → RowsStand rows at rest → 0 < items rest → (group_at rows at ≡ 1 → ⊥) → FieldHere rows at rest
unfolding items own_count inner_size press_items
field-here rows at end s h n = absurd (omega arith)
field-here rows at (field tag required after) s h n =
    record {
      tag = tag;
      required = required;
      after = after;
      says = field_says rows at tag required after s;
      stands = field-rest s;
      counts = refl;
      owns = refl;
      inners = refl;
      presses = λ slot free table. refl;
    }
field-here rows at (group tag required inner after) s h n = absurd (n (eqb-true _ _ (group_says rows at tag required inner after s).grouped))

-- the next item is a group
pub record GroupHere (rows : List ℕ) (at : ℕ) (rest : Layout) : Type 0 where
  pub tag : ℕ
  pub required : Bool
  pub inner : Layout
  pub after : Layout
  pub says : RowSays rows at tag required true (at + 1 + items inner)
  pub tabled : Tabled rows (record { first = at + 1; end = at + 1 + items inner }) inner
  pub stands : RowsStand rows (at + 1 + items inner) after
  pub counts : items rest ≡ 1 + (items inner + items after)
  pub owns : own_count rest ≡ 1 + own_count after
  pub inners : inner_size rest ≡ table_size inner + inner_size after
  pub presses : (slot free : ℕ) (table : List ℕ) →
      press_items slot free rest table ≡ press_items (slot + 5) (free + table_size inner) after (pressed free inner (put_item table slot tag free required))

group-here : (rows : List ℕ) (at : ℕ) (rest : Layout) → RowsStand rows at rest → 0 < items rest → group_at rows at ≡ 1 → GroupHere rows at rest
unfolding items own_count inner_size press_items
group-here rows at end s h g = absurd (omega arith)
group-here rows at (field tag required after) s h g = absurd (eqb-false _ _ (field_says rows at tag required after s).grouped g)
group-here rows at (group tag required inner after) s h g =
    record {
      tag = tag;
      required = required;
      inner = inner;
      after = after;
      says = group_says rows at tag required inner after s;
      tabled = record { stands = group-inner s; ends = refl };
      stands = group-rest s;
      counts = refl;
      owns = refl;
      inners = refl;
      presses = λ slot free table. refl;
    }

put-length : (table : List ℕ) (at tag leads : ℕ) (required : Bool) → length (put_item table at tag leads required) ≡ length table
unfolding put_item
put-length table at tag leads required = simp length-set

pressed-length : (level : ℕ) (layout : Layout) (table : List ℕ) → level + table_size layout ≤ length table → length (pressed level layout table) ≡ length table
unfolding pressed
pressed-length level layout table h =
    omega (
      arith,
      length-append (take level table) (level_words level layout ++ drop (level + table_size layout) table),
      length-append (level_words level layout) (drop (level + table_size layout) table),
      length-take-le level table (omega arith),
      level_length level layout,
      length-drop (level + table_size layout) table,
    )

no_items : (rest : Layout) → items rest ≡ 0 → rest ≡ end
unfolding items
no_items end n = refl
no_items (field tag required rest) n = absurd (omega arith)
no_items (group tag required inner rest) n = absurd (omega arith)

some-own : (rest : Layout) → 0 < items rest → 0 < own_count rest
unfolding items own_count
some-own end n = absurd (omega arith)
some-own (field tag required rest) n = omega arith
some-own (group tag required inner rest) n = omega arith

-- nothing is written yet
pub forward_start : (rows table : List ℕ) (first stop level : ℕ) (x : Pressing rows first stop (length table) level) →
    Forward rows table table first stop level first (items_start level (own_count x.layout)) (level + part_size (own_count x.layout)) x.layout
forward_start rows table first stop level x =
    record {
      rest = x.layout;
      stands = x.tabled.stands;
      ends = x.tabled.ends;
      since = omega arith;
      slots = unfold items_start part_size in
          omega arith;
      frees = omega arith;
      above = omega arith;
      kept = refl;
      sofar = refl;
    }

module _ (rows start table : List ℕ) (first stop level at slot free : ℕ) (layout : Layout)
    (s : Forward rows start table first stop level at slot free layout) where
  -- all is written
  pub forward_end : stop ≤ at → level + table_size layout ≤ length start →
      (free ≡ level + table_size layout) × (linked table level (own_count layout) ≡ pressed level layout start)
  forward_end h room =
      let n : items s.rest ≡ 0 = omega (arith, s.ends) in
      let e : s.rest ≡ end = no_items s.rest n in (
        omega (arith, s.frees, ap inner_size e, empty),
        ap (λ (t : List ℕ). linked t level (own_count layout))
            (sym (s.sofar ∙ ap (λ (rest : Layout). press_items slot free rest table) e ∙ unfold press_items in refl)) ∙ press_linked level layout start room,
      )
    where
      empty : inner_size end ≡ 0
      empty = unfold inner_size in refl

  -- a field's row
  pub forward_field : at < stop → (group_at rows at ≡ 1 → ⊥) → (after : List ℕ) (next : ℕ) → next ≡ link_at rows at →
      after ≡ put_item table slot (tag_at rows at) 0 (eqb (required_at rows at) 1) →
      (at < next) × Forward rows start after first stop level next (slot + 5) free layout
  forward_field h n after next l e =
      let f = field-here rows at s.rest s.stands (omega (arith, s.ends)) n in
      let k : next ≡ at + 1 = l ∙ f.says.linked in (
        omega arith,
        record {
          rest = f.after;
          stands = rw k f.stands;
          ends = omega (arith, s.ends, f.counts);
          since = omega (arith, s.since);
          slots = omega (arith, s.slots, f.owns);
          frees = omega (arith, s.frees, f.inners);
          above = s.above;
          kept = ap length e ∙ put-length table slot (tag_at rows at) 0 (eqb (required_at rows at) 1) ∙ s.kept;
          sofar = s.sofar ∙ f.presses slot free table
              ∙ ap (λ (t : List ℕ). press_items (slot + 5) free f.after t) (sym (e ∙ rw (f.says.tagged, f.says.marked)));
        },
      )

  -- there is room for one item more, and for what is within
  pub forward_room : at < stop → (slot + 5 ≤ level + table_size layout) × (free ≤ level + table_size layout)
  forward_room h = (omega (arith, s.slots, some-own s.rest (omega (arith, s.ends))), omega (arith, s.frees))

  -- a group's row
  module _ (some : at < stop) (leads : group_at rows at ≡ 1) where
    here : GroupHere rows at s.rest
    here = group-here rows at s.rest s.stands (omega (arith, s.ends)) leads

    module _ (link : ℕ) (links : link ≡ link_at rows at) where
      link_is : link ≡ at + 1 + items here.inner
      link_is = links ∙ here.says.linked

      pub forward_link : (at + 1 ≤ link) × (link ≤ stop)
      forward_link = (omega (arith, link_is), omega (arith, link_is, s.ends, here.counts))

      -- what is within has its own rows and words
      pub forward_inside : (words : ℕ) → level + table_size layout ≤ words → level + table_size layout < 65536 → Pressing rows (at + 1) link words free
      forward_inside words room small =
          record {
            layout = here.inner;
            tabled = rw link_is here.tabled;
            room = omega (arith, s.frees, here.inners);
            small = omega (arith, s.frees, here.inners);
          }

      pub forward_group : (put after : List ℕ) (next : ℕ) → level + table_size layout ≤ length start → level + table_size layout < 65536 →
          put ≡ put_item table slot (tag_at rows at) free (eqb (required_at rows at) 1) →
          ((y : Pressing rows (at + 1) link (length put) free) → Pressed free y.layout put after next) →
          Forward rows start after first stop level link (slot + 5) next layout
      unfolding forward_inside
      forward_group put after next room small e p =
          let n : length put ≡ length start = ap length e ∙ put-length table slot (tag_at rows at) free (eqb (required_at rows at) 1) ∙ s.kept in
          let q : Pressed free here.inner put after next = p (forward_inside (length put) (omega arith) small) in
          let within : free + table_size here.inner ≤ length put = omega (arith, s.frees, here.inners) in
          record {
            rest = here.after;
            stands = rw link_is here.stands;
            ends = omega (arith, s.ends, here.counts, link_is);
            since = omega (arith, s.since, link_is);
            slots = omega (arith, s.slots, here.owns);
            frees = omega (arith, s.frees, here.inners, q.ends);
            above = omega (arith, s.above, q.ends);
            kept = ap length q.words ∙ pressed-length free here.inner put within ∙ n;
            sofar = s.sofar ∙ here.presses slot free table
                ∙ ap (λ (t : List ℕ). press_items (slot + 5) (free + table_size here.inner) here.after t)
                (sym (q.words ∙ ap (λ (t : List ℕ). pressed free here.inner t) (e ∙ rw (here.says.tagged, here.says.marked))))
                ∙ ap (λ (f : ℕ). press_items (slot + 5) f here.after after) (sym q.ends);
          }

-- what room for a layout says of its own part
pub part-least : (count : ℕ) → 5 * count < part_size count
unfolding part_size
part-least count = omega arith

module _ (rows : List ℕ) (first stop words level : ℕ) (x : Pressing rows first stop words level) where
  pub pressing_within : stop ≤ length rows / 4
  pressing_within = omega (arith, stands-length rows first x.layout x.tabled.stands, x.tabled.ends)

  pub pressing_count : (count : ℕ) → count ≡ length (siblings_from rows first stop) → count ≡ own_count x.layout
  pressing_count count e = e ∙ rows_counted rows first stop x.layout x.tabled

  pub pressing_few : (count : ℕ) → count ≡ own_count x.layout → (5 * count + level < 65536) × (level + part_size count ≤ words)
  pressing_few count e = (omega (arith, part-least (own_count x.layout), x.small), rw e (omega (arith, x.room)))

pub forward_begin : (rows table : List ℕ) (first stop level count heads size : ℕ) (x : Pressing rows first stop (length table) level) →
    count ≡ own_count x.layout → heads ≡ heads_for count → size ≡ part_size count →
    Forward rows table table first stop level first (level + 1 + heads) (level + size) x.layout
unfolding items_start
forward_begin rows table first stop level count heads size x n h p =
    rw (h ∙ ap heads_for n, p ∙ ap part_size n) (forward_start rows table first stop level x)
