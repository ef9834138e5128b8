-- Worked examples of this crate's definitions, one table to a definition, each under one statement that antt computes.
-- A wrong definition is refused here, whatever code is proved against it.
use Rattle.std.specs.Prelude.{◌≡◌, refl, List, [], ◌∷◌, map, true, false, ℕ, zero, suc}
use Rattle.std.proofs.Common.{arith, Some, None}
use Rattle.field_rules.specs.Text.{bytes}
use Rattle.dictionary_layout_rules.specs.Layout.{Layout, end, field, group, followed_by, first_of, position_from, position_in, none, entries, group_since}
use Rattle.dictionary_layout_rules.specs.Layout.{group_of, delimiter_of_lem, required_tags, items, larger, depth}
use Rattle.dictionary_layout_rules.specs.Tree.{Nodes, nothing, field_item_lem, component_item_lem, group_item_lem, Dictionary, holds_tag, knows, plain_fields, flattened}
use Rattle.dictionary_layout_rules.specs.Tree.{same_bytes, no_message, laid_out, message_of, layout_of}
use Rattle.dictionary_layout_rules.specs.Table.{mark, marks, rows_from}
use Rattle.dictionary_layout_rules.specs.Measures.{NoEmptyGroup, none-at_end, none-after-field, none_in_group, Bounded}

abbrev plain : List ℕ → Nodes
plain [] = nothing
plain (tag ∷ tags) = field_item_lem tag false (plain tags)

-- "group 78 (79 and 80 required; group 539 with 524 required, 525)"
abbrev allocations : Nodes
allocations = field_item_lem 79 true (field_item_lem 80 true (group_item_lem 539 false (field_item_lem 524 true (field_item_lem 525 false nothing)) nothing))

-- "Dictionary: header 8 9 35 34 49; trailer 93 89 10; message `0` with 112; message `D` with 38, group 78 (..), 58."
abbrev dictionary : Dictionary
dictionary =
    record {
      known = 8 ∷ 9 ∷ 35 ∷ 34 ∷ 49 ∷ 93 ∷ 89 ∷ 10 ∷ 112 ∷ 38 ∷ 78 ∷ 79 ∷ 80 ∷ 539 ∷ 524 ∷ 525 ∷ 58 ∷ [];
      header = plain (8 ∷ 9 ∷ 35 ∷ 34 ∷ 49 ∷ []);
      trailer = plain (93 ∷ 89 ∷ 10 ∷ []);
      messages =
          record { msg_type = bytes "0"; nodes = plain (112 ∷ []) } ∷ record {
            msg_type = bytes "D";
            nodes = field_item_lem 38 false (group_item_lem 78 false allocations (field_item_lem 58 false nothing));
          } ∷ [];
    }

abbrev entries_of : Layout
entries_of = field 79 true (field 80 true (group 539 false (field 524 true (field 525 false end)) end))

abbrev order : Layout
order = field 38 false (group 78 false entries_of (field 58 false end))

-- a MsgType is compared with its length
layouts : map (layout_of dictionary) (bytes "D" ∷ bytes "0" ∷ (68 ∷ 0 ∷ []) ∷ bytes "" ∷ bytes "DD" ∷ bytes "d" ∷ [])
    ≡ laid_out order ∷ laid_out (field 112 false end) ∷ no_message ∷ no_message ∷ no_message ∷ no_message ∷ []
unfolding layout_of message_of same_bytes flattened followed_by
layouts = refl

-- a group's count in component 0 is no header tag, nor is a field of a component within it
header_tags : map plain_fields (dictionary.header ∷ dictionary.trailer ∷ field_item_lem 8 true
    (component_item_lem true (plain (9 ∷ [])) (group_item_lem 627 false (plain (628 ∷ [])) (field_item_lem 35 false nothing))) ∷ [])
    ≡ (8 ∷ 9 ∷ 35 ∷ 34 ∷ 49 ∷ []) ∷ (93 ∷ 89 ∷ 10 ∷ []) ∷ (8 ∷ 35 ∷ []) ∷ []
unfolding plain_fields
header_tags = refl

known-tags : map (knows dictionary) (38 ∷ 10 ∷ 5001 ∷ 0 ∷ []) ≡ true ∷ true ∷ false ∷ false ∷ []
unfolding knows holds_tag
known-tags = refl

-- components are flattened in place, also in a group, and only an item's own mark counts
flattening : map flattened (component_item_lem true (plain (1 ∷ 2 ∷ [])) (field_item_lem 3 true nothing) ∷ field_item_lem 1 false
    (component_item_lem false (component_item_lem true nothing (field_item_lem 2 true nothing)) (field_item_lem 3 false nothing)) ∷ group_item_lem 4 false
    (component_item_lem true allocations nothing) nothing ∷ [])
    ≡ field 1 false (field 2 false (field 3 true end)) ∷ field 1 false (field 2 true (field 3 false end)) ∷ group 4 false entries_of end ∷ []
unfolding flattened followed_by
flattening = refl

positions : map (λ (tag : ℕ). position_in tag order) (38 ∷ 78 ∷ 58 ∷ 79 ∷ 5001 ∷ []) ≡ Some 0 ∷ Some 1 ∷ Some 2 ∷ None ∷ None ∷ []
unfolding position_in position_from first_of
positions = refl

-- 58 twice, plain; 78 as a group, then plain, then as a group again, then plain
abbrev twice : Layout
twice = field 58 false (group 78 false (field 79 false end) (field 78 true (field 58 true (group 78 true (field 80 false end) (field 78 false end)))))

-- "its position is the first, its group the last, and each required mark counts at its own place"
twice_positions : map (λ (tag : ℕ). position_in tag twice) (58 ∷ 78 ∷ 79 ∷ []) ≡ Some 0 ∷ Some 1 ∷ None ∷ []
unfolding position_in position_from first_of
twice_positions = refl

groups : map (λ (tag : ℕ). group_of tag twice) (78 ∷ 58 ∷ 79 ∷ []) ≡ entries (field 80 false end) ∷ none ∷ none ∷ []
unfolding group_of group_since
groups = refl

required : map required_tags (twice ∷ order ∷ entries_of ∷ end ∷ []) ≡ (78 ∷ 58 ∷ 78 ∷ []) ∷ [] ∷ (79 ∷ 80 ∷ []) ∷ [] ∷ []
unfolding required_tags
required = refl

delimiters : map delimiter_of_lem (entries_of ∷ twice ∷ group 78 false entries_of end ∷ end ∷ []) ≡ Some 79 ∷ Some 58 ∷ Some 78 ∷ None ∷ []
unfolding delimiter_of_lem
delimiters = refl

sizes : map {B = ℕ × ℕ} (λ (layout : Layout). (items layout, depth layout)) (order ∷ twice ∷ entries_of ∷ end ∷ []) ≡ (8, 2) ∷ (8, 1) ∷ (5, 1) ∷ (0, 0) ∷ []
unfolding items depth larger
sizes = refl

-- groups one in the other around a field; fields one after the other
abbrev nested : ℕ → Layout
nested zero = field 1 false end
nested (suc n) = group 2 false (nested n) end

abbrev fields : ℕ → Layout
fields zero = end
fields (suc n) = field 1 false (fields n)

nested-filled : (n : ℕ) → NoEmptyGroup (nested n)
nested-filled zero = none-after-field none-at_end
nested-filled (suc n) = none_in_group (some n) (nested-filled n) none-at_end
  where
    some : (n : ℕ) → nested n ≡ end → ⊥
    some zero e = let z : ◌≡◌ {A = ℕ} 0 1 = cc in omega arith
    some (suc n) e = let z : ◌≡◌ {A = ℕ} 0 1 = cc in omega arith

fields-filled : (n : ℕ) → NoEmptyGroup (fields n)
fields-filled zero = none-at_end
fields-filled (suc n) = none-after-field (fields-filled n)

-- the bounds can be reached and not passed: "five deep", "1,024 items", "closes empty"
measures : (depth (nested 4) ≡ 4) × (items (nested 4) ≡ 5) × (depth (nested 5) ≡ 5) × (depth (fields 1024) ≡ 0) × (items (fields 1024) ≡ 1024)
    × (items (fields 1025) ≡ 1025)
unfolding items depth larger
measures = (refl, refl, refl, refl, refl, refl)

reached : Bounded (nested 4) × Bounded (fields 1024)
reached = (
  record { shallow = omega (arith, measures.0); few = omega (arith, measures.1); filled = nested-filled 4 },
  record { shallow = omega (arith, measures.3); few = omega (arith, measures.4); filled = fields-filled 1024 },
)

five_deep : Bounded (nested 5) → ⊥
five_deep b = omega (arith, b.shallow, measures.2)

over-many : Bounded (fields 1025) → ⊥
over-many b = omega (arith, b.few, measures.5)

closes-empty : Bounded (group 1 false end end) → ⊥
closes-empty b = go b.filled
  where
    go : NoEmptyGroup (group 1 false end end) → ⊥
    go (none_in_group some inner rest) = some refl

-- the table of `D`: low and high half of the tag, marks, where what belongs to it ends
abbrev order_table : List ℕ
order_table =
    38 ∷ 0 ∷ 0 ∷ 1 ∷
    78 ∷ 0 ∷ 2 ∷ 7 ∷
    79 ∷ 0 ∷ 1 ∷ 3 ∷
    80 ∷ 0 ∷ 1 ∷ 4 ∷
    539 ∷ 0 ∷ 2 ∷ 7 ∷
    524 ∷ 0 ∷ 1 ∷ 6 ∷
    525 ∷ 0 ∷ 0 ∷ 7 ∷
    58 ∷ 0 ∷ 0 ∷ 8 ∷ []

tables : (rows_from 0 order ≡ order_table) × (rows_from 0 (group 65615 true (field 4294967295 true end) end) ≡ 79 ∷ 1 ∷ 3 ∷ 2 ∷ 65535 ∷ 65535 ∷ 1 ∷ 2 ∷ [])
unfolding rows_from items marks mark
tables = (refl, refl)
