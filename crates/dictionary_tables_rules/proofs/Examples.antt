-- Worked examples of this crate's definitions, one table to a definition, each under one statement that antt computes.
-- A wrong definition is refused here, whatever code is proved against it.
use Rattle.std.specs.Prelude.{◌≡◌, refl, List, [], ◌∷◌, ◌++◌, map, true, false, ℕ, take}
use Rattle.dictionary_layout_rules.specs.Layout.{Layout, end, field, group, first_of, position_from, position_in}
use Rattle.dictionary_layout_rules.specs.Table.{mark}
use Rattle.dictionary_tables_rules.specs.Table.{heads_for, heads_at, items_at, item_at, lies, tag_at, group_at, mark_at, later_at, chased, followed, item_of, delimiter_at, marked_behind, required_within, required_from, required_of, mark_within, mark_from}
use Rattle.dictionary_tables_rules.specs.Laid.{own_count, part_size, inner_size, own_items, first_under, last_group, first_marked, item_words, items_words, head_words, part_words, inner_words, table_of}
use Rattle.dictionary_tables_rules.proofs.Tabled.{place_of, group_of_item}
use Rattle.dictionary_tables_rules.specs.Tags.{fields_of, item_tags, is_item, found_of, tags_found}
use Rattle.std.proofs.Common.{Option, Some, None}

-- "group 78 (79 and 80 required)" between 38 and 58
abbrev order : Layout
order = field 38 false (group 78 false (field 79 true (field 80 true end)) (field 58 false end))

-- its table: how many items; the eight heads, by tag % 8; then low half, high half, group, marks and the next of the same head, item by item
abbrev order_table : List ℕ
order_table =
    3 ∷
    0 ∷ 0 ∷ 3 ∷ 0 ∷ 0 ∷ 0 ∷ 1 ∷ 0 ∷
    38 ∷ 0 ∷ 0 ∷ 0 ∷ 2 ∷
    78 ∷ 0 ∷ 24 ∷ 0 ∷ 0 ∷
    58 ∷ 0 ∷ 0 ∷ 0 ∷ 0 ∷
    2 ∷
    2 ∷ 0 ∷ 0 ∷ 0 ∷ 0 ∷ 0 ∷ 0 ∷ 1 ∷
    79 ∷ 0 ∷ 0 ∷ 5 ∷ 0 ∷
    80 ∷ 0 ∷ 0 ∷ 1 ∷ 0 ∷ []

tables : table_of order ≡ order_table
unfolding table_of own_count heads_for part_size inner_size own_items first_under last_group first_marked item_words items_words
    head_words part_words inner_words mark
tables = refl

-- the message's own level, the entries of 78, a level that passes the table
items : map {B = List (Option (ℕ × ℕ))} (λ (level : ℕ). map (item_of order_table level) (38 ∷ 78 ∷ 58 ∷ 79 ∷ 80 ∷ 5001 ∷ [])) (0 ∷ 24 ∷ 43 ∷ 65535 ∷ []) ≡
    (Some (0, 0) ∷ Some (1, 24) ∷ Some (2, 0) ∷ None ∷ None ∷ None ∷ []) ∷
    (None ∷ None ∷ None ∷ Some (0, 0) ∷ Some (1, 0) ∷ None ∷ []) ∷
    (None ∷ None ∷ None ∷ None ∷ None ∷ None ∷ []) ∷
    (None ∷ None ∷ None ∷ None ∷ None ∷ None ∷ []) ∷ []
unfolding item_of followed chased heads_at heads_for items_at item_at lies tag_at group_at later_at
items = refl

delimiters : map (delimiter_at order_table) (0 ∷ 24 ∷ 33 ∷ 43 ∷ 65535 ∷ []) ≡ Some 38 ∷ Some 79 ∷ None ∷ None ∷ None ∷ []
unfolding delimiter_at heads_at heads_for items_at lies tag_at
delimiters = refl

marks : map (mark_from order_table 24) (1 ∷ 2 ∷ 0 ∷ 3 ∷ []) ≡ Some (79, 2) ∷ Some (80, 0) ∷ None ∷ None ∷ []
unfolding mark_from mark_within heads_at heads_for items_at item_at lies tag_at mark_at marked_behind
marks = refl

required : map (required_of order_table) (0 ∷ 24 ∷ 43 ∷ []) ≡ [] ∷ (79 ∷ 80 ∷ []) ∷ [] ∷ []
unfolding required_of required_from required_within heads_at heads_for items_at item_at lies tag_at mark_at marked_behind
required = refl

-- 58 twice, plain; 78 as a group, then plain, then as a group again, then plain
abbrev twice : Layout
twice = field 58 false (group 78 false (field 79 false end) (field 78 true (field 58 true (group 78 true (field 80 false end) (field 78 false end)))))

-- "its position is the first, its group the last, and each required mark counts at its own place": the levels within start at 39 and 53
abbrev twice_table : List ℕ
twice_table =
    6 ∷
    0 ∷ 0 ∷ 1 ∷ 0 ∷ 0 ∷ 0 ∷ 2 ∷ 0 ∷
    58 ∷ 0 ∷ 0 ∷ 6 ∷ 4 ∷
    78 ∷ 0 ∷ 53 ∷ 6 ∷ 3 ∷
    78 ∷ 0 ∷ 53 ∷ 9 ∷ 5 ∷
    58 ∷ 0 ∷ 0 ∷ 11 ∷ 0 ∷
    78 ∷ 0 ∷ 53 ∷ 1 ∷ 6 ∷
    78 ∷ 0 ∷ 0 ∷ 0 ∷ 0 ∷
    1 ∷
    0 ∷ 0 ∷ 0 ∷ 0 ∷ 0 ∷ 0 ∷ 0 ∷ 1 ∷
    79 ∷ 0 ∷ 0 ∷ 0 ∷ 0 ∷
    1 ∷
    1 ∷ 0 ∷ 0 ∷ 0 ∷ 0 ∷ 0 ∷ 0 ∷ 0 ∷
    80 ∷ 0 ∷ 0 ∷ 0 ∷ 0 ∷ []

twice_tables : table_of twice ≡ twice_table
unfolding table_of own_count heads_for part_size inner_size own_items first_under last_group first_marked item_words items_words
    head_words part_words inner_words mark
twice_tables = refl

twice-items : map (item_of twice_table 0) (58 ∷ 78 ∷ 79 ∷ []) ≡ Some (0, 0) ∷ Some (1, 53) ∷ None ∷ []
unfolding item_of followed chased heads_at heads_for items_at item_at lies tag_at group_at later_at
twice-items = refl

twice_places : map {B = Option ℕ × ℕ} (λ (tag : ℕ). (place_of (item_of twice_table 0 tag), group_of_item (item_of twice_table 0 tag))) (58 ∷ 78 ∷ 79 ∷ []) ≡
    (position_in 58 twice, 0) ∷ (position_in 78 twice, 53) ∷ (position_in 79 twice, 0) ∷ []
unfolding item_of followed chased heads_at heads_for items_at item_at lies tag_at group_at later_at place_of group_of_item position_in position_from first_of
twice_places = refl

twice_required : required_of twice_table 0 ≡ 78 ∷ 58 ∷ 78 ∷ []
unfolding required_of required_from required_within heads_at heads_for items_at item_at lies tag_at mark_at marked_behind
twice_required = refl

-- a tag has two halves: 70,000 isn't 4,464, which has the same low half and the same head
abbrev long_table : List ℕ
long_table = 1 ∷ 1 ∷ 0 ∷ 0 ∷ 0 ∷ 0 ∷ 0 ∷ 0 ∷ 0 ∷ 4464 ∷ 1 ∷ 0 ∷ 1 ∷ 0 ∷ []

long_tags : table_of (field 70000 true end) ≡ long_table
unfolding table_of own_count heads_for part_size inner_size own_items first_under last_group first_marked item_words items_words
    head_words part_words inner_words mark
long_tags = refl

long_items : map (item_of long_table 0) (70000 ∷ 4464 ∷ []) ≡ Some (0, 0) ∷ None ∷ []
unfolding item_of followed chased heads_at heads_for items_at item_at lies tag_at group_at later_at
long_items = refl

-- seventeen items have many heads: 5 and 133 share one there, 8 and 16 don't
abbrev many : List ℕ
many = 5 ∷ 133 ∷ 8 ∷ 16 ∷ 24 ∷ 32 ∷ 40 ∷ 48 ∷ 56 ∷ 64 ∷ 72 ∷ 80 ∷ 88 ∷ 96 ∷ 104 ∷ 112 ∷ 120 ∷ []

sizes : map {B = ℕ × ℕ} (λ (count : ℕ). (heads_for count, part_size count)) (0 ∷ 16 ∷ 17 ∷ []) ≡ (8, 9) ∷ (8, 89) ∷ (128, 214) ∷ []
unfolding heads_for part_size
sizes = refl

many-items : map (item_of (table_of (fields_of many)) 0) (5 ∷ 133 ∷ 8 ∷ 120 ∷ 261 ∷ []) ≡ Some (0, 0) ∷ Some (1, 0) ∷ Some (2, 0) ∷ Some (16, 0) ∷ None ∷ []
unfolding fields_of item_of followed chased heads_at items_at item_at lies tag_at group_at later_at
    table_of own_count heads_for part_size inner_size own_items first_under last_group first_marked item_words items_words
    head_words part_words inner_words mark
many-items = refl

-- a list of tags is found again in its table, each tag as often as it stands there
many-tags : map {B = List ℕ} (λ (tags : List ℕ). tags_found (table_of (fields_of tags))) (many ∷ (58 ∷ 70000 ∷ 58 ∷ []) ∷ [] ∷ []) ≡
    many ∷ (58 ∷ 70000 ∷ 58 ∷ []) ∷ [] ∷ []
unfolding tags_found found_of item_tags is_item fields_of item_of followed chased heads_at items_at item_at lies tag_at group_at later_at
    table_of own_count heads_for part_size inner_size own_items first_under last_group first_marked item_words items_words
    head_words part_words inner_words mark
many-tags = refl

-- a layout without items has nine words, and nothing is found in them
abbrev empty_table : List ℕ
empty_table = 0 ∷ 0 ∷ 0 ∷ 0 ∷ 0 ∷ 0 ∷ 0 ∷ 0 ∷ 0 ∷ []

nothing : table_of end ≡ empty_table
unfolding table_of own_count heads_for part_size inner_size own_items first_under items_words head_words part_words inner_words
nothing = refl

-- whatever stands behind them
nothing-found : map {B = Option (ℕ × ℕ) × Option ℕ × Option (ℕ × ℕ) × List ℕ}
    (λ (table : List ℕ). (item_of table 0 38, delimiter_at table 0, mark_from table 0 1, required_of table 0))
    (empty_table ∷ (empty_table ++ (38 ∷ 0 ∷ 0 ∷ 1 ∷ 0 ∷ [])) ∷ (empty_table ++ order_table) ∷ []) ≡
    (None, None, None, []) ∷ (None, None, None, []) ∷ (None, None, None, []) ∷ []
unfolding item_of followed chased delimiter_at mark_from mark_within required_of required_from required_within
    heads_at heads_for items_at item_at lies tag_at group_at mark_at later_at marked_behind
nothing-found = refl

-- any words at all: two items, 7 and 8, with one link in all heads, the first item's word of marks, and the link behind it
abbrev odd : ℕ → ℕ → ℕ → List ℕ
odd head word later =
    2 ∷
    head ∷ head ∷ head ∷ head ∷ head ∷ head ∷ head ∷ head ∷
    7 ∷ 0 ∷ 0 ∷ word ∷ later ∷
    8 ∷ 0 ∷ 9 ∷ 1 ∷ 1 ∷ []

-- a link that doesn't rise isn't followed, and one that leads past the table finds nothing; what it leads to is looked at whatever the head is
odd-items : map {B = Option (ℕ × ℕ) × Option (ℕ × ℕ)} (λ (table : List ℕ). (item_of table 0 7, item_of table 0 8))
    (odd 1 0 2 ∷ odd 1 0 1 ∷ odd 1 0 0 ∷ odd 1 0 3 ∷ odd 2 0 0 ∷ odd 3 0 2 ∷ odd 65535 0 2 ∷
    take 18 (odd 1 0 2) ∷ take 13 (odd 1 0 2) ∷ take 1 (odd 1 0 2) ∷ [] ∷ []) ≡
    (Some (0, 0), Some (1, 9)) ∷ (Some (0, 0), None) ∷ (Some (0, 0), None) ∷ (Some (0, 0), None) ∷ (None, Some (1, 9)) ∷ (None, None) ∷ (None, None) ∷
    (Some (0, 0), None) ∷ (None, None) ∷ (None, None) ∷ (None, None) ∷ []
unfolding item_of followed chased heads_at heads_for items_at item_at lies tag_at group_at later_at
odd-items = refl

-- only what a look-up finds is a tag of the table, and of the levels within nothing
odd-tags : map tags_found (odd 1 0 2 ∷ odd 1 0 1 ∷ odd 2 0 0 ∷ odd 3 0 2 ∷ take 18 (odd 1 0 2) ∷ order_table ∷ [] ∷ []) ≡
    (7 ∷ 8 ∷ []) ∷ (7 ∷ []) ∷ (8 ∷ []) ∷ [] ∷ (7 ∷ []) ∷ (38 ∷ 78 ∷ 58 ∷ []) ∷ [] ∷ []
unfolding tags_found found_of item_tags is_item item_of followed chased heads_at heads_for items_at item_at lies tag_at group_at later_at
odd-tags = refl

odd_delimiters : map (λ (table : List ℕ). delimiter_at table 0) (odd 0 0 0 ∷ take 14 (odd 0 0 0) ∷ take 13 (odd 0 0 0) ∷ (17 ∷ odd 0 0 0) ∷ [] ∷ []) ≡
    Some 7 ∷ Some 7 ∷ None ∷ None ∷ None ∷ []
unfolding delimiter_at heads_at heads_for items_at lies tag_at
odd_delimiters = refl

odd-marks : map (λ (word : ℕ). mark_from (odd 1 word 0) 0 1) (0 ∷ 1 ∷ 2 ∷ 3 ∷ 4 ∷ 5 ∷ 6 ∷ 7 ∷ 65535 ∷ []) ≡
    None ∷ Some (7, 0) ∷ None ∷ Some (7, 0) ∷ Some (8, 0) ∷ Some (7, 2) ∷ None ∷ Some (7, 3) ∷ Some (7, 32767) ∷ []
unfolding mark_from mark_within heads_at heads_for items_at item_at lies tag_at mark_at marked_behind
odd-marks = refl

odd_links : map (mark_from (odd 1 5 0) 0) (0 ∷ 1 ∷ 2 ∷ 3 ∷ 4 ∷ 65535 ∷ []) ≡ None ∷ Some (7, 2) ∷ Some (8, 0) ∷ None ∷ None ∷ None ∷ []
unfolding mark_from mark_within heads_at heads_for items_at item_at lies tag_at mark_at marked_behind
odd_links = refl
