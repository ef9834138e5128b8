-- Worked examples of this crate's definitions, one table to a definition, each under one statement that antt computes.
-- A wrong definition is refused here, whatever code is proved against it.
use Rattle.std.specs.Prelude.{◌≡◌, refl, List, [], ◌∷◌, ◌++◌, map, Bool, true, false, ℕ, ◌+◌, ◌/◌, ◌%◌, eqb, replicate, Some, None}
use Rattle.field_rules.specs.Choice.{pick}
use Rattle.field_rules.specs.Text.{bytes}
use Rattle.dictionary_layout_rules.specs.Layout.{Layout, end, group}
use Rattle.dictionary_layout_rules.specs.Layout.{field as plain_field, followed_by as followed_in_place}
use Rattle.dictionary_layout_rules.specs.Tree.{Nodes, nothing, field_item_lem, component_item_lem, group_item_lem, Message, Dictionary, flattened}
use Rattle.dictionary_layout_rules.specs.Table.{mark, marks}
use Rattle.dictionary_rules.specs.Record.{low_first, zero_filled, record_body_length, with_tag, with_mark, known_tag, opens_component, opens_message, record_body, with_body, with_kind, record_from, record_at}
use Rattle.dictionary_rules.specs.Record.{field_item_lem as field_body, component_item_lem as component_body, opens_group as group_body}
use Rattle.dictionary_rules.specs.Records.{Records, records_from, records_within, followed_by}
use Rattle.dictionary_rules.specs.Names.{component_in}
use Rattle.dictionary_rules.specs.declared.Component.{Component}
use Rattle.dictionary_meaning_rules.specs.Meaning.{item_before, no_items, body_of, size_of, declarations_in, declarations_of, nodes_of, expanded, defined_by, defined_after, bytes_within, msg_type_bytes, message_in, messages_from, tag_in, tags_from, meaning_of, dictionary_of}
use Rattle.dictionary_meaning_rules.specs.ClosedOff.{open_after, closes, closed_off, open_of, layouts_by, layouts_after, layouts_of}
use Rattle.dictionary_meaning_rules.specs.Laying.{Laying, laying, behind_opening, expanding, stands_at, put_row, after_group, after_component, on_component, on_record, on_read, items_within, items_from, lay_items}
use Rattle.dictionary_meaning_rules.specs.MsgType.{no_zero, name_of}

abbrev tag : ℕ → List ℕ
tag t = t % 256 ∷ t / 256 ∷ 0 ∷ 0 ∷ []

abbrev known : List ℕ → List ℕ
known [] = []
known (t ∷ tags) = 1 ∷ (tag t ++ known tags)

abbrev field : ℕ → ℕ → List ℕ
field t required = 4 ∷ (tag t ++ (required ∷ []))

abbrev item : ℕ → ℕ → List ℕ
item number required = 5 ∷ number ∷ 0 ∷ required ∷ []

abbrev joined : List (List ℕ) → List ℕ
joined [] = 7 ∷ []
joined (part ∷ parts) = part ++ joined parts

-- a group opens
abbrev opening : ℕ → ℕ → List ℕ
opening t required = 6 ∷ (tag t ++ (required ∷ []))

-- component 3 is empty; component 2 holds 79 and 80; component 4 holds 3 and 2, so it stands for 2
abbrev dictionary : List ℕ
dictionary =
    known (8 ∷ 10 ∷ 38 ∷ 78 ∷ 79 ∷ 80 ∷ 58 ∷ [])
    ++ (joined ((2 ∷ 3 ∷ 0 ∷ []) ∷ [])
    ++ (joined ((2 ∷ 0 ∷ 0 ∷ []) ∷ field 8 1 ∷ item 3 0 ∷ [])
    ++ (joined ((2 ∷ 1 ∷ 0 ∷ []) ∷ field 10 1 ∷ [])
    ++ (joined ((2 ∷ 2 ∷ 0 ∷ []) ∷ field 79 1 ∷ field 80 0 ∷ [])
    ++ (joined ((2 ∷ 4 ∷ 0 ∷ []) ∷ item 3 1 ∷ item 2 0 ∷ [])
    ++ joined ((3 ∷ 68 ∷ 0 ∷ 0 ∷ 0 ∷ 0 ∷ 0 ∷ 0 ∷ 0 ∷ []) ∷ field 38 0 ∷ opening 78 1 ∷ joined (item 4 1 ∷ []) ∷ item 4 1 ∷ field 58 0 ∷ []))))))

abbrev fourth : Nodes
fourth = component_item_lem true nothing (component_item_lem false (field_item_lem 79 true (field_item_lem 80 false nothing)) nothing)

tree : dictionary_of dictionary ≡ record {
  known = 8 ∷ 10 ∷ 38 ∷ 78 ∷ 79 ∷ 80 ∷ 58 ∷ [];
  header = field_item_lem 8 true (component_item_lem false nothing nothing);
  trailer = field_item_lem 10 true nothing;
  messages = record { msg_type = bytes "D"; nodes = field_item_lem 38 false (group_item_lem 78 true (component_item_lem true fourth nothing) (component_item_lem true fourth (field_item_lem 58 false nothing))) } ∷ [];
}
unfolding dictionary_of meaning_of tags_from tag_in messages_from message_in msg_type_bytes bytes_within defined_after defined_by expanded nodes_of declarations_of
    declarations_in size_of body_of no_items item_before records_from records_within followed_by record_at record_from with_kind with_body record_body record_body_length
    known_tag opens_component opens_message field_body component_body group_body with_tag with_mark zero_filled low_first
tree = refl

-- groups in a group, one with items behind it and one that stands last, an item behind the whole, and a message behind that
abbrev within : List (List ℕ)
within = field 79 1 ∷ opening 539 0 ∷ joined (field 524 1 ∷ []) ∷ field 80 0 ∷ opening 804 1 ∷ joined (field 545 0 ∷ []) ∷ []

abbrev nested : List ℕ
nested =
    known (8 ∷ 10 ∷ 78 ∷ 79 ∷ 539 ∷ 524 ∷ 80 ∷ 804 ∷ 545 ∷ 58 ∷ [])
    ++ (joined ((2 ∷ 0 ∷ 0 ∷ []) ∷ field 8 1 ∷ [])
    ++ (joined ((2 ∷ 1 ∷ 0 ∷ []) ∷ field 10 1 ∷ [])
    ++ (joined ((3 ∷ 65 ∷ 69 ∷ 0 ∷ 0 ∷ 0 ∷ 0 ∷ 0 ∷ 0 ∷ []) ∷ opening 78 1 ∷ joined within ∷ field 58 0 ∷ [])
    ++ joined ((3 ∷ 68 ∷ 0 ∷ 0 ∷ 0 ∷ 0 ∷ 0 ∷ 0 ∷ 0 ∷ []) ∷ field 58 1 ∷ []))))

nested_tree : (dictionary_of nested).messages ≡
    record {
      msg_type = bytes "AE";
      nodes = group_item_lem 78 true
          (field_item_lem 79 true (group_item_lem 539 false (field_item_lem 524 true nothing) (field_item_lem 80 false (group_item_lem 804 true (field_item_lem 545 false nothing) nothing))))
          (field_item_lem 58 false nothing);
    }
    ∷ record { msg_type = bytes "D"; nodes = field_item_lem 58 true nothing }
    ∷ []
unfolding dictionary_of meaning_of tags_from tag_in messages_from message_in msg_type_bytes bytes_within defined_after defined_by expanded nodes_of declarations_of
    declarations_in size_of body_of no_items item_before records_from records_within followed_by record_at record_from with_kind with_body record_body record_body_length
    known_tag opens_component opens_message field_body component_body group_body with_tag with_mark zero_filled low_first
nested_tree = refl

-- as far as it was read: 38 in the message with group 78 open, the same with component 4 in the group, and with the group closed
abbrev pair : Layout
pair = plain_field 79 true (plain_field 80 false end)

abbrev others : List Layout
others = pair ∷ pair ∷ plain_field 10 true end ∷ plain_field 8 true end ∷ end ∷ []

so_far : map {B = ℕ × List Layout} (λ (first : ℕ). (open_of first 0 (records_from dictionary 0), layouts_of (closed_off first 0 (records_from dictionary 0)))) (24 ∷ 27 ∷ 28 ∷ 29 ∷ []) ≡
    (0, others)
    ∷ (2, plain_field 38 false (group 78 true end end) ∷ others)
    ∷ (2, plain_field 38 false (group 78 true pair end) ∷ others)
    ∷ (1, plain_field 38 false (group 78 true pair end) ∷ others)
    ∷ []
unfolding open_of open_after closed_off closes layouts_of layouts_after layouts_by flattened followed_in_place defined_by expanded nodes_of declarations_of
    declarations_in size_of body_of no_items item_before records_from records_within followed_by record_at record_from with_kind with_body record_body record_body_length
    known_tag opens_component opens_message field_body component_body group_body with_tag with_mark zero_filled low_first
so_far = refl

abbrev components : List Component
components =
    record { number = 4; place = 79; items = 2; depth = 0; stands = 2 }
    ∷ record { number = 2; place = 63; items = 2; depth = 0; stands = 2 }
    ∷ record { number = 3; place = 35; items = 0; depth = 0; stands = 3 }
    ∷ []

-- the message's items, from behind its record, in a table that has room for one row more; and what no items are, or too few of depth
rows : map (λ (depth : ℕ). lay_items depth dictionary (component_in components) 100 0 (replicate 32 9)) (3 ∷ 2 ∷ []) ≡
    laying (Some (128, 7)) (
    38 ∷ 0 ∷ 0 ∷ 1 ∷
    78 ∷ 0 ∷ 3 ∷ 4 ∷
    79 ∷ 0 ∷ 1 ∷ 3 ∷
    80 ∷ 0 ∷ 0 ∷ 4 ∷
    79 ∷ 0 ∷ 1 ∷ 5 ∷
    80 ∷ 0 ∷ 0 ∷ 6 ∷
    58 ∷ 0 ∷ 0 ∷ 7 ∷ 9 ∷ 9 ∷ 9 ∷ 9 ∷ [])
    ∷ laying None (38 ∷ 0 ∷ 0 ∷ 1 ∷ replicate 28 9)
    ∷ []
unfolding lay_items items_from items_within on_read on_record on_component after_component after_group put_row stands_at expanding behind_opening component_in marks
    mark record_at record_from with_kind with_body record_body record_body_length known_tag opens_component opens_message field_body component_body group_body with_tag
    with_mark zero_filled low_first
rows = refl

-- an index that claims items for component 4 and leads to the empty one: no row is added, so the laying breaks off
forged : lay_items 3 dictionary (component_in (record { number = 4; place = 35; items = 2; depth = 0; stands = 4 } ∷ [])) 117 4 (replicate 32 9) ≡ laying None (replicate 32 9)
unfolding lay_items items_from items_within on_read on_record on_component after_component stands_at expanding behind_opening component_in record_at record_from with_kind with_body record_body record_body_length component_body with_mark zero_filled low_first
forged = refl

-- a group that holds nothing, or an empty component only, breaks the laying off too; one that holds 79 is laid
grouped : map (λ (inner : List (List ℕ)). lay_items 3 (joined (opening 78 1 ∷ joined inner ∷ [])) (component_in components) 0 0 (replicate 8 9))
    ([] ∷ (item 3 1 ∷ []) ∷ (field 79 1 ∷ []) ∷ []) ≡
    laying None (replicate 8 9) ∷ laying None (replicate 8 9) ∷ laying (Some (14, 2)) (78 ∷ 0 ∷ 3 ∷ 2 ∷ 79 ∷ 0 ∷ 1 ∷ 2 ∷ []) ∷ []
unfolding lay_items items_from items_within on_read on_record on_component after_group put_row stands_at expanding component_in marks mark record_at record_from with_kind with_body record_body record_body_length field_body component_body group_body with_tag with_mark zero_filled low_first
grouped = refl

-- a MsgType is compared with its length
names : map name_of (bytes "D" ∷ bytes "AE" ∷ (68 ∷ 0 ∷ []) ∷ (0 ∷ 68 ∷ []) ∷ [] ∷ bytes "12345678" ∷ bytes "123456789" ∷ []) ≡ Some 68 ∷ Some 17729 ∷ None ∷ None ∷ None ∷ Some 4050765991979987505 ∷ None ∷ []
unfolding name_of no_zero low_first
names = refl
