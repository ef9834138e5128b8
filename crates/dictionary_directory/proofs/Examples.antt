-- Worked examples of this crate's definitions, each under one statement that antt computes: a block, looks at it, and a whole dictionary.
-- A wrong definition is refused here, whatever code is proved against it.
use Rattle.std.specs.Prelude.{◌≡◌, refl, List, [], ◌∷◌, ◌++◌, map, true, ℕ, take, replicate}
use Rattle.dictionary_layout_rules.specs.Layout.{Layout, end, field}
use Rattle.dictionary_layout_rules.specs.Table.{mark, marks, next_sibling}
use Rattle.dictionary_layout_rules.specs.RowsLayout.{layout_within, layout_in}
use Rattle.dictionary_tables_rules.specs.Table.{heads_for}
use Rattle.dictionary_tables_rules.specs.Tags.{fields_of}
use Rattle.dictionary_tables_rules.specs.Laid.{own_count, part_size, inner_size, own_items, first_under, last_group, first_marked, item_words, items_words, head_words, part_words, inner_words, table_of}
use Rattle.dictionary_chains.specs.Chain.{key_of, rank_of, head_of, word_at, entry_at, link_at, branch_of, key_room, most_turns, strayed, climbed, followed, way_of, found}
use Rattle.dictionary_rules.specs.Index.{component_of, looked_as, component_at}
use Rattle.dictionary_rules.specs.Record.{low_first, record_body_length, with_tag, with_mark, zero_filled, opens_component, opens_message, field_item_lem, record_body, with_body, with_kind, record_from, record_at}
use Rattle.dictionary_rules.specs.Records.{followed_by, records_within, records_from}
use Rattle.dictionary_meaning_rules.specs.Laying.{put_row, on_record, on_read, items_within, items_from, lay_items}
use Rattle.dictionary_meaning_rules.specs.MessageTable.{as_table, placed_table}
use Rattle.dictionary_meaning_rules.specs.PlainTags.{tag_on, tag_read, tags_within, tags_from, component_tags, plain_tags}
use Rattle.dictionary_directory.specs.Directory.{block_of, block_at, kept_in, kept_at, tags_at, table_in, filling, words_of, next_block, with_block, room_for, put_block, listed_tags, tags_listed, lay_listed, put_rows, lay_message, is_message, messages_among, messages_from, lay_messages, clear_directory, lay_tables}
use Rattle.std.proofs.Common.{Option, Some, None}

-- a layout of one required field, and its table
abbrev single : Layout
single = field 11 true end

abbrev single_table : List ℕ
single_table = 1 ∷ 0 ∷ 0 ∷ 0 ∷ 1 ∷ 0 ∷ 0 ∷ 0 ∷ 0 ∷ 11 ∷ 0 ∷ 0 ∷ 1 ∷ 0 ∷ []

-- a message whose record stands at the place 4: the directory's second word leads to the block; and one word too few
puts : map (λ (size : ℕ). put_block 1 4 single (replicate size 9) 16) (33 ∷ 31 ∷ []) ≡
    filling (9 ∷ 2 ∷ (replicate 14 9 ++ (14 ∷ 4 ∷ (single_table ++ (9 ∷ []))))) 32 ∷ filling (replicate 31 9) 16 ∷ []
unfolding put_block room_for with_block block_of next_block table_of own_count heads_for part_size inner_size own_items first_under last_group
    first_marked item_words items_words head_words part_words inner_words mark
puts = refl

starts : map next_block (16 ∷ 17 ∷ 23 ∷ 24 ∷ 25 ∷ []) ≡ 16 ∷ 24 ∷ 24 ∷ 24 ∷ 32 ∷ []
unfolding next_block
starts = refl

-- the block at the word 8: asked for by its own place, and by one that shares its word of the directory. A block of four words, and half of one, don't
-- lie in the words; the first word is the directory's.
abbrev lent : ℕ → List ℕ
lent size = replicate 8 0 ++ (size ∷ 4 ∷ 7 ∷ 8 ∷ 9 ∷ [])

blocks : map {B = Option (ℕ × ℕ)} (λ (look : List ℕ × ℕ × ℕ). kept_in look.0 look.1 look.2)
    ((lent 3, 4, 8) ∷ (lent 3, 5, 8) ∷ (lent 4, 4, 8) ∷ (take 9 (lent 3), 4, 8) ∷ (lent 3, 0, 0) ∷ []) ≡
    Some (10, 3) ∷ None ∷ None ∷ None ∷ None ∷ []
unfolding kept_in
blocks = refl

-- a dictionary of a header with one tag, a trailer with another, and one message, whose record stands at the place 20
abbrev component : ℕ → ℕ → List ℕ
component number tag = 2 ∷ number ∷ 0 ∷ 4 ∷ tag ∷ 0 ∷ 0 ∷ 0 ∷ 1 ∷ 7 ∷ []

abbrev dictionary : List ℕ
dictionary = component 0 8 ++ (component 1 10 ++ (3 ∷ 68 ∷ 0 ∷ 0 ∷ 0 ∷ 0 ∷ 0 ∷ 0 ∷ 0 ∷ 4 ∷ 11 ∷ 0 ∷ 0 ∷ 0 ∷ 1 ∷ 7 ∷ []))

-- an index that names both components: their heads stand behind those of the tags, and their entries by their places
abbrev index : List ℕ
index = replicate 2048 0 ++ (4 ∷ 14 ∷ (replicate 4100 0 ++ (0 ∷ 0 ∷ 0 ∷ 1 ∷ 0 ∷ 0 ∷ (replicate 9 0 ++ (0 ∷ 0 ∷ 1 ∷ 1 ∷ 0 ∷ 0 ∷ [])))))

abbrev header_table : List ℕ
header_table = 1 ∷ 1 ∷ 0 ∷ 0 ∷ 0 ∷ 0 ∷ 0 ∷ 0 ∷ 0 ∷ 8 ∷ 0 ∷ 0 ∷ 0 ∷ 0 ∷ []

abbrev trailer_table : List ℕ
trailer_table = 1 ∷ 0 ∷ 0 ∷ 1 ∷ 0 ∷ 0 ∷ 0 ∷ 0 ∷ 0 ∷ 10 ∷ 0 ∷ 0 ∷ 0 ∷ 0 ∷ []

-- what is found by the message's place, by one that shares its word, by two others; and as the tags of header and trailer, and of a third
abbrev read : List ℕ → List (List ℕ)
read tables =
    map (λ (place : ℕ). table_in tables (kept_at tables place)) (20 ∷ 21 ∷ 0 ∷ 60000 ∷ [])
    ++ map (λ (number : ℕ). table_in tables (tags_at tables number)) (0 ∷ 1 ∷ 2 ∷ [])

-- the tables are laid behind the directory and found there; words that are too few for a block, or for the directory, lead nowhere
whole : map (λ (size : ℕ). read (lay_tables dictionary index (replicate size 9))) (15056 ∷ 15055 ∷ 15039 ∷ 15007 ∷ []) ≡
    (single_table ∷ [] ∷ [] ∷ [] ∷ header_table ∷ trailer_table ∷ [] ∷ [])
    ∷ ([] ∷ [] ∷ [] ∷ [] ∷ header_table ∷ trailer_table ∷ [] ∷ [])
    ∷ ([] ∷ [] ∷ [] ∷ [] ∷ header_table ∷ [] ∷ [] ∷ [])
    ∷ ([] ∷ [] ∷ [] ∷ [] ∷ [] ∷ [] ∷ [] ∷ []) ∷ []
unfolding table_in kept_at tags_at kept_in block_at lay_tables clear_directory words_of lay_listed tags_listed listed_tags messages_from messages_among is_message lay_messages
    lay_message put_rows put_block room_for with_block block_of next_block fields_of plain_tags component_tags tags_from tags_within tag_read tag_on
    component_at looked_as component_of found way_of followed climbed strayed most_turns key_room branch_of link_at entry_at word_at key_of head_of rank_of
    placed_table as_table lay_items items_from items_within on_read on_record put_row layout_in layout_within next_sibling
    table_of own_count heads_for part_size inner_size own_items first_under last_group first_marked item_words items_words head_words
    part_words inner_words marks mark records_from records_within followed_by record_at record_from with_kind with_body record_body record_body_length
    opens_component opens_message field_item_lem with_tag with_mark zero_filled low_first
whole = refl
