-- `put_tags` meets its contract: the table of so many tags has a known size; where there is room, it is pressed behind the two words of its head.
use mathlib.Core.Path.{◌≡◌, sym, ap, ◌∙◌}
use mathlib.Core.Bool.{true}
use mathlib.Core.List.{◌++◌}
use Prim.Native.Nat.{ℕ, ◌+◌, ◌-◌, ◌/◌, ◌≤◌, ◌<◌}
use native.Mathlib.Omega.{arith}
use borrow.Author.Rules.{rules}
use lib.ListN.{length, take, drop, length-take, length-drop}
use lib.Seq.{length-take-le}
use Rattle.dictionary_tables_rules.specs.Laid.{part_size, table_size, table_of}
use Rattle.dictionary_tables_rules.specs.Tags.{fields_of}
use Rattle.dictionary_tables_rules.proofs.TagsLaws.{fields-part, fields-few}
use Rattle.dictionary_directory.specs.Directory.{block_stride, room_for}
use Rattle.dictionary_directory.proofs.LayingFacts.{put-none, put-words}
use Rattle.dictionary_directory.proofs.LayingFacts.{room-here}
use Rattle.dictionary_directory.proofs.put_tags.Goals as goal

pub returns-then-not-has_room : goal.returns-then-not-has_room
returns-then-not-has_room c =
    let taken : length (take c.args.count c.args.list.now) ≡ c.args.count = length-take-le c.args.count c.args.list.now c.requires.1 in
    let sized : c.part_size-size.result ≡ table_size (fields_of (take c.args.count c.args.list.now)) = c.part_size-size.ensures ∙ ap part_size (sym (taken)) ∙ sym (fields-part (take c.args.count c.args.list.now)) in
    sym (put-none _ _ _ _ _ _ (sized) (sym c.has_room.ensures ∙ c.if-not-has_room.true))

pub slice_bounds-press_tags-end : goal.slice_bounds-press_tags-end
slice_bounds-press_tags-end c =
    let taken : length (take c.args.count c.args.list.now) ≡ c.args.count = length-take-le c.args.count c.args.list.now c.requires.1 in
    sym (taken)

pub press_tags-requires : goal.press_tags-requires
press_tags-requires c =
    let taken : length (take c.args.count c.args.list.now) ≡ c.args.count = length-take-le c.args.count c.args.list.now c.requires.1 in
    let few : length (take c.args.count c.args.list.now) ≤ 1024 = omega (arith, taken) in
    let sized : c.part_size-size.result ≡ table_size (fields_of (take c.args.count c.args.list.now)) = c.part_size-size.ensures ∙ ap part_size (sym (taken)) ∙ sym (fields-part (take c.args.count c.args.list.now)) in
    let fits : room_for (length c.args.tables.now) c.args.free c.part_size-size.result ≡ true = sym c.has_room.ensures ∙ c.if-not-has_room.false in
    let room : (c.args.free / block_stride < 65536) × (c.args.free + 2 + c.part_size-size.result ≤ length c.args.tables.now) = room-here _ _ _ (fits) in
    (few, simp (length-take, length-drop) (omega (arith, sized, (room).1)))

pub put_head-requires : goal.put_head-requires
put_head-requires c =
    let taken : length (take c.args.count c.args.list.now) ≡ c.args.count = length-take-le c.args.count c.args.list.now c.requires.1 in
    let few : length (take c.args.count c.args.list.now) ≤ 1024 = omega (arith, taken) in
    let sized : c.part_size-size.result ≡ table_size (fields_of (take c.args.count c.args.list.now)) = c.part_size-size.ensures ∙ ap part_size (sym (taken)) ∙ sym (fields-part (take c.args.count c.args.list.now)) in
    let small : c.part_size-size.result < 65536 = omega (arith, sized, fields-few (take c.args.count c.args.list.now) (few)) in
    let fits : room_for (length c.args.tables.now) c.args.free c.part_size-size.result ≡ true = sym c.has_room.ensures ∙ c.if-not-has_room.false in
    let room : (c.args.free / block_stride < 65536) × (c.args.free + 2 + c.part_size-size.result ≤ length c.args.tables.now) = room-here _ _ _ (fits) in
    (search (rules, room), search rules, omega (arith, c.requires.2), small, (room).0)

pub returns : goal.returns
returns c =
    let taken : length (take c.args.count c.args.list.now) ≡ c.args.count = length-take-le c.args.count c.args.list.now c.requires.1 in
    let sized : c.part_size-size.result ≡ table_size (fields_of (take c.args.count c.args.list.now)) = c.part_size-size.ensures ∙ ap part_size (sym (taken)) ∙ sym (fields-part (take c.args.count c.args.list.now)) in
    let fits : room_for (length c.args.tables.now) c.args.free c.part_size-size.result ≡ true = sym c.has_room.ensures ∙ c.if-not-has_room.false in
    let pressed : let tags = fields_of (take c.args.count c.args.list.now) in let part = take (length c.args.tables.now - (c.args.free + 2)) (drop (c.args.free + 2) c.args.tables.now) in
    c.press_tags.new.table ≡ table_of tags ++ drop (table_size tags) part = let tags = fields_of (take c.args.count c.args.list.now) in let part = take (length c.args.tables.now - (c.args.free + 2)) (drop (c.args.free + 2) c.args.tables.now) in
    c.press_tags.ensures.0 ∙ ap (λ (n : ℕ). table_of tags ++ drop n part) c.press_tags.ensures.1 in
    put-words _ _ _ _ _ _ (sized) (fits) _ (pressed) _ c.put_head.ensures.0 _ c.put_head.ensures.1

pub has_room-requires : goal.has_room-requires
has_room-requires c =
    let taken : length (take c.args.count c.args.list.now) ≡ c.args.count = length-take-le c.args.count c.args.list.now c.requires.1 in
    let few : length (take c.args.count c.args.list.now) ≤ 1024 = omega (arith, taken) in
    let sized : c.part_size-size.result ≡ table_size (fields_of (take c.args.count c.args.list.now)) = c.part_size-size.ensures ∙ ap part_size (sym (taken)) ∙ sym (fields-part (take c.args.count c.args.list.now)) in
    let small : c.part_size-size.result < 65536 = omega (arith, sized, fields-few (take c.args.count c.args.list.now) (few)) in
    small

pub overflow_add-free : goal.overflow_add-free
overflow_add-free c =
    let fits : room_for (length c.args.tables.now) c.args.free c.part_size-size.result ≡ true = sym c.has_room.ensures ∙ c.if-not-has_room.false in
    let room : (c.args.free / block_stride < 65536) × (c.args.free + 2 + c.part_size-size.result ≤ length c.args.tables.now) = room-here _ _ _ (fits) in
    omega (arith, (room).1)

pub offset_bounds-tables-free : goal.offset_bounds-tables-free
offset_bounds-tables-free c =
    let fits : room_for (length c.args.tables.now) c.args.free c.part_size-size.result ≡ true = sym c.has_room.ensures ∙ c.if-not-has_room.false in
    let room : (c.args.free / block_stride < 65536) × (c.args.free + 2 + c.part_size-size.result ≤ length c.args.tables.now) = room-here _ _ _ (fits) in
    omega (arith, (room).1)

pub slice_bounds-press_tags-count : goal.slice_bounds-press_tags-count
slice_bounds-press_tags-count c =
    let fits : room_for (length c.args.tables.now) c.args.free c.part_size-size.result ≡ true = sym c.has_room.ensures ∙ c.if-not-has_room.false in
    let room : (c.args.free / block_stride < 65536) × (c.args.free + 2 + c.part_size-size.result ≤ length c.args.tables.now) = room-here _ _ _ (fits) in
    omega (arith, (room).1)

pub slice_bounds-press_tags-start : goal.slice_bounds-press_tags-start
slice_bounds-press_tags-start c =
    let fits : room_for (length c.args.tables.now) c.args.free c.part_size-size.result ≡ true = sym c.has_room.ensures ∙ c.if-not-has_room.false in
    let room : (c.args.free / block_stride < 65536) × (c.args.free + 2 + c.part_size-size.result ≤ length c.args.tables.now) = room-here _ _ _ (fits) in
    omega (arith, (room).1)
