-- `put_block` meets its contract: the rows hold a layout, so its size is known; where there is room, the table is pressed behind the two words of its head.
use mathlib.Core.Path.{◌≡◌, sym, ◌∙◌}
use mathlib.Core.Bool.{true}
use Prim.Native.Nat.{◌+◌, ◌/◌, ◌≤◌, ◌<◌}
use native.Mathlib.Omega.{arith}
use borrow.Author.Rules.{rules}
use lib.ListN.{length, length-take, length-drop}
use Rattle.dictionary_layout_rules.specs.RowsLayout.{layout_in}
use Rattle.dictionary_tables_rules.specs.Laid.{table_size}
use Rattle.dictionary_directory.specs.Directory.{block_stride, room_for}
use Rattle.dictionary_directory.proofs.LayingFacts.{put-none, put-words}
use Rattle.dictionary_directory.proofs.LayingFacts.{held_tabled, held-few, held_small, held_pressable, room-here}
use Rattle.dictionary_directory.proofs.put_block.Goals as goal
use Rattle.dictionary_directory.proofs.put_block.Goals.{After-table_size-size}

sized : (c : After-table_size-size) → c.table_size-size.result ≡ table_size (layout_in c.args.made.now c.args.count)
sized c = c.table_size-size.ensures _ (held_tabled _ _ c.requires.2) (held-few _ _ c.requires.2)

small : (c : After-table_size-size) → c.table_size-size.result < 65536
small c = omega (arith, sized c, held_small _ _ c.requires.2)

pub returns-then-not-has_room : goal.returns-then-not-has_room
returns-then-not-has_room c = sym (put-none _ _ _ _ _ _ (sized (goal.at.returns-then-not-has_room c).After-table_size-size) (sym c.has_room.ensures ∙ c.if-not-has_room.true))

pub press-requires : goal.press-requires
press-requires c =
    let fits : room_for (length c.args.tables.now) c.args.free c.table_size-size.result ≡ true = sym c.has_room.ensures ∙ c.if-not-has_room.false in
    let room : (c.args.free / block_stride < 65536) × (c.args.free + 2 + c.table_size-size.result ≤ length c.args.tables.now) = room-here _ _ _ (fits) in
    held_pressable _ _ c.requires.2 _ (simp (length-take, length-drop) (omega (arith, sized (goal.at.press-requires c).After-table_size-size, (room).1)))

pub put_head-requires : goal.put_head-requires
put_head-requires c =
    let fits : room_for (length c.args.tables.now) c.args.free c.table_size-size.result ≡ true = sym c.has_room.ensures ∙ c.if-not-has_room.false in
    let room : (c.args.free / block_stride < 65536) × (c.args.free + 2 + c.table_size-size.result ≤ length c.args.tables.now) = room-here _ _ _ (fits) in
    (search (rules, room), search rules, omega (arith, c.requires.1), small (goal.at.put_head-requires c).After-table_size-size, (room).0)

pub returns : goal.returns
returns c =
    let fits : room_for (length c.args.tables.now) c.args.free c.table_size-size.result ≡ true = sym c.has_room.ensures ∙ c.if-not-has_room.false in
    put-words _ _ _ _ _ _ (sized (goal.at.returns c).After-table_size-size) (fits) _ (c.press.ensures _ (held_tabled _ _ c.requires.2)) _ c.put_head.ensures.0 _ c.put_head.ensures.1

pub has_room-requires : goal.has_room-requires
has_room-requires c = small c

pub overflow_add-free : goal.overflow_add-free
overflow_add-free c =
    let fits : room_for (length c.args.tables.now) c.args.free c.table_size-size.result ≡ true = sym c.has_room.ensures ∙ c.if-not-has_room.false in
    let room : (c.args.free / block_stride < 65536) × (c.args.free + 2 + c.table_size-size.result ≤ length c.args.tables.now) = room-here _ _ _ (fits) in
    omega (arith, (room).1)

pub offset_bounds-tables-free : goal.offset_bounds-tables-free
offset_bounds-tables-free c =
    let fits : room_for (length c.args.tables.now) c.args.free c.table_size-size.result ≡ true = sym c.has_room.ensures ∙ c.if-not-has_room.false in
    let room : (c.args.free / block_stride < 65536) × (c.args.free + 2 + c.table_size-size.result ≤ length c.args.tables.now) = room-here _ _ _ (fits) in
    omega (arith, (room).1)

pub slice_bounds-press-count : goal.slice_bounds-press-count
slice_bounds-press-count c =
    let fits : room_for (length c.args.tables.now) c.args.free c.table_size-size.result ≡ true = sym c.has_room.ensures ∙ c.if-not-has_room.false in
    let room : (c.args.free / block_stride < 65536) × (c.args.free + 2 + c.table_size-size.result ≤ length c.args.tables.now) = room-here _ _ _ (fits) in
    omega (arith, (room).1)

pub slice_bounds-press-start : goal.slice_bounds-press-start
slice_bounds-press-start c =
    let fits : room_for (length c.args.tables.now) c.args.free c.table_size-size.result ≡ true = sym c.has_room.ensures ∙ c.if-not-has_room.false in
    let room : (c.args.free / block_stride < 65536) × (c.args.free + 2 + c.table_size-size.result ≤ length c.args.tables.now) = room-here _ _ _ (fits) in
    omega (arith, (room).1)
