-- `read_headed` meets its contract: MsgType's value has a place or none; the table that is kept for the place is read by, and where none is kept the one
-- that is laid.
use mathlib.Core.Path.{◌≡◌, refl, sym, ap, ◌∙◌}
use Prim.Native.Nat.{◌+◌, ◌-◌, ◌≤◌, ◌<◌, ◌^◌}
use native.Mathlib.Omega.{arith}
use lib.ListN.{length}
use Rattle.build_records.specs.Records.{value_at}
use Rattle.build_parts.specs.Parts.{part_of}
use Rattle.build_rules.specs.Beginning.{msg_type_record}
use Rattle.dictionary_meaning_rules.specs.MessageTable.{place_of}
use Rattle.dictionary_directory.specs.Directory.{kept_at}
use Rattle.dictionary_directory.proofs.DirectoryLaws.{table-lies}
use Rattle.build_parts.specs.PartLaws.{stays-refused}
use Rattle.builder.specs.Reading.{start_told}
use Rattle.builder.specs.Through.{after_start}
use Rattle.builder.proofs.HeadedLaws.{type-inside, type-placed, unknown, placed-none, placed-kept, placed-laid}
use Rattle.builder.proofs.finishing.read_headed.Goals as goal

pub msg_type_of-msg_type-requires : goal.msg_type_of-msg_type-requires
msg_type_of-msg_type-requires c = omega (arith, c.requires.2.fits)

pub slice_bounds-place_of-end : goal.slice_bounds-place_of-end
slice_bounds-place_of-end c = type-inside c.args.message.now c.msg_type_of-msg_type.result _ c.msg_type_of-msg_type.ensures c.requires.2.types

pub place_of-placed-requires : goal.place_of-placed-requires
place_of-placed-requires c = c.requires.3

pub overflow_add-from : goal.overflow_add-from
overflow_add-from c =
    let kept : c.table_at-kept.result ≡ kept_at c.args.tables.now c.in-Some.opening = c.table_at-kept.ensures ∙ ap (kept_at c.args.tables.now) c.from.ensures in
    let lies : c.in-Some-kept.from + c.in-Some-kept.size ≤ length c.args.tables.now = table-lies _ _ _ _ (sym (kept) ∙ c.in-Some-kept.is) in
    let long : length c.args.tables.now < 2 ^ 63 = omega arith in
    omega (arith, lies, long)

pub offset_bounds-tables-from : goal.offset_bounds-tables-from
offset_bounds-tables-from c =
    let kept : c.table_at-kept.result ≡ kept_at c.args.tables.now c.in-Some.opening = c.table_at-kept.ensures ∙ ap (kept_at c.args.tables.now) c.from.ensures in
    let lies : c.in-Some-kept.from + c.in-Some-kept.size ≤ length c.args.tables.now = table-lies _ _ _ _ (sym (kept) ∙ c.in-Some-kept.is) in
    let long : length c.args.tables.now < 2 ^ 63 = omega arith in
    omega (arith, lies, long)

pub slice_bounds-read_by_table-end : goal.slice_bounds-read_by_table-end
slice_bounds-read_by_table-end c =
    let kept : c.table_at-kept.result ≡ kept_at c.args.tables.now c.in-Some.opening = c.table_at-kept.ensures ∙ ap (kept_at c.args.tables.now) c.from.ensures in
    let lies : c.in-Some-kept.from + c.in-Some-kept.size ≤ length c.args.tables.now = table-lies _ _ _ _ (sym (kept) ∙ c.in-Some-kept.is) in
    lies

pub read_by_table-requires : goal.read_by_table-requires
read_by_table-requires c = c.requires

pub read_laid-requires : goal.read_laid-requires
read_laid-requires c = (c.requires.0, c.requires.1, c.requires.2, c.requires.3, c.msg_type_of-msg_type.ensures)

pub returns-in_default : goal.returns-in_default
unfolding start_told after_start
returns-in_default c =
    let told : place_of c.args.index.now (value_at c.args.message.now (msg_type_record (part_of 0 c.args.headed.progress.records c.args.words.now))) ≡ c.place_of-placed.result = type-placed c.args.index.now c.args.message.now c.msg_type_of-msg_type.result _ c.msg_type_of-msg_type.ensures _ c.place_of-placed.ensures in
    let h = c.args.headed in record {
      by_index = λ trailers. unknown _ _ h c.args.words.now c.msg_type_of-msg_type.result c.msg_type_of-msg_type.ensures trailers
          ∙ placed-none trailers h.stop _ h.progress.room _ h.checksum c.args.dictionary.now c.args.index.now c.args.config
          c.args.tables.now (told ∙ c.in_default.is);
      stays = stays-refused _ _ _ _ _ refl _;
    }

pub returns-in_default-kept : goal.returns-in_default-kept
unfolding start_told after_start
returns-in_default-kept c =
    let told : place_of c.args.index.now (value_at c.args.message.now (msg_type_record (part_of 0 c.args.headed.progress.records c.args.words.now))) ≡ c.place_of-placed.result = type-placed c.args.index.now c.args.message.now c.msg_type_of-msg_type.result _ c.msg_type_of-msg_type.ensures _ c.place_of-placed.ensures in
    let kept : c.table_at-kept.result ≡ kept_at c.args.tables.now c.in-Some.opening = c.table_at-kept.ensures ∙ ap (kept_at c.args.tables.now) c.from.ensures in
    record {
      by_index = λ trailers. c.read_laid.ensures.by_index trailers
          ∙ placed-laid trailers c.args.headed.stop _ c.args.headed.progress.room _ c.args.headed.checksum c.args.dictionary.now c.args.index.now c.args.config
          c.args.tables.now _ (told ∙ c.in-Some.is) (sym c.in_default-kept.is ∙ kept);
      stays = c.read_laid.ensures.stays;
    }

pub returns : goal.returns
unfolding start_told after_start
returns c =
    let told : place_of c.args.index.now (value_at c.args.message.now (msg_type_record (part_of 0 c.args.headed.progress.records c.args.words.now))) ≡ c.place_of-placed.result = type-placed c.args.index.now c.args.message.now c.msg_type_of-msg_type.result _ c.msg_type_of-msg_type.ensures _ c.place_of-placed.ensures in
    let kept : c.table_at-kept.result ≡ kept_at c.args.tables.now c.in-Some.opening = c.table_at-kept.ensures ∙ ap (kept_at c.args.tables.now) c.from.ensures in
    let from = c.in-Some-kept.from in
    let size = c.in-Some-kept.size in record {
      by_index = λ trailers. c.read_by_table.ensures.by_index trailers
          ∙ placed-kept trailers c.args.headed.stop _ c.args.headed.progress.room _ c.args.headed.checksum c.args.dictionary.now c.args.index.now c.args.config
          c.args.tables.now _ (told ∙ c.in-Some.is) from size (from + size - from)
          (sym c.in-Some-kept.is ∙ kept) (omega arith);
      stays = c.read_by_table.ensures.stays;
    }
