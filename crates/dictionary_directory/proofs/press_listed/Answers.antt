-- `press_listed` meets its contract: as many tags as a list has take no more words than there are.
use mathlib.Core.Path.{sym}
use Prim.Native.Nat.{◌≤◌}
use native.Mathlib.Omega.{arith}
use lib.ListN.{length, take}
use lib.Seq.{length-take-le}
use Rattle.dictionary_tables_rules.specs.Laid.{table_size}
use Rattle.dictionary_tables_rules.specs.Tags.{fields_of}
use Rattle.dictionary_tables_rules.proofs.TagsLaws.{fields-few}
use Rattle.dictionary_directory.specs.Directory.{tag_words}
use Rattle.dictionary_directory.proofs.press_listed.Goals as goal

pub slice_bounds-press_tags-end : goal.slice_bounds-press_tags-end
slice_bounds-press_tags-end c = sym (length-take-le c.args.count c.args.list.now c.requires.0)

pub press_tags-requires : goal.press_tags-requires
press_tags-requires c =
    let few : length (take c.args.count c.args.list.now) ≤ 1024 = omega (arith, length-take-le c.args.count c.args.list.now c.requires.0) in
    let fit : table_size (fields_of (take c.args.count c.args.list.now)) ≤ tag_words = fields-few _ (few) in
    (few, omega (arith, fit, c.requires.1))

pub returns : goal.returns
returns c =
    let few : length (take c.args.count c.args.list.now) ≤ 1024 = omega (arith, length-take-le c.args.count c.args.list.now c.requires.0) in
    let fit : table_size (fields_of (take c.args.count c.args.list.now)) ≤ tag_words = fields-few _ (few) in
    (c.press_tags.ensures.0, c.press_tags.ensures.1, omega (arith, c.press_tags.ensures.1, fit))
