-- `follows` meets its contract: the tags are those of the table that is kept, which lies in the words, or those that are listed.
use mathlib.Core.Path.{ap, ◌∙◌}
use Prim.Native.Nat.{◌+◌, ◌-◌, ◌<◌, ◌^◌}
use native.Mathlib.Omega.{arith}
use lib.ListN.{length}
use Rattle.dictionary_layout_rules.specs.Tree.{holds_tag}
use Rattle.builder.proofs.TagLaws.{BothLie, both_lie, trailers-kept, trailers-listed}
use Rattle.builder.proofs.finishing.follows.Goals as goal
use Rattle.builder.proofs.finishing.follows.Goals.{In-Both}

-- the table that is kept lies in the words
lies : (c : In-Both) → BothLie c.args.tables.now c.in-Both.field-0 c.in-Both.field-1 c.in-Both.from c.in-Both.size
lies c = both_lie _ _ c.requires.1 _ _ _ _ c.in-Both.is

pub overflow_add-from : goal.overflow_add-from
overflow_add-from c =
    let long : length c.args.tables.now < 2 ^ 63 = omega arith in
    omega (arith, (lies c).trailer, long)

pub offset_bounds-tables-from : goal.offset_bounds-tables-from
offset_bounds-tables-from c =
    let long : length c.args.tables.now < 2 ^ 63 = omega arith in
    omega (arith, (lies c).trailer, long)

pub slice_bounds-holds-end : goal.slice_bounds-holds-end
slice_bounds-holds-end c = (lies c).trailer

pub returns-in-Both : goal.returns-in-Both
returns-in-Both c = let start = c.in-Both.from in
    let rest = c.in-Both.size in
    c.holds.ensures
    ∙ ap (holds_tag c.args.tag) (trailers-kept c.args.dictionary.now c.args.index.now c.args.tables.now _ _ start rest
    c.in-Both.is (start + rest - start) (omega arith))

pub returns-in-Listed : goal.returns-in-Listed
returns-in-Listed c = c.is_listed.ensures ∙ ap (holds_tag c.args.tag) (trailers-listed c.args.dictionary.now c.args.index.now c.args.tables.now c.in-Listed.is)
