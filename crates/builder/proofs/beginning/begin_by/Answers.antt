-- `begin_by` meets its contract: the tags are those of the table that is kept, which lies in the words, or those that are listed.
use mathlib.Core.Path.{ap, ◌∙◌}
use mathlib.Core.List.{List}
use Prim.Native.Nat.{ℕ, ◌+◌, ◌-◌, ◌<◌, ◌^◌}
use native.Mathlib.Omega.{arith}
use lib.ListN.{length}
use Rattle.build_rules.specs.Beginning.{start_of}
use Rattle.builder.proofs.TagLaws.{BothLie, both_lie, headers_kept, headers_listed}
use Rattle.builder.proofs.beginning.begin_by.Goals as goal
use Rattle.builder.proofs.beginning.begin_by.Goals.{In-Both}

-- the table that is kept lies in the words
lies : (c : In-Both) → BothLie c.args.tables.now c.in-Both.from c.in-Both.size c.in-Both.field-2 c.in-Both.field-3
lies c = both_lie _ _ c.requires.3 _ _ _ _ c.in-Both.is

pub overflow_add-from : goal.overflow_add-from
overflow_add-from c =
    let long : length c.args.tables.now < 2 ^ 63 = omega arith in
    omega (arith, (lies c).header, long)

pub offset_bounds-tables-from : goal.offset_bounds-tables-from
offset_bounds-tables-from c =
    let long : length c.args.tables.now < 2 ^ 63 = omega arith in
    omega (arith, (lies c).header, long)

pub slice_bounds-begin-end : goal.slice_bounds-begin-end
slice_bounds-begin-end c = (lies c).header

pub begin-requires : goal.begin-requires
begin-requires c = (c.requires.0, c.requires.1)

pub begin_listed-requires : goal.begin_listed-requires
begin_listed-requires c = (c.requires.0, c.requires.1, c.requires.2)

pub returns-in-Both : goal.returns-in-Both
returns-in-Both c = let from = c.in-Both.from in
    let size = c.in-Both.size in record {
      words_after = c.begin.ensures.words_after
          ∙ ap (λ (tags : List ℕ). start_of tags c.args.config c.args.message.now)
          (headers_kept c.args.dictionary.now c.args.index.now c.args.tables.now from size _ _ c.in-Both.is (from + size - from) (omega arith));
      begins = c.begin.ensures.begins;
    }

pub returns-in-Listed : goal.returns-in-Listed
returns-in-Listed c = record {
  words_after = c.begin_listed.ensures.words_after
      ∙ ap (λ (tags : List ℕ). start_of tags c.args.config c.args.message.now)
      (headers_listed c.args.dictionary.now c.args.index.now c.args.tables.now c.in-Listed.is);
  begins = c.begin_listed.ensures.begins;
}
