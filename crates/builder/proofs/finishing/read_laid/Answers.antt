-- `read_laid` meets its contract: a table that was laid is just the words of the layout that is laid, and the body is read by it; where none was, MsgType is
-- not in the dictionary.
use mathlib.Core.Path.{refl, sym, ◌∙◌}
use native.Mathlib.Omega.{arith}
use lib.Seq.{length-take-le}
use Rattle.dictionary_directory.proofs.AloneLaws.{Alone, alone}
use Rattle.build_parts.specs.PartLaws.{stays-refused}
use Rattle.builder.proofs.HeadedLaws.{unknown, layout_after, unlaid_after}
use Rattle.builder.proofs.finishing.read_laid.Goals as goal
use Rattle.builder.proofs.finishing.read_laid.Goals.{In-Some}

-- the table that was laid
laid : (c : In-Some) → Alone c.args.dictionary.now c.args.index.now c.args.opening c.in-Some.size c.lay_table.new.table
laid c = alone _ _ _ _ _ _ _ c.lay_table.ensures.laid_first.1 (sym c.in-Some.is ∙ c.lay_table.ensures.value) c.lay_table.ensures.laid_first.2

pub slice_bounds-table-end : goal.slice_bounds-table-end
slice_bounds-table-end c = omega (arith, (laid c).fits, (laid c).long)

pub slice_bounds-read_by_table-end : goal.slice_bounds-read_by_table-end
slice_bounds-read_by_table-end c = sym (length-take-le _ c.lay_table.new.table (omega (arith, (laid (goal.at.slice_bounds-read_by_table-end c).In-Some).fits, (laid (goal.at.slice_bounds-read_by_table-end c).In-Some).long)))

pub read_by_table-requires : goal.read_by_table-requires
read_by_table-requires c = (c.requires.0, c.requires.1, c.requires.2, c.requires.3)

pub returns-in-Some : goal.returns-in-Some
returns-in-Some c = let l = laid (goal.at.returns-in-Some c).In-Some in record {
  by_index = λ trailers. c.read_by_table.ensures.by_index trailers
      ∙ layout_after trailers c.args.headed.stop _ c.args.headed.progress.room _ c.args.headed.checksum c.args.dictionary.now c.args.index.now c.args.config
      _ l.count l.rows l.made l.table;
  stays = c.read_by_table.ensures.stays;
}

pub returns-in-None : goal.returns-in-None
returns-in-None c = let h = c.args.headed in record {
  by_index = λ trailers. unknown _ _ h c.args.words.now c.args.msg_type c.requires.4 trailers
      ∙ unlaid_after trailers h.stop _ h.progress.room _ h.checksum c.args.dictionary.now c.args.index.now c.args.config
      _ (sym c.in-None.is ∙ c.lay_table.ensures.value);
  stays = stays-refused _ _ _ _ _ refl _;
}
