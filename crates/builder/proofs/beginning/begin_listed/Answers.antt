-- `begin_listed` meets its contract: the table that is laid stands for the tags that are listed.
use mathlib.Core.Path.{ap, ◌∙◌}
use mathlib.Core.List.{List}
use Prim.Native.Nat.{ℕ}
use lib.ListN.{length-replicate}
use Rattle.dictionary_directory.specs.Directory.{tags_listed, tag_words}
use Rattle.build_rules.specs.Beginning.{start_of}
use Rattle.builder.proofs.TagLaws.{TagsLaid, tags-laid}
use Rattle.builder.proofs.beginning.begin_listed.Goals as goal
use Rattle.builder.proofs.beginning.begin_listed.Goals.{After-lay_tags-size}

laid : (c : After-lay_tags-size) → TagsLaid (tags_listed c.args.dictionary.now c.args.index.now 0) c.lay_tags-size.new.table c.lay_tags-size.result
laid c = tags-laid _ _ _ _ (length-replicate {A = ℕ} tag_words 0) c.lay_tags-size.ensures.table_after.0 c.lay_tags-size.ensures.table_after.1 c.lay_tags-size.ensures.upper_bound

pub slice_bounds-table-end : goal.slice_bounds-table-end
slice_bounds-table-end c = (laid c).within

pub slice_bounds-begin-end : goal.slice_bounds-begin-end
slice_bounds-begin-end c = (laid (goal.at.slice_bounds-begin-end c).After-lay_tags-size).cut

pub begin-requires : goal.begin-requires
begin-requires c = (c.requires.0, c.requires.1)

pub returns : goal.returns
returns c = record { words_after = c.begin.ensures.words_after ∙ ap (λ (tags : List ℕ). start_of tags c.args.config c.args.message.now) (laid (goal.at.returns c).After-lay_tags-size).stands; begins = c.begin.ensures.begins }
