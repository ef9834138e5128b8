-- `is_listed` meets its contract: the table that is laid stands for the tags that are listed.
use mathlib.Core.Path.{ap, ◌∙◌}
use Prim.Native.Nat.{ℕ}
use lib.ListN.{length-replicate}
use Rattle.dictionary_layout_rules.specs.Tree.{holds_tag}
use Rattle.dictionary_directory.specs.Directory.{tags_listed, tag_words}
use Rattle.builder.proofs.TagLaws.{TagsLaid, tags-laid}
use Rattle.builder.proofs.finishing.is_listed.Goals as goal
use Rattle.builder.proofs.finishing.is_listed.Goals.{After-lay_tags-size}

laid : (c : After-lay_tags-size) → TagsLaid (tags_listed c.args.dictionary.now c.args.index.now c.args.number) c.lay_tags-size.new.table c.lay_tags-size.result
laid c = tags-laid _ _ _ _ (length-replicate {A = ℕ} tag_words 0) c.lay_tags-size.ensures.table_after.0 c.lay_tags-size.ensures.table_after.1 c.lay_tags-size.ensures.upper_bound

pub slice_bounds-table-end : goal.slice_bounds-table-end
slice_bounds-table-end c = (laid c).within

pub returns : goal.returns
returns c = c.holds.ensures ∙ ap (holds_tag c.args.tag) (laid (goal.at.returns c).After-lay_tags-size).stands
