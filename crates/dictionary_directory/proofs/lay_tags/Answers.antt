-- `lay_tags` meets its contract: the tags that are listed are pressed over the first words.
use mathlib.Core.Path.{ap, ◌∙◌}
use mathlib.Core.List.{List, ◌++◌}
use Prim.Native.Nat.{ℕ}
use lib.ListN.{drop}
use Rattle.dictionary_tables_rules.specs.Laid.{table_size, table_of}
use Rattle.dictionary_tables_rules.specs.Tags.{fields_of}
use Rattle.dictionary_directory.proofs.lay_tags.Goals as goal

pub returns : goal.returns
returns c = let e = c.tags_of-count.ensures.0 in
    record {
      table_after = (
        c.press_listed.ensures.0 ∙ ap (λ (tags : List ℕ). table_of (fields_of tags) ++ drop c.press_listed.result c.args.table.now) e,
        c.press_listed.ensures.1 ∙ ap (λ (tags : List ℕ). table_size (fields_of tags)) e,
      );
      upper_bound = c.press_listed.ensures.2;
    }
