-- `tag_at` meets its contract: it reads both halves, each of which is a word, so that the tag fits.
use Rattle.dictionary_tables_rules.specs.Table.{tag_at}
use Rattle.dictionary_tables.proofs.tag_at.Goals as goal

pub returns : goal.returns
unfolding tag_at
returns c = rw (c.from.ensures, c.from-2.ensures)
