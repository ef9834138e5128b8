-- `tags_at` meets its contract: each return cites the law of its way.
use mathlib.Core.Path.{sym, ◌∙◌}
use Rattle.dictionary_directory.proofs.KeptLaws.{tags-short, tags-beyond, tags_near}
use Rattle.dictionary_directory.proofs.tags_at.Goals as goal

pub returns-then-tables-lt-DIRECTORY : goal.returns-then-tables-lt-DIRECTORY
returns-then-tables-lt-DIRECTORY c = sym (tags-short _ _ c.if-tables-lt-DIRECTORY.true)

pub returns-then-number-gt1 : goal.returns-then-number-gt1
returns-then-number-gt1 c = sym (tags-beyond _ _ c.if-tables-lt-DIRECTORY.false c.if-number-gt1.true)

pub returns : goal.returns
returns c = c.kept_in.ensures ∙ sym (tags_near _ _ c.if-tables-lt-DIRECTORY.false c.if-number-gt1.false)
