-- `table_at` meets its contract: each return cites the law of its way.
use mathlib.Core.Path.{sym, ◌∙◌}
use Rattle.dictionary_directory.proofs.KeptLaws.{kept-short, kept-beyond, kept_near}
use Rattle.dictionary_directory.proofs.table_at.Goals as goal

pub returns-then-tables-lt-DIRECTORY : goal.returns-then-tables-lt-DIRECTORY
returns-then-tables-lt-DIRECTORY c = sym (kept-short _ _ c.if-tables-lt-DIRECTORY.true)

pub returns-then-place-ge-LONGEST : goal.returns-then-place-ge-LONGEST
returns-then-place-ge-LONGEST c = sym (kept-beyond _ _ c.if-tables-lt-DIRECTORY.false c.if-place-ge-LONGEST.true)

pub returns : goal.returns
returns c = c.kept_in.ensures ∙ sym (kept_near _ _ c.if-tables-lt-DIRECTORY.false c.if-place-ge-LONGEST.false)
