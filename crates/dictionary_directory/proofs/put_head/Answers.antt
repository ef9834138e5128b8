-- `put_head` meets its contract: three words are stored, and the next block starts behind the table.
use mathlib.Core.Path.{refl}
use lib.ListN.{length-set}
use borrow.Author.Rules.{rules}
use Rattle.dictionary_directory.specs.Directory.{next_block}
use Rattle.dictionary_directory.specs.LayingLaws.{headed}
use Rattle.dictionary_directory.proofs.put_head.Goals as goal

pub bounds-tables-free-2 : goal.bounds-tables-free-2
bounds-tables-free-2 c = simp length-set (search rules)

pub bounds-tables-slot : goal.bounds-tables-slot
bounds-tables-slot c = simp length-set (search rules)

pub returns : goal.returns
unfolding headed next_block
returns c = (refl, refl)
