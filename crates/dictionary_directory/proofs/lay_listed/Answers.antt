-- `lay_listed` meets its contract: the block of the tags that are listed is put.
use native.Mathlib.Omega.{arith}
use Rattle.dictionary_directory.proofs.LayingFacts.{listed-put}
use Rattle.dictionary_directory.proofs.lay_listed.Goals as goal

pub put_tags-requires : goal.put_tags-requires
put_tags-requires c = (c.requires.1, c.tags_of-count.ensures.1, omega (arith, c.from.ensures, c.requires.2))

pub returns : goal.returns
returns c = listed-put _ _ _ _ _ _ c.tags_of-count.ensures.0 (rw c.from.ensures at c.put_tags.ensures)
