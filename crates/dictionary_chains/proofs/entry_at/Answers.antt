-- `entry_at` meets its contract: the number says the place, and it reads the four words.
use Rattle.dictionary_chains.specs.Chain.{entry_at, word_at}
use Rattle.dictionary_chains.proofs.entry_at.Goals as goal

pub returns : goal.returns
unfolding entry_at word_at
returns c = rw c.saturating_sub.ensures
