-- `find` meets its contract: it tells the number at which the way ends.
use mathlib.Core.Path.{ap}
use Rattle.dictionary_chains.specs.Chain.{found}
use Rattle.dictionary_chains.proofs.WayLaws.{number_of}
use Rattle.dictionary_chains.proofs.find.Goals as goal

pub returns : goal.returns
returns c = unfold found in ap number_of c.way_of.ensures
