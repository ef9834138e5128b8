-- `refused` meets its contract: what is shown of the header is what `shown_with` says.
use Rattle.builder.proofs.ReadingLaws.{shown-few, refused-told}
use Rattle.builder.proofs.showing.refused.Goals as goal

pub returns : goal.returns
returns c = (refused-told _ _ _ c.shown_with.ensures, shown-few _ _ _ c.shown_with.ensures)
