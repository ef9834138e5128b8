-- `show` meets its contract: what was read is shown, with blank records behind it.
use mathlib.Core.Path.{refl}
use Rattle.builder.proofs.ReadingLaws.{shows-read}
use Rattle.builder.proofs.show.Goals as goal

pub returns : goal.returns
returns c = rw (c.answered.ensures, c.blank.ensures) (shows-read _ _ _ _ _ c.requires.0 c.requires.1 _ refl)
