-- `move_to_front` meets its contract: what lies between the two places is copied within the store, to its front.
use Rattle.std.proofs.Common.{◌∙◌}
use Rattle.frame_parser.proofs.Front.{moved_all}
use Rattle.frame_parser.proofs.move_to_front.Goals as goal

pub returns : goal.returns
returns c = c.copy_within.ensures.after ∙ moved_all _ _ _ c.requires.0 c.requires.1
