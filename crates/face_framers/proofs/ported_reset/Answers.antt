-- A fresh state is told.
use Rattle.std.proofs.Common.{ap, ◌∙◌}
use Rattle.frame_parser_rules.specs.declared.State.{State}
use Rattle.frame_parser_rules.specs.declared.Answer.TheVariants.{Accepted}
use Rattle.frame_parser_rules.specs.Framer.{number_of_parser}
use Rattle.face_framers.specs.declared.PortedState.{PortedState}
use Rattle.face_framers.specs.declared.PortedReply.{PortedReply}
use Rattle.face_framers.specs.States.{ported_told, ported_fresh}
use Rattle.face_framers.proofs.StateLaws.{ported-zeros}
use Rattle.face_framers.proofs.ported_reset.Goals as goal

pub returns : goal.returns
unfolding number_of_parser
returns c = (
  c.ported_told.ensures ∙ ap (λ (s : State). ported_told ported_fresh s Accepted) c.reset.ensures
      ∙ ap {B = PortedReply} (λ (s : PortedState). record { state = s; number = 0 }) ported-zeros,
  c.tell.ensures,
)
