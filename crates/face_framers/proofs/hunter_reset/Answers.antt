-- A fresh state is told.
use Rattle.std.proofs.Common.{ap, ◌∙◌}
use Rattle.frame_hunter_rules.specs.declared.State.{State}
use Rattle.frame_hunter_rules.specs.declared.Answer.TheVariants.{Fine}
use Rattle.frame_hunter_rules.specs.Bytes.{number_of_hunter}
use Rattle.face_framers.specs.declared.HunterState.{HunterState}
use Rattle.face_framers.specs.declared.HunterReply.{HunterReply}
use Rattle.face_framers.specs.States.{hunter_told, hunter_fresh}
use Rattle.face_framers.proofs.StateLaws.{hunter-zeros}
use Rattle.face_framers.proofs.hunter_reset.Goals as goal

pub returns : goal.returns
unfolding number_of_hunter
returns c = (
  c.hunter_told.ensures ∙ ap (λ (s : State). hunter_told hunter_fresh s Fine) c.reset.ensures
      ∙ ap {B = HunterReply} (λ (s : HunterState). record { state = s; number = 0 }) hunter-zeros,
  c.tell.ensures,
)
