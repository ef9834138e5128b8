-- `end` meets its contract: the tests stand in the order of the definition.
-- Each return cites the law of its way.
use Rattle.std.proofs.Common.{sym, ◌∙◌}
use Rattle.frame_parser_rules.specs.Framer.{with_end}
use Rattle.frame_parser_rules.proofs.FramerLaws.{end-bad, end-ended, end-over, end-accepted}
use Rattle.frame_parser.proofs.end.Goals as goal

pub returns-then-is_unusable : goal.returns-then-is_unusable
returns-then-is_unusable c = c.answers.ensures ∙ end-bad _ _ (sym c.is_unusable.ensures ∙ c.if-is_unusable.true)

pub returns-then-state : goal.returns-then-state
returns-then-state c = c.answers-then-state.ensures ∙ end-ended _ _ (sym c.is_unusable.ensures ∙ c.if-is_unusable.false) c.if-state.true

pub returns-then-state-2 : goal.returns-then-state-2
returns-then-state-2 c = c.answers-then-state-2.ensures ∙ end-over _ _ (sym c.is_unusable.ensures ∙ c.if-is_unusable.false) c.if-state.false c.if-state-2.true

pub returns : goal.returns
unfolding with_end
returns c = c.answers-2.ensures ∙ end-accepted _ _ (sym c.is_unusable.ensures ∙ c.if-is_unusable.false) c.if-state.false c.if-state-2.false
