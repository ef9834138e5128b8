use Rattle.std.proofs.Common.{◌≡◌, drop, length, sym, ap, ◌∙◌, arith}
use Rattle.field_rules.proofs.FindLaws.{rest_part}
use Rattle.frame_verdict_rules.specs.Verdict.{verdict_of}
use Rattle.frame_hunter_rules.specs.Hunt.{act_on}
use Rattle.frame_hunter.proofs.Moves.{hunt_start, hunt_hand, hunt_stop, hunt_pass, hunt_end}
use Rattle.frame_hunter.proofs.hunt.Goals as goal
use Rattle.frame_hunter.proofs.hunt.Goals.{After-act_on}

-- what the hunt does at the place
acts : (c : After-act_on) → act_on c.args.ended (verdict_of (drop c.loop-place.place c.args.held.now)) ≡ c.act_on.result
acts c = sym (c.act_on.ensures ∙ ap (act_on c.args.ended) (c.verdict_of.ensures ∙ ap verdict_of (rest_part c.args.held.now c.loop-place.place)))

pub loop-place-init : goal.loop-place-init
loop-place-init c = hunt_start verdict_of _ _ 0

pub returns-in-Hand : goal.returns-in-Hand
returns-in-Hand c = sym (c.loop-place.invariant ∙ hunt_hand verdict_of _ _ c.loop-place.place _ c.loop-place-test.true (acts (goal.at.returns-in-Hand c).After-act_on ∙ c.in-Hand.is))

pub returns-in-Stop : goal.returns-in-Stop
returns-in-Stop c = sym (c.loop-place.invariant ∙ hunt_stop verdict_of _ _ c.loop-place.place c.loop-place-test.true (acts (goal.at.returns-in-Stop c).After-act_on ∙ c.in-Stop.is))

pub loop-place-preserved : goal.loop-place-preserved
loop-place-preserved c = c.loop-place.invariant ∙ hunt_pass verdict_of _ _ c.loop-place.place c.loop-place-test.true (acts (goal.at.loop-place-preserved c).After-act_on ∙ c.in-Pass.is)

pub returns : goal.returns
returns c =
    let end : c.loop-place.place ≡ length c.args.held.now = omega arith in
    rw (← end) (sym (c.loop-place.invariant ∙ hunt_end verdict_of _ _ c.loop-place.place c.loop-place-test.false))
