-- `take` meets its contract: the tests stand in the order of the definition.
-- What is ready decides the rest; copying and moving are the two halves of what a message leaves.
use Rattle.std.proofs.Common.{◌≡◌, ◌≤◌, sym, ap, ◌∙◌, arith, length-take, length-take-le, Some}
use Rattle.frame_parser_rules.specs.Announced.{announced_in}
use Rattle.frame_parser_rules.specs.AnnouncedLaws.{announced_limit}
use Rattle.frame_parser_rules.specs.Framer.{held, ready_of, take_state}
use Rattle.frame_parser_rules.proofs.FramerLaws.{usable_is, ready_in, take-bad, take_short, take-marked, take-over, take-message, take_none}
use Rattle.frame_parser.proofs.Front.{copied_front}
use Rattle.frame_parser.proofs.take.Goals as goal
use Rattle.frame_parser.proofs.take.Goals.{In-Some}

pub returns-then-is_unusable : goal.returns-then-is_unusable
returns-then-is_unusable c = let law = take-bad _ _ _ (sym c.is_unusable.ensures ∙ c.if-is_unusable.true) in
    record { value = c.answers.ensures ∙ law.0; store_after = law.1; output_after = law.2 }

pub returns-then-output-lt-MESSAGE_LIMIT : goal.returns-then-output-lt-MESSAGE_LIMIT
returns-then-output-lt-MESSAGE_LIMIT c =
    let law = take_short _ _ _ (sym c.is_unusable.ensures ∙ c.if-is_unusable.false) c.if-output-lt-MESSAGE_LIMIT.true in
    record { value = c.answers-then-output-lt-MESSAGE_LIMIT.ensures ∙ law.0; store_after = law.1; output_after = law.2 }

pub returns-then-state : goal.returns-then-state
returns-then-state c =
    let law = take-marked _ _ _ (sym c.is_unusable.ensures ∙ c.if-is_unusable.false) c.if-output-lt-MESSAGE_LIMIT.false c.if-state.true in
    record { value = c.over_long.ensures ∙ law.0; store_after = law.1; output_after = law.2 }

pub slice_bounds-announced_in-end : goal.slice_bounds-announced_in-end
slice_bounds-announced_in-end c = omega (arith, usable_is _ _ (sym c.is_unusable.ensures ∙ c.if-is_unusable.false))

pub slice_bounds-announced_in-end-2 : goal.slice_bounds-announced_in-end-2
slice_bounds-announced_in-end-2 c =
    simp length-take (omega (arith, usable_is _ _ (sym c.is_unusable.ensures ∙ c.if-is_unusable.false)))

pub returns-in_default : goal.returns-in_default
returns-in_default c =
    let ready-was : ready_of c.args.state.used (announced_in (held c.args.state c.args.store.now)) ≡ c.ready_of.result = unfold held in ap (ready_of _) (sym c.announced_in.ensures) ∙ sym c.ready_of.ensures in
    let law = take-over _ _ _ (sym c.is_unusable.ensures ∙ c.if-is_unusable.false) c.if-output-lt-MESSAGE_LIMIT.false c.if-state.false (ready-was ∙ c.in_default.is) in
    record { value = c.over_long-in_default.ensures ∙ law.0; store_after = law.1; output_after = law.2 }

ready_at : (c : In-Some) → ready_of c.args.state.used (announced_in (held c.args.state c.args.store.now)) ≡ Some c.in-Some.length
unfolding held
ready_at c = ap (ready_of _) (sym c.announced_in.ensures) ∙ sym c.ready_of.ensures ∙ c.in-Some.is

ready-within : (c : In-Some) → (c.in-Some.length ≤ c.args.state.used) × (c.in-Some.length ≤ 8192)
ready-within c = ready_in _ _ _ (announced_limit _) (ready_at c)

pub returns-then-length-eq0 : goal.returns-then-length-eq0
returns-then-length-eq0 c =
    let law = take_none _ _ _ (sym c.is_unusable.ensures ∙ c.if-is_unusable.false) c.if-output-lt-MESSAGE_LIMIT.false c.if-state.false (ready_at (goal.at.returns-then-length-eq0 c).In-Some ∙ ap Some c.if-length-eq0.true) in
    record { value = c.answers-then-length-eq0.ensures ∙ law.0; store_after = law.1; output_after = law.2 }

pub slice_bounds-copy-end : goal.slice_bounds-copy-end
slice_bounds-copy-end c =
    omega (arith, ready-within (goal.at.slice_bounds-copy-end c).In-Some, usable_is _ _ (sym c.is_unusable.ensures ∙ c.if-is_unusable.false))

pub slice_bounds-copy-end-2 : goal.slice_bounds-copy-end-2
slice_bounds-copy-end-2 c =
    simp length-take (omega (arith, ready-within (goal.at.slice_bounds-copy-end-2 c).In-Some, usable_is _ _ (sym c.is_unusable.ensures ∙ c.if-is_unusable.false)))

pub copy-requires : goal.copy-requires
copy-requires c =
    let part = length-take-le c.in-Some.length c.args.store.now (omega (arith, ready-within (goal.at.copy-requires c).In-Some, usable_is _ _ (sym c.is_unusable.ensures ∙ c.if-is_unusable.false))) in
    omega (arith, part, ready-within (goal.at.copy-requires c).In-Some, c.if-output-lt-MESSAGE_LIMIT.false)

pub move_to_front-requires : goal.move_to_front-requires
move_to_front-requires c =
    (omega (arith, ready-within (goal.at.move_to_front-requires c).In-Some), omega (arith, usable_is _ _ (sym c.is_unusable.ensures ∙ c.if-is_unusable.false)))

pub overflow_sub-next : goal.overflow_sub-next
overflow_sub-next c = omega (arith, ready-within (goal.at.overflow_sub-next c).In-Some)

pub returns : goal.returns
unfolding held take_state
returns c =
    let n = c.in-Some.length in
    let u = sym c.is_unusable.ensures ∙ c.if-is_unusable.false in
    let written = copied_front c.args.store.now c.args.output.now n c.args.state.used (ready-within (goal.at.returns c).In-Some).0 (omega (arith, ready-within (goal.at.returns c).In-Some, usable_is _ _ u)) in
    let law = take-message _ _ _ u c.if-output-lt-MESSAGE_LIMIT.false c.if-state.false n (ready_at (goal.at.returns c).In-Some) in
    record { value = c.answers-2.ensures ∙ law.0; store_after = c.move_to_front.ensures ∙ law.1; output_after = c.copy.ensures.target_after ∙ written ∙ law.2 }
