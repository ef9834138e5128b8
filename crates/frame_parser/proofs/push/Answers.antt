-- `push` meets its contract: the tests stand in the order of the definition.
-- Each return cites the law of its way, and what the kit's `copy` leaves is the chunk written at the used length.
use Rattle.std.proofs.Common.{◌+◌, ◌<◌, ◌≤◌, length, sym, ◌∙◌, arith}
use Rattle.field_rules.proofs.DecimalLaws.{written_copied}
use Rattle.frame_parser_rules.specs.Framer.{with_chunk}
use Rattle.frame_parser_rules.proofs.FramerLaws.{usable_is, push_bad, push_ended, push_over, push_full, push_accepted}
use Rattle.frame_parser.proofs.push.Goals as goal

pub returns-then-is_unusable : goal.returns-then-is_unusable
returns-then-is_unusable c = let law = push_bad _ _ _ (sym c.is_unusable.ensures ∙ c.if-is_unusable.true) in
    record { value = c.answers.ensures ∙ law.0; store_after = law.1 }

pub returns-then-state : goal.returns-then-state
returns-then-state c =
    let law = push_ended _ _ _ (sym c.is_unusable.ensures ∙ c.if-is_unusable.false) c.if-state.true in
    record { value = c.answers-then-state.ensures ∙ law.0; store_after = law.1 }

pub returns-then-state-2 : goal.returns-then-state-2
returns-then-state-2 c =
    let law = push_over _ _ _ (sym c.is_unusable.ensures ∙ c.if-is_unusable.false) c.if-state.false c.if-state-2.true in
    record { value = c.answers-then-state-2.ensures ∙ law.0; store_after = law.1 }

pub overflow_sub-used : goal.overflow_sub-used
overflow_sub-used c = omega (arith, usable_is _ _ (sym c.is_unusable.ensures ∙ c.if-is_unusable.false))

pub returns-then-used-chunk : goal.returns-then-used-chunk
returns-then-used-chunk c =
    let full : 16384 < c.args.state.used + length c.args.chunk.now = omega arith in
    let law = push_full _ _ _ (sym c.is_unusable.ensures ∙ c.if-is_unusable.false) c.if-state.false c.if-state-2.false full in
    record { value = c.answers-then-used-chunk.ensures ∙ law.0; store_after = law.1 }

pub slice_bounds-copy-count : goal.slice_bounds-copy-count
slice_bounds-copy-count c = omega (arith, usable_is _ _ (sym c.is_unusable.ensures ∙ c.if-is_unusable.false))

pub slice_bounds-copy-start : goal.slice_bounds-copy-start
slice_bounds-copy-start c = omega (arith, usable_is _ _ (sym c.is_unusable.ensures ∙ c.if-is_unusable.false))

pub copy-requires : goal.copy-requires
copy-requires c = omega (arith, usable_is _ _ (sym c.is_unusable.ensures ∙ c.if-is_unusable.false))

pub returns : goal.returns
unfolding with_chunk
returns c =
    let u = sym c.is_unusable.ensures ∙ c.if-is_unusable.false in
    let room : c.args.state.used + length c.args.chunk.now ≤ 16384 = omega (arith, usable_is _ _ u) in
    let written = written_copied c.args.state.used c.args.chunk.now c.args.store.now _ (omega (arith, usable_is _ _ u)) c.copy.ensures.target_after in
    let law = push_accepted _ _ _ u c.if-state.false c.if-state-2.false room in
    record { value = c.answers-2.ensures ∙ law.0; store_after = written ∙ law.1 }
