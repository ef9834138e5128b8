-- `push` meets its contract: each return cites the law of `BytesLaws` for its way.
use Rattle.std.proofs.Common.{ℕ, ◌+◌, false, length, sym, ap, ◌∙◌, arith, length-drop}
use Rattle.frame_hunter_rules.proofs.BytesLaws.{fits, push_unfit, push_ended, push_full, push_fine}
use Rattle.frame_hunter_rules.specs.declared.State.{State}
use Rattle.frame_hunter_rules.specs.declared.Reply.{Reply}
use Rattle.frame_hunter_rules.specs.declared.Answer.TheVariants.{Fine}
use Rattle.field_rules.proofs.FindLaws.{rest_part}
use Rattle.frame_hunter.proofs.Moves.{put-behind}
use Rattle.frame_hunter.proofs.push.Goals as goal

pub returns-then-unfit_store : goal.returns-then-unfit_store
returns-then-unfit_store c = let u = push_unfit _ _ _ (sym c.unfit_store.ensures ∙ c.if-unfit_store.true) in record { reply_is = sym u.reply; store_is = sym u.store_is }

pub returns-then-state : goal.returns-then-state
returns-then-state c =
    let u = push_ended _ _ _ (sym c.unfit_store.ensures ∙ c.if-unfit_store.false) c.if-state.true in record { reply_is = sym u.reply; store_is = sym u.store_is }

pub overflow_sub-used : goal.overflow_sub-used
overflow_sub-used c =
    (fits _ _ (sym c.unfit_store.ensures ∙ c.if-unfit_store.false)).within

pub returns-then-used-chunk : goal.returns-then-used-chunk
returns-then-used-chunk c =
    let u = push_full _ _ _ (sym c.unfit_store.ensures ∙ c.if-unfit_store.false) c.if-state.false c.if-used-chunk.true in record { reply_is = sym u.reply; store_is = sym u.store_is }

pub slice_bounds-copy-count : goal.slice_bounds-copy-count
slice_bounds-copy-count c =
    omega (arith, fits _ _ (sym c.unfit_store.ensures ∙ c.if-unfit_store.false))

pub slice_bounds-copy-start : goal.slice_bounds-copy-start
slice_bounds-copy-start c =
    omega (arith, fits _ _ (sym c.unfit_store.ensures ∙ c.if-unfit_store.false))

pub copy-more-requires : goal.copy-more-requires
copy-more-requires c =
    omega (arith, fits _ _ (sym c.unfit_store.ensures ∙ c.if-unfit_store.false), ap length (rest_part c.args.store.now c.args.state.used), length-drop c.args.state.used c.args.store.now, c.if-used-chunk.false)

-- the reply to a chunk of n bytes
replied : State → ℕ → Reply
replied s n = record { answer = Fine; state = record { used = s.used + n; dropped = s.dropped; ended = false } }

pub returns : goal.returns
unfolding replied
returns c =
    let u = push_fine c.args.state c.args.store.now c.args.chunk.now (sym c.unfit_store.ensures ∙ c.if-unfit_store.false) c.if-state.false (omega (arith, c.if-used-chunk.false)) in
    record { reply_is = ap (replied c.args.state) c.copy-more.ensures.value ∙ sym u.reply; store_is = put-behind c.args.store.now c.args.chunk.now _ c.args.state.used c.copy-more.ensures.target_after ∙ sym u.store_is }
