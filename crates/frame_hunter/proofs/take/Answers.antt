-- `take` meets its contract. Where the hunt stands is kept in lemmas typed by the place of its call; each return cites the law of
-- `BytesLaws` for its way.
use Rattle.std.proofs.Common.{refl, ◌≡◌, ℕ, ◌+◌, ◌-◌, ◌%◌, ◌≤◌, List, ◌++◌, length, take, drop, sym, ap, ◌∙◌, arith}
use Rattle.frame_verdict_rules.specs.Frame.{frame_most}
use Rattle.frame_hunter_rules.specs.Hunt.{count_wrap}
use Rattle.frame_hunter_rules.specs.Bytes.{refused_take_lem, Handout, unmoved, took_from, Takes}
use Rattle.frame_hunter_rules.proofs.BytesLaws.{fits, held-length, take-unfit, take_short, hunt_inside, hunt_small, Moved, take_fine}
use Rattle.frame_hunter_rules.specs.declared.State.{State}
use Rattle.frame_hunter_rules.specs.declared.Taken.{Taken}
use Rattle.frame_hunter_rules.specs.declared.Hunted.{Hunted}
use Rattle.frame_hunter_rules.specs.declared.Answer.{Answer}
use Rattle.frame_hunter_rules.specs.declared.Answer.TheVariants.{Fine}
use Rattle.frame_hunter.proofs.Moves.{part_length, put_first}
use Rattle.frame_hunter.proofs.take.Goals as goal
use Rattle.frame_hunter.proofs.take.Goals.{After-hunt-hunted}

-- a refused take leaves store and output as they were
refuses : (s : State) (store output : List ℕ) (a : Answer) (r : Taken) → r ≡ refused_take_lem s a → took_from s store output ≡ unmoved s store output a → Takes s store output r store output
unfolding unmoved
refuses s store output a r e t = record { taken_is = e ∙ sym (ap (λ (o : Handout). o.taken) t); store_is = sym (ap (λ (o : Handout). o.store) t); output_is = sym (ap (λ (o : Handout). o.output) t) }

pub returns-then-unfit_store : goal.returns-then-unfit_store
returns-then-unfit_store c = refuses _ _ _ _ _ c.untaken.ensures (take-unfit _ _ _ (sym c.unfit_store.ensures ∙ c.if-unfit_store.true))

pub returns-then-output-lt-FRAME_MOST : goal.returns-then-output-lt-FRAME_MOST
returns-then-output-lt-FRAME_MOST c =
    refuses _ _ _ _ _ c.untaken-then-output-lt-FRAME_MOST.ensures (take_short _ _ _ (sym c.unfit_store.ensures ∙ c.if-unfit_store.false) c.if-output-lt-FRAME_MOST.true)

pub slice_bounds-hunt-end : goal.slice_bounds-hunt-end
slice_bounds-hunt-end c =
    omega (arith, fits _ _ (sym c.unfit_store.ensures ∙ c.if-unfit_store.false))

pub slice_bounds-hunt-end-2 : goal.slice_bounds-hunt-end-2
slice_bounds-hunt-end-2 c =
    sym (held-length _ _ (fits _ _ (sym c.unfit_store.ensures ∙ c.if-unfit_store.false)))

-- what the hunt told lies within the bytes held
inside : (c : After-hunt-hunted) → let h = c.hunt-hunted.result in
    (h.passed + h.length ≤ c.args.state.used) × (c.args.state.used ≤ 16384) × (length c.args.store.now ≡ 16384) × (h.length ≤ frame_most)
inside c =
    let f = fits _ _ (sym c.unfit_store.ensures ∙ c.if-unfit_store.false) in
    (hunt_inside c.args.state c.args.store.now c.args.output.now _ f c.hunt-hunted.ensures, f.within, f.size, hunt_small c.args.state c.args.store.now c.args.output.now _ f c.hunt-hunted.ensures)

pub overflow_add-rest : goal.overflow_add-rest
overflow_add-rest c =
    omega (arith, inside (goal.at.overflow_add-rest c).After-hunt-hunted)

pub slice_bounds-copy-end : goal.slice_bounds-copy-end
slice_bounds-copy-end c =
    omega (arith, inside (goal.at.slice_bounds-copy-end c).After-hunt-hunted)

pub copy-length-requires : goal.copy-length-requires
copy-length-requires c =
    omega (arith, part_length c.args.store.now c.hunt-hunted.result.passed c.hunt-hunted.result.length (omega (arith, inside (goal.at.copy-length-requires c).After-hunt-hunted)), inside (goal.at.copy-length-requires c).After-hunt-hunted, c.if-output-lt-FRAME_MOST.false)

pub keep-requires : goal.keep-requires
keep-requires c =
    (omega (arith, inside (goal.at.keep-requires c).After-hunt-hunted), omega (arith, inside (goal.at.keep-requires c).After-hunt-hunted))

pub overflow_sub-next : goal.overflow_sub-next
overflow_sub-next c =
    omega (arith, inside (goal.at.overflow_sub-next c).After-hunt-hunted)

-- the answer by the hunt: a frame of n bytes, and d places dropped
answered : (s : State) (store output : List ℕ) (h : Hunted) (o : Handout) (n d : ℕ) → Moved s store output h o → n ≡ h.length → d ≡ (s.dropped + h.passed) % count_wrap →
    record { answer = Fine; length = n; state = record { used = s.used - (h.passed + h.length); dropped = d; ended = s.ended } } ≡ o.taken
answered s store output h o n d m e f = rw (e, f) (sym m.taken_is)

stored : (s : State) (store output : List ℕ) (h : Hunted) (o : Handout) (store' : List ℕ) → Moved s store output h o →
    store' ≡ take (s.used - (h.passed + h.length)) (drop (h.passed + h.length) store) ++ drop (s.used - (h.passed + h.length)) store → store' ≡ o.store
stored s store output h o store' m e = e ∙ sym m.store_is

written : (s : State) (store output : List ℕ) (h : Hunted) (o : Handout) (output' : List ℕ) → Moved s store output h o → output' ≡ take h.length (drop h.passed store) ++ drop h.length output → output' ≡ o.output
written s store output h o output' m e = e ∙ sym m.output_is

pub returns : goal.returns
returns c =
    let m = take_fine c.args.state c.args.store.now c.args.output.now c.hunt-hunted.result (sym c.unfit_store.ensures ∙ c.if-unfit_store.false) (omega (arith, c.if-output-lt-FRAME_MOST.false)) c.hunt-hunted.ensures in
    record {
      taken_is = answered c.args.state c.args.store.now c.args.output.now c.hunt-hunted.result _ _ _ m (c.copy-length.ensures.value ∙ part_length c.args.store.now c.hunt-hunted.result.passed c.hunt-hunted.result.length (omega (arith, inside (goal.at.returns c).After-hunt-hunted))) refl;
      store_is = stored c.args.state c.args.store.now c.args.output.now c.hunt-hunted.result _ _ m c.keep.ensures;
      output_is = written c.args.state c.args.store.now c.args.output.now c.hunt-hunted.result _ _ m (put_first c.args.store.now c.args.output.now _ c.hunt-hunted.result.passed c.hunt-hunted.result.length (omega (arith, inside (goal.at.returns c).After-hunt-hunted)) c.copy-length.ensures.target_after);
    }
