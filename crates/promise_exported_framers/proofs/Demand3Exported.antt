-- Demand 3 at the exports: what frame_hunter_rules shows of the core holds of the calls that a caller in another language makes.
use Rattle.std.specs.Prelude.{◌≡◌, refl, Bool, true, false, List, [], ◌++◌, ℕ, ◌+◌, ◌%◌, ◌≤◌, ltb, length, replicate}
use Rattle.std.proofs.Common.{sym, ap, subst, ◌∙◌, arith}
use Rattle.field_rules.specs.Choice.{pick}
use Rattle.frame_verdict_rules.specs.Frame.{frame_most, IsFrame}
use Rattle.frame_verdict_rules.specs.Verdict.{verdict_of}
use Rattle.frame_hunter_rules.specs.Hunt.{Framer, store_size, count_wrap, Took, take_one, accepted, refused, give_end, Each, joined}
use Rattle.frame_hunter_rules.proofs.Recovery.{Whole, Handed}
use Rattle.frame_hunter_rules.proofs.Demand3.{NoneStraddles, demand_3}
use Rattle.frame_hunter_rules.specs.Bytes.{number_of_hunter, framer_of, unfit, left_by, finished, refused_take_lem, unmoved, moved_by, took_from}
use Rattle.frame_hunter_rules.proofs.InVainLaws.{refused-leaves}
use Rattle.frame_hunter_rules.proofs.CallsLaws.{never_full, never_full_elsewhere, nothing_again, bytes_conserved, stream_alone}
use Rattle.frame_hunter_rules.proofs.CallsExist.{can_begin, can_go_on, can_end}
use Rattle.frame_hunter_rules.specs.declared.State.{State}
use Rattle.frame_hunter_rules.specs.declared.Answer.{Answer}
use Rattle.frame_hunter_rules.specs.declared.Answer.TheVariants.{Fine, OutputShort, StoreFull, AfterEnd, BadStore}
use Rattle.face_framers.specs.States.{hunter_in, hunter_out, hunter_fresh}
use Rattle.face_framers.proofs.StateLaws.{hunter_as_it_was, hunter-zeros}
use Rattle.face_framers.specs.declared.HunterState.{HunterState}
use Rattle.face_framers.proofs.Exports.{HunterPush, HunterEnd, HunterTake}
use Rattle.promise_exported_framers.specs.ToldLength.{length_told}
use Rattle.promise_exported_framers.specs.HunterRule.{HunterRefused, refused_push, refused_take, refused_end, HunterCalls}
use Rattle.promise_exported_framers.proofs.HunterLaws.{reads, push_is, take_is, length-uncut, refused_is, calls_are}
use Rattle.promise_exported_framers.proofs.HunterExist.{hunter_plain, calls_exported}

-- DEMAND 3 AT THE EXPORTS, in the words of demand_3: only the calls are those of the exports
pub demand_3_exported : {over : Bool} {given : List ℕ} {frames : List (List ℕ)} {s : HunterState} {store : List ℕ} (rest D : List ℕ) (Fs : List (List ℕ)) →
    HunterCalls over given frames s store → given ++ rest ≡ D ++ joined Fs → Whole over rest → Each IsFrame Fs → NoneStraddles D (D ++ joined Fs) →
    Handed IsFrame over given D Fs frames
demand_3_exported rest D Fs calls q w a ns = demand_3 rest D Fs (calls_are calls) q w a ns

-- THE FRAMES DEPEND ONLY ON THE STREAM AND ITS END
pub stream_alone_exported : {over : Bool} {stream : List ℕ} {frames others : List (List ℕ)} {s z : HunterState} {store place : List ℕ} →
    HunterCalls over stream frames s store → HunterCalls over stream others z place → frames ≡ others
stream_alone_exported c k = (stream_alone (calls_are c) (calls_are k)).0

-- BYTES ARE CONSERVED: given = handed out + dropped + held, by the numbers in the lent state
pub bytes_conserved_exported : {over : Bool} {stream : List ℕ} {frames : List (List ℕ)} {s : HunterState} {store : List ℕ} →
    HunterCalls over stream frames s store → (d : ℕ) × (s.dropped ≡ d % count_wrap) × (length stream ≡ length (joined frames) + d + s.used)
unfolding hunter_in
bytes_conserved_exported calls = bytes_conserved (calls_are calls)

-- ---- 25 is never answered

full_is : (a : Answer) → number_of_hunter a ≡ 25 → a ≡ StoreFull
unfolding number_of_hunter
full_is Fine e = absurd (omega arith)
full_is OutputShort e = absurd (omega arith)
full_is StoreFull e = refl
full_is AfterEnd e = absurd (omega arith)
full_is BadStore e = absurd (omega arith)

-- A CHUNK OF AT MOST 8,192 BYTES IS ANSWERED 0
pub never_full_exported : {stream : List ℕ} {frames : List (List ℕ)} {s z : HunterState} {store store' out : List ℕ} {r : ℕ} (c : List ℕ) →
    HunterCalls false stream frames s store → length c ≤ frame_most → HunterPush s store c r z store' out → r ≡ 0
unfolding number_of_hunter
never_full_exported c calls l p = p.answered ∙ ap number_of_hunter (never_full c (calls_are calls) l (push_is _ _ _ _ _ _ _ p))

-- and no chunk of at most 8,192 bytes is answered 25, after the end and with other bytes lent as the store neither
pub never_full_elsewhere_exported : {over : Bool} {stream : List ℕ} {frames : List (List ℕ)} {s z : HunterState} {store place place' out : List ℕ} {r : ℕ} (c : List ℕ) →
    HunterCalls over stream frames s store → length c ≤ frame_most → HunterPush s place c r z place' out → r ≡ 25 → ⊥
never_full_elsewhere_exported c calls l p e = never_full_elsewhere c (calls_are calls) l (push_is _ _ _ _ _ _ _ p) (full_is _ (sym p.answered ∙ e))

take_not_full : (s : State) (store output : List ℕ) (t : Took) (u l : Bool) →
    (pick u (unmoved s store output BadStore) (pick l (unmoved s store output OutputShort) (moved_by store output t))).taken.answer ≡ StoreFull → ⊥
unfolding unmoved refused_take_lem moved_by
take_not_full s store output t true l e = let z : ◌≡◌ {A = ℕ} 0 1 = cc in omega arith
take_not_full s store output t false true e = let z : ◌≡◌ {A = ℕ} 0 1 = cc in omega arith
take_not_full s store output t false false e = let z : ◌≡◌ {A = ℕ} 0 1 = cc in omega arith

end_not_full : (s : State) (store : List ℕ) (f : Framer) (u e : Bool) →
    (left_by s store (pick u (refused BadStore) (pick e (refused AfterEnd) (accepted f)))).reply.answer ≡ StoreFull → ⊥
unfolding left_by
end_not_full s store f true e h = let z : ◌≡◌ {A = ℕ} 0 1 = cc in omega arith
end_not_full s store f false true h = let z : ◌≡◌ {A = ℕ} 0 1 = cc in omega arith
end_not_full s store f false false h = let z : ◌≡◌ {A = ℕ} 0 1 = cc in omega arith

-- takes and ends never answer 25, whatever they are lent
pub take_never_full_exported : {s z : HunterState} {store store' output output' out : List ℕ} {r : ℕ} → HunterTake s store output r z store' output' out →
    r ≡ 25 → ⊥
unfolding took_from
take_never_full_exported {s = s} {store = store} {output = output} p e =
    take_not_full (hunter_in s) store output (take_one verdict_of (framer_of (hunter_in s) store)) (unfit (hunter_in s) (length store)) (ltb (length output) frame_most) (full_is _ (sym p.answered ∙ e))

pub end_never_full_exported : {s z : HunterState} {store out : List ℕ} {r : ℕ} → HunterEnd s store r z out → r ≡ 25 → ⊥
unfolding finished give_end
end_never_full_exported {s = s} {store = store} p e =
    end_not_full (hunter_in s) store _ (unfit (hunter_in s) (length store)) (framer_of (hunter_in s) store).ended (full_is _ (sym p.answered ∙ e))

-- ---- further takes and calls in vain change nothing, not a byte of the lent state

-- what means the same is the same, byte for byte
as_lent : {s z : HunterState} {t : State} → z ≡ hunter_out s t → t ≡ hunter_in s → z ≡ s
as_lent {s = s} e q = e ∙ ap (hunter_out s) q ∙ hunter_as_it_was s

refused_over : {s z : HunterState} {store store' : List ℕ} → HunterRefused s store z store' → z ≡ hunter_out s (hunter_in z)
refused_over {s = s} {z = z} (refused_push around p v) = p.state-left ∙ ap (hunter_out s) (reads s z _ p.state-left)
refused_over {s = s} {z = z} (refused_take around p v) = p.state-left ∙ ap (hunter_out s) (reads s z _ p.state-left)
refused_over {s = s} {z = z} (refused_end p v) = p.state-left ∙ ap (hunter_out s) (reads s z _ p.state-left)

-- A FURTHER TAKE ANSWERS 0, TELLS 0, AND LEAVES STATE, STORE AND OUTPUT
pub record NothingTold (s : HunterState) (store output : List ℕ) (r : ℕ) (z : HunterState) (store' output' out : List ℕ) : Type 0 where
  pub answered : r ≡ 0
  pub none : length_told out ≡ 0
  pub state-kept : z ≡ s
  pub store_kept : store' ≡ store
  pub output_kept : output' ≡ output

pub nothing_again_exported : {over : Bool} {stream : List ℕ} {frames : List (List ℕ)} {s z : HunterState} {store store' output output' out : List ℕ} {r : ℕ} →
    HunterCalls over stream frames s store → frame_most ≤ length output → HunterTake s store output r z store' output' out → NothingTold s store output r z store' output' out
unfolding number_of_hunter
nothing_again_exported {s = s} {z = z} {store = store} {store' = store'} {output = output} {output' = output'} {out = out} {r = r} calls l p =
    let n = nothing_again (calls_are calls) l (take_is s store output r z store' output' out p) in
    record {
      answered = p.answered ∙ ap number_of_hunter n.0;
      none = length-uncut s store output r z store' output' out p ∙ n.1.none;
      state-kept = as_lent p.state-left n.1.state_is;
      store_kept = n.1.store_is;
      output_kept = n.1.output_is;
    }

-- A CALL IN VAIN LEAVES STATE AND STORE, whatever calls came before it
pub in_vain_exported : {s z : HunterState} {store store' : List ℕ} → HunterRefused s store z store' → (z ≡ s) × (store' ≡ store)
in_vain_exported c = let k = refused-leaves (refused_is c) in (as_lent (refused_over c) k.0, k.1)

-- ---- the rule can always be kept

pub can_begin_exported : HunterCalls false [] [] hunter_fresh (replicate store_size 0)
can_begin_exported = subst (λ (s : HunterState). HunterCalls false [] [] s (replicate store_size 0)) hunter-zeros (calls_exported can_begin)

pub can_go_on_exported : {stream : List ℕ} {frames : List (List ℕ)} {s : HunterState} {store : List ℕ} (c : List ℕ) →
    HunterCalls false stream frames s store → length c ≤ frame_most →
    (more : List (List ℕ)) × (z : HunterState) × (store'' : List ℕ) × HunterCalls false (stream ++ c) (frames ++ more) z store''
can_go_on_exported c calls l = let g = can_go_on c (calls_are calls) l in (g.0, hunter_plain g.1, g.2, calls_exported g.3)

pub can_end_exported : {stream : List ℕ} {frames : List (List ℕ)} {s : HunterState} {store : List ℕ} → HunterCalls false stream frames s store →
    (more : List (List ℕ)) × (z : HunterState) × (store'' : List ℕ) × HunterCalls true stream (frames ++ more) z store''
can_end_exported calls = let g = can_end (calls_are calls) in (g.0, hunter_plain g.1, g.2, calls_exported g.3)
