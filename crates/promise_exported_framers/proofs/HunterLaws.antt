-- Calls of the exports are calls of the core on the states that are read from the lent ones: nothing of a state is lost between two calls,
-- and no length is cut.
use Rattle.std.specs.Prelude.{◌≡◌, refl, Bool, List, [], ◌∷◌, ℕ, ◌<◌, take}
use Rattle.std.proofs.Common.{sym, ap, ◌∙◌, subst, arith}
use Rattle.frame_hunter_rules.specs.Bytes.{fresh_state, pushed, finished, took_from, Pushes, Finishes, Takes}
use Rattle.frame_hunter_rules.proofs.BytesLaws.{take_small}
use Rattle.frame_hunter_rules.specs.Calls.{InVain, Refused, TakenAll, Calls}
use Rattle.frame_hunter_rules.specs.Calls as core
use Rattle.frame_hunter_rules.specs.declared.State.{State}
use Rattle.face_told.specs.Told.{told}
use Rattle.face_framers.specs.States.{hunter_in, hunter_out}
use Rattle.face_framers.proofs.StateLaws.{hunter-kept, hunter_fresh_lem}
use Rattle.face_framers.specs.declared.HunterState.{HunterState}
use Rattle.face_framers.proofs.Exports.{HunterPush, HunterTake}
use Rattle.promise_exported_framers.specs.ToldLength.{length_told}
use Rattle.promise_exported_framers.specs.HunterRule.{HunterRefused, refused_push, refused_take, refused_end, HunterTakenAll, last-take, next-take, after-refusal, HunterCalls, after_reset, after-chunk, after-end, take_again, call_in_vain}

-- the state that the next call reads is the one that the call left
pub reads : (lent z : HunterState) (s : State) → z ≡ hunter_out lent s → s ≡ hunter_in z
reads lent z s e = sym (ap hunter_in e ∙ hunter-kept lent s)

-- ---- each export's call is the core's

pub push_is : (s : HunterState) (store chunk : List ℕ) (r : ℕ) (z : HunterState) (store' out : List ℕ) → HunterPush s store chunk r z store' out →
    Pushes (hunter_in s) store chunk (pushed (hunter_in s) store chunk).reply store'
push_is s store chunk r z store' out p = record { reply_is = refl; store_is = p.store-left }

pub end_is : (s : HunterState) (store : List ℕ) → Finishes (hunter_in s) store (finished (hunter_in s) store).reply
end_is s store = record { reply_is = refl }

pub take_is : (s : HunterState) (store output : List ℕ) (r : ℕ) (z : HunterState) (store' output' out : List ℕ) →
    HunterTake s store output r z store' output' out →
    Takes (hunter_in s) store output (took_from (hunter_in s) store output).taken store' output'
take_is s store output r z store' output' out p = record { taken_is = refl; store_is = p.store-left; output_is = p.output_left }

-- THE LENGTH IS TOLD UNCUT: a frame has at most 8,192 bytes
pub length-uncut : (s : HunterState) (store output : List ℕ) (r : ℕ) (z : HunterState) (store' output' out : List ℕ) →
    HunterTake s store output r z store' output' out →
    length_told out ≡ (took_from (hunter_in s) store output).taken.length
unfolding told
length-uncut s store output r z store' output' out p = rw p.out_left (omega (arith, take_small (hunter_in s) store output))

-- ---- a sequence of calls of the exports is one of the core

pub refused_is : {s z : HunterState} {store store' : List ℕ} → HunterRefused s store z store' → Refused (hunter_in s) store (hunter_in z) store'
refused_is (refused_push {s = s} {z = z} {place = place} {place' = place'} {chunk = chunk} {out = out} {r = r} around p v) =
    subst (λ (x : State). Refused (hunter_in s) (around place) x (around place')) (reads _ z _ p.state-left)
    (core.refused_push around (push_is s place chunk r z place' out p) (subst InVain p.answered v))
refused_is (refused_take {s = s} {z = z} {place = place} {place' = place'} {output = output} {output' = output'} {out = out} {r = r} around p v) =
    subst (λ (x : State). Refused (hunter_in s) (around place) x (around place')) (reads _ z _ p.state-left)
    (core.refused_take around (take_is s place output r z place' output' out p) (subst InVain p.answered v))
refused_is (refused_end {s = s} {z = z} {store = store} {place = place} p v) =
    subst (λ (x : State). Refused (hunter_in s) store x store) (reads _ z _ p.state-left) (core.refused_end (end_is s place) (subst InVain p.answered v))

taken-all_is : {s z : HunterState} {store store'' : List ℕ} {frames : List (List ℕ)} → HunterTakenAll s store frames z store'' →
    TakenAll (hunter_in s) store frames (hunter_in z) store''
taken-all_is (last-take {s = s} {z = z} {store = store} {store' = store'} {output = output} {output' = output'} {out = out} {r = r} l p e) =
    subst (λ (x : State). TakenAll (hunter_in s) store [] x store') (reads _ z _ p.state-left)
    (core.last-take l (take_is s store output r z store' output' out p) (sym (length-uncut s store output r z store' output' out p) ∙ e))
taken-all_is (next-take {s = s} {y = y} {z = z} {store = store} {store' = store'} {store'' = store''} {output = output} {output' = output'} {out = out} {r = r} {frames = frames} l p e rest) =
    let n = length-uncut s store output r y store' output' out p in
    let on : TakenAll (took_from (hunter_in s) store output).taken.state store' frames (hunter_in z) store'' =
    subst (λ (x : State). TakenAll x store' frames (hunter_in z) store'') (sym (reads _ y _ p.state-left)) (taken-all_is rest) in
    subst (λ (k : ℕ). TakenAll (hunter_in s) store (take k output' ∷ frames) (hunter_in z) store'') (sym n)
    (core.next-take l (take_is s store output r y store' output' out p) (subst (λ (k : ℕ). 0 < k) n e) on)
taken-all_is (after-refusal c rest) = core.after-refusal (refused_is c) (taken-all_is rest)

-- CALLS OF THE EXPORTS ARE CALLS OF THE CORE
pub calls_are : {over : Bool} {stream : List ℕ} {frames : List (List ℕ)} {s : HunterState} {store : List ℕ} → HunterCalls over stream frames s store →
    Calls over stream frames (hunter_in s) store
calls_are (after_reset {s = s} size p) = core.after_reset size (ap hunter_in p.state-left ∙ hunter_fresh_lem)
calls_are (after-chunk {more = more} {s = s} {y = y} {z = z} {store = store} {store' = store'} {store'' = store''} {out = out} {r = r} chunk calls l p all) =
    core.after-chunk chunk (calls_are calls) l (push_is s store chunk r y store' out p)
    (subst (λ (x : State). TakenAll x store' more (hunter_in z) store'') (sym (reads _ y _ p.state-left)) (taken-all_is all))
calls_are (after-end {more = more} {s = s} {y = y} {z = z} {store = store} {store'' = store''} calls p all) =
    core.after-end (calls_are calls) (end_is s store)
    (subst (λ (x : State). TakenAll x store more (hunter_in z) store'') (sym (reads _ y _ p.state-left)) (taken-all_is all))
calls_are (take_again {over = over} {stream = stream} {frames = frames} {s = s} {z = z} {store = store} {store' = store'} {output = output} {output' = output'} {out = out} {r = r} calls l p) =
    subst (λ (x : State). Calls over stream frames x store') (reads _ z _ p.state-left) (core.take_again (calls_are calls) l (take_is s store output r z store' output' out p))
calls_are (call_in_vain calls c) = core.call_in_vain (calls_are calls) (refused_is c)
