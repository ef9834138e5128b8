-- Every sequence of calls of the core can be made through the exports, so the calling rule over them can always be kept, too.
use Rattle.std.specs.Prelude.{◌≡◌, refl, Bool, List, ◌∷◌, ℕ, ◌<◌, take}
use Rattle.std.proofs.Common.{sym, ap, ◌∙◌, subst}
use Rattle.frame_hunter_rules.specs.Bytes.{number_of_hunter, pushed, finished, took_from, Pushes, Finishes, Takes}
use Rattle.frame_hunter_rules.specs.Calls.{Refused, TakenAll, Calls}
use Rattle.frame_hunter_rules.specs.Calls as core
use Rattle.frame_hunter_rules.specs.declared.State.{State}
use Rattle.frame_hunter_rules.specs.declared.Reply.{Reply}
use Rattle.frame_hunter_rules.specs.declared.Taken.{Taken}
use Rattle.face_told.specs.Told.{told}
use Rattle.face_framers.specs.States.{hunter_out, hunter_fresh}
use Rattle.face_framers.proofs.StateLaws.{hunter-kept, hunter_plain_lem, hunter-zeros}
use Rattle.face_framers.specs.declared.HunterState.{HunterState}
use Rattle.face_framers.proofs.Exports.{HunterPush, HunterEnd, HunterTake}
use Rattle.promise_exported_framers.specs.ToldLength.{length_told}
use Rattle.promise_exported_framers.specs.HunterRule.{HunterRefused, refused_push, refused_take, refused_end, HunterTakenAll, last-take, next-take, after-refusal, HunterCalls, after_reset, after-chunk, after-end, take_again, call_in_vain}
use Rattle.promise_exported_framers.proofs.HunterLaws.{length-uncut}

-- the state that calls leave from a reset on: its marks are 0 or 1
abbrev pub hunter_plain : State → HunterState
hunter_plain s = hunter_out hunter_fresh s

-- ---- each call of the core as a call of its export

push_exported : (s : State) (store chunk : List ℕ) (r : Reply) (store' : List ℕ) → Pushes s store chunk r store' →
    HunterPush (hunter_plain s) store chunk (number_of_hunter r.answer) (hunter_plain r.state) store' (told 0 (0, 0))
push_exported s store chunk r store' p = record {
  answered = ap (λ (x : Reply). number_of_hunter x.answer) p.reply_is ∙ ap (λ (x : State). number_of_hunter (pushed x store chunk).reply.answer) (sym (hunter-kept hunter_fresh s));
  state-left = ap (λ (x : Reply). hunter_plain x.state) p.reply_is ∙ ap (λ (x : State). hunter_plain (pushed x store chunk).reply.state) (sym (hunter-kept hunter_fresh s)) ∙ sym (hunter_plain_lem s _);
  store-left = p.store_is ∙ ap (λ (x : State). (pushed x store chunk).store) (sym (hunter-kept hunter_fresh s));
  out_left = refl;
}

end_exported : (s : State) (store : List ℕ) (r : Reply) → Finishes s store r →
    HunterEnd (hunter_plain s) store (number_of_hunter r.answer) (hunter_plain r.state) (told 0 (0, 0))
end_exported s store r p = record {
  answered = ap (λ (x : Reply). number_of_hunter x.answer) p.reply_is ∙ ap (λ (x : State). number_of_hunter (finished x store).reply.answer) (sym (hunter-kept hunter_fresh s));
  state-left = ap (λ (x : Reply). hunter_plain x.state) p.reply_is ∙ ap (λ (x : State). hunter_plain (finished x store).reply.state) (sym (hunter-kept hunter_fresh s)) ∙ sym (hunter_plain_lem s _);
  out_left = refl;
}

take_exported : (s : State) (store output : List ℕ) (r : Taken) (store' output' : List ℕ) → Takes s store output r store' output' →
    HunterTake (hunter_plain s) store output (number_of_hunter r.answer) (hunter_plain r.state) store' output' (told 0 (r.length, 0))
take_exported s store output r store' output' p = record {
  answered = ap (λ (x : Taken). number_of_hunter x.answer) p.taken_is ∙ ap (λ (x : State). number_of_hunter (took_from x store output).taken.answer) (sym (hunter-kept hunter_fresh s));
  state-left = ap (λ (x : Taken). hunter_plain x.state) p.taken_is ∙ ap (λ (x : State). hunter_plain (took_from x store output).taken.state) (sym (hunter-kept hunter_fresh s)) ∙ sym (hunter_plain_lem s _);
  store-left = p.store_is ∙ ap (λ (x : State). (took_from x store output).store) (sym (hunter-kept hunter_fresh s));
  output_left = p.output_is ∙ ap (λ (x : State). (took_from x store output).output) (sym (hunter-kept hunter_fresh s));
  out_left = ap (λ (x : Taken). told 0 (x.length, 0)) p.taken_is ∙ ap (λ (x : State). told 0 ((took_from x store output).taken.length, 0)) (sym (hunter-kept hunter_fresh s));
}

-- its length is told
told-length : (s : State) (store output : List ℕ) (r : Taken) (store' output' : List ℕ) → Takes s store output r store' output' →
    length_told (told 0 (r.length, 0)) ≡ r.length
told-length s store output r store' output' p =
    length-uncut (hunter_plain s) store output _ _ store' output' _ (take_exported s store output r store' output' p)
    ∙ ap (λ (x : State). (took_from x store output).taken.length) (hunter-kept hunter_fresh s)
    ∙ sym (ap (λ (x : Taken). x.length) p.taken_is)

-- ---- a sequence of them

refused_exported : {s z : State} {store store' : List ℕ} → Refused s store z store' → HunterRefused (hunter_plain s) store (hunter_plain z) store'
refused_exported (core.refused_push around p v) = refused_push around (push_exported _ _ _ _ _ p) v
refused_exported (core.refused_take around p v) = refused_take around (take_exported _ _ _ _ _ _ p) v
refused_exported (core.refused_end p v) = refused_end (end_exported _ _ _ p) v

taken-all_exported : {s z : State} {store store'' : List ℕ} {frames : List (List ℕ)} → TakenAll s store frames z store'' →
    HunterTakenAll (hunter_plain s) store frames (hunter_plain z) store''
taken-all_exported (core.last-take l p e) = last-take l (take_exported _ _ _ _ _ _ p) (told-length _ _ _ _ _ _ p ∙ e)
taken-all_exported (core.next-take {s = s} {z = z} {store = store} {store'' = store''} {output' = output'} {frames = frames} l p e rest) =
    let n = told-length _ _ _ _ _ _ p in
    subst (λ (k : ℕ). HunterTakenAll (hunter_plain s) store (take k output' ∷ frames) (hunter_plain z) store'') n
    (next-take l (take_exported _ _ _ _ _ _ p) (subst (λ (k : ℕ). 0 < k) (sym n) e) (taken-all_exported rest))
taken-all_exported (core.after-refusal c rest) = after-refusal (refused_exported c) (taken-all_exported rest)

-- CALLS OF THE CORE ARE CALLS OF THE EXPORTS
pub calls_exported : {over : Bool} {stream : List ℕ} {frames : List (List ℕ)} {s : State} {store : List ℕ} → Calls over stream frames s store →
    HunterCalls over stream frames (hunter_plain s) store
calls_exported (core.after_reset size e) = after_reset {out = told 0 (0, 0)} {r = 0} size (record { answered = refl; state-left = ap hunter_plain e ∙ hunter-zeros; out_left = refl })
calls_exported (core.after-chunk chunk calls l p all) = after-chunk chunk (calls_exported calls) l (push_exported _ _ _ _ _ p) (taken-all_exported all)
calls_exported (core.after-end calls p all) = after-end (calls_exported calls) (end_exported _ _ _ p) (taken-all_exported all)
calls_exported (core.take_again calls l p) = take_again (calls_exported calls) l (take_exported _ _ _ _ _ _ p)
calls_exported (core.call_in_vain calls c) = call_in_vain (calls_exported calls) (refused_exported c)
