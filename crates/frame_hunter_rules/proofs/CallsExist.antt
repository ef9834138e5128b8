-- The calling rule can always be kept: after any sequence of calls a further chunk, or the end, can be given and all that is ready taken.
-- And calls in vain can be made of it at any place.
use Rattle.std.specs.Prelude.{◌≡◌, refl, Bool, true, false, List, [], ◌∷◌, ◌++◌, ℕ, zero, suc, ◌≤◌, ◌<◌, length, take, replicate}
use Rattle.std.proofs.Math.Path.{ap}
use Rattle.std.proofs.Common.{◌∙◌, le_refl, arith, ne_eqb}
use Rattle.std.proofs.lemmas.List.{length-replicate}
use Rattle.frame_verdict_rules.specs.Frame.{frame_most}
use Rattle.frame_verdict_rules.specs.Verdict.{verdict_of}
use Rattle.frame_verdict_rules.proofs.VerdictLaws.{verdict_laws}
use Rattle.frame_hunter_rules.specs.Hunt.{store_size, take_one}
use Rattle.frame_hunter_rules.proofs.TakeLaws.{step}
use Rattle.frame_hunter_rules.specs.Bytes.{number_of_hunter, framer_of, unfit, pushed, finished, Handout, refused_take_lem, unmoved, took_from, fresh_state, Pushes, Finishes, Takes}
use Rattle.frame_hunter_rules.proofs.BytesLaws.{Fit, fit_is, push_unfit, push_ended, end-unfit, end-ended, take-unfit, take_short}
use Rattle.frame_hunter_rules.specs.Calls.{TakenAll, last-take, next-take, Calls, after_reset, after-chunk, after-end}
use Rattle.frame_hunter_rules.proofs.CallsLaws.{holds_used, TakeIs, take_simulates, is_run_lem, taken_in, end_simulates, open_state, outcome}
use Rattle.frame_hunter_rules.proofs.RunLaws.{run_is}
use Rattle.frame_hunter_rules.specs.declared.State.{State}
use Rattle.frame_hunter_rules.specs.declared.Reply.{Reply}
use Rattle.frame_hunter_rules.specs.declared.Taken.{Taken}

-- some output that is large enough
abbrev blank : List ℕ
blank = replicate frame_most 0

blank_fits : frame_most ≤ length blank
blank_fits = omega (arith, length-replicate {A = ℕ} frame_most 0)

-- all that is ready can be taken
abbrev Drains : State → List ℕ → Type 0
Drains s store = (frames : List (List ℕ)) × (z : State) × (store'' : List ℕ) × TakenAll s store frames z store''

module _ (s : State) (store : List ℕ) (f : Fit s store) where
  abbrev handout : Handout
  handout = took_from s store blank

  takes : Takes s store blank handout.taken handout.store handout.output
  takes = record { taken_is = refl; store_is = refl; output_is = refl }

  is_take : TakeIs s store f (take_one verdict_of (framer_of s store)) handout.taken handout.store handout.output
  is_take = take_simulates s store f blank _ _ _ blank_fits takes

  -- a take that hands out bytes leaves fewer
  fewer : (m : ℕ) → s.used < suc m → 0 < handout.taken.length → handout.taken.state.used < m
  fewer m h l =
      let k = (step verdict_of verdict_laws (framer_of s store)).kept in
      omega (arith, h, is_take.size, holds_used _ _ _ is_take.holds, holds_used (framer_of s store) s store (record { fit = f; same = refl }))

  one-take : (m n : ℕ) → s.used < suc m → handout.taken.length ≡ n → ((z : State) (place : List ℕ) → Fit z place → z.used < m → Drains z place) → Drains s store
  one-take m zero h e ih = ([], handout.taken.state, handout.store, last-take blank_fits takes e)
  one-take m (suc n) h e ih =
      let l : 0 < handout.taken.length = omega arith in
      let d = ih handout.taken.state handout.store is_take.holds.fit (fewer m h l) in
      (take handout.taken.length handout.output ∷ d.0, d.1, d.2, next-take blank_fits takes l d.3)

can_drain : (m : ℕ) (s : State) (store : List ℕ) → Fit s store → s.used < m → Drains s store
can_drain zero s store f h = absurd (omega arith)
can_drain (suc m) s store f h = one-take s store f m _ h refl (λ z place k l. can_drain m z place k l)

-- there is a first call ..
pub can_begin : Calls false [] [] fresh_state (replicate store_size 0)
can_begin = after_reset (length-replicate {A = ℕ} store_size 0) refl

-- .. a chunk can be given ..
pub can_go_on : {stream : List ℕ} {frames : List (List ℕ)} {s : State} {store : List ℕ} (c : List ℕ) → Calls false stream frames s store → length c ≤ frame_most → (more : List (List ℕ)) × (z : State) × (store'' : List ℕ) × Calls false (stream ++ c) (frames ++ more) z store''
can_go_on {s = s} {store = store} c calls l =
    let i = is_run_lem calls in
    let p : Pushes s store c (pushed s store c).reply (pushed s store c).store = record { reply_is = refl; store_is = refl } in
    let g = (taken_in s store i.run i.holds c l (pushed s store c).reply (pushed s store c).store p).1 in
    let d = can_drain (suc (pushed s store c).reply.state.used) (pushed s store c).reply.state (pushed s store c).store g.fit (le_refl _) in
    (d.0, d.1, d.2, after-chunk c calls l p d.3)

-- .. and so can the end
pub can_end : {stream : List ℕ} {frames : List (List ℕ)} {s : State} {store : List ℕ} → Calls false stream frames s store → (more : List (List ℕ)) × (z : State) × (store'' : List ℕ) × Calls true stream (frames ++ more) z store''
can_end {s = s} {store = store} calls =
    let i = is_run_lem calls in
    let p : Finishes s store (finished s store).reply = record { reply_is = refl } in
    let g = (end_simulates s store i.holds.fit (finished s store).reply p (open_state i.framed s store i.holds (run_is verdict_of verdict_laws i.run).open_still)).1 in
    let d = can_drain (suc (finished s store).reply.state.used) (finished s store).reply.state store g.fit (le_refl _) in
    (d.0, d.1, d.2, after-end calls p d.3)

-- ---- calls in vain can be made at any place: 23, 26 and 27 are answered where the rules say so

-- "23: an output under 8,192 bytes at any take, even with nothing ready"
pub short_output_refused : {over : Bool} {stream : List ℕ} {frames : List (List ℕ)} {s : State} {store store' output output' : List ℕ} {r : Taken} →
    Calls over stream frames s store → length output < frame_most → Takes s store output r store' output' → number_of_hunter r.answer ≡ 23
unfolding number_of_hunter unmoved refused_take_lem
short_output_refused {s = s} {store = store} {output = output} {r = r} calls l p =
    ap (λ (x : Taken). number_of_hunter x.answer) (p.taken_is ∙ ap (λ (h : Handout). h.taken) (take_short s store output (fit_is s store (is_run_lem calls).holds.fit) l))

-- "26: a chunk or an end after the end"
pub late-chunk-refused : {stream : List ℕ} {frames : List (List ℕ)} {s : State} {store store' chunk : List ℕ} {r : Reply} →
    Calls true stream frames s store → Pushes s store chunk r store' → number_of_hunter r.answer ≡ 26
unfolding number_of_hunter
late-chunk-refused {s = s} {store = store} {chunk = chunk} calls p =
    ap (λ (x : Reply). number_of_hunter x.answer) (p.reply_is ∙ (push_ended s store chunk (fit_is s store (is_run_lem calls).holds.fit) (outcome calls).flag).reply)

pub late-end-refused : {stream : List ℕ} {frames : List (List ℕ)} {s : State} {store : List ℕ} {r : Reply} →
    Calls true stream frames s store → Finishes s store r → number_of_hunter r.answer ≡ 26
unfolding number_of_hunter
late-end-refused {s = s} {store = store} calls p =
    ap (λ (x : Reply). number_of_hunter x.answer) (p.reply_is ∙ (end-ended s store (fit_is s store (is_run_lem calls).holds.fit) (outcome calls).flag).reply)

-- "27: the store isn't 16,384 bytes"
module _ (s : State) (place : List ℕ) (wrong : length place ≡ store_size → ⊥) where
  wrong_size : unfit s (length place) ≡ true
  unfolding unfit
  wrong_size = rw (ne_eqb _ _ wrong)

  pub wrong-store-chunk-refused : (chunk : List ℕ) (r : Reply) (place' : List ℕ) → Pushes s place chunk r place' → number_of_hunter r.answer ≡ 27
  unfolding number_of_hunter
  wrong-store-chunk-refused chunk r place' p = ap (λ (x : Reply). number_of_hunter x.answer) (p.reply_is ∙ (push_unfit s place chunk wrong_size).reply)

  pub wrong-store-end-refused : (r : Reply) → Finishes s place r → number_of_hunter r.answer ≡ 27
  unfolding number_of_hunter
  wrong-store-end-refused r p = ap (λ (x : Reply). number_of_hunter x.answer) (p.reply_is ∙ (end-unfit s place wrong_size).reply)

  pub wrong-store-take-refused : (output : List ℕ) (r : Taken) (place' output' : List ℕ) → Takes s place output r place' output' → number_of_hunter r.answer ≡ 27
  unfolding number_of_hunter unmoved refused_take_lem
  wrong-store-take-refused output r place' output' p =
      ap (λ (x : Taken). number_of_hunter x.answer) (p.taken_is ∙ ap (λ (h : Handout). h.taken) (take-unfit s place output wrong_size))
