-- Calls over bytes are calls of the framer that state and store hold, so a sequence of calls is a run, and no chunk of it is refused.
-- Calls in vain and takes when nothing is ready are no part of the run: they leave the framer that is held.
use Rattle.std.specs.Prelude.{◌≡◌, Bool, false, List, [], ◌∷◌, ◌++◌, ℕ, ◌+◌, ◌%◌, ◌≤◌, ◌<◌, take, drop}
use Rattle.std.proofs.Math.Path.{refl, ap}
use Rattle.std.proofs.Common.{sym, ◌∙◌, subst, inl, arith, lit<, length-append, length-drop}
use Rattle.std.proofs.Math.Bool.{true}
use Rattle.std.proofs.Math.ListN.{length}
use Rattle.std.proofs.Math.Seq.{take-append_seam}
use Rattle.frame_verdict_rules.specs.Frame.{frame_most}
use Rattle.frame_verdict_rules.specs.Verdict.{verdict_of}
use Rattle.frame_verdict_rules.proofs.VerdictLaws.{verdict_laws}
use Rattle.frame_hunter_rules.specs.Hunt.{Framer, framer, fresh_framer, store_size, count_wrap, Took, take_one, accepted, give_chunk, Drained, dry, more, Run, reset, chunk, Ended, ends, Hunt, joined}
use Rattle.frame_hunter_rules.proofs.TakeLaws.{step}
use Rattle.frame_hunter_rules.proofs.RunLaws.{run_is, held_small, chunk-accepted, end_open, ended_is, Same, unique, conserved}
use Rattle.frame_hunter_rules.specs.Bytes.{framer_of, state_of, stored_over, unfit, Left, left_by, Handout, moved_by, fresh_state, Pushes, Finishes, Takes}
use Rattle.frame_hunter_rules.proofs.BytesLaws.{Fit, fit_is, held-length, push_unfit, pushed_is, push_ended, push_fine, end_fine, take_is}
use Rattle.frame_hunter_rules.specs.Calls.{Refused, TakenAll, last-take, next-take, after-refusal, Calls, after_reset, after-chunk, after-end, take_again, call_in_vain}
use Rattle.frame_hunter_rules.proofs.InVainLaws.{refused-leaves, AtRest, Nothing, take-at-rest}
use Rattle.frame_hunter_rules.specs.declared.State.{State}
use Rattle.frame_hunter_rules.specs.declared.Reply.{Reply}
use Rattle.frame_hunter_rules.specs.declared.Taken.{Taken}
use Rattle.frame_hunter_rules.specs.declared.Answer.{Answer}
use Rattle.frame_hunter_rules.specs.declared.Answer.TheVariants.{Fine, StoreFull, AfterEnd, BadStore}

-- ---- state and store after a call

-- a framer that fits the store is found again in the state and the store that hold it
pub record Holds (f : Framer) (s : State) (store : List ℕ) : Type 0 where
  pub fit : Fit s store
  pub same : framer_of s store ≡ f

pub laid : (store : List ℕ) (f : Framer) → length store ≡ store_size → length f.held ≤ store_size → Holds f (state_of f) (stored_over store f)
unfolding framer_of state_of stored_over
laid store f l h = record {
  fit = record { size = length-append f.held (drop (length f.held) store) ∙ omega (arith, length-drop (length f.held) store); within = h };
  same = rw (take-append_seam f.held (drop (length f.held) store));
}

pub holds_used : (f : Framer) (s : State) (store : List ℕ) → Holds f s store → s.used ≡ length f.held
unfolding framer_of
holds_used f s store h = sym (held-length s store h.fit) ∙ ap (λ (x : Framer). length x.held) h.same

-- ---- each call is the framer's call

module _ (s : State) (store : List ℕ) (fit : Fit s store) where
  held_in : length (framer_of s store).held ≤ store_size
  unfolding framer_of
  held_in = omega (arith, held-length s store fit, fit.within)

  -- A PUSH IS THE FRAMER'S CHUNK
  pub push_simulates : (c : List ℕ) (g : Framer) (r : Reply) (store' : List ℕ) → Pushes s store c r store' → give_chunk c (framer_of s store) ≡ accepted g → length g.held ≤ store_size → (r.answer ≡ Fine) × Holds g r.state store'
  unfolding left_by
  push_simulates c g r store' p a l =
      let e = pushed_is s store c (accepted g) (fit_is s store fit) a in
      let er : r ≡ record { answer = Fine; state = state_of g } = p.reply_is ∙ ap (λ (x : Left). x.reply) e in
      let es : store' ≡ stored_over store g = p.store_is ∙ ap (λ (x : Left). x.store) e in
      (ap (λ (x : Reply). x.answer) er, rw (er, es) (laid store g fit.size l))

  -- THE END IS THE FRAMER'S END
  pub end_simulates : (r : Reply) → Finishes s store r → s.ended ≡ false → (r.answer ≡ Fine) × Holds (framer (framer_of s store).held (framer_of s store).dropped true) r.state store
  unfolding framer_of
  end_simulates r p o =
      let m = end_fine s store (fit_is s store fit) o in
      let er : r ≡ record { answer = Fine; state = record { used = s.used; dropped = s.dropped; ended = true } } = p.reply_is ∙ m.reply in
      (ap (λ (x : Reply). x.answer) er, rw er (record { fit = record { size = fit.size; within = fit.within }; same = refl }))

  -- A TAKE IS THE FRAMER'S TAKE
  pub record TakeIs (t : Took) (r : Taken) (store' output' : List ℕ) : Type 0 where
    pub answers : r.answer ≡ Fine
    pub size : r.length ≡ length t.frame
    pub frame : take r.length output' ≡ t.frame
    pub holds : Holds t.after r.state store'

  took_is : (output : List ℕ) (t : Took) (r : Taken) (store' output' : List ℕ) → length t.after.held ≤ store_size → r ≡ (moved_by store output t).taken → store' ≡ (moved_by store output t).store → output' ≡ (moved_by store output t).output → TakeIs t r store' output'
  unfolding moved_by
  took_is output t r store' output' l er es eo =
      let n : r.length ≡ length t.frame = ap (λ (x : Taken). x.length) er in
      record {
        answers = ap (λ (x : Taken). x.answer) er;
        size = n;
        frame = rw (n, eo) (take-append_seam t.frame (drop (length t.frame) output));
        holds = rw (er, es) (laid store t.after fit.size l);
      }

  pub take_simulates : (output : List ℕ) (r : Taken) (store' output' : List ℕ) → frame_most ≤ length output → Takes s store output r store' output' → TakeIs (take_one verdict_of (framer_of s store)) r store' output'
  take_simulates output r store' output' l p =
      let e = take_is s store output (fit_is s store fit) l in
      let k = (step verdict_of verdict_laws (framer_of s store)).kept in
      took_is output (take_one verdict_of (framer_of s store)) r store' output' (omega (arith, held_in)) (p.taken_is ∙ ap (λ (o : Handout). o.taken) e) (p.store_is ∙ ap (λ (o : Handout). o.store) e) (p.output_is ∙ ap (λ (o : Handout). o.output) e)

-- ---- a sequence of calls is a run

pub held_still : (f : Framer) {s z : State} {store store' : List ℕ} → Refused s store z store' → Holds f s store → Holds f z store'
held_still f c h = let k = refused-leaves c in rw (k.0, k.1) h

-- takes until one answers 0 drain the framer
taken-all : {s z : State} {store store'' : List ℕ} {frames : List (List ℕ)} → TakenAll s store frames z store'' → (f : Framer) → Holds f s store → (g : Framer) × Drained verdict_of f frames g × Holds g z store''
taken-all (last-take {s = s} {store = store} {store' = store'} {output = output} {output' = output'} {r = r} l p z) f h = go (rw h.same at (take_simulates s store h.fit output r store' output' l p))
  where
    go : TakeIs s store h.fit (take_one verdict_of f) r store' output' → (g : Framer) × Drained verdict_of f [] g × Holds g r.state store'
    go i = ((take_one verdict_of f).after, dry (sym i.size ∙ z), i.holds)
taken-all (next-take {s = s} {z = z} {store = store} {store' = store'} {store'' = store''} {output = output} {output' = output'} {r = r} {frames = frames} l p n rest) f h =
    go (rw h.same at (take_simulates s store h.fit output r store' output' l p)) (λ g k. taken-all rest g k)
  where
    go : TakeIs s store h.fit (take_one verdict_of f) r store' output' → ((g : Framer) → Holds g r.state store' → (k : Framer) × Drained verdict_of g frames k × Holds k z store'') → (g : Framer) × Drained verdict_of f (take r.length output' ∷ frames) g × Holds g z store''
    go i ih = let d = ih (take_one verdict_of f).after i.holds in (d.0, rw i.frame (more {f = f} (omega (arith, i.size)) d.1), d.2)
taken-all (after-refusal c rest) f h = taken-all rest f (held_still f c h)

-- the framer's run that a sequence of calls is
abbrev pub Ran : Bool → List ℕ → List (List ℕ) → Framer → Type 0
Ran false = Run verdict_of
Ran true = Ended verdict_of

pub record IsRun (over : Bool) (stream : List ℕ) (frames : List (List ℕ)) (s : State) (store : List ℕ) : Type 0 where
  pub framed : Framer
  pub run : Ran over stream frames framed
  pub holds : Holds framed s store

-- all that is ready was taken
resting : (over : Bool) (stream : List ℕ) (frames : List (List ℕ)) (f : Framer) → Ran over stream frames f → AtRest f.ended f.held × (f.dropped < count_wrap)
resting false stream frames f r = let i = run_is verdict_of verdict_laws r in (rw i.open_still i.rests, omega (arith, i.count))
resting true stream frames f r = let i = ended_is verdict_of verdict_laws r in (inl i.all_gone, omega (arith, i.count))

-- so a further take finds nothing
take-nothing : {over : Bool} {stream : List ℕ} {frames : List (List ℕ)} (s : State) (store output : List ℕ) (r : Taken) (store' output' : List ℕ) → IsRun over stream frames s store → frame_most ≤ length output → Takes s store output r store' output' →
    (r.answer ≡ Fine) × Nothing s store output r store' output'
unfolding framer_of
take-nothing {over} {stream} {frames} s store output r store' output' i l p =
    let q = subst (λ (f : Framer). AtRest f.ended f.held × (f.dropped < count_wrap)) (sym i.holds.same) (resting over stream frames i.framed i.run) in
    take-at-rest s store output r store' output' i.holds.fit q.0 q.1 l p

at_reset : (s : State) (store : List ℕ) → length store ≡ store_size → s ≡ fresh_state → Holds fresh_framer s store
unfolding fresh_state state_of framer_of
at_reset s store l e = rw e (record { fit = record { size = l; within = omega arith }; same = refl })

-- the same framer, open still
pub open_state : (f : Framer) (s : State) (store : List ℕ) → Holds f s store → f.ended ≡ false → s.ended ≡ false
unfolding framer_of
open_state f s store h e = ap (λ (x : Framer). x.ended) h.same ∙ e

-- a chunk of a run is accepted
module _ {stream : List ℕ} {frames : List (List ℕ)} {f : Framer} (s : State) (store : List ℕ) (run : Run verdict_of stream frames f) (h : Holds f s store) (c : List ℕ) (l : length c ≤ frame_most) where
  abbrev pub grown : Framer
  grown = framer (f.held ++ c) f.dropped false

  given : give_chunk c (framer_of s store) ≡ accepted grown
  given = rw h.same (chunk-accepted verdict_of verdict_laws run c l)

  grown_fits : length (f.held ++ c) ≤ store_size
  grown_fits = omega (arith, length-append f.held c, held_small verdict_of verdict_laws f.held (run_is verdict_of verdict_laws run).rests)

  pub taken_in : (r : Reply) (store' : List ℕ) → Pushes s store c r store' → (r.answer ≡ Fine) × Holds grown r.state store'
  taken_in r store' p = push_simulates s store h.fit c grown r store' p given grown_fits

pub is_run_lem : {over : Bool} {stream : List ℕ} {frames : List (List ℕ)} {s : State} {store : List ℕ} → Calls over stream frames s store → IsRun over stream frames s store
is_run_lem (after_reset {s = s} {store = store} l e) = record { framed = fresh_framer; run = reset; holds = at_reset s store l e }
is_run_lem (after-chunk {stream = stream} {frames = frames} {more = gs} {s = s} {z = z} {store = store} {store' = store'} {store'' = store''} {r = r} c calls l p all) = go (is_run_lem calls)
  where
    go : IsRun false stream frames s store → IsRun false (stream ++ c) (frames ++ gs) z store''
    go i =
        let t = taken-all all _ (taken_in s store i.run i.holds c l r store' p).1 in
        record { framed = t.0; run = chunk c i.run l (chunk-accepted verdict_of verdict_laws i.run c l) t.1; holds = t.2 }
is_run_lem (after-end {stream = stream} {frames = frames} {more = gs} {s = s} {z = z} {store = store} {store'' = store''} {r = r} calls p all) = go (is_run_lem calls)
  where
    go : IsRun false stream frames s store → IsRun true stream (frames ++ gs) z store''
    go i =
        let o : i.framed.ended ≡ false = (run_is verdict_of verdict_laws i.run).open_still in
        let e = end_simulates s store i.holds.fit r p (open_state i.framed s store i.holds o) in
        let g : Framer = framer i.framed.held i.framed.dropped true in
        let h : Holds g r.state store = rw i.holds.same at e.1 in
        let t = taken-all all g h in
        record { framed = t.0; run = ends i.run (end_open i.framed o) t.1; holds = t.2 }
is_run_lem (take_again {over = over} {stream = stream} {frames = frames} {s = s} {store = store} {store' = store'} {output = output} {output' = output'} {r = r} calls l p) = go (is_run_lem calls)
  where
    go : IsRun over stream frames s store → IsRun over stream frames r.state store'
    go i = let n = (take-nothing s store output r store' output' i l p).1 in record { framed = i.framed; run = i.run; holds = rw (n.state_is, n.store_is) i.holds }
is_run_lem (call_in_vain {over = over} {stream = stream} {frames = frames} {s = s} {z = z} {store = store} {store' = store'} calls c) = go (is_run_lem calls)
  where
    go : IsRun over stream frames s store → IsRun over stream frames z store'
    go i = record { framed = i.framed; run = i.run; holds = held_still i.framed c i.holds }

-- A FURTHER TAKE ANSWERS 0 AND LEAVES STATE, STORE AND OUTPUT
pub nothing_again : {over : Bool} {stream : List ℕ} {frames : List (List ℕ)} {s : State} {store store' output output' : List ℕ} {r : Taken} → Calls over stream frames s store → frame_most ≤ length output → Takes s store output r store' output' →
    (r.answer ≡ Fine) × Nothing s store output r store' output'
nothing_again calls l p = take-nothing _ _ _ _ _ _ (is_run_lem calls) l p

-- 25 NEVER OCCURS: whatever was called before, a chunk of at most 8,192 bytes is taken
pub never_full : {stream : List ℕ} {frames : List (List ℕ)} {s : State} {store store' : List ℕ} {r : Reply} (c : List ℕ) → Calls false stream frames s store → length c ≤ frame_most → Pushes s store c r store' → r.answer ≡ Fine
never_full {s = s} {store = store} {store' = store'} {r = r} c calls l p = let i = is_run_lem calls in (taken_in s store i.run i.holds c l r store' p).0

-- fewer bytes than a frame may have are held
held-few : (over : Bool) (stream : List ℕ) (frames : List (List ℕ)) (f : Framer) → Ran over stream frames f → length f.held < frame_most
held-few false stream frames f r = held_small verdict_of verdict_laws f.held (run_is verdict_of verdict_laws r).rests
held-few true stream frames f r = rw (ended_is verdict_of verdict_laws r).all_gone (lit< tt)

pub used_few : {over : Bool} {stream : List ℕ} {frames : List (List ℕ)} {s : State} {store : List ℕ} → Calls over stream frames s store → s.used < frame_most
used_few {over} {stream} {frames} {s} {store} calls =
    let i : IsRun over stream frames s store = is_run_lem calls in omega (arith, holds_used i.framed s store i.holds, held-few over stream frames i.framed i.run)

-- nor does 25 occur after the end, or with other bytes lent as the store
pub never_full_elsewhere : {over : Bool} {stream : List ℕ} {frames : List (List ℕ)} {s : State} {store place place' : List ℕ} {r : Reply} (c : List ℕ) → Calls over stream frames s store → length c ≤ frame_most → Pushes s place c r place' → r.answer ≡ StoreFull → ⊥
never_full_elsewhere {s = s} {place = place} {r = r} c calls l p full = by_store (unfit s (length place)) refl
  where
    other : (a : Answer) (q : Reply) → q.answer ≡ a → r ≡ q → (a ≡ StoreFull → ⊥) → ⊥
    other a q e same apart = apart (sym e ∙ sym (ap (λ (x : Reply). x.answer) same) ∙ full)

    by_end : unfit s (length place) ≡ false → (e : Bool) → s.ended ≡ e → ⊥
    by_end u true e = other AfterEnd _ refl (p.reply_is ∙ (push_ended s place c u e).reply) (λ z. let y : ◌≡◌ {A = ℕ} 0 1 = cc in omega arith)
    by_end u false e = other Fine _ refl (p.reply_is ∙ (push_fine s place c u e (omega (arith, used_few calls))).reply) (λ z. let y : ◌≡◌ {A = ℕ} 0 1 = cc in omega arith)

    by_store : (u : Bool) → unfit s (length place) ≡ u → ⊥
    by_store true u = other BadStore _ refl (p.reply_is ∙ (push_unfit s place c u).reply) (λ z. let y : ◌≡◌ {A = ℕ} 0 1 = cc in omega arith)
    by_store false u = by_end u s.ended refl

-- ---- what a sequence of calls comes to

-- a run is the hunt over the stream, with what was dropped counted and what is left held
record Comes (over : Bool) (stream : List ℕ) (frames : List (List ℕ)) (f : Framer) : Type 0 where
  passed : ℕ
  count : f.dropped ≡ passed % count_wrap
  hunted : Hunt verdict_of over stream frames passed f.held
  flag : f.ended ≡ over

comes : (over : Bool) (stream : List ℕ) (frames : List (List ℕ)) (f : Framer) → Ran over stream frames f → Comes over stream frames f
comes false stream frames f r = let i = run_is verdict_of verdict_laws r in record { passed = i.passed; count = i.count; hunted = i.hunted; flag = i.open_still }
comes true stream frames f r = let i = ended_is verdict_of verdict_laws r in
    record { passed = i.passed; count = i.count; hunted = subst (λ (x : List ℕ). Hunt verdict_of true stream frames i.passed x) (sym i.all_gone) i.hunted; flag = i.at_end }

-- the same by the bytes of state and store
pub record CallsOutcome (over : Bool) (stream : List ℕ) (frames : List (List ℕ)) (s : State) (store : List ℕ) : Type 0 where
  pub passed : ℕ
  pub count : s.dropped ≡ passed % count_wrap
  pub hunted : Hunt verdict_of over stream frames passed (take s.used store)
  pub flag : s.ended ≡ over
  pub used_is : length (take s.used store) ≡ s.used

held_by : (over : Bool) (stream : List ℕ) (frames : List (List ℕ)) (s : State) (store : List ℕ) → Fit s store → Comes over stream frames (framer_of s store) → CallsOutcome over stream frames s store
unfolding framer_of
held_by over stream frames s store f c = record { passed = c.passed; count = c.count; hunted = c.hunted; flag = c.flag; used_is = held-length s store f }

pub outcome : {over : Bool} {stream : List ℕ} {frames : List (List ℕ)} {s : State} {store : List ℕ} → Calls over stream frames s store → CallsOutcome over stream frames s store
outcome {over} {stream} {frames} {s} {store} calls =
    let i : IsRun over stream frames s store = is_run_lem calls in
    held_by over stream frames s store i.holds.fit (subst (λ (f : Framer). Comes over stream frames f) (sym i.holds.same) (comes over stream frames i.framed i.run))

-- BYTES ARE CONSERVED: given = handed out + dropped + held
pub bytes_conserved : {over : Bool} {stream : List ℕ} {frames : List (List ℕ)} {s : State} {store : List ℕ} → Calls over stream frames s store → (d : ℕ) × (s.dropped ≡ d % count_wrap) × (length stream ≡ length (joined frames) + d + s.used)
bytes_conserved calls = let o = outcome calls in (o.passed, o.count, omega (arith, conserved verdict_of verdict_laws o.hunted, o.used_is))

-- THE FRAMES DEPEND ONLY ON THE STREAM AND ITS END, and so do the state and the bytes held
pub stream_alone : {over : Bool} {stream : List ℕ} {frames others : List (List ℕ)} {s z : State} {store place : List ℕ} → Calls over stream frames s store → Calls over stream others z place → (frames ≡ others) × (s ≡ z) × (take s.used store ≡ take z.used place)
stream_alone {over} {stream} {frames} {others} {s} {z} {store} {place} c k =
    let o = outcome c in
    let q = outcome k in
    let u : Same verdict_of verdict_laws frames others o.passed q.passed (take s.used store) (take z.used place) = unique verdict_of verdict_laws o.hunted q.hunted in
    let eu : s.used ≡ z.used = sym o.used_is ∙ ap length u.rest ∙ q.used_is in
    let ed : s.dropped ≡ z.dropped = o.count ∙ ap (λ (x : ℕ). x % count_wrap) u.counts ∙ sym q.count in
    let ef : s.ended ≡ z.ended = o.flag ∙ sym q.flag in
    (u.frames, λ i. record { used = eu i; dropped = ed i; ended = ef i }, u.rest)
