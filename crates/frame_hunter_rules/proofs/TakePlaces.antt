-- What a take over bytes drops: contiguous places, right before its frame or its stop, in the words of the rules.
use Rattle.std.specs.Prelude.{◌≡◌, refl, ◌⊎◌, Bool, true, false, List, [], ℕ, ◌+◌, ◌%◌, ◌≤◌, ◌<◌, length, take, drop}
use Rattle.std.proofs.Common.{ap, ◌∙◌, inl, inr, ⊎_elim, arith}
use Rattle.frame_verdict_rules.specs.Frame.{frame_most, Starts, StartsFrame, CanStart}
use Rattle.frame_verdict_rules.specs.Verdict.{verdict_of}
use Rattle.frame_verdict_rules.proofs.VerdictLaws.{verdict_laws, frame_iff, never_iff, wait_iff}
use Rattle.frame_hunter_rules.specs.Hunt.{act_on, count_wrap, hunt_from}
use Rattle.frame_hunter_rules.proofs.TakeLaws.{act_hand, act_stop, Places, places}
use Rattle.frame_hunter_rules.specs.Bytes.{Takes, took_from}
use Rattle.frame_hunter_rules.proofs.BytesLaws.{Fit, fit_is, take_fine, Moved}
use Rattle.frame_hunter_rules.specs.declared.State.{State}
use Rattle.frame_hunter_rules.specs.declared.Taken.{Taken}
use Rattle.frame_verdict_rules.specs.declared.Verdict.{Verdict}
use Rattle.frame_verdict_rules.specs.declared.Verdict.TheVariants.{Frame, Never, Wait}
use Rattle.frame_hunter_rules.specs.declared.Act.TheVariants.{Pass}
use Rattle.frame_hunter_rules.specs.declared.Hunted.{Hunted}

-- "a byte where no continuation makes one is dropped .. After the end, waiting places are dropped one by one": before the end nothing can
-- start at a dropped place, and after it nothing does
abbrev pub Dropped : Bool → List ℕ → Type 0
Dropped false s = CanStart s → ⊥
Dropped true s = StartsFrame s → ⊥

-- A take of the bytes `held`. Its places are counted from the first byte held.
pub record TakeAt (ended : Bool) (held : List ℕ) (before after n : ℕ) : Type 0 where
  pub passed : ℕ
  -- "The dropped count is the number of places so passed, mod 2^64"
  pub count : after ≡ (before + passed) % count_wrap
  -- the places dropped are the first ones, and no other
  pub drops : (i : ℕ) → i < passed → Dropped ended (drop i held)
  -- "a frame that starts there is handed out, the take ends"
  pub hands : 0 < n → Starts (drop passed held) n
  -- "any other place waits and ends the take", or no byte is left
  pub stops : n ≡ 0 → (drop passed held ≡ []) ⊎ ((ended ≡ false) × CanStart (drop passed held) × (StartsFrame (drop passed held) → ⊥))

pass_verdict : (e : Bool) (v : Verdict) → act_on e v ≡ Pass → (v ≡ Never) ⊎ ((v ≡ Wait) × (e ≡ true))
unfolding act_on
pass_verdict e (Frame n) p = inl (cc)
pass_verdict e Never p = inl refl
pass_verdict true Wait p = inr (refl, refl)
pass_verdict false Wait p = inl (cc)

passed-dropped : (e : Bool) (s : List ℕ) → act_on e (verdict_of s) ≡ Pass → Dropped e s
passed-dropped false s p = ⊎_elim (λ q. (never_iff s).0 q) (λ q. let z : ◌≡◌ {A = ℕ} 0 1 = cc q.1 in absurd (omega arith)) (pass_verdict false (verdict_of s) p)
passed-dropped true s p = λ f. ⊎_elim (λ q. let z : ◌≡◌ {A = ℕ} 0 1 = cc (q, (frame_iff s f.0).1 f.1) in omega arith) (λ q. ((wait_iff s).0 q.0).1 f) (pass_verdict true (verdict_of s) p)

take_places : (e : Bool) (held : List ℕ) (before after : ℕ) (h : Hunted) → Places verdict_of e held h → after ≡ (before + h.passed) % count_wrap → TakeAt e held before after h.length
take_places e held before after h p c = record {
  passed = h.passed;
  count = c;
  drops = λ i l. passed-dropped e (drop i held) (p.passes i l);
  hands = λ l. (frame_iff (drop h.passed held) h.length).0 (act_hand e _ _ (p.hands l));
  stops = λ z. ⊎_elim (λ q. inl q) (λ q. let w = act_stop e _ q in let v = (wait_iff (drop h.passed held)).0 w.0 in inr (w.1, v.0, v.1)) (p.rests z);
}

-- THE PLACES THAT A TAKE DROPS ARE CONTIGUOUS AND STAND RIGHT BEFORE ITS FRAME OR ITS STOP, and the count grows by their number
pub take_drops : (s : State) (store output : List ℕ) (r : Taken) (store' output' : List ℕ) → Fit s store → frame_most ≤ length output → Takes s store output r store' output' → TakeAt s.ended (take s.used store) s.dropped r.state.dropped r.length
take_drops s store output r store' output' f l t =
    let h : Hunted = hunt_from verdict_of s.ended (take s.used store) in
    let m : Moved s store output h (took_from s store output) = take_fine s store output h (fit_is s store f) l refl in
    let e = t.taken_is ∙ m.taken_is in
    let n : r.length ≡ h.length = ap (λ (x : Taken). x.length) e in
    rw n (take_places s.ended (take s.used store) s.dropped r.state.dropped h (places verdict_of verdict_laws s.ended (take s.used store)) (ap (λ (x : Taken). x.state.dropped) e))
