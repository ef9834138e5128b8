-- Runs of calls: however the stream was cut, a run is the hunt over the stream; and that hunt has one outcome.
use Rattle.std.specs.Prelude.{◌≡◌, refl, ◌⊎◌, Bool, true, false, List, [], ◌∷◌, ◌++◌, ℕ, suc, ◌+◌, ◌%◌, ◌≤◌, ◌<◌, ltb, length, take, drop}
use Rattle.std.proofs.Common.{ap, ◌∙◌, subst, inl, inr, append-nil, zero-add, suc-add, arith, lit<, length-append, length-drop, length-take-le, le-ltb}
use Rattle.std.proofs.lemmas.List.{take-append-le, drop-append-le}
use Rattle.field_rules.specs.Choice.{pick}
use Rattle.frame_verdict_rules.specs.Frame.{frame_most}
use Rattle.frame_hunter_rules.specs.Hunt.{act_on, Framer, framer, count_wrap, store_size, Took, take_one, accepted, refused, give_chunk, give_end, Drained, dry, more, Run, reset, chunk, Ended, ends, Hunt, h_empty, h_stop, h_hand, h_pass, joined}
use Rattle.frame_verdict_rules.proofs.VerdictLaws.{Laws}
use Rattle.frame_hunter_rules.proofs.TakeLaws.{act_hand, act_pass, act_stop, frame_act, never_act, Step, step}
use Rattle.frame_verdict_rules.specs.declared.Verdict.{Verdict}
use Rattle.frame_verdict_rules.specs.declared.Verdict.TheVariants.{Frame}
use Rattle.frame_hunter_rules.specs.declared.Act.{Act}
use Rattle.frame_hunter_rules.specs.declared.Act.TheVariants.{Hand, Pass, Stop}
use Rattle.frame_hunter_rules.specs.declared.Answer.TheVariants.{StoreFull, AfterEnd}

-- ---- what an accepted call leaves

pub chunk-leaves : (c : List ℕ) (f g : Framer) → give_chunk c f ≡ accepted g → g ≡ framer (f.held ++ c) f.dropped false
unfolding give_chunk
chunk-leaves c f g = go f.ended (ltb store_size (length f.held + length c))
  where
    go : (a b : Bool) → pick a (refused AfterEnd) (pick b (refused StoreFull) (accepted (framer (f.held ++ c) f.dropped false))) ≡ accepted g → g ≡ framer (f.held ++ c) f.dropped false
    go true b h = cc
    go false true h = cc
    go false false h = cc

pub end_leaves : (f g : Framer) → give_end f ≡ accepted g → g ≡ framer f.held f.dropped true
unfolding give_end
end_leaves f g = go f.ended
  where
    go : (a : Bool) → pick a (refused AfterEnd) (accepted (framer f.held f.dropped true)) ≡ accepted g → g ≡ framer f.held f.dropped true
    go true h = cc
    go false h = cc

pub chunk_fits : (c : List ℕ) (f : Framer) → f.ended ≡ false → length f.held + length c ≤ store_size → give_chunk c f ≡ accepted (framer (f.held ++ c) f.dropped false)
unfolding give_chunk
chunk_fits c f e h = rw (e, le-ltb store_size (length f.held + length c) h)

pub end_open : (f : Framer) → f.ended ≡ false → give_end f ≡ accepted (framer f.held f.dropped true)
unfolding give_end
end_open f e = rw e

pub counted-on : (x y k m : ℕ) → x ≡ k % count_wrap → y ≡ (x + m) % count_wrap → y ≡ (k + m) % count_wrap
counted-on x y k m p q = omega arith

module _ (judge : List ℕ → Verdict) (L : Laws judge) where
  -- ---- the seam: a hunt that stopped goes on where it stopped

  -- what was passed or handed out stays so when bytes follow, as a never and a frame do
  resume : {s r q : List ℕ} {fs gs : List (List ℕ)} {d k : ℕ} (e : Bool) (c : List ℕ) → Hunt judge false s fs d r → Hunt judge e (r ++ c) gs k q → Hunt judge e (s ++ c) (fs ++ gs) (d + k) q
  resume e c h_empty g = rw zero-add g
  resume e c (h_stop p) g = rw zero-add g
  resume {q = q} {gs = gs} {k = k} e c (h_hand {s = s} {n = n} {d = d} {fs = fs} p h) g =
      let v : judge s ≡ Frame n = act_hand false _ n p in
      let fit : n ≤ length s = L.frame_fits s n v in
      let go_on : Hunt judge e (drop n (s ++ c)) (fs ++ gs) (d + k) q = rw drop-append-le (resume e c h g) in
      rw (← take-append-le n s c) (h_hand (frame_act e _ n (L.frame_stays s c n v)) go_on)
  resume {k = k} e c (h_pass {x = x} {xs = xs} {d = d} p h) g = rw suc-add (h_pass (never_act e _ (L.never_stays (x ∷ xs) c (act_pass _ p))) (resume e c h g))

  -- ---- takes until one hands out nothing

  pub record Dried (f g : Framer) (fs : List (List ℕ)) : Type 0 where
    pub passed : ℕ
    pub count : g.dropped ≡ (f.dropped + passed) % count_wrap
    pub flag : g.ended ≡ f.ended
    pub rests : (g.held ≡ []) ⊎ (act_on f.ended (judge g.held) ≡ Stop)
    pub hunted : Hunt judge f.ended f.held fs passed g.held

  one-dry : (f : Framer) (t : Took) → Step judge L f t → length t.frame ≡ 0 → Dried f t.after []
  one-dry f t i z = record { passed = i.passed; count = i.count; flag = i.flag; rests = i.rests z; hunted = i.dry z }

  one_more : (f g : Framer) (t : Took) (fs : List (List ℕ)) → Step judge L f t → 0 < length t.frame → Dried t.after g fs → Dried f g (t.frame ∷ fs)
  one_more f g t fs i z d = record {
    passed = i.passed + d.passed;
    count = omega (arith, i.count, d.count);
    flag = d.flag ∙ i.flag;
    rests = rw i.flag at d.rests;
    hunted = i.on z fs d.passed g.held (subst (λ (b : Bool). Hunt judge b t.after.held fs d.passed g.held) i.flag d.hunted);
  }

  drained : {f g : Framer} {fs : List (List ℕ)} → Drained judge f fs g → Dried f g fs
  drained (dry {f = f} z) = one-dry f (take_one judge f) (step judge L f) z
  drained (more {f = f} {g = g} {fs = fs} z d) = one_more f g (take_one judge f) fs (step judge L f) z (drained d)

  -- ---- a run is the hunt over the stream

  pub record RunIs (s : List ℕ) (fs : List (List ℕ)) (f : Framer) : Type 0 where
    pub passed : ℕ
    pub count : f.dropped ≡ passed % count_wrap
    pub hunted : Hunt judge false s fs passed f.held
    pub open_still : f.ended ≡ false
    pub rests : (f.held ≡ []) ⊎ (act_on false (judge f.held) ≡ Stop)

  pub run_is : {s : List ℕ} {fs : List (List ℕ)} {f : Framer} → Run judge s fs f → RunIs s fs f
  run_is reset = record { passed = 0; count = refl; hunted = h_empty; open_still = refl; rests = inl refl }
  run_is (chunk {s = s} {fs = fs} {gs = gs} {f = f} {g = g} {h = h} c run len ok dr) = go (run_is run) (drained (rw (chunk-leaves c f g ok) at dr))
    where
      go : RunIs s fs f → Dried (framer (f.held ++ c) f.dropped false) h gs → RunIs (s ++ c) (fs ++ gs) h
      go i d = record { passed = i.passed + d.passed; count = counted-on _ _ _ _ i.count d.count; hunted = resume false c i.hunted d.hunted; open_still = d.flag; rests = d.rests }

  -- after the end nothing is left
  pub record EndedIs (s : List ℕ) (fs : List (List ℕ)) (f : Framer) : Type 0 where
    pub passed : ℕ
    pub count : f.dropped ≡ passed % count_wrap
    pub hunted : Hunt judge true s fs passed []
    pub all_gone : f.held ≡ []
    pub at_end : f.ended ≡ true

  pub none_left : (r : List ℕ) → (r ≡ []) ⊎ (act_on true (judge r) ≡ Stop) → r ≡ []
  none_left r (inl p) = p
  none_left r (inr p) = let z : true ≡ false = (act_stop true (judge r) p).1 in cc

  pub ended_is : {s : List ℕ} {fs : List (List ℕ)} {f : Framer} → Ended judge s fs f → EndedIs s fs f
  ended_is (ends {s = s} {fs = fs} {gs = gs} {f = f} {g = g} {h = h} run ok dr) = go (run_is run) (drained (rw (end_leaves f g ok) at dr))
    where
      go : RunIs s fs f → Dried (framer f.held f.dropped true) h gs → EndedIs s (fs ++ gs) h
      go i d =
          let none : h.held ≡ [] = none_left _ d.rests in
          let here : Hunt judge true (f.held ++ []) gs d.passed h.held = rw append-nil d.hunted in
          let there : Hunt judge true (s ++ []) (fs ++ gs) (i.passed + d.passed) h.held = resume true [] i.hunted here in
          record { passed = i.passed + d.passed; count = counted-on _ _ _ _ i.count d.count; hunted = rw (← none) (rw append-nil at there); all_gone = none; at_end = d.flag }

  -- ---- the hunt has one outcome

  pub two_acts : {X : Type 0} (a : Act) (n : ℕ) → a ≡ Hand n → a ≡ Pass → X
  two_acts a n p q = let z : ◌≡◌ {A = ℕ} 0 1 = cc in absurd (omega arith)

  stop_pass : {X : Type 0} (a : Act) → a ≡ Stop → a ≡ Pass → X
  stop_pass a p q = let z : ◌≡◌ {A = ℕ} 0 1 = cc in absurd (omega arith)

  stop_hand : {X : Type 0} (a : Act) (n : ℕ) → a ≡ Stop → a ≡ Hand n → X
  stop_hand a n p q = let z : ◌≡◌ {A = ℕ} 0 1 = cc in absurd (omega arith)

  empty_hand : {X : Type 0} (e : Bool) (n : ℕ) → act_on e (judge []) ≡ Hand n → X
  empty_hand e n p = absurd (omega (arith, L.frame_fits [] n (act_hand e _ n p), L.frame_some [] n (act_hand e _ n p)))

  pub record Same (fs gs : List (List ℕ)) (d k : ℕ) (r q : List ℕ) : Type 0 where
    pub frames : fs ≡ gs
    pub counts : d ≡ k
    pub rest : r ≡ q

  same_hand : (s : List ℕ) (n m : ℕ) (a : Act) {fs gs : List (List ℕ)} {d k : ℕ} {r q : List ℕ} → a ≡ Hand n → a ≡ Hand m → Same fs gs d k r q → Same (take n s ∷ fs) (take m s ∷ gs) d k r q
  same_hand s n m a p q i = let e : n ≡ m = cc in record { frames = cc i.frames; counts = i.counts; rest = i.rest }

  same_pass : {fs gs : List (List ℕ)} {d k : ℕ} {r q : List ℕ} → Same fs gs d k r q → Same fs gs (suc d) (suc k) r q
  same_pass i = record { frames = i.frames; counts = ap suc i.counts; rest = i.rest }

  same_place : (s : List ℕ) (n m : ℕ) (a : Act) {e : Bool} {fs : List (List ℕ)} {d : ℕ} {r : List ℕ} → a ≡ Hand n → a ≡ Hand m → Hunt judge e (drop m s) fs d r → Hunt judge e (drop n s) fs d r
  same_place s n m a p q h = let z : n ≡ m = cc in rw z h

  pub unique : {e : Bool} {s r q : List ℕ} {fs gs : List (List ℕ)} {d k : ℕ} → Hunt judge e s fs d r → Hunt judge e s gs k q → Same fs gs d k r q
  unique h_empty h_empty = record { frames = refl; counts = refl; rest = refl }
  unique h_empty (h_stop p) = record { frames = refl; counts = refl; rest = refl }
  unique h_empty (h_hand p h) = empty_hand _ _ p
  unique (h_stop p) h_empty = record { frames = refl; counts = refl; rest = refl }
  unique (h_stop p) (h_stop q) = record { frames = refl; counts = refl; rest = refl }
  unique (h_stop p) (h_hand q h) = stop_hand _ _ p q
  unique (h_stop p) (h_pass q h) = stop_pass _ p q
  unique (h_hand p h) h_empty = empty_hand _ _ p
  unique (h_hand p h) (h_stop q) = stop_hand _ _ q p
  unique (h_hand p h) (h_hand q k) = same_hand _ _ _ _ p q (unique h (same_place _ _ _ _ p q k))
  unique (h_hand p h) (h_pass q k) = two_acts _ _ p q
  unique (h_pass p h) (h_stop q) = stop_pass _ q p
  unique (h_pass p h) (h_hand q k) = two_acts _ _ q p
  unique (h_pass p h) (h_pass q k) = same_pass (unique h k)

  -- every byte is accounted for: handed out, dropped or left
  pub conserved : {e : Bool} {s r : List ℕ} {fs : List (List ℕ)} {d : ℕ} → Hunt judge e s fs d r → length s ≡ length (joined fs) + d + length r
  conserved h_empty = omega arith
  conserved (h_stop p) = omega arith
  conserved (h_hand {s = s} {n = n} {fs = fs} p h) =
      omega (arith, conserved h, length-append (take n s) (joined fs), length-drop n s, length-take-le n s (L.frame_fits s n (act_hand _ _ n p)), L.frame_fits s n (act_hand _ _ n p))
  conserved (h_pass p h) = omega (arith, conserved h)

  -- where a hunt rests fewer than 8,192 bytes are left
  pub held_small : (r : List ℕ) → (r ≡ []) ⊎ (act_on false (judge r) ≡ Stop) → length r < frame_most
  held_small r (inl p) = rw p (lit< tt)
  held_small r (inr p) = L.full r (act_stop false (judge r) p).0

  -- 25 NEVER OCCURS: under the calling rule a chunk of at most 8,192 bytes is accepted
  pub chunk-accepted : {s : List ℕ} {fs : List (List ℕ)} {f : Framer} → Run judge s fs f → (c : List ℕ) → length c ≤ frame_most → give_chunk c f ≡ accepted (framer (f.held ++ c) f.dropped false)
  chunk-accepted {f = f} r c l = let i : RunIs _ _ f = run_is r in chunk_fits c f i.open_still (omega (arith, held_small _ i.rests))
