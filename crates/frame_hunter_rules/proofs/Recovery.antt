-- Recovery: where the stream is damaged bytes and then whole frames, the hunt hands out frames that lie in the damage, and then those
-- frames in order.
use Rattle.std.specs.Prelude.{◌≡◌, refl, ◌⊎◌, Bool, true, false, List, [], ◌∷◌, ◌++◌, ℕ, suc, ◌+◌, ◌≤◌, ◌<◌, take, drop}
use Rattle.std.proofs.Common.{sym, ap, ◌∙◌, subst, inl, inr, ⊎_elim, append-nil, lt_of_not-le, arith, length-append, take-append-drop}
use Rattle.std.proofs.Math.Decide.{dec_le}
use Rattle.std.proofs.Math.ListN.{length, length-drop}
use Rattle.std.proofs.Math.Seq.{drop-drop, take-append_seam, drop-append_seam, take-append-le, drop-append-le, length-take-le}
use Rattle.frame_verdict_rules.specs.Frame.{frame_most}
use Rattle.frame_hunter_rules.specs.Hunt.{act_on, Hunt, h_empty, h_stop, h_hand, h_pass, IsWhole, NoStraddle, Contains, w-none, w_skip, w_cut, Each, each_none, each_more, joined}
use Rattle.frame_verdict_rules.proofs.VerdictLaws.{Laws}
use Rattle.frame_hunter_rules.proofs.TakeLaws.{act_hand, act_pass, frame_act}
use Rattle.frame_hunter_rules.proofs.RunLaws.{two_acts, held_small, none_left}
use Rattle.frame_verdict_rules.specs.declared.Verdict.{Verdict}
use Rattle.frame_verdict_rules.specs.declared.Verdict.TheVariants.{Frame, Never}
use Rattle.frame_hunter_rules.specs.declared.Act.TheVariants.{Pass, Stop}

split {ℓ} : {X : Type ℓ} (a b : ℕ) → (a ≤ b → X) → (b < a → X) → X
split a b f g = elim (dec_le a b) [ yes h ↦ f h | no h ↦ g (lt_of_not-le h) ]

-- the whole stream is there once the end is told
abbrev pub Whole : Bool → List ℕ → Type 0
Whole true rest = rest ≡ []
Whole false rest = Unit {0}

-- What demand 3 says of `fs`, all that was handed out, when the bytes s have arrived of the damage D and the frames `Fs` behind it.
-- P says what a frame is, and `over` whether the stream is ended.
pub record Handed (P : List ℕ → Type 0) (over : Bool) (s D : List ℕ) (Fs fs : List (List ℕ)) : Type 0 where
  pub inside : List (List ℕ)
  pub out : List (List ℕ)
  pub left : List (List ℕ)
  -- first frames that lie wholly in the damage, in order and apart, and then later frames: the first of them, in order
  pub whole : fs ≡ inside ++ out
  pub within : Contains P D inside
  pub parts : Fs ≡ out ++ left
  -- the later frame F, which stands behind the frames `As`, is among them "once 8,192 bytes from its start have arrived or the stream
  -- is ended"
  pub due : (As : List (List ℕ)) (F : List ℕ) (Bs : List (List ℕ)) → Fs ≡ As ++ F ∷ Bs → (over ≡ true) ⊎ (length D + length (joined As) + frame_most ≤ length s) → length As < length out

module _ (judge : List ℕ → Verdict) (L : Laws judge) where
  -- what is left of the damage keeps the property
  straddle_skip : (x : ℕ) (D T : List ℕ) → NoStraddle judge (x ∷ D) T → NoStraddle judge D T
  unfolding NoStraddle
  straddle_skip x D T h i n l p = omega (arith, h (suc i) n (omega arith) p)

  straddle_drop : (m : ℕ) (D T : List ℕ) → m ≤ length D → NoStraddle judge D T → NoStraddle judge (drop m D) T
  unfolding NoStraddle
  straddle_drop m D T k h i n l p =
      let q : judge (drop (m + i) D ++ T) ≡ Frame n = rw (← drop-drop i m D) p in
      omega (arith, h (m + i) n (omega (arith, length-drop m D)) q, length-drop m D)

  -- `P` is what has arrived of the damage `D` and the frames `Fs` behind it, and `fs` is what was handed out: frames that lie in the
  -- damage, and then the first of `Fs`, up to `left`; and either all of them, or the bytes do not reach 8,192 past the first that is left.
  record Later (e : Bool) (P D : List ℕ) (Fs fs : List (List ℕ)) : Type 0 where
    inside : List (List ℕ)
    out : List (List ℕ)
    left : List (List ℕ)
    whole : fs ≡ inside ++ out
    parts : Fs ≡ out ++ left
    within : Contains (IsWhole judge) D inside
    due : (left ≡ []) ⊎ ((e ≡ false) × (length P < length D + length (joined out) + frame_most))

  record Front (e : Bool) (P : List ℕ) (Fs fs : List (List ℕ)) : Type 0 where
    left : List (List ℕ)
    parts : Fs ≡ fs ++ left
    due : (left ≡ []) ⊎ ((e ≡ false) × (length P < length (joined fs) + frame_most))

  -- a place that is passed starts no frame, whatever follows
  pass_no_frame : (e : Bool) (P rest : List ℕ) (n : ℕ) → Whole e rest → act_on e (judge P) ≡ Pass → judge (P ++ rest) ≡ Frame n → ⊥
  pass_no_frame true P rest n w p q =
      let q' : judge P ≡ Frame n = rw (w, append-nil) at q in
      two_acts judge L (act_on true (judge P)) n (frame_act true _ n q') p
  pass_no_frame false P rest n w p q =
      let z : judge (P ++ rest) ≡ Never = L.never_stays P rest (act_pass _ p) in
      let y : ◌≡◌ {A = ℕ} 0 1 = cc in omega arith

  -- bytes that are a front of `F` and what follows, and at which a frame starts, start with `F`
  record Agree (P rest F T : List ℕ) (n : ℕ) : Type 0 where
    len : n ≡ length F
    cut : take n P ≡ F
    after : drop n P ++ rest ≡ T
    in_p : n ≤ length P

  agree : (P rest F T : List ℕ) (n : ℕ) → judge P ≡ Frame n → IsWhole judge F → P ++ rest ≡ F ++ T → Agree P rest F T n
  agree P rest F T n v f q =
      let fit : n ≤ length P = L.frame_fits P n v in
      let a : judge (P ++ rest) ≡ Frame n = L.frame_stays P rest n v in
      let b : judge (F ++ T) ≡ Frame (length F) = L.frame_stays F T (length F) f in
      let l : n ≡ length F = cc in
      record {
        len = l;
        in_p = fit;
        cut = cc (take-append-le n P rest fit, take-append_seam F T);
        after = cc (drop-append-le n P rest fit, drop-append_seam F T);
      }

  -- no byte is left for a frame
  no_room : (P rest F T : List ℕ) → length P ≡ 0 → length rest ≡ 0 → IsWhole judge F → P ++ rest ≡ F ++ T → ⊥
  no_room P rest F T p r f q = omega (arith, simp length-append at (ap length q), L.frame_some F (length F) f)

  nil_length : {A : Type 0} (l : List A) → l ≡ [] → length l ≡ 0
  nil_length l p = rw p

  front-none : (e : Bool) (P rest : List ℕ) (Fs : List (List ℕ)) → (P ≡ []) ⊎ (act_on e (judge P) ≡ Stop) → Whole e rest → Each (IsWhole judge) Fs → P ++ rest ≡ joined Fs → Front e P Fs []
  front-none false P rest Fs x w a q = record { left = Fs; parts = refl; due = inr (refl, omega (arith, held_small judge L P x)) }
  front-none true P rest _ x w each_none q = record { left = []; parts = refl; due = inl refl }
  front-none true P rest _ x w (each_more {f = F} {fs = Fs} v a) q = absurd (no_room P rest F (joined Fs) (nil_length P (none_left judge L P x)) (nil_length rest w) v q)

  front_cons : (e : Bool) (P rest F : List ℕ) (n : ℕ) (Fs fs : List (List ℕ)) → Agree P rest F (joined Fs) n → Front e (drop n P) Fs fs → Front e P (F ∷ Fs) (take n P ∷ fs)
  front_cons e P rest F n Fs fs g i = record { left = i.left; parts = cc (g.cut, i.parts); due = ⊎_elim (λ x. inl x) (λ x. inr (x.0, omega (arith, g.in_p, length-drop n P, length-append (take n P) (joined fs), length-take-le n P g.in_p, x.1))) i.due }

  -- Frames with no damage in front: where one starts, the hunt neither passes nor waits for longer than 8,192 bytes, and hands it out.
  front : {e : Bool} {P r : List ℕ} {fs : List (List ℕ)} {d : ℕ} (rest : List ℕ) (Fs : List (List ℕ)) → Hunt judge e P fs d r → Whole e rest → Each (IsWhole judge) Fs → P ++ rest ≡ joined Fs → Front e P Fs fs
  front rest Fs h_empty w a q = front-none _ [] rest Fs (inl refl) w a q
  front rest Fs (h_stop p) w a q = front-none _ _ rest Fs (inr p) w a q
  front rest _ (h_hand {s = P} {n = n} p h) w each_none q = absurd (omega (arith, simp length-append at (ap length q), L.frame_some P n (act_hand _ _ n p), L.frame_fits P n (act_hand _ _ n p)))
  front rest _ (h_hand {s = P} {n = n} {fs = fs} p h) w (each_more {f = F} {fs = Fs} v a) q =
      front_cons _ P rest F n Fs fs (agree P rest F (joined Fs) n (act_hand _ _ n p) v q) (front rest Fs h w a (agree P rest F (joined Fs) n (act_hand _ _ n p) v q).after)
  front rest _ (h_pass p h) w each_none q = absurd (omega (arith, ap length q))
  front rest _ (h_pass {x = x} {xs = xs} p h) w (each_more {f = F} {fs = Fs} v a) q = absurd (pass_no_frame _ (x ∷ xs) rest (length F) w p (ap judge q ∙ L.frame_stays F (joined Fs) (length F) v))

  from_front : (e : Bool) (P : List ℕ) (Fs fs : List (List ℕ)) → Front e P Fs fs → Later e P [] Fs fs
  from_front e P Fs fs i = record { inside = []; out = fs; left = i.left; whole = refl; parts = i.parts; within = w-none; due = ⊎_elim (λ x. inl x) (λ x. inr (x.0, omega (arith, x.1))) i.due }

  later-none : (e : Bool) (P rest D : List ℕ) (Fs : List (List ℕ)) → (P ≡ []) ⊎ (act_on e (judge P) ≡ Stop) → Whole e rest → Each (IsWhole judge) Fs → P ++ rest ≡ D ++ joined Fs → Later e P D Fs []
  later-none false P rest D Fs x w a q = record { inside = []; out = []; left = Fs; whole = refl; parts = refl; within = w-none; due = inr (refl, omega (arith, held_small judge L P x)) }
  later-none true P rest D _ x w each_none q = record { inside = []; out = []; left = []; whole = refl; parts = refl; within = w-none; due = inl refl }
  later-none true P rest D _ x w (each_more {f = F} {fs = Fs} v a) q =
      absurd (omega (arith, simp length-append at (ap length q), nil_length P (none_left judge L P x), nil_length rest w, L.frame_some F (length F) v))

  -- a frame handed out in the damage ends there
  record Cut (P rest D T : List ℕ) (n : ℕ) : Type 0 where
    in_p : n ≤ length P
    in_d : n ≤ length D
    same : take n P ≡ take n D
    after : drop n P ++ rest ≡ drop n D ++ T
    isframe : IsWhole judge (take n P)

  cut_damage : (P rest D T : List ℕ) (n : ℕ) → judge P ≡ Frame n → 0 < length D → NoStraddle judge D T → P ++ rest ≡ D ++ T → Cut P rest D T n
  unfolding NoStraddle
  cut_damage P rest D T n v pos ns q =
      let fit : n ≤ length P = L.frame_fits P n v in
      let a : judge (P ++ rest) ≡ Frame n = L.frame_stays P rest n v in
      let b : judge (D ++ T) ≡ Frame n = cc in
      let m : n ≤ length D = omega (arith, ns 0 n pos b) in
      record {
        in_p = fit;
        in_d = m;
        same = cc (take-append-le n P rest fit, take-append-le n D T m);
        after = cc (drop-append-le n P rest fit, drop-append-le n D T m);
        isframe = cc (L.frame_alone P n v, length-take-le n P fit);
      }

  later_cut : (e : Bool) (P rest D : List ℕ) (n : ℕ) (Fs fs : List (List ℕ)) → Cut P rest D (joined Fs) n → Later e (drop n P) (drop n D) Fs fs → Later e P D Fs (take n P ∷ fs)
  later_cut e P rest D n Fs fs g i = record {
    inside = take n P ∷ i.inside;
    out = i.out;
    left = i.left;
    whole = ap (λ (l : List (List ℕ)). take n P ∷ l) i.whole;
    parts = i.parts;
    within = subst (λ (l : List ℕ). Contains (IsWhole judge) l (take n P ∷ i.inside)) (cc (g.same, take-append-drop n D)) (w_cut g.isframe i.within);
    due = ⊎_elim (λ x. inl x) (λ x. inr (x.0, omega (arith, g.in_p, g.in_d, length-drop n P, length-drop n D, x.1))) i.due;
  }

  later_skip : (e : Bool) (x y : ℕ) (P D : List ℕ) (Fs fs : List (List ℕ)) → Later e P D Fs fs → Later e (x ∷ P) (y ∷ D) Fs fs
  later_skip e x y P D Fs fs i = record {
    inside = i.inside;
    out = i.out;
    left = i.left;
    whole = i.whole;
    parts = i.parts;
    within = w_skip i.within;
    due = ⊎_elim (λ z. inl z) (λ z. inr (z.0, omega (arith, z.1))) i.due;
  }

  -- Damage first: a passed place shortens it, a frame that is handed out is cut from it, and once it is over `front` goes on.
  later : {e : Bool} {P r : List ℕ} {fs : List (List ℕ)} {d : ℕ} (rest : List ℕ) (Fs : List (List ℕ)) → Hunt judge e P fs d r → (D : List ℕ) → Whole e rest → Each (IsWhole judge) Fs → NoStraddle judge D (joined Fs) → P ++ rest ≡ D ++ joined Fs → Later e P D Fs fs
  later rest Fs h_empty D w a ns q = later-none _ [] rest D Fs (inl refl) w a q
  later rest Fs (h_stop p) D w a ns q = later-none _ _ rest D Fs (inr p) w a q
  later rest Fs (h_hand p h) [] w a ns q = from_front _ _ Fs _ (front rest Fs (h_hand p h) w a q)
  later rest Fs (h_hand {s = P} {n = n} {fs = fs} p h) (y ∷ D) w a ns q =
      let g : Cut P rest (y ∷ D) (joined Fs) n = cut_damage P rest (y ∷ D) (joined Fs) n (act_hand _ _ n p) (omega arith) ns q in
      later_cut _ P rest (y ∷ D) n Fs fs g (later rest Fs h (drop n (y ∷ D)) w a (straddle_drop n (y ∷ D) (joined Fs) g.in_d ns) g.after)
  later rest Fs (h_pass p h) [] w a ns q = from_front _ _ Fs _ (front rest Fs (h_pass p h) w a q)
  later rest Fs (h_pass {x = x} {xs = xs} {fs = fs} p h) (y ∷ D) w a ns q =
      later_skip _ x y xs D Fs fs (later rest Fs h D w a (straddle_skip y D (joined Fs) ns) (cc))

  -- of two fronts of one list of frames the shorter has no more bytes
  fronts : (As Bs Cs Ls : List (List ℕ)) → As ++ Bs ≡ Cs ++ Ls → length Cs ≤ length As → length (joined Cs) ≤ length (joined As)
  fronts As Bs [] Ls q h = omega arith
  fronts [] Bs (C ∷ Cs) Ls q h = absurd (omega arith)
  fronts (A ∷ As) Bs (C ∷ Cs) Ls q h =
      let e : A ≡ C = cc in
      let t : As ++ Bs ≡ Cs ++ Ls = cc in
      omega (arith, fronts As Bs Cs Ls t (omega arith), length-append A (joined As), length-append C (joined Cs), ap length e)

  due_of : (e : Bool) (s D : List ℕ) (Fs fs : List (List ℕ)) (i : Later e s D Fs fs) (As : List (List ℕ)) (F : List ℕ) (Bs : List (List ℕ)) → Fs ≡ As ++ F ∷ Bs → (e ≡ true) ⊎ (length D + length (joined As) + frame_most ≤ length s) → length As < length i.out
  due_of e s D Fs fs i As F Bs q h = split (length i.out) (length As) (λ k. absurd (late k)) (λ k. k)
    where
      late : length i.out ≤ length As → ⊥
      late k = ⊎_elim
          (λ x. omega (arith, k, simp length-append at (ap length (sym i.parts ∙ q)), nil_length i.left x))
          (λ x. ⊎_elim (λ t. let z : ◌≡◌ {A = ℕ} 0 1 = cc (t, x.0) in omega arith) (λ b. omega (arith, k, b, x.1, fronts As (F ∷ Bs) i.out i.left (sym q ∙ i.parts) k)) h) i.due

  -- the hunt over the bytes s that have arrived of the damage D and the frames `Fs`; `rest` has not
  pub recovered : {e : Bool} {s r : List ℕ} {fs : List (List ℕ)} {d : ℕ} (rest D : List ℕ) (Fs : List (List ℕ)) → Hunt judge e s fs d r → Whole e rest → Each (IsWhole judge) Fs → NoStraddle judge D (joined Fs) → s ++ rest ≡ D ++ joined Fs → Handed (IsWhole judge) e s D Fs fs
  recovered {e} {s} {fs = fs} rest D Fs h w a ns q =
      let i : Later e s D Fs fs = later rest Fs h D w a ns q in
      record { inside = i.inside; out = i.out; left = i.left; whole = i.whole; parts = i.parts; within = i.within; due = due_of e s D Fs fs i }
