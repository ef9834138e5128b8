-- One take: what is done at each of its places, and that it is a piece of the hunt over the whole stream.
use Rattle.std.specs.Prelude.{◌≡◌, ◌⊎◌, Bool, true, false, List, [], ◌∷◌, ℕ, zero, suc, ◌+◌, ◌%◌, ◌≤◌, ◌<◌, take, drop}
use Rattle.std.proofs.Math.Path.{refl, sym, ap}
use Rattle.std.proofs.Common.{◌∙◌, subst, inl, inr, zero-add, suc-add}
use native.Mathlib.Omega.{arith}
use Rattle.std.proofs.Math.ListN.{length, length-drop}
use Rattle.std.proofs.Math.Seq.{length-take-le}
use Rattle.frame_verdict_rules.specs.Frame.{frame_most}
use Rattle.frame_hunter_rules.specs.Hunt.{act_on, followed, Framer, count_wrap, Took, took_by, hunt_from, take_one, Hunt, h_empty, h_stop, h_hand, h_pass}
use Rattle.frame_verdict_rules.proofs.VerdictLaws.{Laws}
use Rattle.frame_verdict_rules.specs.declared.Verdict.{Verdict}
use Rattle.frame_verdict_rules.specs.declared.Verdict.TheVariants.{Frame, Never, Wait}
use Rattle.frame_hunter_rules.specs.declared.Act.{Act}
use Rattle.frame_hunter_rules.specs.declared.Act.TheVariants.{Hand, Pass, Stop}
use Rattle.frame_hunter_rules.specs.declared.Hunted.{Hunted}

-- ---- what an act tells of the verdict, and the other way

pub act_hand : (e : Bool) (v : Verdict) (n : ℕ) → act_on e v ≡ Hand n → v ≡ Frame n
unfolding act_on
act_hand e (Frame m) n p = cc
act_hand e Never n p = cc
act_hand true Wait n p = cc
act_hand false Wait n p = cc

pub act_pass : (v : Verdict) → act_on false v ≡ Pass → v ≡ Never
unfolding act_on
act_pass (Frame m) p = cc
act_pass Never p = refl
act_pass Wait p = cc

pub act_stop : (e : Bool) (v : Verdict) → act_on e v ≡ Stop → (v ≡ Wait) × (e ≡ false)
unfolding act_on
act_stop e (Frame m) p = (cc, cc)
act_stop e Never p = (cc, cc)
act_stop true Wait p = (refl, cc)
act_stop false Wait p = (refl, refl)

pub frame_act : (e : Bool) (v : Verdict) (n : ℕ) → v ≡ Frame n → act_on e v ≡ Hand n
unfolding act_on
frame_act e v n p = rw p

pub never_act : (e : Bool) (v : Verdict) → v ≡ Never → act_on e v ≡ Pass
unfolding act_on
never_act e v p = rw p

module _ (judge : List ℕ → Verdict) where
  -- ---- a take by what is done at its first place

  pub first-none : (e : Bool) → hunt_from judge e [] ≡ record { passed = 0; length = 0 }
  unfolding hunt_from
  first-none e = refl

  pub first_hand : (e : Bool) (x : ℕ) (xs : List ℕ) (n : ℕ) → act_on e (judge (x ∷ xs)) ≡ Hand n → hunt_from judge e (x ∷ xs) ≡ record { passed = 0; length = n }
  unfolding hunt_from followed
  first_hand e x xs n p = rw p

  pub first_pass : (e : Bool) (x : ℕ) (xs : List ℕ) → act_on e (judge (x ∷ xs)) ≡ Pass → hunt_from judge e (x ∷ xs) ≡ record { passed = suc (hunt_from judge e xs).passed; length = (hunt_from judge e xs).length }
  unfolding hunt_from followed
  first_pass e x xs p = rw p

  pub first-stop : (e : Bool) (x : ℕ) (xs : List ℕ) → act_on e (judge (x ∷ xs)) ≡ Stop → hunt_from judge e (x ∷ xs) ≡ record { passed = 0; length = 0 }
  unfolding hunt_from followed
  first-stop e x xs p = rw p

  -- ---- the places of a take

  -- THE PLACES THAT A TAKE DROPS ARE CONTIGUOUS, AND STAND RIGHT BEFORE ITS FRAME OR ITS STOP.
  pub record Places (e : Bool) (s : List ℕ) (h : Hunted) : Type 0 where
    pub passes : (i : ℕ) → i < h.passed → act_on e (judge (drop i s)) ≡ Pass
    pub inside : h.passed + h.length ≤ length s
    pub hands : 0 < h.length → act_on e (judge (drop h.passed s)) ≡ Hand h.length
    pub rests : h.length ≡ 0 → (drop h.passed s ≡ []) ⊎ (act_on e (judge (drop h.passed s)) ≡ Stop)
    -- and so the take is a piece of the hunt over the whole stream
    pub dry_hunt : h.length ≡ 0 → Hunt judge e s [] h.passed (drop h.passed s)
    pub on_hunt : 0 < h.length → (fs : List (List ℕ)) (d : ℕ) (r : List ℕ) → Hunt judge e (drop (h.passed + h.length) s) fs d r → Hunt judge e s (take h.length (drop h.passed s) ∷ fs) (h.passed + d) r

  module _ (L : Laws judge) where
    at_end : (e : Bool) → Places e [] (record { passed = 0; length = 0 })
    at_end e = record { passes = λ i h. absurd (omega arith); inside = omega arith; hands = λ h. absurd (omega arith); rests = λ h. inl refl; dry_hunt = λ h. h_empty; on_hunt = λ h fs d r k. absurd (omega arith) }

    at_hand : (e : Bool) (s : List ℕ) (n : ℕ) → act_on e (judge s) ≡ Hand n → Places e s (record { passed = 0; length = n })
    at_hand e s n p = record {
      passes = λ i h. absurd (omega arith);
      inside = omega (arith, L.frame_fits s n (act_hand e _ n p));
      hands = λ h. p;
      rests = λ h. absurd (omega (arith, L.frame_some s n (act_hand e _ n p)));
      dry_hunt = λ h. absurd (omega (arith, L.frame_some s n (act_hand e _ n p)));
      on_hunt = λ h fs d r k. rw zero-add (h_hand p (rw zero-add at k));
    }

    at-stop : (e : Bool) (s : List ℕ) → act_on e (judge s) ≡ Stop → Places e s (record { passed = 0; length = 0 })
    at-stop e s p = record { passes = λ i h. absurd (omega arith); inside = omega arith; hands = λ h. absurd (omega arith); rests = λ h. inr p; dry_hunt = λ h. h_stop p; on_hunt = λ h fs d r k. absurd (omega arith) }

    first-place : (e : Bool) (x : ℕ) (xs : List ℕ) (k : ℕ) → act_on e (judge (x ∷ xs)) ≡ Pass → ((i : ℕ) → i < k → act_on e (judge (drop i xs)) ≡ Pass) → (i : ℕ) → i < suc k → act_on e (judge (drop i (x ∷ xs))) ≡ Pass
    first-place e x xs k p q zero h = p
    first-place e x xs k p q (suc i) h = q i (omega arith)

    at_pass : (e : Bool) (x : ℕ) (xs : List ℕ) (h : Hunted) → act_on e (judge (x ∷ xs)) ≡ Pass → Places e xs h → Places e (x ∷ xs) (record { passed = suc h.passed; length = h.length })
    at_pass e x xs h p i = record {
      passes = first-place e x xs h.passed p i.passes;
      inside = omega (arith, i.inside);
      hands = i.hands;
      rests = i.rests;
      dry_hunt = λ z. h_pass p (i.dry_hunt z);
      on_hunt = λ z fs d r k. rw suc-add (h_pass p (i.on_hunt z fs d r (rw suc-add at k)));
    }

    pub places : (e : Bool) (s : List ℕ) → Places e s (hunt_from judge e s)
    places e [] = rw (first-none e) (at_end e)
    places e (x ∷ xs) = go (act_on e (judge (x ∷ xs))) refl (places e xs)
      where
        go : (a : Act) → act_on e (judge (x ∷ xs)) ≡ a → Places e xs (hunt_from judge e xs) → Places e (x ∷ xs) (hunt_from judge e (x ∷ xs))
        go (Hand n) p ih = subst (λ (h : Hunted). Places e (x ∷ xs) h) (sym (first_hand e x xs n p)) (at_hand e (x ∷ xs) n p)
        go Pass p ih = subst (λ (h : Hunted). Places e (x ∷ xs) h) (sym (first_pass e x xs p)) (at_pass e x xs (hunt_from judge e xs) p ih)
        go Stop p ih = subst (λ (h : Hunted). Places e (x ∷ xs) h) (sym (first-stop e x xs p)) (at-stop e (x ∷ xs) p)

    -- ---- a take of a framer

    -- what a take did: it passed places, and goes on from the rest
    pub record Step (f : Framer) (t : Took) : Type 0 where
      pub passed : ℕ
      pub handed : length t.frame ≡ (hunt_from judge f.ended f.held).length
      pub count : t.after.dropped ≡ (f.dropped + passed) % count_wrap
      pub flag : t.after.ended ≡ f.ended
      pub kept : length f.held ≡ passed + length t.frame + length t.after.held
      pub rests : length t.frame ≡ 0 → (t.after.held ≡ []) ⊎ (act_on f.ended (judge t.after.held) ≡ Stop)
      pub dry : length t.frame ≡ 0 → Hunt judge f.ended f.held [] passed t.after.held
      pub on : 0 < length t.frame → (fs : List (List ℕ)) (d : ℕ) (r : List ℕ) → Hunt judge f.ended t.after.held fs d r → Hunt judge f.ended f.held (t.frame ∷ fs) (passed + d) r

    stepped : (f : Framer) (h : Hunted) → h ≡ hunt_from judge f.ended f.held → Places f.ended f.held h → Step f (took_by h f)
    unfolding took_by
    stepped f h e i =
        let l : length (take h.length (drop h.passed f.held)) ≡ h.length = length-take-le h.length (drop h.passed f.held) (omega (arith, i.inside, length-drop h.passed f.held)) in
        record {
          passed = h.passed;
          handed = l ∙ ap (λ (x : Hunted). x.length) e;
          count = refl;
          flag = refl;
          kept = omega (arith, i.inside, length-drop (h.passed + h.length) f.held);
          rests = λ z. let y : h.length ≡ 0 = sym l ∙ z in let m : h.passed + h.length ≡ h.passed = omega arith in rw m (i.rests y);
          dry = λ z. let y : h.length ≡ 0 = sym l ∙ z in let m : h.passed + h.length ≡ h.passed = omega arith in rw m (i.dry_hunt y);
          on = λ z. i.on_hunt (omega arith);
        }

    pub step : (f : Framer) → Step f (take_one judge f)
    unfolding take_one
    step f = stepped f (hunt_from judge f.ended f.held) refl (places f.ended f.held)

    -- a frame that is handed out is one, and has at most 8,192 bytes
    pub took_small : (f : Framer) → length (take_one judge f).frame ≤ frame_most
    took_small f = go (hunt_from judge f.ended f.held) refl (places f.ended f.held)
      where
        go : (h : Hunted) → hunt_from judge f.ended f.held ≡ h → Places f.ended f.held h → length (take_one judge f).frame ≤ frame_most
        go h e i = small h.length refl
          where
            small : (n : ℕ) → h.length ≡ n → length (take_one judge f).frame ≤ frame_most
            small zero z = omega (arith, (step f).handed, ap (λ (x : Hunted). x.length) e)
            small (suc n) z = omega (arith, (step f).handed, ap (λ (x : Hunted). x.length) e, L.frame_small _ h.length (act_hand _ _ _ (i.hands (omega arith))))
