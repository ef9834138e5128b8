-- The verdict is exact: what it says of a place is what the rules say of it, and what the hunt needs to know of it follows.
use Rattle.std.specs.Prelude.{◌≡◌, refl, ◌↔◌, List, [], ◌∷◌, ◌++◌, ℕ, ◌-◌, ◌≤◌, ◌<◌, length, take, drop}
use Rattle.std.proofs.Common.{sym, ap, append-nil, le_refl, arith, length-append, length-drop, take-append-drop, length-take-le, take-take}
use Rattle.std.proofs.lemmas.List.{take-append-le}
use Rattle.std.proofs.Math.Seq.{take-append_seam, take-length}
use Rattle.frame_verdict_rules.specs.Frame.{frame_most, All, all_none, Byte, IsFrame, Starts, StartsFrame, CanStart}
use Rattle.frame_verdict_rules.specs.Readers.{Out, on, bad, short}
use Rattle.frame_verdict_rules.specs.Verdict.{frame_reader, stage_of, as_verdict, verdict_of}
use Rattle.frame_verdict_rules.specs.Exact.{bad-stays, short_on, on-rest}
use Rattle.frame_verdict_rules.proofs.FrameExact.{frame_exact, frame_size}
use Rattle.frame_verdict_rules.specs.declared.Verdict.{Verdict}
use Rattle.frame_verdict_rules.specs.declared.Verdict.TheVariants.{Frame, Never, Wait}

-- ---- from a verdict to the reader's outcome

apart : {X : Type 0} → ◌≡◌ {A = ℕ} 0 1 → X
apart z = absurd (omega arith)

as_frame : (s : List ℕ) (o : Out (Unit {0})) (n : ℕ) → as_verdict (stage_of s o) ≡ Frame n → (r : List ℕ) × (o ≡ on tt r) × (n ≡ length s - length r)
unfolding as_verdict stage_of
as_frame s (on tt r) n e = (r, refl, cc)
as_frame s bad n e = apart (cc)
as_frame s short n e = apart (cc)

as_never : (s : List ℕ) (o : Out (Unit {0})) → as_verdict (stage_of s o) ≡ Never → o ≡ bad
unfolding as_verdict stage_of
as_never s (on a r) e = cc
as_never s bad e = refl
as_never s short e = cc

as_wait : (s : List ℕ) (o : Out (Unit {0})) → as_verdict (stage_of s o) ≡ Wait → o ≡ short
unfolding as_verdict stage_of
as_wait s (on a r) e = cc
as_wait s bad e = cc
as_wait s short e = refl

is_frame : (s r : List ℕ) (n : ℕ) → frame_reader s ≡ on tt r → n ≡ length s - length r → verdict_of s ≡ Frame n
unfolding verdict_of as_verdict stage_of
is_frame s r n e l = rw (e, l)

is_never : (s : List ℕ) → frame_reader s ≡ bad → verdict_of s ≡ Never
unfolding verdict_of as_verdict stage_of
is_never s e = rw e

is_wait : (s : List ℕ) → frame_reader s ≡ short → verdict_of s ≡ Wait
unfolding verdict_of as_verdict stage_of
is_wait s e = rw e

-- ---- from the reader's outcome to frames

on-starts : (s r : List ℕ) (n : ℕ) → frame_reader s ≡ on tt r → n ≡ length s - length r → Starts s n
on-starts s r n e l = go (frame_exact.sound s r tt e)
  where
    go : (w : List ℕ) × IsFrame w × (s ≡ w ++ r) → Starts s n
    go i =
        let m : n ≡ length i.0 = omega (arith, l, ap length i.2, length-append i.0 r) in
        let t : take n s ≡ i.0 = cc (i.2, take-append_seam i.0 r) in
        record { inside = omega (arith, ap length i.2, length-append i.0 r); framed = rw t i.1 }

starts-on : (s : List ℕ) (n : ℕ) → Starts s n → frame_reader s ≡ on tt (drop n s)
starts-on s n p =
    let c : frame_reader (take n s ++ drop n s) ≡ on tt (drop n s) = frame_exact.complete (take n s) (drop n s) tt p.framed in
    cc (take-append-drop n s)

can_bad : (s : List ℕ) → frame_reader s ≡ bad → CanStart s → ⊥
can_bad s e c =
    let t : List ℕ = c.0 in
    let n : ℕ = c.2.0 in
    frame_exact.no_way s t (drop n (s ++ t)) (take n (s ++ t)) tt e c.2.1.framed (sym (take-append-drop n (s ++ t)))

starts_can : (s : List ℕ) → StartsFrame s → CanStart s
starts_can s p = ([], all_none, rw append-nil p)

whole-starts : (w : List ℕ) → IsFrame w → Starts w (length w)
whole-starts w f = record { inside = le_refl _; framed = rw take-length f }

short_can : (s : List ℕ) → frame_reader s ≡ short → CanStart s
short_can s e = go (frame_exact.reaches s e)
  where
    go : (a : Unit {0}) × (w : List ℕ) × (t : List ℕ) × IsFrame w × (s ++ t ≡ w) × All Byte t → CanStart s
    go i = (i.2, i.5, (length (s ++ i.2), whole-starts (s ++ i.2) (rw i.4 i.3)))

-- ---- the three verdicts

-- THE VERDICT IS `Frame n` EXACTLY WHERE THE FIRST n BYTES ARE A FRAME
pub frame_iff : (s : List ℕ) (n : ℕ) → (verdict_of s ≡ Frame n) ↔ Starts s n
unfolding verdict_of
frame_iff s n = (
  λ e. let i = as_frame s (frame_reader s) n e in on-starts s i.0 n i.1 i.2,
  λ p. is_frame s (drop n s) n (starts-on s n p) (omega (arith, length-drop n s, p.inside)),
)

-- `Never` EXACTLY WHERE "NO CONTINUATION MAKES ONE"
pub never_iff : (s : List ℕ) → (verdict_of s ≡ Never) ↔ (CanStart s → ⊥)
unfolding verdict_of
never_iff s = (λ e. can_bad s (as_never s (frame_reader s) e), λ h. go (frame_reader s) refl h)
  where
    go : (o : Out (Unit {0})) → frame_reader s ≡ o → (CanStart s → ⊥) → verdict_of s ≡ Never
    go (on a r) e h = absurd (h (starts_can s (length s - length r, on-starts s r _ e refl)))
    go bad e h = is_never s e
    go short e h = absurd (h (short_can s e))

-- `Wait` EXACTLY WHERE NONE STARTS YET AND ONE STILL CAN
pub wait_iff : (s : List ℕ) → (verdict_of s ≡ Wait) ↔ (CanStart s × (StartsFrame s → ⊥))
unfolding verdict_of
wait_iff s = (λ e. let q : frame_reader s ≡ short = as_wait s (frame_reader s) e in (short_can s q, λ p. short_on _ tt _ q (starts-on s p.0 p.1)), λ h. go (frame_reader s) refl h)
  where
    go : (o : Out (Unit {0})) → frame_reader s ≡ o → (CanStart s × (StartsFrame s → ⊥)) → verdict_of s ≡ Wait
    go (on a r) e h = absurd (h.1 (length s - length r, on-starts s r _ e refl))
    go bad e h = absurd (can_bad s e h.0)
    go short e h = is_wait s e

-- a list is a frame exactly where the verdict on it is a frame of its whole length
pub frame_is : (w : List ℕ) → (verdict_of w ≡ Frame (length w)) ↔ IsFrame w
frame_is w = (λ e. rw take-length at ((frame_iff w (length w)).0 e).framed, λ f. (frame_iff w (length w)).1 (whole-starts w f))

-- frames of two lengths do not start at one place
pub one-length : (s : List ℕ) (n m : ℕ) → Starts s n → Starts s m → n ≡ m
one-length s n m p q =
    let e : drop n s ≡ drop m s = on-rest (starts-on s n p) (starts-on s m q) in
    omega (arith, ap length e, length-drop n s, length-drop m s, p.inside, q.inside)

-- ---- what the hunt asks of a verdict

-- With 8,192 bytes there is no waiting; a frame and a never stay what they are when bytes follow; a frame has a byte at least and lies in
-- the bytes; and it is a frame by its own bytes alone.
pub record Laws (judge : List ℕ → Verdict) : Type 0 where
  pub full : (s : List ℕ) → judge s ≡ Wait → length s < frame_most
  pub frame_stays : (s t : List ℕ) (n : ℕ) → judge s ≡ Frame n → judge (s ++ t) ≡ Frame n
  pub never_stays : (s t : List ℕ) → judge s ≡ Never → judge (s ++ t) ≡ Never
  pub frame_some : (s : List ℕ) (n : ℕ) → judge s ≡ Frame n → 0 < n
  pub frame_fits : (s : List ℕ) (n : ℕ) → judge s ≡ Frame n → n ≤ length s
  pub frame_small : (s : List ℕ) (n : ℕ) → judge s ≡ Frame n → n ≤ frame_most
  pub frame_alone : (s : List ℕ) (n : ℕ) → judge s ≡ Frame n → judge (take n s) ≡ Frame n

wait_short : (s t : List ℕ) → verdict_of s ≡ Wait → IsFrame (s ++ t) → length s < frame_most
wait_short s [] e f = absurd (((wait_iff s).0 e).1 (length s, whole-starts s (rw append-nil at f)))
wait_short s (x ∷ t) e f = omega (arith, f.small, length-append s (x ∷ t))

no_waiting : (s : List ℕ) → verdict_of s ≡ Wait → length s < frame_most
unfolding verdict_of
no_waiting s e = go (frame_exact.reaches s (as_wait s (frame_reader s) e))
  where
    go : (a : Unit {0}) × (w : List ℕ) × (t : List ℕ) × IsFrame w × (s ++ t ≡ w) × All Byte t → length s < frame_most
    go i = wait_short s i.2 e (rw i.4 i.3)

starts_more : (s t : List ℕ) (n : ℕ) → Starts s n → Starts (s ++ t) n
starts_more s t n p = record { inside = omega (arith, p.inside, length-append s t); framed = rw (take-append-le n s t p.inside) p.framed }

never_more : (s t : List ℕ) → verdict_of s ≡ Never → verdict_of (s ++ t) ≡ Never
unfolding verdict_of
never_more s t e = is_never (s ++ t) (bad-stays frame_reader _ frame_exact s t (as_never s (frame_reader s) e))

starts-alone : (s : List ℕ) (n : ℕ) → Starts s n → Starts (take n s) n
starts-alone s n p = record { inside = omega (arith, length-take-le n s p.inside); framed = rw (take-take n n s (le_refl n)) p.framed }

pub verdict_laws : Laws verdict_of
verdict_laws = record {
  full = no_waiting;
  frame_stays = λ s t n e. (frame_iff (s ++ t) n).1 (starts_more s t n ((frame_iff s n).0 e));
  never_stays = never_more;
  frame_some = λ s n e. let p : Starts s n = (frame_iff s n).0 e in omega (arith, frame_size (take n s) p.framed, length-take-le n s p.inside);
  frame_fits = λ s n e. ((frame_iff s n).0 e).inside;
  frame_small = λ s n e. let p : Starts s n = (frame_iff s n).0 e in omega (arith, p.framed.small, length-take-le n s p.inside);
  frame_alone = λ s n e. (frame_iff (take n s) n).1 (starts-alone s n ((frame_iff s n).0 e));
}
