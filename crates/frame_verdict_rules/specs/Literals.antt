-- The readers of given bytes and of any n bytes are exact.
use Rattle.std.specs.Prelude.{◌≡◌, refl, Bool, true, false, ◌&&◌, List, [], ◌∷◌, ◌++◌, ℕ, zero, suc, T, eqb, leb, length, replicate}
use Rattle.std.proofs.Common.{sym, ap, ◌∙◌, arith, leb→le, eqb-true, eq-eqb}
use Rattle.std.proofs.lemmas.List.{length-replicate}
use Rattle.std.proofs.lemmas.Bool.{eqb-false}
use Rattle.frame_verdict_rules.specs.Frame.{All, all_none, all_more, Byte}
use Rattle.frame_verdict_rules.specs.Readers.{Out, on, bad, short, literal, with_head, any}
use Rattle.frame_verdict_rules.specs.Exact.{Exact, bad-on, short_on, short-bad}

-- ---- exactly these bytes

literal-same : (p x : ℕ) (ps xs : List ℕ) → eqb p x ≡ true → literal (p ∷ ps) (x ∷ xs) ≡ literal ps xs
unfolding literal
literal-same p x ps xs e = rw (e, literal)

literal-other : (p x : ℕ) (ps xs : List ℕ) → eqb p x ≡ false → literal (p ∷ ps) (x ∷ xs) ≡ bad
unfolding literal
literal-other p x ps xs e = rw (e, literal)

pub literal_sound : (ps s r : List ℕ) (a : Unit {0}) → literal ps s ≡ on a r → s ≡ ps ++ r
unfolding literal
literal_sound [] s r a e = cc
literal_sound (p ∷ ps) [] r a e = cc
literal_sound (p ∷ ps) (x ∷ xs) r a e = go (eqb p x) refl (λ k. literal_sound ps xs r a k)
  where
    go : (b : Bool) → eqb p x ≡ b → (literal ps xs ≡ on a r → xs ≡ ps ++ r) → x ∷ xs ≡ p ∷ (ps ++ r)
    go true t ih = let i : xs ≡ ps ++ r = ih (sym (literal-same p x ps xs t) ∙ e) in cc (eqb-true p x t)
    go false t ih = absurd (bad-on _ a r (literal-other p x ps xs t) e)

literal-complete : (ps r : List ℕ) → literal ps (ps ++ r) ≡ on tt r
unfolding literal
literal-complete [] r = refl
literal-complete (p ∷ ps) r = literal-same p p ps (ps ++ r) (eq-eqb p p refl) ∙ literal-complete ps r

literal_no_way : (ps s t r : List ℕ) → literal ps s ≡ bad → s ++ t ≡ ps ++ r → ⊥
unfolding literal
literal_no_way [] s t r e j = bad-on _ tt s e refl
literal_no_way (p ∷ ps) [] t r e j = short-bad _ refl e
literal_no_way (p ∷ ps) (x ∷ xs) t r e j = go (eqb p x) refl (λ k. literal_no_way ps xs t r k (cc))
  where
    go : (b : Bool) → eqb p x ≡ b → (literal ps xs ≡ bad → ⊥) → ⊥
    go true q ih = ih (sym (literal-same p x ps xs q) ∙ e)
    go false q ih = eqb-false p x q (cc)

literal-reaches : (ps s : List ℕ) → All Byte ps → literal ps s ≡ short → (t : List ℕ) × (s ++ t ≡ ps) × All Byte t
unfolding literal
literal-reaches [] s bs e = absurd (short_on _ tt s e refl)
literal-reaches (p ∷ ps) [] bs e = (p ∷ ps, refl, bs)
literal-reaches (p ∷ ps) (x ∷ xs) (all_more q bs) e = go (eqb p x) refl (λ k. literal-reaches ps xs bs k)
  where
    go : (b : Bool) → eqb p x ≡ b → (literal ps xs ≡ short → (t : List ℕ) × (xs ++ t ≡ ps) × All Byte t) → (t : List ℕ) × (x ∷ (xs ++ t) ≡ p ∷ ps) × All Byte t
    go true q ih = let i : (t : List ℕ) × (xs ++ t ≡ ps) × All Byte t = ih (sym (literal-same p x ps xs q) ∙ e) in (i.0, cc (i.1, eqb-true p x q), i.2)
    go false q ih = absurd (short-bad _ e (literal-other p x ps xs q))

abbrev pub Literal : List ℕ → Unit {0} → List ℕ → Type 0
Literal ps a w = w ≡ ps

pub literal_exact : (ps : List ℕ) → All Byte ps → Exact (literal ps) (Literal ps)
literal_exact ps bs = record {
  some = (tt, ps, refl, bs);
  sound = λ s r a e. (ps, refl, literal_sound ps s r a e);
  complete = λ w r a m. rw m (literal-complete ps r);
  no_way = λ s t r w a e m j. literal_no_way ps s t r e (rw m at j);
  reaches = λ s e. let i : (t : List ℕ) × (s ++ t ≡ ps) × All Byte t = literal-reaches ps s bs e in (tt, ps, i.0, refl, i.1, i.2);
}

-- a test on a list that is written out
abbrev pub all_bytes : List ℕ → Bool
all_bytes [] = true
all_bytes (x ∷ xs) = leb x 255 && all_bytes xs

and_left : (a b : Bool) → T (a && b) → T a
and_left true b h = tt
and_left false b h = h

and_right : (a b : Bool) → T (a && b) → T b
and_right true b h = h
and_right false b h = absurd h

pub small_bytes : (xs : List ℕ) → T (all_bytes xs) → All Byte xs
small_bytes [] h = all_none
small_bytes (x ∷ xs) h = all_more (leb→le x 255 (and_left (leb x 255) (all_bytes xs) h)) (small_bytes xs (and_right (leb x 255) (all_bytes xs) h))

-- ---- any n bytes

pub head_on : (x : ℕ) (o : Out (List ℕ)) (a r : List ℕ) → with_head x o ≡ on a r → (b : List ℕ) × (o ≡ on b r) × (a ≡ x ∷ b)
unfolding with_head
head_on x (on b q) a r e = (b, cc, cc)
head_on x bad a r e = absurd (bad-on _ a r refl e)
head_on x short a r e = absurd (short_on _ a r refl e)

pub head_bad : (x : ℕ) (o : Out (List ℕ)) → with_head x o ≡ bad → o ≡ bad
unfolding with_head
head_bad x (on b q) e = cc
head_bad x bad e = refl
head_bad x short e = cc

pub head_short : (x : ℕ) (o : Out (List ℕ)) → with_head x o ≡ short → o ≡ short
unfolding with_head
head_short x (on b q) e = cc
head_short x bad e = cc
head_short x short e = refl

pub to_head : (x : ℕ) (o : Out (List ℕ)) (b r : List ℕ) → o ≡ on b r → with_head x o ≡ on (x ∷ b) r
unfolding with_head
to_head x o b r e = rw e

any_sound : (n : ℕ) (s r a : List ℕ) → any n s ≡ on a r → (length a ≡ n) × (s ≡ a ++ r)
unfolding any
any_sound zero s r a e = let z : [] ≡ a = cc in (rw (← z), cc)
any_sound (suc n) [] r a e = absurd (short_on _ a r refl e)
any_sound (suc n) (x ∷ xs) r a e =
    let h : (b : List ℕ) × (any n xs ≡ on b r) × (a ≡ x ∷ b) = head_on x (any n xs) a r e in
    let i : (length h.0 ≡ n) × (xs ≡ h.0 ++ r) = any_sound n xs r h.0 h.1 in
    (ap length h.2 ∙ ap suc i.0, rw h.2 (ap (λ (l : List ℕ). x ∷ l) i.1))

any-complete : (a r : List ℕ) → any (length a) (a ++ r) ≡ on a r
unfolding any
any-complete [] r = refl
any-complete (x ∷ a) r = to_head x _ a r (any-complete a r)

any-bad : (n : ℕ) (s : List ℕ) → any n s ≡ bad → ⊥
unfolding any
any-bad zero s e = bad-on _ [] s e refl
any-bad (suc n) [] e = short-bad _ refl e
any-bad (suc n) (x ∷ xs) e = any-bad n xs (head_bad x _ e)

pub zeros : (n : ℕ) → All Byte (replicate n 0)
zeros zero = all_none
zeros (suc n) = all_more {x = 0} (omega arith) (zeros n)

any-reaches : (n : ℕ) (s : List ℕ) → any n s ≡ short → (t : List ℕ) × (length (s ++ t) ≡ n) × All Byte t
unfolding any
any-reaches zero s e = absurd (short_on _ [] s e refl)
any-reaches (suc n) [] e = (replicate (suc n) 0, length-replicate (suc n) 0, zeros (suc n))
any-reaches (suc n) (x ∷ xs) e = let i : (t : List ℕ) × (length (xs ++ t) ≡ n) × All Byte t = any-reaches n xs (head_short x _ e) in (i.0, ap suc i.1, i.2)

abbrev pub Any : ℕ → List ℕ → List ℕ → Type 0
Any n a w = (w ≡ a) × (length a ≡ n)

pub any_exact : (n : ℕ) → Exact (any n) (Any n)
any_exact n = record {
  some = (replicate n 0, replicate n 0, (refl, length-replicate n 0), zeros n);
  sound = λ s r a e. let i : (length a ≡ n) × (s ≡ a ++ r) = any_sound n s r a e in (a, (refl, i.0), i.1);
  complete = λ w r a m. rw (m.0, ← m.1) (any-complete a r);
  no_way = λ s t r w a e m j. any-bad n s e;
  reaches = λ s e. let i : (t : List ℕ) × (length (s ++ t) ≡ n) × All Byte t = any-reaches n s e in (s ++ i.0, s ++ i.0, i.0, (refl, i.1), refl, i.2);
}
