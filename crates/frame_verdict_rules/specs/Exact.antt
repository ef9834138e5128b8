-- What it means that a reader is exact for a language, and that one reader after the other is then exact too.
use Rattle.std.specs.Prelude.{◌≡◌, refl, List, [], ◌∷◌, ◌++◌, ℕ}
use Rattle.std.proofs.Common.{sym, ◌∙◌, subst, append_assoc, append-nil, arith}
use Rattle.frame_verdict_rules.specs.Frame.{All, all_more, Byte}
use Rattle.frame_verdict_rules.specs.Readers.{Out, on, bad, short, Reader, ◌>>=◌}

pub all_append : {P : ℕ → Type 0} (xs ys : List ℕ) → All P xs → All P ys → All P (xs ++ ys)
all_append [] ys a b = b
all_append (x ∷ xs) ys (all_more p a) b = all_more p (all_append xs ys a b)

-- The reader `p` is exact for the language `Lang`, where `Lang a w` says that the bytes `w` are to be read as `a`: it reads the words of
-- the language and no others, refuses exactly what no continuation makes a word, and falls short only where one does.
pub record Exact {A : Type 0} (p : Reader A) (Lang : A → List ℕ → Type 0) : Type 0 where
  pub some : (a : A) × (w : List ℕ) × Lang a w × All Byte w
  pub sound : (s r : List ℕ) (a : A) → p s ≡ on a r → (w : List ℕ) × Lang a w × (s ≡ w ++ r)
  pub complete : (w r : List ℕ) (a : A) → Lang a w → p (w ++ r) ≡ on a r
  pub no_way : (s t r w : List ℕ) (a : A) → p s ≡ bad → Lang a w → s ++ t ≡ w ++ r → ⊥
  pub reaches : (s : List ℕ) → p s ≡ short → (a : A) × (w : List ℕ) × (t : List ℕ) × Lang a w × (s ++ t ≡ w) × All Byte t

-- the language of one after the other
pub record Then {A B : Type 0} (K : A → List ℕ → Type 0) (M : A → B → List ℕ → Type 0) (b : B) (w : List ℕ) : Type 0 where
  pub first : A
  pub u : List ℕ
  pub v : List ℕ
  pub in_first : K first u
  pub in_second : M first b v
  pub joins : w ≡ u ++ v

module _ {A B : Type 0} (p : Reader A) (q : A → Reader B) where
  pub bind_on : (s r : List ℕ) (a : A) → p s ≡ on a r → (p >>= q) s ≡ q a r
  unfolding ◌>>=◌
  bind_on s r a e = rw (e, ◌>>=◌)

  pub bind_bad : (s : List ℕ) → p s ≡ bad → (p >>= q) s ≡ bad
  unfolding ◌>>=◌
  bind_bad s e = rw (e, ◌>>=◌)

  pub bind_short : (s : List ℕ) → p s ≡ short → (p >>= q) s ≡ short
  unfolding ◌>>=◌
  bind_short s e = rw (e, ◌>>=◌)

-- the three outcomes are apart
pub bad-on : {A : Type 0} (o : Out A) (a : A) (r : List ℕ) → o ≡ bad → o ≡ on a r → ⊥
bad-on o a r p q = let z : ◌≡◌ {A = ℕ} 0 1 = cc in omega arith

pub short_on : {A : Type 0} (o : Out A) (a : A) (r : List ℕ) → o ≡ short → o ≡ on a r → ⊥
short_on o a r p q = let z : ◌≡◌ {A = ℕ} 0 1 = cc in omega arith

pub short-bad : {A : Type 0} (o : Out A) → o ≡ short → o ≡ bad → ⊥
short-bad o p q = let z : ◌≡◌ {A = ℕ} 0 1 = cc in omega arith

pub on_value : {A : Type 0} {o : Out A} {a b : A} {r q : List ℕ} → o ≡ on a r → o ≡ on b q → a ≡ b
on_value e f = cc

pub on-rest : {A : Type 0} {o : Out A} {a b : A} {r q : List ℕ} → o ≡ on a r → o ≡ on b q → r ≡ q
on-rest e f = cc

-- ONE EXACT READER AFTER ANOTHER IS EXACT for the words of the first language followed by words of the second. Each part goes by the
-- outcome of the first reader: where it read a word, the second decides; where it did not, the whole does as it did.
module _ {A B : Type 0} (p : Reader A) (q : A → Reader B) (K : A → List ℕ → Type 0) (M : A → B → List ℕ → Type 0)
    (P : Exact p K) (Q : (a : A) (w : List ℕ) → K a w → Exact (q a) (M a)) where
  then_some : (b : B) × (w : List ℕ) × Then K M b w × All Byte w
  then_some =
      let k : (a : A) × (w : List ℕ) × K a w × All Byte w = P.some in
      let m : (b : B) × (w : List ℕ) × M k.0 b w × All Byte w = (Q k.0 k.1 k.2).some in
      (m.0, k.1 ++ m.1, record { first = k.0; u = k.1; v = m.1; in_first = k.2; in_second = m.2; joins = refl }, all_append k.1 m.1 k.3 m.3)

  then_sound : (s r : List ℕ) (b : B) → (p >>= q) s ≡ on b r → (w : List ℕ) × Then K M b w × (s ≡ w ++ r)
  then_sound s r b e = go (p s) refl
    where
      go : (o : Out A) → p s ≡ o → (w : List ℕ) × Then K M b w × (s ≡ w ++ r)
      go (on a r') f =
          let k : (w : List ℕ) × K a w × (s ≡ w ++ r') = P.sound s r' a f in
          let m : (w : List ℕ) × M a b w × (r' ≡ w ++ r) = (Q a k.0 k.1).sound r' r b (sym (bind_on p q s r' a f) ∙ e) in
          (k.0 ++ m.0, record { first = a; u = k.0; v = m.0; in_first = k.1; in_second = m.1; joins = refl }, cc (k.2, m.2, append_assoc k.0 m.0 r))
      go bad f = absurd (bad-on _ b r (bind_bad p q s f) e)
      go short f = absurd (short_on _ b r (bind_short p q s f) e)

  then_complete : (w r : List ℕ) (b : B) → Then K M b w → (p >>= q) (w ++ r) ≡ on b r
  then_complete w r b k =
      let e : w ++ r ≡ k.u ++ (k.v ++ r) = cc (k.joins, append_assoc k.u k.v r) in
      rw e (bind_on p q _ _ _ (P.complete k.u (k.v ++ r) k.first k.in_first) ∙ (Q k.first k.u k.in_first).complete k.v r b k.in_second)

  then_no_way : (s t r w : List ℕ) (b : B) → (p >>= q) s ≡ bad → Then K M b w → s ++ t ≡ w ++ r → ⊥
  then_no_way s t r w b e k j = go (p s) refl
    where
      j' : s ++ t ≡ k.u ++ (k.v ++ r)
      j' = cc (k.joins, append_assoc k.u k.v r)

      there : p (s ++ t) ≡ on k.first (k.v ++ r)
      there = rw j' (P.complete k.u (k.v ++ r) k.first k.in_first)

      go : (o : Out A) → p s ≡ o → ⊥
      go (on a r') f =
          let m : (u : List ℕ) × K a u × (s ≡ u ++ r') = P.sound s r' a f in
          let here : p (m.0 ++ (r' ++ t)) ≡ on a (r' ++ t) = P.complete m.0 (r' ++ t) a m.1 in
          let same : s ++ t ≡ m.0 ++ (r' ++ t) = cc (m.2, append_assoc m.0 r' t) in
          let here' : p (s ++ t) ≡ on a (r' ++ t) = rw same here in
          let v : k.first ≡ a = on_value there here' in
          let rest : r' ++ t ≡ k.v ++ r = on-rest here' there in
          (Q a m.0 m.1).no_way r' t r k.v b (sym (bind_on p q s r' a f) ∙ e) (subst (λ (x : A). M x b k.v) v k.in_second) rest
      go bad f = P.no_way s t (k.v ++ r) k.u k.first f k.in_first j'
      go short f = short-bad _ (bind_short p q s f) e

  then_reaches : (s : List ℕ) → (p >>= q) s ≡ short → (b : B) × (w : List ℕ) × (t : List ℕ) × Then K M b w × (s ++ t ≡ w) × All Byte t
  then_reaches s e = go (p s) refl
    where
      go : (o : Out A) → p s ≡ o → (b : B) × (w : List ℕ) × (t : List ℕ) × Then K M b w × (s ++ t ≡ w) × All Byte t
      go (on a r') f =
          let m : (u : List ℕ) × K a u × (s ≡ u ++ r') = P.sound s r' a f in
          let n : (b : B) × (w : List ℕ) × (t : List ℕ) × M a b w × (r' ++ t ≡ w) × All Byte t = (Q a m.0 m.1).reaches r' (sym (bind_on p q s r' a f) ∙ e) in
          (n.0, m.0 ++ n.1, n.2, record { first = a; u = m.0; v = n.1; in_first = m.1; in_second = n.3; joins = refl }, cc (m.2, n.4, append_assoc m.0 r' n.2), n.5)
      go bad f = absurd (short-bad _ e (bind_bad p q s f))
      go short f =
          let m : (a : A) × (w : List ℕ) × (t : List ℕ) × K a w × (s ++ t ≡ w) × All Byte t = P.reaches s f in
          let n : (b : B) × (w : List ℕ) × M m.0 b w × All Byte w = (Q m.0 m.1 m.3).some in
          (n.0, m.1 ++ n.1, m.2 ++ n.1, record { first = m.0; u = m.1; v = n.1; in_first = m.3; in_second = n.2; joins = refl }, cc (m.4, append_assoc s m.2 n.1), all_append m.2 n.1 m.5 n.3)

  pub then_exact : Exact (p >>= q) (Then K M)
  then_exact = record { some = then_some; sound = then_sound; complete = then_complete; no_way = then_no_way; reaches = then_reaches }

-- an exact reader is exact for whatever its language is the same as
pub exact_same : {A : Type 0} (p : Reader A) (K M : A → List ℕ → Type 0) → ((a : A) (w : List ℕ) → K a w → M a w) → ((a : A) (w : List ℕ) → M a w → K a w) → Exact p K → Exact p M
exact_same p K M f g x = record {
  some = (x.some.0, x.some.1, f _ _ x.some.2, x.some.3);
  sound = λ s r a e. ((x.sound s r a e).0, f _ _ (x.sound s r a e).1, (x.sound s r a e).2);
  complete = λ w r a m. x.complete w r a (g a w m);
  no_way = λ s t r w a e m j. x.no_way s t r w a e (g a w m) j;
  reaches = λ s e. ((x.reaches s e).0, (x.reaches s e).1, (x.reaches s e).2, f _ _ (x.reaches s e).3, (x.reaches s e).4, (x.reaches s e).5);
}

-- what is bad stays bad, whatever follows
pub bad-stays : {A : Type 0} (p : Reader A) (K : A → List ℕ → Type 0) → Exact p K → (s t : List ℕ) → p s ≡ bad → p (s ++ t) ≡ bad
bad-stays {A} p K x s t e = go (p (s ++ t)) refl
  where
    go : (o : Out A) → p (s ++ t) ≡ o → p (s ++ t) ≡ bad
    go (on a r) f = let i = x.sound (s ++ t) r a f in absurd (x.no_way s t r i.0 a e i.1 i.2)
    go bad f = f
    go short f = let i = x.reaches (s ++ t) f in absurd (x.no_way s (t ++ i.2) [] i.1 i.0 e i.3 (cc (append_assoc s t i.2, i.4, append-nil i.1)))
