-- Texts that a separator ends: reading one byte by byte is exact where every byte's kind is, and so the BeginString's reader is.
use Rattle.std.specs.Prelude.{◌≡◌, ◌≢◌, Bool, true, false, List, [], ◌∷◌, ◌++◌, ℕ, zero, suc, ◌-◌, ◌≤◌, eqb, length, replicate}
use Rattle.std.proofs.Math.Path.{refl}
use Rattle.std.proofs.Common.{sym, ap, ◌∙◌, arith, eqb-true}
use Rattle.std.proofs.lemmas.List.{length-replicate}
use Rattle.std.proofs.lemmas.Bool.{eqb-false}
use Rattle.field_rules.specs.Choice.{pick}
use Rattle.frame_verdict_rules.specs.Frame.{separator, All, all_none, all_more, Byte, NoSeparator, IsBeginString}
use Rattle.frame_verdict_rules.specs.Readers.{on, bad, short, Reader, with_head, Kind, ends, goes, wrong, headed, text_kind, text, begin_string}
use Rattle.frame_verdict_rules.specs.Exact.{Exact, all_append, exact_same, bad-on, short_on, short-bad, on_value, on-rest}
use Rattle.frame_verdict_rules.specs.Literals.{head_on, head_bad, head_short, to_head, zeros}

module _ (kind : ℕ → Kind) (next : ℕ → Reader (List ℕ)) where
  headed-ends : (x : ℕ) (xs : List ℕ) → kind x ≡ ends → headed kind next (x ∷ xs) ≡ on [] xs
  unfolding headed
  headed-ends x xs e = rw (e, headed)

  headed-goes : (x : ℕ) (xs : List ℕ) → kind x ≡ goes → headed kind next (x ∷ xs) ≡ with_head x (next x xs)
  unfolding headed
  headed-goes x xs e = rw (e, headed)

  headed-wrong : (x : ℕ) (xs : List ℕ) → kind x ≡ wrong → headed kind next (x ∷ xs) ≡ bad
  unfolding headed
  headed-wrong x xs e = rw (e, headed)

  headed-none : headed kind next [] ≡ short
  unfolding headed
  headed-none = refl

-- `a` and a separator, where `a` is good
abbrev pub Ended : (List ℕ → Type 0) → List ℕ → List ℕ → Type 0
Ended Good a w = (w ≡ a ++ (separator ∷ [])) × Good a

with_separator : (a : List ℕ) → All Byte a → All Byte (a ++ (separator ∷ []))
with_separator a bs = all_append a (separator ∷ []) bs (all_more {x = separator} (omega arith) all_none)

-- what `kind` and `next` have to be for the good texts
pub record Fits (kind : ℕ → Kind) (next : ℕ → Reader (List ℕ)) (Good : List ℕ → Type 0) : Type 0 where
  pub one : (a : List ℕ) × Good a × All Byte a
  pub clean : (x : ℕ) (a : List ℕ) → Good (x ∷ a) → x ≢ separator
  pub if_ends : (x : ℕ) → kind x ≡ ends → (x ≡ separator) × Good []
  pub if_goes : (x : ℕ) → kind x ≡ goes → (x ≢ separator) × Exact (next x) (Ended (λ (a : List ℕ). Good (x ∷ a)))
  pub if_wrong-end : (x : ℕ) → kind x ≡ wrong → x ≡ separator → Good [] → ⊥
  pub if_wrong : (x : ℕ) (a : List ℕ) → kind x ≡ wrong → Good (x ∷ a) → ⊥

-- Such a reader is exact: each part goes by the kind of the text's first byte, behind which `next` is exact for what follows.
module _ (kind : ℕ → Kind) (next : ℕ → Reader (List ℕ)) (Good : List ℕ → Type 0) (F : Fits kind next Good) where
  h_more : (x : ℕ) (xs r a b w : List ℕ) → a ≡ x ∷ b → Ended (λ (c : List ℕ). Good (x ∷ c)) b w → xs ≡ w ++ r → (v : List ℕ) × Ended Good a v × (x ∷ xs ≡ v ++ r)
  h_more x xs r a b w p i q = (x ∷ w, (rw p (ap (λ (l : List ℕ). x ∷ l) i.0), rw p i.1), ap (λ (l : List ℕ). x ∷ l) q)

  h_sound : (s r a : List ℕ) → headed kind next s ≡ on a r → (w : List ℕ) × Ended Good a w × (s ≡ w ++ r)
  h_sound [] r a e = absurd (short_on _ a r (headed-none kind next) e)
  h_sound (x ∷ xs) r a e = go (kind x) refl
    where
      go : (k : Kind) → kind x ≡ k → (w : List ℕ) × Ended Good a w × (x ∷ xs ≡ w ++ r)
      go ends q =
          let f : (x ≡ separator) × Good [] = F.if_ends x q in
          let va : [] ≡ a = on_value (headed-ends kind next x xs q) e in
          let vr : xs ≡ r = on-rest (headed-ends kind next x xs q) e in
          (separator ∷ [], (rw (← va), rw (← va) f.1), cc f.0)
      go goes q =
          let f : (x ≢ separator) × Exact (next x) (Ended (λ (b : List ℕ). Good (x ∷ b))) = F.if_goes x q in
          let h : (b : List ℕ) × (next x xs ≡ on b r) × (a ≡ x ∷ b) = head_on x (next x xs) a r (sym (headed-goes kind next x xs q) ∙ e) in
          let i : (w : List ℕ) × Ended (λ (b : List ℕ). Good (x ∷ b)) h.0 w × (xs ≡ w ++ r) = f.1.sound xs r h.0 h.1 in
          h_more x xs r a h.0 i.0 h.2 i.1 i.2
      go wrong q = absurd (bad-on _ a r (headed-wrong kind next x xs q) e)

  h_complete : (a r : List ℕ) → Good a → headed kind next ((a ++ (separator ∷ [])) ++ r) ≡ on a r
  h_complete [] r g = go (kind separator) refl
    where
      go : (k : Kind) → kind separator ≡ k → headed kind next (separator ∷ r) ≡ on [] r
      go ends q = headed-ends kind next separator r q
      go goes q = absurd ((F.if_goes separator q).0 refl)
      go wrong q = absurd (F.if_wrong-end separator q refl g)
  h_complete (x ∷ a) r g = go (kind x) refl
    where
      go : (k : Kind) → kind x ≡ k → headed kind next (x ∷ ((a ++ (separator ∷ [])) ++ r)) ≡ on (x ∷ a) r
      go ends q = absurd (F.clean x a g (F.if_ends x q).0)
      go goes q = headed-goes kind next x _ q ∙ to_head x _ a r ((F.if_goes x q).1.complete (a ++ (separator ∷ [])) r a (refl, g))
      go wrong q = absurd (F.if_wrong x a q g)

  h_no_way : (s t r a : List ℕ) → headed kind next s ≡ bad → Good a → s ++ t ≡ (a ++ (separator ∷ [])) ++ r → ⊥
  h_no_way [] t r a e g j = short-bad _ (headed-none kind next) e
  h_no_way (x ∷ xs) t r [] e g j = go (kind x) refl
    where
      go : (k : Kind) → kind x ≡ k → ⊥
      go ends q = bad-on _ [] xs e (headed-ends kind next x xs q)
      go goes q = (F.if_goes x q).0 (cc)
      go wrong q = F.if_wrong-end x q (cc) g
  h_no_way (x ∷ xs) t r (y ∷ a) e g j = go (kind x) refl
    where
      same : x ≡ y
      same = cc

      rest : xs ++ t ≡ (a ++ (separator ∷ [])) ++ r
      rest = cc

      g' : Good (x ∷ a)
      g' = rw same g

      go : (k : Kind) → kind x ≡ k → ⊥
      go ends q = bad-on _ [] xs e (headed-ends kind next x xs q)
      go goes q = (F.if_goes x q).1.no_way xs t r (a ++ (separator ∷ [])) a (head_bad x _ (sym (headed-goes kind next x xs q) ∙ e)) (refl, g') rest
      go wrong q = F.if_wrong x a q g'

  h_reaches : (s : List ℕ) → headed kind next s ≡ short → (a : List ℕ) × (w : List ℕ) × (t : List ℕ) × Ended Good a w × (s ++ t ≡ w) × All Byte t
  h_reaches [] e = let o : (a : List ℕ) × Good a × All Byte a = F.one in (o.0, o.0 ++ (separator ∷ []), o.0 ++ (separator ∷ []), (refl, o.1), refl, with_separator o.0 o.2)
  h_reaches (x ∷ xs) e = go (kind x) refl
    where
      go : (k : Kind) → kind x ≡ k → (a : List ℕ) × (w : List ℕ) × (t : List ℕ) × Ended Good a w × (x ∷ (xs ++ t) ≡ w) × All Byte t
      go ends q = absurd (short_on _ [] xs e (headed-ends kind next x xs q))
      go goes q =
          let f : (x ≢ separator) × Exact (next x) (Ended (λ (b : List ℕ). Good (x ∷ b))) = F.if_goes x q in
          let i : (a : List ℕ) × (w : List ℕ) × (t : List ℕ) × Ended (λ (b : List ℕ). Good (x ∷ b)) a w × (xs ++ t ≡ w) × All Byte t = f.1.reaches xs (head_short x _ (sym (headed-goes kind next x xs q) ∙ e)) in
          (x ∷ i.0, x ∷ i.1, i.2, (ap (λ (l : List ℕ). x ∷ l) i.3.0, i.3.1), ap (λ (l : List ℕ). x ∷ l) i.4, i.5)
      go wrong q = absurd (short-bad _ e (headed-wrong kind next x xs q))

  pub headed_exact : Exact (headed kind next) (Ended Good)
  headed_exact = record {
    some = (F.one.0, F.one.0 ++ (separator ∷ []), (refl, F.one.1), with_separator _ F.one.2);
    sound = h_sound;
    complete = λ w r a m. rw m.0 (h_complete a r m.1);
    no_way = λ s t r w a e m j. h_no_way s t r a e m.1 (rw m.0 at j);
    reaches = h_reaches;
  }

pub ends-goes : {X : Type 0} → ends ≡ goes → X
ends-goes e = let z : ◌≡◌ {A = ℕ} 0 1 = cc in absurd (omega arith)

pub ends-wrong : {X : Type 0} → ends ≡ wrong → X
ends-wrong e = let z : ◌≡◌ {A = ℕ} 0 1 = cc in absurd (omega arith)

pub goes-wrong : {X : Type 0} → goes ≡ wrong → X
goes-wrong e = let z : ◌≡◌ {A = ℕ} 0 1 = cc in absurd (omega arith)

pub all_head : {P : ℕ → Type 0} {x : ℕ} {xs : List ℕ} → All P (x ∷ xs) → P x
all_head (all_more p a) = p

pub all_tail : {P : ℕ → Type 0} {x : ℕ} {xs : List ℕ} → All P (x ∷ xs) → All P xs
all_tail (all_more p a) = a

pub separator_case : {X : Type 0} (x : ℕ) (k l m : Kind) → pick (eqb x separator) k l ≡ m → (x ≡ separator → k ≡ m → X) → (x ≢ separator → l ≡ m → X) → X
separator_case {X} x k l m e f g = go (eqb x separator) refl e
  where
    go : (b : Bool) → eqb x separator ≡ b → pick b k l ≡ m → X
    go true q h = f (eqb-true x separator q) h
    go false q h = g (eqb-false x separator q) h

-- ---- the BeginString

-- a text within both bounds
pub record Text (least most : ℕ) (a : List ℕ) : Type 0 where
  pub long : least ≤ length a
  pub fits : length a ≤ most
  pub clean : All NoSeparator a

pub pick_case : {X : Type 0} (b : Bool) (k l m : Kind) → pick b k l ≡ m → (b ≡ true → k ≡ m → X) → (b ≡ false → l ≡ m → X) → X
pick_case true k l m e f g = f refl e
pick_case false k l m e f g = g refl e

-- what each kind says of a byte of the text
text-ends : (least most x : ℕ) → text_kind least most x ≡ ends → (x ≡ separator) × (least ≡ 0)
unfolding text_kind
text-ends least most x e = separator_case x _ _ _ e
    (λ p q. pick_case (eqb least 0) _ _ _ q (λ z w. (p, eqb-true least 0 z)) (λ z w. ends-wrong (sym w)))
    (λ p q. pick_case (eqb most 0) _ _ _ q (λ z w. ends-wrong (sym w)) (λ z w. ends-goes (sym w)))

text-goes : (least most x : ℕ) → text_kind least most x ≡ goes → (x ≢ separator) × (most ≢ 0)
unfolding text_kind
text-goes least most x e = separator_case x _ _ _ e
    (λ p q. pick_case (eqb least 0) _ _ _ q (λ z w. ends-goes w) (λ z w. goes-wrong (sym w)))
    (λ p q. pick_case (eqb most 0) _ _ _ q (λ z w. goes-wrong (sym w)) (λ z w. (p, eqb-false most 0 z)))

text-wrong : (least most x : ℕ) → text_kind least most x ≡ wrong → (x ≡ separator → least ≡ 0 → ⊥) × (x ≢ separator → most ≡ 0)
unfolding text_kind
text-wrong least most x e = separator_case x _ _ _ e
    (λ p q. pick_case (eqb least 0) _ _ _ q (λ z w. ends-wrong w) (λ z w. (λ a b. eqb-false least 0 z b, λ n. absurd (n p))))
    (λ p q. pick_case (eqb most 0) _ _ _ q (λ z w. (λ a. absurd (p a), λ n. eqb-true most 0 z)) (λ z w. goes-wrong w))

zeros_clean : (n : ℕ) → All NoSeparator (replicate n 0)
zeros_clean zero = all_none
zeros_clean (suc n) = all_more {x = 0} (omega arith) (zeros_clean n)

text-one : (least most : ℕ) → least ≤ most → (a : List ℕ) × Text least most a × All Byte a
text-one least most h = (replicate least 0, record { long = omega (arith, length-replicate {A = ℕ} least 0); fits = omega (arith, length-replicate {A = ℕ} least 0); clean = zeros_clean least }, zeros least)

-- The first byte of a text leaves a text that lacks one byte less and has room for one less.
pub text_exact : (least most : ℕ) → least ≤ most → Exact (text least most) (Ended (Text least most))
unfolding text
text_exact least zero h = headed_exact _ _ (Text least 0) (record {
  one = text-one least 0 h;
  clean = λ x a g. all_head g.clean;
  if_ends = λ x e. let k = text-ends least 0 x e in (k.0, record { long = omega arith; fits = omega arith; clean = all_none });
  if_goes = λ x e. absurd ((text-goes least 0 x e).1 refl);
  if_wrong-end = λ x e p g. (text-wrong least 0 x e).0 p (omega (arith, g.long));
  if_wrong = λ x a e g. omega (arith, g.fits);
})
text_exact least (suc most) h = headed_exact _ _ (Text least (suc most)) (record {
  one = text-one least (suc most) h;
  clean = λ x a g. all_head g.clean;
  if_ends = λ x e. let k = text-ends least (suc most) x e in (k.0, record { long = omega (arith, k.1); fits = omega arith; clean = all_none });
  if_goes = λ x e. let k = text-goes least (suc most) x e in (
    k.0,
    exact_same (text (least - 1) most) _ _
        (λ a w m. (m.0, record { long = omega (arith, m.1.long); fits = omega (arith, m.1.fits); clean = all_more k.0 m.1.clean }))
        (λ a w m. (m.0, record { long = omega (arith, m.1.long); fits = omega (arith, m.1.fits); clean = all_tail m.1.clean })) (text_exact (least - 1) most (omega arith)),
  );
  if_wrong-end = λ x e p g. (text-wrong least (suc most) x e).0 p (omega (arith, g.long));
  if_wrong = λ x a e g. let z : suc most ≡ 0 = (text-wrong least (suc most) x e).1 (all_head g.clean) in absurd (omega arith);
})

-- THE BEGINSTRING'S READER IS EXACT
pub begin_exact : Exact begin_string (Ended IsBeginString)
unfolding begin_string
begin_exact = exact_same (text 1 16) _ _
    (λ a w m. (m.0, record { least = m.1.long; most = m.1.fits; clean = m.1.clean }))
    (λ a w m. (m.0, record { long = m.1.least; fits = m.1.most; clean = m.1.clean })) (text_exact 1 16 (omega arith))

-- all that the rest of the frame needs to know of its size: much room is left for the N bytes
pub begin-short : {begin : List ℕ} → IsBeginString begin → length begin ≤ 1000
begin-short b = omega (arith, b.most)
