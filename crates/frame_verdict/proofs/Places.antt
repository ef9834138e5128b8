-- Stages one after the other, by places: what is known where one stage ended and the next begins, and where a stage refuses.
use mathlib.Core.Path.{◌≡◌, refl, sym, ap, ◌∙◌}
use mathlib.Core.Logic.{◌⊎◌, inl, inr}
use mathlib.Core.List.{List, [], ◌∷◌, ◌++◌}
use Prim.Native.Nat.{ℕ, zero, suc, ◌+◌, ◌-◌, ◌≤◌, ◌<◌}
use native.Mathlib.Omega.{arith}
use lib.ListN.{length, take, drop, length-append, length-drop, take-append-drop}
use lib.Seq.{drop-drop, take-add, drop-append_seam, take-append_seam, length-take-le}
use Rattle.field_rules.specs.Number.{worth}
use Rattle.frame_verdict_rules.specs.Readers.{Out, on, bad, short, Reader, ◌>>=◌, literal, with_head, any, body_length}
use Rattle.frame_verdict_rules.specs.Verdict.{stage_of, length_of}
use Rattle.frame_verdict_rules.specs.Exact.{Exact, bind_on, bind_bad, bind_short}
use Rattle.frame_verdict_rules.specs.Literals.{literal_sound}
use Rattle.frame_verdict_rules.specs.declared.Stage.{Stage}
use Rattle.frame_verdict_rules.specs.declared.Stage.TheVariants.{On, Bad, Short}
use Rattle.frame_verdict_rules.specs.declared.Length.TheVariants.{Announced, BadLength, ShortLength}

apart : {X : Type 0} → ◌≡◌ {A = ℕ} 0 1 → X
apart z = absurd (omega arith)

-- what the else of a let-else knows
pub refused : (k : Stage) → ((e : ℕ) → k ≡ On e → ⊥) → (k ≡ Bad) ⊎ (k ≡ Short)
refused (On e) h = absurd (h e refl)
refused Bad h = inl refl
refused Short h = inr refl

-- The whole outcome is that of `rest` at the place e, and the bytes before it are `read`.
pub record Reached {B : Type 0} (whole : Out B) (s : List ℕ) (rest : Reader B) (read : List ℕ) (e : ℕ) : Type 0 where
  pub goes_on : whole ≡ rest (drop e s)
  pub so_far : take e s ≡ read
  pub inside : e ≤ length s

-- where reading stands is how many bytes were read
pub stands : {B : Type 0} (whole : Out B) (s : List ℕ) (rest : Reader B) (read : List ℕ) (e : ℕ) → Reached whole s rest read e → e ≡ length read
stands whole s rest read e r = sym (length-take-le e s r.inside) ∙ ap length r.so_far

-- the bytes w stand at the place `at`
record Word (s w r : List ℕ) (at : ℕ) : Type 0 where
  ends : at + length w ≤ length s
  rest : drop (at + length w) s ≡ r
  upto : take (at + length w) s ≡ take at s ++ w
  left : length s - length r ≡ at + length w

word : (s w r : List ℕ) (at : ℕ) → at ≤ length s → drop at s ≡ w ++ r → Word s w r at
word s w r at h e =
    let l : length s - at ≡ length w + length r = sym (length-drop at s) ∙ ap length e ∙ length-append w r in
    let d : drop (at + length w) s ≡ r = sym (drop-drop (length w) at s) ∙ ap (drop (length w)) e ∙ drop-append_seam w r in
    record {
      ends = omega arith;
      rest = d;
      upto = take-add at (length w) s ∙ ap (λ (x : List ℕ). take at s ++ take (length w) x) e ∙ ap (λ (x : List ℕ). take at s ++ x) (take-append_seam w r);
      left = omega arith;
    }

module _ {A B : Type 0} (whole : Out B) (s : List ℕ) (p : Reader A) (q : A → Reader B) (read : List ℕ) (at : ℕ) (R : Reached whole s (p >>= q) read at) where
  -- a word was read: the next stage begins behind it
  next : (a : A) (w r : List ℕ) → p (drop at s) ≡ on a r → drop at s ≡ w ++ r → (e : ℕ) → e ≡ length s - length r → Reached whole s (q a) (read ++ w) e
  next a w r f d e k =
      let x : Word s w r at = word s w r at R.inside d in
      let m : at + length w ≡ e = sym x.left ∙ sym k in
      record {
        goes_on = R.goes_on ∙ bind_on p q (drop at s) r a f ∙ ap (q a) (sym x.rest ∙ ap (λ (n : ℕ). drop n s) m);
        so_far = ap (λ (n : ℕ). take n s) (sym m) ∙ x.upto ∙ ap (λ (y : List ℕ). y ++ w) R.so_far;
        inside = omega (arith, x.ends, m);
      }

  -- a stage that ended at e read some word of its language
  pub record Read (K : A → List ℕ → Type 0) (e : ℕ) : Type 0 where
    pub value : A
    pub word : List ℕ
    pub is_word : K value word
    pub reached : Reached whole s (q value) (read ++ word) e

  pub read-on : (K : A → List ℕ → Type 0) → Exact p K → (e : ℕ) → On e ≡ stage_of s (p (drop at s)) → Read K e
  unfolding stage_of
  read-on K X e k = go (p (drop at s)) refl k
    where
      go : (o : Out A) → p (drop at s) ≡ o → On e ≡ stage_of s o → Read K e
      go (on a r) f k₁ =
          let i : (w : List ℕ) × K a w × (drop at s ≡ w ++ r) = X.sound (drop at s) r a f in
          record { value = a; word = i.0; is_word = i.1; reached = next a i.0 r f i.2 e (cc) }
      go bad f k₁ = apart (cc)
      go short f k₁ = apart (cc)

  -- a stage that refused refuses the whole
  pub refuses : (k : Stage) → k ≡ stage_of s (p (drop at s)) → (k ≡ Bad) ⊎ (k ≡ Short) → k ≡ stage_of s whole
  unfolding stage_of
  refuses k e h = go (p (drop at s)) refl e h
    where
      go : (o : Out A) → p (drop at s) ≡ o → k ≡ stage_of s o → (k ≡ Bad) ⊎ (k ≡ Short) → k ≡ stage_of s whole
      go (on a r) f k₁ (inl z) = apart (cc)
      go (on a r) f k₁ (inr z) = apart (cc)
      go bad f k₁ z = k₁ ∙ ap (stage_of s) (sym (R.goes_on ∙ bind_bad p q (drop at s) f))
      go short f k₁ z = k₁ ∙ ap (stage_of s) (sym (R.goes_on ∙ bind_short p q (drop at s) f))

-- given bytes were read
pub literal-on : {B : Type 0} (whole : Out B) (s wanted : List ℕ) (q : Unit {0} → Reader B) (read : List ℕ) (at : ℕ) → Reached whole s (literal wanted >>= q) read at →
    (e : ℕ) → On e ≡ stage_of s (literal wanted (drop at s)) → Reached whole s (q tt) (read ++ wanted) e
unfolding stage_of
literal-on {B} whole s wanted q read at R e k = go (literal wanted (drop at s)) refl k
  where
    go : (o : Out (Unit {0})) → literal wanted (drop at s) ≡ o → On e ≡ stage_of s o → Reached whole s (q tt) (read ++ wanted) e
    go (on a r) f k₁ = next whole s (literal wanted) q read at R a wanted r f (literal_sound wanted (drop at s) r a f) e (cc)
    go bad f k₁ = apart (cc)
    go short f k₁ = apart (cc)

-- the last stage's outcome is the whole one
pub last : {B : Type 0} (whole : Out B) (s : List ℕ) (p : Reader B) (read : List ℕ) (at : ℕ) → Reached whole s p read at → (k : Stage) → k ≡ stage_of s (p (drop at s)) → k ≡ stage_of s whole
last whole s p read at R k e = e ∙ ap (stage_of s) (sym R.goes_on)

-- ---- the announced length

module _ {B : Type 0} (whole : Out B) (s : List ℕ) (room : ℕ) (q : List ℕ → Reader B) (read : List ℕ) (at : ℕ) (R : Reached whole s (body_length 5 room 0 >>= q) read at) where
  pub record Counted (K : List ℕ → List ℕ → Type 0) (n e : ℕ) : Type 0 where
    pub digits : List ℕ
    pub word : List ℕ
    pub is_word : K digits word
    pub counts : n ≡ worth 0 digits
    pub reached : Reached whole s (q digits) (read ++ word) e

  pub length-on : (K : List ℕ → List ℕ → Type 0) → Exact (body_length 5 room 0) K → (n e : ℕ) → Announced n e ≡ length_of 0 s (body_length 5 room 0 (drop at s)) → Counted K n e
  unfolding length_of
  length-on K X n e k = go (body_length 5 room 0 (drop at s)) refl k
    where
      go : (o : Out (List ℕ)) → body_length 5 room 0 (drop at s) ≡ o → Announced n e ≡ length_of 0 s o → Counted K n e
      go (on a r) f k₁ =
          let i : (w : List ℕ) × K a w × (drop at s ≡ w ++ r) = X.sound (drop at s) r a f in
          record { digits = a; word = i.0; is_word = i.1; counts = cc; reached = next whole s (body_length 5 room 0) q read at R a i.0 r f i.2 e (cc) }
      go bad f k₁ = apart (cc)
      go short f k₁ = apart (cc)

  pub length-bad : BadLength ≡ length_of 0 s (body_length 5 room 0 (drop at s)) → whole ≡ bad
  unfolding length_of
  length-bad k = go (body_length 5 room 0 (drop at s)) refl k
    where
      go : (o : Out (List ℕ)) → body_length 5 room 0 (drop at s) ≡ o → BadLength ≡ length_of 0 s o → whole ≡ bad
      go (on a r) f k₁ = cc
      go bad f k₁ = R.goes_on ∙ bind_bad _ q (drop at s) f
      go short f k₁ = cc

  pub length-short : ShortLength ≡ length_of 0 s (body_length 5 room 0 (drop at s)) → whole ≡ short
  unfolding length_of
  length-short k = go (body_length 5 room 0 (drop at s)) refl k
    where
      go : (o : Out (List ℕ)) → body_length 5 room 0 (drop at s) ≡ o → ShortLength ≡ length_of 0 s o → whole ≡ short
      go (on a r) f k₁ = cc
      go bad f k₁ = cc
      go short f k₁ = R.goes_on ∙ bind_short _ q (drop at s) f

-- ---- any n bytes

any_full : (n : ℕ) (s : List ℕ) → n ≤ length s → any n s ≡ on (take n s) (drop n s)
unfolding any with_head
any_full zero s h = refl
any_full (suc n) [] h = absurd (omega arith)
any_full (suc n) (x ∷ s) h = ap (with_head x) (any_full n s (omega arith))

any_less : (n : ℕ) (s : List ℕ) → length s < n → any n s ≡ short
unfolding any with_head
any_less zero s h = absurd (omega arith)
any_less (suc n) [] h = refl
any_less (suc n) (x ∷ s) h = ap (with_head x) (any_less n s (omega arith))

module _ {B : Type 0} (whole : Out B) (s : List ℕ) (n : ℕ) (q : List ℕ → Reader B) (read : List ℕ) (at : ℕ) (R : Reached whole s (any n >>= q) read at) where
  pub any-on : (e : ℕ) → e ≡ at + n → e ≤ length s → Reached whole s (q (take n (drop at s))) (read ++ take n (drop at s)) e
  any-on e k h =
      let f : any n (drop at s) ≡ on (take n (drop at s)) (drop n (drop at s)) = any_full n (drop at s) (omega (arith, length-drop at s, R.inside)) in
      next whole s (any n) q read at R _ (take n (drop at s)) (drop n (drop at s)) f (sym (take-append-drop n (drop at s))) e (omega (arith, length-drop at s, length-drop n (drop at s), R.inside))

  pub any-short : length s < at + n → whole ≡ short
  any-short h = R.goes_on ∙ bind_short (any n) q (drop at s) (any_less n (drop at s) (omega (arith, length-drop at s, R.inside)))
