-- The announced length: its reader is exact for one to five digits whose value a frame has room for.
use Rattle.std.specs.Prelude.{◌≡◌, refl, ◌≢◌, Bool, true, false, List, [], ◌∷◌, ℕ, zero, suc, ◌+◌, ◌-◌, ◌*◌, ◌≤◌, ◌<◌, eqb, leb, ltb, length}
use Rattle.std.proofs.Common.{sym, arith, ltb-true, ltb-false, leb-true, leb-false, eqb-true}
use Rattle.std.proofs.lemmas.Bool.{eqb-false}
use Rattle.field_rules.specs.Choice.{pick}
use Rattle.field_rules.specs.Number.{is_digit, all_digits, worth}
use Rattle.field_rules.proofs.NumberLaws.{worth-least}
use Rattle.frame_verdict_rules.specs.Frame.{separator, All, all_none, all_more, Byte}
use Rattle.frame_verdict_rules.specs.Readers.{ends, goes, wrong, may_become, digit_kind, body_length}
use Rattle.frame_verdict_rules.specs.Exact.{Exact, exact_same}
use Rattle.frame_verdict_rules.specs.Texts.{Ended, headed_exact, separator_case, pick_case, ends-goes, ends-wrong, goes-wrong}

-- ---- digits

true_false : {X : Type 0} (b : Bool) → b ≡ true → b ≡ false → X
true_false b p q = let z : ◌≡◌ {A = ℕ} 0 1 = cc in absurd (omega arith)

both : (a b : Bool) → pick a b false ≡ true → (a ≡ true) × (b ≡ true)
both true b e = (refl, e)
both false b e = true_false false e refl

pub digit_range : (x : ℕ) → is_digit x ≡ true → (48 ≤ x) × (x ≤ 57)
unfolding is_digit
digit_range x e = let b = both (leb 48 x) (leb x 57) e in (leb-true 48 x b.0, leb-true x 57 b.1)

pub digits_head : (x : ℕ) (a : List ℕ) → all_digits (x ∷ a) ≡ true → is_digit x ≡ true
unfolding all_digits
digits_head x a e = (both (is_digit x) (all_digits a) e).0

pub digits_tail : (x : ℕ) (a : List ℕ) → all_digits (x ∷ a) ≡ true → all_digits a ≡ true
unfolding all_digits
digits_tail x a e = (both (is_digit x) (all_digits a) e).1

pub digits_more : (x : ℕ) (a : List ℕ) → is_digit x ≡ true → all_digits a ≡ true → all_digits (x ∷ a) ≡ true
unfolding all_digits
digits_more x a p q = rw (p, q)

digits_none : all_digits [] ≡ true
unfolding all_digits
digits_none = refl

worth-none : (v : ℕ) → worth v [] ≡ v
unfolding worth
worth-none v = refl

worth-more : (v x : ℕ) (a : List ℕ) → worth v (x ∷ a) ≡ worth (v * 10 + (x - 48)) a
unfolding worth
worth-more v x a = refl

no_digits : (v : ℕ) (a : List ℕ) → length a ≤ 0 → worth v a ≡ v
no_digits v [] h = worth-none v
no_digits v (d ∷ a) h = absurd (omega arith)

-- ---- a number that a frame has room for

-- digits behind digits worth v: at most `left`, and a value of at least 4 that leaves room for the digits
pub record Fitting (left room v : ℕ) (a : List ℕ) : Type 0 where
  pub few : length a ≤ left
  pub digits : all_digits a ≡ true
  pub least : 4 ≤ worth v a
  pub fits : worth v a + length a ≤ room

-- where reading goes on such a number can still come about
pub record CanFit (left room v : ℕ) : Type 0 where
  pub may : may_become left room v ≡ true
  pub wide : 1000 + left ≤ room

may_case : {X : Type 0} (left room v : ℕ) (b : Bool) → may_become left room v ≡ b → (v < 4 → ltb 0 left ≡ b → X) → (4 ≤ v → leb v room ≡ b → X) → X
unfolding may_become
may_case {X} left room v b e f g = go (ltb v 4) refl e
  where
    go : (t : Bool) → ltb v 4 ≡ t → pick t (ltb 0 left) (leb v room) ≡ b → X
    go true q h = f (ltb-true v 4 q) h
    go false q h = g (ltb-false v 4 q) h

may_not : (left room v : ℕ) (a : List ℕ) → may_become left room v ≡ false → length a ≤ left → 4 ≤ worth v a → worth v a ≤ room → ⊥
may_not left room v a m l h k = may_case left room v false m
    (λ p q. omega (arith, p, no_digits v a (omega (arith, l, ltb-false 0 left q)), h))
    (λ p q. omega (arith, leb-false v room q, worth-least a v, k))

some-four : (v : ℕ) → worth v (52 ∷ []) ≡ v * 10 + 4
unfolding worth
some-four v = refl

four_digit : all_digits (52 ∷ []) ≡ true
unfolding all_digits is_digit
four_digit = refl

fitting_one : (left room v : ℕ) → CanFit left room v → (a : List ℕ) × Fitting left room v a × All Byte a
fitting_one left room v c = may_case left room v true c.may
    (λ p q. (52 ∷ [], record { few = omega (arith, ltb-true 0 left q); digits = four_digit; least = omega (arith, some-four v); fits = omega (arith, some-four v, c.wide) }, all_more {x = 52} (omega arith) all_none))
    (λ p q. ([], record { few = omega arith; digits = digits_none; least = omega (arith, worth-none v); fits = omega (arith, worth-none v, leb-true v room q) }, all_none))

-- what each kind says of a byte behind digits worth v
digit_ends : (left room v x : ℕ) → digit_kind left room v x ≡ ends → (x ≡ separator) × (4 ≤ v)
unfolding digit_kind
digit_ends left room v x e = separator_case x _ _ _ e
    (λ p q. pick_case (leb 4 v) _ _ _ q (λ z w. (p, leb-true 4 v z)) (λ z w. ends-wrong (sym w)))
    (λ p q. pick_case (is_digit x) _ _ _ q
    (λ z w. pick_case (eqb left 0) _ _ _ w (λ y u. ends-wrong (sym u)) (λ y u. pick_case (may_become (left - 1) (room - 1) (v * 10 + (x - 48))) _ _ _ u (λ t o. ends-goes (sym o)) (λ t o. ends-wrong (sym o))))
    (λ z w. ends-wrong (sym w)))

digit_goes : (left room v x : ℕ) → digit_kind left room v x ≡ goes → (x ≢ separator) × (is_digit x ≡ true) × (left ≢ 0) × (may_become (left - 1) (room - 1) (v * 10 + (x - 48)) ≡ true)
unfolding digit_kind
digit_goes left room v x e = separator_case x _ _ _ e
    (λ p q. pick_case (leb 4 v) _ _ _ q (λ z w. ends-goes w) (λ z w. goes-wrong (sym w)))
    (λ p q. pick_case (is_digit x) _ _ _ q
    (λ z w. pick_case (eqb left 0) _ _ _ w (λ y u. goes-wrong (sym u)) (λ y u. pick_case (may_become (left - 1) (room - 1) (v * 10 + (x - 48))) _ _ _ u (λ t o. (p, z, eqb-false left 0 y, t)) (λ t o. goes-wrong (sym o))))
    (λ z w. goes-wrong (sym w)))

digit_wrong-end : (left room v x : ℕ) → digit_kind left room v x ≡ wrong → x ≡ separator → 4 ≤ v → ⊥
unfolding digit_kind
digit_wrong-end left room v x e p h = separator_case x _ _ _ e
    (λ _. λ q. pick_case (leb 4 v) _ _ _ q (λ z w. ends-wrong w) (λ z w. omega (arith, leb-false 4 v z, h)))
    (λ n q. n p)

digit_wrong : (left room v x : ℕ) → digit_kind left room v x ≡ wrong → is_digit x ≡ true → left ≢ 0 → may_become (left - 1) (room - 1) (v * 10 + (x - 48)) ≡ false
unfolding digit_kind
digit_wrong left room v x e d n = separator_case x _ _ _ e
    (λ p q. absurd (omega (arith, digit_range x d, p)))
    (λ p q. pick_case (is_digit x) _ _ _ q
    (λ z w. pick_case (eqb left 0) _ _ _ w (λ y u. absurd (n (eqb-true left 0 y))) (λ y u. pick_case (may_become (left - 1) (room - 1) (v * 10 + (x - 48))) _ _ _ u (λ t o. goes-wrong o) (λ t o. t)))
    (λ z w. true_false _ d z))

pre : (left : ℕ) → suc left - 1 ≡ left
pre left = omega arith

-- ends with nothing more: the digits so far are the number
fitting_none : (left room v : ℕ) → CanFit left room v → 4 ≤ v → Fitting left room v []
fitting_none left room v c h = record {
  few = omega arith;
  digits = digits_none;
  least = omega (arith, worth-none v);
  fits = may_case left room v true c.may (λ p q. absurd (omega arith)) (λ p q. omega (arith, worth-none v, leb-true v room q));
}

-- One digit more: the number behind it lacks one digit, and has room for one less.
pub length_exact : (left room v : ℕ) → CanFit left room v → Exact (body_length left room v) (Ended (Fitting left room v))
unfolding body_length
length_exact zero room v c = headed_exact _ _ (Fitting 0 room v) (record {
  one = fitting_one 0 room v c;
  clean = λ x a g. omega (arith, digit_range x (digits_head x a g.digits));
  if_ends = λ x e. let k = digit_ends 0 room v x e in (k.0, fitting_none 0 room v c k.1);
  if_goes = λ x e. absurd ((digit_goes 0 room v x e).2 refl);
  if_wrong-end = λ x e p g. digit_wrong-end 0 room v x e p (omega (arith, worth-none v, g.least));
  if_wrong = λ x a e g. omega (arith, g.few);
})
length_exact (suc left) room v c = headed_exact _ _ (Fitting (suc left) room v) (record {
  one = fitting_one (suc left) room v c;
  clean = λ x a g. omega (arith, digit_range x (digits_head x a g.digits));
  if_ends = λ x e. let k = digit_ends (suc left) room v x e in (k.0, fitting_none (suc left) room v c k.1);
  if_goes = λ x e. let k = digit_goes (suc left) room v x e in (
    k.0,
    exact_same (body_length left (room - 1) (v * 10 + (x - 48))) _ _
        (λ a w m. (m.0, record { few = omega (arith, m.1.few); digits = digits_more x a k.1 m.1.digits; least = omega (arith, worth-more v x a, m.1.least); fits = omega (arith, worth-more v x a, m.1.fits, c.wide) }))
        (λ a w m. (m.0, record { few = omega (arith, m.1.few); digits = digits_tail x a m.1.digits; least = omega (arith, worth-more v x a, m.1.least); fits = omega (arith, worth-more v x a, m.1.fits, c.wide) }))
        (length_exact left (room - 1) (v * 10 + (x - 48)) (record { may = rw (pre left) at k.3; wide = omega (arith, c.wide) })),
  );
  if_wrong-end = λ x e p g. digit_wrong-end (suc left) room v x e p (omega (arith, worth-none v, g.least));
  if_wrong = λ x a e g. may_not left (room - 1) (v * 10 + (x - 48)) a (rw (pre left) at (digit_wrong (suc left) room v x e (digits_head x a g.digits) (λ z. absurd (omega arith)))) (omega (arith, g.few)) (omega (arith, worth-more v x a, g.least)) (omega (arith, worth-more v x a, g.fits));
})
