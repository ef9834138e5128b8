-- The small readers from a place of the bytes, as a loop over an index meets them: one law for each way that a turn goes.
use mathlib.Core.Path.{◌≡◌, refl, ap}
use mathlib.Core.Bool.{Bool, true, false}
use mathlib.Core.List.{List, []}
use Prim.Native.Nat.{ℕ, zero, suc, ◌+◌, ◌-◌, ◌*◌, ◌≤◌, ◌<◌}
use native.Mathlib.Numerals.{add-one}
use native.Mathlib.Omega.{arith}
use lib.ListN.{length, drop, get_or, drop_of_length-le, length-drop}
use lib.Seq.{drop-cons}
use lib.Dec.{leb, ltb}
use borrow.Author.Tests.{eq-eqb, ne_eqb, le-leb, lt-leb, ltb-true, leb-true}
use Rattle.field_rules.specs.Choice.{pick}
use Rattle.field_rules.specs.Number.{is_digit, worth}
use Rattle.frame_verdict_rules.specs.Readers.{Out, on, bad, short, Reader, literal, with_head, Kind, ends, goes, wrong, headed, text_kind, text, may_become}
use Rattle.frame_verdict_rules.specs.Readers.{digit_kind, body_length}
use Rattle.frame_verdict_rules.specs.Verdict.{stage_of, length_of}
use Rattle.frame_verdict_rules.specs.declared.Stage.TheVariants.{On, Bad, Short}
use Rattle.frame_verdict_rules.specs.declared.Length.TheVariants.{Announced, BadLength, ShortLength}

-- ---- given bytes

module _ (p s : List ℕ) (i j : ℕ) where
  pub literal-goes : i < length p → j < length s → get_or p i 0 ≡ get_or s j 0 → literal (drop i p) (drop j s) ≡ literal (drop (i + 1) p) (drop (j + 1) s)
  unfolding literal
  literal-goes hp hs e = rw (add-one i, add-one j, drop-cons p i 0, drop-cons s j 0, eq-eqb (get_or p i 0) (get_or s j 0) e)

  pub literal-bad : i < length p → j < length s → (get_or p i 0 ≡ get_or s j 0 → ⊥) → stage_of s (literal (drop i p) (drop j s)) ≡ Bad
  unfolding literal stage_of
  literal-bad hp hs e = rw (drop-cons p i 0, drop-cons s j 0, ne_eqb (get_or p i 0) (get_or s j 0) e)

  pub literal-short : i < length p → length s ≤ j → stage_of s (literal (drop i p) (drop j s)) ≡ Short
  unfolding literal stage_of
  literal-short hp hs = rw (drop-cons p i 0, drop_of_length-le s hs)

  pub literal-on : length p ≤ i → j ≤ length s → stage_of s (literal (drop i p) (drop j s)) ≡ On j
  unfolding literal stage_of
  literal-on hp hs = rw (drop_of_length-le p hp) (ap On (omega (arith, length-drop j s)))

-- ---- texts

-- by what the byte at the place i is
module _ (kind : ℕ → Kind) (next : ℕ → Reader (List ℕ)) (s : List ℕ) (i : ℕ) (h : i < length s) where
  pub byte_ends : kind (get_or s i 0) ≡ ends → headed kind next (drop i s) ≡ on [] (drop (i + 1) s)
  unfolding headed
  byte_ends e = rw (add-one, drop-cons s i 0, e, headed)

  pub byte_wrong : kind (get_or s i 0) ≡ wrong → headed kind next (drop i s) ≡ bad
  unfolding headed
  byte_wrong e = rw (drop-cons s i 0, e, headed)

  pub byte_goes : kind (get_or s i 0) ≡ goes → headed kind next (drop i s) ≡ with_head (get_or s i 0) (next (get_or s i 0) (drop (i + 1) s))
  unfolding headed
  byte_goes e = rw (add-one, drop-cons s i 0, e, headed)

byte_none : (kind : ℕ → Kind) (next : ℕ → Reader (List ℕ)) (s : List ℕ) (i : ℕ) → length s ≤ i → headed kind next (drop i s) ≡ short
unfolding headed
byte_none kind next s i h = rw (drop_of_length-le s h)

place : (s : List ℕ) (i : ℕ) → i < length s → length s - length (drop (i + 1) s) ≡ i + 1
place s i h = omega (arith, length-drop (i + 1) s)

stage_on : (s : List ℕ) (i : ℕ) (o : Out (List ℕ)) → i < length s → o ≡ on [] (drop (i + 1) s) → stage_of s o ≡ On (i + 1)
unfolding stage_of
stage_on s i o h e = rw (e, place s i h)

stage_bad : (s : List ℕ) (o : Out (List ℕ)) → o ≡ bad → stage_of s o ≡ Bad
unfolding stage_of
stage_bad s o e = rw e

stage_short : (s : List ℕ) (o : Out (List ℕ)) → o ≡ short → stage_of s o ≡ Short
unfolding stage_of
stage_short s o e = rw e

stage_head : (s : List ℕ) (x : ℕ) (o q : Out (List ℕ)) → o ≡ with_head x q → stage_of s o ≡ stage_of s q
unfolding stage_of with_head
stage_head s x o (on a r) e = rw e
stage_head s x o bad e = rw e
stage_head s x o short e = rw e

kind_ends : (least most x : ℕ) → x ≡ 1 → least ≡ 0 → text_kind least most x ≡ ends
unfolding text_kind
kind_ends least most x e l = rw (eq-eqb x 1 e, eq-eqb least 0 l)

kind_early : (least most x : ℕ) → x ≡ 1 → (least ≡ 0 → ⊥) → text_kind least most x ≡ wrong
unfolding text_kind
kind_early least most x e l = rw (eq-eqb x 1 e, ne_eqb least 0 l)

kind_late : (least most x : ℕ) → (x ≡ 1 → ⊥) → most ≡ 0 → text_kind least most x ≡ wrong
unfolding text_kind
kind_late least most x e l = rw (ne_eqb x 1 e, eq-eqb most 0 l)

kind_goes : (least most x : ℕ) → (x ≡ 1 → ⊥) → (most ≡ 0 → ⊥) → text_kind least most x ≡ goes
unfolding text_kind
kind_goes least most x e l = rw (ne_eqb x 1 e, ne_eqb most 0 l)

module _ (s : List ℕ) (i least : ℕ) where
  pub text-ends : (most : ℕ) → i < length s → get_or s i 0 ≡ 1 → least ≡ 0 → stage_of s (text least most (drop i s)) ≡ On (i + 1)
  unfolding text
  text-ends zero h e l = stage_on s i _ h (byte_ends _ _ s i h (kind_ends least 0 _ e l))
  text-ends (suc most) h e l = stage_on s i _ h (byte_ends _ _ s i h (kind_ends least (suc most) _ e l))

  pub text-early : (most : ℕ) → i < length s → get_or s i 0 ≡ 1 → (least ≡ 0 → ⊥) → stage_of s (text least most (drop i s)) ≡ Bad
  unfolding text
  text-early zero h e l = stage_bad s _ (byte_wrong _ _ s i h (kind_early least 0 _ e l))
  text-early (suc most) h e l = stage_bad s _ (byte_wrong _ _ s i h (kind_early least (suc most) _ e l))

  pub text-late : (most : ℕ) → i < length s → (get_or s i 0 ≡ 1 → ⊥) → most ≡ 0 → stage_of s (text least most (drop i s)) ≡ Bad
  unfolding text
  text-late zero h e l = stage_bad s _ (byte_wrong _ _ s i h (kind_late least 0 _ e l))
  text-late (suc most) h e l = absurd (omega arith)

  pub text-goes : (most : ℕ) → i < length s → (get_or s i 0 ≡ 1 → ⊥) → (most ≡ 0 → ⊥)
      → stage_of s (text least most (drop i s)) ≡ stage_of s (text (least - 1) (most - 1) (drop (i + 1) s))
  unfolding text
  text-goes zero h e l = absurd (l refl)
  text-goes (suc most) h e l = let y : suc most - 1 ≡ most = omega arith in rw y (stage_head s _ _ _ (byte_goes _ _ s i h (kind_goes least (suc most) _ e l)))

  pub text-none : (most : ℕ) → length s ≤ i → stage_of s (text least most (drop i s)) ≡ Short
  unfolding text
  text-none zero h = stage_short s _ (byte_none _ _ s i h)
  text-none (suc most) h = stage_short s _ (byte_none _ _ s i h)

-- ---- the announced length

-- a number that can still become N leaves room for one digit more
pub may_small : (left room v : ℕ) → may_become left room v ≡ true → room ≤ 8192 → v ≤ 8192
unfolding may_become
may_small left room v e h = go (ltb v 4) refl e
  where
    go : (b : Bool) → ltb v 4 ≡ b → pick b (ltb 0 left) (leb v room) ≡ true → v ≤ 8192
    go true q m = omega (arith, ltb-true v 4 q)
    go false q m = omega (arith, leb-true v room m)

length-on : (v : ℕ) (s : List ℕ) (i : ℕ) (o : Out (List ℕ)) → i < length s → o ≡ on [] (drop (i + 1) s) → length_of v s o ≡ Announced v (i + 1)
unfolding length_of worth
length-on v s i o h e = rw (e, place s i h)

length-bad : (v : ℕ) (s : List ℕ) (o : Out (List ℕ)) → o ≡ bad → length_of v s o ≡ BadLength
unfolding length_of
length-bad v s o e = rw e

length-short : (v : ℕ) (s : List ℕ) (o : Out (List ℕ)) → o ≡ short → length_of v s o ≡ ShortLength
unfolding length_of
length-short v s o e = rw e

length_head : (v : ℕ) (s : List ℕ) (x : ℕ) (o q : Out (List ℕ)) → o ≡ with_head x q → length_of v s o ≡ length_of (v * 10 + (x - 48)) s q
unfolding length_of with_head worth
length_head v s x o (on a r) e = rw e
length_head v s x o bad e = rw e
length_head v s x o short e = rw e

digit_ends : (left room v x : ℕ) → x ≡ 1 → 4 ≤ v → digit_kind left room v x ≡ ends
unfolding digit_kind
digit_ends left room v x e h = rw (eq-eqb x 1 e, le-leb 4 v h)

digit_few : (left room v x : ℕ) → x ≡ 1 → v < 4 → digit_kind left room v x ≡ wrong
unfolding digit_kind
digit_few left room v x e h = rw (eq-eqb x 1 e, lt-leb 4 v h)

digit_low : (left room v x : ℕ) → (x ≡ 1 → ⊥) → x < 48 → digit_kind left room v x ≡ wrong
unfolding digit_kind is_digit
digit_low left room v x e h = rw (ne_eqb x 1 e, lt-leb 48 x h)

digit_high : (left room v x : ℕ) → (x ≡ 1 → ⊥) → 57 < x → digit_kind left room v x ≡ wrong
unfolding digit_kind is_digit
digit_high left room v x e h = rw (ne_eqb x 1 e, le-leb 48 x (omega arith), lt-leb x 57 h)

digit_more : (room v x : ℕ) → (x ≡ 1 → ⊥) → 48 ≤ x → x ≤ 57 → digit_kind 0 room v x ≡ wrong
unfolding digit_kind is_digit
digit_more room v x e h k = rw (ne_eqb x 1 e, le-leb 48 x h, le-leb x 57 k)

digit_large : (left room v x : ℕ) → (x ≡ 1 → ⊥) → 48 ≤ x → x ≤ 57 → (left ≡ 0 → ⊥) → may_become (left - 1) (room - 1) (v * 10 + (x - 48)) ≡ false
    → digit_kind left room v x ≡ wrong
unfolding digit_kind is_digit
digit_large left room v x e h k z m = rw (ne_eqb x 1 e, le-leb 48 x h, le-leb x 57 k, ne_eqb left 0 z, m)

digit_goes : (left room v x : ℕ) → (x ≡ 1 → ⊥) → 48 ≤ x → x ≤ 57 → (left ≡ 0 → ⊥) → may_become (left - 1) (room - 1) (v * 10 + (x - 48)) ≡ true
    → digit_kind left room v x ≡ goes
unfolding digit_kind is_digit
digit_goes left room v x e h k z m = rw (ne_eqb x 1 e, le-leb 48 x h, le-leb x 57 k, ne_eqb left 0 z, m)

module _ (s : List ℕ) (i room v : ℕ) where
  pub length-ends : (left : ℕ) → i < length s → get_or s i 0 ≡ 1 → 4 ≤ v → length_of v s (body_length left room v (drop i s)) ≡ Announced v (i + 1)
  unfolding body_length
  length-ends zero h e l = length-on v s i _ h (byte_ends _ _ s i h (digit_ends 0 room v _ e l))
  length-ends (suc left) h e l = length-on v s i _ h (byte_ends _ _ s i h (digit_ends (suc left) room v _ e l))

  length-wrong : (left : ℕ) → i < length s → digit_kind left room v (get_or s i 0) ≡ wrong → length_of v s (body_length left room v (drop i s)) ≡ BadLength
  unfolding body_length
  length-wrong zero h e = length-bad v s _ (byte_wrong _ _ s i h e)
  length-wrong (suc left) h e = length-bad v s _ (byte_wrong _ _ s i h e)

  pub length-few : (left : ℕ) → i < length s → get_or s i 0 ≡ 1 → v < 4 → length_of v s (body_length left room v (drop i s)) ≡ BadLength
  length-few left h e l = length-wrong left h (digit_few left room v _ e l)

  pub length-low : (left : ℕ) → i < length s → (get_or s i 0 ≡ 1 → ⊥) → get_or s i 0 < 48 → length_of v s (body_length left room v (drop i s)) ≡ BadLength
  length-low left h e l = length-wrong left h (digit_low left room v _ e l)

  pub length_high : (left : ℕ) → i < length s → (get_or s i 0 ≡ 1 → ⊥) → 57 < get_or s i 0 → length_of v s (body_length left room v (drop i s)) ≡ BadLength
  length_high left h e l = length-wrong left h (digit_high left room v _ e l)

  pub length_more : (left : ℕ) → i < length s → (get_or s i 0 ≡ 1 → ⊥) → 48 ≤ get_or s i 0 → get_or s i 0 ≤ 57 → left ≡ 0
      → length_of v s (body_length left room v (drop i s)) ≡ BadLength
  length_more zero h e a b z = length-wrong 0 h (digit_more room v _ e a b)
  length_more (suc left) h e a b z = absurd (omega arith)

  pub length_large : (left : ℕ) → i < length s → (get_or s i 0 ≡ 1 → ⊥) → 48 ≤ get_or s i 0 → get_or s i 0 ≤ 57 → (left ≡ 0 → ⊥)
      → may_become (left - 1) (room - 1) (v * 10 + (get_or s i 0 - 48)) ≡ false → length_of v s (body_length left room v (drop i s)) ≡ BadLength
  length_large left h e a b z m = length-wrong left h (digit_large left room v _ e a b z m)

  pub length-goes : (left : ℕ) → i < length s → (get_or s i 0 ≡ 1 → ⊥) → 48 ≤ get_or s i 0 → get_or s i 0 ≤ 57 → (left ≡ 0 → ⊥)
      → may_become (left - 1) (room - 1) (v * 10 + (get_or s i 0 - 48)) ≡ true →
      length_of v s (body_length left room v (drop i s))
      ≡ length_of (v * 10 + (get_or s i 0 - 48)) s (body_length (left - 1) (room - 1) (v * 10 + (get_or s i 0 - 48)) (drop (i + 1) s))
  unfolding body_length
  length-goes zero h e a b z m = absurd (z refl)
  length-goes (suc left) h e a b z m =
      let y : suc left - 1 ≡ left = omega arith in rw y (length_head v s _ _ _ (byte_goes _ _ s i h (digit_goes (suc left) room v _ e a b z m)))

  pub length_none : (left : ℕ) → length s ≤ i → length_of v s (body_length left room v (drop i s)) ≡ ShortLength
  unfolding body_length
  length_none zero h = length-short v s _ (byte_none _ _ s i h)
  length_none (suc left) h = length-short v s _ (byte_none _ _ s i h)
