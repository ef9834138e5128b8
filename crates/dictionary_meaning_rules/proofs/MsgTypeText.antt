-- A MsgType and its number: the bytes of a dictionary's MsgType come back from its number, and a value has that number only if it is the
-- same bytes. So looking a value up by its number is looking it up by its bytes, with its length.
use Rattle.std.specs.Prelude.{◌≡◌, Bool, get_or, take, drop, ltb}
use Rattle.std.proofs.Math.Path.{refl, ap}
use Rattle.std.proofs.Common.{sym, ◌∙◌, Some, None}
use Rattle.std.proofs.Math.Bool.{true, false}
use mathlib.Core.List.{List, [], ◌∷◌}
use Prim.Native.Nat.{ℕ, zero, suc, ◌+◌, ◌*◌, ◌/◌, ◌%◌, ◌≤◌, ◌<◌}
use native.Mathlib.Omega.{arith}
use Rattle.std.proofs.Math.ListN.{length}
use Rattle.std.proofs.Math.Dec.{eqb}
use borrow.Author.Tests.{eq-eqb, ne_eqb, eqb-true, eqb-false, le-ltb, ltb-false}
use Rattle.field_rules.specs.Choice.{pick}
use Rattle.dictionary_layout_rules.specs.Tree.{same_bytes}
use Rattle.dictionary_rules.specs.Record.{low_first, zero_filled}
use Rattle.dictionary_meaning_rules.specs.Meaning.{bytes_within, msg_type_bytes}
use Rattle.dictionary_meaning_rules.specs.MsgType.{no_zero, name_of}
use Rattle.dictionary_meaning_rules.proofs.MsgTypeLaws.{room}

-- numbers that are bytes
pub data Bytes : List ℕ → Type 0 where
  no_bytes : Bytes []
  a_byte : {b : ℕ} {s : List ℕ} → b < 256 → Bytes s → Bytes (b ∷ s)

-- so are those of a part
pub take-bytes : (n : ℕ) {s : List ℕ} → Bytes s → Bytes (take n s)
take-bytes zero h = no_bytes
take-bytes (suc n) no_bytes = no_bytes
take-bytes (suc n) (a_byte b h) = a_byte b (take-bytes n h)

pub drop-bytes : (n : ℕ) {s : List ℕ} → Bytes s → Bytes (drop n s)
drop-bytes zero h = h
drop-bytes (suc n) no_bytes = no_bytes
drop-bytes (suc n) (a_byte b h) = drop-bytes n h

never : {A : Type 0} → true ≡ false → A
never e = let z : ◌≡◌ {A = ℕ} 0 1 = cc in absurd (omega arith)

bytes-none : (k : ℕ) → bytes_within k 0 ≡ []
unfolding bytes_within
bytes-none zero = refl
bytes-none (suc k) = refl

bytes-some : (k m : ℕ) → (m ≡ 0 → ⊥) → bytes_within (suc k) m ≡ m % 256 ∷ bytes_within k (m / 256)
unfolding bytes_within
bytes-some k m z = rw (ne_eqb _ _ z)

-- no zero byte comes first
no_zero-first : (b : ℕ) (s : List ℕ) → no_zero (b ∷ s) ≡ true → (b ≡ 0 → ⊥) × (no_zero s ≡ true)
unfolding no_zero
no_zero-first b s e = go (eqb b 0) refl e
  where
    go : (t : Bool) → eqb b 0 ≡ t → pick t false (no_zero s) ≡ true → (b ≡ 0 → ⊥) × (no_zero s ≡ true)
    go true q w = never (sym w)
    go false q w = (eqb-false _ _ q, w)

-- the bytes of a text come back
text-back : {s : List ℕ} → Bytes s → no_zero s ≡ true → (k : ℕ) → length s ≤ k → bytes_within k (low_first s) ≡ s
unfolding low_first
text-back no_bytes e k h = bytes-none k
text-back (a_byte x r) e zero h = absurd (omega arith)
text-back (a_byte {b} {s} x r) e (suc k) h =
    let f = no_zero-first b s e in
    let some : b + 256 * low_first s ≡ 0 → ⊥ = λ z. f.0 (omega arith) in
    let low : (b + 256 * low_first s) % 256 ≡ b = omega arith in
    let high : (b + 256 * low_first s) / 256 ≡ low_first s = omega arith in
    bytes-some k (b + 256 * low_first s) some ∙ rw (low, high, text-back r f.1 k (omega arith))

-- and so does a number
number-back : (k m : ℕ) → m < room k → low_first (bytes_within k m) ≡ m
unfolding room
number-back zero m h = unfold bytes_within low_first in omega arith
number-back (suc k) m h = go (eqb m 0) refl (number-back k (m / 256))
  where
    go : (t : Bool) → eqb m 0 ≡ t → (m / 256 < room k → low_first (bytes_within k (m / 256)) ≡ m / 256) → low_first (bytes_within (suc k) m) ≡ m
    go true q again = let z = eqb-true m 0 q in unfold low_first in rw (z, bytes-none (suc k))
    go false q again = let r = again (omega arith) in unfold low_first in rw (bytes-some k m (eqb-false m 0 q)) (omega arith)

bytes-short : (k m : ℕ) → length (bytes_within k m) ≤ k
unfolding bytes_within
bytes-short zero m = omega arith
bytes-short (suc k) m = go (eqb m 0) (bytes-short k (m / 256))
  where
    go : (t : Bool) → length (bytes_within k (m / 256)) ≤ k → length (pick t [] (m % 256 ∷ bytes_within k (m / 256))) ≤ suc k
    go true r = omega arith
    go false r = omega arith

same-equal : (s t : List ℕ) → same_bytes s t ≡ true → s ≡ t
unfolding same_bytes
same-equal [] [] e = refl
same-equal [] (y ∷ t) e = never (sym e)
same-equal (x ∷ s) [] e = never (sym e)
same-equal (x ∷ s) (y ∷ t) e = go (eqb x y) refl e (same-equal s t)
  where
    go : (b : Bool) → eqb x y ≡ b → pick b (same_bytes s t) false ≡ true → (same_bytes s t ≡ true → s ≡ t) → x ∷ s ≡ y ∷ t
    go true q w r = let p = eqb-true x y q in let l = r w in cc
    go false q w r = never (sym w)

same_self : (s : List ℕ) → same_bytes s s ≡ true
unfolding same_bytes
same_self [] = refl
same_self (x ∷ s) = rw (eq-eqb x x refl) (same_self s)

-- a number that a dictionary can have for a MsgType
pub record NameNumber (m : ℕ) : Type 0 where
  pub fits : m < room 8
  pub text : no_zero (msg_type_bytes m) ≡ true
  pub some : m ≡ 0 → ⊥

name_text : (value : List ℕ) → (length value ≡ 0 → ⊥) → length value ≤ 8 → no_zero value ≡ true → name_of value ≡ Some (low_first value)
unfolding name_of
name_text value z l e = rw (ne_eqb _ _ z, le-ltb 8 (length value) l, e)

-- a name tells its bytes
name_tells : (value : List ℕ) (n : ℕ) → name_of value ≡ Some n → (length value ≤ 8) × (no_zero value ≡ true) × (low_first value ≡ n)
unfolding name_of
name_tells value n e = go (eqb (length value) 0) (ltb 8 (length value)) refl (no_zero value) refl e
  where
    go : (a b : Bool) → ltb 8 (length value) ≡ b → (c : Bool) → no_zero value ≡ c → pick a None (pick b None (pick c (Some (low_first value)) None)) ≡ Some n → (length value ≤ 8) × (no_zero value ≡ true) × (low_first value ≡ n)
    go true b p c q w = let z : ◌≡◌ {A = ℕ} 0 1 = cc in absurd (omega arith)
    go false true p c q w = let z : ◌≡◌ {A = ℕ} 0 1 = cc in absurd (omega arith)
    go false false p false q w = let z : ◌≡◌ {A = ℕ} 0 1 = cc in absurd (omega arith)
    go false false p true q w = let same : low_first value ≡ n = cc in (ltb-false _ _ p, q, same)

module _ (m : ℕ) (v : NameNumber m) where
  name_back : name_of (msg_type_bytes m) ≡ Some m
  unfolding msg_type_bytes
  name_back =
      let length_some : length (bytes_within 8 m) ≡ suc (length (bytes_within 7 (m / 256))) = ap length (bytes-some 7 m v.some) in
      name_text (bytes_within 8 m) (λ z. absurd (omega arith)) (bytes-short 8 m) v.text ∙ ap Some (number-back 8 m v.fits)

  -- the same bytes have its name
  pub same-named : (value : List ℕ) → same_bytes (msg_type_bytes m) value ≡ true → name_of value ≡ Some m
  same-named value e = ap name_of (sym (same-equal (msg_type_bytes m) value e)) ∙ name_back

-- and what has the name is the same bytes
pub named-same : (m : ℕ) (value : List ℕ) → Bytes value → name_of value ≡ Some m → same_bytes (msg_type_bytes m) value ≡ true
unfolding msg_type_bytes
named-same m value bytes e =
    let t = name_tells value m e in
    let back : bytes_within 8 m ≡ value = ap (bytes_within 8) (sym t.2) ∙ text-back bytes t.1 8 t.0 in
    rw back (same_self value)

-- the number of a zero-filled text
ended-none : (s : List ℕ) → zero_filled true s ≡ true → low_first s ≡ 0
unfolding zero_filled low_first
ended-none [] e = refl
ended-none (b ∷ s) e = go (eqb b 0) refl e (ended-none s)
  where
    go : (t : Bool) → eqb b 0 ≡ t → pick t (zero_filled true s) false ≡ true → (zero_filled true s ≡ true → low_first s ≡ 0) → b + 256 * low_first s ≡ 0
    go true q w r = let z = eqb-true b 0 q in let n = r w in omega arith
    go false q w r = never (sym w)

filled-text : {s : List ℕ} → Bytes s → zero_filled false s ≡ true → (k : ℕ) → length s ≤ k → no_zero (bytes_within k (low_first s)) ≡ true
unfolding low_first
filled-text no_bytes e k h = ap no_zero (bytes-none k) ∙ (unfold no_zero in refl)
filled-text (a_byte x r) e zero h = absurd (omega arith)
filled-text (a_byte {b} {s} x r) e (suc k) h = go (eqb b 0) refl (unfold zero_filled in e) (λ w. filled-text r w k (omega arith))
  where
    go : (t : Bool) → eqb b 0 ≡ t → pick t (zero_filled true s) (zero_filled false s) ≡ true → (zero_filled false s ≡ true → no_zero (bytes_within k (low_first s)) ≡ true) → no_zero (bytes_within (suc k) (b + 256 * low_first s)) ≡ true
    go true q w again =
        let z = eqb-true b 0 q in
        let n = ended-none s w in
        let none : b + 256 * low_first s ≡ 0 = omega arith in
        ap (λ (m : ℕ). no_zero (bytes_within (suc k) m)) none ∙ ap no_zero (bytes-none (suc k)) ∙ (unfold no_zero in refl)
    go false q w again =
        let f = eqb-false b 0 q in
        let some : b + 256 * low_first s ≡ 0 → ⊥ = λ z. f (omega arith) in
        let low : (b + 256 * low_first s) % 256 ≡ b = omega arith in
        let high : (b + 256 * low_first s) / 256 ≡ low_first s = omega arith in
        ap no_zero (bytes-some k (b + 256 * low_first s) some) ∙ ap (λ (l : List ℕ). no_zero l) (cc (ap (λ (m : ℕ). m ∷ bytes_within k ((b + 256 * low_first s) / 256)) low, ap (λ (m : ℕ). b ∷ bytes_within k m) high)) ∙ first (again w)
      where
        first : no_zero (bytes_within k (low_first s)) ≡ true → no_zero (b ∷ bytes_within k (low_first s)) ≡ true
        first e = unfold no_zero in rw q e

filled_fits : {s : List ℕ} → Bytes s → (k : ℕ) → length s ≤ k → low_first s < room k
unfolding low_first room
filled_fits no_bytes zero h = omega arith
filled_fits no_bytes (suc k) h = let r = filled_fits no_bytes k (omega arith) in omega arith
filled_fits (a_byte x r) zero h = absurd (omega arith)
filled_fits (a_byte {b} {s} x r) (suc k) h = let w = filled_fits r k (omega arith) in omega arith

-- a zero-filled text of at most eight bytes that doesn't start with a zero makes the number of a MsgType
pub filled-number : {s : List ℕ} → Bytes s → length s ≤ 8 → zero_filled false s ≡ true → (get_or s 0 0 ≡ 0 → ⊥) → NameNumber (low_first s)
filled-number {s} bytes short filled some =
    record { fits = filled_fits bytes 8 short; text = unfold msg_type_bytes in filled-text bytes filled 8 short; some = first s some }
  where
    first : (l : List ℕ) → (get_or l 0 0 ≡ 0 → ⊥) → low_first l ≡ 0 → ⊥
    first [] f z = f refl
    first (b ∷ l) f z = f (unfold low_first in omega (arith, z))
