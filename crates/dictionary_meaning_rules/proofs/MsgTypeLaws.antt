-- The laws of MsgType names: each way that reading one goes, from its last byte to its first, and that its number fits.
use Rattle.std.specs.Prelude.{◌≡◌, true, false, List, [], ◌∷◌, get_or, drop, eqb}
use Rattle.std.proofs.Common.{sym, ap, ◌∙◌, arith, drop_of_length-le, drop-cons, Some, None}
use Prim.Native.Nat.{ℕ, zero, suc, ◌+◌, ◌-◌, ◌*◌, ◌≤◌, ◌<◌}
use Rattle.std.proofs.Math.ListN.{length}
use borrow.Author.Tests.{eq-eqb, ne_eqb, lt-ltb, le-ltb}
use Rattle.field_rules.specs.Choice.{pick_same}
use Rattle.dictionary_rules.specs.Record.{low_first}
use Rattle.dictionary_meaning_rules.specs.MsgType.{no_zero, name_of}

-- one more than the largest number of so many bytes
unfoldable pub room : ℕ → ℕ
room zero = 1
room (suc n) = 256 * room n

room_small : (n : ℕ) → n ≤ 7 → room n ≤ 72057594037927936
unfolding room
room_small zero h = omega arith
room_small (suc zero) h = omega arith
room_small (suc (suc zero)) h = omega arith
room_small (suc (suc (suc zero))) h = omega arith
room_small (suc (suc (suc (suc zero)))) h = omega arith
room_small (suc (suc (suc (suc (suc zero))))) h = omega arith
room_small (suc (suc (suc (suc (suc (suc zero)))))) h = omega arith
room_small (suc (suc (suc (suc (suc (suc (suc zero))))))) h = omega arith
room_small (suc (suc (suc (suc (suc (suc (suc (suc n)))))))) h = absurd (omega arith)

-- what was read of a MsgType, from its end back to the place i
pub record ReadBack (value : List ℕ) (number i : ℕ) : Type 0 where
  pub within : i ≤ length value
  pub short : length value ≤ 8
  pub worth : number ≡ low_first (drop i value)
  pub text : no_zero (drop i value) ≡ true
  pub fits : number < room (length value - i)

pub back_start : (value : List ℕ) → length value ≤ 8 → ReadBack value 0 (length value)
unfolding low_first no_zero room
back_start value h =
    let none : drop (length value) value ≡ [] = drop_of_length-le value {i = length value} (omega arith) in
    let size : length value - length value ≡ 0 = omega arith in
    record { within = omega arith; short = h; worth = rw none; text = rw none; fits = rw size (omega arith) }

module _ (value : List ℕ) (number i : ℕ) (back : ReadBack value number i) (more : 0 < i) where
  pub number_fits : number ≤ 72057594037927935
  number_fits = omega (arith, back.fits, back.within, back.short, room_small (length value - i) (omega (arith, back.short)))

  before : drop (i - 1) value ≡ get_or value (i - 1) 0 ∷ drop i value
  before = let e : suc (i - 1) ≡ i = omega arith in rw e at (drop-cons value (i - 1) 0 (omega (arith, back.within)))

  pub back_on : (get_or value (i - 1) 0 ≡ 0 → ⊥) → get_or value (i - 1) 0 < 256 → ReadBack value (number * 256 + get_or value (i - 1) 0) (i - 1)
  unfolding low_first no_zero room
  back_on z b =
      let size : length value - (i - 1) ≡ suc (length value - i) = omega (arith, back.within) in
      record {
        within = omega (arith, back.within);
        short = back.short;
        worth = rw before (omega (arith, back.worth));
        text = rw (before, ne_eqb _ _ z) back.text;
        fits = rw size (omega (arith, back.fits));
      }

zero_in : (value : List ℕ) (i : ℕ) → i < length value → get_or value i 0 ≡ 0 → no_zero value ≡ false
unfolding no_zero
zero_in [] i h z = absurd (omega arith)
zero_in (b ∷ s) zero h z = rw (eq-eqb b 0 z)
zero_in (b ∷ s) (suc i) h z = rw (zero_in s i (omega arith) z) (pick_same (eqb b 0) false)

module _ (value : List ℕ) where
  pub name_empty : length value ≡ 0 → name_of value ≡ None
  unfolding name_of
  name_empty h = rw (eq-eqb _ _ h)

  pub name_long : 8 < length value → name_of value ≡ None
  unfolding name_of
  name_long h = rw (lt-ltb _ _ h, pick_same)

  pub name_zero : (i : ℕ) → i < length value → get_or value i 0 ≡ 0 → name_of value ≡ None
  unfolding name_of
  name_zero i h z = rw (zero_in value i h z, pick_same, pick_same)

  name_whole : (number : ℕ) → (length value ≡ 0 → ⊥) → length value ≤ 8 → number ≡ low_first value → no_zero value ≡ true → name_of value ≡ Some number
  unfolding name_of
  name_whole number some short worth text = rw (ne_eqb _ _ some, le-ltb 8 (length value) short, text, worth)

  pub name_good : (number i : ℕ) → i ≡ 0 → (length value ≡ 0 → ⊥) → ReadBack value number i → name_of value ≡ Some number
  name_good number i z some back =
      name_whole number some back.short (back.worth ∙ ap (λ (k : ℕ). low_first (drop k value)) z) (sym (ap (λ (k : ℕ). no_zero (drop k value)) z) ∙ back.text)
