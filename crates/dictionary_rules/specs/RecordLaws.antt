-- The laws of reading one record: its numbers, its filling, each way that reading goes, and that a record lies in the dictionary.
use Rattle.std.specs.Prelude.{◌≡◌, Bool, true, false, List, [], ◌∷◌, length, take, drop, eqb, Some, None}
use Rattle.std.proofs.Common.{◌∙◌, drop_of_length-le, get_or-take}
use Prim.Native.Nat.{ℕ, suc, ◌+◌, ◌*◌, ◌≤◌, ◌<◌, ◌-◌}
use Rattle.std.proofs.Math.Numerals.{add-one}
use native.Mathlib.Omega.{arith}
use Rattle.std.proofs.Math.ListN.{get_or, length-drop}
use Rattle.std.proofs.Math.Seq.{drop-cons, take-take, get_or-drop}
use borrow.Author.Tests.{eq-eqb, ne_eqb, le-ltb, lt-ltb}
use Rattle.dictionary_rules.specs.Record.{low_first, record_body_length, zero_filled, with_tag, with_mark, known_tag, field_item_lem, record_body}
use Rattle.dictionary_rules.specs.Record.{with_body, with_kind, record_from, record_at}
use Rattle.dictionary_rules.specs.declared.Record.{Record}
use Rattle.dictionary_rules.specs.declared.Record.TheVariants.{KnownTag, FieldItem}
use Rattle.dictionary_rules.specs.declared.RecordRead.TheVariants.{Whole, Bad, End}

module _ (s : List ℕ) (at : ℕ) where
  pub low-two : at + 2 ≤ length s → low_first (take 2 (drop at s)) ≡ get_or s at 0 + 256 * get_or s (at + 1) 0
  unfolding low_first
  low-two h = rw (add-one, drop-cons s at 0 (omega arith), drop-cons s (suc at) 0 (omega arith)) (omega arith)

  pub low-four : at + 4 ≤ length s → low_first (take 4 (drop at s)) ≡ get_or s at 0 + 256 * get_or s (at + 1) 0 + 65536 * get_or s (at + 2) 0 + 16777216 * get_or s (at + 2 + 1) 0
  unfolding low_first
  low-four h =
      let b : at + 2 ≡ suc (suc at) = omega arith in
      let c : at + 2 + 1 ≡ suc (suc (suc at)) = omega arith in
      rw (c, b, add-one, drop-cons s at 0 (omega arith), drop-cons s (suc at) 0 (omega arith), drop-cons s (suc (suc at)) 0 (omega arith), drop-cons s (suc (suc (suc at))) 0 (omega arith)) (omega arith)

-- four bytes are two and two
pub low_halves : (s : List ℕ) (at : ℕ) → at + 4 ≤ length s → low_first (take 4 (drop at s)) ≡ low_first (take 2 (drop at s)) + 65536 * low_first (take 2 (drop (at + 2) s))
low_halves s at h = rw (low-four s at h, low-two s at (omega arith), low-two s (at + 2) (omega arith)) (omega arith)

-- eight bytes are four and four
pub low-whole : (s : List ℕ) → 8 ≤ length s → low_first (take 8 s) ≡ low_first (take 4 s) + 4294967296 * low_first (take 4 (drop 4 s))
unfolding low_first
low-whole [] l = absurd (omega arith)
low-whole (a ∷ []) l = absurd (omega arith)
low-whole (a ∷ b ∷ []) l = absurd (omega arith)
low-whole (a ∷ b ∷ c ∷ []) l = absurd (omega arith)
low-whole (a ∷ b ∷ c ∷ d ∷ []) l = absurd (omega arith)
low-whole (a ∷ b ∷ c ∷ d ∷ e ∷ []) l = absurd (omega arith)
low-whole (a ∷ b ∷ c ∷ d ∷ e ∷ f ∷ []) l = absurd (omega arith)
low-whole (a ∷ b ∷ c ∷ d ∷ e ∷ f ∷ g ∷ []) l = absurd (omega arith)
low-whole (a ∷ b ∷ c ∷ d ∷ e ∷ f ∷ g ∷ h ∷ s) l = omega arith

module _ (s : List ℕ) (i : ℕ) where
  pub fill_zero : (ended : Bool) → i < length s → get_or s i 0 ≡ 0 → zero_filled ended (drop i s) ≡ zero_filled true (drop (i + 1) s)
  unfolding zero_filled
  fill_zero ended h z = rw (add-one, drop-cons s i 0 h, eq-eqb _ _ z)

  pub fill_text : (ended : Bool) → i < length s → (get_or s i 0 ≡ 0 → ⊥) → ended ≡ false → zero_filled ended (drop i s) ≡ zero_filled ended (drop (i + 1) s)
  unfolding zero_filled
  fill_text ended h z e = rw (e, add-one, drop-cons s i 0 h, ne_eqb _ _ z)

  pub fill_after : (ended : Bool) → i < length s → (get_or s i 0 ≡ 0 → ⊥) → ended ≡ true → zero_filled ended (drop i s) ≡ false
  unfolding zero_filled
  fill_after ended h z e = rw (e, drop-cons s i 0 h, ne_eqb _ _ z)

  pub fill_end : (ended : Bool) → length s ≤ i → zero_filled ended (drop i s) ≡ true
  unfolding zero_filled
  fill_end ended h = rw (drop_of_length-le s h)

-- the body length of each kind
pub length_tag : (kind : ℕ) → kind ≡ 1 → record_body_length kind ≡ 4
unfolding record_body_length
length_tag kind e = rw e

pub length-component : (kind : ℕ) → kind ≡ 2 → record_body_length kind ≡ 2
unfolding record_body_length
length-component kind e = rw e

pub length-message : (kind : ℕ) → kind ≡ 3 → record_body_length kind ≡ 8
unfolding record_body_length
length-message kind e = rw e

pub length-field : (kind : ℕ) → kind ≡ 4 → record_body_length kind ≡ 5
unfolding record_body_length
length-field kind e = rw e

pub length-item : (kind : ℕ) → kind ≡ 5 → record_body_length kind ≡ 3
unfolding record_body_length
length-item kind e = rw e

pub length-group : (kind : ℕ) → kind ≡ 6 → record_body_length kind ≡ 5
unfolding record_body_length
length-group kind e = rw e

-- no kind from 1 to 6
pub length-other : (kind : ℕ) → (kind ≡ 1 → ⊥) → (kind ≡ 2 → ⊥) → (kind ≡ 3 → ⊥) → (kind ≡ 4 → ⊥) → (kind ≡ 5 → ⊥) → (kind ≡ 6 → ⊥) → record_body_length kind ≡ 0
unfolding record_body_length
length-other kind a b c d e f = rw (ne_eqb kind 1 a, ne_eqb kind 2 b, ne_eqb kind 3 c, ne_eqb kind 4 d, ne_eqb kind 5 e, ne_eqb kind 6 f)

pub body-other : (kind : ℕ) (body : List ℕ) → (kind ≡ 1 → ⊥) → (kind ≡ 2 → ⊥) → (kind ≡ 3 → ⊥) → (kind ≡ 4 → ⊥) → (kind ≡ 5 → ⊥) → (kind ≡ 6 → ⊥) → (kind ≡ 7 → ⊥) → record_body kind body ≡ None
unfolding record_body
body-other kind body a b c d e f g = rw (ne_eqb kind 1 a, ne_eqb kind 2 b, ne_eqb kind 3 c, ne_eqb kind 4 d, ne_eqb kind 5 e, ne_eqb kind 6 f, ne_eqb kind 7 g)

module _ (d : List ℕ) (place : ℕ) where
  pub at_end : length d ≤ place → record_at d place ≡ End
  unfolding record_at record_from
  at_end h = rw (drop_of_length-le d h)

  at_kind : place < length d → record_at d place ≡ with_kind place (get_or d place 0) (drop (place + 1) d)
  unfolding record_at record_from
  at_kind h = rw (add-one, drop-cons d place 0 h)

  pub at_cut : place < length d → length d - (place + 1) < record_body_length (get_or d place 0) → record_at d place ≡ Bad
  unfolding with_kind
  at_cut h l = at_kind h ∙ rw (lt-ltb (length (drop (place + 1) d)) (record_body_length (get_or d place 0)) (rw length-drop l))

  at_body : place < length d → record_body_length (get_or d place 0) ≤ length d - (place + 1) → record_at d place ≡ with_body (place + 1 + record_body_length (get_or d place 0)) (record_body (get_or d place 0) (take (record_body_length (get_or d place 0)) (drop (place + 1) d)))
  unfolding with_kind
  at_body h l = at_kind h ∙ rw (le-ltb (length (drop (place + 1) d)) (record_body_length (get_or d place 0)) (rw length-drop l))

  pub at-wrong : place < length d → record_body_length (get_or d place 0) ≤ length d - (place + 1) → record_body (get_or d place 0) (take (record_body_length (get_or d place 0)) (drop (place + 1) d)) ≡ None → record_at d place ≡ Bad
  unfolding with_body
  at-wrong h l e = at_body h l ∙ rw e

  pub at-whole : (r : Record) → place < length d → record_body_length (get_or d place 0) ≤ length d - (place + 1) → record_body (get_or d place 0) (take (record_body_length (get_or d place 0)) (drop (place + 1) d)) ≡ Some r → record_at d place ≡ Whole r (place + 1 + record_body_length (get_or d place 0))
  unfolding with_body
  at-whole r h l e = at_body h l ∙ rw e

  -- the record that a whole body of its kind makes: a known tag, and a field item
  pub at-known_tag : (tag : ℕ) → place + 5 ≤ length d → get_or d place 0 ≡ 1 → tag ≡ low_first (take 4 (drop (place + 1) d)) → (tag ≡ 0 → ⊥)
      → record_at d place ≡ Whole (KnownTag tag) (place + 5)
  unfolding with_body record_body record_body_length known_tag with_tag
  at-known_tag tag h k t z =
      let next : place + 1 + 4 ≡ place + 5 = omega arith in
      at_body (omega arith) (rw k (omega arith)) ∙ rw (k, take-take 4 4 (drop (place + 1) d) (omega arith), ← t, ne_eqb tag 0 z, next)

  pub at-field_item : (tag : ℕ) → place + 6 ≤ length d → get_or d place 0 ≡ 4 → tag ≡ low_first (take 4 (drop (place + 1) d)) → (tag ≡ 0 → ⊥)
      → get_or d (place + 5) 0 ≤ 1 → record_at d place ≡ Whole (FieldItem tag (eqb (get_or d (place + 5) 0) 1)) (place + 6)
  unfolding with_body record_body record_body_length field_item_lem with_mark with_tag
  at-field_item tag h k t z m =
      let next : place + 1 + 5 ≡ place + 6 = omega arith in
      let fifth : place + 1 + 4 ≡ place + 5 = omega arith in
      let five : 4 < 5 = omega arith in
      let mark : get_or (take 5 (drop (place + 1) d)) 4 0 ≡ get_or d (place + 5) 0 = rw (get_or-take, get_or-drop, fifth) in
      at_body (omega arith) (rw k (omega arith))
      ∙ rw (k, mark, take-take 4 5 (drop (place + 1) d) (omega arith), ← t, le-ltb 1 _ m, ne_eqb tag 0 z, next)
