-- Rows deeper than a row below a head are no fields of the head's own, and don't end it: they may be passed over.
use Rattle.std.specs.Prelude.{◌≡◌, refl, Bool, true, false, List, ℕ, zero, suc, ◌+◌, ◌-◌, ◌≤◌, ◌<◌, length, get_or, set, eqb, leb}
use Rattle.std.proofs.Common.{ap, ◌∙◌, subst, arith, get_or-set_same, get_or-set_other, ne_eqb, eqb-true, leb-true, leb-false}
use Rattle.std.proofs.lemmas.Bool.{eqb-false}
use Rattle.field_rules.specs.Choice.{pick_same}
use Rattle.message_maps.specs.Rows.{Row, row, row_at, rows_from, level_of, end_from}
use Rattle.message_maps.specs.RowsLaws.{end-here, end_on, end-end}
use Rattle.message_lent_rules.specs.Lent.{is_own, own_below, weight, fields_in}
use Rattle.message_lent_rules.specs.LentLaws.{own_on, fields-on}
use Rattle.message_lent.specs.Counted.{Ended}

-- a row at another level is no field of a head's own
not_own : (level : ℕ) (r : Row) → (level_of r ≡ level → ⊥) → is_own level r ≡ false
unfolding is_own level_of
not_own level (row k l t x) n = rw (ne_eqb l level n) (pick_same (eqb k 1) false)

module _ (words : List ℕ) (to : ℕ) where
  module _ (m : ℕ) where
    -- by how many rows are left
    bounds : (n i : ℕ) → n ≡ to - i → i ≤ to → (i ≤ end_from m i (rows_from (to - i) i words)) × (end_from m i (rows_from (to - i) i words) ≤ to)
    bounds zero i e h = rw (end-end words i to (omega arith) m) (omega arith, h)
    bounds (suc n) i e h = go (leb (level_of (row_at words i)) m) refl (bounds n (i + 1) (omega arith) (omega arith))
      where
        go : (b : Bool) → leb (level_of (row_at words i)) m ≡ b
            → ((i + 1) ≤ end_from m (i + 1) (rows_from (to - (i + 1)) (i + 1) words)) × (end_from m (i + 1) (rows_from (to - (i + 1)) (i + 1) words) ≤ to)
            → (i ≤ end_from m i (rows_from (to - i) i words)) × (end_from m i (rows_from (to - i) i words) ≤ to)
        go true q later = rw (end-here words i to (omega arith) m (leb-true (level_of (row_at words i)) m q)) (omega arith, h)
        go false q later = rw (end_on words i to (omega arith) m (leb-false (level_of (row_at words i)) m q)) (omega (arith, later.0), later.1)

    end_bounds : (i : ℕ) → i ≤ to → (i ≤ end_from m i (rows_from (to - i) i words)) × (end_from m i (rows_from (to - i) i words) ≤ to)
    end_bounds i h = bounds (to - i) i refl h

    module _ (level : ℕ) (deeper : level < m) where
      passing : (n i : ℕ) → n ≡ to - i
          → own_below level (rows_from (to - i) i words)
          ≡ own_below level (rows_from (to - end_from m i (rows_from (to - i) i words)) (end_from m i (rows_from (to - i) i words)) words)
      passing zero i e = rw (end-end words i to (omega arith) m)
      passing (suc n) i e = go (leb (level_of (row_at words i)) m) refl (passing n (i + 1) (omega arith))
        where
          go : (b : Bool) → leb (level_of (row_at words i)) m ≡ b
              → own_below level (rows_from (to - (i + 1)) (i + 1) words)
              ≡ own_below level (rows_from (to - end_from m (i + 1) (rows_from (to - (i + 1)) (i + 1) words))
              (end_from m (i + 1) (rows_from (to - (i + 1)) (i + 1) words)) words)
              → own_below level (rows_from (to - i) i words)
              ≡ own_below level (rows_from (to - end_from m i (rows_from (to - i) i words)) (end_from m i (rows_from (to - i) i words)) words)
          go true q later = rw (end-here words i to (omega arith) m (leb-true (level_of (row_at words i)) m q))
          go false q later =
              let deep = leb-false (level_of (row_at words i)) m q in
              rw (end_on words i to (omega arith) m deep)
              (own_on words i to (omega arith) level (omega (arith, deep)) (not_own (level + 1) (row_at words i) (λ s. omega (arith, deep, s))) ∙ later)

      own_past : (i : ℕ)
          → own_below level (rows_from (to - i) i words)
          ≡ own_below level (rows_from (to - end_from m i (rows_from (to - i) i words)) (end_from m i (rows_from (to - i) i words)) words)
      own_past i = passing (to - i) i refl

      ending : (n i : ℕ) → n ≡ to - i
          → end_from level i (rows_from (to - i) i words)
          ≡ end_from level (end_from m i (rows_from (to - i) i words))
          (rows_from (to - end_from m i (rows_from (to - i) i words)) (end_from m i (rows_from (to - i) i words)) words)
      ending zero i e = rw (end-end words i to (omega arith) m)
      ending (suc n) i e = go (leb (level_of (row_at words i)) m) refl (ending n (i + 1) (omega arith))
        where
          go : (b : Bool) → leb (level_of (row_at words i)) m ≡ b
              → end_from level (i + 1) (rows_from (to - (i + 1)) (i + 1) words)
              ≡ end_from level (end_from m (i + 1) (rows_from (to - (i + 1)) (i + 1) words))
              (rows_from (to - end_from m (i + 1) (rows_from (to - (i + 1)) (i + 1) words)) (end_from m (i + 1) (rows_from (to - (i + 1)) (i + 1) words)) words)
              → end_from level i (rows_from (to - i) i words)
              ≡ end_from level (end_from m i (rows_from (to - i) i words))
              (rows_from (to - end_from m i (rows_from (to - i) i words)) (end_from m i (rows_from (to - i) i words)) words)
          go true q later = rw (end-here words i to (omega arith) m (leb-true (level_of (row_at words i)) m q))
          go false q later =
              let deep = leb-false (level_of (row_at words i)) m q in
              rw (end_on words i to (omega arith) m deep) (end_on words i to (omega arith) level (omega (arith, deep)) ∙ later)

      end_past : (i : ℕ)
          → end_from level i (rows_from (to - i) i words)
          ≡ end_from level (end_from m i (rows_from (to - i) i words))
          (rows_from (to - end_from m i (rows_from (to - i) i words)) (end_from m i (rows_from (to - i) i words)) words)
      end_past i = ending (to - i) i refl

-- one step along the ends
module _ (words : List ℕ) (to i n : ℕ) (more : i < to) (link : n ≡ end_from (level_of (row_at words i)) (i + 1) (rows_from (to - (i + 1)) (i + 1) words)) where
  pub link_bounds : (i < n) × (n ≤ to)
  link_bounds =
      let b = end_bounds words to (level_of (row_at words i)) (i + 1) (omega arith) in
      (omega (arith, b.0, link), omega (arith, b.1, link))

  pub own-link : (level : ℕ) → level < level_of (row_at words i) → is_own (level + 1) (row_at words i) ≡ false
      → own_below level (rows_from (to - i) i words) ≡ own_below level (rows_from (to - n) n words)
  own-link level deeper other =
      rw link (own_on words i to more level deeper other ∙ own_past words to (level_of (row_at words i)) level deeper (i + 1))

  pub end-link : (level : ℕ) → level < level_of (row_at words i) → end_from level i (rows_from (to - i) i words) ≡ end_from level n (rows_from (to - n) n words)
  end-link level deeper =
      rw link (end_on words i to more level deeper ∙ end_past words to (level_of (row_at words i)) level deeper (i + 1))

pub ended-none : (words : List ℕ) (to : ℕ) (ends : List ℕ) → Ended words to to ends
unfolding Ended
ended-none words to ends i a b = absurd (omega arith)

pub ended-on : (words : List ℕ) (i to e : ℕ) (ends : List ℕ) → i < length ends
    → e ≡ end_from (level_of (row_at words i)) (i + 1) (rows_from (to - (i + 1)) (i + 1) words) → Ended words (i + 1) to ends → Ended words i to (set ends i e)
unfolding Ended
ended-on words i to e ends room link later j a b = go (eqb j i) refl
  where
    go : (t : Bool) → eqb j i ≡ t → get_or (set ends i e) j 0 ≡ end_from (level_of (row_at words j)) (j + 1) (rows_from (to - (j + 1)) (j + 1) words)
    go true q = rw (eqb-true j i q) (get_or-set_same ends i e 0 room ∙ link)
    go false q = let n = eqb-false j i q in get_or-set_other ends i j e 0 n ∙ later j (up n) b
      where
        up : (j ≡ i → ⊥) → i + 1 ≤ j
        up n = omega arith

-- one row back
module _ (words : List ℕ) (i to : ℕ) (some : 0 < i) where
  back : i ≡ i - 1 + 1
  back = omega arith

  pub ended-back : (ends : List ℕ) → Ended words i to ends → Ended words (i - 1 + 1) to ends
  ended-back ends h = subst (λ (n : ℕ). Ended words n to ends) back h

  pub fields_back : (floor f w : ℕ) → i ≤ to → f ≡ fields_in floor (rows_from (to - i) i words)
      → w ≡ weight floor (row_at words (i - 1)) (rows_from (to - (i - 1 + 1)) (i - 1 + 1) words)
      → f + w ≡ fields_in floor (rows_from (to - (i - 1)) (i - 1) words)
  fields_back floor f w h e g =
      let later : f ≡ fields_in floor (rows_from (to - (i - 1 + 1)) (i - 1 + 1) words) = e ∙ ap (λ (n : ℕ). fields_in floor (rows_from (to - n) n words)) back in
      omega (arith, later, g, fields-on words (i - 1) to (omega arith) floor)

-- the place kept for a row is where the rows below it end
pub link : (words ends : List ℕ) (from to i : ℕ) → Ended words from to ends → from ≤ i → i < to
    → get_or ends i 0 ≡ end_from (level_of (row_at words i)) (i + 1) (rows_from (to - (i + 1)) (i + 1) words)
unfolding Ended
link words ends from to i kept h more = kept i h more
