-- A tag is held where the newest row of its level and tag is newer than the newest row above the level.
use Rattle.std.specs.Prelude.{◌≡◌, Bool, not, List, [], ◌∷◌, ℕ, ◌+◌, ◌≤◌, ◌<◌, length, eqb, leb, ltb}
use Rattle.std.proofs.Math.Path.{refl, ap}
use Rattle.std.proofs.Common.{sym, ◌∙◌, arith}
use Rattle.std.proofs.Math.Bool.{true, false}
use borrow.Author.Tests.{lt-ltb, le-ltb, ltb-false, leb-true, eq-eqb, ne_eqb}
use Rattle.field_rules.specs.Choice.{pick, pick_same}
use Rattle.message_maps.specs.Rows.{Row, row, level_of, matches}
use Rattle.message_lent_rules.specs.Lent.{held_before, follows_on, deepest, field_allowed, head_allowed, row_allowed}
use Rattle.message_allowed.specs.Distinct.{held, tagged, opened, latest, reach, starts_run}

pub tagged_either : (level tag : ℕ) (r : Row) → tagged level tag r ≡ pick (matches 1 level tag r) true (matches 2 level tag r)
unfolding tagged matches
tagged_either level tag (row k l t x) = go (eqb k 1) (eqb k 2) (eqb l level) (eqb t tag)
  where
    go : (a b c d : Bool) → pick d (pick c (pick a true b) false) false ≡ pick (pick a (pick c d false) false) true (pick b (pick c d false) false)
    go true true true true = refl
    go true true true false = refl
    go true true false true = refl
    go true true false false = refl
    go true false true true = refl
    go true false true false = refl
    go true false false true = refl
    go true false false false = refl
    go false true true true = refl
    go false true true false = refl
    go false true false true = refl
    go false true false false = refl
    go false false true true = refl
    go false false true false = refl
    go false false false true = refl
    go false false false false = refl

-- no number passes the number of rows
pub opened_small : (level : ℕ) (before : List Row) → opened level before ≤ length before
unfolding opened
opened_small level [] = omega arith
opened_small level (r ∷ before) = go (ltb (level_of r) level) (opened_small level before)
  where
    go : (t : Bool) → opened level before ≤ length before → pick t (length before + 1) (opened level before) ≤ length (r ∷ before)
    go true h = omega arith
    go false h = omega arith

pub latest_small : (level tag : ℕ) (before : List Row) → latest level tag before ≤ length before
unfolding latest
latest_small level tag [] = omega arith
latest_small level tag (r ∷ before) = go (tagged level tag r) (latest_small level tag before)
  where
    go : (t : Bool) → latest level tag before ≤ length before → pick t (length before + 1) (latest level tag before) ≤ length (r ∷ before)
    go true h = omega arith
    go false h = omega arith

pub same-latest : {l m t u : ℕ} (before : List Row) → l ≡ m → t ≡ u → latest l t before ≡ latest m u before
same-latest before e g = rw (e, g)

-- the law of the table
pub held-latest : (level tag : ℕ) (before : List Row) → held level tag before ≡ ltb (opened level before) (latest level tag before)
unfolding held held_before opened latest
held-latest level tag [] = sym (le-ltb 0 0 (omega arith))
held-latest level tag (r ∷ before) =
    rw (tagged_either level tag r)
    (go (ltb (level_of r) level) (matches 1 level tag r) (matches 2 level tag r) (held-latest level tag before) (opened_small level before)
    (latest_small level tag before))
  where
    go : (s m n : Bool) → held level tag before ≡ ltb (opened level before) (latest level tag before) → opened level before ≤ length before
        → latest level tag before ≤ length before
        → pick (pick s false (pick m true (held_before 1 level tag before))) true (pick s false (pick n true (held_before 2 level tag before)))
        ≡ ltb (pick s (length before + 1) (opened level before)) (pick (pick m true n) (length before + 1) (latest level tag before))
    go true true n rest o l = sym (le-ltb (length before + 1) (length before + 1) (omega arith))
    go true false true rest o l = sym (le-ltb (length before + 1) (length before + 1) (omega arith))
    go true false false rest o l = sym (le-ltb (length before + 1) (latest level tag before) (omega arith))
    go false true n rest o l = sym (lt-ltb (opened level before) (length before + 1) (omega arith))
    go false false true rest o l = pick_same (held_before 1 level tag before) true ∙ sym (lt-ltb (opened level before) (length before + 1) (omega arith))
    go false false false rest o l = rest

-- what a map holds stands behind the last row above it
pub held-within : (level tag : ℕ) (before : List Row) → held level tag before ≡ true → level < reach before
unfolding held held_before reach
held-within level tag [] h = let z : ◌≡◌ {A = ℕ} 0 1 = cc in absurd (omega arith)
held-within level tag (r ∷ before) h = go (ltb (level_of r) level) refl
  where
    go : (s : Bool) → ltb (level_of r) level ≡ s → level < level_of r + 1
    go true q = let n : ◌≡◌ {A = Bool} false true = rw q at h in let z : ◌≡◌ {A = ℕ} 0 1 = cc in absurd (omega arith)
    go false q = omega (arith, ltb-false (level_of r) level q)

pub deepest-reach : (before : List Row) → deepest before ≤ reach before
unfolding deepest reach level_of
deepest-reach [] = omega arith
deepest-reach (row k l t x ∷ before) = go (eqb k 2)
  where
    go : (b : Bool) → pick b (l + 1) l ≤ l + 1
    go true = omega arith
    go false = omega arith

-- the two rules by what is held
module _ (before : List Row) (level tag : ℕ) where
  pub field-held : field_allowed before level tag ≡ pick (eqb level 0) false (pick (eqb tag 0) false (pick (held level tag before) false true))
  unfolding field_allowed held
  field-held = ap (λ (b : Bool). pick (eqb level 0) false (pick (eqb tag 0) false b)) (go (held_before 1 level tag before) (held_before 2 level tag before))
    where
      go : (a b : Bool) → pick a false (pick b false true) ≡ pick (pick a true b) false true
      go true b = refl
      go false b = refl

  pub head_held : (delimiter : ℕ)
      → head_allowed before level tag delimiter
      ≡ pick (eqb level 0) true (pick (eqb tag 0) false
      (pick (eqb delimiter 0) false (pick (held level tag before) (follows_on level tag delimiter before) true)))
  unfolding head_allowed held
  head_held delimiter =
      ap (λ (b : Bool). pick (eqb level 0) true (pick (eqb tag 0) false (pick (eqb delimiter 0) false b)))
      (go (held_before 1 level tag before) (held_before 2 level tag before) (follows_on level tag delimiter before))
    where
      go : (a b f : Bool) → pick a f (pick b f true) ≡ pick (pick a true b) f true
      go true b f = refl
      go false b f = refl

pub not_pick : (b : Bool) → not b ≡ pick b false true
not_pick true = refl
not_pick false = refl

-- when a row starts a run
module _ (before : List Row) (k l t x : ℕ) where
  pub starts_none : (k ≡ 2 → ⊥) → starts_run before (row k l t x) ≡ false
  unfolding starts_run
  starts_none n = rw (ne_eqb k 2 n)

  pub starts-part : k ≡ 2 → l ≡ 0 → starts_run before (row k l t x) ≡ false
  unfolding starts_run
  starts-part e z = rw (eq-eqb k 2 e, eq-eqb l 0 z)

  pub starts-held : k ≡ 2 → (l ≡ 0 → ⊥) → starts_run before (row k l t x) ≡ not (held l t before)
  unfolding starts_run
  starts-held e n = rw (eq-eqb k 2 e, ne_eqb l 0 n) (sym (not_pick (held l t before)))

pub allowed_reach : (before : List Row) (r : Row) → row_allowed before r ≡ true → level_of r ≤ reach before
unfolding row_allowed level_of
allowed_reach before (row k l t x) h = go (leb l (deepest before)) refl
  where
    go : (b : Bool) → leb l (deepest before) ≡ b → l ≤ reach before
    go true q = omega (arith, leb-true l (deepest before) q, deepest-reach before)
    go false q = let n : ◌≡◌ {A = Bool} false true = rw q at h in let z : ◌≡◌ {A = ℕ} 0 1 = cc in absurd (omega arith)
