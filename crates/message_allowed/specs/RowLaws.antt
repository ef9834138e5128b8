-- Rows by their numbers.
use Rattle.std.specs.Prelude.{◌≡◌, Bool, List, ◌∷◌, leb}
use Rattle.std.proofs.Math.Path.{refl}
use Rattle.std.proofs.Common.{ap, arith, add-one}
use Rattle.std.proofs.Math.Bool.{true, false}
use Prim.Native.Nat.{ℕ, zero, suc, ◌+◌, ◌-◌, ◌≤◌, ◌<◌}
use Rattle.std.proofs.Math.ListN.{length}
use Rattle.std.proofs.Math.Dec.{ltb}
use borrow.Author.Tests.{le-leb, lt-leb, ltb-true, ltb-false}
use Rattle.field_rules.specs.Choice.{pick}
use Rattle.message_maps.specs.Rows.{row_at, rows_before, level_of}
use Rattle.message_lent_rules.specs.Lent.{continues, follows_on}
use Rattle.message_allowed.specs.Distinct.{tagged, opened, latest}
use Rattle.message_allowed.specs.DistinctLaws.{opened_small}

pub before-length : (i : ℕ) (words : List ℕ) → length (rows_before i words) ≡ i
unfolding rows_before
before-length zero words = refl
before-length (suc i) words = ap suc (before-length i words)

pub before-next : (words : List ℕ) (i : ℕ) → rows_before (i + 1) words ≡ row_at words i ∷ rows_before i words
unfolding rows_before
before-next words i = rw (add-one i)

pub opened-few : (words : List ℕ) (level i : ℕ) → opened level (rows_before i words) ≤ i
opened-few words level i = omega (arith, opened_small level (rows_before i words), before-length i words)

module _ (words : List ℕ) (level tag : ℕ) where
  pub latest-here : (i : ℕ) → tagged level tag (row_at words i) ≡ true → latest level tag (rows_before (i + 1) words) ≡ i + 1
  unfolding latest
  latest-here i h = rw (before-next words i, h, before-length i words)

  pub latest-on : (i : ℕ) → tagged level tag (row_at words i) ≡ false → latest level tag (rows_before (i + 1) words) ≡ latest level tag (rows_before i words)
  unfolding latest
  latest-on i h = rw (before-next words i, h)

-- the run that a head may go on with ends at the newest row above the level below its own
module _ (words : List ℕ) (level start delimiter : ℕ) where
  pub follows_nothing : (i : ℕ) → opened (level + 1) (rows_before i words) ≡ 0 → follows_on level start delimiter (rows_before i words) ≡ false
  unfolding follows_on opened rows_before
  follows_nothing zero h = refl
  follows_nothing (suc i) h = go (ltb (level_of (row_at words i)) (level + 1)) refl (follows_nothing i)
    where
      go : (t : Bool) → ltb (level_of (row_at words i)) (level + 1) ≡ t
          → (opened (level + 1) (rows_before i words) ≡ 0 → follows_on level start delimiter (rows_before i words) ≡ false)
          → pick (leb (level_of (row_at words i)) level) (continues level start delimiter (row_at words i))
          (follows_on level start delimiter (rows_before i words)) ≡ false
      go true q later = let z : length (rows_before i words) + 1 ≡ 0 = rw q at h in absurd (omega arith)
      go false q later = rw (lt-leb (level_of (row_at words i)) level (omega (arith, ltb-false (level_of (row_at words i)) (level + 1) q))) (later (rw q at h))

  pub follows_row : (i : ℕ) → 0 < opened (level + 1) (rows_before i words)
      → follows_on level start delimiter (rows_before i words) ≡ continues level start delimiter (row_at words (opened (level + 1) (rows_before i words) - 1))
  unfolding follows_on opened rows_before
  follows_row zero h = absurd (omega arith)
  follows_row (suc i) h = go (ltb (level_of (row_at words i)) (level + 1)) refl (follows_row i)
    where
      go : (t : Bool) → ltb (level_of (row_at words i)) (level + 1) ≡ t
          → (0 < opened (level + 1) (rows_before i words) → follows_on level start delimiter (rows_before i words)
          ≡ continues level start delimiter (row_at words (opened (level + 1) (rows_before i words) - 1)))
          → pick (leb (level_of (row_at words i)) level) (continues level start delimiter (row_at words i))
          (follows_on level start delimiter (rows_before i words))
          ≡ continues level start delimiter (row_at words (pick t (length (rows_before i words) + 1) (opened (level + 1) (rows_before i words)) - 1))
      go true q later =
          let e : length (rows_before i words) + 1 - 1 ≡ i = omega (arith, before-length i words) in
          rw (e, le-leb (level_of (row_at words i)) level (omega (arith, ltb-true (level_of (row_at words i)) (level + 1) q)))
      go false q later = rw (lt-leb (level_of (row_at words i)) level (omega (arith, ltb-false (level_of (row_at words i)) (level + 1) q))) (later (rw q at h))
