-- The steps by which rows are gone through, forwards and backwards.
use Rattle.std.specs.Prelude.{◌≡◌, true, false, ℕ, zero, suc, ◌+◌, ◌-◌, ◌*◌, ◌≤◌, ◌<◌, drop, replicate}
use Rattle.std.proofs.Math.Path.{refl, sym, ap}
use Rattle.std.proofs.Common.{◌∙◌, arith, length-drop, length-take, take_at, drop_at, drop-drop}
use mathlib.Core.List.{List, [], ◌∷◌, ◌++◌, append_assoc}
use Rattle.std.proofs.Math.ListN.{length, length-append}
use Rattle.std.proofs.lemmas.List.{length-replicate}
use Rattle.std.proofs.Math.Seq.{drop-nil, take-length}
use Rattle.std.proofs.Math.Nat.{sub-zero}
use borrow.Author.Tests.{le-leb, lt-leb}
use Rattle.field_rules.specs.Decimal.{written_at}
use Rattle.field_rules.proofs.DecimalLaws.{written_fits}
use Rattle.message_maps.specs.Rows.{row_at, rows_from, rows_before, level_of, size_of, matches, find_from, end_from, in_run, run_end_from, sizes, padded, part, message_rows, message_words}

pub rows_step : (words : List ℕ) (i to : ℕ) → i < to → rows_from (to - i) i words ≡ row_at words i ∷ rows_from (to - (i + 1)) (i + 1) words
unfolding rows_from
rows_step words i to h = let e : to - i ≡ suc (to - (i + 1)) = omega arith in rw e

pub rows_none : (words : List ℕ) (i to : ℕ) → to ≤ i → rows_from (to - i) i words ≡ []
unfolding rows_from
rows_none words i to h = let e : to - i ≡ 0 = omega arith in rw e

pub before-step : (words : List ℕ) (i : ℕ) → 0 < i → rows_before i words ≡ row_at words (i - 1) ∷ rows_before (i - 1) words
unfolding rows_before
before-step words i h = let e : i ≡ suc (i - 1) = omega arith in ap (λ (n : ℕ). rows_before n words) e

-- one law for each way that a scan goes
module _ (words : List ℕ) (i to : ℕ) (more : i < to) where
  module _ (kind level tag : ℕ) where
    pub find_here : matches kind level tag (row_at words i) ≡ true → find_from kind level tag i (rows_from (to - i) i words) ≡ i
    unfolding find_from
    find_here m = rw (rows_step words i to more, m)

    pub find_on : matches kind level tag (row_at words i) ≡ false → find_from kind level tag i (rows_from (to - i) i words) ≡ find_from kind level tag (i + 1) (rows_from (to - (i + 1)) (i + 1) words)
    unfolding find_from
    find_on m = rw (rows_step words i to more, m)

  module _ (level : ℕ) where
    pub end-here : level_of (row_at words i) ≤ level → end_from level i (rows_from (to - i) i words) ≡ i
    unfolding end_from
    end-here m = rw (rows_step words i to more, le-leb _ _ m)

    pub end_on : level < level_of (row_at words i) → end_from level i (rows_from (to - i) i words) ≡ end_from level (i + 1) (rows_from (to - (i + 1)) (i + 1) words)
    unfolding end_from
    end_on m = rw (rows_step words i to more, lt-leb _ _ m)

  module _ (level start : ℕ) where
    pub run-end-here : in_run level start (row_at words i) ≡ false → run_end_from level start i (rows_from (to - i) i words) ≡ i
    unfolding run_end_from
    run-end-here m = rw (rows_step words i to more, m)

    pub run-end-on : in_run level start (row_at words i) ≡ true → run_end_from level start i (rows_from (to - i) i words) ≡ run_end_from level start (i + 1) (rows_from (to - (i + 1)) (i + 1) words)
    unfolding run_end_from
    run-end-on m = rw (rows_step words i to more, m)

  pub sizes-on : sizes (rows_from (to - i) i words) ≡ size_of (row_at words i) + sizes (rows_from (to - (i + 1)) (i + 1) words)
  unfolding sizes
  sizes-on = rw (rows_step words i to more)

-- at the end of the rows each scan stands at the end
module _ (words : List ℕ) (i to : ℕ) (past : to ≤ i) where
  pub find_end : (kind level tag : ℕ) → find_from kind level tag i (rows_from (to - i) i words) ≡ i
  unfolding find_from
  find_end kind level tag = rw (rows_none words i to past)

  pub end-end : (level : ℕ) → end_from level i (rows_from (to - i) i words) ≡ i
  unfolding end_from
  end-end level = rw (rows_none words i to past)

  pub run-end-end : (level start : ℕ) → run_end_from level start i (rows_from (to - i) i words) ≡ i
  unfolding run_end_from
  run-end-end level start = rw (rows_none words i to past)

  pub sizes-end : sizes (rows_from (to - i) i words) ≡ 0
  unfolding sizes
  sizes-end = rw (rows_none words i to past)

pub padded-length : (n : ℕ) (s : List ℕ) → length s ≤ n → length (padded n s) ≡ n
unfolding padded
padded-length n s h = simp (length-append, length-replicate) (omega arith)

pub part_length : {A : Type 0} (from to : ℕ) (s : List A) → from ≤ to → to ≤ length s → length (part from to s) ≡ to - from
unfolding part
part_length from to s h k = simp (length-take, length-drop) (omega arith)

pub drop-same : {A : Type 0} (x : A) (k m : ℕ) → drop m (replicate k x) ≡ replicate (k - m) x
drop-same x zero m = rw (drop-nil m) (let e : 0 - m ≡ 0 = omega arith in rw e)
drop-same x (suc k) zero = rw sub-zero
drop-same x (suc k) (suc m) = let e : suc k - suc m ≡ k - m = omega arith in rw e (drop-same x k m)

pub part-all : {A : Type 0} (s : List A) → part 0 (length s) s ≡ s
unfolding part
part-all s = rw (sub-zero, take-length s)

-- what is written behind a list, in front of its zeros
pub written_next : (n at : ℕ) (s new : List ℕ) → at ≡ length s → length s + length new ≤ n → written_at at new (padded n s) ≡ padded n (s ++ new)
unfolding padded
written_next n at s new e room =
    let zeros : List ℕ = replicate (n - length s) 0 in
    written_fits at new (s ++ zeros) (simp (length-append, length-replicate) (omega arith))
    ∙ rw (take_at s zeros at (sym e), ← drop-drop (length new) at (s ++ zeros), drop_at s zeros at (sym e), append_assoc, length-append)
    (let e : n - length s - length new ≡ n - (length s + length new) = omega arith in
    ap (λ (t : List ℕ). s ++ (new ++ t)) (drop-same 0 (n - length s) (length new) ∙ rw e))

-- as many words as the rows take, and one that counts them
row_words : message_words ≡ 1 + 4 * message_rows
row_words = refl
