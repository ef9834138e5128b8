-- Lent records are filled in two runs of stores: those that are shown, and blank ones behind them. Both together leave what one run over all would.
use Rattle.std.specs.Prelude.{ℕ, zero, suc, ◌+◌, ◌-◌, ◌≤◌, ◌<◌, min, ◌≡◌, refl, length, set, replicate}
use Rattle.std.proofs.Common.{suc-le-suc, sym, ◌∙◌, not-suc-le-zero, le_of_suc-le-suc, zero-lt-suc, add-sub_of_le, arith, take_all}
use Rattle.std.proofs.Math.Path.{ap}
use mathlib.Core.List.{List, [], ◌∷◌, ◌++◌}
use Rattle.std.proofs.Math.Nat.{sub-zero, suc-sub-suc}
use Rattle.std.proofs.Math.ListN.{take, drop}
use Rattle.std.proofs.lemmas.List.{length-replicate, get_or-replicate}
use Rattle.std.proofs.Math.Seq.{paste, paste-zero, paste-suc}
use Rattle.std.proofs.lemmas.List.Edits.{length-paste}
use Rattle.face_messages.specs.declared.FieldRecord.{FieldRecord}
use Rattle.face_messages.specs.Lent.{blank_field, field_record_at, table, filled, blanked}
use Rattle.face_messages.specs.LentLaws.{field_past}

-- ===== blank records, stored one after the other =====

module _ (from written : ℕ) (xs : List FieldRecord) where
  abbrev all : List FieldRecord
  all = replicate (written - from) blank_field

  many : length all ≡ written - from
  many = length-replicate (written - from) blank_field

  -- k of them are stored
  abbrev pub blanks : ℕ → List FieldRecord
  blanks k = paste xs from all k

  pub blanks-none : xs ≡ blanks 0
  blanks-none = paste-zero xs from all

  pub blanks-all : from ≤ written → blanks (written - from) ≡ blanked from written xs
  unfolding blanked
  blanks-all ordered =
      ap (λ (s : List FieldRecord). take from xs ++ s ++ drop (from + (written - from)) xs) (take_all (written - from) all (omega (arith, many)))
      ∙ ap (λ (end : ℕ). take from xs ++ all ++ drop end xs) (add-sub_of_le ordered)

  module _ (lent : written ≤ length xs) where
    pub blanks-next : (k : ℕ) → from + k < written → set (blanks k) (from + k) blank_field ≡ blanks (suc k)
    blanks-next k h =
        ap (set (blanks k) (from + k)) (sym (get_or-replicate (written - from) k blank_field blank_field (omega arith)))
        ∙ paste-suc xs from all k blank_field (omega (arith, lent)) (omega (arith, many))

    -- the blank record at place i is stored
    pub blanks_at : (i : ℕ) → from ≤ i → i < written → set (blanks (i - from)) i blank_field ≡ blanks (i + 1 - from)
    blanks_at i h below =
        let e : from + (i - from) ≡ i = omega (arith, h) in
        let more : suc (i - from) ≡ i + 1 - from = omega (arith, h) in
        ap (λ (j : ℕ). set (blanks (i - from)) j blank_field) (sym e) ∙ blanks-next (i - from) (omega (arith, e, below)) ∙ ap blanks more

    pub length-blanks : (k : ℕ) → from + k ≤ written → length (blanks k) ≡ length xs
    length-blanks k h = length-paste xs from all k (omega (arith, lent)) (omega (arith, many))

-- ===== blank records behind those that are shown =====

table_same : {A : Type 0} (f : ℕ → A) (y : A) (n : ℕ) → ((k : ℕ) → k < n → f k ≡ y) → table f n ≡ replicate n y
unfolding table
table_same f y zero h = refl
table_same f y (suc n) h = λ i. h 0 (zero-lt-suc n) i ∷ table_same (λ k. f (suc k)) y n (λ k l. h (suc k) (suc-le-suc l)) i

-- a table of c, and so many y behind it that there are w, is a table of w
table-behind : {A : Type 0} (f : ℕ → A) (y : A) (c w : ℕ) (xs : List A) → c ≤ w → w ≤ length xs → ((k : ℕ) → c ≤ k → k < w → f k ≡ y)
    → take c (table f c ++ drop c xs) ++ replicate (w - c) y ++ drop w (table f c ++ drop c xs) ≡ table f w ++ drop w xs
unfolding table
table-behind {A} f y zero w xs few lent h =
    ap (λ (n : ℕ). replicate n y ++ drop w xs) (sub-zero w)
    ∙ ap (λ (l : List A). l ++ drop w xs) (sym (table_same f y w (λ k l. h k (omega arith) l)))
table-behind f y (suc c) zero xs few lent h = absurd (not-suc-le-zero few)
table-behind f y (suc c) (suc w) [] few lent h = absurd (not-suc-le-zero lent)
table-behind {A} f y (suc c) (suc w) (x ∷ xs) few lent h =
    let rest : List A = table (λ k. f (suc k)) c ++ drop c xs in
    ap (λ (n : ℕ). f 0 ∷ (take c rest ++ replicate n y ++ drop w rest)) (suc-sub-suc w c)
    ∙ ap (f 0 ∷◌) (table-behind (λ k. f (suc k)) y c w xs (le_of_suc-le-suc few) (le_of_suc-le-suc lent) (λ k l m. h (suc k) (suc-le-suc l) (suc-le-suc m)))

-- what is shown of those that are written over, and blank ones behind
pub filled-blanked : (words : List ℕ) (shown written : ℕ) (lent : List FieldRecord) (count : ℕ) → count ≡ min shown written → written ≤ length lent
    → blanked count written (filled words shown count lent) ≡ filled words shown written lent
unfolding filled blanked
filled-blanked words shown written lent count e within =
    table-behind (field_record_at words shown) blank_field count written lent (omega (arith, e)) within
    (λ k l m. sym (field_past words shown k (omega (arith, e))))
