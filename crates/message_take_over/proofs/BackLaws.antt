-- The way back: records that were laid as the rows of a map stand for that map. By induction over the map: its first row says what the
-- first record joined, and so where it stands.
use Rattle.std.proofs.Math.Path.{◌≡◌, sym}
use Rattle.std.specs.Prelude.{refl, ◌⊎◌, Bool, true, false, List, [], ◌∷◌, ◌++◌, ℕ, zero, suc, ◌+◌, ◌-◌, ◌≤◌, eqb}
use Rattle.std.proofs.Common.{ap, ◌∙◌, inl, inr, ⊎_elim, eqb-true, Option, Some, None}
use native.Mathlib.Omega.{arith}
use Rattle.std.proofs.lemmas.Bool.{eqb-false}
use Rattle.build_records.specs.declared.Record.{Record}
use Rattle.message_maps.specs.Rows.{Row, row}
use Rattle.message_take_over.specs.declared.Joins.TheVariants.{Open, Entry}
use Rattle.message_take_over.specs.Taking.{nearest_in, on_count, joins_of, is_next, are_next, part_heads, own_rows, record_rows, rows_behind}
use Rattle.message_take_over.specs.JoinLaws.{run-same, run_skips, run-next, joins-own, joins-numbered, joins-run, joins-late, joins-count}
use Rattle.message_take_over.specs.StepLaws.{next_is}
use Rattle.message_take_over.specs.StandLaws.{Context}
use Rattle.message_lent_rules.specs.LentLaws.{both}

pub decided : (a b : ℕ) → (a ≡ b) ⊎ (a ≡ b → ⊥)
decided a b = by_test (eqb a b) refl
  where
    by_test : (t : Bool) → eqb a b ≡ t → (a ≡ b) ⊎ (a ≡ b → ⊥)
    by_test true e = inl (eqb-true a b e)
    by_test false e = inr (eqb-false a b e)

-- what joining says of an entry number: 0 in a part's own map
pub open_top : (before : List Record) (r : Record) → r.depth ≡ 0 → joins_of before r ≡ Open → r.number ≡ 0
open_top before r d j =
    ⊎_elim (λ e. e) (λ e. let q = sym (joins-numbered before r d e) ∙ j in let z : ◌≡◌ {A = ℕ} 0 1 = cc in absurd (omega arith)) (decided r.number 0)

pub entry-deep : (before : List Record) (r : Record) (start : ℕ) → joins_of before r ≡ Entry start → r.depth ≡ 0 → ⊥
entry-deep before r start j d =
    ⊎_elim (λ e. let q = sym (joins-own before r d e) ∙ j in let z : ◌≡◌ {A = ℕ} 0 1 = cc in
    omega arith) (λ e. let q = sym (joins-numbered before r d e) ∙ j in let z : ◌≡◌ {A = ℕ} 0 1 = cc in omega arith) (decided r.number 0)

on_count_lem : (q : Record) → on_count (Some q) ≡ Entry q.tag
unfolding on_count
on_count_lem q = refl

module _ (bytes : List ℕ) (part : ℕ) {depth number start entries : ℕ} {before : List Record} (r : Record)
    (c : Context bytes part depth number start entries before) (same : r.part ≡ part) where
  -- the number of the entry that is open
  pub open_number : r.depth ≡ depth → (depth ≡ 0 → number ≡ 0) → joins_of before r ≡ Open → r.number ≡ number
  open_number d top j = ⊎_elim (λ z. open_top before r z j ∙ sym (top (sym d ∙ z))) deep (decided r.depth 0)
    where
      deep : (r.depth ≡ 0 → ⊥) → r.number ≡ number
      deep z =
          let k = joins-run before r z c.count (ap (λ (n : ℕ). nearest_in n before) d ∙ c.nearest) (c.counts.of ∙ sym same) (c.counts.deep ∙ sym d) in
          ⊎_elim (λ e. e ∙ c.counts.numbered)
          (λ e. ⊎_elim
          (λ f. let q = sym (k ∙ run-next before r c.count.number e f _ refl) ∙ j in absurd (not_open (nearest_in (r.depth - 1) before) q))
          (λ f. let q = sym (k ∙ run_skips before r c.count.number e f) ∙ j in let y : ◌≡◌ {A = ℕ} 0 1 = cc in absurd (omega arith))
          (decided r.number (c.count.number + 1)))
          (decided r.number c.count.number)
        where
          not_open : (n : Option Record) → on_count n ≡ Open → ⊥
          not_open None e = let y : ◌≡◌ {A = ℕ} 0 1 = unfold on_count in cc in omega arith
          not_open (Some q) e = let y : ◌≡◌ {A = ℕ} 0 1 = unfold on_count in cc in omega arith

  -- an entry that begins is the next of the run
  pub entry_number : (s : ℕ) → r.depth ≡ depth + 1 → joins_of before r ≡ Entry s → (r.number ≡ entries + 1) × (s ≡ start)
  entry_number s d j = by_entries c.either
    where
      deep : r.depth ≡ 0 → ⊥
      deep z = omega arith

      near : nearest_in r.depth before ≡ Some c.last
      near = ap (λ (n : ℕ). nearest_in n before) d ∙ c.nearest_below

      by_entries : ((entries ≡ 0) × (c.last ≡ c.count)) ⊎ ((c.last.part ≡ part) × (c.last.depth ≡ depth + 1) × (c.last.number ≡ entries))
          → (r.number ≡ entries + 1) × (s ≡ start)
      by_entries (inl (e, l)) =
          let here : nearest_in r.depth before ≡ Some c.count = near ∙ ap Some l in
          let of : c.count.part ≡ r.part = c.counts.of ∙ sym same in
          let higher : c.count.depth ≡ r.depth → ⊥ = λ z. omega (arith, z, c.counts.deep) in
          let below : r.depth ≡ c.count.depth + 1 = omega (arith, c.counts.deep) in
          ⊎_elim
          (λ f. let q = sym (joins-count before r deep c.count here of higher below f) ∙ j in let y : c.count.tag ≡ s = cc in
          (omega arith, sym y ∙ c.starts))
          (λ f. let q = sym (joins-late before r deep c.count here of higher below f) ∙ j in let y : ◌≡◌ {A = ℕ} 0 1 = cc in absurd (omega arith))
          (decided r.number 1)
      by_entries (inr (p, e, n)) =
          let k = joins-run before r deep c.last near (p ∙ sym same) (e ∙ sym d) in
          let up : r.depth - 1 ≡ depth = omega arith in
          ⊎_elim
          (λ f. let q = sym (k ∙ run-same before r c.last.number f) ∙ j in let y : ◌≡◌ {A = ℕ} 0 1 = cc in absurd (omega arith))
          (λ f. ⊎_elim
          (λ g. let q : Entry c.count.tag ≡ Entry s =
          sym (k ∙ run-next before r c.last.number f g (Some c.count) (ap (λ (i : ℕ). nearest_in i before) up ∙ c.nearest) ∙ on_count_lem c.count) ∙ j in
          let y : c.count.tag ≡ s = cc in (omega arith, sym y ∙ c.starts))
          (λ g. let q = sym (k ∙ run_skips before r c.last.number f g) ∙ j in let y : ◌≡◌ {A = ℕ} 0 1 = cc in absurd (omega arith))
          (decided r.number (c.last.number + 1)))
          (decided r.number c.last.number)

-- the first row that is laid for records, below the parts: it is that of the first record, which is of the part that is open
pub record First (part : ℕ) (before : List Record) (rs : List Record) (rows : List Row) : Type 0 where
  pub head : Record
  pub more : List Record
  pub is : rs ≡ head ∷ more
  pub of : head.part ≡ part
  pub lays : own_rows (joins_of before head) head ++ rows_behind part (head ∷ before) more ≡ rows

pub first-row : (size part used : ℕ) (before rs : List Record) (k l t x : ℕ) (rows : List Row) → are_next size part used before rs ≡ true
    → ((k ≡ 2) × (l ≡ 0) → ⊥) → rows_behind part before rs ≡ row k l t x ∷ rows → First part before rs (row k l t x ∷ rows)
unfolding rows_behind record_rows are_next
first-row size part used before [] k l t x rows ok below e = absurd (heads (3 - part) e)
  where
    heads : (n : ℕ) → part_heads n part ≡ row k l t x ∷ rows → ⊥
    heads zero e = let z : ◌≡◌ {A = ℕ} 0 1 = unfold part_heads in cc in omega arith
    heads (suc n) e = let f : row 2 0 (part + 1) 0 ≡ row k l t x = unfold part_heads in cc in let a : 2 ≡ k = cc in let b : 0 ≡ l = cc in below (sym a, sym b)
first-row size part used before (r ∷ rs) k l t x rows ok below e = by_heads (r.part - part) refl e
  where
    on : part ≤ r.part
    on = (next_is size part used before r (both (is_next size part used before r) _ ok).0).on

    by_heads : (n : ℕ) → r.part - part ≡ n → (part_heads n part ++ own_rows (joins_of before r) r) ++ rows_behind r.part (r ∷ before) rs ≡ row k l t x ∷ rows
        → First part before (r ∷ rs) (row k l t x ∷ rows)
    by_heads zero n e =
        let of : r.part ≡ part = omega (arith, on) in
        record {
          head = r;
          more = rs;
          is = refl;
          of = of;
          lays = ap (λ (p : ℕ). own_rows (joins_of before r) r ++ rows_behind p (r ∷ before) rs) (sym of) ∙ (unfold part_heads in e);
        }
    by_heads (suc m) n e =
        let f : row 2 0 (part + 1) 0 ≡ row k l t x = unfold part_heads in cc in let a : 2 ≡ k = cc in let b : 0 ≡ l = cc in absurd (below (sym a, sym b))
