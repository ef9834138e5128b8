-- The laws of finding a byte: each way that a search goes, and that a found place splits the text at the byte's first occurrence.
use Rattle.std.specs.Prelude.{◌≡◌, refl, Bool, true, false, List, [], ◌∷◌, ◌++◌, ◌≢◌, ℕ, suc, ◌+◌, ◌-◌, ◌≤◌, ◌<◌, length, get_or, take, drop, eqb}
use Rattle.std.proofs.Common.{ap, ◌∙◌, add-one, arith, drop_of_length-le, length-drop, length-append, drop-cons, take_all, Option, Some, None}
use borrow.Author.Tests.{eq-eqb, ne_eqb, eqb-true, eqb-false}
use Rattle.field_rules.specs.Choice.{pick}
use Rattle.field_rules.specs.Find.{find_in}

module _ (b : ℕ) (s : List ℕ) (i : ℕ) where
  pub find_hit : i < length s → get_or s i 0 ≡ b → find_in b i (drop i s) ≡ Some i
  unfolding find_in
  find_hit h e = rw (drop-cons s i 0, eq-eqb _ _ e)

  pub find_miss : i < length s → (get_or s i 0 ≡ b → ⊥) → find_in b i (drop i s) ≡ find_in b (i + 1) (drop (i + 1) s)
  unfolding find_in
  find_miss h e = rw (drop-cons s i 0, ne_eqb _ _ e, add-one)

  pub find_end : length s ≤ i → find_in b i (drop i s) ≡ None
  unfolding find_in
  find_end h = rw (drop_of_length-le s h)

-- what `&s[v..]` holds, as the borrow checker states it, is `drop v s`
pub rest_part : (s : List ℕ) (v : ℕ) → take (length s - v) (drop v s) ≡ drop v s
rest_part s v = take_all (length s - v) (drop v s) (omega (arith, length-drop v s))

-- the byte b does not stand in a text
pub data Absent (b : ℕ) : List ℕ → Type 0 where
  none : Absent b []
  also : {x : ℕ} {s : List ℕ} → x ≢ b → Absent b s → Absent b (x ∷ s)

-- s is `before`, the byte, and `after`, and the byte does not stand in `before`
pub record Splits (b : ℕ) (s : List ℕ) (q : ℕ) : Type 0 where
  pub before : List ℕ
  pub after : List ℕ
  pub whole : s ≡ before ++ (b ∷ after)
  pub size : length before ≡ q
  pub absent : Absent b before

splits_from : (b k : ℕ) (s : List ℕ) (q : ℕ) → find_in b k s ≡ Some q → (p : ℕ) × (q ≡ k + p) × Splits b s p
unfolding find_in
splits_from b k [] q h = let z : ◌≡◌ {A = ℕ} 0 1 = cc in absurd (omega arith)
splits_from b k (x ∷ s) q h = go (eqb x b) refl h (splits_from b (k + 1) s q)
  where
    go : (t : Bool) → eqb x b ≡ t → pick t (Some k) (find_in b (k + 1) s) ≡ Some q → (find_in b (k + 1) s ≡ Some q → (p : ℕ) × (q ≡ k + 1 + p) × Splits b s p) → (p : ℕ) × (q ≡ k + p) × Splits b (x ∷ s) p
    go true e h r =
        let m : k ≡ q = cc in
        (0, omega arith, record { before = []; after = s; whole = ap (λ (y : ℕ). y ∷ s) (eqb-true _ _ e); size = refl; absent = none })
    go false e h r =
        let i = r h in
        let sp : Splits b s i.0 = i.2 in
        (suc i.0, omega (arith, i.1), record { before = x ∷ sp.before; after = sp.after; whole = ap (λ (l : List ℕ). x ∷ l) sp.whole; size = ap suc sp.size; absent = also (eqb-false _ _ e) sp.absent })

-- a found place is the first occurrence
pub find_splits : (b : ℕ) (s : List ℕ) (q : ℕ) → find_in b 0 s ≡ Some q → Splits b s q
find_splits b s q h =
    let i = splits_from b 0 s q h in
    let e : i.0 ≡ q = omega (arith, i.1) in
    rw e at i.2

-- and the first occurrence is found
pub find_joins : (b k : ℕ) (before after : List ℕ) → Absent b before → find_in b k (before ++ (b ∷ after)) ≡ Some (k + length before)
unfolding find_in
find_joins b k [] after none = rw (eq-eqb b b refl) (ap Some (omega arith))
find_joins b k (x ∷ before) after (also n a) = rw (ne_eqb _ _ n) (find_joins b (k + 1) before after a ∙ ap Some (omega arith))

-- a place that was found lies in the list
pub find_in_lem : (b : ℕ) (s : List ℕ) (q : ℕ) → find_in b 0 s ≡ Some q → q < length s
find_in_lem b s q h = let sp = find_splits b s q h in omega (arith, simp length-append at (ap length sp.whole), sp.size)

-- where the list's first element stands decides nothing but the number of the place
module _ (b k : ℕ) (s : List ℕ) where
  pub find_behind : (q : ℕ) → find_in b k s ≡ Some q → k ≤ q
  find_behind q h = omega (arith, (splits_from b k s q h).1)

  pub find_moved : (q : ℕ) → find_in b k s ≡ Some q → find_in b 0 s ≡ Some (q - k)
  find_moved q h =
      let i = splits_from b k s q h in
      let sp : Splits b s i.0 = i.2 in
      ap (find_in b 0) sp.whole ∙ find_joins b 0 sp.before sp.after sp.absent ∙ ap Some (omega (arith, i.1, sp.size))

  pub find_moved-none : find_in b k s ≡ None → find_in b 0 s ≡ None
  find_moved-none h = go (find_in b 0 s) refl
    where
      go : (f : Option ℕ) → find_in b 0 s ≡ f → f ≡ None
      go None e = refl
      go (Some p) e =
          let sp = find_splits b s p e in
          let found : find_in b k s ≡ Some (k + length sp.before) = ap (find_in b k) sp.whole ∙ find_joins b k sp.before sp.after sp.absent in
          let z : ◌≡◌ {A = ℕ} 0 1 = cc in
          absurd (omega arith)
