-- Where a map's fields and runs stand in its rows. Each law is an induction over the map: rows that stand deeper are passed over, and what
-- is found splits the map in front of it and behind it.
use Rattle.std.specs.Prelude.{◌≡◌, refl, false, List, ◌∷◌, ◌++◌, eqb}
use Rattle.std.proofs.Common.{sym, ◌∙◌, append_assoc, ne_eqb, lt-ltb}
use Rattle.std.proofs.Math.Path.{ap}
use Prim.Native.Nat.{ℕ, suc, ◌+◌, ◌<◌}
use native.Mathlib.Omega.{arith}
use Rattle.std.proofs.Math.ListN.{length, length-append}
use Rattle.std.proofs.lemmas.Bool.{lt-leb}
use Rattle.field_rules.specs.Choice.{pick_same}
use Rattle.message_maps.specs.Map.{Map, end, field, entry, joined, field_count, values_in}
use Rattle.message_maps.specs.Rows.{Row, row, laid, level_of, matches, find_from, end_from, in_run, run_end_from}
pub use Rattle.message_lent_rules.proofs.MeantLaws.{joined_end}
pub use Rattle.message_lent_rules.specs.LaidLaws.{sizes-append, sizes-laid}

pub joined_assoc : (a b c : Map) → joined (joined a b) c ≡ joined a (joined b c)
unfolding joined
joined_assoc end b c = refl
joined_assoc (field t v rest) b c = ap (field t v) (joined_assoc rest b c)
joined_assoc (entry s d own rest) b c = ap (entry s d own) (joined_assoc rest b c)

pub laid-joined : (l : ℕ) (a b : Map) → laid l (joined a b) ≡ laid l a ++ laid l b
unfolding joined laid
laid-joined l end b = refl
laid-joined l (field t v rest) b = ap (λ (r : List Row). row 1 l t (length v) ∷ r) (laid-joined l rest b)
laid-joined l (entry s d own rest) b =
    ap (λ (r : List Row). row 2 l s d ∷ (laid (l + 1) own ++ r)) (laid-joined l rest b)
    ∙ ap (λ (r : List Row). row 2 l s d ∷ r) (sym (append_assoc (laid (l + 1) own) (laid l rest) (laid l b)))

pub values-joined : (a b : Map) → values_in (joined a b) ≡ values_in a ++ values_in b
unfolding joined values_in
values-joined end b = refl
values-joined (field t v rest) b = ap (λ (r : List ℕ). v ++ r) (values-joined rest b) ∙ sym (append_assoc v (values_in rest) (values_in b))
values-joined (entry s d own rest) b =
    ap (λ (r : List ℕ). values_in own ++ r) (values-joined rest b) ∙ sym (append_assoc (values_in own) (values_in rest) (values_in b))

pub count-joined : (a b : Map) → field_count (joined a b) ≡ field_count a + field_count b
unfolding joined field_count
count-joined end b = omega arith
count-joined (field t v rest) b = omega (arith, count-joined rest b)
count-joined (entry s d own rest) b = omega (arith, count-joined rest b)

-- rows that stand deeper are passed over
module _ (l : ℕ) where
  pub end_below : (m : Map) (d at : ℕ) (rest : List Row) → l < d → end_from l at (laid d m ++ rest) ≡ end_from l (at + length (laid d m)) rest
  unfolding laid end_from level_of
  end_below end d at rest h = ap (λ (n : ℕ). end_from l n rest) (omega arith)
  end_below (field t v more) d at rest h =
      let e : at + 1 + length (laid d more) ≡ at + suc (length (laid d more)) = omega arith in
      rw (lt-leb d l h) (end_below more d (at + 1) rest h ∙ rw e)
  end_below (entry s x own more) d at rest h =
      let e : at + 1 + length (laid (d + 1) own) + length (laid d more) ≡ at + suc (length (laid (d + 1) own ++ laid d more)) = omega (arith, length-append (laid (d + 1) own) (laid d more)) in
      rw (lt-leb d l h)
      (ap (end_from l (at + 1)) (append_assoc (laid (d + 1) own) (laid d more) rest)
      ∙ end_below own (d + 1) (at + 1) (laid d more ++ rest) (omega arith)
      ∙ end_below more d (at + 1 + length (laid (d + 1) own)) rest h
      ∙ rw e)

  pub find_below : (kind tag : ℕ) (m : Map) (d at : ℕ) (rest : List Row) → l < d → find_from kind l tag at (laid d m ++ rest) ≡ find_from kind l tag (at + length (laid d m)) rest
  unfolding laid find_from matches
  find_below kind tag end d at rest h = ap (λ (n : ℕ). find_from kind l tag n rest) (omega arith)
  find_below kind tag (field t v more) d at rest h =
      let e : at + 1 + length (laid d more) ≡ at + suc (length (laid d more)) = omega arith in
      rw (ne_eqb d l (λ q. omega arith), pick_same (eqb 1 kind) false) (find_below kind tag more d (at + 1) rest h ∙ rw e)
  find_below kind tag (entry s x own more) d at rest h =
      let e : at + 1 + length (laid (d + 1) own) + length (laid d more) ≡ at + suc (length (laid (d + 1) own ++ laid d more)) = omega (arith, length-append (laid (d + 1) own) (laid d more)) in
      rw (ne_eqb d l (λ q. omega arith), pick_same (eqb 2 kind) false)
      (ap (find_from kind l tag (at + 1)) (append_assoc (laid (d + 1) own) (laid d more) rest)
      ∙ find_below kind tag own (d + 1) (at + 1) (laid d more ++ rest) (omega arith)
      ∙ find_below kind tag more d (at + 1 + length (laid (d + 1) own)) rest h
      ∙ rw e)

  pub run-end-below : (start : ℕ) (m : Map) (d at : ℕ) (rest : List Row) → l < d → run_end_from l start at (laid d m ++ rest) ≡ run_end_from l start (at + length (laid d m)) rest
  unfolding laid run_end_from in_run level_of
  run-end-below start end d at rest h = ap (λ (n : ℕ). run_end_from l start n rest) (omega arith)
  run-end-below start (field t v more) d at rest h =
      let e : at + 1 + length (laid d more) ≡ at + suc (length (laid d more)) = omega arith in
      rw (lt-ltb l d h) (run-end-below start more d (at + 1) rest h ∙ rw e)
  run-end-below start (entry s x own more) d at rest h =
      let e : at + 1 + length (laid (d + 1) own) + length (laid d more) ≡ at + suc (length (laid (d + 1) own ++ laid d more)) = omega (arith, length-append (laid (d + 1) own) (laid d more)) in
      rw (lt-ltb l d h)
      (ap (run_end_from l start (at + 1)) (append_assoc (laid (d + 1) own) (laid d more) rest)
      ∙ run-end-below start own (d + 1) (at + 1) (laid d more ++ rest) (omega arith)
      ∙ run-end-below start more d (at + 1 + length (laid (d + 1) own)) rest h
      ∙ rw e)
