-- From rows to maps: what is found among the rows of a map is what the map has, and a row that is a head names the map below it.
use Rattle.std.specs.Prelude.{◌≡◌, refl, Bool, true, false, ℕ, zero, suc, ◌+◌, ◌-◌, ◌≤◌, ◌<◌, eqb}
use Rattle.std.proofs.Common.{◌∙◌, eq-eqb, ne_eqb}
use Rattle.std.proofs.Math.Path.{ap}
use mathlib.Core.List.{List, [], ◌∷◌, ◌++◌, append_assoc}
use native.Mathlib.Omega.{arith}
use Rattle.std.proofs.Math.ListN.{length, length-append}
use Rattle.field_rules.specs.Choice.{pick}
use Rattle.message_maps.specs.Map.{Map, end, field, entry, none, some, values_in}
use Rattle.message_maps.specs.Rows.{Row, row, laid, row_at, rows_from, size_of, sizes, matches}
use Rattle.message_lent_rules.specs.LaidLaws.{shallow}
use Rattle.message_rules.specs.LookUps.{rows_in, standing, map_at, value_in, entry_in}
use Rattle.message_look_ups.specs.Opening.{is_head, value_from, entry_from}
use Rattle.message_rules.specs.declared.FoundValue.TheVariants as value

-- rows that stand deeper are passed over
module _ (l : ℕ) where
  value_below : (tag : ℕ) (m : Map) (d place : ℕ) (rest : List Row) → l < d → value_from l tag place (laid d m ++ rest) ≡ value_from l tag (place + length (values_in m)) rest
  unfolding laid value_from matches size_of values_in
  value_below tag end d place rest h = ap (λ (n : ℕ). value_from l tag n rest) (omega arith)
  value_below tag (field t v more) d place rest h =
      rw (ne_eqb d l (λ q. omega arith))
      (value_below tag more d (place + length v) rest h ∙ ap (λ (n : ℕ). value_from l tag n rest) (omega (arith, length-append v (values_in more))))
  value_below tag (entry s x own more) d place rest h =
      let z : place + 0 ≡ place = omega arith in
      rw (z, append_assoc (laid (d + 1) own) (laid d more) rest)
      (value_below tag own (d + 1) place (laid d more ++ rest) (omega arith)
      ∙ value_below tag more d (place + length (values_in own)) rest h
      ∙ ap (λ (n : ℕ). value_from l tag n rest) (omega (arith, length-append (values_in own) (values_in more))))

  entry-below : (start number : ℕ) (m : Map) (d at : ℕ) (rest : List Row) → l < d → entry_from l start number at (laid d m ++ rest) ≡ entry_from l start number (at + rows_in m) rest
  unfolding laid entry_from matches rows_in
  entry-below start number end d at rest h = ap (λ (n : ℕ). entry_from l start number n rest) (omega arith)
  entry-below start number (field t v more) d at rest h =
      entry-below start number more d (at + 1) rest h ∙ ap (λ (n : ℕ). entry_from l start number n rest) (omega arith)
  entry-below start number (entry s x own more) d at rest h =
      rw (ne_eqb d l (λ q. omega arith), append_assoc (laid (d + 1) own) (laid d more) rest)
      (entry-below start number own (d + 1) (at + 1) (laid d more ++ rest) (omega arith)
      ∙ entry-below start number more d (at + 1 + rows_in own) rest h
      ∙ ap (λ (n : ℕ). entry_from l start number n rest) (omega arith))

-- what is found among a map's rows
pub value_laid : (l tag place : ℕ) (m : Map) → value_from l tag place (laid l m) ≡ value_in tag place m
unfolding laid value_from value_in matches size_of
value_laid l tag place end = refl
value_laid l tag place (field t v rest) =
    rw (eq-eqb l l refl) (ap (pick (eqb t tag) (value.At (record { place = place; size = length v }))) (value_laid l tag (place + length v) rest))
value_laid l tag place (entry s d own rest) =
    let z : place + 0 ≡ place = omega arith in
    rw z (value_below l tag own (l + 1) place (laid l rest) (omega arith) ∙ value_laid l tag (place + length (values_in own)) rest)

pub entry-laid : (l start number at : ℕ) (m : Map) → entry_from l start number at (laid l m) ≡ entry_in start number at m
unfolding laid entry_from entry_in matches
entry-laid l start number at end = refl
entry-laid l start number at (field t v rest) = entry-laid l start number (at + 1) rest
entry-laid l start number at (entry s d own rest) =
    let one : entry_from l start (number - 1) (at + 1) (laid (l + 1) own ++ laid l rest) ≡ entry_in start (number - 1) (at + 1 + rows_in own) rest =
    entry-below l start (number - 1) own (l + 1) (at + 1) (laid l rest) (omega arith) ∙ entry-laid l start (number - 1) (at + 1 + rows_in own) rest in
    let two : entry_from l start number (at + 1) (laid (l + 1) own ++ laid l rest) ≡ entry_in start number (at + 1 + rows_in own) rest =
    entry-below l start number own (l + 1) (at + 1) (laid l rest) (omega arith) ∙ entry-laid l start number (at + 1 + rows_in own) rest in
    rw (eq-eqb l l refl) (rw (one, two))

-- whether the row of a number is a head
unfoldable pub head_in : ℕ → List Row → Bool
head_in n [] = false
head_in n (r ∷ rows) = pick (eqb n 0) (is_head r) (head_in (n - 1) rows)

pub head_within : (n c i : ℕ) (words : List ℕ) → n < c → head_in n (rows_from c i words) ≡ is_head (row_at words (i + n))
unfolding head_in rows_from
head_within n zero i words h = absurd (omega arith)
head_within zero (suc c) i words h = let e : i + 0 ≡ i = omega arith in rw e
head_within (suc n) (suc c) i words h =
    let e : suc n - 1 ≡ n = omega arith in
    let f : i + 1 + n ≡ i + suc n = omega arith in
    rw (ne_eqb (suc n) 0 (λ q. omega arith), e) (head_within n c (i + 1) words (omega arith) ∙ rw f)

pub head_past : (n : ℕ) (rows : List Row) → length rows ≤ n → head_in n rows ≡ false
unfolding head_in
head_past n [] h = refl
head_past n (r ∷ rows) h = rw (ne_eqb n 0 (λ q. omega arith)) (head_past (n - 1) rows (omega arith))

-- a head with what stands before it, below it and behind it
pub record MapSplit (n l : ℕ) (m : Map) : Type 0 where
  pub level : ℕ
  pub start : ℕ
  pub delimiter : ℕ
  pub own : Map
  pub before : List Row
  pub behind : List Row
  pub values-before : List ℕ
  pub values-behind : List ℕ
  pub rows : laid l m ≡ before ++ (row 2 level start delimiter ∷ (laid (level + 1) own ++ behind))
  pub texts : values_in m ≡ values-before ++ (values_in own ++ values-behind)
  pub size : sizes before ≡ length values-before
  pub place : length before ≡ n
  pub deep : (l ≤ level) × (level ≤ l + n)
  pub ends : shallow level behind ≡ true
  pub named : (at : ℕ) → map_at n at m ≡ some (standing own (at + length values-before))

pub data MapNamed (n l : ℕ) (m : Map) : Type 0 where
  there : MapSplit n l m → MapNamed n l m
  nowhere : head_in n (laid l m) ≡ false → ((at : ℕ) → map_at n at m ≡ none) → MapNamed n l m
