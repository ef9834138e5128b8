-- A run has no count where its first entry finds none: an entry that finds another entry in front of it, and no count, was told of already.
-- So along the rows it is enough to ask of each head whether it starts a run.
use Rattle.std.specs.Prelude.{◌≡◌, Bool, List, [], ◌∷◌, ℕ, ◌+◌, ◌-◌, ◌≤◌, ◌<◌, eqb, ltb}
use Rattle.std.proofs.Math.Path.{refl}
use Rattle.std.proofs.Common.{sym, arith, eqb-true, ne_eqb}
use Rattle.std.proofs.Math.Bool.{true, false}
use Rattle.std.proofs.lemmas.Bool.{eqb-false}
use Rattle.field_rules.specs.Choice.{pick, pick_same}
use Rattle.message_maps.specs.Rows.{Row, row, row_at, rows_from, rows_before, level_of, matches}
use Rattle.message_maps.specs.RowsLaws.{rows_step, rows_none}
use Rattle.message_lent_rules.specs.Lent.{held_before, rows_allowed}
use Rattle.message_lent_rules.specs.Standing.{is_uncounted, uncounted, counting, standing_of}
use Rattle.message_lent_rules.specs.declared.Standing.TheVariants.{Refused, Uncounted, Counted}
use Rattle.message_allowed.specs.Distinct.{held, starts_run, loose}
use Rattle.message_allowed.specs.RowLaws.{before-next}

never : {A : Type 0} → ◌≡◌ {A = Bool} false true → A
never h = let z : ◌≡◌ {A = ℕ} 0 1 = cc in absurd (omega arith)

-- a row that is an entry of a map, without a count in front of it
found-loose : (l t : ℕ) (r : Row) (before : List Row) → matches 2 l t r ≡ true → held_before 1 l t before ≡ false → (l ≡ 0 → ⊥) → is_uncounted before r ≡ true
unfolding matches is_uncounted
found-loose l t (row k m u x) before hit free deep = go (eqb k 2) (eqb m l) refl (eqb u t) refl hit
  where
    go : (a b : Bool) → eqb m l ≡ b → (c : Bool) → eqb u t ≡ c → pick a (pick b c false) false ≡ true
        → pick a (pick (eqb m 0) false (pick (held_before 1 m u before) false true)) false ≡ true
    go true true p true q h = rw (eqb-true m l p, eqb-true u t q, ne_eqb l 0 deep, free)
    go true true p false q h = never h
    go true false p c q h = never h
    go false b p c q h = never h

entry-loose : (l t : ℕ) (before : List Row) → held_before 2 l t before ≡ true → held_before 1 l t before ≡ false → (l ≡ 0 → ⊥) → loose before ≡ true
unfolding held_before loose
entry-loose l t [] some free deep = never some
entry-loose l t (r ∷ before) some free deep =
    go (ltb (level_of r) l) (matches 2 l t r) refl (matches 1 l t r) some free (λ s f. entry-loose l t before s f deep)
  where
    go : (a b : Bool) → matches 2 l t r ≡ b → (c : Bool) → pick a false (pick b true (held_before 2 l t before)) ≡ true
        → pick a false (pick c true (held_before 1 l t before)) ≡ false
        → (held_before 2 l t before ≡ true → held_before 1 l t before ≡ false → loose before ≡ true) → pick (is_uncounted before r) true (loose before) ≡ true
    go true b p c s f later = never s
    go false b p true s f later = never (sym f)
    go false true p false s f later = rw (found-loose l t r before p f deep)
    go false false p false s f later = rw (later s f) (pick_same (is_uncounted before r) true)

-- the law of the flag
pub loose-next : (r : Row) (before : List Row) → pick (loose before) true (starts_run before r) ≡ loose (r ∷ before)
unfolding loose starts_run is_uncounted held
loose-next (row k l t x) before = go (eqb k 2) (eqb l 0) refl (held_before 1 l t before) refl (held_before 2 l t before) refl
  where
    swap : (a b : Bool) → pick a true b ≡ pick b true a
    swap true true = refl
    swap true false = refl
    swap false true = refl
    swap false false = refl

    go : (a b : Bool) → eqb l 0 ≡ b → (c : Bool) → held_before 1 l t before ≡ c → (d : Bool) → held_before 2 l t before ≡ d
        → pick (loose before) true (pick a (pick b false (pick (pick c true d) false true)) false)
        ≡ pick (pick a (pick b false (pick c false true)) false) true (loose before)
    go false b p c q d s = swap (loose before) false
    go true true p c q d s = swap (loose before) false
    go true false p true q d s = swap (loose before) false
    go true false p false q false s = swap (loose before) true
    go true false p false q true s = rw (entry-loose l t before s q (eqb-false l 0 p))

-- going on, from place i
module _ (words : List ℕ) (i to : ℕ) where
  pub loose-on : i < to
      → pick (loose (rows_before i words)) true (uncounted (rows_before i words) (rows_from (to - i) i words))
      ≡ pick (loose (rows_before (i + 1) words)) true (uncounted (rows_before (i + 1) words) (rows_from (to - (i + 1)) (i + 1) words))
  unfolding loose uncounted
  loose-on more =
      rw (rows_step words i to more, before-next words i)
      (go (loose (rows_before i words)) (is_uncounted (rows_before i words) (row_at words i))
      (uncounted (row_at words i ∷ rows_before i words) (rows_from (to - (i + 1)) (i + 1) words)))
    where
      go : (a b c : Bool) → pick a true (pick b true c) ≡ pick (pick b true a) true c
      go true true c = refl
      go true false c = refl
      go false true c = refl
      go false false c = refl

  pub loose-end : to ≤ i → pick (loose (rows_before i words)) true (uncounted (rows_before i words) (rows_from (to - i) i words)) ≡ loose (rows_before i words)
  unfolding uncounted
  loose-end past = rw (rows_none words i to past) (go (loose (rows_before i words)))
    where
      go : (a : Bool) → pick a true false ≡ a
      go true = refl
      go false = refl

-- how rows stand, by the two
pub refused : (rows : List Row) → rows_allowed [] rows ≡ false → Refused ≡ standing_of rows
unfolding standing_of
refused rows h = rw h

pub allowed : (rows : List Row) (b : Bool) → rows_allowed [] rows ≡ true → uncounted [] rows ≡ b → pick b Uncounted Counted ≡ standing_of rows
unfolding standing_of counting
allowed rows b h e = rw (h, e)
