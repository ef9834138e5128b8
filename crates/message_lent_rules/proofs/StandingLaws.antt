-- What stands is what is allowed: the standing of what is lent, by the tests that a caller's memory passes one after the other.
use Rattle.std.proofs.Math.Path.{◌≡◌, refl, sym, ap}
use Rattle.std.proofs.Common.{◌∙◌, arith}
use Rattle.std.specs.Prelude.{Bool, ℕ, length, eqb, leb}
use Rattle.std.proofs.Math.Bool.{true, false}
use mathlib.Core.List.{List, []}
use Rattle.field_rules.specs.Choice.{pick, pick_same}
use Rattle.message_maps.specs.Rows.{Row, sizes, message_words, message_rows}
use Rattle.message_lent_rules.specs.Lent.{rows_allowed, row_count, rows_of, is_laid, parts_from, fields_in, is_message}
use Rattle.message_lent_rules.specs.Standing.{uncounted, counting, is_standing, standing_of, laid_standing, message_standing}
use Rattle.message_lent_rules.specs.declared.Standing.TheVariants.{Refused, Uncounted, Counted}

stands_if : (b : Bool) (rows : List Row) → is_standing (pick b (counting rows) Refused) ≡ b
unfolding is_standing counting
stands_if true rows = by_count (uncounted [] rows)
  where
    by_count : (u : Bool) → is_standing (pick u Uncounted Counted) ≡ true
    by_count true = refl
    by_count false = refl
stands_if false rows = refl

pub laid-stands : (words values : List ℕ) → is_standing (laid_standing words values) ≡ is_laid words values
unfolding laid_standing
laid-stands words values = stands_if (is_laid words values) (rows_of words)

pub message-stands : (words values : List ℕ) → is_standing (message_standing words values) ≡ is_message words values
unfolding message_standing
message-stands words values = stands_if (is_message words values) (rows_of words)

-- a layout's rows are judged last
module _ (words values : List ℕ) (whole : eqb (length words) message_words ≡ true) (store : eqb (length values) 8192 ≡ true) (counted : leb (row_count words) message_rows ≡ true) where
  pub too_large : leb (sizes (rows_of words)) 8192 ≡ false → Refused ≡ laid_standing words values
  unfolding laid_standing is_laid
  too_large h = rw (whole, store, counted, h, pick_same (rows_allowed [] (rows_of words)) false)

  pub stands-laid : leb (sizes (rows_of words)) 8192 ≡ true → standing_of (rows_of words) ≡ laid_standing words values
  unfolding laid_standing is_laid standing_of
  stands-laid h = rw (whole, store, counted, h) (by_test (rows_allowed [] (rows_of words)))
    where
      by_test : (b : Bool) → pick b (counting (rows_of words)) Refused ≡ pick (pick b true false) (counting (rows_of words)) Refused
      by_test true = refl
      by_test false = refl

-- a message is a layout with its parts and few fields
module _ (words values : List ℕ) where
  pub not_laid : is_laid words values ≡ false → Refused ≡ message_standing words values
  unfolding message_standing is_message
  not_laid h = rw h

  pub no_parts : is_laid words values ≡ true → parts_from 1 (rows_of words) ≡ false → Refused ≡ message_standing words values
  unfolding message_standing is_message
  no_parts h p = rw (h, p)

  pub too_many : is_laid words values ≡ true → parts_from 1 (rows_of words) ≡ true → leb (fields_in 1 (rows_of words)) 1024 ≡ false → Refused ≡ message_standing words values
  unfolding message_standing is_message
  too_many h p f = rw (h, p, f)

  pub stands-message : is_laid words values ≡ true → parts_from 1 (rows_of words) ≡ true → leb (fields_in 1 (rows_of words)) 1024 ≡ true → laid_standing words values ≡ message_standing words values
  unfolding message_standing laid_standing is_message
  stands-message h p f = rw (h, p, f)

-- what a message's standing tells
module _ (words values : List ℕ) where
  told : (b u : Bool) → is_message words values ≡ b → uncounted [] (rows_of words) ≡ u → message_standing words values ≡ pick b (pick u Uncounted Counted) Refused
  unfolding message_standing counting
  told b u lent loose = rw (lent, loose)

  pub refused_none : message_standing words values ≡ Refused → is_message words values ≡ false
  unfolding is_standing
  refused_none e = sym (message-stands words values) ∙ ap is_standing e

  pub uncounted-held : message_standing words values ≡ Uncounted → (is_message words values ≡ true) × (true ≡ uncounted [] (rows_of words))
  unfolding is_standing
  uncounted-held e = let lent = sym (message-stands words values) ∙ ap is_standing e in (lent, by_count (uncounted [] (rows_of words)) refl lent)
    where
      by_count : (u : Bool) → uncounted [] (rows_of words) ≡ u → is_message words values ≡ true → true ≡ u
      by_count true q lent = refl
      by_count false q lent = let f = sym e ∙ told true false lent q in let z : ◌≡◌ {A = ℕ} 0 1 = cc in absurd (omega arith)

  pub counted-held : message_standing words values ≡ Counted → (is_message words values ≡ true) × (false ≡ uncounted [] (rows_of words))
  unfolding is_standing
  counted-held e = let lent = sym (message-stands words values) ∙ ap is_standing e in (lent, by_count (uncounted [] (rows_of words)) refl lent)
    where
      by_count : (u : Bool) → uncounted [] (rows_of words) ≡ u → is_message words values ≡ true → false ≡ u
      by_count false q lent = refl
      by_count true q lent = let f = sym e ∙ told true true lent q in let z : ◌≡◌ {A = ℕ} 0 1 = cc in absurd (omega arith)
