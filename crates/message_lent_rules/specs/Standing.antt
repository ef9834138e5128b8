-- How rows stand: not allowed, or allowed with a run that has no count, or allowed with a count for each run.
use Rattle.std.specs.Prelude.{ℕ, Bool, true, false, List, [], ◌∷◌, eqb}
use Rattle.field_rules.specs.Choice.{pick}
use Rattle.message_maps.specs.Rows.{Row, row}
use Rattle.message_lent_rules.specs.Lent.{held_before, rows_allowed, rows_of, is_laid, is_message}
use Rattle.message_lent_rules.specs.declared.Standing.{Standing}
use Rattle.message_lent_rules.specs.declared.Standing.TheVariants.{Refused, Uncounted, Counted}

-- "a run without its count field": an entry before which its map has no field of its start tag
unfoldable pub is_uncounted : List Row → Row → Bool
is_uncounted before (row k l t x) = pick (eqb k 2) (pick (eqb l 0) false (pick (held_before 1 l t before) false true)) false

unfoldable pub uncounted : List Row → List Row → Bool
uncounted before [] = false
uncounted before (r ∷ rows) = pick (is_uncounted before r) true (uncounted (r ∷ before) rows)

unfoldable pub counting : List Row → Standing
counting rows = pick (uncounted [] rows) Uncounted Counted

unfoldable pub standing_of : List Row → Standing
standing_of rows = pick (rows_allowed [] rows) (counting rows) Refused

unfoldable pub is_standing : Standing → Bool
is_standing Refused = false
is_standing Uncounted = true
is_standing Counted = true

-- the same of what is lent, where it is laid out, and where it is a message
unfoldable pub laid_standing : List ℕ → List ℕ → Standing
laid_standing words values = pick (is_laid words values) (counting (rows_of words)) Refused

unfoldable pub message_standing : List ℕ → List ℕ → Standing
message_standing words values = pick (is_message words values) (counting (rows_of words)) Refused
