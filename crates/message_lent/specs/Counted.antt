-- What counting leans on: for each row from a place on, where the rows below it end; and what a row and the next one tell of the row's
-- weight.
use Rattle.std.specs.Prelude.{ℕ, ◌+◌, ◌-◌, ◌≤◌, ◌<◌, ◌≡◌, List, get_or}
use Rattle.field_rules.specs.Choice.{pick}
use Rattle.message_maps.specs.Rows.{row_at, rows_from, level_of, end_from}
use Rattle.message_lent_rules.specs.Lent.{own_below, weight}

unfoldable pub Ended : List ℕ → ℕ → ℕ → List ℕ → Type 0
Ended words from to ends =
    (i : ℕ) → from ≤ i → i < to → get_or ends i 0 ≡ end_from (level_of (row_at words i)) (i + 1) (rows_from (to - (i + 1)) (i + 1) words)

-- an answer is the weight, or 2 for a head whose weight only the rows further on tell
pub record Told (words : List ℕ) (floor i to answer : ℕ) : Type 0 where
  pub few : answer ≤ 2
  pub told : answer ≤ 1 → answer ≡ weight floor (row_at words i) (rows_from (to - (i + 1)) (i + 1) words)
  pub untold : answer ≡ 2 → weight floor (row_at words i) (rows_from (to - (i + 1)) (i + 1) words) ≡ pick (own_below (level_of (row_at words i)) (rows_from (to - (i + 1)) (i + 1) words)) 0 1
