-- The layer of words: what one record adds to rows that are laid in front of zeros.
use Rattle.std.specs.Prelude.{ℕ, ◌+◌, ◌-◌, ◌≤◌, ◌≡◌, Bool, true, List, [], ◌∷◌, ◌++◌, length, Option, Some, None}
use Rattle.field_rules.specs.Choice.{pick}
use Rattle.build_records.specs.declared.Record.{Record}
use Rattle.message_maps.specs.Rows.{Row, flat, padded, message_words, message_rows}
use Rattle.message_take_over.specs.declared.Laying.{Laying}
use Rattle.message_take_over.specs.Taking.{joins_of, is_next, are_next, record_rows, rows_of}

-- rows in words, before they are counted
unfoldable pub rowed : List Row → List ℕ
rowed rows = padded message_words (0 ∷ flat rows)

-- rows were added to so many
pub record Adds (entry exit : List ℕ) (rows next : ℕ) (new : List Row) : Type 0 where
  pub counts : next ≡ rows + length new
  pub whole : length exit ≡ length entry
  pub adds : (laid : List Row) → length laid ≡ rows → entry ≡ rowed laid → exit ≡ rowed (laid ++ new)

-- how deep the next record may stand
unfoldable pub reach : List Record → ℕ
reach [] = 0
reach (r ∷ before) = r.depth + 1

-- there is room for a record's rows
pub record Ready (before : List Record) (words : List ℕ) (laying : Laying) : Type 0 where
  pub whole : length words ≡ message_words
  pub few : laying.rows + (3 - laying.part) + 2 ≤ message_rows
  pub within : laying.used ≤ 8192
  pub shallow : reach before ≤ 1023

unfoldable pub stepped_by : ℕ → List Record → Laying → Record → Option Laying
stepped_by size before laying r =
    pick (is_next size laying.part laying.used before r)
    (Some (record {
      part = r.part;
      rows = laying.rows + length (record_rows laying.part (joins_of before r) r);
      used = laying.used + r.length;
    }))
    None

-- and where the record may come next, its rows are added
unfoldable pub adds_rows : List Record → Laying → Record → Option Laying → List ℕ → List ℕ → Type 0
adds_rows before laying r step words words_after = (next : Laying) → step ≡ Some next → Adds words words_after laying.rows next.rows (record_rows laying.part (joins_of before r) r)

-- what laying all of them answers: whether each may come next, and then how many rows there are, and the rows
pub record RowsLaid (size : ℕ) (rs : List Record) (done : Bool) (words : List ℕ) : Type 0 where
  pub told : done ≡ are_next size 1 0 [] rs
  pub laid : done ≡ true → words ≡ padded message_words (length (rows_of rs) ∷ flat (rows_of rs))
