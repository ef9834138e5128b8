-- A table that finds the newest row of each level and tag: 1,024 buckets, each a tree of rows that branches by the bits of level and tag.
-- A row that is the first of its level and tag has three words: two branches, and the newest row of its level and tag.
use Rattle.std.specs.Prelude.{ℕ, zero, suc, ◌+◌, ◌-◌, ◌*◌, ◌/◌, ◌%◌, ◌≤◌, ◌<◌, ◌≡◌, List, length, get_or, set, eqb}
use Rattle.field_rules.specs.Choice.{pick}
use Rattle.message_maps.specs.Rows.{Row, row, row_at, rows_before, level_of}
use Rattle.message_allowed.specs.Distinct.{tagged, opened, latest, reach}

unfoldable pub bucket_of : ℕ → ℕ → ℕ
bucket_of level tag = (tag + 509 * level) % 1024

-- what is left of a level and tag to branch by
unfoldable pub rest_of : ℕ → ℕ → ℕ
rest_of level tag = tag / 1024 + 4194304 * level

-- from a word on: the word that holds, or is to hold, the newest row of a level and tag
unfoldable pub reached : ℕ → List ℕ → List ℕ → ℕ → ℕ → ℕ → ℕ → ℕ
reached zero table words level tag c rest = c
reached (suc n) table words level tag c rest =
    pick (eqb (get_or table c 0) 0) c
    (pick (tagged level tag (row_at words (get_or table c 0 - 1))) (1023 + 3 * get_or table c 0)
    (reached n table words level tag (1021 + 3 * get_or table c 0 + rest % 2) (rest / 2)))

unfoldable pub cell_of : List ℕ → List ℕ → ℕ → ℕ → ℕ
cell_of table words level tag = reached 2051 table words level tag (bucket_of level tag) (rest_of level tag)

-- a branch leads to a newer row
pub record Tree (table : List ℕ) (i : ℕ) : Type 0 where
  pub few : (k : ℕ) → k < 1024 + 3 * i → get_or table k 0 ≤ i
  pub rises : (v s : ℕ) → 0 < v → v ≤ i → s < 2 → (get_or table (1021 + 3 * v + s) 0 ≡ 0 → ⊥) → v < get_or table (1021 + 3 * v + s) 0

unfoldable pub tag_of : Row → ℕ
tag_of (row k l t x) = t

-- the words of levels start at `tops`, and there is room for a row
pub record Sized (table : List ℕ) (tops i : ℕ) : Type 0 where
  pub apart : 1024 + 3 * (i + 1) ≤ tops
  pub room : tops + (i + 1) + 2 ≤ length table
  pub least : tops ≤ 10000

-- what the table keeps of the rows before; of the words of levels those up to the reach count
pub record Known (words : List ℕ) (i tops : ℕ) (table : List ℕ) : Type 0 where
  pub finds : (level tag : ℕ) → get_or table (cell_of table words level tag) 0 ≡ latest level tag (rows_before i words)
  pub tree : Tree table i
  pub opens : (l : ℕ) → l ≤ reach (rows_before i words) → get_or table (tops + l) 0 ≡ opened l (rows_before i words)
  pub near : reach (rows_before i words) ≤ i

-- the table with one row more, found at a word
unfoldable pub grown : List ℕ → ℕ → ℕ → ℕ → List ℕ → List ℕ
grown words i tops r table =
    set (set (set (set (set table r (i + 1)) (1024 + 3 * i) 0) (1024 + 3 * i + 1) 0) (1024 + 3 * i + 2) (i + 1)) (tops + 1 + level_of (row_at words i)) (i + 1)
