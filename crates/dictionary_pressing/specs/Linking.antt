-- Linking a level's items from the last to the first. The items not yet linked stand in the table as they were written: tag, group and own mark.
-- What is linked so far is already what the items from there on mean, their links counted from the level's first item.
use Rattle.std.specs.Prelude.{ℕ, zero, suc, ◌+◌, ◌-◌, ◌*◌, ◌%◌, ◌≤◌, ◌<◌, ◌≡◌, List, [], ◌∷◌, ◌++◌, length, get_or, set, take, drop, replicate, eqb}
use Rattle.dictionary_tables_rules.specs.Table.{heads_for, tag_at}
use Rattle.dictionary_tables_rules.specs.Laid.{Own, part_size, first_under, first_marked, items_words, part_words}

-- an item as it was written
unfoldable pub own_at : List ℕ → ℕ → Own
own_at table at = record { tag = tag_at table at; required = eqb (get_or table (at + 3) 0) 1; group = get_or table (at + 2) 0 }

unfoldable pub owns_from : List ℕ → ℕ → ℕ → List Own
owns_from table at zero = []
owns_from table at (suc left) = own_at table at ∷ owns_from table (at + 5) left

-- where a level's items start
unfoldable pub items_start : ℕ → ℕ → ℕ
items_start level count = level + 1 + heads_for count

-- the items from one on
unfoldable pub owns_behind : List ℕ → ℕ → ℕ → ℕ → List Own
owns_behind table level count i = owns_from table (items_start level count + 5 * i) (count - i)

-- so many heads, from one on, where the first item has the link `link`
unfoldable pub heads_since : ℕ → ℕ → ℕ → ℕ → List Own → List ℕ
heads_since zero heads head link owns = []
heads_since (suc left) heads head link owns = first_under heads head link owns ∷ heads_since left heads (head + 1) link owns

-- no item is linked yet
unfoldable pub cleared : List ℕ → ℕ → ℕ → List ℕ
cleared table level count = take level table ++ (count ∷ (replicate (heads_for count) 0 ++ drop (items_start level count) table))

-- the items from one on are linked
unfoldable pub linked_from : List ℕ → ℕ → ℕ → ℕ → List ℕ
linked_from table level count i =
    take level table
    ++ (count
    ∷ (heads_since (heads_for count) (heads_for count) 0 (i + 1) (owns_behind table level count i)
    ++ (take (5 * i) (drop (items_start level count) table)
    ++ (items_words (heads_for count) (i + 1) (owns_behind table level count i) ++ drop (level + part_size count) table))))

-- all of them
unfoldable pub linked : List ℕ → ℕ → ℕ → List ℕ
linked table level count = take level table ++ (part_words (owns_from table (items_start level count) count) ++ drop (level + part_size count) table)

-- the stores that link an item
unfoldable pub links_put : List ℕ → ℕ → ℕ → ℕ → ℕ → ℕ → ℕ → List ℕ
links_put table at head group marks link item = set (set (set (set table (at + 2) group) (at + 3) marks) (at + 4) link) head item

-- How far linking came: the items from `i` on are linked, and `marked` leads to the first of them that is required.
pub record Linking (start table : List ℕ) (level count i marked : ℕ) : Type 0 where
  pub counted : i ≤ count
  pub few : count < 32768
  pub room : level + part_size count ≤ length start
  pub fits : 2 * length start < 18446744073709551616
  pub kept : length table ≡ length start
  pub sofar : table ≡ linked_from start level count i
  pub marks : marked ≡ first_marked (i + 1) (owns_behind start level count i)

-- Items that are linked, from one on, and the link to the first of them that shares a tag's head.
pub record Chain (table : List ℕ) (start tag link : ℕ) : Type 0 where
  pub heads : ℕ
  pub place : ℕ
  pub owns : List Own
  pub front : List ℕ
  pub back : List ℕ
  pub whole : table ≡ front ++ (items_words heads (place + 1) owns ++ back)
  pub starts : length front ≡ start + 5 * place
  pub leads : link ≡ first_under heads (tag % heads) (place + 1) owns
