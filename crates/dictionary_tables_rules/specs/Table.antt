-- The table that reading uses. Each level of a layout has a part in it: a word that says how many items it has, the heads, and five words to
-- each of the level's own items: the low and the high half of its tag, where the level of its group starts, the required mark with the link to the
-- next marked item, and the link to the next item that shares its head. A link is an item's position and one; 0 leads nowhere. Looking up has a meaning
-- for every content: an item is looked at only where it lies in the table, and a link is followed only if it rises.
use Rattle.std.specs.Prelude.{ℕ, zero, suc, ◌+◌, ◌-◌, ◌*◌, ◌/◌, ◌%◌, List, [], ◌∷◌, Bool, length, get_or, eqb, leb, ltb, Option, Some, None}
use Rattle.field_rules.specs.Choice.{pick}

-- words to an item
abbrev pub item_stride : ℕ
item_stride = 5

-- a level of few items has few heads
abbrev pub few_heads : ℕ
few_heads = 8

abbrev pub many_heads : ℕ
many_heads = 128

unfoldable pub heads_for : ℕ → ℕ
heads_for count = pick (ltb 16 count) many_heads few_heads

-- the heads stand behind a level's first word, and the items behind them
unfoldable pub heads_at : List ℕ → ℕ → ℕ
heads_at table level = heads_for (get_or table level 0)

unfoldable pub items_at : List ℕ → ℕ → ℕ
items_at table level = level + 1 + heads_at table level

-- where the item of a link starts, from where the items do
unfoldable pub item_at : ℕ → ℕ → ℕ
item_at from link = from + item_stride * (link - 1)

-- an item lies in the table
unfoldable pub lies : List ℕ → ℕ → Bool
lies table at = leb (at + item_stride) (length table)

unfoldable pub tag_at : List ℕ → ℕ → ℕ
tag_at table at = get_or table at 0 + 65536 * get_or table (at + 1) 0

unfoldable pub group_at : List ℕ → ℕ → ℕ
group_at table at = get_or table (at + 2) 0

-- twice the link to the next marked item, and one where the item itself is marked
unfoldable pub mark_at : List ℕ → ℕ → ℕ
mark_at table at = get_or table (at + 3) 0

unfoldable pub later_at : List ℕ → ℕ → ℕ
later_at table at = get_or table (at + 4) 0

-- from a link on; links rise and items lie in the table, so the fuel is what lies between
unfoldable pub chased : ℕ → List ℕ → ℕ → ℕ → ℕ → Option (ℕ × ℕ)
chased zero table from tag link = None
chased (suc fuel) table from tag link =
    pick (eqb link 0) None
    (pick (lies table (item_at from link))
    (pick (eqb (tag_at table (item_at from link)) tag) (Some ((link - 1), (group_at table (item_at from link))))
    (pick (ltb link (later_at table (item_at from link))) (chased fuel table from tag (later_at table (item_at from link))) None))
    None)

unfoldable pub followed : List ℕ → ℕ → ℕ → ℕ → Option (ℕ × ℕ)
followed table from tag link = chased (suc (length table) - link) table from tag link

-- what a tag is at a level
unfoldable pub item_of : List ℕ → ℕ → ℕ → Option (ℕ × ℕ)
item_of table level tag = followed table (items_at table level) tag (get_or table (level + 1 + tag % heads_at table level) 0)

-- "the delimiter (the layout's first tag)": what stands behind a level without items is none of it
unfoldable pub delimiter_at : List ℕ → ℕ → Option ℕ
delimiter_at table level =
    pick (eqb (get_or table level 0) 0) None
    (pick (lies table (items_at table level)) (Some (tag_at table (items_at table level))) None)

-- where the marks go on behind an item: a link that doesn't rise ends them
unfoldable pub marked_behind : ℕ → ℕ → ℕ
marked_behind link word = pick (ltb link (word / 2)) (word / 2) 0

-- "required fields in layout order", from a link on
unfoldable pub required_within : ℕ → List ℕ → ℕ → ℕ → List ℕ
required_within zero table from link = []
required_within (suc fuel) table from link =
    pick (eqb link 0) []
    (pick (lies table (item_at from link))
    (pick {A = List ℕ → List ℕ} (eqb (mark_at table (item_at from link) % 2) 1) (λ tags. tag_at table (item_at from link) ∷ tags) (λ tags. tags)
    (required_within fuel table from (marked_behind link (mark_at table (item_at from link)))))
    [])

unfoldable pub required_from : List ℕ → ℕ → ℕ → List ℕ
required_from table level link = pick (eqb (get_or table level 0) 0) [] (required_within (suc (length table) - link) table (items_at table level) link)

unfoldable pub required_of : List ℕ → ℕ → List ℕ
required_of table level = required_from table level 1

-- the first of them, and the link behind it
unfoldable pub mark_within : ℕ → List ℕ → ℕ → ℕ → Option (ℕ × ℕ)
mark_within zero table from link = None
mark_within (suc fuel) table from link =
    pick (eqb link 0) None
    (pick (lies table (item_at from link))
    (pick (eqb (mark_at table (item_at from link) % 2) 1)
    (Some ((tag_at table (item_at from link)), (marked_behind link (mark_at table (item_at from link)))))
    (mark_within fuel table from (marked_behind link (mark_at table (item_at from link)))))
    None)

unfoldable pub mark_from : List ℕ → ℕ → ℕ → Option (ℕ × ℕ)
mark_from table level link = pick (eqb (get_or table level 0) 0) None (mark_within (suc (length table) - link) table (items_at table level) link)
