-- Which words the table of a layout is. A level's own items come first, those of its groups behind them in turn, each level as a part of its own.
-- "If a tag stands twice in a layout, its position is the first, its group the last, and each required mark counts at its own place."
use Rattle.std.specs.Prelude.{ℕ, zero, suc, ◌+◌, ◌*◌, ◌/◌, ◌%◌, List, [], ◌∷◌, ◌++◌, Bool, length, eqb}
use Rattle.field_rules.specs.Choice.{pick}
use Rattle.dictionary_layout_rules.specs.Layout.{Layout, end, field, group}
use Rattle.dictionary_layout_rules.specs.Table.{mark}
use Rattle.dictionary_tables_rules.specs.Table.{item_stride, heads_for}

-- one of a level's own items, with where the level of its group starts
pub record Own : Type 0 where
  pub tag : ℕ
  pub required : Bool
  pub group : ℕ

-- a level's own items
unfoldable pub own_count : Layout → ℕ
own_count end = 0
own_count (field tag required rest) = 1 + own_count rest
own_count (group tag required inner rest) = 1 + own_count rest

-- words of a level's own part
unfoldable pub part_size : ℕ → ℕ
part_size count = 1 + heads_for count + item_stride * count

-- words of the levels within
unfoldable pub inner_size : Layout → ℕ
inner_size end = 0
inner_size (field tag required rest) = inner_size rest
inner_size (group tag required inner rest) = (part_size (own_count inner) + inner_size inner) + inner_size rest

abbrev pub table_size : Layout → ℕ
table_size layout = part_size (own_count layout) + inner_size layout

-- the items of a level whose first group's level starts at `free`
unfoldable pub own_items : ℕ → Layout → List Own
own_items free end = []
own_items free (field tag required rest) = record { tag = tag; required = required; group = 0 } ∷ own_items free rest
own_items free (group tag required inner rest) = record { tag = tag; required = required; group = free } ∷ own_items (free + table_size inner) rest

-- the link to the first item, from the link `link` on, whose tag has a head
unfoldable pub first_under : ℕ → ℕ → ℕ → List Own → ℕ
first_under heads head link [] = 0
first_under heads head link (own ∷ owns) = pick (eqb (own.tag % heads) head) link (first_under heads head (link + 1) owns)

-- "its group the last": a later plain item of the same tag doesn't take it away
unfoldable pub last_group : ℕ → ℕ → List Own → ℕ
last_group sofar tag [] = sofar
last_group sofar tag (own ∷ owns) = last_group (pick (eqb own.tag tag) (pick (eqb own.group 0) sofar own.group) sofar) tag owns

-- the link to the first item that is required
unfoldable pub first_marked : ℕ → List Own → ℕ
first_marked link [] = 0
first_marked link (own ∷ owns) = pick own.required link (first_marked (link + 1) owns)

-- the five words of an item, by the items from it on
unfoldable pub item_words : ℕ → ℕ → Own → List Own → List ℕ
item_words heads link own later =
    (own.tag % 65536) ∷ (own.tag / 65536) ∷ last_group 0 own.tag (own ∷ later) ∷ (2 * first_marked (link + 1) later + mark own.required) ∷ first_under heads (own.tag % heads) (link + 1) later ∷ []

unfoldable pub items_words : ℕ → ℕ → List Own → List ℕ
items_words heads link [] = []
items_words heads link (own ∷ owns) = item_words heads link own owns ++ items_words heads (link + 1) owns

-- so many heads, from one on
unfoldable pub head_words : ℕ → ℕ → ℕ → List Own → List ℕ
head_words zero heads head owns = []
head_words (suc left) heads head owns = first_under heads head 1 owns ∷ head_words left heads (head + 1) owns

-- a level's own part
unfoldable pub part_words : List Own → List ℕ
part_words owns =
    length owns ∷ (head_words (heads_for (length owns)) (heads_for (length owns)) 0 owns ++ items_words (heads_for (length owns)) 1 owns)

-- the parts of the levels within, the first of which starts at `free`
unfoldable pub inner_words : ℕ → Layout → List ℕ
inner_words free end = []
inner_words free (field tag required rest) = inner_words free rest
inner_words free (group tag required inner rest) =
    (part_words (own_items (free + part_size (own_count inner)) inner) ++ inner_words (free + part_size (own_count inner)) inner) ++ inner_words (free + table_size inner) rest

-- a level with all that is within, from the word `level` on
abbrev pub level_words : ℕ → Layout → List ℕ
level_words level layout = part_words (own_items (level + part_size (own_count layout)) layout) ++ inner_words (level + part_size (own_count layout)) layout

-- the table of a layout
unfoldable pub table_of : Layout → List ℕ
table_of layout = level_words 0 layout
