-- Flattened layouts: fields and groups, each with its required mark, and no components. A level is a layout's own items; each group has
-- a level of its own within. "If a tag stands twice in a layout, its position is the first, its group the last, and each required mark
-- counts at its own place."
use Rattle.std.specs.Prelude.{ℕ, ◌+◌, List, [], ◌∷◌, Bool, true, false, eqb, leb, Option, Some, None}
use Rattle.field_rules.specs.Choice.{pick}

-- a field has tag and required mark, a group also the layout of its entries; then comes what follows
pub data Layout : Type 0 where
  end : Layout
  field : ℕ → Bool → Layout → Layout
  group : ℕ → Bool → Layout → Layout → Layout

-- one layout and then another
unfoldable pub followed_by : Layout → Layout → Layout
followed_by end after = after
followed_by (field tag required rest) after = field tag required (followed_by rest after)
followed_by (group tag required inner rest) after = group tag required inner (followed_by rest after)

-- "its position is the first"
unfoldable pub first_of : Option ℕ → Option ℕ → Option ℕ
first_of (Some position) other = Some position
first_of None other = other

-- where an item of a tag stands that has the position `at`
abbrev pub item_at : ℕ → ℕ → ℕ → Option ℕ
item_at tag at t = pick (eqb t tag) (Some at) None

-- counted among the level's own items, the first of which has the position `at`
unfoldable pub position_from : ℕ → ℕ → Layout → Option ℕ
position_from tag at end = None
position_from tag at (field t required rest) = first_of (item_at tag at t) (position_from tag (at + 1) rest)
position_from tag at (group t required inner rest) = first_of (item_at tag at t) (position_from tag (at + 1) rest)

unfoldable pub position_in : ℕ → Layout → Option ℕ
position_in tag layout = position_from tag 0 layout

-- what a tag counts the entries of
pub data Group : Type 0 where
  none : Group
  entries : Layout → Group

-- "its group the last": a later group takes the place of the one so far, a later plain item of the same tag doesn't
unfoldable pub group_since : Group → ℕ → Layout → Group
group_since sofar tag end = sofar
group_since sofar tag (field t required rest) = group_since sofar tag rest
group_since sofar tag (group t required inner rest) = group_since (pick (eqb t tag) (entries inner) sofar) tag rest

unfoldable pub group_of : ℕ → Layout → Group
group_of tag layout = group_since none tag layout

-- "the delimiter (the layout's first tag)"
unfoldable pub delimiter_of_lem : Layout → Option ℕ
delimiter_of_lem end = None
delimiter_of_lem (field tag required rest) = Some tag
delimiter_of_lem (group tag required inner rest) = Some tag

-- "its required fields in layout order": "each required mark counts at its own place"
unfoldable pub required_tags : Layout → List ℕ
required_tags end = []
required_tags (field tag required rest) = pick required (tag ∷ required_tags rest) (required_tags rest)
required_tags (group tag required inner rest) = pick required (tag ∷ required_tags rest) (required_tags rest)

-- "items, all levels"
unfoldable pub items : Layout → ℕ
items end = 0
items (field tag required rest) = 1 + items rest
items (group tag required inner rest) = 1 + (items inner + items rest)

unfoldable pub larger : ℕ → ℕ → ℕ
larger m n = pick (leb m n) n m

-- how deep groups nest
unfoldable pub depth : Layout → ℕ
depth end = 0
depth (field tag required rest) = depth rest
depth (group tag required inner rest) = larger (1 + depth inner) (depth rest)
