-- What a layout of a dictionary may be at most, once components are flattened in place (RULES.md, Numbers returned, 34, 35 and 37). How
-- many items it has at all levels, and how deep its groups nest, is said where layouts are: `items` and `depth`.
use Rattle.std.specs.Prelude.{◌≡◌, Bool, List, [], ◌∷◌, ℕ, suc, ◌≤◌}
use Rattle.dictionary_layout_rules.specs.Layout.{Layout, end, field, group, followed_by, items, depth}

-- "group closes empty after flattening": there is none
pub data NoEmptyGroup : Layout → Type 0 where
  none-at_end : NoEmptyGroup end
  none-after-field : {tag : ℕ} {required : Bool} {rest : Layout} → NoEmptyGroup rest → NoEmptyGroup (field tag required rest)
  none_in_group : {tag : ℕ} {required : Bool} {inner rest : Layout} → (inner ≡ end → ⊥) → NoEmptyGroup inner → NoEmptyGroup rest → NoEmptyGroup (group tag required inner rest)

-- "group nested five deep after flattening" is refused
abbrev pub most_depth : ℕ
most_depth = 4

-- "one component or message passes 1,024 items, all levels, flattened" is refused
abbrev pub most_items : ℕ
most_items = 1024

pub record Bounded (layout : Layout) : Type 0 where
  pub shallow : depth layout ≤ most_depth
  pub few : items layout ≤ most_items
  pub filled : NoEmptyGroup layout

-- A layout of which so many groups are still open, each the last item of the one around it: no group is empty that has closed.
pub data FilledSoFar : ℕ → Layout → Type 0 where
  filled : {layout : Layout} → NoEmptyGroup layout → FilledSoFar 0 layout
  filled_around : {groups : ℕ} {inner : Layout} (before : Layout) (tag : ℕ) (required : Bool) → NoEmptyGroup before → FilledSoFar groups inner → FilledSoFar (suc groups) (followed_by before (group tag required inner end))

pub record BoundedSoFar (groups : ℕ) (layout : Layout) : Type 0 where
  pub shallow : depth layout ≤ most_depth
  pub few : items layout ≤ most_items
  pub filled : FilledSoFar groups layout

-- the innermost of the groups that are still open: its tag, and what it holds so far
pub data InnermostOpen (tag : ℕ) (inner : Layout) : ℕ → Layout → Type 0 where
  innermost : (before : Layout) (required : Bool) → InnermostOpen tag inner 1 (followed_by before (group tag required inner end))
  innermost-within : {groups : ℕ} {around : Layout} (before : Layout) (other : ℕ) (required : Bool) → InnermostOpen tag inner groups around → InnermostOpen tag inner (suc groups) (followed_by before (group other required around end))

-- each layout of a list has a property
pub data Each (P : Layout → Type 0) : List Layout → Type 0 where
  each_none : Each P []
  each_more : {layout : Layout} {layouts : List Layout} → P layout → Each P layouts → Each P (layout ∷ layouts)
