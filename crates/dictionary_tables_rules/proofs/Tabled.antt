-- A table that holds a layout means it: each look-up answers what the layout says, and the group word of an item starts the level of the group
-- that the tag counts. What stands in the table before and after the level makes no difference.
use Rattle.std.specs.Prelude.{◌≡◌, Bool, true, false, List, [], ◌∷◌, ◌++◌, ℕ, ◌+◌, length, eqb}
use Rattle.std.proofs.Math.Path.{refl, ap}
use Rattle.std.proofs.Common.{sym, ◌∙◌, append-nil, arith, length-append, ne_eqb, Option, Some, None}
use Rattle.field_rules.specs.Choice.{pick, pick_same}
use Rattle.dictionary_layout_rules.specs.Layout.{Layout, end, field, group, first_of, position_from, position_in, Group, none, entries, group_since, group_of, delimiter_of_lem, required_tags}
use Rattle.dictionary_tables_rules.specs.Table.{item_of, delimiter_at, required_of}
use Rattle.dictionary_tables_rules.specs.Laid.{Own, own_count, part_size, inner_size, table_size, own_items, last_group, part_words, inner_words, level_words, table_of}
use Rattle.dictionary_tables_rules.proofs.PartLaws.{Stands, stands-first, stands-second, part_length, part-some, item_among, required_among, first_among, item_among_lem, delimiter_among, required_among_lem}

-- ===== lengths =====

pub own_items-length : (free : ℕ) (layout : Layout) → length (own_items free layout) ≡ own_count layout
unfolding own_items own_count
own_items-length free end = refl
own_items-length free (field tag required rest) = omega (arith, own_items-length free rest)
own_items-length free (group tag required inner rest) = omega (arith, own_items-length (free + table_size inner) rest)

-- a level's own part
pub own-length : (free : ℕ) (layout : Layout) → length (part_words (own_items free layout)) ≡ part_size (own_count layout)
own-length free layout = part_length (own_items free layout) ∙ ap part_size (own_items-length free layout)

pub inner-length : (free : ℕ) (layout : Layout) → length (inner_words free layout) ≡ inner_size layout
unfolding inner_words inner_size
inner-length free end = refl
inner-length free (field tag required rest) = inner-length free rest
inner-length free (group tag required inner rest) =
    let from = free + part_size (own_count inner) in
    let own = part_words (own_items from inner) in
    let within = inner_words from inner in
    let later = inner_words (free + table_size inner) rest in
    let lengths : length ((own ++ within) ++ later) ≡ (length own + length within) + length later = simp length-append in
    omega (arith, lengths, own-length from inner, inner-length from inner, inner-length (free + table_size inner) rest)

pub level_length : (level : ℕ) (layout : Layout) → length (level_words level layout) ≡ table_size layout
level_length level layout = let from = level + part_size (own_count layout) in
    omega (arith, length-append (part_words (own_items from layout)) (inner_words from layout), own-length from layout, inner-length from layout)

pub table-length : (layout : Layout) → length (table_of layout) ≡ table_size layout
unfolding table_of
table-length layout = level_length 0 layout

-- ===== what the items of a layout are =====

-- where an item stands
unfoldable pub place_of : Option (ℕ × ℕ) → Option ℕ
place_of (Some (k, g)) = Some k
place_of None = None

-- where the level of the group starts that it counts, 0 where it counts none
unfoldable pub group_of_item : Option (ℕ × ℕ) → ℕ
group_of_item (Some (k, g)) = g
group_of_item None = 0

place-first : (b : Bool) (at g : ℕ) (later : Option (ℕ × ℕ)) {other : Option ℕ} → place_of later ≡ other →
    place_of (pick b (Some (at, g)) later) ≡ first_of (pick b (Some at) None) other
unfolding place_of first_of
place-first true at g later e = refl
place-first false at g later e = e

own_position : (tag at free : ℕ) (layout : Layout) → place_of (item_among tag at (own_items free layout)) ≡ position_from tag at layout
unfolding own_items item_among position_from
own_position tag at free end = unfold place_of in refl
own_position tag at free (field t required rest) = place-first (eqb t tag) at _ _ (own_position tag (at + 1) free rest)
own_position tag at free (group t required inner rest) = place-first (eqb t tag) at _ _ (own_position tag (at + 1) (free + table_size inner) rest)

own_first : (free : ℕ) (layout : Layout) → first_among (own_items free layout) ≡ delimiter_of_lem layout
unfolding first_among own_items delimiter_of_lem
own_first free end = refl
own_first free (field tag required rest) = refl
own_first free (group tag required inner rest) = refl

own_required : (free : ℕ) (layout : Layout) → required_among (own_items free layout) ≡ required_tags layout
unfolding required_among own_items required_tags
own_required free end = refl
own_required free (field tag required rest) = rw (own_required free rest)
own_required free (group tag required inner rest) = rw (own_required (free + table_size inner) rest)

-- the group word that a tag's first item has is that of its last group
among_group : (tag at : ℕ) (owns : List Own) → group_of_item (item_among tag at owns) ≡ last_group 0 tag owns
unfolding item_among group_of_item last_group
among_group tag at [] = refl
among_group tag at (own ∷ owns) = go (eqb own.tag tag) _ (among_group tag (at + 1) owns)
  where
    go : (b : Bool) (g : ℕ) → group_of_item (item_among tag (at + 1) owns) ≡ last_group 0 tag owns →
        group_of_item (pick b (Some (at, (last_group (pick b g 0) tag owns))) (item_among tag (at + 1) owns)) ≡ last_group (pick b g 0) tag owns
    go true g e = refl
    go false g e = e

-- ===== a level =====

-- the level is a stretch of the table that holds the layout
pub record Tabled (table : List ℕ) (level : ℕ) (layout : Layout) : Type 0 where
  pub before : List ℕ
  pub after : List ℕ
  pub whole : table ≡ before ++ (level_words level layout ++ after)
  pub start : length before ≡ level

-- the group word of an item starts the level of the group that the layout has, or is 0 where it has none
pub data Opens (table : List ℕ) : ℕ → Group → Type 0 where
  neither : Opens table 0 none
  both : {level : ℕ} {inner : Layout} → (level ≡ 0 → ⊥) → Tabled table level inner → Opens table level (entries inner)

tabled_stands : {table : List ℕ} {level : ℕ} {layout : Layout} → Tabled table level layout → Stands table level (level_words level layout)
tabled_stands t = record { before = t.before; after = t.after; whole = t.whole; start = t.start }

stands_tabled : {table : List ℕ} {level : ℕ} {layout : Layout} → Stands table level (level_words level layout) → Tabled table level layout
stands_tabled s = record { before = s.before; after = s.after; whole = s.whole; start = s.start }

opens-later : {table : List ℕ} {sofar : ℕ} {was : Group} (b : Bool) (level : ℕ) (layout : Layout) → Opens table sofar was →
    (level ≡ 0 → ⊥) → Tabled table level layout → Opens table (pick b level sofar) (pick b (entries layout) was)
opens-later true level layout o some t = both some t
opens-later false level layout o some t = o

-- a later group takes the place of the one so far, and its level starts where the levels within have come to
own-group : (table : List ℕ) (sofar : ℕ) (was : Group) (tag free : ℕ) (layout : Layout) → (free ≡ 0 → ⊥) →
    Stands table free (inner_words free layout) → Opens table sofar was → Opens table (last_group sofar tag (own_items free layout)) (group_since was tag layout)
unfolding last_group own_items group_since inner_words
own-group table sofar was tag free end some s o = o
own-group table sofar was tag free (field t required rest) some s o = own-group table (pick (eqb t tag) sofar sofar) was tag free rest some s (rw pick_same o)
own-group table sofar was tag free (group t required inner rest) some s o =
    let own = level_words free inner in
    let place : free + length own ≡ free + table_size inner = ap (λ (n : ℕ). free + n) (level_length free inner) in
    let later = opens-later (eqb t tag) free inner o some (stands_tabled (stands-first own _ s)) in
    own-group table _ _ tag (free + table_size inner) rest (λ z. some (omega arith))
    (rw place at (stands-second own (inner_words (free + table_size inner) rest) s)) (rw (ne_eqb free 0 some) later)

module _ (table : List ℕ) (level : ℕ) (layout : Layout) (tabled : Tabled table level layout) where
  abbrev free : ℕ
  free = level + part_size (own_count layout)

  own-stands : Stands table level (part_words (own_items free layout))
  own-stands = stands-first _ (inner_words free layout) (tabled_stands tabled)

  inner-stands : Stands table free (inner_words free layout)
  inner-stands =
      let place : level + length (part_words (own_items free layout)) ≡ free = ap (λ (n : ℕ). level + n) (own-length free layout) in
      rw place at (stands-second (part_words (own_items free layout)) (inner_words free layout) (tabled_stands tabled))

  pub position_means : (tag : ℕ) → place_of (item_of table level tag) ≡ position_in tag layout
  unfolding position_in
  position_means tag = ap place_of (item_among_lem table level _ own-stands tag) ∙ own_position tag 0 free layout

  pub group_means : (tag : ℕ) → Opens table (group_of_item (item_of table level tag)) (group_of tag layout)
  unfolding group_of
  group_means tag =
      rw (item_among_lem table level _ own-stands tag, among_group tag 0 (own_items free layout))
      (own-group table 0 none tag free layout (λ z. omega (arith, part-some (own_count layout))) inner-stands neither)

  pub delimiter_means : delimiter_at table level ≡ delimiter_of_lem layout
  delimiter_means = delimiter_among table level _ own-stands ∙ own_first free layout

  pub required_means : required_of table level ≡ required_tags layout
  required_means = required_among_lem table level _ own-stands ∙ own_required free layout

-- a table that is just a layout's means it from its first word on
pub tabled_whole : (layout : Layout) → Tabled (table_of layout) 0 layout
unfolding table_of
tabled_whole layout = record { before = []; after = []; whole = sym (append-nil _); start = refl }
