-- "27 first: message breaking module 2": a tag twice in a map, two runs on one tag, an empty run, heads that don't nest, tag 0, a passed
-- limit, values out of their store. An empty run has no row, so it can't be lent.
use Rattle.std.specs.Prelude.{ℕ, zero, suc, ◌+◌, ◌-◌, ◌*◌, Bool, true, false, List, [], ◌∷◌, ◌++◌, length, get_or, take, drop, eqb, leb, ltb}
use Rattle.field_rules.specs.Choice.{pick}
use Rattle.message_maps.specs.Map.{Map, end, field, entry}
use Rattle.message_maps.specs.Rows.{Row, row, row_at, rows_from, rows_before, level_of, size_of, matches, sizes, message_words, message_rows}

-- whether a map has a row of a kind and tag before the next row; `before` are the rows before it, the nearest first
unfoldable pub held_before : ℕ → ℕ → ℕ → List Row → Bool
held_before kind level tag [] = false
held_before kind level tag (r ∷ before) =
    pick (ltb (level_of r) level) false (pick (matches kind level tag r) true (held_before kind level tag before))

-- whether a row is the count of a run, or an entry of it
unfoldable pub delimiter_is : ℕ → Row → Bool
delimiter_is delimiter (row k l t x) = eqb x delimiter

unfoldable pub continues : ℕ → ℕ → ℕ → Row → Bool
continues level start delimiter r =
    pick (matches 1 level start r) true (pick (matches 2 level start r) (delimiter_is delimiter r) false)

-- whether a run goes on: its count or an entry of it is the last that its map has
unfoldable pub follows_on : ℕ → ℕ → ℕ → List Row → Bool
follows_on level start delimiter [] = false
follows_on level start delimiter (r ∷ before) =
    pick (leb (level_of r) level) (continues level start delimiter r) (follows_on level start delimiter before)

-- "heads nest": how deep the next row may stand
unfoldable pub deepest : List Row → ℕ
deepest [] = 0
deepest (row k l t x ∷ before) = pick (eqb k 2) (l + 1) l

-- no field outside a map; no tag 0; no tag twice in a map; no count behind its run
unfoldable pub field_allowed : List Row → ℕ → ℕ → Bool
field_allowed before level tag =
    pick (eqb level 0) false
    (pick (eqb tag 0) false (pick (held_before 1 level tag before) false (pick (held_before 2 level tag before) false true)))

-- no tag 0; no second run on a tag, and none away from its count; one delimiter to a run
unfoldable pub head_allowed : List Row → ℕ → ℕ → ℕ → Bool
head_allowed before level start delimiter =
    pick (eqb level 0) true
    (pick (eqb start 0) false
    (pick (eqb delimiter 0) false
    (pick (held_before 1 level start before) (follows_on level start delimiter before)
    (pick (held_before 2 level start before) (follows_on level start delimiter before) true))))

unfoldable pub row_allowed : List Row → Row → Bool
row_allowed before (row k l t x) =
    pick (leb l (deepest before))
    (pick (eqb k 1) (field_allowed before l t) (pick (eqb k 2) (head_allowed before l t x) false))
    false

unfoldable pub rows_allowed : List Row → List Row → Bool
rows_allowed before [] = true
rows_allowed before (r ∷ rows) = pick (row_allowed before r) (rows_allowed (r ∷ before) rows) false

-- the three parts stand at level 0, in their order
unfoldable pub is_part : ℕ → Row → Bool
is_part part r = pick (matches 2 0 part r) (delimiter_is 0 r) false

-- the part that must come next, 0 where another row stands in its place
unfoldable pub next_part : ℕ → Row → ℕ
next_part part r = pick (eqb (level_of r) 0) (pick (is_part part r) (part + 1) 0) part

unfoldable pub parts_from : ℕ → List Row → Bool
parts_from part [] = eqb part 4
parts_from part (r ∷ rows) = pick (eqb (next_part part r) 0) false (parts_from (next_part part r) rows)

-- whether a head has a field of its own
unfoldable pub is_own : ℕ → Row → Bool
is_own level (row k l t x) = pick (eqb k 1) (eqb l level) false

unfoldable pub own_below : ℕ → List Row → Bool
own_below level [] = false
own_below level (r ∷ rows) = pick (leb (level_of r) level) false (pick (is_own (level + 1) r) true (own_below level rows))

-- the number of stored fields; heads above the floor are no entries
unfoldable pub weight : ℕ → Row → List Row → ℕ
weight floor (row k l t x) rows = pick (eqb k 1) 1 (pick (ltb l floor) 0 (pick (own_below l rows) 0 1))

unfoldable pub fields_in : ℕ → List Row → ℕ
fields_in floor [] = 0
fields_in floor (r ∷ rows) = weight floor r rows + fields_in floor rows

-- what is lent: 8,205 words, of which the first counts rows, and a store of 8,192 bytes
unfoldable pub row_count : List ℕ → ℕ
row_count words = get_or words 0 0

unfoldable pub rows_of : List ℕ → List Row
rows_of words = rows_from (row_count words - 0) 0 words

unfoldable pub is_laid : List ℕ → List ℕ → Bool
is_laid words values =
    pick (eqb (length words) message_words)
    (pick (eqb (length values) 8192)
    (pick (leb (row_count words) message_rows) (pick (rows_allowed [] (rows_of words)) (leb (sizes (rows_of words)) 8192) false) false)
    false)
    false

-- a message: laid out, its three parts in order, at most 1,024 fields
unfoldable pub is_message : List ℕ → List ℕ → Bool
is_message words values =
    pick (is_laid words values) (pick (parts_from 1 (rows_of words)) (leb (fields_in 1 (rows_of words)) 1024) false) false
