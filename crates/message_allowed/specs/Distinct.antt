-- Whether a map holds a tag, by the newest row of its level and tag and the newest row above the level. Rows are numbered from 1; 0 is none.
use Rattle.std.specs.Prelude.{ℕ, ◌+◌, Bool, true, false, List, [], ◌∷◌, length, eqb, ltb}
use Rattle.field_rules.specs.Choice.{pick}
use Rattle.message_maps.specs.Rows.{Row, row, level_of}
use Rattle.message_lent_rules.specs.Lent.{held_before}
use Rattle.message_lent_rules.specs.Standing.{is_uncounted}

-- whether a map has a field or a head of a tag before the next row
unfoldable pub held : ℕ → ℕ → List Row → Bool
held level tag before = pick (held_before 1 level tag before) true (held_before 2 level tag before)

unfoldable pub tagged : ℕ → ℕ → Row → Bool
tagged level tag (row k l t x) = pick (eqb t tag) (pick (eqb l level) (pick (eqb k 1) true (eqb k 2)) false) false

-- the newest row above a level: behind it stands the map that is open there
unfoldable pub opened : ℕ → List Row → ℕ
opened level [] = 0
opened level (r ∷ before) = pick (ltb (level_of r) level) (length before + 1) (opened level before)

-- the newest row of a level and tag
unfoldable pub latest : ℕ → ℕ → List Row → ℕ
latest level tag [] = 0
latest level tag (r ∷ before) = pick (tagged level tag r) (length before + 1) (latest level tag before)

-- how deep a row may stand at most
unfoldable pub reach : List Row → ℕ
reach [] = 0
reach (r ∷ before) = level_of r + 1

-- whether a row is the head of an entry before which its map holds neither the count nor another entry
unfoldable pub starts_run : List Row → Row → Bool
starts_run before (row k l t x) = pick (eqb k 2) (pick (eqb l 0) false (pick (held l t before) false true)) false

-- whether a row before, the nearest first, is an entry of a run without its count
unfoldable pub loose : List Row → Bool
loose [] = false
loose (r ∷ before) = pick (is_uncounted before r) true (loose before)
