-- What RULES.md, Field maps, makes of maps: no tag 0; a tag stands once in a map, as a field, as a field with its run right behind it, or as a run
-- alone; one delimiter to a run. Each entry's own map is made the same way.
use Rattle.std.specs.Prelude.{ℕ, ◌+◌, ◌≤◌, ◌≡◌, Bool, true, false, length, eqb}
use Rattle.field_rules.specs.Choice.{pick}
use Rattle.message_maps.specs.Map.{Map, end, field, entry, past_leading, field_count, values_in}
use Rattle.message_lent_rules.specs.Meaning.{Message, parts}

-- whether a tag stands in a map itself, its entries apart: as a field, or as the start tag of an entry
unfoldable pub stands : ℕ → Map → Bool
stands tag end = false
stands tag (field t v rest) = pick (eqb t tag) true (stands tag rest)
stands tag (entry s d own rest) = pick (eqb s tag) true (stands tag rest)

-- whether an entry that comes next has the delimiter of the run that it goes on with
unfoldable pub goes_on : ℕ → ℕ → Map → Bool
goes_on start delimiter end = true
goes_on start delimiter (field t v rest) = true
goes_on start delimiter (entry s d own rest) = pick (eqb s start) (eqb delimiter d) true

-- "Fields in order of first storing", "A group run hangs on its start tag": behind a field or an entry come entries of its tag, and then
-- the tag stands no more
unfoldable pub is_formed : Map → Bool
is_formed end = true
is_formed (field t v rest) = pick (eqb t 0) false (pick (stands t (past_leading t rest)) false (is_formed rest))
is_formed (entry s d own rest) =
    pick (eqb s 0) false
    (pick (eqb d 0) false
    (pick (stands s (past_leading s rest)) false (pick (goes_on s d rest) (pick (is_formed own) (is_formed rest) false) false)))

-- entries alone, each of such a map; their own start and delimiter tags may be any
unfoldable pub entries_formed : Map → Bool
entries_formed end = true
entries_formed (field t v rest) = false
entries_formed (entry s d own rest) = pick (is_formed own) (entries_formed rest) false

-- a message of three such maps
pub record Formed (m : Message) : Type 0 where
  pub header : is_formed m.header ≡ true
  pub body : is_formed m.body ≡ true
  pub trailer : is_formed m.trailer ≡ true

-- and within the limits: 8,192 bytes of values, 1,024 fields
pub record Within (m : Message) : Type 0 where
  pub formed : Formed m
  pub small : length (values_in (parts m)) ≤ 8192
  pub few : field_count m.header + (field_count m.body + field_count m.trailer) ≤ 1024

-- whether a map is a run: entries of one start tag and one delimiter, and no field
unfoldable pub is_run : ℕ → ℕ → Map → Bool
is_run start delimiter end = true
is_run start delimiter (field t v rest) = false
is_run start delimiter (entry s d own rest) = pick (eqb s start) (pick (eqb d delimiter) (is_run start delimiter rest) false) false
