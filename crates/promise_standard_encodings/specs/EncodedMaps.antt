-- Which maps are written as fields of the standard, over FIX's tables: every tag is of its part; each run stands behind its count, which is a
-- count tag and whose value is the number of its entries; an entry begins with its delimiter and has tags of its group; a data tag stands right
-- behind its length. Such a map is written as members, count by count and entry by entry.
use Rattle.std.specs.Prelude.{◌≡◌, false, ℕ, zero, suc, ◌≤◌, length}
use mathlib.Core.List.{List, [], ◌∷◌, ◌++◌}
use Rattle.standard_rules.specs.Standard as standard
use Rattle.standard_rules.specs.Standard.{Tables, NoData, NoCount, All, Int, Told, placed, members, Fields, Stands}
use Rattle.standard_rules.proofs.StandardLaws.{one_of}
use Rattle.message_maps.specs.Map.{Map, end, field, entry}
use Rattle.encode_rules.specs.Encoding.{text}

-- the tags of a map itself, its entries apart
unfoldable pub tags_of : Map → List ℕ
tags_of end = []
tags_of (field t v rest) = t ∷ tags_of rest
tags_of (entry s d own rest) = tags_of rest

-- what comes next in a map: fields, or so many entries of a run and then fields
pub data Next : Type 0 where
  fields : Next
  entries : (start delimiter : ℕ) → ℕ → Next

-- a tag without a place of its own in the message: none of 8, 9, 35, 10
abbrev pub Unplaced : ℕ → Type 0
Unplaced tag = one_of placed tag ≡ false

-- `IsValue`: what is asked of a value that is not data. `Here`: the tags of the map's part.
pub data Conforms (T : Tables) (IsValue : List ℕ → Type 0) (Here : ℕ → Type 0) : Next → Map → Type 0 where
  no_more : Conforms T IsValue Here fields end
  alone : {t : ℕ} {v : List ℕ} {rest : Map} → Here t → NoCount T t → NoData T t → IsValue v → Conforms T IsValue Here fields rest → Conforms T IsValue Here fields (field t v rest)
  -- "each data tag right behind its length with that many bytes", whatever bytes they are
  with_data : {l t : ℕ} {count v : List ℕ} {rest : Map} → Here l → NoCount T l → Here t → NoCount T t → T.Pair l t → Int count (length v) → 1 ≤ length v
      → Conforms T IsValue Here fields rest → Conforms T IsValue Here fields (field l count (field t v rest))
  -- "counts equal their entries"
  counted : {t d n : ℕ} {v : List ℕ} {rest : Map} → Here t → T.Group t d → NoData T t → Int v (suc n) → Conforms T IsValue Here (entries t d (suc n)) rest
      → Conforms T IsValue Here fields (field t v rest)
  no_entry : {s d : ℕ} {rest : Map} → Conforms T IsValue Here fields rest → Conforms T IsValue Here (entries s d zero) rest
  one_entry : {s d n : ℕ} {v : List ℕ} {inner rest : Map} → Conforms T IsValue Here fields (field d v inner) → All (T.Member s) (tags_of (field d v inner)) → All Unplaced (tags_of (field d v inner))
      → Conforms T IsValue Here (entries s d n) rest → Conforms T IsValue Here (entries s d (suc n)) (entry s d (field d v inner) rest)

-- ===== values =====

-- of every field of a map, in its entries too
pub data Values (P : List ℕ → Type 0) : Map → Type 0 where
  none : Values P end
  one : {t : ℕ} {v : List ℕ} {rest : Map} → P v → Values P rest → Values P (field t v rest)
  within : {s d : ℕ} {own rest : Map} → Values P own → Values P rest → Values P (entry s d own rest)

-- what is asked of a value that was read: it is not empty
pub record Some (value : List ℕ) : Type 0 where
  pub some : 1 ≤ length value

-- ===== what a map is written as =====

pub record FieldsOf (T : Tables) (Here : ℕ → Type 0) (m : Map) : Type 0 where
  pub all : List Told
  pub text_is : Fields T all (text 1 m)
  pub members_are : Stands T Here (members (tags_of m)) all

pub record EntriesOf (T : Tables) (Here : ℕ → Type 0) (c d n : ℕ) (m : Map) : Type 0 where
  pub run : List Told
  pub others : List Told
  pub text_is : Fields T (run ++ others) (text 1 m)
  pub entries_are : Stands T Here (standard.entries c d n) run
  pub members_are : Stands T Here (members (tags_of m)) others
