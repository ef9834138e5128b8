-- Repeating groups of the standard against the layout that they are read by: what it is that a group fits its layout, and the records that
-- its entries are. Each field has the depth and the entry number that the standard's own structure gives it.
use Rattle.std.specs.Prelude.{◌≡◌, ◌⊎◌, true, false, List, [], ◌∷◌, ◌++◌, ℕ, suc, ◌+◌, ◌≤◌, ◌<◌, take, drop, Some, None}
use Rattle.field_rules.specs.Fields.{Fields, unreadable, field}
use Rattle.standard_rules.specs.Standard.{Tables, NoCount, All, Told, Int, Once, Stretch, members, entries, Stands}
use Rattle.build_records.specs.declared.Record.{Record}
use Rattle.build_group_rules.specs.Groups.{none, opened, Rules, opens, entry_record}

-- ===== what the entries are =====

-- the depth of each field and the number of its entry: members stand in the entry of a number; of entries so many came before
unfoldable pub numbered : {T : Tables} {Here : ℕ → Type 0} {stretch : Stretch} {fs : List Told} → ℕ → ℕ → Stands T Here stretch fs → List (ℕ × ℕ)
numbered depth number Stands.no_member = []
numbered depth number (Stands.field _ _ s) = (depth, number) ∷ numbered depth number s
numbered depth number (Stands.group _ _ i g s) = (depth, number) ∷ (numbered (depth + 1) 0 g ++ numbered depth number s)
numbered depth number Stands.no_entry = []
numbered depth number (Stands.entry m _ d g) = numbered depth (number + 1) m ++ numbered depth (number + 1) g

-- the records of fields that were read, each with its depth and entry number
unfoldable pub records_as : List (ℕ × ℕ) → Fields → List Record
records_as [] fields = []
records_as (n ∷ ns) (unreadable cause place) = []
records_as (n ∷ ns) (field f rest) = entry_record n.0 n.1 f ∷ records_as ns rest

-- what records tell: depth and entry number, tag and value of each field, in order, in a part of the message (1 header, 2 body, 3 trailer)
pub data Tell (message : List ℕ) (part : ℕ) : List (ℕ × ℕ) → List Told → List Record → Type 0 where
  no_record : Tell message part [] [] []
  one_record : {n : ℕ × ℕ} {ns : List (ℕ × ℕ)} {f : Told} {fs : List Told} {r : Record} {rs : List Record} → r.part ≡ part → r.depth ≡ n.0 → r.number ≡ n.1 → r.tag ≡ f.tag → take r.length (drop r.place message) ≡ f.value
      → Tell message part ns fs rs → Tell message part (n ∷ ns) (f ∷ fs) (r ∷ rs)

-- the tag behind a stretch: that of the first field that follows, or else the one behind all of them
unfoldable pub tag_behind : ℕ → List Told → ℕ
tag_behind next [] = next
tag_behind next (f ∷ fs) = f.tag

-- ===== what fits =====

-- what a stretch is read by: a level at a depth, and within an entry the position of the last declared tag
pub data Part (L : Type 0) : Type 0 where
  entries_of : L → ℕ → Part L
  members_of : L → ℕ → ℕ → Part L

module _ {L : Type 0} (rules : Rules L) where
  -- neither a run of the level nor an entry of it takes the tag
  pub record Leaves (level : L) (tag : ℕ) : Type 0 where
    pub no_delimiter : opens rules level tag ≡ false
    pub no_position : rules.position level tag ≡ None
    pub not_accepted : rules.accepts tag ≡ false

  -- a declared tag of the level that rises in position, and is not the delimiter
  pub record Rises (level : L) (last position tag : ℕ) : Type 0 where
    pub no_delimiter : opens rules level tag ≡ false
    pub placed : rules.position level tag ≡ Some position
    pub rises : last < position

  -- "unknown user tags join the open entry"
  pub record Joins (level : L) (tag : ℕ) : Type 0 where
    pub no_delimiter : opens rules level tag ≡ false
    pub no_position : rules.position level tag ≡ None
    pub accepted : rules.accepts tag ≡ true

  module _ {T : Tables} {Here : ℕ → Type 0} where
    -- A stretch fits where `next` is the tag behind it. An entry starts with the level's delimiter, which is a field and no group; the other
    -- members rise in position, or are unknown user tags. What is a group there is one of the layout, less than four levels are open, and the
    -- tag behind it is none that it would take; what is a declared field is no group of the layout, or four levels are open.
    pub data Fits : Part L → ℕ → (stretch : Stretch) → (fs : List Told) → Stands T Here stretch fs → Type 0 where
      no_member : {level : L} {depth last next : ℕ} → Fits (members_of level depth last) next _ _ Stands.no_member
      plain : {level : L} {depth last next position t : ℕ} {v : List ℕ} {ts : List ℕ} {fs : List Told} {may : Here t} {single : NoCount T t} {s : Stands T Here (members ts) fs}
          → Rises level last position t → (rules.group level t ≡ none) ⊎ (4 ≤ depth)
          → Fits (members_of level depth position) next _ _ s → Fits (members_of level depth last) next _ _ (Stands.field {t = t} {v = v} may single s)
      user : {level : L} {depth last next t : ℕ} {v : List ℕ} {ts : List ℕ} {fs : List Told} {may : Here t} {single : NoCount T t} {s : Stands T Here (members ts) fs}
          → Joins level t → Fits (members_of level depth last) next _ _ s → Fits (members_of level depth last) next _ _ (Stands.field {t = t} {v = v} may single s)
      nested : {level inner : L} {depth last next position t d n : ℕ} {count : List ℕ} {ts : List ℕ} {gs fs : List Told} {may : Here t} {opening : T.Group t d} {i : Int count (suc n)}
          {g : Stands T Here (entries t d (suc n)) gs} {s : Stands T Here (members ts) fs} → Rises level last position t → rules.group level t ≡ opened inner → depth < 4
          → Leaves inner (tag_behind next fs) → Fits (entries_of inner (depth + 1)) (tag_behind next fs) _ _ g
          → Fits (members_of level depth position) next _ _ s → Fits (members_of level depth last) next _ _ (Stands.group {t = t} may opening i g s)
      no_entry : {level : L} {depth next c d : ℕ} → Fits (entries_of level depth) next _ _ (Stands.no_entry {c = c} {d = d})
      starts : {level : L} {depth next c d n : ℕ} {v : List ℕ} {ts : List ℕ} {fs gs : List Told} {may : Here d} {single : NoCount T d} {m : Stands T Here (members ts) fs} {own : All (T.Member c) (d ∷ ts)} {once : Once (d ∷ ts)}
          {g : Stands T Here (entries c d n) gs} → opens rules level d ≡ true → Fits (members_of level depth 0) (tag_behind next gs) _ _ m
          → Fits (entries_of level depth) next _ _ g → Fits (entries_of level depth) next _ _ (Stands.entry (Stands.field {t = d} {v = v} may single m) own once g)
