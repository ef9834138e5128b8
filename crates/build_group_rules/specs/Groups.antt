-- RULES.md, Groups: one field to a step, over a stack of what is open. Stage one's list of fields is taken from the front; the room is
-- how many fields may still be read. What a level is and how records are kept are parameters: `Rules` look a level up, a `Store` keeps.
use Rattle.std.specs.Prelude.{ℕ, zero, suc, ◌+◌, List, [], ◌∷◌, Bool, false, eqb, leb, ltb, Option, Some, None}
use Rattle.field_rules.specs.Choice.{pick}
use Rattle.field_rules.specs.Fields.{Fields, unreadable, field}
use Rattle.field_rules.specs.declared.Field.{Field}
use Rattle.build_records.specs.declared.Record.{Record}
use Rattle.build_group_rules.specs.declared.Refusal.{Refusal}
use Rattle.build_group_rules.specs.declared.Refusal.TheVariants.{Malformed, TooManyFields, InvalidOrderInGroup}

-- the level of a group's entries, where a tag has one
pub data Opened (L : Type 0) : Type 0 where
  none : Opened L
  opened : L → Opened L

-- what is looked up of a level, and which unknown tags are taken
pub record Rules (L : Type 0) : Type 0 where
  pub delimiter : L → Option ℕ
  pub position : L → ℕ → Option ℕ
  pub group : L → ℕ → Opened L
  pub accepts : ℕ → Bool

-- "the delimiter (the layout's first tag)"
unfoldable pub is_delimiter : Option ℕ → ℕ → Bool
is_delimiter None tag = false
is_delimiter (Some delimiter) tag = eqb delimiter tag

-- what a tag is to an open entry; a tag of the level comes with its position
pub data Kind (L : Type 0) : Type 0 where
  plain : ℕ → Kind L
  count : L → ℕ → Kind L
  joins : Kind L
  wrong : Kind L
  ends : Kind L

-- "A nested count starts a nested run": four levels may be open
unfoldable pub counting : {L : Type 0} → ℕ → ℕ → Opened L → Kind L
counting depth position none = plain position
counting depth position (opened inner) = pick (ltb depth 4) (count inner position) (plain position)

module _ {L : Type 0} (rules : Rules L) where
  unfoldable pub opens : L → ℕ → Bool
  opens level tag = is_delimiter (rules.delimiter level) tag

  -- "Declared tags must rise in position, else 2." "Unknown user tags join the open entry under the rule above."
  unfoldable pub declared : L → ℕ → ℕ → ℕ → Option ℕ → Kind L
  declared level depth last tag None = pick (rules.accepts tag) joins ends
  declared level depth last tag (Some position) = pick (leb position last) wrong (counting depth position (rules.group level tag))

  -- "Each delimiter opens an entry", and so ends the one before; "a delimiter that is itself a group tag is stored plain"
  unfoldable pub entry_kind : L → ℕ → ℕ → ℕ → Kind L
  entry_kind level depth last tag = pick (opens level tag) ends (declared level depth last tag (rules.position level tag))

-- a group whose count was read: the level of its entries, the count's tag, and the depth of its records
pub record OpenGroup (L : Type 0) : Type 0 where
  pub level : L
  pub tag : ℕ
  pub depth : ℕ

-- an entry that is open: its number in the group, the position of its last declared tag, and where its records start
pub record OpenEntry : Type 0 where
  pub number : ℕ
  pub last : ℕ
  pub start : ℕ

-- what is open: the run of a group, with how many of its entries were opened; or an entry of a group
pub data Frame (L : Type 0) : Type 0 where
  run : OpenGroup L → ℕ → Frame L
  entry : OpenGroup L → OpenEntry → Frame L

-- the numbers of a record in a group: its depth, and the number of its entry
pub record Numbers : Type 0 where
  pub depth : ℕ
  pub number : ℕ

-- what a tag does: it makes a record with these numbers; it joins the entry that starts at a place; it is out of order in the group
-- of a count's tag; or nothing that is open takes it
pub data Move (L : Type 0) : Type 0 where
  adds : List (Frame L) → Numbers → Move L
  joins_at : List (Frame L) → ℕ → Numbers → Move L
  disorders : ℕ → Move L
  leaves : Move L

-- the entry once a tag of a position was taken
abbrev pub reaching : OpenEntry → ℕ → OpenEntry
reaching own position = record { number = own.number; last = position; start = own.start }

-- the numbers of an entry's records, which stand at the depth of the group
abbrev pub numbers_in : {L : Type 0} → OpenGroup L → ℕ → Numbers
numbers_in group number = record { depth = group.depth; number = number }

-- the group that a count outside all groups starts
abbrev pub outermost : {L : Type 0} → ℕ → L → OpenGroup L
outermost tag inner = record { level = inner; tag = tag; depth = 1 }

-- the group that a count in the entry of a group starts
abbrev pub nested : {L : Type 0} → OpenGroup L → ℕ → L → OpenGroup L
nested group tag inner = record { level = inner; tag = tag; depth = group.depth + 1 }

module _ {L : Type 0} (group : OpenGroup L) (own : OpenEntry) (below : List (Frame L)) (tag : ℕ) (otherwise : Move L) where
  -- what a tag of each kind does to the entry
  unfoldable pub in_entry_lem : Kind L → Move L
  in_entry_lem (plain position) = adds (entry group (reaching own position) ∷ below) (numbers_in group own.number)
  in_entry_lem (count inner position) = adds (run (nested group tag inner) 0 ∷ entry group (reaching own position) ∷ below) (numbers_in group own.number)
  in_entry_lem joins = joins_at (entry group own ∷ below) own.start (numbers_in group own.number)
  in_entry_lem wrong = disorders group.tag
  in_entry_lem ends = otherwise

module _ {L : Type 0} (rules : Rules L) (here : ℕ) where
  -- "After a count field the delimiter must come, else 2. Each delimiter opens an entry. .. Any other tag ends the run."
  -- The records of the next entry start here.
  unfoldable pub decide : List (Frame L) → ℕ → Move L
  decide [] tag = leaves
  decide (run group entries ∷ below) tag =
      pick (opens rules group.level tag)
      (adds (entry group (record { number = entries + 1; last = 0; start = here }) ∷ run group (entries + 1) ∷ below) (numbers_in group (entries + 1)))
      (pick (eqb entries 0) (disorders group.tag) (decide below tag))
  decide (entry group own ∷ below) tag =
      in_entry_lem group own below tag (decide below tag) (entry_kind rules group.level group.depth own.last tag)

-- the record of a field of the body that stands in an entry
unfoldable pub entry_record : ℕ → ℕ → Field → Record
entry_record depth number f = record { part = 2; depth = depth; number = number; tag = f.tag; place = f.place; length = f.length }

-- how records are kept: where the next one goes, a new one, one that joins what was kept from a place on, and what a refusal leaves
pub record Store (S W : Type 0) : Type 0 where
  pub place : S → ℕ
  pub add : Record → S → S
  pub join : ℕ → Record → S → S
  pub left : S → W

-- reading ends at a field, with the fields behind it, the room that is left and what was kept; or it is refused
pub data RunOutcome (S W : Type 0) : Type 0 where
  ended : Field → Fields → ℕ → S → RunOutcome S W
  refused : Refusal → W → RunOutcome S W

module _ {L S W : Type 0} (store : Store S W) (room : ℕ) (s : S) (f : Field) (rest : Fields) where
  -- what is done with a field, and how reading goes on
  unfoldable pub moved : (List (Frame L) → S → RunOutcome S W) → Move L → RunOutcome S W
  moved on (adds stack numbers) = on stack (store.add (entry_record numbers.depth numbers.number f) s)
  moved on (joins_at stack start numbers) = on stack (store.join start (entry_record numbers.depth numbers.number f) s)
  moved on (disorders group) = refused (InvalidOrderInGroup f.tag group) (store.left s)
  moved on leaves = ended f rest room s

module _ {L S W : Type 0} (rules : Rules L) (store : Store S W) where
  -- "No field where .. a group needs one: 10." "21 comes before any other verdict on that field."
  unfoldable pub walk : ℕ → List (Frame L) → S → Fields → RunOutcome S W
  walk room stack s (unreadable cause place) = refused (Malformed cause place) (store.left s)
  walk zero stack s (field f rest) = refused TooManyFields (store.left s)
  walk (suc room) stack s (field f rest) =
      moved store room s f rest (λ stack₁ s₁. walk room stack₁ s₁ rest) (decide rules (store.place s) stack f.tag)

  -- the same from a field on that is read already
  unfoldable pub taking : ℕ → List (Frame L) → S → Field → Fields → RunOutcome S W
  taking room stack s f rest =
      moved store room s f rest (λ stack₁ s₁. walk room stack₁ s₁ rest) (decide rules (store.place s) stack f.tag)

-- reading goes on at the field where it ended, unless it was refused
unfoldable pub and_then : {S W : Type 0} → RunOutcome S W → (ℕ → S → Field → Fields → RunOutcome S W) → RunOutcome S W
and_then (ended f rest room s) on = on room s f rest
and_then (refused refusal w) on = refused refusal w
