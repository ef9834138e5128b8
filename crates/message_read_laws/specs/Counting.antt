-- How much is read: each field that is read makes at most one record, and takes at least three bytes more than its value has.
use Rattle.std.specs.Prelude.{ℕ, ◌+◌, ◌≤◌, ◌≡◌, List, [], ◌∷◌, length}
use Rattle.field_rules.specs.Fields.{Fields, unreadable, field, Each}
use Rattle.field_rules.specs.declared.Field.{Field}
use Rattle.build_records.specs.declared.Record.{Record}
use Rattle.build_nesting_laws.specs.Entries.{All}
use Rattle.message_read_laws.specs.Shapes.{Placed, Tagged}

-- the bytes of all values
unfoldable pub total : List Record → ℕ
total [] = 0
total (r ∷ rs) = r.length + total rs

-- the bytes that fields have at least
unfoldable pub budget : Fields → ℕ
budget (unreadable cause place) = 0
budget (field f rest) = f.length + 3 + budget rest

-- a field has a tag, and its value lies in the message
pub record Fine (message : List ℕ) (f : Field) : Type 0 where
  pub some : f.tag ≡ 0 → ⊥
  pub inside : f.place + f.length ≤ length message

-- a record's tag and value are those of a field
pub record Of (part : ℕ) (f : Field) (r : Record) : Type 0 where
  pub of : r.part ≡ part
  pub tagged : r.tag ≡ f.tag
  pub placed : r.place ≡ f.place
  pub sized : r.length ≡ f.length

-- records of a part that were read, while fields and room are left, of so many fields and bytes
pub record Counts (message : List ℕ) (part most bytes : ℕ) (fields : Fields) (room : ℕ) (rs : List Record) : Type 0 where
  pub tagged : All Tagged rs
  pub placed : All (Placed message part) rs
  pub few : length rs + room ≤ most
  pub small : total rs + budget fields ≤ bytes
  pub each : Each (Fine message) fields

-- a record comes in
pub record Grows (r : Record) (rs grown : List Record) : Type 0 where
  pub tags : Tagged r → All Tagged rs → All Tagged grown
  pub places : (message : List ℕ) (part : ℕ) → Placed message part r → All (Placed message part) rs → All (Placed message part) grown
  pub longer : length grown ≤ length rs + 1
  pub larger : total grown ≤ total rs + r.length
