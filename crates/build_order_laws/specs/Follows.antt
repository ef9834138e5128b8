-- Records in the order of reading: each is that of the field that was read, one behind the other.
use Rattle.std.specs.Prelude.{ℕ, zero, suc, ◌+◌, ◌≤◌, ◌≡◌, List, [], ◌∷◌, ◌++◌, length}
use Rattle.field_rules.specs.Fields.{Fields, field}
use Rattle.field_rules.specs.declared.Field.{Field}
use Rattle.build_records.specs.declared.Record.{Record}
use Rattle.message_read_laws.specs.Counting.{Of}

-- the records of a part are those of the fields, up to where reading stands then
pub data Follows (part : ℕ) : Fields → List Record → Fields → Type 0 where
  no_field : {fields : Fields} → Follows part fields [] fields
  one_field : {f : Field} {rest last : Fields} {rs : List Record} (r : Record) → Of part f r → Follows part rest rs last → Follows part (field f rest) (r ∷ rs) last

-- reading stands so many fields further on
pub data Reaches : Fields → ℕ → Fields → Type 0 where
  here : {fields : Fields} → Reaches fields zero fields
  further : {f : Field} {rest last : Fields} {n : ℕ} → Reaches rest n last → Reaches (field f rest) (suc n) last

-- all that was stored stands behind what was there, in the order of reading
pub record Ordered (part : ℕ) (fields : Fields) (rs : List Record) (last : Fields) (ss : List Record) : Type 0 where
  pub new : List Record
  pub appended : ss ≡ rs ++ new
  pub follows : Follows part fields new last

-- Fields were read and stored in a part. A field makes one record at the most; where each made one, they stand in the order of reading.
pub record Stores (part : ℕ) (fields : Fields) (room : ℕ) (rs : List Record) (last : Fields) (left : ℕ) (ss : List Record) : Type 0 where
  pub read : ℕ
  pub reaches : Reaches fields read last
  pub room_is : room ≡ read + left
  pub at_most : length ss ≤ length rs + read
  pub ordered : length ss ≡ length rs + read → Ordered part fields rs last ss
