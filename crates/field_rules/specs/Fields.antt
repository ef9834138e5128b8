-- Stage one of reading: all the fields that can be read one after the other, and why there is no further one.
use Rattle.std.specs.Prelude.{ℕ, zero, suc, ◌+◌, ◌-◌, ◌≤◌, List, length, Result, Ok, Err}
use Rattle.field_rules.specs.Field.{field_at}
use Rattle.field_rules.specs.declared.Mode.{Mode}
use Rattle.field_rules.specs.declared.Cursor.{Cursor}
use Rattle.field_rules.specs.declared.Field.{Field}
use Rattle.field_rules.specs.declared.Cause.{Cause}
use Rattle.field_rules.specs.declared.Cause.TheVariants.{NoEquals}

-- fields in the order in which they are read, and at the end the cause and the place of the unreadable one
pub data Fields : Type 0 where
  unreadable : Cause → ℕ → Fields
  field : Field → Fields → Fields

unfoldable pub followed_by : Result Field (Cause × ℕ) → (Field → Fields) → Fields
followed_by (Err (cause, place)) rest = unreadable cause place
followed_by (Ok f) rest = field f (rest f)

-- at most so many fields, which is enough where no more bytes than that are left
unfoldable pub fields_within : ℕ → Mode → List ℕ → Cursor → Fields
fields_within zero mode message c = unreadable NoEquals c.at
fields_within (suc fuel) mode message c =
    followed_by (field_at mode message c) (λ f. fields_within fuel mode message f.next)

-- all the fields from a cursor on
unfoldable pub fields_from : Mode → List ℕ → Cursor → Fields
fields_from mode message c = fields_within (length message - c.at) mode message c

-- a field's value lies within the message
pub record Inside (message : List ℕ) (f : Field) : Type 0 where
  pub within : f.place + f.length ≤ length message

-- what holds of each field
pub data Each (P : Field → Type 0) : Fields → Type 0 where
  each_end : {cause : Cause} {place : ℕ} → Each P (unreadable cause place)
  each_field : {f : Field} {rest : Fields} → P f → Each P rest → Each P (field f rest)

-- where fields start
unfoldable pub start_of : Fields → ℕ
start_of (unreadable cause place) = place
start_of (field f rest) = f.first
