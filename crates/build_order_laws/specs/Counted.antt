-- "Counted are the fields read in sequence, the 10 that stops the trailer included; where none stops it, the verified 10 counts last."
use Rattle.std.specs.Prelude.{ℕ, suc, List, eqb, Option, Some, None}
use Rattle.field_rules.specs.declared.Mode.{Mode}
use Rattle.field_rules.specs.Field.{start_at}
use Rattle.field_rules.specs.Choice.{pick}
use Rattle.field_rules.specs.Fields.{Fields, unreadable, field, fields_from}
use Rattle.field_rules.specs.declared.Field.{Field}

-- "the fields read in sequence, the 10 that stops the trailer included": up to the field that starts at a place
unfoldable pub counted_to : ℕ → Fields → ℕ
counted_to place (unreadable cause at) = 0
counted_to place (field f rest) = suc (pick (eqb f.first place) 0 (counted_to place rest))

-- "where none stops it, the verified 10 counts last"
unfoldable pub counted_all : Fields → ℕ
counted_all (unreadable cause at) = 1
counted_all (field f rest) = suc (counted_all rest)

unfoldable pub counted_fields : Option Field → Fields → ℕ
counted_fields (Some stop) fields = counted_to stop.first fields
counted_fields None fields = counted_all fields

-- of a whole message
unfoldable pub fields_counted : Mode → List ℕ → Option Field → ℕ
fields_counted mode message stop = counted_fields stop (fields_from mode message (start_at 0))

-- how many fields the trailer takes: those before the first tag 10
unfoldable pub trailer_fields : Fields → ℕ
trailer_fields (unreadable cause at) = 0
trailer_fields (field f rest) = pick (eqb f.tag 10) 0 (suc (trailer_fields rest))
