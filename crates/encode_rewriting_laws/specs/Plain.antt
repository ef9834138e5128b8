-- Texts without leading zeros, and a CheckSum of three digits: what makes a message's own bytes those that an encoding writes.
use Rattle.std.specs.Prelude.{ℕ, suc, ◌-◌, List, Bool, true, false, get_or, eqb}
use Rattle.field_rules.specs.Choice.{pick}
use Rattle.field_rules.specs.Number.{is_digit}
use Rattle.field_rules.specs.Fields.{Fields, unreadable, field}
use Rattle.field_rules.specs.declared.Field.{Field}

-- "without leading zeros": digits at a place start with another one than 0, or are one digit
unfoldable pub is_plain : List ℕ → ℕ → ℕ → Bool
is_plain message place size = pick (eqb size 1) true (pick (eqb (get_or message place 0) 48) false true)

-- "tags .. without leading zeros", of every field that is read up to one that starts at a place
unfoldable pub plain_tags : List ℕ → ℕ → Fields → Bool
plain_tags message last (unreadable cause at) = true
plain_tags message last (field f rest) =
    pick (is_plain message f.first (f.place - f.first - 1)) (pick (eqb f.first last) true (plain_tags message last rest)) false

-- "BodyLength without leading zeros": of the second field
unfoldable pub plain_length : List ℕ → Fields → Bool
plain_length message (unreadable cause at) = false
plain_length message (field f (unreadable cause at)) = false
plain_length message (field f (field g rest)) = is_plain message g.place g.length

-- "CheckSum three digits", of the field that stops the trailer
unfoldable pub three_digits : List ℕ → Field → Bool
three_digits message f =
    pick (eqb f.length 3)
    (pick (is_digit (get_or message f.place 0)) (pick (is_digit (get_or message (suc f.place) 0)) (is_digit (get_or message (suc (suc f.place)) 0)) false) false)
    false
