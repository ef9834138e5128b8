-- RULES.md, Encoding: one definition to a sentence, in the rules' order.
use Rattle.std.specs.Prelude.{ℕ, zero, suc, ◌+◌, ◌%◌, Bool, true, false, List, [], ◌∷◌, ◌++◌, length, eqb, leb, ltb}
use Rattle.field_rules.specs.Choice.{pick}
use Rattle.field_rules.specs.Decimal.{decimal}
use Rattle.field_rules.specs.CheckSum.{sum_of, checksum_digits}
use Rattle.field_rules.specs.Field.{field_bytes}
use Rattle.message_maps.specs.Map.{Map, end, field, entry, joined, holds, without_field, stored}
use Rattle.message_lent_rules.specs.Meaning.{Message}

-- a map as bytes, "in map order, each count followed by its entries"
unfoldable pub text : ℕ → Map → List ℕ
text separator end = []
text separator (field t v rest) = field_bytes separator (decimal t) v ++ text separator rest
text separator (entry s d own rest) = text separator own ++ text separator rest

-- what a map has under chosen tags: the fields, and the runs that hang on them
unfoldable pub text_under : (ℕ → Bool) → ℕ → Map → List ℕ
text_under chosen separator end = []
text_under chosen separator (field t v rest) =
    pick (chosen t) (field_bytes separator (decimal t) v) [] ++ text_under chosen separator rest
text_under chosen separator (entry s d own rest) =
    pick (chosen s) (text separator own) [] ++ text_under chosen separator rest

-- "write the header's 8, 9, 35, then the rest in map order"
unfoldable pub is_first : ℕ → Bool
is_first tag = pick (eqb tag 8) true (pick (eqb tag 9) true (eqb tag 35))

unfoldable pub is_rest : ℕ → Bool
is_rest tag = pick (is_first tag) false true

unfoldable pub header_text : ℕ → Map → List ℕ
header_text separator header =
    text_under (λ tag. eqb tag 8) separator header
    ++ (text_under (λ tag. eqb tag 9) separator header
    ++ (text_under (λ tag. eqb tag 35) separator header ++ text_under is_rest separator header))

unfoldable pub message_text : ℕ → Message → List ℕ
message_text separator m =
    header_text separator m.header ++ (text separator m.body ++ text separator m.trailer)

-- "the total of (tag digits + value + 2)"
unfoldable pub bytes_of : Map → ℕ
bytes_of end = 0
bytes_of (field t v rest) = (length (decimal t) + length v + 2) + bytes_of rest
bytes_of (entry s d own rest) = bytes_of own + bytes_of rest

-- "drop the trailer's 10"
unfoldable pub dropped : Message → Message
dropped m = record { header = m.header; body = m.body; trailer = without_field 10 m.trailer }

-- ".. over all fields and entries except the header's own 8 and 9"
unfoldable pub body_length : Message → ℕ
body_length m = bytes_of (without_field 9 (without_field 8 m.header)) + (bytes_of m.body + bytes_of m.trailer)

-- "set the header's 9"
unfoldable pub measured : Message → Message
measured m = record { header = stored 9 (decimal (body_length m)) m.header; body = m.body; trailer = m.trailer }

-- the three digits of the sum of all before
unfoldable pub sum_digits : List ℕ → List ℕ
sum_digits before = checksum_digits (sum_of before % 256)

-- "the prefix `10=`, three digits and the separator"
unfoldable pub summed : ℕ → List ℕ → List ℕ
summed separator before = before ++ (49 ∷ 48 ∷ 61 ∷ (sum_digits before ++ (separator ∷ [])))

-- the encoding of a message that is not refused
unfoldable pub encoding : ℕ → Message → List ℕ
encoding separator m = summed separator (message_text separator (measured (dropped m)))

-- "the message then holds the new 9, and the new 10 last in its trailer"
unfoldable pub encoded_message : ℕ → Message → Message
encoded_message separator m =
    let n = measured (dropped m) in
    record { header = n.header; body = n.body; trailer = stored 10 (sum_digits (message_text separator n)) n.trailer }
