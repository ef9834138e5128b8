-- RULES.md, Integrity: one definition to a check, in the order in which they are made. Each takes what was read and goes on to the next.
use Rattle.std.specs.Prelude.{ℕ, ◌+◌, ◌-◌, ◌%◌, List, Bool, true, false, length, take, eqb, Option, Some, None, Result, Ok, Err}
use Rattle.field_rules.specs.Choice.{pick}
use Rattle.field_rules.specs.Number.{number_in}
use Rattle.field_rules.specs.CheckSum.{sum_of, checksum_of}
use Rattle.field_rules.specs.Field.{start_at, field_at, value_of}
use Rattle.field_rules.specs.declared.Mode.{Mode}
use Rattle.field_rules.specs.declared.Field.{Field}
use Rattle.build_integrity_rules.specs.declared.GarbledReason.{GarbledReason}
use Rattle.build_integrity_rules.specs.declared.GarbledReason.TheVariants.{Malformed, InvalidBeginString, InvalidBodyLength, InvalidMsgType, InvalidChecksum}
use Rattle.build_integrity_rules.specs.declared.Verified.{Verified}
use Rattle.field_rules.specs.declared.Cause.{Cause}

-- The rules' number for each reason
unfoldable pub number_of_reason : GarbledReason → ℕ
number_of_reason Malformed = 10
number_of_reason InvalidBeginString = 11
number_of_reason InvalidBodyLength = 12
number_of_reason InvalidMsgType = 13
number_of_reason InvalidChecksum = 14

-- 0 where the message is sound, else the rules' number
unfoldable pub number_of_integrity : Result Verified GarbledReason → ℕ
number_of_integrity (Ok v) = 0
number_of_integrity (Err reason) = number_of_reason reason

-- "field 3 has tag 35, else 13"
unfoldable pub typed : Field → Field → Field → Result Field (Cause × ℕ) → Result Verified GarbledReason
typed begin body check (Err (cause, place)) = Err InvalidMsgType
typed begin body check (Ok f) =
    pick (eqb f.tag 35)
    (Ok (record { begin_string = begin; body_length = body; checksum = check; msg_type = f }))
    (Err InvalidMsgType)

-- "where its value is three digits it equals the sum mod 256 of all bytes before it"; "any other CheckSum value is not compared"
unfoldable pub sum_is : List ℕ → Field → Option ℕ → Bool
sum_is message f None = true
sum_is message f (Some n) = eqb n (sum_of (take f.first message) % 256)

unfoldable pub sum_agrees : List ℕ → Field → Bool
sum_agrees message f = sum_is message f (checksum_of (value_of message f))

-- "a field with tag 10 can be read at length minus 7, else 14"
unfoldable pub summed : Mode → List ℕ → Field → Field → Result Field (Cause × ℕ) → Result Verified GarbledReason
summed mode message begin body (Err (cause, place)) = Err InvalidChecksum
summed mode message begin body (Ok f) =
    pick (eqb f.tag 10)
    (pick (sum_agrees message f) (typed begin body f (field_at mode message body.next)) (Err InvalidChecksum))
    (Err InvalidChecksum)

-- "its value is one or more digits and the message length is the place after field 2, plus that number, plus 7"
unfoldable pub length_is : List ℕ → Field → Option ℕ → Bool
length_is message f None = false
length_is message f (Some n) = eqb (length message) (f.next.at + n + 7)

unfoldable pub length_agrees : List ℕ → Field → Bool
length_agrees message f = length_is message f (number_in (value_of message f))

-- "field 2 has tag 9, else 12"
unfoldable pub counted : Mode → List ℕ → Field → Result Field (Cause × ℕ) → Result Verified GarbledReason
counted mode message begin (Err (cause, place)) = Err InvalidBodyLength
counted mode message begin (Ok f) =
    pick (eqb f.tag 9)
    (pick (length_agrees message f) (summed mode message begin f (field_at mode message (start_at (length message - 7)))) (Err InvalidBodyLength))
    (Err InvalidBodyLength)

-- "field 1 has tag 8, else 11"
unfoldable pub begun : Mode → List ℕ → Result Field (Cause × ℕ) → Result Verified GarbledReason
begun mode message (Err (cause, place)) = Err InvalidBeginString
begun mode message (Ok f) =
    pick (eqb f.tag 8) (counted mode message f (field_at mode message f.next)) (Err InvalidBeginString)

unfoldable pub integrity_of : Mode → List ℕ → Result Verified GarbledReason
integrity_of mode message = begun mode message (field_at mode message (start_at 0))
