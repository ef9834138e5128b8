-- "MsgType of 1 to 8 bytes, zero-filled": the number that a MsgType makes, low byte first, if it can be in a dictionary at all.
-- It is compared with its length: a zero byte in it makes it none.
use Rattle.std.specs.Prelude.{ℕ, zero, suc, ◌+◌, ◌*◌, List, [], ◌∷◌, Bool, true, false, length, eqb, ltb, Option, Some, None}
use Rattle.field_rules.specs.Choice.{pick}
use Rattle.dictionary_rules.specs.Record.{low_first}

-- no byte is zero
unfoldable pub no_zero : List ℕ → Bool
no_zero [] = true
no_zero (b ∷ s) = pick (eqb b 0) false (no_zero s)

unfoldable pub name_of : List ℕ → Option ℕ
name_of value =
    pick (eqb (length value) 0) None
    (pick (ltb 8 (length value)) None
    (pick (no_zero value) (Some (low_first value)) None))
