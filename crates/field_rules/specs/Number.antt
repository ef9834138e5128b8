-- What a text of digits is worth: tags and BodyLength (RULES.md, Field reading and Integrity).
use Rattle.std.specs.Prelude.{ℕ, ◌+◌, ◌*◌, ◌-◌, List, [], ◌∷◌, Bool, true, false, length, eqb, leb, Option, Some, None}
use Rattle.field_rules.specs.Choice.{pick}

-- a byte from `0` to `9`
unfoldable pub is_digit : ℕ → Bool
is_digit x = pick (leb 48 x) (leb x 57) false

-- every byte is a digit
unfoldable pub all_digits : List ℕ → Bool
all_digits [] = true
all_digits (x ∷ s) = pick (is_digit x) (all_digits s) false

-- what the digits are worth, read after digits worth n
unfoldable pub worth : ℕ → List ℕ → ℕ
worth n [] = n
worth n (x ∷ s) = worth (n * 10 + (x - 48)) s

-- "one or more digits", here worth at most 4,294,967,295
unfoldable pub number_in : List ℕ → Option ℕ
number_in text =
    pick (eqb (length text) 0) None
    (pick (all_digits text) (pick (leb (worth 0 text) 4294967295) (Some (worth 0 text)) None) None)

unfoldable pub non_zero : Option ℕ → Option ℕ
non_zero None = None
non_zero (Some n) = pick (eqb n 0) None (Some n)

-- "the tag text, one or more digits worth 1 to 4,294,967,295, leading zeros allowed"
unfoldable pub tag_of : List ℕ → Option ℕ
tag_of text = non_zero (number_in text)
