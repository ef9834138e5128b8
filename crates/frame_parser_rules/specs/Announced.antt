-- RULES.md, Ported framer: the message end: "After the first `=` and separator, and the second `=` and separator, the length is a 64-bit number ..
-- Message end: second separator + 1 + that + 7, as a plain sum." Each search starts behind what the last one found.
use Rattle.std.specs.Prelude.{ℕ, ◌+◌, ◌*◌, ◌-◌, ◌%◌, ◌^◌, List, [], ◌∷◌, take, drop, leb, Option, Some, None}
use Rattle.field_rules.specs.Choice.{pick}
use Rattle.field_rules.specs.Find.{find_in}
use Rattle.frame_parser_rules.specs.declared.Announced.{Announced}
use Rattle.frame_parser_rules.specs.declared.Announced.TheVariants.{Ends, Over, Unknown}

-- "byte minus 48, wrapped to a byte"
unfoldable pub digit_of : ℕ → ℕ
digit_of byte = (byte + 256 - 48) % 256

-- "a 64-bit number: times 10 and plus (byte minus 48, wrapped to a byte), both wrapping", read after a text that made n
unfoldable pub nominal : ℕ → List ℕ → ℕ
nominal n [] = n
nominal n (byte ∷ text) = nominal ((n * 10 % 2 ^ 64 + digit_of byte) % 2 ^ 64) text

-- the first place of a byte from the place `at` on
unfoldable pub find_from : ℕ → ℕ → List ℕ → Option ℕ
find_from wanted at held = find_in wanted at (drop at held)

-- ".. and separator", after a value that starts at `first`
unfoldable pub with_separator : ℕ → Option ℕ → Option (ℕ × ℕ)
with_separator first None = None
with_separator first (Some last) = Some (first, last)

-- "the first `=` .."
unfoldable pub with_equals : List ℕ → Option ℕ → Option (ℕ × ℕ)
with_equals held None = None
with_equals held (Some equals) = with_separator (equals + 1) (find_from 1 (equals + 1) held)

-- "`=` and separator", from a place on
unfoldable pub value_from : ℕ → List ℕ → Option (ℕ × ℕ)
value_from at held = with_equals held (find_from 61 at held)

-- "second separator + 1 + that + 7, as a plain sum"
unfoldable pub message_end : ℕ → ℕ → ℕ
message_end separator number = separator + 1 + number + 7

-- "over 8,192 bytes"
unfoldable pub limited : ℕ → Announced
limited end = pick (leb end 8192) (Ends end) Over

-- ".. and the second `=` and separator"
unfoldable pub with_second : List ℕ → Option (ℕ × ℕ) → Announced
with_second held None = Unknown
with_second held (Some (first, last)) = limited (message_end last (nominal 0 (take (last - first) (drop first held))))

-- "After the first `=` and separator .."
unfoldable pub with_first : List ℕ → Option (ℕ × ℕ) → Announced
with_first held None = Unknown
with_first held (Some (first, last)) = with_second held (value_from (last + 1) held)

-- what the bytes that are held announce
unfoldable pub announced_in : List ℕ → Announced
announced_in held = with_first held (value_from 0 held)
