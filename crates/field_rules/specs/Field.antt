-- RULES.md, Field reading: "the first `=`, then the first separator after it. Before `=` is the tag text ..; between them the value,
-- maybe empty. Else no field." The reasons for none are looked for in the Rust's order.
use Rattle.std.specs.Prelude.{ℕ, ◌+◌, List, [], ◌∷◌, ◌++◌, take, drop, Option, Some, None, Result, Ok, Err}
use Rattle.field_rules.specs.Find.{find_in}
use Rattle.field_rules.specs.Number.{tag_of}
use Rattle.field_rules.specs.declared.Mode.{Mode}
use Rattle.field_rules.specs.declared.Cursor.{Cursor}
use Rattle.field_rules.specs.declared.Field.{Field}
use Rattle.field_rules.specs.declared.Cause.TheVariants.{NoEquals, NoSeparator, BadTag}
use Rattle.field_rules.specs.declared.Cause.{Cause}

-- how fields are read where nothing but their separator is asked for
abbrev pub separated_by : ℕ → Mode
separated_by separator = record { separator = separator }

-- the cursor at a place: what else a cursor may come to carry is fresh there
abbrev pub start_at : ℕ → Cursor
start_at at = record { at = at }

-- "before `=` is the tag text": the `=` stands q bytes from the field's start, and the value has n bytes
unfoldable pub with_tag : ℕ → ℕ → ℕ → Option ℕ → Result Field (Cause × ℕ)
with_tag at q n None = Err (BadTag, at)
with_tag at q n (Some tag) =
    Ok (record { first = at; tag = tag; place = at + (q + 1); length = n; next = start_at (at + (q + 1) + n + 1) })

-- "then the first separator after it"
unfoldable pub with_separator : ℕ → List ℕ → ℕ → Option ℕ → Result Field (Cause × ℕ)
with_separator at s q None = Err (NoSeparator, at)
with_separator at s q (Some n) = with_tag at q n (tag_of (take q s))

-- "the first `=`"
unfoldable pub with_equals : ℕ → Mode → List ℕ → Option ℕ → Result Field (Cause × ℕ)
with_equals at mode s None = Err (NoEquals, at)
with_equals at mode s (Some q) = with_separator at s q (find_in mode.separator 0 (drop (q + 1) s))

-- the field at the start of s, a part of a message that stands at the place `at` of it
unfoldable pub field_from : ℕ → Mode → List ℕ → Result Field (Cause × ℕ)
field_from at mode s = with_equals at mode s (find_in 61 0 s)

-- "from a place": the field of a message at a cursor
unfoldable pub field_at : Mode → List ℕ → Cursor → Result Field (Cause × ℕ)
field_at mode message c = field_from c.at mode (drop c.at message)

-- a field as bytes: tag text, `=`, value, separator
abbrev pub field_bytes : ℕ → List ℕ → List ℕ → List ℕ
field_bytes separator text value = text ++ (61 ∷ (value ++ (separator ∷ [])))

-- the bytes of a field's value
unfoldable pub value_of : List ℕ → Field → List ℕ
value_of message f = take f.length (drop f.place message)
