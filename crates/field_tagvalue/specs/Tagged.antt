-- RULES.md, Field reading: "the first `=` .. Before `=` is the tag text", both in one answer. No tag is 0, so 0 stands for a text that is none.
use Rattle.std.specs.Prelude.{ℕ, List, take, Option, Some, None}
use Rattle.field_rules.specs.Number.{tag_of}

unfoldable pub or_zero : Option ℕ → ℕ
or_zero None = 0
or_zero (Some tag) = tag

-- with the tag of the text before the `=` that was found
unfoldable pub tagged_at : List ℕ → Option ℕ → Option (ℕ × ℕ)
tagged_at s None = None
tagged_at s (Some q) = Some (q, (or_zero (tag_of (take q s))))
