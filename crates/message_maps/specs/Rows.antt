-- A map in lent words: a row for each field (1, level, tag, length of the value) and for the head of each entry (2, level, start tag,
-- delimiter tag), in map order, an entry's own rows one level below its head. The values stand in the same order in a store of bytes.
-- Word 0 is the number of rows. What stands past the rows, and past the values, is no part of the layout; each change leaves zeros there.
use Rattle.std.specs.Prelude.{ℕ, zero, suc, ◌+◌, ◌-◌, ◌*◌, Bool, true, false, List, [], ◌∷◌, ◌++◌, length, get_or, take, drop, replicate, eqb, leb, ltb}
use Rattle.field_rules.specs.Choice.{pick}
use Rattle.message_maps.specs.Map.{Map, end, field, entry}

-- rows to a message: one for each field and entry, of which there are 1,024 each, and one for each part
abbrev pub message_rows : ℕ
message_rows = 2051

-- words to a message: how many rows there are, and four to a row
abbrev pub message_words : ℕ
message_words = 8205

-- kind, level, tag or start tag, length or delimiter tag
pub data Row : Type 0 where
  row : ℕ → ℕ → ℕ → ℕ → Row

unfoldable pub laid : ℕ → Map → List Row
laid level end = []
laid level (field t v rest) = row 1 level t (length v) ∷ laid level rest
laid level (entry s d own rest) = row 2 level s d ∷ (laid (level + 1) own ++ laid level rest)

unfoldable pub flat : List Row → List ℕ
flat [] = []
flat (row k l t x ∷ rows) = k ∷ l ∷ t ∷ x ∷ flat rows

-- a part of a list, from one place up to another
unfoldable pub part : {A : Type 0} → ℕ → ℕ → List A → List A
part from to s = take (to - from) (drop from s)

-- a list with zeros behind it
unfoldable pub padded : ℕ → List ℕ → List ℕ
padded n s = s ++ replicate (n - length s) 0

-- the rows that words hold
unfoldable pub row_at : List ℕ → ℕ → Row
row_at words i = row (get_or words (4 * i + 1) 0) (get_or words (4 * i + 2) 0) (get_or words (4 * i + 3) 0) (get_or words (4 * i + 4) 0)

unfoldable pub rows_from : ℕ → ℕ → List ℕ → List Row
rows_from zero i words = []
rows_from (suc n) i words = row_at words i ∷ rows_from n (i + 1) words

-- the rows before one, the nearest first
unfoldable pub rows_before : ℕ → List ℕ → List Row
rows_before zero words = []
rows_before (suc i) words = row_at words i ∷ rows_before i words

unfoldable pub level_of : Row → ℕ
level_of (row k l t x) = l

unfoldable pub size_of : Row → ℕ
size_of (row k l t x) = pick (eqb k 1) x 0

unfoldable pub matches : ℕ → ℕ → ℕ → Row → Bool
matches kind level tag (row k l t x) = pick (eqb k kind) (pick (eqb l level) (eqb t tag) false) false

-- the first place of a kind, level and tag, or the end
unfoldable pub find_from : ℕ → ℕ → ℕ → ℕ → List Row → ℕ
find_from kind level tag at [] = at
find_from kind level tag at (r ∷ rows) = pick (matches kind level tag r) at (find_from kind level tag (at + 1) rows)

-- where the rows below a level end
unfoldable pub end_from : ℕ → ℕ → List Row → ℕ
end_from level at [] = at
end_from level at (r ∷ rows) = pick (leb (level_of r) level) at (end_from level (at + 1) rows)

-- where the run of a start tag ends
unfoldable pub in_run : ℕ → ℕ → Row → Bool
in_run level start r = pick (ltb level (level_of r)) true (matches 2 level start r)

unfoldable pub run_end_from : ℕ → ℕ → ℕ → List Row → ℕ
run_end_from level start at [] = at
run_end_from level start at (r ∷ rows) = pick (in_run level start r) (run_end_from level start (at + 1) rows) at

-- how many bytes the values of rows have
unfoldable pub sizes : List Row → ℕ
sizes [] = 0
sizes (r ∷ rows) = size_of r + sizes rows

-- a list with a part taken out, what followed it up to an end moved up, and then what is new and what comes back
unfoldable pub spliced : {A : Type 0} → ℕ → ℕ → ℕ → ℕ → ℕ → List A → List A → List A
spliced from to kept until used new s =
    part 0 from s ++ (part to until s ++ (new ++ (part kept to s ++ part until used s)))
