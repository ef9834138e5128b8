-- Where a take of an export tells the length of what it handed out.
use Rattle.std.specs.Prelude.{List, ℕ, get_or}

-- "`[records, first value, second value, 0]`": the length of what a take handed out is the first value
abbrev pub length_told : List ℕ → ℕ
length_told out = get_or out 1 0
