-- Which tags of the body's own fields were stored, as far as cells can tell: a tag's cell is its remainder, and a cell that isn't set
-- says that no tag of it was stored. So a record whose cell isn't set comes last without a look at the others.
use Rattle.std.specs.Prelude.{ℕ, ◌%◌, ◌≡◌, Bool, true, false, List, length, get_or, set, Result, Ok}
use Rattle.field_rules.specs.declared.Field.{Field}
use Rattle.build_records.specs.declared.Record.{Record}
use Rattle.build_nesting_laws.specs.Entries.{All}
use Rattle.build_parts.specs.declared.Progress.{Progress}
use Rattle.build_parts.specs.Parts.{part_of}
use Rattle.build_answers.specs.declared.Answer.{Answer}

abbrev pub cells : ℕ
cells = 256

unfoldable pub is_seen : ℕ → List Bool → Bool
is_seen tag seen = get_or seen (tag % cells) false

unfoldable pub noted : ℕ → List Bool → List Bool
noted tag seen = set seen (tag % cells) true

-- the records of runs stand deeper, and no field of the body takes their place
pub record Noticed (seen : List Bool) (r : Record) : Type 0 where
  pub notices : r.depth ≡ 0 → is_seen r.tag seen ≡ true

-- every tag that a map holds was seen
pub record Covers (seen : List Bool) (rs : List Record) : Type 0 where
  pub whole : length seen ≡ cells
  pub each : All (Noticed seen) rs

-- where reading goes on, every tag of the part was seen
pub record Follows (seen : List Bool) (from : ℕ) (reading : Result (Field × Progress) Answer) (words : List ℕ) : Type 0 where
  pub covers : (f : Field) (p : Progress) → reading ≡ Ok (f, p) → Covers seen (part_of from p.records words)
