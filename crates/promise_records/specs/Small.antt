-- What is read, however it ends: every record's part is one of the three, its depth is at most 4, its entry number at most 1,024, and its value
-- lies in the message. "A nested count starts a nested run": four levels may be open; and an entry takes a field of the 1,024.
use Prim.Native.Nat.{ℕ, ◌+◌, ◌≤◌}
use Rattle.std.specs.Prelude.{length}
use mathlib.Core.List.{List}
use Rattle.field_rules.specs.Fields.{Fields, Each}
use Rattle.build_records.specs.declared.Record.{Record}
use Rattle.build_nesting_laws.specs.Entries.{All}
use Rattle.build_parts.specs.Trailer.{Trailer, stopped, unstopped, crowded}
use Rattle.message_read_laws.specs.Counting.{Fine}

pub record Small (message : List ℕ) (r : Record) : Type 0 where
  pub of_three : r.part ≤ 3
  pub shallow : r.depth ≤ 4
  pub numbered : r.number ≤ 1024
  pub inside : r.place + r.length ≤ length message

-- records that were read, while fields and room are left
pub record Kept (message : List ℕ) (fields : Fields) (room : ℕ) (rs : List Record) : Type 0 where
  pub small : All (Small message) rs
  pub each : Each (Fine message) fields
  pub left : room ≤ 1024

-- the records of a trailer that was read
abbrev pub TrailerSmall : List ℕ → Trailer → Type 0
TrailerSmall message (stopped f rs) = All (Small message) rs
TrailerSmall message (unstopped rs) = All (Small message) rs
TrailerSmall message crowded = Unit {0}
