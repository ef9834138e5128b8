-- Records of the shape of a map, whatever their part and wherever their values lie; and what storing does to such a map.
use Rattle.std.specs.Prelude.{ℕ, ◌+◌, ◌≤◌, ◌≡◌, List, [], ◌∷◌, ◌++◌, length, eqb}
use Rattle.build_records.specs.Records.{value_at}
use Rattle.field_rules.specs.Choice.{pick}
use Rattle.build_records.specs.declared.Record.{Record}
use Rattle.message_maps.specs.Map.{Map, end, field, entry, joined, past_leading}
use Rattle.build_nesting_laws.specs.Formed.{Own}

pub data Shapes (bytes : List ℕ) : ℕ → ℕ → ℕ → ℕ → Map → List Record → Type 0 where
  no_more : {depth number start entries : ℕ} → Shapes bytes depth number start entries end []
  one-own : {depth number start entries : ℕ} {rest : Map} {rs : List Record} (r : Record) → Own depth number r → Shapes bytes depth number r.tag 0 rest rs
      → Shapes bytes depth number start entries (field r.tag (value_at bytes r) rest) (r ∷ rs)
  one_entry : {depth number start entries : ℕ} {inner rest : Map} {rs ss : List Record} (r : Record) → Own (depth + 1) (entries + 1) r
      → Shapes bytes (depth + 1) (entries + 1) r.tag 0 inner rs → Shapes bytes depth number start (entries + 1) rest ss
      → Shapes bytes depth number start entries (entry start r.tag (field r.tag (value_at bytes r) inner) rest) (r ∷ (rs ++ ss))

-- what may stand behind anything: it begins with a field, or is nothing
pub record Loose (bytes : List ℕ) (depth number : ℕ) (m : Map) (rs : List Record) : Type 0 where
  pub shapes : (start entries : ℕ) → Shapes bytes depth number start entries m rs

-- a record of a part of a message, with its value in the message's bytes
pub record Placed (bytes : List ℕ) (part : ℕ) (r : Record) : Type 0 where
  pub of : r.part ≡ part
  pub inside : r.place + r.length ≤ length bytes

pub record Tagged (r : Record) : Type 0 where
  pub some : r.tag ≡ 0 → ⊥

-- "storing a held tag replaces the value and keeps the position"; every run stands behind its count
unfoldable pub put : ℕ → List ℕ → Map → Map
put tag value end = field tag value end
put tag value (field t v rest) = pick (eqb t tag) (field t value rest) (field t v (put tag value rest))
put tag value (entry s d own rest) = entry s d own (put tag value rest)

-- a count with its run
unfoldable pub put_run : ℕ → List ℕ → Map → Map → Map
put_run tag value run end = field tag value run
put_run tag value run (field t v rest) = pick (eqb t tag) (field t value (joined run (past_leading tag rest))) (field t v (put_run tag value run rest))
put_run tag value run (entry s d own rest) = entry s d own (put_run tag value run rest)
