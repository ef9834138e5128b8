-- The records of a message, as the rules derive them from its maps: part, depth, entry number, tag and value, in part and map order.
use Rattle.std.specs.Prelude.{ℕ, ◌+◌, ◌≤◌, ◌≡◌, List, [], ◌∷◌, ◌++◌, length, eqb}
use Rattle.build_records.specs.Records.{value_at}
use Rattle.field_rules.specs.Choice.{pick}
use Rattle.build_records.specs.declared.Record.{Record}
use Rattle.message_maps.specs.Map.{Map, end, field, entry}
use Rattle.message_lent_rules.specs.Meaning.{Message}

-- part, depth, entry number, tag and value
pub data Valued : Type 0 where
  valued : ℕ → ℕ → ℕ → ℕ → List ℕ → Valued

-- an entry goes on with the run before it, or is the first of another
unfoldable pub entry_number : ℕ → ℕ → ℕ → ℕ
entry_number start entries s = pick (eqb s start) (entries + 1) 1

-- the records of a map of a part, at a depth and with an entry number, behind so many entries on a start tag
unfoldable pub records_in : ℕ → ℕ → ℕ → ℕ → ℕ → Map → List Valued
records_in part depth number start entries end = []
records_in part depth number start entries (field t v rest) = valued part depth number t v ∷ records_in part depth number t 0 rest
records_in part depth number start entries (entry s d own rest) =
    records_in part (depth + 1) (entry_number start entries s) 0 0 own ++ records_in part depth number s (entry_number start entries s) rest

unfoldable pub derived : Message → List Valued
derived m = records_in 1 0 0 0 0 m.header ++ (records_in 2 0 0 0 0 m.body ++ records_in 3 0 0 0 0 m.trailer)

-- what a build's records say
unfoldable pub given : List ℕ → List Record → List Valued
given bytes [] = []
given bytes (r ∷ rs) = valued r.part r.depth r.number r.tag (value_at bytes r) ∷ given bytes rs

-- a record of a map, and its value in the bytes
pub record Own (bytes : List ℕ) (part depth number : ℕ) (r : Record) : Type 0 where
  pub of : r.part ≡ part
  pub deep : r.depth ≡ depth
  pub numbered : r.number ≡ number
  pub inside : r.place + r.length ≤ length bytes

-- records stand for a map: each of its fields, and each entry with its delimiter first, behind the count of its run
pub data Stands (bytes : List ℕ) (part : ℕ) : ℕ → ℕ → ℕ → ℕ → Map → List Record → Type 0 where
  no_more : {depth number start entries : ℕ} → Stands bytes part depth number start entries end []
  own : {depth number start entries : ℕ} {rest : Map} {rs : List Record} (r : Record) → Own bytes part depth number r
      → Stands bytes part depth number r.tag 0 rest rs
      → Stands bytes part depth number start entries (field r.tag (value_at bytes r) rest) (r ∷ rs)
  in_entry : {depth number start entries : ℕ} {inner rest : Map} {rs ss : List Record} (r : Record) → Own bytes part (depth + 1) (entries + 1) r
      → Stands bytes part (depth + 1) (entries + 1) r.tag 0 inner rs → Stands bytes part depth number start (entries + 1) rest ss
      → Stands bytes part depth number start entries (entry start r.tag (field r.tag (value_at bytes r) inner) rest) (r ∷ (rs ++ ss))

-- the records of the three parts, one behind the other
pub record StandFor (bytes : List ℕ) (m : Message) (rs : List Record) : Type 0 where
  pub of_header : List Record
  pub of_body : List Record
  pub of_trailer : List Record
  pub all : rs ≡ of_header ++ (of_body ++ of_trailer)
  pub header : Stands bytes 1 0 0 0 0 m.header of_header
  pub body : Stands bytes 2 0 0 0 0 m.body of_body
  pub trailer : Stands bytes 3 0 0 0 0 m.trailer of_trailer
