-- RULES.md, Field maps. A map is its fields in order, each count followed by the entries of its run; a run without its count stands
-- where the count stood, or last where it was hung without one. An entry carries the tags of its run, as in the Rust.
use Rattle.std.specs.Prelude.{ℕ, ◌+◌, Bool, true, false, List, [], ◌++◌, eqb}
use Rattle.field_rules.specs.Choice.{pick}

pub data Map : Type 0 where
  -- nothing further
  end : Map
  -- tag and value, and what follows
  field : ℕ → List ℕ → Map → Map
  -- start tag, delimiter tag and the entry's own map, and what follows
  entry : ℕ → ℕ → Map → Map → Map

-- one map's fields and entries, then the other's
unfoldable pub joined : Map → Map → Map
joined end m = m
joined (field t v rest) m = field t v (joined rest m)
joined (entry s d own rest) m = entry s d own (joined rest m)

-- whether a map itself, its entries apart, has a field of a tag
unfoldable pub holds : ℕ → Map → Bool
holds tag end = false
holds tag (field t v rest) = pick (eqb t tag) true (holds tag rest)
holds tag (entry s d own rest) = holds tag rest

-- whether it has any field of its own
unfoldable pub holds_any : Map → Bool
holds_any end = false
holds_any (field t v rest) = true
holds_any (entry s d own rest) = holds_any rest

-- "storing a held tag replaces the value and keeps the position"
unfoldable pub replaced : ℕ → List ℕ → Map → Map
replaced tag value end = end
replaced tag value (field t v rest) = pick (eqb t tag) (field t value rest) (field t v (replaced tag value rest))
replaced tag value (entry s d own rest) = entry s d own (replaced tag value rest)

-- "removing keeps order"; the run of a removed count stays
unfoldable pub without_field : ℕ → Map → Map
without_field tag end = end
without_field tag (field t v rest) = pick (eqb t tag) rest (field t v (without_field tag rest))
without_field tag (entry s d own rest) = entry s d own (without_field tag rest)

-- the entries of a start tag that come first, and what comes after them
unfoldable pub leading : ℕ → Map → Map
leading start end = end
leading start (field t v rest) = end
leading start (entry s d own rest) = pick (eqb s start) (entry s d own (leading start rest)) end

unfoldable pub past_leading : ℕ → Map → Map
past_leading start end = end
past_leading start (field t v rest) = field t v rest
past_leading start (entry s d own rest) = pick (eqb s start) (past_leading start rest) (entry s d own rest)

-- the run that hangs on a start tag, and the map without it
unfoldable pub run_on : ℕ → Map → Map
run_on start end = end
run_on start (field t v rest) = run_on start rest
run_on start (entry s d own rest) = pick (eqb s start) (entry s d own (leading start rest)) (run_on start rest)

unfoldable pub without_run : ℕ → Map → Map
without_run start end = end
without_run start (field t v rest) = field t v (without_run start rest)
without_run start (entry s d own rest) = pick (eqb s start) (past_leading start rest) (entry s d own (without_run start rest))

-- "Fields in order of first storing; storing a held tag replaces the value and keeps the position." A new field comes last, and takes
-- the run that waited for it along.
unfoldable pub stored : ℕ → List ℕ → Map → Map
stored tag value m =
    pick (holds tag m) (replaced tag value m) (joined (without_run tag m) (field tag value (run_on tag m)))

-- behind its count a run stands; another that stood there goes
unfoldable pub hung_on_count : ℕ → Map → Map → Map
hung_on_count start run end = end
hung_on_count start run (field t v rest) =
    pick (eqb t start) (field t v (joined run (past_leading start rest))) (field t v (hung_on_count start run rest))
hung_on_count start run (entry s d own rest) = entry s d own (hung_on_count start run rest)

-- without its count it stands where the run before stood, or last
unfoldable pub hung_alone : ℕ → Map → Map → Map
hung_alone start run end = run
hung_alone start run (field t v rest) = field t v (hung_alone start run rest)
hung_alone start run (entry s d own rest) =
    pick (eqb s start) (joined run (past_leading start rest)) (entry s d own (hung_alone start run rest))

-- "A group run hangs on its start tag; a second run replaces the first."
unfoldable pub hung : ℕ → Map → Map → Map
hung start run m = pick (holds start m) (hung_on_count start run m) (hung_alone start run m)

-- what a look-up of a field or of an entry answers
pub data Looked (A : Type 0) : Type 0 where
  none : Looked A
  some : A → Looked A

unfoldable pub value_under : ℕ → Map → Looked (List ℕ)
value_under tag end = none
value_under tag (field t v rest) = pick (eqb t tag) (some v) (value_under tag rest)
value_under tag (entry s d own rest) = value_under tag rest

-- the number of stored fields: "an entry without any field counts as one"
unfoldable pub field_count : Map → ℕ
field_count end = 0
field_count (field t v rest) = 1 + field_count rest
field_count (entry s d own rest) = pick (holds_any own) 0 1 + field_count own + field_count rest

-- all values, in order
unfoldable pub values_in : Map → List ℕ
values_in end = []
values_in (field t v rest) = v ++ values_in rest
values_in (entry s d own rest) = values_in own ++ values_in rest
