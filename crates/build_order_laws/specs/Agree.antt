-- Fields with the same tags, and records that differ in nothing but place and length of the value.
use Rattle.std.specs.Prelude.{ℕ, zero, suc, ◌≡◌, List, [], ◌∷◌}
use Rattle.field_rules.specs.Fields.{Fields, field}
use Rattle.field_rules.specs.declared.Field.{Field}
use Rattle.build_records.specs.declared.Record.{Record}

-- the first so many fields have the same tags
pub data Agree : ℕ → Fields → Fields → Type 0 where
  enough : {fields others : Fields} → Agree zero fields others
  same : {n : ℕ} {f g : Field} {rest more : Fields} → f.tag ≡ g.tag → Agree n rest more → Agree (suc n) (field f rest) (field g more)

-- part, depth, entry number and tag are the same
pub record Alike (r q : Record) : Type 0 where
  pub part : r.part ≡ q.part
  pub depth : r.depth ≡ q.depth
  pub number : r.number ≡ q.number
  pub tag : r.tag ≡ q.tag

pub data Similar : List Record → List Record → Type 0 where
  none : Similar [] []
  more : {r q : Record} {rs qs : List Record} → Alike r q → Similar rs qs → Similar (r ∷ rs) (q ∷ qs)
