-- The bytes of records in order: each as tag digits, `=`, its value in the message, separator.
use Rattle.std.specs.Prelude.{ℕ, List, [], ◌∷◌, ◌++◌, length}
use Rattle.build_records.specs.Records.{value_at}
use Rattle.field_rules.specs.Decimal.{decimal}
use Rattle.field_rules.specs.Field.{field_bytes}
use Rattle.build_records.specs.declared.Record.{Record}
use Rattle.encode_rules.specs.Encoding.{summed}

unfoldable pub written : ℕ → List ℕ → List Record → List ℕ
written separator bytes [] = []
written separator bytes (r ∷ rs) = field_bytes separator (decimal r.tag) (value_at bytes r) ++ written separator bytes rs

-- what an encoding of a built message comes to: its 8; 9 with the length of what follows; 35 and all other records; the sum
unfoldable pub rewritten : ℕ → List ℕ → Record → List Record → List ℕ
rewritten separator bytes begin others =
    let counted = written separator bytes others in
    summed separator (field_bytes separator (decimal begin.tag) (value_at bytes begin) ++ (field_bytes separator (decimal 9) (decimal (length counted)) ++ counted))
