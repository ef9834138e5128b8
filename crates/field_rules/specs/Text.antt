-- Quoted texts as bytes, for worked examples. "In examples `|` is byte 0x01."
use Rattle.std.specs.Prelude.{ℕ, List, [] as no_bytes, ◌∷◌ as ◌then◌, eqb}
use Prim.Native.Char.{code}
use Prim.Native.String.{String, [], ◌∷◌}
use Rattle.field_rules.specs.Choice.{pick}

abbrev pub bytes : String → List ℕ
bytes [] = no_bytes
bytes (c ∷ s) = ◌then◌ (pick (eqb (code c) 124) 1 (code c)) (bytes s)
