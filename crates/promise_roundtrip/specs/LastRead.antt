-- Which value a part holds under a tag: that of the last field with the tag that the part took. Header, body and trailer of every message that
-- was read with 0; what stands in the entries of runs is deeper, and not the body's own.
use Rattle.std.specs.Prelude.{eqb}
use mathlib.Core.List.{List, [], ◌∷◌}
use Prim.Native.Nat.{ℕ, zero, suc}
use Rattle.field_rules.specs.Choice.{pick}
use Rattle.field_rules.specs.Fields.{Fields, unreadable, field}
use Rattle.field_rules.specs.declared.Field.{Field}
use Rattle.dictionary_layout_rules.specs.Tree.{holds_tag}
use Rattle.build_records.specs.declared.Record.{Record}
use Rattle.build_parts.specs.Parts.{Reading, ended, refused, part_record}
use Rattle.build_body_rules.specs.Body.{Kind, plain, counts, other, Body}

-- the record of the last of the fields that has a tag; where none has it, what was held before
unfoldable pub latest : ℕ → ℕ → List Record → List Field → List Record
latest part tag held [] = held
latest part tag held (f ∷ fs) = latest part tag (pick (eqb f.tag tag) (part_record part f ∷ []) held) fs

-- "Header tags go to the header; the first other field ends it."
unfoldable pub header_takes : List ℕ → Fields → List Field
header_takes tags (unreadable cause place) = []
header_takes tags (field f rest) = pick (holds_tag f.tag tags) (f ∷ header_takes tags rest) []

-- "The trailer takes every field up to the first tag 10 or until none can be read."
unfoldable pub trailer_takes : Fields → List Field
trailer_takes (unreadable cause place) = []
trailer_takes (field f rest) = pick (eqb f.tag 10) [] (f ∷ trailer_takes rest)

unfoldable pub taken_behind : Reading → (Fields → ℕ → List Field) → List Field
taken_behind (ended f rest room records) on = on (field f rest) (suc room)
taken_behind (refused answer) on = []

module _ {L : Type 0} (body : Body L) where
  -- fields of the layout and counts; those of a count's run are the run's
  unfoldable pub body_taking : (Fields → ℕ → List Field) → Field → Fields → ℕ → Kind L → List Field
  body_taking on f rest room plain = f ∷ on rest room
  body_taking on f rest room (counts inner) = f ∷ taken_behind (body.run inner f.tag rest room) on
  body_taking on f rest room other = []

  -- "The body takes fields of the message's layout and, with validation off, tags of 5000 and above that the dictionary lacks."
  unfoldable pub body_takes : ℕ → Fields → ℕ → List Field
  body_takes zero fields room = []
  body_takes (suc turns) (unreadable cause place) room = []
  body_takes (suc turns) (field f rest) zero = []
  body_takes (suc turns) (field f rest) (suc room) = body_taking (body_takes turns) f rest room (body.kind f.tag)
