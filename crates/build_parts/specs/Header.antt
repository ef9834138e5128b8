-- RULES.md, Header, body, trailer: the header.
use Rattle.std.specs.Prelude.{ℕ, zero, suc, List, Bool, true, false}
use Rattle.field_rules.specs.Choice.{pick}
use Rattle.field_rules.specs.Fields.{Fields, unreadable, field}
use Rattle.dictionary_layout_rules.specs.Tree.{holds_tag}
use Rattle.build_records.specs.Records.{stored}
use Rattle.build_records.specs.declared.Record.{Record}
use Rattle.build_answers.specs.declared.Answer.TheVariants.{Malformed, TooManyFields}
use Rattle.build_parts.specs.Parts.{Reading, ended, refused, part_record}

-- "Header tags go to the header; the first other field ends it." "No field where header .. needs one: 10."
unfoldable pub header_from : List ℕ → Fields → ℕ → List Record → Reading
header_from tags (unreadable cause place) room records = refused (Malformed cause place)
header_from tags (field f rest) zero records = refused TooManyFields
header_from tags (field f rest) (suc room) records =
    pick (holds_tag f.tag tags) (header_from tags rest room (stored (part_record 1 f) records)) (ended f rest room records)
