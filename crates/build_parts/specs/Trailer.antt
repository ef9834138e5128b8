-- RULES.md, Header, body, trailer: the trailer.
use Rattle.std.specs.Prelude.{ℕ, zero, suc, List, Bool, true, false, eqb}
use Rattle.field_rules.specs.Choice.{pick}
use Rattle.field_rules.specs.Fields.{Fields, unreadable, field}
use Rattle.field_rules.specs.declared.Field.{Field}
use Rattle.build_records.specs.Records.{stored}
use Rattle.build_records.specs.declared.Record.{Record}
use Rattle.build_parts.specs.declared.TrailerRead.{TrailerRead}
use Rattle.build_parts.specs.declared.TrailerRead.TheVariants.{Stopped, Unstopped, TooManyFields}
use Rattle.build_parts.specs.Parts.{part_record, part_of}

-- the CheckSum that stopped it, where one did, and the trailer's records
pub data Trailer : Type 0 where
  stopped : Field → List Record → Trailer
  unstopped : List Record → Trailer
  crowded : Trailer

-- "The trailer takes every field up to the first tag 10 or until none can be read." "Counted are .., the 10 that stops the trailer
-- included; where none stops it, the verified 10 counts last."
unfoldable pub trailer_from : Fields → ℕ → List Record → Trailer
trailer_from (unreadable cause place) zero records = crowded
trailer_from (unreadable cause place) (suc room) records = unstopped records
trailer_from (field f rest) zero records = crowded
trailer_from (field f rest) (suc room) records =
    pick (eqb f.tag 10) (stopped f records) (trailer_from rest room (stored (part_record 3 f) records))

-- what the code answers, with the words that it leaves
unfoldable pub trailer_told : TrailerRead → ℕ → List ℕ → Trailer
trailer_told (Stopped f count) from words = stopped f (part_of from count words)
trailer_told (Unstopped count) from words = unstopped (part_of from count words)
trailer_told TooManyFields from words = crowded

-- how many records there are then, the trailer's and those before it
unfoldable pub trailer_counts : ℕ → TrailerRead → ℕ
trailer_counts from (Stopped f count) = count
trailer_counts from (Unstopped count) = count
trailer_counts from TooManyFields = from
