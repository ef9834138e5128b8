-- RULES.md, Header, body, trailer: the body, over what a message's layout says of a tag. How a run is read is a matter of groups: here it is a function.
use Rattle.std.specs.Prelude.{ℕ, zero, suc, ◌+◌, ◌≤◌, ◌≡◌, List, [], ◌∷◌, ◌++◌, Bool, true, false, eqb}
use Rattle.field_rules.specs.Choice.{pick}
use Rattle.field_rules.specs.Fields.{Fields, unreadable, field}
use Rattle.field_rules.specs.declared.Field.{Field}
use Rattle.dictionary_layout_rules.specs.Tree.{holds_tag}
use Rattle.build_records.specs.Records.{stored}
use Rattle.build_records.specs.declared.Record.{Record}
use Rattle.build_body_rules.specs.declared.Opening.{Opening}
use Rattle.build_answers.specs.declared.Answer.TheVariants.{Malformed, TooManyFields, InvalidField}
use Rattle.build_parts.specs.Parts.{Reading, ended, refused, part_record, part_of}

-- what a tag is to the body: a field of the layout or an accepted one, a count with the level of its entries, or neither
pub data Kind (L : Type 0) : Type 0 where
  plain : Kind L
  counts : L → Kind L
  other : Kind L

-- a run's records are those of a depth
unfoldable pub behind_run : List Record → List Record
behind_run [] = []
behind_run (r ∷ rs) = pick (eqb r.depth 0) (r ∷ rs) (behind_run rs)

-- "A group run hangs on its start tag; a second run replaces the first": it stands right behind its count, which keeps its position
unfoldable pub stored_run : Record → List Record → List Record → List Record
stored_run r run [] = r ∷ run
stored_run r run (x ∷ rs) =
    pick (eqb x.depth r.depth) (pick (eqb x.tag r.tag) (r ∷ (run ++ behind_run rs)) (x ∷ stored_run r run rs)) (x ∷ stored_run r run rs)

-- the run that starts at a place ends at an index
pub record RunEnd (words : List ℕ) (place count end : ℕ) : Type 0 where
  pub behind : part_of end count words ≡ behind_run (part_of place count words)
  pub from : place ≤ end
  pub to : end ≤ count

-- the run that starts at a place was taken out, and nothing happened to what stands before it
pub record Dropped (entry exit : List ℕ) (place count after : ℕ) : Type 0 where
  pub behind : part_of place after exit ≡ behind_run (part_of place count entry)
  pub before : part_of 0 place exit ≡ part_of 0 place entry
  pub from : place ≤ after
  pub to : after ≤ count

-- a count was stored in the part that starts at an index, and whatever run comes in at the place stands right behind it
pub record Opened (entry exit : List ℕ) (from count : ℕ) (r : Record) (opening : Opening) : Type 0 where
  pub stores : (run : List Record) → stored_run r run (part_of from count entry) ≡ part_of from opening.place exit ++ (run ++ part_of opening.place opening.records exit)
  pub before : part_of 0 from exit ≡ part_of 0 from entry
  pub starts : from ≤ opening.place
  pub within : opening.place ≤ opening.records
  pub by_one : opening.records ≤ count + 1

-- how a message's layout is read: what each tag is, what the run of a count comes to, and the tags that may follow the body
pub record Body (L : Type 0) : Type 0 where
  pub kind : ℕ → Kind L
  pub run : L → ℕ → Fields → ℕ → Reading
  pub trailer : List ℕ

-- reading goes on at the field where it ended, unless it was refused
unfoldable pub and_then : Reading → (Fields → ℕ → List Record → Reading) → Reading
and_then (ended f rest room records) on = on (field f rest) (suc room) records
and_then (refused answer) on = refused answer

-- "No field where header, body or a group needs one: 10." "21 comes before any other verdict on that field."
unfoldable pub next_from : Fields → ℕ → List Record → Reading
next_from (unreadable cause place) room records = refused (Malformed cause place)
next_from (field f rest) zero records = refused TooManyFields
next_from (field f rest) (suc room) records = ended f rest room records

-- the entries of a run stand right behind their count
unfoldable pub with_run : Record → List Record → Reading → Reading
with_run count records (ended f rest room run) = ended f rest room (stored_run count run records)
with_run count records (refused answer) = refused answer

-- "The first other field must be a trailer tag, else 1." It is the one that a reading ended at.
unfoldable pub must_follow : List ℕ → Reading → Reading
must_follow trailers (ended f rest room records) = pick (holds_tag f.tag trailers) (ended f rest room records) (refused (InvalidField f.tag))
must_follow trailers (refused answer) = refused answer

module _ {L : Type 0} (body : Body L) where
  -- "The body takes fields of the message's layout and, with validation off, tags of 5000 and above that the dictionary lacks." Who opens this opens
  -- what must follow, too.
  unfoldable pub takes : (Fields → ℕ → List Record → Reading) → Field → Fields → ℕ → List Record → Kind L → Reading
  unfolding must_follow
  takes on f rest room records plain = and_then (next_from rest room (stored (part_record 2 f) records)) on
  takes on f rest room records (counts inner) = and_then (with_run (part_record 2 f) records (body.run inner f.tag rest room)) on
  takes on f rest room records other = must_follow body.trailer (ended f rest room records)

  -- the body from a field on that is read already; so many turns, which is enough where it is more than the room
  unfoldable pub body_within : ℕ → Fields → ℕ → List Record → Reading
  body_within zero fields room records = refused TooManyFields
  body_within (suc turns) (unreadable cause place) room records = refused (Malformed cause place)
  body_within (suc turns) (field f rest) zero records = refused TooManyFields
  body_within (suc turns) (field f rest) (suc room) records = takes (body_within turns) f rest room records (body.kind f.tag)

  unfoldable pub body_from : Fields → ℕ → List Record → Reading
  body_from fields room records = body_within (suc room) fields room records
