-- What header, body and trailer have in common: a field's record, the records of a part, storing in the last one, and the next field.
use Rattle.std.specs.Prelude.{ℕ, zero, suc, ◌+◌, ◌/◌, ◌≤◌, ◌<◌, ◌≡◌, List, length, Result, Ok, Err}
use Rattle.field_rules.specs.Fields.{Fields, fields_from, Inside}
use Rattle.field_rules.specs.declared.Mode.{Mode}
use Rattle.field_rules.specs.declared.Field.{Field}
use Rattle.build_records.specs.Records.{records_of, between, stored, stride}
use Rattle.build_records.specs.declared.Record.{Record}
use Rattle.build_answers.specs.declared.Answer.{Answer}
use Rattle.build_answers.specs.declared.Answer.TheVariants.{Malformed, TooManyFields}
use Rattle.build_parts.specs.declared.Progress.{Progress}
use Rattle.field_rules.specs.declared.Cause.{Cause}

-- "A record holds part .., depth, entry number (both 0 outside groups ..), tag, and place and length of the value."
unfoldable pub part_record : ℕ → Field → Record
part_record part f = record { part = part; depth = 0; number = 0; tag = f.tag; place = f.place; length = f.length }

-- the records that stand in the words from one index to another
unfoldable pub part_of : ℕ → ℕ → List ℕ → List Record
part_of from to words = between from to (records_of words)

-- a record was stored in the part that starts at an index, and nothing happened to what stands before it
pub record Kept (entry exit : List ℕ) (from count : ℕ) (r : Record) (after : ℕ) : Type 0 where
  pub part : part_of from after exit ≡ stored r (part_of from count entry)
  pub before : part_of 0 from exit ≡ part_of 0 from entry
  pub grows : count ≤ after
  pub by_one : after ≤ count + 1

-- "21 comes before any other verdict on that field"; "No field where header, body or a group needs one: 10."
unfoldable pub next_of : ℕ → Result Field (Cause × ℕ) → Result Field Answer
next_of room (Err (cause, place)) = Err (Malformed cause place)
next_of zero (Ok f) = Err TooManyFields
next_of (suc room) (Ok f) = Ok f

-- the field that ended a part, those behind it, the room for them, and the part's records; or why reading was refused
pub data Reading : Type 0 where
  ended : Field → Fields → ℕ → List Record → Reading
  refused : Answer → Reading

-- what the code answers, with the words that it leaves
unfoldable pub part_told : Mode → List ℕ → ℕ → Result (Field × Progress) Answer → List ℕ → Reading
part_told mode message from (Ok (f, p)) words = ended f (fields_from mode message f.next) p.room (part_of from p.records words)
part_told mode message from (Err answer) words = refused answer

-- where a part ended: there are words for its records, for the field that was read and for all that may still be; the room has fallen
pub record Ends (message entry : List ℕ) (from room : ℕ) (f : Field) (p : Progress) : Type 0 where
  pub fits : p.records + p.room < length entry / stride
  pub inside : Inside message f
  pub starts : from ≤ p.records
  pub falls : p.room < room

-- nothing happened to the records before a part
pub record Stays (message entry exit : List ℕ) (from room : ℕ) (r : Result (Field × Progress) Answer) : Type 0 where
  pub before : part_of 0 from exit ≡ part_of 0 from entry
  pub ends : (f : Field) (p : Progress) → r ≡ Ok (f, p) → Ends message entry from room f p
