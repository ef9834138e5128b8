-- Reading as the code does it: levels are looked up in a table, records are words, and where reading stands is a field with its progress.
-- The same with levels as layouts and records as a list is what a reader of the rules looks at.
use Rattle.std.specs.Prelude.{ℕ, zero, suc, ◌+◌, ◌-◌, ◌≤◌, ◌<◌, ◌^◌, List, [], ◌∷◌, ◌++◌, Bool, true, false, length, take, drop, ltb, Option, Some, None, Result, Ok, Err}
use Rattle.field_rules.specs.declared.Mode.{Mode}
use Rattle.field_rules.specs.Choice.{pick}
use Rattle.field_rules.specs.Fields.{fields_from, Inside}
use Rattle.field_rules.specs.declared.Cursor.{Cursor}
use Rattle.field_rules.specs.declared.Field.{Field}
use Rattle.build_config.specs.declared.Config.{Config}
use Rattle.build_answers.specs.declared.Answer.{Answer}
use Rattle.build_answers.specs.declared.Answer.TheVariants.{Malformed as malformed, TooManyFields as too-many-fields, InvalidOrderInGroup as invalid-order}
use Rattle.dictionary_layout_rules.specs.Layout.{Layout, Group as LayoutGroup, none as no_group, entries, position_in, group_of, delimiter_of_lem}
use Rattle.dictionary_tables_rules.specs.Table.{item_of, delimiter_at}
use Rattle.dictionary_tables_rules.proofs.Tabled.{place_of, group_of_item}
use Rattle.build_records.specs.Records.{records_of, on_records, inserted, between, held_from, stored_between, stored}
use Rattle.build_records.specs.declared.Record.{Record}
use Rattle.build_group_rules.specs.Groups.{Opened, none, opened, Rules, is_delimiter, Kind, plain, count, joins, wrong, ends, entry_kind, OpenGroup, run, entry, entry_record, Store, RunOutcome, ended, refused, walk}
use Rattle.build_group_rules.specs.declared.Group.{Group}
use Rattle.build_group_rules.specs.declared.Progress.{Progress}
use Rattle.build_group_rules.specs.declared.Refusal.{Refusal}
use Rattle.build_group_rules.specs.declared.Refusal.TheVariants.{Malformed, TooManyFields, InvalidOrderInGroup}
use Rattle.build_group_rules.specs.declared.Kind.{Kind as CodeKind}
use Rattle.build_group_rules.specs.declared.Kind.TheVariants.{Plain, Count, Joins, Wrong, Ends}
use Rattle.field_rules.specs.declared.Cause.{Cause}

-- a refusal of a run as the answer to the message
unfoldable pub answer_of : Refusal → Answer
answer_of (Malformed cause place) = malformed cause place
answer_of TooManyFields = too-many-fields
answer_of (InvalidOrderInGroup tag group) = invalid-order tag group

-- "with validation off, tags of 5000 and above that the dictionary lacks"
unfoldable pub accepted : Config → (ℕ → Bool) → ℕ → Bool
accepted config known tag = pick config.validate false (pick (ltb tag 5000) false (pick (known tag) false true))

-- the level that starts at a word of the table; no group's starts at the first, so 0 opens none
unfoldable pub opened_by : ℕ → Opened ℕ
opened_by zero = none
opened_by (suc n) = opened (suc n)

-- levels looked up in a table
unfoldable pub table_rules : Config → List ℕ → (ℕ → Bool) → Rules ℕ
table_rules config table known =
    record {
      delimiter = delimiter_at table;
      position = λ level tag. place_of (item_of table level tag);
      group = λ level tag. opened_by (group_of_item (item_of table level tag));
      accepts = accepted config known;
    }

unfoldable pub opened_as : LayoutGroup → Opened Layout
opened_as no_group = none
opened_as (entries layout) = opened layout

-- levels that are layouts
unfoldable pub layout_rules : (ℕ → Bool) → Rules Layout
layout_rules accepts = record { delimiter = delimiter_of_lem; position = λ layout tag. position_in tag layout; group = λ layout tag. opened_as (group_of tag layout); accepts = accepts }

unfoldable pub opens_at : List ℕ → ℕ → ℕ → Bool
opens_at table level tag = is_delimiter (delimiter_at table level) tag

-- what the code's kinds mean
unfoldable pub meant : CodeKind → Kind ℕ
meant (Plain position) = plain position
meant (Count level position) = count level position
meant Joins = joins
meant Wrong = wrong
meant Ends = ends

unfoldable pub kind_at : Config → List ℕ → (ℕ → Bool) → Group → ℕ → ℕ → Kind ℕ
kind_at config table known group last tag = entry_kind (table_rules config table known) group.level group.depth last tag

-- records as a list: a new one comes last, and what joins an entry is stored in the entry's own map
unfoldable pub joined_list : ℕ → Record → List Record → List Record
joined_list start r rs = take start rs ++ stored r (drop start rs)

unfoldable pub list_store : Store (List Record) (List Record)
list_store = record { place = λ rs. length rs; add = λ r rs. rs ++ (r ∷ []); join = joined_list; left = λ rs. rs }

-- records as words: how many there are, and where the next one goes
pub record Memory : Type 0 where
  pub words : List ℕ
  pub records : ℕ
  pub place : ℕ

unfoldable pub memory : Progress → List ℕ → Memory
memory progress words = record { words = words; records = progress.records; place = progress.place }

unfoldable pub added_words : Record → Memory → Memory
added_words r m = record { words = on_records (inserted m.records m.place r) m.words; records = m.records + 1; place = m.place + 1 }

-- a tag that is held makes no record
unfoldable pub makes : Option ℕ → ℕ
makes (Some i) = 0
makes None = 1

-- where a record stands in the entry that starts at a place
unfoldable pub standing_in : ℕ → ℕ → Record → List ℕ → Option ℕ
standing_in start to r words = held_from start r.depth r.tag (between start to (records_of words))

unfoldable pub joined_words : ℕ → Record → Memory → Memory
joined_words start r m = record { words = on_records (stored_between m.records start m.place r) m.words; records = m.records + makes (standing_in start m.place r m.words); place = m.place + makes (standing_in start m.place r m.words) }

unfoldable pub word_store : Store Memory (List ℕ)
word_store = record { place = λ m. m.place; add = added_words; join = joined_words; left = λ m. m.words }

-- progress after so many records more
unfoldable pub further : ℕ → Progress → Progress
further k progress = record { room = progress.room; records = progress.records + k; place = progress.place + k }

-- a message whose places a record can hold, and counts that leave room for all the fields that may still be read
pub record Fits (message : List ℕ) (progress : Progress) : Type 0 where
  pub short : length message < 2 ^ 32
  pub counted : progress.records + progress.room < 2 ^ 32
  pub placed : progress.place + progress.room < 2 ^ 32

-- the same where a field is read already, whose record may still have to be made
pub record FitsAt (message : List ℕ) (f : Field) (progress : Progress) : Type 0 where
  pub short : length message < 2 ^ 32
  pub inside : Inside message f
  pub counted : progress.records + suc progress.room < 2 ^ 32
  pub placed : progress.place + suc progress.room < 2 ^ 32

-- a field is read: "21 comes before any other verdict on that field", and a field that can't be read is none
unfoldable pub room_for : Field → Progress → ℕ → Result (Field × Progress) Refusal
room_for f progress zero = Err TooManyFields
room_for f progress (suc room) = Ok (f, (record { room = room; records = progress.records; place = progress.place }))

unfoldable pub next_reading : Result Field (Cause × ℕ) → Progress → Result (Field × Progress) Refusal
next_reading (Err (cause, place)) progress = Err (Malformed cause place)
next_reading (Ok f) progress = room_for f progress progress.room

module _ (mode : Mode) (message : List ℕ) where
  -- what the code's answer says, with the words that it leaves
  unfoldable pub told_by : Result (Field × Progress) Refusal → List ℕ → RunOutcome Memory (List ℕ)
  told_by (Ok (f, progress)) words = ended f (fields_from mode message f.next) progress.room (memory progress words)
  told_by (Err refusal) words = refused refusal words

-- the code's group, as what is open
abbrev pub open_group : Group → OpenGroup ℕ
open_group group = record { level = group.level; tag = group.tag; depth = group.depth }

module _ (message : List ℕ) (config : Config) (table : List ℕ) (known : ℕ → Bool) where
  -- the entries of a group, from the field behind its count on
  unfoldable pub run_of : Group → Cursor → Progress → List ℕ → RunOutcome Memory (List ℕ)
  run_of group cursor progress words =
      walk (table_rules config table known) word_store progress.room (run (open_group group) 0 ∷ []) (memory progress words) (fields_from config.mode message cursor)

  -- an entry of a number, from its delimiter on
  unfoldable pub entry_of : Group → ℕ → Field → Progress → List ℕ → RunOutcome Memory (List ℕ)
  entry_of group number delimiter progress words =
      walk (table_rules config table known) word_store progress.room (entry (open_group group) (record { number = number; last = 0; start = progress.place }) ∷ []) (added_words (entry_record group.depth number delimiter) (memory progress words)) (fields_from config.mode message delimiter.next)
