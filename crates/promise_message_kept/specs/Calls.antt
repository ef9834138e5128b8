-- The calls on memory that is lent for a message, and those on memory that is lent for a draft: what each answers, by the rules' number, and
-- what it leaves of words and values, as the calls are defined.
use Rattle.std.specs.Prelude.{ℕ, ◌/◌, ◌≤◌, ◌≡◌, Bool, true, false, List, [], ◌∷◌, length}
use Rattle.build_records.specs.Records.{records_of, between, stride}
use Rattle.message_lent_rules.specs.Meaning.{Message}
use Rattle.message_lent_rules.specs.Formed.{Within}
use Rattle.message_take_over.specs.Derived.{StandFor}
use Rattle.message_take_over.specs.Taking.{AfterTaking, after as after-taking, number_of_taken, taking_over}
use Rattle.message_rules.specs.Changes.{After, after, number_of_change, emptying, making, storing, removing}
use Rattle.message_rules.specs.Runs.{is_draft, starting, entering, storing_last, hanging_last, hanging}
use Rattle.message_rules.specs.LookUps.{number_of_value, number_of_map, part_found, field_found, entry_found}
use Rattle.message_rules.specs.declared.Part.{Part}
use Rattle.encode_rules.specs.Encode.{Left, left, number_of_encoding, encoding_of}

-- what a call answers, and what it leaves
pub record Outcome : Type 0 where
  pub answer : ℕ
  pub words : List ℕ
  pub values : List ℕ

unfoldable pub changed : After → Outcome
changed (after r w v) = record { answer = number_of_change r; words = w; values = v }

unfoldable pub taken : AfterTaking → Outcome
taken (after-taking r w v) = record { answer = number_of_taken r; words = w; values = v }

unfoldable pub written : Left → Outcome
written (left r w v output) = record { answer = number_of_encoding r; words = w; values = v }

pub data Call : Type 0 where
  empty : Call
  -- BeginString and MsgType
  new : List ℕ → List ℕ → Call
  -- records, how many of them, and the bytes that they point into
  take-over : List ℕ → ℕ → List ℕ → Call
  store : Part → ℕ → List ℕ → Call
  remove : Part → ℕ → Call
  -- words and values of a draft
  hang : Part → List ℕ → List ℕ → Call
  -- separator and output
  encode : ℕ → List ℕ → Call
  find_part : Part → Call
  -- the map by its row, and a tag
  find_field : ℕ → ℕ → Call
  -- the map by its row, a start tag, and the entry's number
  find_entry : ℕ → ℕ → ℕ → Call

unfoldable pub called : Call → List ℕ → List ℕ → Outcome
called empty words values = changed (emptying words values)
called (new begin_string message_type) words values = changed (making begin_string message_type words values)
called (take-over records count bytes) words values = taken (taking_over records count bytes words values)
called (store part tag value) words values = changed (storing part tag value words values)
called (remove part tag) words values = changed (removing part tag words values)
called (hang part run_words run_values) words values = changed (hanging part run_words run_values words values)
called (encode separator output) words values = written (encoding_of separator words values output)
called (find_part part) words values = record { answer = number_of_map (part_found part words values); words = words; values = values }
called (find_field row tag) words values = record { answer = number_of_value (field_found row tag words values); words = words; values = values }
called (find_entry row start number) words values = record { answer = number_of_map (entry_found row start number words values); words = words; values = values }

-- whether a call changes the message; a look-up doesn't
unfoldable pub changes : Call → Bool
changes empty = true
changes (new begin_string message_type) = true
changes (take-over records count bytes) = true
changes (store part tag value) = true
changes (remove part tag) = true
changes (hang part run_words run_values) = true
changes (encode separator output) = true
changes (find_part part) = false
changes (find_field row tag) = false
changes (find_entry row start number) = false

-- records that stand for a message within the limits
pub record Takeable (records : List ℕ) (count : ℕ) (bytes : List ℕ) : Type 0 where
  pub message : Message
  pub held : count ≤ length records / stride
  pub few : count ≤ 1024
  pub stand : StandFor bytes message (between 0 count (records_of records))
  pub within : Within message

-- what is lent beside the message is what the call takes: a draft to hang, records of a message to take over
unfoldable pub Fit : Call → Type 0
Fit empty = Unit {0}
Fit (new begin_string message_type) = Unit {0}
Fit (take-over records count bytes) = Takeable records count bytes
Fit (store part tag value) = Unit {0}
Fit (remove part tag) = Unit {0}
Fit (hang part run_words run_values) = is_draft run_words run_values ≡ true
Fit (encode separator output) = Unit {0}
Fit (find_part part) = Unit {0}
Fit (find_field row tag) = Unit {0}
Fit (find_entry row start number) = Unit {0}

-- what calls leave, one after the other
unfoldable pub called_all : List Call → Outcome → Outcome
called_all [] o = o
called_all (c ∷ calls) o = called_all calls (called c o.words o.values)

-- the calls on a draft
pub data DraftCall : Type 0 where
  start : DraftCall
  -- start tag and delimiter tag
  add-entry : ℕ → ℕ → DraftCall
  store-last : ℕ → List ℕ → DraftCall
  -- words and values of another draft
  hang-last : List ℕ → List ℕ → DraftCall

unfoldable pub called_draft : DraftCall → List ℕ → List ℕ → Outcome
called_draft start words values = changed (starting words values)
called_draft (add-entry s d) words values = changed (entering s d words values)
called_draft (store-last tag value) words values = changed (storing_last tag value words values)
called_draft (hang-last run_words run_values) words values = changed (hanging_last run_words run_values words values)

unfoldable pub FitDraft : DraftCall → Type 0
FitDraft start = Unit {0}
FitDraft (add-entry s d) = Unit {0}
FitDraft (store-last tag value) = Unit {0}
FitDraft (hang-last run_words run_values) = is_draft run_words run_values ≡ true

unfoldable pub called_all_draft : List DraftCall → Outcome → Outcome
called_all_draft [] o = o
called_all_draft (c ∷ calls) o = called_all_draft calls (called_draft c o.words o.values)
