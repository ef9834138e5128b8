-- What a build leaves in the caller's records, and what is told of it.
-- "A record holds part (1 header, 2 body, 3 trailer), depth, entry number .., tag, and place and length of the value", "all lent past them
-- are zero", and where the rules leave them blank "as it was".
use Rattle.std.specs.Prelude.{ℕ, zero, suc, ◌-◌, ◌%◌, ◌^◌, Bool, List, [], ◌∷◌, ◌++◌, take, drop, get_or, replicate, leb, ltb}
use Rattle.field_rules.specs.Choice.{pick}
use Rattle.build_records.specs.declared.Record.{Record}
use Rattle.build_records.specs.Records.{laid, records_of, record_at, on_records, replaced, record_words}
use Rattle.build_answers.specs.Answer.{number_of, values_of}
use Rattle.builder.specs.Build.{BuildOutcome, build_of}
use Rattle.builder.specs.Through.{build_over}
use Rattle.face_messages.specs.declared.FieldRecord.{FieldRecord}
use Rattle.face_messages.specs.declared.Shown.{Shown}
use Rattle.face_told.specs.Told.{told}
use Rattle.build_config.specs.Settings.{config_of}

-- bytes to a lent record: part and depth one each, entry, place and length two each, tag four
abbrev pub record_bytes : ℕ
record_bytes = 12

abbrev pub blank_field : FieldRecord
blank_field = record { part = 0; depth = 0; entry = 0; tag = 0; place = 0; length = 0 }

-- a record in twelve bytes
unfoldable pub field_of : Record → FieldRecord
field_of r = record { part = r.part % 2 ^ 8; depth = r.depth % 2 ^ 8; entry = r.number % 2 ^ 16; tag = r.tag; place = r.place % 2 ^ 16; length = r.length % 2 ^ 16 }

-- record i, where so many are shown
unfoldable pub field_record_at : List ℕ → ℕ → ℕ → FieldRecord
field_record_at words shown i = pick (leb shown i) blank_field (field_of (record_at i (records_of words)))

-- f 0, f 1, .., f (m - 1)
unfoldable pub table : {A : Type 0} → (ℕ → A) → ℕ → List A
table f zero = []
table f (suc m) = f 0 ∷ table (λ k. f (suc k)) m

-- the number, how many records are shown, and over how many of the lent ones is written
unfoldable pub shown_of : BuildOutcome → Shown
shown_of built = record { number = number_of built.answer; records = built.records; written = built.written }

-- "`[records, first value, second value, 0]`"
unfoldable pub told_of : BuildOutcome → List ℕ
told_of built = told built.records (values_of built.answer)

-- the records that words show, over so many of the lent ones; the rest of them stay
unfoldable pub filled : List ℕ → ℕ → ℕ → List FieldRecord → List FieldRecord
filled words shown written lent = table (field_record_at words shown) written ++ drop written lent

-- blank records over the lent ones, from one place on up to another; the rest of them stay
unfoldable pub blanked : ℕ → ℕ → List FieldRecord → List FieldRecord
blanked from written lent = take from lent ++ replicate (written - from) blank_field ++ drop written lent

-- the caller's records after a build
unfoldable pub records_lent : BuildOutcome → List FieldRecord → List FieldRecord
records_lent built lent = filled built.words built.records built.written lent

-- a build of what the caller gives, over so many lent records
unfoldable pub built_from : List ℕ → ℕ → ℕ → List ℕ → ℕ → BuildOutcome
built_from message separator settings dictionary lent = build_of message (config_of settings separator) dictionary lent (replicate record_words 0)

-- the same over memory that a dictionary was prepared in
unfoldable pub built_over : List ℕ → ℕ → ℕ → List ℕ → List ℕ → ℕ → BuildOutcome
built_over message separator settings copy memory lent = build_over message (config_of settings separator) copy memory lent (replicate record_words 0)

-- ===== lent records, taken over =====

-- a lent record, as the core has it
unfoldable pub record_of_lent : FieldRecord → Record
record_of_lent f = record { part = f.part; depth = f.depth; number = f.entry; tag = f.tag; place = f.place; length = f.length }

unfoldable pub records_from : List FieldRecord → List Record
records_from [] = []
records_from (f ∷ fs) = record_of_lent f ∷ records_from fs

-- lent records, as the core's words
unfoldable pub words_lent : List FieldRecord → List ℕ
words_lent fs = laid (records_from fs)

-- how many of them are read for a count
unfoldable pub read_count : ℕ → ℕ → ℕ
read_count lent count = pick (ltb lent count) 0 (pick (ltb 1024 count) 0 count)

-- the first i lent records, put into words one after the other
unfoldable pub put_fields : List FieldRecord → ℕ → List ℕ → List ℕ
put_fields fs zero words = words
put_fields fs (suc i) words = on_records (replaced i (record_of_lent (get_or fs i blank_field))) (put_fields fs i words)
