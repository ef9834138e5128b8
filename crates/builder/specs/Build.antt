-- The build: "22, 23, 20, 30 to 37 of its dictionary (no records), then reads". For every message, dictionary, separator, setting and
-- number of lent records: the answer, the records that are shown, and what is written over the lent ones.
use Rattle.std.specs.Prelude.{ℕ, ◌-◌, ◌*◌, List, [], ◌++◌, length, take, replicate, eqb, ltb, Option, None}
use Rattle.field_rules.specs.Choice.{pick}
use Rattle.field_rules.specs.Separator.{is_refused_separator}
use Rattle.build_config.specs.declared.Config.{Config}
use Rattle.dictionary_rules.specs.Check.{check_of, number_of_check}
use Rattle.dictionary_rules.specs.declared.Checked.{Checked}
use Rattle.dictionary_meaning_rules.specs.Meaning.{dictionary_of}
use Rattle.build_records.specs.Records.{laid, record_words, stride}
use Rattle.build_records.specs.declared.Record.{Record}
use Rattle.build_answers.specs.declared.Answer.{Answer}
use Rattle.build_answers.specs.declared.Answer.TheVariants.{Valid, TooLong as MessageTooLong, InvalidSeparator, TooFewRecords, BadDictionary}
use Rattle.builder.specs.declared.Built.{Built}
use Rattle.build_rules.specs.Message.{Outcome, refusal, message_read}
use Rattle.field_rules.specs.declared.Field.{Field}

-- the answer, what stopped the trailer, how many records are shown, over how many of the lent ones is written, and the core's words
pub record BuildOutcome : Type 0 where
  pub answer : Answer
  pub stop : Option Field
  pub records : ℕ
  pub written : ℕ
  pub words : List ℕ

-- "all lent past them are zero": the words of the records, and zeros up to 1,025 records
unfoldable pub words_with : List Record → List ℕ
words_with records = laid records ++ replicate (record_words - length (laid records)) 0

-- 20, 22 and 23 leave the records as they were
unfoldable pub untouched : Answer → List ℕ → BuildOutcome
untouched answer words = record { answer = answer; stop = None; records = 0; written = 0; words = words }

-- an answer with its records, and over all that are lent is written
unfoldable pub shown : ℕ → Outcome → BuildOutcome
shown lent outcome = record { answer = outcome.answer; stop = outcome.stop; records = length outcome.records; written = lent; words = words_with outcome.records }

-- "30 to 37 of its dictionary (no records), then reads"
unfoldable pub checked_read : List ℕ → Config → List ℕ → Checked → Outcome
checked_read message config dictionary checked =
    pick (eqb (number_of_check checked) 0) (message_read (dictionary_of dictionary) config message) (refusal (BadDictionary checked) [])

-- 22, 23 and 20 leave the records as they were; what is read then is shown
abbrev pub judged : List ℕ → Config → ℕ → List ℕ → Outcome → BuildOutcome
judged message config lent words outcome =
    pick (is_refused_separator config.mode.separator) (untouched InvalidSeparator words)
    (pick (ltb lent 1024) (untouched TooFewRecords words)
    (pick (ltb 8192 (length message)) (untouched MessageTooLong words) (shown lent outcome)))

-- "Build checks 22, 23, 20, 30 to 37 of its dictionary (no records), then reads"
unfoldable pub build_of : List ℕ → Config → List ℕ → ℕ → List ℕ → BuildOutcome
build_of message config dictionary lent words = judged message config lent words (checked_read message config dictionary (check_of dictionary))

-- what is refused before anything is read
unfoldable pub first_refusal : List ℕ → Config → ℕ → Answer
first_refusal message config lent =
    pick (is_refused_separator config.mode.separator) InvalidSeparator (pick (ltb lent 1024) TooFewRecords (pick (ltb 8192 (length message)) MessageTooLong Valid))

-- what the code answers, with the words that it leaves
unfoldable pub built_told : Built → List ℕ → BuildOutcome
built_told b words = record { answer = b.answer; stop = b.stop; records = b.records; written = b.written; words = words }

-- the words as they are shown, of those that the code leaves: zeros behind the records, or all as they stand where nothing is written
unfoldable pub shown_words : Built → List ℕ → List ℕ
shown_words b words = pick (eqb b.written 0) words (take (stride * b.records) words ++ replicate (record_words - stride * b.records) 0)
