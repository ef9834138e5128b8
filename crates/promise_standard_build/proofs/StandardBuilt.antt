-- The same of the whole build, with the dictionary in bytes: the answer is 0, and the core's words are those of the records that tell the
-- message.
use Rattle.std.specs.Prelude.{◌≡◌, refl, false, List, ◌∷◌, ℕ, ◌≤◌, length}
use Rattle.std.proofs.Math.Path.{ap}
use Rattle.std.proofs.Common.{◌∙◌}
use Rattle.field_rules.specs.declared.Mode.{Mode}
use Rattle.field_rules.specs.Number.{is_digit}
use Rattle.field_rules.specs.Separator.{is_refused_separator}
use Rattle.standard_rules.specs.Standard.{Tables, told, Message}
use Rattle.standard_rules.specs.Reading.{others}
use Rattle.build_config.specs.declared.Config.{Config}
use Rattle.dictionary_rules.specs.Check.{check_of, number_of_check}
use Rattle.dictionary_rules.specs.declared.Checked.TheVariants.{Passes}
use Rattle.dictionary_meaning_rules.specs.Meaning.{dictionary_of}
use Rattle.build_records.specs.declared.Record.{Record}
use Rattle.build_answers.specs.declared.Answer.TheVariants.{Valid}
use Rattle.build_rules.specs.Message.{Outcome, message_read}
use Rattle.builder.specs.Build.{BuildOutcome, words_with, shown, build_of}
use Rattle.builder.specs.BuildLaws.{check-reads}
use Rattle.builder.proofs.ReadingLaws.{build_reads}
use Rattle.promise_standard.specs.Reading.{standard_mode, Readable}
use Rattle.promise_standard_build.specs.Fitting.{fields_of, FitsDictionary, TellMessage}
use Rattle.promise_standard_build.proofs.MessageBuilt.{ReadAs, fitting_read}

-- what a build of a message comes to: Valid, and these records, as words
pub record BuiltAs {T : Tables} {bytes : List ℕ} (m : Message T bytes) (lent : ℕ) (built : BuildOutcome) : Type 0 where
  pub valid : built.answer ≡ Valid
  pub records_are : List Record
  pub tell : TellMessage m records_are
  pub counted : built.records ≡ length records_are
  pub words_are : built.words ≡ words_with records_are
  pub all-written : built.written ≡ lent

built_as : {T : Tables} {bytes : List ℕ} (m : Message T bytes) (lent : ℕ) (read : Outcome) → ReadAs m read → BuiltAs m lent (shown lent read)
unfolding shown
built_as m lent read r = record { valid = r.valid; records_are = read.records; tell = r.tell; counted = refl; words_are = refl; all-written = refl }

-- the standard's delimiter is a separator that may be
separator_good : (mode : Mode) → mode ≡ standard_mode → is_refused_separator mode.separator ≡ false
unfolding is_refused_separator is_digit
separator_good mode e = rw e

module _ (dictionary : List ℕ) (config : Config) (lent : ℕ) (words : List ℕ) {T : Tables} {bytes : List ℕ} (m : Message T bytes)
    (separator : config.mode ≡ standard_mode) (small : length bytes ≤ 8192) (passes : check_of dictionary ≡ Passes) (enough : 1024 ≤ lent) where
  -- the build reads, by what the dictionary means
  pub build_is_read : build_of bytes config dictionary lent words ≡ shown lent (message_read (dictionary_of dictionary) config bytes)
  unfolding number_of_check
  build_is_read =
      build_reads bytes config dictionary lent words (separator_good config.mode separator) enough small
      ∙ ap (shown lent) (check-reads bytes config dictionary (check_of dictionary) (ap number_of_check passes))

  -- THE STANDARD, messages: a message of the standard that fits the dictionary goes through the whole build.
  pub standard_built : length (fields_of m) ≤ 1024 → Readable (told 35 m.msg_type ∷ others m) → FitsDictionary (dictionary_of dictionary) config m
      → BuiltAs m lent (build_of bytes config dictionary lent words)
  standard_built few readable fits = rw build_is_read (built_as m lent _ (fitting_read (dictionary_of dictionary) config m separator few fits small readable))
