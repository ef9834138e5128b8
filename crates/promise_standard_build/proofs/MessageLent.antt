-- The same of what the export leaves: it answers 0, and the caller's records, so many as it says, tell the message. No number is cut by the
-- twelve bytes of a lent record.
use Rattle.std.specs.Prelude.{◌≡◌, List, [], ◌∷◌, ◌++◌, length, take, drop, replicate}
use Rattle.std.proofs.Math.Path.{refl, ap}
use Rattle.std.proofs.Common.{◌∙◌, arith}
use Prim.Native.Nat.{ℕ, zero, suc, ◌≤◌, ◌<◌}
use Rattle.standard_rules.specs.Standard.{Tables, told, Message}
use Rattle.standard_rules.specs.Reading.{others}
use Rattle.build_config.specs.Settings.{config_of}
use Rattle.dictionary_rules.specs.Check.{check_of, number_of_check}
use Rattle.dictionary_rules.specs.declared.Checked.TheVariants.{Passes}
use Rattle.dictionary_meaning_rules.specs.Meaning.{dictionary_of}
use Rattle.build_records.specs.Records.{record_at, record_words}
use Rattle.build_records.specs.declared.Record.{Record}
use Rattle.build_answers.specs.Answer.{number_of}
use Rattle.build_rules.specs.Message.{Outcome, message_read}
use Rattle.builder.specs.Build.{BuildOutcome, shown, checked_read}
use Rattle.builder.specs.BuildLaws.{check-reads}
use Rattle.face_messages.specs.declared.FieldRecord.{FieldRecord}
use Rattle.face_messages.specs.Lent.{field_record_at, table, shown_of, filled, records_lent, built_from, record_of_lent, records_from}
use Rattle.promise_records.proofs.Uncut.{Uncut, shown-uncut, few_records}
use Rattle.promise_standard.specs.Reading.{Readable}
use Rattle.promise_standard_build.specs.Fitting.{fields_of, FitsDictionary, TellMessage}
use Rattle.promise_standard_build.proofs.MessageBuilt.{fitting_read}
use Rattle.promise_standard_build.proofs.StandardBuilt.{build_is_read}

take-table : {A : Type 0} (f : ℕ → A) (n m : ℕ) (rest : List A) → n ≤ m → take n (table f m ++ rest) ≡ table f n
unfolding table
take-table f zero m rest h = refl
take-table f (suc n) zero rest h = absurd (omega arith)
take-table f (suc n) (suc m) rest h = ap (λ l. f 0 ∷ l) (take-table (λ k. f (suc k)) n m rest (omega arith))

from-table : (f : ℕ → FieldRecord) (rs : List Record) → ((i : ℕ) → i < length rs → record_of_lent (f i) ≡ record_at i rs)
    → records_from (table f (length rs)) ≡ rs
unfolding table records_from record_at
from-table f [] h = refl
from-table f (r ∷ rs) h = rw (h 0 (omega arith), from-table (λ k. f (suc k)) rs (λ i l. h (suc i) (omega arith)))

-- a lent record that is uncut is the core's
uncut-same : (r : Record) (f : FieldRecord) → Uncut r f → record_of_lent f ≡ r
unfolding record_of_lent
uncut-same r f u = rw (u.part_same, u.depth_same, u.entry-same, u.tag_same, u.place_same, u.length-same)

-- what the export answers and leaves
pub record LentAs {T : Tables} {bytes : List ℕ} (m : Message T bytes) (built : BuildOutcome) (lent : List FieldRecord) : Type 0 where
  pub number : (shown_of built).number ≡ 0
  pub tell : TellMessage m (records_from (take (shown_of built).records (records_lent built lent)))

-- the outcome of a read, by its parts
shown-parts : (lent : ℕ) (read : Outcome) (built : BuildOutcome) → built ≡ shown lent read
    → (number_of built.answer ≡ number_of read.answer) × (built.records ≡ length read.records) × (built.written ≡ lent)
unfolding shown
shown-parts lent read built e =
    (ap (λ (b : BuildOutcome). number_of b.answer) e, ap (λ (b : BuildOutcome). b.records) e, ap (λ (b : BuildOutcome). b.written) e)

module _ (settings : ℕ) (dictionary : List ℕ) (lent : List FieldRecord) {T : Tables} {bytes : List ℕ} (m : Message T bytes) (small : length bytes ≤ 8192)
    (passes : check_of dictionary ≡ Passes) (enough : 1024 ≤ length lent) where
  abbrev built : BuildOutcome
  built = built_from bytes 1 settings dictionary (length lent)

  abbrev read : Outcome
  read = message_read (dictionary_of dictionary) (config_of settings 1) bytes

  is_shown : built ≡ shown (length lent) read
  unfolding built_from config_of
  is_shown = build_is_read dictionary (config_of settings 1) (length lent) (replicate record_words 0) m refl small passes enough

  checked_is_read : checked_read bytes (config_of settings 1) dictionary (check_of dictionary) ≡ read
  unfolding number_of_check
  checked_is_read = check-reads bytes (config_of settings 1) dictionary (check_of dictionary) (ap number_of_check passes)

  -- the caller's records, so many as are shown, are those that were read
  lent-read : records_from (take built.records (records_lent built lent)) ≡ read.records
  unfolding records_lent filled
  lent-read =
      let parts = shown-parts (length lent) read built is_shown in
      let f : ℕ → FieldRecord = field_record_at built.words built.records in
      ap records_from (take-table f built.records built.written (drop built.written lent)
      (omega (arith, few_records bytes 1 settings dictionary (length lent), parts.2)))
      ∙ ap (λ (n : ℕ). records_from (table f n)) parts.1
      ∙ from-table f read.records (λ i h. uncut-same _ _ (rw checked_is_read at (shown-uncut bytes 1 settings dictionary (length lent) i (rw parts.1 h))))

  -- THE STANDARD, messages: the export answers 0 to a message of the standard that fits the dictionary, and its lent records tell the message.
  pub standard_lent : length (fields_of m) ≤ 1024 → Readable (told 35 m.msg_type ∷ others m)
      → FitsDictionary (dictionary_of dictionary) (config_of settings 1) m → LentAs m (built_from bytes 1 settings dictionary (length lent)) lent
  unfolding shown_of number_of config_of
  standard_lent few readable fits =
      let r = fitting_read (dictionary_of dictionary) (config_of settings 1) m refl few fits small readable in
      record { number = (shown-parts (length lent) read built is_shown).0 ∙ ap number_of r.valid; tell = rw lent-read r.tell }
