-- What a build shows in the caller's records is uncut, whatever it answers: for every message, dictionary, separator, setting and number of
-- lent records, each number of a shown record is the core's.
use Rattle.std.specs.Prelude.{ℕ, zero, suc, ◌-◌, ◌≤◌, ◌<◌, ◌≡◌, Bool, eqb, replicate}
use Rattle.std.proofs.Math.Path.{refl}
use Rattle.std.proofs.Common.{ap, ◌∙◌, not-suc-le-zero, le_of_suc-le-suc, ltb-false}
use Rattle.std.proofs.Math.Bool.{true, false}
use mathlib.Core.List.{List, [], ◌∷◌}
use native.Mathlib.Omega.{arith}
use Rattle.std.proofs.lemmas.Bool.{lt-leb}
use Rattle.std.proofs.Math.Dec.{ltb}
use Rattle.std.proofs.Math.ListN.{length, get_or-append}
use Rattle.field_rules.specs.Separator.{is_refused_separator}
use Rattle.field_rules.specs.Choice.{pick}
use Rattle.build_config.specs.declared.Config.{Config}
use Rattle.dictionary_rules.specs.Check.{check_of, number_of_check}
use Rattle.dictionary_rules.specs.declared.Checked.{Checked}
use Rattle.dictionary_meaning_rules.specs.Meaning.{dictionary_of}
use Rattle.build_records.specs.declared.Record.{Record}
use Rattle.build_records.specs.Records.{blank, laid, records_of, record_at, record_words}
use Rattle.build_records.proofs.WordLaws.{records_laid}
use Rattle.build_nesting_laws.specs.Entries.{All, all_none, all_more}
use Rattle.build_answers.specs.declared.Answer.TheVariants.{InvalidSeparator, TooFewRecords, TooLong as MessageTooLong, BadDictionary}
use Rattle.build_rules.specs.Message.{Outcome, refusal, message_read}
use Rattle.builder.specs.Build.{words_with, untouched, shown, checked_read, build_of}
use Rattle.face_messages.specs.declared.FieldRecord.{FieldRecord}
use Rattle.build_config.specs.Settings.{config_of}
use Rattle.face_messages.specs.Lent.{field_of, field_record_at, built_from}
use Rattle.promise_records.specs.Small.{Small}
use Rattle.promise_records.proofs.SmallRead.{refusal_small, read_small}
use Rattle.promise_records.specs.FewRecords.{refused-few, read-few}

-- the numbers of a lent record, as the core has them
pub record Uncut (r : Record) (f : FieldRecord) : Type 0 where
  pub part_same : f.part ≡ r.part
  pub depth_same : f.depth ≡ r.depth
  pub entry-same : f.entry ≡ r.number
  pub tag_same : f.tag ≡ r.tag
  pub place_same : f.place ≡ r.place
  pub length-same : f.length ≡ r.length

small_uncut : (message : List ℕ) (r : Record) → length message ≤ 8192 → Small message r → Uncut r (field_of r)
unfolding field_of
small_uncut message r short s = record {
  part_same = omega (arith, s.of_three);
  depth_same = omega (arith, s.shallow);
  entry-same = omega (arith, s.numbered);
  tag_same = refl;
  place_same = omega (arith, s.inside, short);
  length-same = omega (arith, s.inside, short);
}

all-at : {P : Record → Type 0} (rs : List Record) (i : ℕ) → All P rs → i < length rs → P (record_at i rs)
unfolding record_at
all-at [] i a h = absurd (not-suc-le-zero h)
all-at (r ∷ rs) zero (all_more p a) h = p
all-at (r ∷ rs) (suc i) (all_more p a) h = all-at rs i a (le_of_suc-le-suc h)

-- record i of the words that show the records
record_shown : (rs : List Record) (i : ℕ) → i < length rs → record_at i (records_of (words_with rs)) ≡ record_at i rs
unfolding words_with record_at
record_shown rs i h = ap (record_at i) (records_laid rs (replicate (record_words - length (laid rs)) 0)) ∙ get_or-append rs _ blank i h

module _ (message : List ℕ) (config : Config) (dictionary : List ℕ) where
  -- what is read, and shown where the build got so far
  abbrev read : Outcome
  read = checked_read message config dictionary (check_of dictionary)

  checked_small : (c : Checked) → All (Small message) (checked_read message config dictionary c).records
  unfolding checked_read
  checked_small c = by_check (eqb (number_of_check c) 0)
    where
      by_check : (b : Bool) → All (Small message) (pick b (message_read (dictionary_of dictionary) config message) (refusal (BadDictionary c) [])).records
      by_check true = read_small message (dictionary_of dictionary) config
      by_check false = refusal_small message (BadDictionary c) [] all_none

  shown-at : (i : ℕ) → length message ≤ 8192 → i < length read.records
      → Uncut (record_at i read.records) (field_record_at (words_with read.records) (length read.records) i)
  unfolding field_record_at
  shown-at i short h =
      rw (lt-leb (length read.records) i h, record_shown read.records i h)
      (small_uncut message (record_at i read.records) short (all-at read.records i (checked_small (check_of dictionary)) h))

  build_uncut : (lent : ℕ) (words : List ℕ) (i : ℕ) → i < (build_of message config dictionary lent words).records
      → Uncut (record_at i read.records) (field_record_at (build_of message config dictionary lent words).words
      (build_of message config dictionary lent words).records i)
  unfolding build_of
  build_uncut lent words i h = by_tests (is_refused_separator config.mode.separator) (ltb lent 1024) (ltb 8192 (length message)) refl h
    where
      by_tests : (x y z : Bool) → ltb 8192 (length message) ≡ z
          → i < (pick x (untouched InvalidSeparator words) (pick y (untouched TooFewRecords words)
          (pick z (untouched MessageTooLong words) (shown lent read)))).records
          → Uncut (record_at i read.records)
          (field_record_at (pick x (untouched InvalidSeparator words)
          (pick y (untouched TooFewRecords words) (pick z (untouched MessageTooLong words) (shown lent read)))).words
          (pick x (untouched InvalidSeparator words)
          (pick y (untouched TooFewRecords words) (pick z (untouched MessageTooLong words) (shown lent read)))).records i)
      by_tests true y z e h = unfold untouched in absurd (not-suc-le-zero h)
      by_tests false true z e h = unfold untouched in absurd (not-suc-le-zero h)
      by_tests false false true e h = unfold untouched in absurd (not-suc-le-zero h)
      by_tests false false false e h = unfold shown in shown-at i (ltb-false 8192 (length message) e) h

  checked-few : (c : Checked) → length message ≤ 8192 → length (checked_read message config dictionary c).records ≤ 1024
  unfolding checked_read
  checked-few c short = by_check (eqb (number_of_check c) 0)
    where
      by_check : (b : Bool) → length (pick b (message_read (dictionary_of dictionary) config message) (refusal (BadDictionary c) [])).records ≤ 1024
      by_check true = read-few (dictionary_of dictionary) config message short
      by_check false = refused-few (BadDictionary c) [] (omega arith)

  build_few : (lent : ℕ) (words : List ℕ) → (build_of message config dictionary lent words).records ≤ 1024
  unfolding build_of
  build_few lent words = by_tests (is_refused_separator config.mode.separator) (ltb lent 1024) (ltb 8192 (length message)) refl
    where
      by_tests : (x y z : Bool) → ltb 8192 (length message) ≡ z
          → (pick x (untouched InvalidSeparator words) (pick y (untouched TooFewRecords words)
          (pick z (untouched MessageTooLong words) (shown lent read)))).records ≤ 1024
      by_tests true y z e = unfold untouched in omega arith
      by_tests false true z e = unfold untouched in omega arith
      by_tests false false true e = unfold untouched in omega arith
      by_tests false false false e = unfold shown in checked-few (check_of dictionary) (ltb-false 8192 (length message) e)

module _ (message : List ℕ) (separator settings : ℕ) (dictionary : List ℕ) (lent : ℕ) where
  -- each lent record that is shown has the numbers of the record that was read
  pub shown-uncut : (i : ℕ) → i < (built_from message separator settings dictionary lent).records
      → Uncut (record_at i (checked_read message (config_of settings separator) dictionary (check_of dictionary)).records)
      (field_record_at (built_from message separator settings dictionary lent).words (built_from message separator settings dictionary lent).records i)
  unfolding built_from
  shown-uncut i h = build_uncut message (config_of settings separator) dictionary lent (replicate record_words 0) i h

  -- "record count": 1,024 at the most, so that all of them stand in the lent ones
  pub few_records : (built_from message separator settings dictionary lent).records ≤ 1024
  unfolding built_from
  few_records = build_few message (config_of settings separator) dictionary lent (replicate record_words 0)
