-- What a build shows in the caller's records is read back as the words that it left, whatever it answered: what is shown is uncut, and behind
-- it there are zeros. And taking over looks at no more of the words than the records that are counted.
use Prim.Native.Nat.{ℕ, zero, suc, ◌-◌, ◌≤◌, ◌<◌}
use Rattle.std.specs.Prelude.{◌≡◌, Bool, true, false, ltb, length, take, drop}
use Rattle.std.proofs.Math.Path.{refl, ap}
use Rattle.std.proofs.Common.{sym, ◌∙◌, not-suc-le-zero, le_of_suc-le-suc, ltb-false, le-leb, take_at, length-take-le}
use mathlib.Core.List.{List, [], ◌∷◌, ◌++◌, append-nil}
use Rattle.std.proofs.Math.Nat.{sub-zero}
use native.Mathlib.Omega.{arith}
use Rattle.std.proofs.Math.ListN.{replicate, length-append}
use Rattle.field_rules.specs.Choice.{pick}
use Rattle.field_rules.specs.Separator.{is_refused_separator}
use Rattle.build_config.specs.Settings.{config_of}
use Rattle.dictionary_rules.specs.Check.{check_of}
use Rattle.build_records.specs.declared.Record.{Record}
use Rattle.build_records.specs.Records.{laid, records_of, record_at, between, record_words}
use Rattle.build_records.proofs.WordLaws.{records_laid}
use Rattle.build_answers.specs.declared.Answer.{Answer}
use Rattle.build_answers.specs.declared.Answer.TheVariants.{InvalidSeparator, TooFewRecords, TooLong as MessageTooLong}
use Rattle.build_rules.specs.Message.{Outcome}
use Rattle.builder.specs.Build.{BuildOutcome, words_with, untouched, shown, checked_read, build_of}
use Rattle.message_take_over.specs.Taking.{taking_over}
use Rattle.face_messages.specs.declared.FieldRecord.{FieldRecord}
use Rattle.face_messages.specs.Lent.{table, filled, field_record_at, built_from, records_lent, record_of_lent, records_from, words_lent, read_count}
use Rattle.face_messages.specs.TakeLaws.{read_all}
use Rattle.promise_records.proofs.Uncut.{Uncut, shown-uncut, few_records}
use Rattle.gateway.specs.TakingLaws.{length_from, take-from, lent_records, first_of}

-- WHAT TAKE-OVER READS: the first records, as many as are counted, and whether there are so many; no other word
pub counted-alone : (records others : List ℕ) (count : ℕ) (message words values : List ℕ) → count ≤ length (records_of records) → count ≤ length (records_of others) → between 0 count (records_of records) ≡ between 0 count (records_of others)
    → taking_over records count message words values ≡ taking_over others count message words values
unfolding taking_over
counted-alone records others count message words values many enough same = rw (le-leb count _ many, le-leb count _ enough, same) refl

-- the first of a table
table-take : {A : Type 0} (f : ℕ → A) (n m : ℕ) (rest : List A) → n ≤ m → take n (table f m ++ rest) ≡ table f n
unfolding table
table-take f zero m rest h = refl
table-take f (suc n) zero rest h = absurd (not-suc-le-zero h)
table-take f (suc n) (suc m) rest h = ap (λ l. f 0 ∷ l) (table-take (λ k. f (suc k)) n m rest (le_of_suc-le-suc h))

length-table : {A : Type 0} (f : ℕ → A) (m : ℕ) → length (table f m) ≡ m
unfolding table
length-table f zero = refl
length-table f (suc m) = ap suc (length-table (λ k. f (suc k)) m)

-- a table of lent records that are, one by one, those of a list
table_records : (f : ℕ → FieldRecord) (rs : List Record) → ((i : ℕ) → i < length rs → record_of_lent (f i) ≡ record_at i rs) → records_from (table f (length rs)) ≡ rs
unfolding table records_from record_at
table_records f [] each = refl
table_records f (r ∷ rs) each = rw (each 0 (omega arith), table_records (λ k. f (suc k)) rs (λ i h. each (suc i) (omega arith))) refl

uncut-same : (r : Record) (f : FieldRecord) → Uncut r f → record_of_lent f ≡ r
unfolding record_of_lent
uncut-same r f u = rw (u.part_same, u.depth_same, u.entry-same, u.tag_same, u.place_same, u.length-same) refl

-- what a build comes to over blank words: it reads nothing and leaves all as it was, or it shows what was read over at least 1,024 lent records
data Leaves (lent : ℕ) (read : Outcome) : BuildOutcome → Type 0 where
  nothing : (answer : Answer) → Leaves lent read (untouched answer (replicate record_words 0))
  all : 1024 ≤ lent → Leaves lent read (shown lent read)

module _ (lent : List FieldRecord) (read : Outcome) where
  shown-there : (o : BuildOutcome) → Leaves (length lent) read o → o.records ≤ 1024 → o.records ≤ length (records_lent o lent)
  unfolding untouched shown records_lent filled
  shown-there _ (nothing answer) few = omega arith
  shown-there _ (all enough) few =
      let f = field_record_at (words_with read.records) (length read.records) in
      omega (arith, length-append (table f (length lent)) (drop (length lent) lent), length-table f (length lent))

  words_back : (o : BuildOutcome) → Leaves (length lent) read o → o.records ≤ 1024 → ((i : ℕ) → i < o.records → Uncut (record_at i read.records) (field_record_at o.words o.records i))
      → words_with (records_from (take o.records (records_lent o lent))) ≡ o.words
  unfolding untouched shown records_lent filled
  words_back _ (nothing answer) few uncut = unfold records_from words_with laid in refl
  words_back _ (all enough) few uncut =
      let f = field_record_at (words_with read.records) (length read.records) in
      ap words_with
      (ap records_from (table-take f (length read.records) (length lent) (drop (length lent) lent) (omega arith))
      ∙ table_records f read.records (λ i h. uncut-same (record_at i read.records) (f i) (uncut i h)))

-- the records that a word of zeros follows are those that were laid
words-first : (rs : List Record) → between 0 (length rs) (records_of (words_with rs)) ≡ rs
unfolding words_with
words-first rs = first_of (length rs) _ ∙ ap (take (length rs)) (records_laid rs (replicate (record_words - length (laid rs)) 0)) ∙ take_at rs _ (length rs) refl

words-many : (rs : List Record) → length rs ≤ length (records_of (words_with rs))
unfolding words_with
words-many rs =
    let zeros : List ℕ = replicate (record_words - length (laid rs)) 0 in
    omega (arith, ap length (records_laid rs zeros), length-append rs (records_of zeros))

module _ (message : List ℕ) (separator settings : ℕ) (dictionary : List ℕ) (records : List FieldRecord) where
  -- the build, and the caller's records after it
  abbrev pub built : BuildOutcome
  built = built_from message separator settings dictionary (length records)

  abbrev pub filled_records : List FieldRecord
  filled_records = records_lent built records

  abbrev read : Outcome
  read = checked_read message (config_of settings separator) dictionary (check_of dictionary)

  leaves : Leaves (length records) read built
  unfolding built_from build_of
  leaves = by_tests (is_refused_separator (config_of settings separator).mode.separator) (ltb (length records) 1024) (ltb 8192 (length message)) refl
    where
      blank : List ℕ
      blank = replicate record_words 0

      by_tests : (x y z : Bool) → ltb (length records) 1024 ≡ y
          → Leaves (length records) read (pick x (untouched InvalidSeparator blank) (pick y (untouched TooFewRecords blank) (pick z (untouched MessageTooLong blank) (shown (length records) read))))
      by_tests true y z e = nothing InvalidSeparator
      by_tests false true z e = nothing TooFewRecords
      by_tests false false true e = nothing MessageTooLong
      by_tests false false false e = all (ltb-false (length records) 1024 e)

  few : built.records ≤ 1024
  few = few_records message separator settings dictionary (length records)

  -- all records that are shown stand in the lent ones
  pub all_there : built.records ≤ length filled_records
  all_there = shown-there records read built leaves few

  -- BUILT WORDS: the records that were shown, as take-over reads them, with zeros behind them are the words that the build left
  pub built-words : words_with (records_from (take built.records filled_records)) ≡ built.words
  built-words = words_back records read built leaves few (shown-uncut message separator settings dictionary (length records))

  -- as many are read as are counted, so their words with zeros behind them are those that the build left
  pub read_back : let shown_records = take (read_count (length filled_records) built.records) filled_records in
      words_lent shown_records ++ replicate (record_words - length (words_lent shown_records)) 0 ≡ built.words
  unfolding words_lent words_with
  read_back = rw (sym (read_all (length filled_records) built.records all_there few)) built-words

  -- so it takes over what the build left
  pub taken_alike : (bytes words values : List ℕ) → taking_over (words_lent filled_records) built.records bytes words values ≡ taking_over built.words built.records bytes words values
  taken_alike bytes words values =
      let n = built.records in
      let rs = records_from (take n filled_records) in
      let size : length rs ≡ n = length_from (take n filled_records) ∙ length-take-le n filled_records all_there in
      let first : between 0 n (records_of (words_lent filled_records)) ≡ rs = first_of n _ ∙ ap (take n) (lent_records filled_records) ∙ sym (take-from n filled_records) in
      let second : between 0 n (records_of built.words) ≡ rs = ap (λ (ws : List ℕ). between 0 n (records_of ws)) (sym built-words) ∙ ap (λ (k : ℕ). between 0 k (records_of (words_with rs))) (sym size) ∙ words-first rs in
      let many : n ≤ length (records_of built.words) = omega (arith, size, words-many rs, ap (λ (ws : List ℕ). length (records_of ws)) built-words) in
      counted-alone (words_lent filled_records) built.words n bytes words values (omega (arith, ap length (lent_records filled_records), length_from filled_records, all_there)) many (first ∙ sym second)

  -- where the build left words of some records, the lent ones that it showed are those
  pub records_shown : (rs : List Record) → built.words ≡ words_with rs → built.records ≡ length rs → records_from (take built.records filled_records) ≡ rs
  records_shown rs words count =
      let n = built.records in
      let ss = records_from (take n filled_records) in
      let size : length ss ≡ n = length_from (take n filled_records) ∙ length-take-le n filled_records all_there in
      let same : words_with ss ≡ words_with rs = built-words ∙ words in
      sym (words-first ss) ∙ ap (λ (ws : List ℕ). between 0 (length ss) (records_of ws)) same ∙ ap (λ (k : ℕ). between 0 k (records_of (words_with rs))) (size ∙ count) ∙ words-first rs
