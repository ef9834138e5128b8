-- One law for each way of the functions that read a message whole: where the header was refused, where the body was, where it may not be followed or
-- may; a dictionary that is refused; and each answer of the build before it reads.
use Rattle.std.specs.Prelude.{◌≡◌, Bool, List, [], ◌++◌, ℕ, ◌-◌, ◌*◌, ◌≤◌, ◌<◌, length, eqb, leb, ltb}
use Rattle.std.proofs.Math.Path.{refl}
use Rattle.std.proofs.Common.{sym, ap, ◌∙◌, arith, length-take-le, Option, None, Result, Ok, Err}
use Rattle.std.proofs.Math.Bool.{true, false}
use Rattle.std.proofs.Math.ListN.{take, replicate}
use Rattle.std.proofs.Math.Seq.{take_at}
use borrow.Author.Tests.{eq-eqb, ne_eqb, le-ltb, lt-ltb, ltb-false}
use Rattle.dictionary_chains.specs.Chain.{index_words}
use Rattle.build_records.specs.Records.{record_words, record_room, stride}
use Rattle.build_records.specs.declared.Record.{Record}
use Rattle.field_rules.specs.Choice.{pick}
use Rattle.field_rules.specs.Separator.{is_refused_separator}
use Rattle.field_rules.specs.Fields.{fields_from}
use Rattle.field_rules.specs.declared.Field.{Field}
use Rattle.build_config.specs.declared.Config.{Config}
use Rattle.dictionary_rules.specs.Check.{outcome, check_of, prepared_of, store_of, number_of_check}
use Rattle.dictionary_rules.specs.declared.Checked.{Checked}
use Rattle.dictionary_layout_rules.specs.Tree.{holds_tag}
use Rattle.dictionary_meaning_rules.specs.Meaning.{dictionary_of}
use Rattle.build_answers.specs.declared.Answer.{Answer}
use Rattle.build_answers.specs.declared.Answer.TheVariants.{Valid, InvalidField, TooLong, InvalidSeparator, TooFewRecords, BadDictionary}
use Rattle.build_answers.specs.Answer.{number_of}
use Rattle.build_parts.specs.declared.Progress.{Progress}
use Rattle.build_parts.specs.Parts.{Reading, ended, part_of, part_told}
use Rattle.build_body_rules.specs.Body.{must_follow}
use Rattle.builder.specs.declared.Headed.{Headed}
use Rattle.builder.specs.declared.Tags.{Tags}
use Rattle.build_rules.specs.Beginning.{Start, start_of}
use Rattle.build_rules.specs.Message.{Outcome, shown_with, refusal, after_body, message_read}
use Rattle.builder.specs.Reading.{start_told, body_told, tags_kept, headers_by, trailers_by, Prepared, shown_count, read_told}
use Rattle.builder.specs.declared.Read.{Read}
use Rattle.builder.specs.declared.Built.{Built}
use Rattle.builder.specs.Build.{untouched, shown, shown_words, judged, checked_read, first_refusal, build_of, built_told}
use Rattle.builder.specs.Through.{after_start, message_by, message_through}
use Rattle.dictionary_prepared.proofs.MemoryLaws.{zero_passes}
use Rattle.builder.specs.BuildLaws.{blanked, part_count, check-refuses, check-reads}
use Rattle.builder.specs.Finishing.{part-empty}
use Rattle.builder.proofs.TagLaws.{through_tags}

-- what is shown with a refusal, as a list and as a count
shown-part : (answer : Answer) (header : ℕ) (words : List ℕ) → part_of 0 (shown_count answer header) words ≡ shown_with answer (part_of 0 header words)
unfolding shown_count shown_with
shown-part answer header words = go (leb 1 (number_of answer)) (leb (number_of answer) 4)
  where
    go : (b c : Bool) → part_of 0 (pick b (pick c header 0) 0) words ≡ pick b (pick c (part_of 0 header words) []) []
    go true true = refl
    go true false = part-empty 0 words
    go false c = part-empty 0 words

pub shown-few : (answer : Answer) (header n : ℕ) → n ≡ shown_count answer header → n ≤ header
unfolding shown_count
shown-few answer header n e = rw e (go (leb 1 (number_of answer)) (leb (number_of answer) 4))
  where
    go : (b c : Bool) → pick b (pick c header 0) 0 ≤ header
    go true true = omega arith
    go true false = omega arith
    go false c = omega arith

-- a refusal, with what is shown of the header
pub refused-told : (answer : Answer) (header n : ℕ) → n ≡ shown_count answer header → (words : List ℕ) →
    read_told (record { answer = answer; stop = None; records = n }) words ≡ refusal answer (part_of 0 header words)
unfolding read_told refusal
refused-told answer header n e words = rw (e, shown-part answer header words)

module _ (records index tables : List ℕ) (config : Config) (message : List ℕ) (tags : Tags) where
  -- what a message is read as, and what it is from a start on, by the trailer's tags
  abbrev whole : Outcome
  whole = message_through records index tables config message

  abbrev trailers : List ℕ
  trailers = trailers_by records index tables tags

  abbrev from : List ℕ → Start → Outcome
  from = after_start records index tables config message

  module _ (words : List ℕ) (kept : tags ≡ tags_kept tables) (begun : Result Headed Answer)
      (told : start_told config.mode message begun words ≡ start_of (headers_by records index tables tags) config message) where
    begins : whole ≡ from trailers (start_told config.mode message begun words)
    unfolding message_by
    begins = through_tags tables tags kept records index config message ∙ rw told

    -- integrity or the header was refused
    pub begun-refused : (answer : Answer) → begun ≡ Err answer → (after : List ℕ) → refusal answer (part_of 0 0 after) ≡ whole
    begun-refused answer e after = sym (begins ∙ refuses)
      where
        refuses : from trailers (start_told config.mode message begun words) ≡ refusal answer (part_of 0 0 after)
        refuses = unfold start_told after_start in rw (e, part-empty 0 after)

    module _ (h : Headed) (e : begun ≡ Ok h) (r : Result (Field × Progress) Answer) (read : List ℕ)
        (goes : (following : List ℕ) → body_told config.mode message h r read following
        ≡ from following (start_told config.mode message (Ok h) words)) where
      goes_on : whole ≡ body_told config.mode message h r read trailers
      goes_on = begins ∙ ap (λ (b : Result Headed Answer). from trailers (start_told config.mode message b words)) e ∙ sym (goes trailers)

      -- the header's records
      abbrev header : List Record
      header = part_of 0 h.progress.records read

      -- MsgType or the body was refused
      pub body_refused : (answer : Answer) → r ≡ Err answer → refusal answer header ≡ whole
      body_refused answer q = sym (goes_on ∙ refuses)
        where
          refuses : body_told config.mode message h r read trailers ≡ refusal answer header
          refuses = unfold body_told part_told must_follow after_body in rw q

      -- the field that ended the body may not follow it, or it may
      module _ (f : Field) (p : Progress) (at : r ≡ Ok (f, p)) where
        pub body_unfollowed : holds_tag f.tag trailers ≡ false → refusal (InvalidField f.tag) header ≡ whole
        body_unfollowed q = sym (goes_on ∙ refuses)
          where
            refuses : body_told config.mode message h r read trailers ≡ refusal (InvalidField f.tag) header
            refuses = unfold body_told part_told must_follow after_body in rw (at, q)

        abbrev body : Reading
        body = ended f (fields_from config.mode message f.next) p.room (part_of h.progress.records p.records read)

        pub body-followed : holds_tag f.tag trailers ≡ true → after_body header h.checksum body ≡ whole
        body-followed q = sym (goes_on ∙ closes)
          where
            closes : body_told config.mode message h r read trailers ≡ after_body header h.checksum body
            closes = unfold body_told part_told must_follow in rw (at, q)

module _ (message : List ℕ) (config : Config) (d : List ℕ) (checked : Checked) (is : checked ≡ check_of d) where
  pub refused-dictionary : (number_of_check checked ≡ 0 → ⊥) → (words : List ℕ) →
      refusal (BadDictionary checked) (part_of 0 0 words) ≡ checked_read message config d (check_of d)
  refused-dictionary n words = ap (refusal (BadDictionary checked)) (part-empty 0 words) ∙ sym (rw (← is) (check-refuses message config d checked n))

  pub passing_dictionary : number_of_check checked ≡ 0 → message_read (dictionary_of d) config message ≡ checked_read message config d (check_of d)
  passing_dictionary z = sym (rw (← is) (check-reads message config d checked z))

-- the index that a check left which passed
pub prepared_by : (d : List ℕ) (checked : Checked) → checked ≡ check_of d → number_of_check checked ≡ 0 → (before index : List ℕ) → length before ≡ index_words → outcome checked index ≡ prepared_of d before → Prepared d index
unfolding store_of
prepared_by d checked is z before index size left = record { passes = sym is ∙ zero_passes checked z; before = before; size = size; made = ap store_of left }

module _ (message : List ℕ) (config : Config) (lent : ℕ) (words : List ℕ) (outcome : Outcome) where
  by_tests : (x y z : Bool) → pick x InvalidSeparator (pick y TooFewRecords (pick z TooLong Valid)) ≡ first_refusal message config lent →
      pick x (untouched InvalidSeparator words) (pick y (untouched TooFewRecords words) (pick z (untouched TooLong words) (shown lent outcome))) ≡ pick (eqb (number_of (pick x InvalidSeparator (pick y TooFewRecords (pick z TooLong Valid)))) 0) (shown lent outcome) (untouched (pick x InvalidSeparator (pick y TooFewRecords (pick z TooLong Valid))) words)
  unfolding number_of
  by_tests true y z e = refl
  by_tests false true z e = refl
  by_tests false false true e = refl
  by_tests false false false e = refl

  judged_by : judged message config lent words outcome ≡ pick (eqb (number_of (first_refusal message config lent)) 0) (shown lent outcome) (untouched (first_refusal message config lent) words)
  judged_by = unfold first_refusal in by_tests (is_refused_separator config.mode.separator) (ltb lent 1024) (ltb 8192 (length message)) (unfold first_refusal in refl)

  module _ (first : Answer) (is : first ≡ first_refusal message config lent) (n : ℕ) (number : n ≡ number_of first) where
    pub judged-refuses : (n ≡ 0 → ⊥) → judged message config lent words outcome ≡ untouched first words
    judged-refuses h = judged_by ∙ rw (← is, ne_eqb (number_of first) 0 (λ z. h (number ∙ z)))

    pub judged-reads : n ≡ 0 → judged message config lent words outcome ≡ shown lent outcome
    judged-reads h = judged_by ∙ rw (← is, eq-eqb (number_of first) 0 (sym number ∙ h))

-- what is refused first, test by test
module _ (message : List ℕ) (config : Config) (lent : ℕ) where
  pub first-separator : is_refused_separator config.mode.separator ≡ true → InvalidSeparator ≡ first_refusal message config lent
  unfolding first_refusal
  first-separator e = rw e

  module _ (good : is_refused_separator config.mode.separator ≡ false) where
    pub first-few : lent < 1024 → TooFewRecords ≡ first_refusal message config lent
    unfolding first_refusal
    first-few h = rw (good, lt-ltb lent 1024 h)

    module _ (enough : 1024 ≤ lent) where
      pub first_long : 8192 < length message → TooLong ≡ first_refusal message config lent
      unfolding first_refusal
      first_long h = rw (good, le-ltb lent 1024 enough, lt-ltb 8192 (length message) h)

      pub first-none : length message ≤ 8192 → Valid ≡ first_refusal message config lent
      unfolding first_refusal
      first-none h = rw (good, le-ltb lent 1024 enough, le-ltb 8192 (length message) h)

pub build_reads : (message : List ℕ) (config : Config) (d : List ℕ) (lent : ℕ) (words : List ℕ) → is_refused_separator config.mode.separator ≡ false → 1024 ≤ lent → length message ≤ 8192 → build_of message config d lent words ≡ shown lent (checked_read message config d (check_of d))
unfolding build_of number_of
build_reads message config d lent words good enough h =
    judged-reads message config lent words (checked_read message config d (check_of d)) Valid (first-none message config lent good enough h) 0 refl refl

-- what is read is not longer than a message may be
pub reads_short : (message : List ℕ) (config : Config) (lent : ℕ) (first : Answer) → first ≡ first_refusal message config lent → number_of first ≡ 0 → length message ≤ 8192
unfolding first_refusal number_of
reads_short message config lent first is z = go (is_refused_separator config.mode.separator) (ltb lent 1024) (ltb 8192 (length message)) refl (sym (ap number_of is) ∙ z)
  where
    go : (x y long : Bool) → ltb 8192 (length message) ≡ long → number_of (pick x InvalidSeparator (pick y TooFewRecords (pick long TooLong Valid))) ≡ 0 → length message ≤ 8192
    go true y long e q = absurd (omega arith)
    go false true long e q = absurd (omega arith)
    go false false true e q = absurd (omega arith)
    go false false false e q = ltb-false 8192 (length message) e

-- and what is written over is not nothing
pub reads-lent : (message : List ℕ) (config : Config) (lent : ℕ) (first : Answer) → first ≡ first_refusal message config lent → number_of first ≡ 0 → 1024 ≤ lent
unfolding first_refusal number_of
reads-lent message config lent first is z = go (is_refused_separator config.mode.separator) (ltb lent 1024) (ltb 8192 (length message)) refl (sym (ap number_of is) ∙ z)
  where
    go : (x few y : Bool) → ltb lent 1024 ≡ few → number_of (pick x InvalidSeparator (pick few TooFewRecords (pick y TooLong Valid))) ≡ 0 → 1024 ≤ lent
    go true few y e q = absurd (omega arith)
    go false true y e q = absurd (omega arith)
    go false false y e q = ltb-false lent 1024 e

-- the records that were read, and blank ones behind them
pub shows-read : (lent : ℕ) (answer : Answer) (stop : Option Field) (n : ℕ) (words : List ℕ) → length words ≡ record_words → n ≤ record_room → (out : Outcome) → read_told (record { answer = answer; stop = stop; records = n }) words ≡ out → built_told (record { answer = answer; stop = stop; records = n; written = lent }) (take (stride * n) words ++ replicate (record_words - stride * n) 0) ≡ shown lent out
unfolding read_told built_told shown
shows-read lent answer stop n words size few out e = rw (← e, part_count words n size few, blanked words n size few)

-- ===== words that are left as they were behind the records =====

module _ (b : Built) (words : List ℕ) where
  -- nothing is written, or all that is lent
  pub stays-shown : b.written ≡ 0 → shown_words b words ≡ words
  unfolding shown_words
  stays-shown e = rw (eq-eqb b.written 0 e)

  pub blanks-shown : (b.written ≡ 0 → ⊥) → shown_words b words ≡ take (stride * b.records) words ++ replicate (record_words - stride * b.records) 0
  unfolding shown_words
  blanks-shown n = rw (ne_eqb b.written 0 n)

  -- nothing was read, or what was read is shown
  pub told-untouched : (answer : Answer) → b ≡ record { answer = answer; stop = None; records = 0; written = 0 } → built_told b (shown_words b words) ≡ untouched answer words
  unfolding built_told shown_words untouched
  told-untouched answer e = rw e

  pub told-read : (read : Read) (lent : ℕ) → b ≡ record { answer = read.answer; stop = read.stop; records = read.records; written = lent } → 1024 ≤ lent → read.records ≤ record_room → length words ≡ record_words → built_told b (shown_words b words) ≡ shown lent (read_told read words)
  told-read read lent e many few size =
      ap (built_told b) (blanks-shown (λ none. absurd (omega (arith, ap (λ (c : Built). c.written) e))))
      ∙ ap (λ (c : Built). built_told c (take (stride * c.records) words ++ replicate (record_words - stride * c.records) 0)) e
      ∙ shows-read lent read.answer read.stop read.records words size few _ refl

  -- the records that are shown stand in them already
  pub shown-front : b.records ≤ record_room → length words ≡ record_words → take (stride * b.records) (shown_words b words) ≡ take (stride * b.records) words
  unfolding shown_words
  shown-front few size = go (eqb b.written 0)
    where
      go : (none : Bool) → take (stride * b.records) (pick none words (take (stride * b.records) words ++ replicate (record_words - stride * b.records) 0)) ≡ take (stride * b.records) words
      go true = refl
      go false = take_at (take (stride * b.records) words) (replicate (record_words - stride * b.records) 0) (stride * b.records) (length-take-le (stride * b.records) words (omega arith))
