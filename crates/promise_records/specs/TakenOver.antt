-- What a build answered with 0 is never refused at take-over, and keeps its records: for every message of at most 8,192 bytes, dictionary,
-- separator and setting.
use Rattle.std.proofs.Math.Path.{◌≡◌, refl, ap}
use Rattle.std.proofs.Common.{sym, ◌∙◌, arith, length-append, take_at}
use Rattle.std.proofs.Math.Bool.{Bool, true, false}
use mathlib.Core.List.{List, [], ◌∷◌, ◌++◌}
use Rattle.std.specs.Prelude.{ℕ, suc, ◌-◌, ◌/◌, ◌≤◌, length, replicate, eqb, Result, Ok, Err}
use Rattle.std.proofs.Math.Nat.{sub-zero}
use Rattle.std.proofs.Math.Dec.{ltb}
use borrow.Author.Tests.{ltb-false, le-ltb}
use Rattle.message_maps.specs.Rows.{message_words}
use Rattle.field_rules.specs.Choice.{pick}
use Rattle.field_rules.specs.Separator.{is_refused_separator}
use Rattle.field_rules.specs.Fields.{Fields, field, fields_from}
use Rattle.field_rules.specs.declared.Field.{Field}
use Rattle.build_integrity_rules.specs.Integrity.{integrity_of}
use Rattle.build_config.specs.declared.Config.{Config}
use Rattle.build_integrity_rules.specs.declared.Verified.{Verified}
use Rattle.dictionary_rules.specs.Check.{check_of, number_of_check}
use Rattle.dictionary_meaning_rules.specs.Meaning.{dictionary_of}
use Rattle.dictionary_layout_rules.specs.Tree.{Dictionary, knows, header_tags_lem, trailer_tags_lem, Choice, no_message, laid_out, layout_of}
use Rattle.build_records.specs.Records.{laid, records_of, between, record_words, stride, value_at}
use Rattle.build_records.proofs.WordLaws.{records_laid, laid-length}
use Rattle.build_records.specs.declared.Record.{Record}
use Rattle.message_lent_rules.specs.Meaning.{words_of, value_bytes_of}
use Rattle.message_lent_rules.proofs.FormedLaws.{Lends, layout_lends}
use Rattle.build_group_rules.specs.Reading.{accepted, layout_rules}
use Rattle.build_required_rules.specs.Checking.{layout_demands}
use Rattle.build_nesting_laws.specs.Entries.{layout_first}
use Rattle.build_answers.specs.declared.Answer.TheVariants.{Valid, InvalidSeparator, TooFewRecords, TooLong as MessageTooLong, BadDictionary}
use Rattle.build_parts.specs.Parts.{Reading, ended, refused, part_record}
use Rattle.build_parts.specs.Trailer.{Trailer, stopped, unstopped, crowded, trailer_from}
use Rattle.build_body_rules.specs.Body.{body_from}
use Rattle.build_body_rules.specs.Kinds.{body_of}
use Rattle.build_rules.specs.Beginning.{header_of, verified_records, with_checksum, started_by, start_of, msg_type_record}
use Rattle.build_rules.specs.Message.{Outcome, refusal, after_trailer, after_body, after_type, after_header, message_read}
use Rattle.builder.specs.Build.{BuildOutcome, words_with, untouched, shown, checked_read, build_of}
use Rattle.message_take_over.specs.Taking.{after, taking_over}
use Rattle.message_take_over.specs.declared.Taken.TheVariants.{Made}
use Rattle.message_take_over.specs.Derived.{derived, given}
use Rattle.message_take_over.proofs.TakenLaws.{given-derived, stand_taken}
use Rattle.message_read_laws.specs.PartReading.{Ended, at_checksum, at_end}
use Rattle.build_integrity_rules.proofs.VerifiedLaws.{verified-read}
use Rattle.message_read_laws.specs.Parted.{Takes, parts-take}
use Rattle.message_read_laws.specs.Refusals.{header_never, body_never}
use Rattle.build_integrity_rules.specs.declared.GarbledReason.{GarbledReason}

module _ (dictionary : Dictionary) (config : Config) (message : List ℕ) (short : length message ≤ 8192) where
  -- behind the trailer
  trailer_takes : (h b : List Record) (t : Trailer) → ((rs : List Record) → Ended t rs → Takes message (h ++ (b ++ rs))) → (after_trailer h b t).answer ≡ Valid
      → Takes message (after_trailer h b t).records
  unfolding after_trailer
  trailer_takes h b (stopped f rs) takes e = takes rs at_checksum
  trailer_takes h b (unstopped rs) takes e = takes rs at_end
  trailer_takes h b crowded takes e = let z : ◌≡◌ {A = ℕ} 0 1 = unfold refusal in cc in absurd (omega arith)

  module _ (v : Verified) (sound : integrity_of config.mode message ≡ Ok v) (f : Field) (rest : Fields) (room : ℕ) (h : List Record)
      (header : header_of (header_tags_lem dictionary) config message v ≡ ended f rest room h) where
    -- behind the body
    body_takes : (layout : _) (r : Reading)
        → body_from (body_of (layout_rules (accepted config (knows dictionary))) layout_demands (trailer_tags_lem dictionary) layout) (field f rest) (suc room) [] ≡ r
        → (after_body h v.checksum r).answer ≡ Valid → Takes message (after_body h v.checksum r).records
    unfolding after_body
    body_takes layout (refused answer) e a =
        absurd (body_never (layout_rules (accepted config (knows dictionary))) layout_demands (trailer_tags_lem dictionary) layout (suc (suc room)) (field f rest)
        (suc room) [] (unfold body_from in (e ∙ ap refused (unfold refusal in a))))
    body_takes layout (ended g more room₂ b) e a =
        trailer_takes h b (trailer_from (field g more) (suc room₂) (part_record 3 v.checksum ∷ []))
        (λ rs end-of-it. parts-take config.mode message v (verified-read config.mode message v sound) (layout_rules (accepted config (knows dictionary)))
        (layout_first (accepted config (knows dictionary))) layout_demands (header_tags_lem dictionary) (trailer_tags_lem dictionary) layout f g rest more room room₂ h b
        rs (trailer_from (field g more) (suc room₂) (part_record 3 v.checksum ∷ [])) short (unfold header_of verified_records in header) e refl end-of-it)
        a

    type-takes : (choice : Choice) → (after_type dictionary config f rest room h v.checksum choice).answer ≡ Valid
        → Takes message (after_type dictionary config f rest room h v.checksum choice).records
    unfolding after_type
    type-takes no_message a = let z : ◌≡◌ {A = ℕ} 0 1 = unfold refusal in cc in absurd (omega arith)
    type-takes (laid_out layout) a =
        body_takes layout (body_from (body_of (layout_rules (accepted config (knows dictionary))) layout_demands (trailer_tags_lem dictionary) layout) (field f rest)
        (suc room) []) refl a

  -- behind the header
  header_takes : (v : Verified) → integrity_of config.mode message ≡ Ok v → (r : Reading) → header_of (header_tags_lem dictionary) config message v ≡ r
      → (after_header dictionary config message (with_checksum v.checksum r)).answer ≡ Valid
      → Takes message (after_header dictionary config message (with_checksum v.checksum r)).records
  unfolding after_header with_checksum
  header_takes v sound (refused answer) e a =
      absurd (header_never (header_tags_lem dictionary) (fields_from config.mode message v.msg_type.next) 1021 (verified_records v)
      (unfold header_of in (e ∙ ap refused (unfold refusal in a))))
  header_takes v sound (ended f rest room h) e a = type-takes v sound f rest room h e (layout_of dictionary (value_at message (msg_type_record h))) a

  integrity_takes : (i : Result Verified GarbledReason) → integrity_of config.mode message ≡ i
      → (after_header dictionary config message (started_by (header_tags_lem dictionary) config message i)).answer ≡ Valid
      → Takes message (after_header dictionary config message (started_by (header_tags_lem dictionary) config message i)).records
  unfolding started_by
  integrity_takes (Err reason) e a = let z : ◌≡◌ {A = ℕ} 0 1 = unfold after_header refusal in cc in absurd (omega arith)
  integrity_takes (Ok v) e a = header_takes v e (header_of (header_tags_lem dictionary) config message v) refl a

  -- the records of a message that was read with 0 stand for a message within the limits
  pub build_takes : (message_read dictionary config message).answer ≡ Valid → Takes message (message_read dictionary config message).records
  unfolding message_read start_of
  build_takes a = integrity_takes (integrity_of config.mode message) refl a

-- the words that the build leaves hold its records
words_hold : (rs : List Record) → between 0 (length rs) (records_of (words_with rs)) ≡ rs
unfolding words_with between
words_hold rs = rw (sub-zero (length rs), records_laid rs (replicate (record_words - length (laid rs)) 0)) (take_at rs _ (length rs) refl)

words-many : (rs : List Record) → length rs ≤ length (words_with rs) / stride
unfolding words_with
words-many rs = omega (arith, length-append (laid rs) (replicate (record_words - length (laid rs)) 0), laid-length rs)

-- what is left is a message that has the records of the build
pub record TakenOver (message : List ℕ) (rs : List Record) (words values : List ℕ) : Type 0 where
  pub takes : Takes message rs
  pub made : taking_over (words_with rs) (length rs) message words values ≡ after Made (words_of takes.meant) (value_bytes_of takes.meant)
  pub lends : Lends (words_of takes.meant) (value_bytes_of takes.meant) takes.meant
  pub same : derived takes.meant ≡ given message rs

-- "what a build answered with 0 is never refused at take-over, and keeps its records"
pub build_taken : (dictionary : Dictionary) (config : Config) (message words values : List ℕ) → length message ≤ 8192 → length words ≡ message_words
    → length values ≡ 8192 → (message_read dictionary config message).answer ≡ Valid
    → TakenOver message (message_read dictionary config message).records words values
build_taken dictionary config message words values short whole store a =
    let rs = (message_read dictionary config message).records in
    let t = build_takes dictionary config message short a in
    record {
      takes = t;
      made =
          stand_taken (words_with rs) (length rs) message words values t.meant whole store (words-many rs) t.few (rw (words_hold rs) t.stand)
          t.within;
      lends = layout_lends t.meant t.within;
      same = sym (given-derived message t.meant rs t.stand);
    }

-- the same of what the build answers: none of "22, 23, 20, 30 to 37", and the words and the number of records that it leaves
pub record Shown (message : List ℕ) (config : Config) (dictionary : List ℕ) (lent : ℕ) (built : BuildOutcome) : Type 0 where
  pub separates : is_refused_separator config.mode.separator ≡ false
  pub enough : ltb lent 1024 ≡ false
  pub short : length message ≤ 8192
  pub checked : eqb (number_of_check (check_of dictionary)) 0 ≡ true
  pub valid : (message_read (dictionary_of dictionary) config message).answer ≡ Valid
  pub count : built.records ≡ length (message_read (dictionary_of dictionary) config message).records
  pub words : built.words ≡ words_with (message_read (dictionary_of dictionary) config message).records

module _ (message : List ℕ) (config : Config) (dictionary : List ℕ) (lent : ℕ) (before : List ℕ) where
  shown_valid : is_refused_separator config.mode.separator ≡ false → ltb lent 1024 ≡ false → length message ≤ 8192
      → (shown lent (checked_read message config dictionary (check_of dictionary))).answer ≡ Valid
      → Shown message config dictionary lent (shown lent (checked_read message config dictionary (check_of dictionary)))
  unfolding shown checked_read
  shown_valid separates enough short a = by_check (eqb (number_of_check (check_of dictionary)) 0) refl a
    where
      out : Bool → Outcome
      out b = pick b (message_read (dictionary_of dictionary) config message) (refusal (BadDictionary (check_of dictionary)) [])

      by_check : (b : Bool) → eqb (number_of_check (check_of dictionary)) 0 ≡ b → (out b).answer ≡ Valid
          → Shown message config dictionary lent (shown lent (out b))
      by_check true c a = record { separates = separates; enough = enough; short = short; checked = c; valid = a; count = refl; words = refl }
      by_check false c a = let z : ◌≡◌ {A = ℕ} 0 1 = unfold refusal in cc in absurd (omega arith)

  -- a build that answers 0, taken apart
  pub build_shown : (build_of message config dictionary lent before).answer ≡ Valid
      → Shown message config dictionary lent (build_of message config dictionary lent before)
  unfolding build_of
  build_shown a = by_tests (is_refused_separator config.mode.separator) (ltb lent 1024) (ltb 8192 (length message)) refl refl refl a
    where
      by_tests : (x y z : Bool) → is_refused_separator config.mode.separator ≡ x → ltb lent 1024 ≡ y → ltb 8192 (length message) ≡ z
          → (pick x (untouched InvalidSeparator before) (pick y (untouched TooFewRecords before)
          (pick z (untouched MessageTooLong before) (shown lent (checked_read message config dictionary (check_of dictionary)))))).answer ≡ Valid
          → Shown message config dictionary lent (pick x (untouched InvalidSeparator before)
          (pick y (untouched TooFewRecords before)
          (pick z (untouched MessageTooLong before) (shown lent (checked_read message config dictionary (check_of dictionary))))))
      by_tests true y z q r s a = let e : ◌≡◌ {A = ℕ} 0 1 = unfold untouched in cc in absurd (omega arith)
      by_tests false true z q r s a = let e : ◌≡◌ {A = ℕ} 0 1 = unfold untouched in cc in absurd (omega arith)
      by_tests false false true q r s a = let e : ◌≡◌ {A = ℕ} 0 1 = unfold untouched in cc in absurd (omega arith)
      by_tests false false false q r s a = shown_valid q r (ltb-false 8192 (length message) s) a

  -- and put together again: past its checks the build shows what is read
  pub shown_build : is_refused_separator config.mode.separator ≡ false → ltb lent 1024 ≡ false → length message ≤ 8192
      → eqb (number_of_check (check_of dictionary)) 0 ≡ true
      → build_of message config dictionary lent before ≡ shown lent (message_read (dictionary_of dictionary) config message)
  unfolding build_of checked_read
  shown_build separates enough short checked = rw (separates, enough, le-ltb 8192 (length message) short, checked) refl

-- for every message, dictionary, separator, setting and number of lent records: what the build leaves is taken over
pub build_of-taken : (message : List ℕ) (config : Config) (dictionary : List ℕ) (lent : ℕ) (before words values : List ℕ) → length words ≡ message_words
    → length values ≡ 8192 → (a : (build_of message config dictionary lent before).answer ≡ Valid)
    → let built = build_of message config dictionary lent before in
    let rs = (message_read (dictionary_of dictionary) config message).records in
    (t : TakenOver message rs words values)
    × (taking_over built.words built.records message words values ≡ after Made (words_of t.takes.meant) (value_bytes_of t.takes.meant))
build_of-taken message config dictionary lent before words values whole store a =
    let s = build_shown message config dictionary lent before a in
    let t = build_taken (dictionary_of dictionary) config message words values s.short whole store s.valid in
    (t, rw (s.words, s.count) t.made)
