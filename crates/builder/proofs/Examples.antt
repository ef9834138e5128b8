-- P1 to P11 of the rules, one table under one statement: what a build answers with the dictionary's bytes, whatever words are lent.
use Rattle.std.specs.Prelude.{◌≡◌, List, [], ◌∷◌, map, Bool, true, ℕ, length, leb}
use Rattle.std.proofs.Math.Path.{refl, ap}
use Rattle.std.proofs.Common.{◌∙◌, leb-true, arith}
use Rattle.std.proofs.Math.Bool.{false}
use Rattle.build_config.specs.Settings.{validating}
use Rattle.field_rules.specs.Number.{is_digit}
use Rattle.field_rules.specs.Separator.{is_refused_separator}
use Rattle.field_rules.specs.CheckSum.{sum_of, checksum_digits}
use Rattle.field_rules.specs.Decimal.{decimal_within}
use Rattle.dictionary_layout_rules.specs.Tree.{Dictionary}
use Rattle.build_answers.specs.Answer.{number_of, values_of}
use Rattle.dictionary_rules.specs.Check.{check_of}
use Rattle.dictionary_rules.proofs.Examples.{examples, examples_pass}
use Rattle.dictionary_rules.specs.Record.{low_first, zero_filled, record_body_length, with_tag as tag_bytes, with_mark, known_tag, opens_component, opens_message, record_body as body_bytes, with_body, with_kind, record_from, record_at}
use Rattle.dictionary_rules.specs.Record.{field_item_lem as field_body, component_item_lem as component_body, opens_group as group_body}
use Rattle.dictionary_rules.specs.Records.{records_from, records_within, followed_by as records_then}
use Rattle.dictionary_meaning_rules.specs.Meaning.{item_before, no_items, body_of, size_of, declarations_in, declarations_of, nodes_of, expanded, defined_by, defined_after, bytes_within, msg_type_bytes, message_in, messages_from, tag_in, tags_from, meaning_of, dictionary_of}
use Rattle.builder.specs.Build.{BuildOutcome, words_with, shown, checked_read, build_of}
use Rattle.builder.specs.BuildLaws.{check-reads}
use Rattle.builder.proofs.ReadingLaws.{build_reads}
use Rattle.build_rules.specs.Message.{message_read}
use Rattle.build_rules.specs.Examples.{dictionary, Row, table, Answered, answered, all_read}

abbrev first_test : List Bool → Bool
first_test [] = true
first_test (b ∷ bs) = b

abbrev later_tests : List Bool → List Bool
later_tests [] = []
later_tests (b ∷ bs) = bs

-- the same dictionary in bytes
means : dictionary_of examples ≡ dictionary
unfolding dictionary_of meaning_of tags_from tag_in messages_from message_in msg_type_bytes bytes_within defined_after defined_by expanded nodes_of declarations_of
    declarations_in size_of body_of no_items item_before records_from records_within records_then record_at record_from with_kind with_body body_bytes record_body_length
    known_tag opens_component opens_message field_body component_body group_body tag_bytes with_mark zero_filled low_first
means = refl

all_short : map (λ (row : Row). leb (length row.1) 8192) table ≡ map (λ (row : Row). true) table
unfolding decimal_within checksum_digits sum_of
all_short = refl

module _ (words : List ℕ) where
  -- what a build answers: the number, the values, how many records are shown, over how many of the lent ones is written, and the words
  abbrev pub answers : BuildOutcome → ℕ × (ℕ × ℕ) × ℕ × ℕ × List ℕ
  answers b = (number_of b.answer, values_of b.answer, b.records, b.written, b.words)

  abbrev pub expected : Answered → ℕ × (ℕ × ℕ) × ℕ × ℕ × List ℕ
  expected t = (t.0, t.1, length t.2, 1024, words_with t.2)

  -- a build by the dictionary's bytes reads by the tree that they mean
  built-row : (row : Row) → leb (length row.1) 8192 ≡ true → answers (build_of row.1 (validating row.0) examples 1024 words) ≡ expected (answered (message_read dictionary (validating row.0) row.1))
  unfolding shown
  built-row row short =
      let reads : checked_read row.1 (validating row.0) examples (check_of examples) ≡ message_read dictionary (validating row.0) row.1 = check-reads row.1 (validating row.0) examples (check_of examples) examples_pass ∙ ap (λ (d : Dictionary). message_read d (validating row.0) row.1) means in
      ap answers (build_reads row.1 (validating row.0) examples 1024 words sound (omega arith) (leb-true (length row.1) 8192 short) ∙ ap (shown 1024) reads)
    where
      sound : is_refused_separator 1 ≡ false
      sound = unfold is_refused_separator is_digit in refl

  built_rows : (rows : List Row) → map (λ (row : Row). leb (length row.1) 8192) rows ≡ map (λ (row : Row). true) rows → map (λ (row : Row). answers (build_of row.1 (validating row.0) examples 1024 words)) rows ≡ map expected (map (λ (row : Row). answered (message_read dictionary (validating row.0) row.1)) rows)
  built_rows [] short = refl
  built_rows (row ∷ rows) short = rw (built-row row (ap first_test short), built_rows rows (ap later_tests short))

  -- P1 to P11, through the whole build
  pub all_hold : map (λ (row : Row). answers (build_of row.1 (validating row.0) examples 1024 words)) table ≡ map (λ (row : Row). expected (row.2, row.3, row.4)) table
  all_hold = built_rows table all_short ∙ ap (map expected) all_read.0
