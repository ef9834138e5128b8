-- "Two results that satisfy it are shown equal": one schema over a contract as the prover reads it, and each public operation under it.
-- The contract is the code's own, so an `ensures` that said less would leave its operation here without a proof.
use mathlib.Core.Path.{◌≡◌, ap}
use Prim.Native.Nat.{ℕ}
use borrow.Fn.Kinds.{Out}
use Rattle.promise_no_freedom.proofs.Schema.{same, NoFreedom}
use Rattle.builder.specs.Build.{BuildOutcome, built_told}
use Rattle.builder.specs.declared.Built.{Built}
use Rattle.dictionary_prepared.specs.Memory.{preparing_of, copy_of, memory_of}
use Rattle.field_tagvalue.proofs.find.Reads as of-field-tagvalue-find
use Rattle.field_tagvalue.proofs.find.Kinds as in-field-tagvalue-find
use Rattle.field_numbers.proofs.number_of.Reads as of-field-numbers-number-of
use Rattle.field_numbers.proofs.number_of.Kinds as in-field-numbers-number-of
use Rattle.field_tagvalue.proofs.tag_of.Reads as of-field-tagvalue-tag-of
use Rattle.field_tagvalue.proofs.tag_of.Kinds as in-field-tagvalue-tag-of
use Rattle.field_numbers.proofs.checksum_of.Reads as of-field-numbers-checksum-of
use Rattle.field_numbers.proofs.checksum_of.Kinds as in-field-numbers-checksum-of
use Rattle.field_numbers.proofs.sum_of.Reads as of-field-numbers-sum-of
use Rattle.field_numbers.proofs.sum_of.Kinds as in-field-numbers-sum-of
use Rattle.field_numbers.proofs.checksum_digits.Reads as of-field-numbers-checksum-digits
use Rattle.field_numbers.proofs.checksum_digits.Kinds as in-field-numbers-checksum-digits
use Rattle.field_numbers.proofs.digit_count.Reads as of-field-numbers-digit-count
use Rattle.field_numbers.proofs.digit_count.Kinds as in-field-numbers-digit-count
use Rattle.field_numbers.proofs.wide.Reads as of-field-numbers-wide
use Rattle.field_numbers.proofs.wide.Kinds as in-field-numbers-wide
use Rattle.field_numbers.proofs.write_number.Reads as of-field-numbers-write-number
use Rattle.field_numbers.proofs.write_number.Kinds as in-field-numbers-write-number
use Rattle.field_tagvalue.proofs.next_field.Reads as of-field-tagvalue-next-field
use Rattle.field_tagvalue.proofs.next_field.Kinds as in-field-tagvalue-next-field
use Rattle.field_tagvalue.proofs.value_of.Reads as of-field-tagvalue-value-of
use Rattle.field_tagvalue.proofs.value_of.Kinds as in-field-tagvalue-value-of
use Rattle.field_tagvalue.proofs.is_refused_separator.Reads as of-field-tagvalue-is-refused-separator
use Rattle.field_tagvalue.proofs.is_refused_separator.Kinds as in-field-tagvalue-is-refused-separator
use Rattle.field_tagvalue.proofs.separated_by.Reads as of-field-tagvalue-separated-by
use Rattle.field_tagvalue.proofs.separated_by.Kinds as in-field-tagvalue-separated-by
use Rattle.field_tagvalue.proofs.start_at.Reads as of-field-tagvalue-start-at
use Rattle.field_tagvalue.proofs.start_at.Kinds as in-field-tagvalue-start-at
use Rattle.build_config.proofs.config_of.Reads as of-build-config-config-of
use Rattle.build_config.proofs.config_of.Kinds as in-build-config-config-of
use Rattle.build_integrity.proofs.verify.Reads as of-build-integrity-verify
use Rattle.build_integrity.proofs.verify.Kinds as in-build-integrity-verify
use Rattle.dictionary_check.proofs.check.Reads as of-dictionary-check-check
use Rattle.dictionary_check.proofs.check.Kinds as in-dictionary-check-check
use Rattle.dictionary_check.proofs.number_of.Reads as of-dictionary-check-number-of
use Rattle.dictionary_check.proofs.number_of.Kinds as in-dictionary-check-number-of
use Rattle.dictionary_check.proofs.value_of.Reads as of-dictionary-check-value-of
use Rattle.dictionary_check.proofs.value_of.Kinds as in-dictionary-check-value-of
use Rattle.dictionary_prepared.proofs.number_of.Reads as of-dictionary-prepared-number-of
use Rattle.dictionary_prepared.proofs.number_of.Kinds as in-dictionary-prepared-number-of
use Rattle.dictionary_prepared.proofs.value_of.Reads as of-dictionary-prepared-value-of
use Rattle.dictionary_prepared.proofs.value_of.Kinds as in-dictionary-prepared-value-of
use Rattle.dictionary_prepared.proofs.is_prepared.Reads as of-dictionary-prepared-is-prepared
use Rattle.dictionary_prepared.proofs.is_prepared.Kinds as in-dictionary-prepared-is-prepared
use Rattle.dictionary_prepared.proofs.prepare.Reads as of-dictionary-prepared-prepare
use Rattle.dictionary_prepared.proofs.prepare.Kinds as in-dictionary-prepared-prepare
use Rattle.builder.proofs.build.Reads as of-builder-build
use Rattle.builder.proofs.build.Kinds as in-builder-build
use Rattle.builder.proofs.build_prepared.Reads as of-builder-build-prepared
use Rattle.builder.proofs.build_prepared.Kinds as in-builder-build-prepared
use Rattle.build_answers.proofs.number_of.Reads as of-build-answers-number-of
use Rattle.build_answers.proofs.number_of.Kinds as in-build-answers-number-of
use Rattle.build_answers.proofs.values_of.Reads as of-build-answers-values-of
use Rattle.build_answers.proofs.values_of.Kinds as in-build-answers-values-of
use Rattle.message.proofs.empty.Reads as of-message-empty
use Rattle.message.proofs.empty.Kinds as in-message-empty
use Rattle.message.proofs.new.Reads as of-message-new
use Rattle.message.proofs.new.Kinds as in-message-new
use Rattle.message.proofs.store.Reads as of-message-store
use Rattle.message.proofs.store.Kinds as in-message-store
use Rattle.message.proofs.remove.Reads as of-message-remove
use Rattle.message.proofs.remove.Kinds as in-message-remove
use Rattle.message_look_ups.proofs.part_map.Reads as of-message-look-ups-part-map
use Rattle.message_look_ups.proofs.part_map.Kinds as in-message-look-ups-part-map
use Rattle.message_look_ups.proofs.field_in.Reads as of-message-look-ups-field-in
use Rattle.message_look_ups.proofs.field_in.Kinds as in-message-look-ups-field-in
use Rattle.message_look_ups.proofs.entry_in.Reads as of-message-look-ups-entry-in
use Rattle.message_look_ups.proofs.entry_in.Kinds as in-message-look-ups-entry-in
use Rattle.message_runs.proofs.empty.Reads as of-message-runs-empty
use Rattle.message_runs.proofs.empty.Kinds as in-message-runs-empty
use Rattle.message_runs.proofs.add_entry.Reads as of-message-runs-add-entry
use Rattle.message_runs.proofs.add_entry.Kinds as in-message-runs-add-entry
use Rattle.message_runs.proofs.store_last.Reads as of-message-runs-store-last
use Rattle.message_runs.proofs.store_last.Kinds as in-message-runs-store-last
use Rattle.message_runs.proofs.hang_last.Reads as of-message-runs-hang-last
use Rattle.message_runs.proofs.hang_last.Kinds as in-message-runs-hang-last
use Rattle.message_runs.proofs.hang.Reads as of-message-runs-hang
use Rattle.message_runs.proofs.hang.Kinds as in-message-runs-hang
use Rattle.message_take_over.proofs.take_over.Reads as of-message-take-over-take-over
use Rattle.message_take_over.proofs.take_over.Kinds as in-message-take-over-take-over
use Rattle.message_answers.proofs.change_number.Reads as of-message-answers-change-number
use Rattle.message_answers.proofs.change_number.Kinds as in-message-answers-change-number
use Rattle.message_answers.proofs.taken_number.Reads as of-message-answers-taken-number
use Rattle.message_answers.proofs.taken_number.Kinds as in-message-answers-taken-number
use Rattle.message_answers.proofs.encoding_number.Reads as of-message-answers-encoding-number
use Rattle.message_answers.proofs.encoding_number.Kinds as in-message-answers-encoding-number
use Rattle.message_answers.proofs.encoding_length.Reads as of-message-answers-encoding-length
use Rattle.message_answers.proofs.encoding_length.Kinds as in-message-answers-encoding-length
use Rattle.encoder.proofs.encode.Reads as of-encoder-encode
use Rattle.encoder.proofs.encode.Kinds as in-encoder-encode
use Rattle.frame_parser.proofs.push.Reads as of-frame-parser-push
use Rattle.frame_parser.proofs.push.Kinds as in-frame-parser-push
use Rattle.frame_parser.proofs.end.Reads as of-frame-parser-end
use Rattle.frame_parser.proofs.end.Kinds as in-frame-parser-end
use Rattle.frame_parser.proofs.take.Reads as of-frame-parser-take
use Rattle.frame_parser.proofs.take.Kinds as in-frame-parser-take
use Rattle.frame_parser.proofs.reset.Reads as of-frame-parser-reset
use Rattle.frame_parser.proofs.reset.Kinds as in-frame-parser-reset
use Rattle.frame_answers.proofs.parser_number.Reads as of-frame-answers-parser-number
use Rattle.frame_answers.proofs.parser_number.Kinds as in-frame-answers-parser-number
use Rattle.frame_answers.proofs.parser_length.Reads as of-frame-answers-parser-length
use Rattle.frame_answers.proofs.parser_length.Kinds as in-frame-answers-parser-length
use Rattle.frame_verdict.proofs.verdict_of.Reads as of-frame-verdict-verdict-of
use Rattle.frame_verdict.proofs.verdict_of.Kinds as in-frame-verdict-verdict-of
use Rattle.frame_hunter.proofs.push.Reads as of-frame-hunter-push
use Rattle.frame_hunter.proofs.push.Kinds as in-frame-hunter-push
use Rattle.frame_hunter.proofs.end.Reads as of-frame-hunter-end
use Rattle.frame_hunter.proofs.end.Kinds as in-frame-hunter-end
use Rattle.frame_hunter.proofs.take.Reads as of-frame-hunter-take
use Rattle.frame_hunter.proofs.take.Kinds as in-frame-hunter-take
use Rattle.frame_hunter.proofs.reset.Reads as of-frame-hunter-reset
use Rattle.frame_hunter.proofs.reset.Kinds as in-frame-hunter-reset
use Rattle.frame_answers.proofs.hunter_number.Reads as of-frame-answers-hunter-number
use Rattle.frame_answers.proofs.hunter_number.Kinds as in-frame-answers-hunter-number

-- the code's part of a build's outcome
abbrev built_of : BuildOutcome → Built
built_of o = record { answer = o.answer; stop = o.stop; records = o.records; written = o.written }

pub field_tagvalue_find : NoFreedom 1 in-field-tagvalue-find.ps in-field-tagvalue-find.r of-field-tagvalue-find.Post (λ κs x y left other. x ≡ y)
field_tagvalue_find κs a x y left other p q = same p q

pub field_numbers_number_of : NoFreedom 1 in-field-numbers-number-of.ps in-field-numbers-number-of.r of-field-numbers-number-of.Post
    (λ κs x y left other. x ≡ y)
field_numbers_number_of κs a x y left other p q = same p q

pub field_tagvalue_tag_of : NoFreedom 1 in-field-tagvalue-tag-of.ps in-field-tagvalue-tag-of.r of-field-tagvalue-tag-of.Post (λ κs x y left other. x ≡ y)
field_tagvalue_tag_of κs a x y left other p q = same p q

pub field_numbers_checksum_of : NoFreedom 1 in-field-numbers-checksum-of.ps in-field-numbers-checksum-of.r of-field-numbers-checksum-of.Post
    (λ κs x y left other. x ≡ y)
field_numbers_checksum_of κs a x y left other p q = same p q

pub field_numbers_sum_of : NoFreedom 1 in-field-numbers-sum-of.ps in-field-numbers-sum-of.r of-field-numbers-sum-of.Post (λ κs x y left other. x ≡ y)
field_numbers_sum_of κs a x y left other p q = same p q

pub field_numbers_checksum_digits : NoFreedom 0 in-field-numbers-checksum-digits.ps in-field-numbers-checksum-digits.r of-field-numbers-checksum-digits.Post
    (λ κs x y left other. x ≡ y)
field_numbers_checksum_digits κs a x y left other p q = same p q

pub field_numbers_digit_count : NoFreedom 0 in-field-numbers-digit-count.ps in-field-numbers-digit-count.r of-field-numbers-digit-count.Post
    (λ κs x y left other. x ≡ y)
field_numbers_digit_count κs a x y left other p q = same p q

pub field_numbers_wide : NoFreedom 0 in-field-numbers-wide.ps in-field-numbers-wide.r of-field-numbers-wide.Post (λ κs x y left other. x ≡ y)
field_numbers_wide κs a x y left other p q = same p q

pub field_numbers_write_number : NoFreedom 1 in-field-numbers-write-number.ps in-field-numbers-write-number.r of-field-numbers-write-number.Post
    (λ κs x y left other. (x ≡ y) × (left.0.now ≡ other.0.now))
field_numbers_write_number κs a x y left other p q = (same p.0 q.0, same p.1 q.1)

pub field_tagvalue_next_field : NoFreedom 1 in-field-tagvalue-next-field.ps in-field-tagvalue-next-field.r of-field-tagvalue-next-field.Post
    (λ κs x y left other. x ≡ y)
field_tagvalue_next_field κs a x y left other p q = same p q

pub field_tagvalue_value_of : NoFreedom 1 in-field-tagvalue-value-of.ps in-field-tagvalue-value-of.r of-field-tagvalue-value-of.Post
    (λ κs x y left other. x.now ≡ y.now)
field_tagvalue_value_of κs a x y left other p q = same p q

pub field_tagvalue_is_refused-separator : NoFreedom 0 in-field-tagvalue-is-refused-separator.ps in-field-tagvalue-is-refused-separator.r
    of-field-tagvalue-is-refused-separator.Post (λ κs x y left other. x ≡ y)
field_tagvalue_is_refused-separator κs a x y left other p q = same p q

pub field_tagvalue_separated_by : NoFreedom 0 in-field-tagvalue-separated-by.ps in-field-tagvalue-separated-by.r of-field-tagvalue-separated-by.Post
    (λ κs x y left other. x ≡ y)
field_tagvalue_separated_by κs a x y left other p q = same p q

pub field_tagvalue_start_at : NoFreedom 0 in-field-tagvalue-start-at.ps in-field-tagvalue-start-at.r of-field-tagvalue-start-at.Post
    (λ κs x y left other. x ≡ y)
field_tagvalue_start_at κs a x y left other p q = same p q

pub build_config-config_of : NoFreedom 0 in-build-config-config-of.ps in-build-config-config-of.r of-build-config-config-of.Post (λ κs x y left other. x ≡ y)
build_config-config_of κs a x y left other p q = same p q

pub build_integrity_verify : NoFreedom 1 in-build-integrity-verify.ps in-build-integrity-verify.r of-build-integrity-verify.Post (λ κs x y left other. x ≡ y)
build_integrity_verify κs a x y left other p q = same p q

pub dictionary-check-check : NoFreedom 1 in-dictionary-check-check.ps in-dictionary-check-check.r of-dictionary-check-check.Post (λ κs x y left other. x ≡ y)
dictionary-check-check κs a x y left other p q = same p q

pub dictionary-check-number_of : NoFreedom 0 in-dictionary-check-number-of.ps in-dictionary-check-number-of.r of-dictionary-check-number-of.Post
    (λ κs x y left other. x ≡ y)
dictionary-check-number_of κs a x y left other p q = same p q

pub dictionary-check_value_of : NoFreedom 0 in-dictionary-check-value-of.ps in-dictionary-check-value-of.r of-dictionary-check-value-of.Post
    (λ κs x y left other. x ≡ y)
dictionary-check_value_of κs a x y left other p q = same p q

pub dictionary-prepared-number_of : NoFreedom 0 in-dictionary-prepared-number-of.ps in-dictionary-prepared-number-of.r of-dictionary-prepared-number-of.Post
    (λ κs x y left other. x ≡ y)
dictionary-prepared-number_of κs a x y left other p q = same p q

pub dictionary-prepared_value_of : NoFreedom 0 in-dictionary-prepared-value-of.ps in-dictionary-prepared-value-of.r of-dictionary-prepared-value-of.Post
    (λ κs x y left other. x ≡ y)
dictionary-prepared_value_of κs a x y left other p q = same p q

pub dictionary-prepared_is_prepared : NoFreedom 2 in-dictionary-prepared-is-prepared.ps in-dictionary-prepared-is-prepared.r
    of-dictionary-prepared-is-prepared.Post (λ κs x y left other. x ≡ y)
dictionary-prepared_is_prepared κs a x y left other p q = same p q

pub dictionary-prepared_prepare : NoFreedom 3 in-dictionary-prepared-prepare.ps in-dictionary-prepared-prepare.r of-dictionary-prepared-prepare.Post
    (λ κs x y left other. (x ≡ y) × (left.1.0.now ≡ other.1.0.now) × (left.1.1.0.now ≡ other.1.1.0.now))
dictionary-prepared_prepare κs a x y left other p q = let e = same p q in unfold preparing_of copy_of memory_of in (ap preparing_of e, ap copy_of e, ap memory_of e)

pub builder_build : NoFreedom 3 in-builder-build.ps in-builder-build.r of-builder-build.Post
    (λ κs x y left other. (x ≡ y) × (left.1.1.1.1.0.now ≡ other.1.1.1.1.0.now))
builder_build κs a x y left other p q = let e = same p q in unfold built_told in (ap built_of e, ap (λ (o : BuildOutcome). o.words) e)

pub builder_build_prepared : NoFreedom 4 in-builder-build-prepared.ps in-builder-build-prepared.r of-builder-build-prepared.Post
    (λ κs x y left other. (x ≡ y) × (left.1.1.1.1.1.0.now ≡ other.1.1.1.1.1.0.now))
builder_build_prepared κs a x y left other p q = let e = same p q in unfold built_told in (ap built_of e, ap (λ (o : BuildOutcome). o.words) e)

pub build_answers-number_of : NoFreedom 0 in-build-answers-number-of.ps in-build-answers-number-of.r of-build-answers-number-of.Post
    (λ κs x y left other. x ≡ y)
build_answers-number_of κs a x y left other p q = same p q

pub build_answers-values_of : NoFreedom 0 in-build-answers-values-of.ps in-build-answers-values-of.r of-build-answers-values-of.Post
    (λ κs x y left other. x ≡ y)
build_answers-values_of κs a x y left other p q = ap (λ (v : ℕ × ℕ). record { first = v.0; second = v.1 }) (same p q)

pub message-empty : NoFreedom 2 in-message-empty.ps in-message-empty.r of-message-empty.Post
    (λ κs x y left other. (x ≡ y) × (left.0.now ≡ other.0.now) × (left.1.0.now ≡ other.1.0.now))
message-empty κs a x y left other p q = let e = same p q in (cc, cc, cc)

pub message-new : NoFreedom 4 in-message-new.ps in-message-new.r of-message-new.Post
    (λ κs x y left other. (x ≡ y) × (left.0.now ≡ other.0.now) × (left.1.0.now ≡ other.1.0.now))
message-new κs a x y left other p q = let e = same p q in (cc, cc, cc)

pub message-store : NoFreedom 3 in-message-store.ps in-message-store.r of-message-store.Post
    (λ κs x y left other. (x ≡ y) × (left.0.now ≡ other.0.now) × (left.1.0.now ≡ other.1.0.now))
message-store κs a x y left other p q = let e = same p q in (cc, cc, cc)

pub message-remove : NoFreedom 2 in-message-remove.ps in-message-remove.r of-message-remove.Post
    (λ κs x y left other. (x ≡ y) × (left.0.now ≡ other.0.now) × (left.1.0.now ≡ other.1.0.now))
message-remove κs a x y left other p q = let e = same p q in (cc, cc, cc)

pub message_look_ups_part-map : NoFreedom 2 in-message-look-ups-part-map.ps in-message-look-ups-part-map.r of-message-look-ups-part-map.Post
    (λ κs x y left other. x ≡ y)
message_look_ups_part-map κs a x y left other p q = same p q

pub message_look_ups_field_in : NoFreedom 2 in-message-look-ups-field-in.ps in-message-look-ups-field-in.r of-message-look-ups-field-in.Post
    (λ κs x y left other. x ≡ y)
message_look_ups_field_in κs a x y left other p q = same p q

pub message_look_ups_entry_in : NoFreedom 2 in-message-look-ups-entry-in.ps in-message-look-ups-entry-in.r of-message-look-ups-entry-in.Post
    (λ κs x y left other. x ≡ y)
message_look_ups_entry_in κs a x y left other p q = same p q

pub message-runs-empty : NoFreedom 2 in-message-runs-empty.ps in-message-runs-empty.r of-message-runs-empty.Post
    (λ κs x y left other. (x ≡ y) × (left.0.now ≡ other.0.now) × (left.1.0.now ≡ other.1.0.now))
message-runs-empty κs a x y left other p q = let e = same p q in (cc, cc, cc)

pub message-runs-add-entry : NoFreedom 2 in-message-runs-add-entry.ps in-message-runs-add-entry.r of-message-runs-add-entry.Post
    (λ κs x y left other. (x ≡ y) × (left.0.now ≡ other.0.now) × (left.1.0.now ≡ other.1.0.now))
message-runs-add-entry κs a x y left other p q = let e = same p q in (cc, cc, cc)

pub message-runs-store-last : NoFreedom 3 in-message-runs-store-last.ps in-message-runs-store-last.r of-message-runs-store-last.Post
    (λ κs x y left other. (x ≡ y) × (left.0.now ≡ other.0.now) × (left.1.0.now ≡ other.1.0.now))
message-runs-store-last κs a x y left other p q = let e = same p q in (cc, cc, cc)

pub message-runs-hang-last : NoFreedom 4 in-message-runs-hang-last.ps in-message-runs-hang-last.r of-message-runs-hang-last.Post
    (λ κs x y left other. (x ≡ y) × (left.0.now ≡ other.0.now) × (left.1.0.now ≡ other.1.0.now))
message-runs-hang-last κs a x y left other p q = let e = same p q in (cc, cc, cc)

pub message-runs-hang : NoFreedom 4 in-message-runs-hang.ps in-message-runs-hang.r of-message-runs-hang.Post
    (λ κs x y left other. (x ≡ y) × (left.0.now ≡ other.0.now) × (left.1.0.now ≡ other.1.0.now))
message-runs-hang κs a x y left other p q = let e = same p q in (cc, cc, cc)

pub message-take-over-take-over : NoFreedom 4 in-message-take-over-take-over.ps in-message-take-over-take-over.r of-message-take-over-take-over.Post
    (λ κs x y left other. (x ≡ y) × (left.1.1.1.0.now ≡ other.1.1.1.0.now) × (left.1.1.1.1.0.now ≡ other.1.1.1.1.0.now))
message-take-over-take-over κs a x y left other p q = let e = same p q in (cc, cc, cc)

pub message-answers_change_number : NoFreedom 0 in-message-answers-change-number.ps in-message-answers-change-number.r of-message-answers-change-number.Post
    (λ κs x y left other. x ≡ y)
message-answers_change_number κs a x y left other p q = same p q

pub message-answers-taken-number : NoFreedom 0 in-message-answers-taken-number.ps in-message-answers-taken-number.r of-message-answers-taken-number.Post
    (λ κs x y left other. x ≡ y)
message-answers-taken-number κs a x y left other p q = same p q

pub message-answers-encoding_number : NoFreedom 0 in-message-answers-encoding-number.ps in-message-answers-encoding-number.r
    of-message-answers-encoding-number.Post (λ κs x y left other. x ≡ y)
message-answers-encoding_number κs a x y left other p q = same p q

pub message-answers-encoding_length : NoFreedom 0 in-message-answers-encoding-length.ps in-message-answers-encoding-length.r
    of-message-answers-encoding-length.Post (λ κs x y left other. x ≡ y)
message-answers-encoding_length κs a x y left other p q = same p q

pub encoder_encode : NoFreedom 3 in-encoder-encode.ps in-encoder-encode.r of-encoder-encode.Post
    (λ κs x y left other. (x ≡ y) × (left.0.now ≡ other.0.now) × (left.1.0.now ≡ other.1.0.now) × (left.1.1.0.now ≡ other.1.1.0.now))
encoder_encode κs a x y left other p q = let e = same p q in (cc, cc, cc, cc)

pub frame_parser_push : NoFreedom 2 in-frame-parser-push.ps in-frame-parser-push.r of-frame-parser-push.Post
    (λ κs x y left other. (x ≡ y) × (left.1.0.now ≡ other.1.0.now))
frame_parser_push κs a x y left other p q = (same p.0 q.0, same p.1 q.1)

pub frame_parser_end : NoFreedom 1 in-frame-parser-end.ps in-frame-parser-end.r of-frame-parser-end.Post (λ κs x y left other. x ≡ y)
frame_parser_end κs a x y left other p q = same p q

pub frame_parser_take : NoFreedom 2 in-frame-parser-take.ps in-frame-parser-take.r of-frame-parser-take.Post
    (λ κs x y left other. (x ≡ y) × (left.1.0.now ≡ other.1.0.now) × (left.1.1.0.now ≡ other.1.1.0.now))
frame_parser_take κs a x y left other p q = (same p.0 q.0, same p.1.0 q.1.0, same p.1.1 q.1.1)

pub frame_parser_reset : NoFreedom 0 in-frame-parser-reset.ps in-frame-parser-reset.r of-frame-parser-reset.Post (λ κs x y left other. x ≡ y)
frame_parser_reset κs a x y left other p q = same p q

pub frame_answers_parser_number : NoFreedom 0 in-frame-answers-parser-number.ps in-frame-answers-parser-number.r of-frame-answers-parser-number.Post
    (λ κs x y left other. x ≡ y)
frame_answers_parser_number κs a x y left other p q = same p q

pub frame_answers_parser_length : NoFreedom 0 in-frame-answers-parser-length.ps in-frame-answers-parser-length.r of-frame-answers-parser-length.Post
    (λ κs x y left other. x ≡ y)
frame_answers_parser_length κs a x y left other p q = same p q

pub frame_verdict-verdict_of : NoFreedom 1 in-frame-verdict-verdict-of.ps in-frame-verdict-verdict-of.r of-frame-verdict-verdict-of.Post
    (λ κs x y left other. x ≡ y)
frame_verdict-verdict_of κs a x y left other p q = same p q

pub frame_hunter_push : NoFreedom 2 in-frame-hunter-push.ps in-frame-hunter-push.r of-frame-hunter-push.Post
    (λ κs x y left other. (x ≡ y) × (left.1.0.now ≡ other.1.0.now))
frame_hunter_push κs a x y left other p q = (same p.reply_is q.reply_is, same p.store_is q.store_is)

pub frame_hunter-end : NoFreedom 1 in-frame-hunter-end.ps in-frame-hunter-end.r of-frame-hunter-end.Post (λ κs x y left other. x ≡ y)
frame_hunter-end κs a x y left other p q = same p.reply_is q.reply_is

pub frame_hunter-take : NoFreedom 2 in-frame-hunter-take.ps in-frame-hunter-take.r of-frame-hunter-take.Post
    (λ κs x y left other. (x ≡ y) × (left.1.0.now ≡ other.1.0.now) × (left.1.1.0.now ≡ other.1.1.0.now))
frame_hunter-take κs a x y left other p q = (same p.taken_is q.taken_is, same p.store_is q.store_is, same p.output_is q.output_is)

pub frame_hunter_reset : NoFreedom 0 in-frame-hunter-reset.ps in-frame-hunter-reset.r of-frame-hunter-reset.Post (λ κs x y left other. x ≡ y)
frame_hunter_reset κs a x y left other p q = same p q

pub frame_answers-hunter-number : NoFreedom 0 in-frame-answers-hunter-number.ps in-frame-answers-hunter-number.r of-frame-answers-hunter-number.Post
    (λ κs x y left other. x ≡ y)
frame_answers-hunter-number κs a x y left other p q = same p q
