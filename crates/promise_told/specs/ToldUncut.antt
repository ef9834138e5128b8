-- No number that an export tells is cut: for each export, whatever is lent to it, the four words hold the numbers themselves.
use Rattle.std.specs.Prelude.{ℕ, ◌≡◌, List, get_or, replicate}
use Rattle.std.proofs.Common.{arith}
use Rattle.dictionary_rules.specs.Check.{check_of, values_of_check}
use Rattle.dictionary_meaning_rules.proofs.MsgTypeText.{Bytes}
use Rattle.build_config.specs.Settings.{config_of}
use Rattle.build_records.specs.Records.{record_words}
use Rattle.build_answers.specs.Answer.{values_of}
use Rattle.message_rules.specs.LookUps.{part_found, field_found, entry_found}
use Rattle.message_rules.proofs.LookUpLimits.{part-few, entry-few, value_within}
use Rattle.message_rules.specs.declared.Part.{Part}
use Rattle.encode_rules.specs.Encode.{encoding_of}
use Rattle.frame_parser_rules.specs.Framer.{length_returned, taken}
use Rattle.frame_parser_rules.specs.declared.State.{State}
use Rattle.frame_hunter_rules.specs.Bytes.{took_from}
use Rattle.frame_hunter_rules.specs.declared.State.{State as HunterState}
use Rattle.face_told.specs.Told.{told, encoding_length, told_map, told_value}
use Rattle.face_told.proofs.UncutLaws.{uncut, told-uncut, one-uncut, uncut_map, uncut_value, map-uncut, value_uncut}
use Rattle.face_messages.specs.Lent.{built_from}
use Rattle.promise_records.proofs.Uncut.{few_records}
use Rattle.promise_told.specs.DictionaryNumbers.{value_of_check, check_small}
use Rattle.promise_told.specs.AnswerNumbers.{AnswerSmall, build_small}
use Rattle.promise_told.specs.LengthNumbers.{encoded_small, ported_small, hunter_small}

-- gateway_check
pub check-uncut : (dictionary : List ℕ) → Bytes dictionary
    → told 0 (get_or (values_of_check (check_of dictionary)) 0 0, 0) ≡ uncut 0 (get_or (values_of_check (check_of dictionary)) 0 0, 0)
check-uncut dictionary bytes = one-uncut _ (unfold value_of_check in check_small dictionary bytes)

-- gateway_build: 1,024 records at the most, and the values of the answer
module _ (message : List ℕ) (separator settings : ℕ) (dictionary : List ℕ) (lent : ℕ) (bytes : Bytes dictionary) where
  pub build_uncut : told (built_from message separator settings dictionary lent).records (values_of (built_from message separator settings dictionary lent).answer)
      ≡ uncut (built_from message separator settings dictionary lent).records (values_of (built_from message separator settings dictionary lent).answer)
  build_uncut =
      let few = few_records message separator settings dictionary lent in
      let small : AnswerSmall (built_from message separator settings dictionary lent).answer =
      unfold built_from in build_small message (config_of settings separator) dictionary lent (replicate record_words 0) bytes in
      told-uncut _ _ (omega (arith, few)) small.first small.second

-- gateway_encode: an encoding's length
pub encode-uncut : (separator : ℕ) (words values output : List ℕ)
    → told 0 (encoding_length (encoding_of separator words values output), 0) ≡ uncut 0 (encoding_length (encoding_of separator words values output), 0)
encode-uncut separator words values output = one-uncut _ (omega (arith, encoded_small separator words values output))

-- gateway_find_part, gateway_find_entry and gateway_find_field: a row of the message's 2,051, a place and a length in its 8,192 bytes
pub find_part-uncut : (part : Part) (words values : List ℕ) → told_map (part_found part words values) ≡ uncut_map (part_found part words values)
find_part-uncut part words values = map-uncut _ (λ row e. omega (arith, part-few words values part row e))

pub find_entry-uncut : (row start number : ℕ) (words values : List ℕ)
    → told_map (entry_found row start number words values) ≡ uncut_map (entry_found row start number words values)
find_entry-uncut row start number words values = map-uncut _ (λ head e. omega (arith, entry-few words values row start number head e))

pub find_field-uncut : (row tag : ℕ) (words values : List ℕ) → told_value (field_found row tag words values) ≡ uncut_value (field_found row tag words values)
find_field-uncut row tag words values =
    value_uncut _ (λ v e. (omega (arith, value_within words values row tag v e), omega (arith, value_within words values row tag v e)))

-- gateway_ported_take and gateway_hunter_take: a message's length, and a frame's
pub ported-take-uncut : (state : State) (store output : List ℕ)
    → told 0 (length_returned (taken state store output).answer, 0) ≡ uncut 0 (length_returned (taken state store output).answer, 0)
ported-take-uncut state store output = one-uncut _ (omega (arith, ported_small state store output))

pub hunter-take-uncut : (state : HunterState) (store output : List ℕ)
    → told 0 ((took_from state store output).taken.length, 0) ≡ uncut 0 ((took_from state store output).taken.length, 0)
hunter-take-uncut state store output = one-uncut _ (omega (arith, hunter_small state store output))

-- every other export tells zeros: gateway_empty, _new, _store, _remove, _draft, _add_entry, _store_last, _hang_last, _hang, _take_over, and the push,
-- the end and the reset of both framers
pub zeros-uncut : told 0 (0, 0) ≡ uncut 0 (0, 0)
zeros-uncut = one-uncut 0 (omega arith)
