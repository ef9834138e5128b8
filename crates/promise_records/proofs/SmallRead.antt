-- The records of a message that was read, whatever the answer is, are small: header, body and trailer in turn.
use Rattle.std.specs.Prelude.{ℕ, suc, ◌≡◌, Bool, leb}
use Rattle.std.proofs.Math.Path.{refl}
use Rattle.std.proofs.Math.Bool.{true, false}
use mathlib.Core.List.{List, [], ◌∷◌}
use Rattle.std.proofs.Common.{arith, Result, Ok, Err}
use Rattle.build_records.specs.Records.{value_at}
use Rattle.build_config.specs.declared.Config.{Config}
use Rattle.field_rules.specs.Choice.{pick}
use Rattle.field_rules.specs.Fields.{Fields, field, fields_from}
use Rattle.field_rules.specs.declared.Field.{Field}
use Rattle.build_integrity_rules.specs.Integrity.{integrity_of}
use Rattle.build_integrity_rules.specs.declared.Verified.{Verified}
use Rattle.build_integrity_rules.proofs.VerifiedLaws.{VerifiedRead, verified-read}
use Rattle.dictionary_layout_rules.specs.Tree.{Dictionary, knows, header_tags_lem, trailer_tags_lem, Choice, no_message, laid_out, layout_of}
use Rattle.build_records.specs.declared.Record.{Record}
use Rattle.build_group_rules.specs.Reading.{accepted, layout_rules}
use Rattle.build_required_rules.specs.Checking.{layout_demands}
use Rattle.build_nesting_laws.specs.Entries.{All, all_none, all_more, all_append, all-stored}
use Rattle.build_answers.specs.Answer.{number_of}
use Rattle.build_answers.specs.declared.Answer.{Answer}
use Rattle.build_parts.specs.Parts.{Reading, ended, refused, part_record}
use Rattle.build_parts.specs.Trailer.{Trailer, stopped, unstopped, crowded, trailer_from}
use Rattle.build_body_rules.specs.Body.{body_from}
use Rattle.build_body_rules.specs.Kinds.{body_of}
use Rattle.build_rules.specs.Beginning.{header_of, verified_records, with_checksum, started_by, start_of, msg_type_record}
use Rattle.build_rules.specs.Message.{shown_with, refusal, after_trailer, after_body, after_type, after_header, message_read}
use Rattle.message_read_laws.specs.Counting.{Fine}
use Rattle.message_read_laws.specs.CountLaws.{read_fine, all_fine}
use Rattle.promise_records.specs.Small.{Small, Kept, TrailerSmall}
use Rattle.promise_records.proofs.SmallLaws.{part_small, header-kept, trailer_small, body_kept}
use Rattle.build_integrity_rules.specs.declared.GarbledReason.{GarbledReason}

module _ (message : List ℕ) where
  abbrev AllSmall : List Record → Type 0
  AllSmall rs = All (Small message) rs

  pub refusal_small : (answer : Answer) (header : List Record) → AllSmall header → AllSmall (refusal answer header).records
  unfolding refusal shown_with
  refusal_small answer header a = by_tests (leb 1 (number_of answer)) (leb (number_of answer) 4)
    where
      by_tests : (x y : Bool) → AllSmall (pick x (pick y header []) [])
      by_tests true true = a
      by_tests true false = all_none
      by_tests false y = all_none

  trailer-shown : (h b : List Record) (t : Trailer) → AllSmall h → AllSmall b → TrailerSmall message t → AllSmall (after_trailer h b t).records
  unfolding after_trailer
  trailer-shown h b (stopped f rs) ah ab at = all_append _ ah (all_append _ ab at)
  trailer-shown h b (unstopped rs) ah ab at = all_append _ ah (all_append _ ab at)
  trailer-shown h b crowded ah ab at = refusal_small _ h ah

  module _ (dictionary : Dictionary) (config : Config) (checksum : Field) (sum-fine : Fine message checksum) where
    body-shown : (h : List Record) (r : Reading) → AllSmall h
        → ((f : Field) (rest : Fields) (room : ℕ) (b : List Record) → r ≡ ended f rest room b → Kept message (field f rest) (suc room) b)
        → AllSmall (after_body h checksum r).records
    unfolding after_body
    body-shown h (refused answer) ah k = refusal_small answer h ah
    body-shown h (ended f rest room b) ah k =
        let kept = k f rest room b refl in
        trailer-shown h b (trailer_from (field f rest) (suc room) (part_record 3 checksum ∷ [])) ah kept.small
        (trailer_small (field f rest) (suc room) (part_record 3 checksum ∷ [])
        (record { small = all_more (part_small 3 checksum (omega arith) sum-fine) all_none; each = kept.each; left = kept.left }))

    type-shown : (f : Field) (rest : Fields) (room : ℕ) (h : List Record) (choice : Choice) → Kept message (field f rest) (suc room) h
        → AllSmall (after_type dictionary config f rest room h checksum choice).records
    unfolding after_type
    type-shown f rest room h no_message k = refusal_small _ h k.small
    type-shown f rest room h (laid_out layout) k =
        body-shown h (body_from (body_of (layout_rules (accepted config (knows dictionary))) layout_demands (trailer_tags_lem dictionary) layout) (field f rest)
        (suc room) []) k.small
        (λ g more room₂ b e. body_kept (layout_rules (accepted config (knows dictionary))) layout_demands (trailer_tags_lem dictionary) layout (suc (suc room))
        (field f rest) (suc room) [] (record { small = all_none; each = k.each; left = k.left }) g more room₂ b (unfold body_from in e))

    header-shown : (r : Reading)
        → ((f : Field) (rest : Fields) (room : ℕ) (h : List Record) → r ≡ ended f rest room h → Kept message (field f rest) (suc room) h)
        → AllSmall (after_header dictionary config message (with_checksum checksum r)).records
    unfolding after_header with_checksum
    header-shown (refused answer) k = refusal_small answer [] all_none
    header-shown (ended f rest room h) k = type-shown f rest room h (layout_of dictionary (value_at message (msg_type_record h))) (k f rest room h refl)

  module _ (dictionary : Dictionary) (config : Config) where
    pub verified-kept : (v : Verified) → VerifiedRead config.mode message v
        → Kept message (fields_from config.mode message v.msg_type.next) 1021 (verified_records v)
    unfolding verified_records
    verified-kept v r =
        record {
          small =
              all-stored _ (part_record 1 v.msg_type)
              (part_small 1 v.msg_type (omega arith) (read_fine config.mode message _ v.msg_type r.types))
              (all-stored _ (part_record 1 v.body_length)
              (part_small 1 v.body_length (omega arith) (read_fine config.mode message _ v.body_length r.counts))
              (all-stored _ (part_record 1 v.begin_string)
              (part_small 1 v.begin_string (omega arith) (read_fine config.mode message _ v.begin_string r.begins)) all_none));
          each = all_fine config.mode message v.msg_type.next;
          left = omega arith;
        }

    started-shown : (i : Result Verified GarbledReason) → integrity_of config.mode message ≡ i
        → AllSmall (after_header dictionary config message (started_by (header_tags_lem dictionary) config message i)).records
    unfolding started_by
    started-shown (Err reason) e = unfold after_header in refusal_small _ [] all_none
    started-shown (Ok v) e =
        let r = verified-read config.mode message v e in
        header-shown dictionary config v.checksum (read_fine config.mode message _ v.checksum r.sums)
        (header_of (header_tags_lem dictionary) config message v)
        (λ f rest room h q. header-kept (header_tags_lem dictionary) (fields_from config.mode message v.msg_type.next) 1021 (verified_records v)
        (verified-kept v r) f rest room h (unfold header_of in q))

    pub read_small : AllSmall (message_read dictionary config message).records
    unfolding message_read start_of
    read_small = started-shown (integrity_of config.mode message) refl
