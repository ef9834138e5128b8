-- How many records are shown: 1,024 at the most, whatever the answer is, so that all of them stand in the lent ones.
-- With 0 that is a law of `promise_records`; with a refusal there are no more than the header's, each of a field that was read.
use Rattle.std.specs.Prelude.{ℕ, zero, suc, ◌+◌, ◌≤◌, ◌≡◌, refl, ◌⊎◌, Bool, true, false, leb, Result, Ok, Err}
use Rattle.std.proofs.Common.{inl, inr}
use mathlib.Core.List.{List, [], ◌∷◌}
use native.Mathlib.Omega.{arith}
use Rattle.std.proofs.Math.ListN.{length}
use Rattle.build_config.specs.declared.Config.{Config}
use Rattle.field_rules.specs.Choice.{pick}
use Rattle.field_rules.specs.Fields.{Fields, unreadable, field, fields_from}
use Rattle.field_rules.specs.declared.Field.{Field}
use Rattle.build_integrity_rules.specs.Integrity.{integrity_of}
use Rattle.build_integrity_rules.specs.declared.Verified.{Verified}
use Rattle.dictionary_layout_rules.specs.Tree.{Dictionary, knows, header_tags_lem, trailer_tags_lem, holds_tag, Choice, no_message, laid_out, layout_of}
use Rattle.build_records.specs.Records.{stored, value_at}
use Rattle.build_records.specs.declared.Record.{Record}
use Rattle.build_group_rules.specs.Reading.{accepted, layout_rules}
use Rattle.build_required_rules.specs.Checking.{layout_demands}
use Rattle.build_answers.specs.Answer.{number_of}
use Rattle.build_answers.specs.declared.Answer.{Answer}
use Rattle.build_answers.specs.declared.Answer.TheVariants.{Valid}
use Rattle.build_parts.specs.Parts.{Reading, ended, refused, part_record}
use Rattle.build_parts.specs.Header.{header_from}
use Rattle.build_parts.specs.Trailer.{Trailer, stopped, unstopped, crowded, trailer_from}
use Rattle.build_body_rules.specs.Body.{body_from}
use Rattle.build_body_rules.specs.Kinds.{body_of}
use Rattle.build_rules.specs.Beginning.{header_of, verified_records, with_checksum, started_by, start_of, msg_type_record}
use Rattle.build_rules.specs.Message.{Outcome, shown_with, refusal, after_trailer, after_body, after_type, after_header, message_read}
use Rattle.message_read_laws.specs.CountLaws.{grows_stored}
use Rattle.promise_records.specs.TakenOver.{build_takes}
use Rattle.build_integrity_rules.specs.declared.GarbledReason.{GarbledReason}

header-few : (tags : List ℕ) (fields : Fields) (room : ℕ) (rs : List Record) → length rs + room ≤ 1024
    → (f : Field) (rest : Fields) (room₁ : ℕ) (rs₁ : List Record) → header_from tags fields room rs ≡ ended f rest room₁ rs₁ → length rs₁ ≤ 1024
unfolding header_from
header-few tags (unreadable cause place) room rs n f rest room₁ rs₁ e = let z : ◌≡◌ {A = ℕ} 0 1 = cc in absurd (omega arith)
header-few tags (field g more) zero rs n f rest room₁ rs₁ e = let z : ◌≡◌ {A = ℕ} 0 1 = cc in absurd (omega arith)
header-few tags (field g more) (suc room) rs n f rest room₁ rs₁ e =
    by_tag (holds_tag g.tag tags) e
    (λ q. header-few tags more room (stored (part_record 1 g) rs) (omega (arith, n, (grows_stored (part_record 1 g) rs).longer)) f rest room₁ rs₁ q)
  where
    by_tag : (b : Bool) → pick b (header_from tags more room (stored (part_record 1 g) rs)) (ended g more room rs) ≡ ended f rest room₁ rs₁
        → (header_from tags more room (stored (part_record 1 g) rs) ≡ ended f rest room₁ rs₁ → length rs₁ ≤ 1024) → length rs₁ ≤ 1024
    by_tag true e later = later e
    by_tag false e later = let d : rs ≡ rs₁ = cc in rw (← d) (omega (arith, n))

-- read to its end, or refused with few records
abbrev Few : Outcome → Type 0
Few o = (o.answer ≡ Valid) ⊎ (length o.records ≤ 1024)

pub refused-few : (answer : Answer) (header : List Record) → length header ≤ 1024 → length (refusal answer header).records ≤ 1024
unfolding refusal shown_with
refused-few answer header n = by_tests (leb 1 (number_of answer)) (leb (number_of answer) 4)
  where
    by_tests : (x y : Bool) → length (pick x (pick y header []) []) ≤ 1024
    by_tests true true = n
    by_tests true false = omega arith
    by_tests false y = omega arith

refusal-few : (answer : Answer) (header : List Record) → length header ≤ 1024 → Few (refusal answer header)
refusal-few answer header n = inr (refused-few answer header n)

trailer-few : (h b : List Record) (t : Trailer) → length h ≤ 1024 → Few (after_trailer h b t)
unfolding after_trailer
trailer-few h b (stopped f rs) n = inl refl
trailer-few h b (unstopped rs) n = inl refl
trailer-few h b crowded n = refusal-few _ h n

body-few : (h : List Record) (checksum : Field) (r : Reading) → length h ≤ 1024 → Few (after_body h checksum r)
unfolding after_body
body-few h checksum (refused answer) n = refusal-few answer h n
body-few h checksum (ended f rest room b) n = trailer-few h b (trailer_from (field f rest) (suc room) (part_record 3 checksum ∷ [])) n

module _ (dictionary : Dictionary) (config : Config) (message : List ℕ) where
  type-few : (f : Field) (rest : Fields) (room : ℕ) (h : List Record) (checksum : Field) (choice : Choice) → length h ≤ 1024
      → Few (after_type dictionary config f rest room h checksum choice)
  unfolding after_type
  type-few f rest room h checksum no_message n = refusal-few _ h n
  type-few f rest room h checksum (laid_out layout) n =
      body-few h checksum (body_from (body_of (layout_rules (accepted config (knows dictionary))) layout_demands (trailer_tags_lem dictionary) layout) (field f rest)
      (suc room) []) n

  start-few : (checksum : Field) (r : Reading) → ((f : Field) (rest : Fields) (room : ℕ) (h : List Record) → r ≡ ended f rest room h → length h ≤ 1024)
      → Few (after_header dictionary config message (with_checksum checksum r))
  unfolding after_header with_checksum
  start-few checksum (refused answer) n = refusal-few answer [] (omega arith)
  start-few checksum (ended f rest room h) n =
      type-few f rest room h checksum (layout_of dictionary (value_at message (msg_type_record h))) (n f rest room h refl)

  verified-few : (v : Verified) → length (verified_records v) ≤ 3
  unfolding verified_records
  verified-few v =
      let one = stored (part_record 1 v.begin_string) [] in
      let two = stored (part_record 1 v.body_length) one in
      omega (
        arith,
        (grows_stored (part_record 1 v.begin_string) []).longer,
        (grows_stored (part_record 1 v.body_length) one).longer,
        (grows_stored (part_record 1 v.msg_type) two).longer,
      )

  integrity_few : (i : Result Verified GarbledReason) → Few (after_header dictionary config message (started_by (header_tags_lem dictionary) config message i))
  unfolding started_by
  integrity_few (Err reason) = unfold after_header in refusal-few _ [] (omega arith)
  integrity_few (Ok v) =
      start-few v.checksum (header_of (header_tags_lem dictionary) config message v)
      (λ f rest room h q. header-few (header_tags_lem dictionary) (fields_from config.mode message v.msg_type.next) 1021 (verified_records v)
      (omega (arith, verified-few v)) f rest room h (unfold header_of in q))

  pub read-few : length message ≤ 8192 → length (message_read dictionary config message).records ≤ 1024
  read-few short = by_answer (unfold message_read start_of in integrity_few (integrity_of config.mode message))
    where
      by_answer : Few (message_read dictionary config message) → length (message_read dictionary config message).records ≤ 1024
      by_answer (inl valid) = (build_takes dictionary config message short valid).few
      by_answer (inr few) = few
