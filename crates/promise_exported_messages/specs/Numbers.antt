-- A build answers the number 0 for a valid message only: no reading is refused with an answer whose number is 0.
use Prim.Native.Nat.{ℕ, zero, suc}
use Rattle.std.specs.Prelude.{◌≡◌, Bool, ltb, length, replicate, Result, Ok, Err}
use Rattle.std.proofs.Math.Path.{refl}
use Rattle.std.proofs.Math.Bool.{true, false}
use mathlib.Core.List.{List, [], ◌∷◌}
use Rattle.std.proofs.Common.{arith}
use Rattle.std.proofs.Math.Dec.{eqb}
use Rattle.std.proofs.lemmas.Bool.{eqb-false}
use Rattle.field_rules.specs.Choice.{pick}
use Rattle.field_rules.specs.Separator.{is_refused_separator}
use Rattle.field_rules.specs.Fields.{Fields, unreadable, field, fields_from}
use Rattle.field_rules.specs.declared.Field.{Field}
use Rattle.build_config.specs.declared.Config.{Config}
use Rattle.build_config.specs.Settings.{config_of}
use Rattle.build_integrity_rules.specs.Integrity.{integrity_of, number_of_reason}
use Rattle.build_integrity_rules.specs.declared.GarbledReason.{GarbledReason}
use Rattle.build_integrity_rules.specs.declared.GarbledReason.TheVariants.{Malformed as Unreadable, InvalidBeginString, InvalidBodyLength, InvalidMsgType, InvalidChecksum}
use Rattle.dictionary_rules.specs.Check.{check_of, number_of_check}
use Rattle.dictionary_rules.specs.declared.Checked.{Checked}
use Rattle.dictionary_meaning_rules.specs.Meaning.{dictionary_of}
use Rattle.dictionary_layout_rules.specs.Tree.{Dictionary, knows, header_tags_lem, trailer_tags_lem, holds_tag, Choice, no_message, laid_out, layout_of}
use Rattle.build_records.specs.Records.{stored, value_at, record_words}
use Rattle.build_records.specs.declared.Record.{Record}
use Rattle.build_group_rules.specs.Groups.{Rules, run, outermost, RunOutcome, walk}
use Rattle.build_group_rules.specs.Groups.{ended as ran, refused as stops}
use Rattle.build_group_rules.specs.Reading.{accepted, layout_rules, list_store, answer_of}
use Rattle.build_group_rules.specs.declared.Refusal.{Refusal}
use Rattle.build_group_rules.specs.declared.Refusal.TheVariants.{Malformed as malformed, TooManyFields as too_many, InvalidOrderInGroup as disordered}
use Rattle.build_required_rules.specs.Required.{Demands, run_lack}
use Rattle.build_required_rules.specs.Checking.{layout_demands}
use Rattle.build_required_rules.specs.declared.Lack.{Lack}
use Rattle.build_required_rules.specs.declared.Lack.TheVariants.{Missing, Complete}
use Rattle.build_answers.specs.Answer.{number_of}
use Rattle.build_answers.specs.declared.Answer.{Answer}
use Rattle.build_answers.specs.declared.Answer.TheVariants.{Valid, InvalidField, Garbled as garbled, InvalidSeparator, TooFewRecords, TooLong as MessageTooLong, BadDictionary}
use Rattle.build_parts.specs.Parts.{Reading, ended, refused, part_record}
use Rattle.build_parts.specs.Header.{header_from}
use Rattle.build_parts.specs.Trailer.{Trailer, stopped, unstopped, crowded, trailer_from}
use Rattle.build_body_rules.specs.Body.{Kind, plain, counts, other, Body, and_then, next_from, with_run, takes, body_within, body_from}
use Rattle.build_body_rules.specs.Kinds.{checked, ran_as, run_from, body_of}
use Rattle.build_rules.specs.Beginning.{header_of, verified_records, with_checksum, started_by, start_of, msg_type_record}
use Rattle.build_rules.specs.Message.{refusal, after_trailer, after_body, after_type, after_header, message_read}
use Rattle.builder.specs.Build.{untouched, shown, checked_read, build_of}
use Rattle.face_messages.specs.Lent.{built_from}
use Rattle.build_integrity_rules.specs.declared.Verified.{Verified}

-- an answer that is 0 only where it is the valid one
record Honest (answer : Answer) : Type 0 where
  honest : number_of answer ≡ 0 → answer ≡ Valid

refuses : {answer : Answer} (n : ℕ) → number_of answer ≡ suc n → Honest answer
refuses n e = record { honest = λ z. absurd (omega (arith, e, z)) }

-- a reading that was not refused, or so
data Reads : Reading → Type 0 where
  goes_on : {f : Field} {rest : Fields} {room : ℕ} {rs : List Record} → Reads (ended f rest room rs)
  stays : {answer : Answer} → Honest answer → Reads (refused answer)

header-reads : (tags : List ℕ) (fields : Fields) (room : ℕ) (rs : List Record) → Reads (header_from tags fields room rs)
unfolding header_from number_of
header-reads tags (unreadable cause place) room rs = stays (refuses 9 refl)
header-reads tags (field f rest) zero rs = stays (refuses 20 refl)
header-reads tags (field f rest) (suc room) rs = by_tag (holds_tag f.tag tags) (header-reads tags rest room (stored (part_record 1 f) rs))
  where
    by_tag : (b : Bool) → Reads (header_from tags rest room (stored (part_record 1 f) rs)) → Reads (pick b (header_from tags rest room (stored (part_record 1 f) rs)) (ended f rest room rs))
    by_tag true later = later
    by_tag false later = goes_on

module _ {L : Type 0} (rules : Rules L) (demands : Demands L) (tags : List ℕ) (level : L) where
  abbrev body : Body L
  body = body_of rules demands tags level

  next-reads : (fields : Fields) (room : ℕ) (rs : List Record) → Reads (next_from fields room rs)
  unfolding next_from number_of
  next-reads (unreadable cause place) room rs = stays (refuses 9 refl)
  next-reads (field g more) zero rs = stays (refuses 20 refl)
  next-reads (field g more) (suc room) rs = goes_on

  refusal_honest : (r : Refusal) → Honest (answer_of r)
  unfolding answer_of number_of
  refusal_honest (malformed cause place) = refuses 9 refl
  refusal_honest too_many = refuses 20 refl
  refusal_honest (disordered tag group) = refuses 1 refl

  lack_reads : (count : Record) (rs : List Record) (g : Field) (more : Fields) (room : ℕ) (es : List Record) (lack : Lack) → Reads (with_run count rs (checked g more room es lack))
  unfolding checked with_run number_of
  lack_reads count rs g more room es Complete = goes_on
  lack_reads count rs g more room es (Missing t u) = stays (refuses 3 refl)

  run-reads : (count : Record) (rs : List Record) (inner : L) (tag : ℕ) (o : RunOutcome (List Record) (List Record)) → Reads (with_run count rs (ran_as rules demands inner tag o))
  unfolding ran_as with_run
  run-reads count rs inner tag (ran g more room es) = lack_reads count rs g more room es (run_lack demands 4 inner tag 1 es)
  run-reads count rs inner tag (stops cause es) = stays (refusal_honest cause)

  other-reads : (b : Bool) (f : Field) (rest : Fields) (room : ℕ) (rs : List Record) → Reads (pick b (ended f rest room rs) (refused (InvalidField f.tag)))
  unfolding number_of
  other-reads true f rest room rs = goes_on
  other-reads false f rest room rs = stays (refuses 0 refl)

  then_reads : (r : Reading) (on : Fields → ℕ → List Record → Reading) → Reads r → ((fields : Fields) (room : ℕ) (rs : List Record) → Reads (on fields room rs)) → Reads (and_then r on)
  unfolding and_then
  then_reads (ended f rest room rs) on r later = later (field f rest) (suc room) rs
  then_reads (refused answer) on r later = r

  kind_reads : (on : Fields → ℕ → List Record → Reading) → ((fields : Fields) (room : ℕ) (rs : List Record) → Reads (on fields room rs)) → (f : Field) (rest : Fields) (room : ℕ) (rs : List Record) (k : Kind L) → Reads (takes body on f rest room rs k)
  unfolding takes
  kind_reads on later f rest room rs plain = then_reads (next_from rest room (stored (part_record 2 f) rs)) on (next-reads rest room (stored (part_record 2 f) rs)) later
  kind_reads on later f rest room rs (counts inner) =
      unfold body_of run_from in then_reads (with_run (part_record 2 f) rs (ran_as rules demands inner f.tag (walk rules list_store room (run (outermost f.tag inner) 0 ∷ []) [] rest))) on
      (run-reads (part_record 2 f) rs inner f.tag (walk rules list_store room (run (outermost f.tag inner) 0 ∷ []) [] rest)) later
  kind_reads on later f rest room rs other = other-reads (holds_tag f.tag body.trailer) f rest room rs

  within-reads : (turns : ℕ) (fields : Fields) (room : ℕ) (rs : List Record) → Reads (body_within body turns fields room rs)
  unfolding body_within number_of
  within-reads zero fields room rs = stays (refuses 20 refl)
  within-reads (suc turns) (unreadable cause place) room rs = stays (refuses 9 refl)
  within-reads (suc turns) (field f rest) zero rs = stays (refuses 20 refl)
  within-reads (suc turns) (field f rest) (suc room) rs = kind_reads (body_within body turns) (within-reads turns) f rest room rs (body.kind f.tag)

module _ (dictionary : Dictionary) (config : Config) where
  trailer_honest : (header body : List Record) (t : Trailer) → Honest (after_trailer header body t).answer
  unfolding after_trailer refusal number_of
  trailer_honest header body (stopped f ts) = record { honest = λ z. refl }
  trailer_honest header body (unstopped ts) = record { honest = λ z. refl }
  trailer_honest header body crowded = refuses 20 refl

  body_honest : (header : List Record) (checksum : Field) (r : Reading) → Reads r → Honest (after_body header checksum r).answer
  unfolding after_body refusal
  body_honest header checksum (ended f rest room b) r = trailer_honest header b (trailer_from (field f rest) (suc room) (part_record 3 checksum ∷ []))
  body_honest header checksum (refused answer) (stays h) = h

  type_honest : (f : Field) (rest : Fields) (room : ℕ) (header : List Record) (checksum : Field) (choice : Choice) → Honest (after_type dictionary config f rest room header checksum choice).answer
  unfolding after_type refusal number_of body_from
  type_honest f rest room header checksum no_message = refuses 2 refl
  type_honest f rest room header checksum (laid_out layout) =
      body_honest header checksum _ (within-reads (layout_rules (accepted config (knows dictionary))) layout_demands (trailer_tags_lem dictionary) layout (suc (suc room)) (field f rest) (suc room) [])

  header_honest : (message : List ℕ) (checksum : Field) (r : Reading) → Reads r → Honest (after_header dictionary config message (with_checksum checksum r)).answer
  unfolding after_header with_checksum refusal
  header_honest message checksum (ended f rest room header) r = type_honest f rest room header checksum (layout_of dictionary (value_at message (msg_type_record header)))
  header_honest message checksum (refused answer) (stays h) = h

  reason_honest : (reason : GarbledReason) → Honest (garbled reason)
  unfolding number_of number_of_reason
  reason_honest Unreadable = refuses 9 refl
  reason_honest InvalidBeginString = refuses 10 refl
  reason_honest InvalidBodyLength = refuses 11 refl
  reason_honest InvalidMsgType = refuses 12 refl
  reason_honest InvalidChecksum = refuses 13 refl

  integrity_honest : (message : List ℕ) (i : Result Verified GarbledReason) → Honest (after_header dictionary config message (started_by (header_tags_lem dictionary) config message i)).answer
  unfolding started_by header_of
  integrity_honest message (Ok v) = header_honest message v.checksum _ (header-reads (header_tags_lem dictionary) (fields_from config.mode message v.msg_type.next) 1021 (verified_records v))
  integrity_honest message (Err reason) = unfold after_header refusal in reason_honest reason

  read_honest : (message : List ℕ) → Honest (message_read dictionary config message).answer
  unfolding message_read start_of
  read_honest message = integrity_honest message (integrity_of config.mode message)

bad-dictionary : (c : Checked) → (number_of_check c ≡ 0 → ⊥) → Honest (refusal (BadDictionary c) []).answer
unfolding refusal number_of
bad-dictionary c some = record { honest = λ z. absurd (some z) }

module _ (message : List ℕ) (config : Config) (dictionary : List ℕ) (lent : ℕ) (words : List ℕ) where
  checked_honest : Honest (checked_read message config dictionary (check_of dictionary)).answer
  unfolding checked_read
  checked_honest = by_check (eqb (number_of_check (check_of dictionary)) 0) refl
    where
      by_check : (b : Bool) → eqb (number_of_check (check_of dictionary)) 0 ≡ b → Honest (pick b (message_read (dictionary_of dictionary) config message) (refusal (BadDictionary (check_of dictionary)) [])).answer
      by_check true e = read_honest (dictionary_of dictionary) config message
      by_check false e = bad-dictionary (check_of dictionary) (eqb-false (number_of_check (check_of dictionary)) 0 e)

  build_honest : Honest (build_of message config dictionary lent words).answer
  unfolding build_of
  build_honest = by_tests (is_refused_separator config.mode.separator) (ltb lent 1024) (ltb 8192 (length message))
    where
      by_tests : (x y z : Bool) → Honest (pick x (untouched InvalidSeparator words) (pick y (untouched TooFewRecords words) (pick z (untouched MessageTooLong words) (shown lent (checked_read message config dictionary (check_of dictionary)))))).answer
      by_tests true y z = unfold untouched in refuses 21 (unfold number_of in refl)
      by_tests false true z = unfold untouched in refuses 22 (unfold number_of in refl)
      by_tests false false true = unfold untouched in refuses 19 (unfold number_of in refl)
      by_tests false false false = unfold shown in checked_honest

-- "0 valid": a build that answers 0 found the message valid
pub answered_valid : (message : List ℕ) (separator settings : ℕ) (dictionary : List ℕ) (lent : ℕ) → number_of (built_from message separator settings dictionary lent).answer ≡ 0 → (built_from message separator settings dictionary lent).answer ≡ Valid
unfolding built_from
answered_valid message separator settings dictionary lent z = (build_honest message (config_of settings separator) dictionary lent (replicate record_words 0)).honest z
