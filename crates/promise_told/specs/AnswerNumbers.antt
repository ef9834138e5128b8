-- What a build returns with its answer fits in 32 bits: tags of fields, of counts and of the dictionary, and the place and length of MsgType,
-- which lies in the message. Header, body and trailer in turn.
use Prim.Native.Nat.{ℕ, zero, suc, ◌+◌, ◌≤◌, ◌<◌, ◌^◌}
use Rattle.std.specs.Prelude.{◌≡◌, Bool, length, eqb, ltb, Option, Some, None, Result, Ok, Err, ℕ}
use Rattle.std.proofs.Math.Path.{refl}
use Rattle.std.proofs.Math.Bool.{true, false}
use mathlib.Core.List.{List, [], ◌∷◌}
use native.Mathlib.Omega.{arith}
use Rattle.std.proofs.Common.{ltb-false}
use Rattle.field_rules.specs.Choice.{pick}
use Rattle.field_rules.specs.Separator.{is_refused_separator}
use Rattle.field_rules.specs.Fields.{Fields, unreadable, field, fields_from, Each}
use Rattle.field_rules.specs.declared.Field.{Field}
use Rattle.field_rules.specs.declared.Cause.{Cause}
use Rattle.build_config.specs.declared.Config.{Config}
use Rattle.build_integrity_rules.specs.Integrity.{integrity_of}
use Rattle.build_integrity_rules.proofs.VerifiedLaws.{verified-read}
use Rattle.dictionary_rules.specs.Check.{check_of, number_of_check}
use Rattle.dictionary_layout_rules.specs.Layout.{Layout, group_of, position_in}
use Rattle.dictionary_layout_rules.specs.Tree.{Dictionary, holds_tag, knows, header_tags_lem, trailer_tags_lem, Choice, no_message, laid_out, layout_of}
use Rattle.dictionary_meaning_rules.specs.Meaning.{dictionary_of}
use Rattle.dictionary_meaning_rules.proofs.MsgTypeText.{Bytes}
use Rattle.build_records.specs.Records.{stored, value_at}
use Rattle.build_records.specs.declared.Record.{Record}
use Rattle.build_group_rules.specs.Groups.{Rules, Opened, none, opened, run, outermost, RunOutcome, walk}
use Rattle.build_group_rules.specs.Groups.{ended as ran, refused as stops}
use Rattle.build_group_rules.specs.Reading.{list_store, answer_of, opened_as, accepted, layout_rules}
use Rattle.build_group_rules.specs.declared.Refusal.{Refusal}
use Rattle.build_group_rules.specs.declared.Refusal.TheVariants as refusals
use Rattle.build_required_rules.specs.Required.{run_lack}
use Rattle.build_required_rules.specs.Checking.{layout_demands}
use Rattle.build_required_rules.specs.declared.Lack.{Lack}
use Rattle.build_required_rules.specs.declared.Lack.TheVariants.{Missing, Complete}
use Rattle.build_nesting_laws.specs.Entries.{All, all_none, all_more}
use Rattle.build_answers.specs.Answer.{values_of}
use Rattle.build_answers.specs.declared.Answer.{Answer}
use Rattle.build_answers.specs.declared.Answer.TheVariants as answers
use Rattle.build_parts.specs.Parts.{Reading, ended, refused, part_record}
use Rattle.build_parts.specs.Header.{header_from}
use Rattle.build_parts.specs.Trailer.{Trailer, stopped, unstopped, crowded, trailer_from}
use Rattle.build_body_rules.specs.Body.{Kind, plain, counts, other, Body, and_then, next_from, with_run, takes, body_within, body_from}
use Rattle.build_body_rules.specs.Kinds.{checked, ran_as, run_from, body_of, body_kind, group_kind, placed_kind}
use Rattle.build_rules.specs.Beginning.{header_of, verified_records, with_checksum, started_by, start_of, msg_type_record}
use Rattle.build_rules.specs.Message.{refusal, after_trailer, after_body, after_type, after_header, message_read}
use Rattle.builder.specs.Build.{untouched, shown, checked_read, build_of}
use Rattle.promise_records.specs.Small.{Small, Kept}
use Rattle.promise_records.proofs.SmallLaws.{header-kept}
use Rattle.promise_records.proofs.SmallRead.{verified-kept}
use Rattle.promise_told.specs.DictionaryNumbers.{value_of_check, check_small}
use Rattle.promise_told.specs.LayoutNumbers.{LayoutSmall, ChoiceSmall, layout_small, group_of_small}
use Rattle.promise_told.specs.RunNumbers.{FieldTagSmall, fields_small, first_small, rest_small, RefusalSmall, RunSmall, LackSmall, nothing_open, run_open, walk_small, OpenedSmall, opened_small, run_small}
use Rattle.build_integrity_rules.specs.declared.GarbledReason.{GarbledReason}
use Rattle.build_integrity_rules.specs.declared.Verified.{Verified}

-- the values that an answer returns
pub record AnswerSmall (answer : Answer) : Type 0 where
  pub first : (values_of answer).0 < 2 ^ 32
  pub second : (values_of answer).1 < 2 ^ 32

-- no values
malformed_small : (cause : Cause) (place : ℕ) → AnswerSmall (answers.Malformed cause place)
unfolding values_of
malformed_small cause place = record { first = omega arith; second = omega arith }

pub too_many_small : AnswerSmall answers.TooManyFields
unfolding values_of
too_many_small = record { first = omega arith; second = omega arith }

-- how a part ends: at a field, or refused
abbrev ReadingSmall : Reading → Type 0
ReadingSmall (ended f rest room rs) = Each FieldTagSmall (field f rest)
ReadingSmall (refused answer) = AnswerSmall answer

-- ===== the header =====

header_small : (tags : List ℕ) (fields : Fields) (room : ℕ) (rs : List Record) → Each FieldTagSmall fields → ReadingSmall (header_from tags fields room rs)
unfolding header_from
header_small tags (unreadable cause place) room rs e = malformed_small cause place
header_small tags (field f rest) zero rs e = too_many_small
header_small tags (field f rest) (suc room) rs e = by_tag (holds_tag f.tag tags) (header_small tags rest room (stored (part_record 1 f) rs) (rest_small e))
  where
    by_tag : (b : Bool) → ReadingSmall (header_from tags rest room (stored (part_record 1 f) rs))
        → ReadingSmall (pick b (header_from tags rest room (stored (part_record 1 f) rs)) (ended f rest room rs))
    by_tag true later = later
    by_tag false later = e

-- ===== the body =====

then_small : (r : Reading) (on : Fields → ℕ → List Record → Reading) → ReadingSmall r
    → ((fields : Fields) (room : ℕ) (rs : List Record) → Each FieldTagSmall fields → ReadingSmall (on fields room rs))
    → ReadingSmall (and_then r on)
unfolding and_then
then_small (ended f rest room rs) on r later = later (field f rest) (suc room) rs r
then_small (refused answer) on r later = r

next_small : (fields : Fields) (room : ℕ) (rs : List Record) → Each FieldTagSmall fields → ReadingSmall (next_from fields room rs)
unfolding next_from
next_small (unreadable cause place) room rs e = malformed_small cause place
next_small (field f rest) zero rs e = too_many_small
next_small (field f rest) (suc room) rs e = e

with_run_small : (r : Record) (rs : List Record) (reading : Reading) → ReadingSmall reading → ReadingSmall (with_run r rs reading)
unfolding with_run
with_run_small r rs (ended f rest room es) e = e
with_run_small r rs (refused answer) e = e

checked_small : (f : Field) (rest : Fields) (room : ℕ) (es : List Record) (lack : Lack) → Each FieldTagSmall (field f rest) → LackSmall lack
    → ReadingSmall (checked f rest room es lack)
unfolding checked values_of
checked_small f rest room es Complete e l = e
checked_small f rest room es (Missing tag group) e l = record { first = l.0; second = l.1 }

refused_small : (r : Refusal) → RefusalSmall r → AnswerSmall (answer_of r)
unfolding answer_of values_of
refused_small (refusals.Malformed cause place) s = malformed_small cause place
refused_small refusals.TooManyFields s = too_many_small
refused_small (refusals.InvalidOrderInGroup tag group) s = record { first = s.0; second = s.1 }

module _ (rules : Rules Layout) where
  ran_small : (inner : Layout) (tag : ℕ) (o : RunOutcome (List Record) (List Record)) → LayoutSmall inner → tag < 2 ^ 32 → RunSmall o
      → ReadingSmall (ran_as rules layout_demands inner tag o)
  unfolding ran_as
  ran_small inner tag (ran f rest room es) l t r =
      checked_small f rest room es (run_lack layout_demands 4 inner tag 1 es) r.0 (run_small 4 1 inner tag es l t r.1)
  ran_small inner tag (stops s es) l t r = refused_small s r

  from_small : (inner : Layout) (tag : ℕ) (fields : Fields) (room : ℕ) → LayoutSmall inner → tag < 2 ^ 32 → Each FieldTagSmall fields
      → ReadingSmall (run_from rules layout_demands inner tag fields room)
  unfolding run_from
  from_small inner tag fields room l t e =
      ran_small inner tag (walk rules list_store room (run (outermost tag inner) 0 ∷ []) [] fields) l t
      (walk_small rules room (run (outermost tag inner) 0 ∷ []) [] fields (run_open t nothing_open) all_none e)

-- a count opens a layout of the dictionary
abbrev KindSmall : Kind Layout → Type 0
KindSmall plain = Unit {0}
KindSmall (counts inner) = LayoutSmall inner
KindSmall other = Unit {0}

group_kind_lem : (o : Opened Layout) → OpenedSmall o → KindSmall (group_kind o)
unfolding group_kind
group_kind_lem none p = tt
group_kind_lem (opened inner) p = p

module _ (accepts : ℕ → Bool) (tags : List ℕ) (level : Layout) (small : LayoutSmall level) where
  abbrev body : Body Layout
  body = body_of (layout_rules accepts) layout_demands tags level

  kind_small : (tag : ℕ) → KindSmall (body_kind (layout_rules accepts) level tag)
  unfolding body_kind layout_rules
  kind_small tag = by_position (position_in tag level)
    where
      by_position : (p : Option ℕ) → KindSmall (placed_kind (layout_rules accepts) level tag p)
      by_position (Some position) = unfold placed_kind in group_kind_lem (opened_as (group_of tag level)) (opened_small (group_of tag level) (group_of_small tag small))
      by_position None = unfold placed_kind in by_test (accepts tag)
        where
          by_test : (b : Bool) → KindSmall (pick b plain other)
          by_test true = tt
          by_test false = tt

  body_small : (turns : ℕ) (fields : Fields) (room : ℕ) (rs : List Record) → Each FieldTagSmall fields → ReadingSmall (body_within body turns fields room rs)
  unfolding body_within body_of
  body_small zero fields room rs e = too_many_small
  body_small (suc turns) (unreadable cause place) room rs e = malformed_small cause place
  body_small (suc turns) (field f rest) zero rs e = too_many_small
  body_small (suc turns) (field f rest) (suc room) rs e =
      by_kind (body_kind (layout_rules accepts) level f.tag) (kind_small f.tag) (λ fields₁ room₁ rs₁ e₁. body_small turns fields₁ room₁ rs₁ e₁)
    where
      by_kind : (k : Kind Layout) → KindSmall k
          → ((fields₁ : Fields) (room₁ : ℕ) (rs₁ : List Record) → Each FieldTagSmall fields₁ → ReadingSmall (body_within body turns fields₁ room₁ rs₁))
          → ReadingSmall (takes body (body_within body turns) f rest room rs k)
      by_kind plain k later = unfold takes in then_small _ _ (next_small rest room (stored (part_record 2 f) rs) (rest_small e)) later
      by_kind (counts inner) k later =
          unfold takes in then_small _ _
          (with_run_small (part_record 2 f) rs _ (from_small (layout_rules accepts) inner f.tag rest room k (first_small e) (rest_small e))) later
      by_kind other k later = unfold takes in by_tag (holds_tag f.tag tags)
        where
          by_tag : (b : Bool) → ReadingSmall (pick b (ended f rest room rs) (refused (answers.InvalidField f.tag)))
          by_tag true = e
          by_tag false = unfold values_of in record { first = first_small e; second = omega arith }

-- ===== the message =====

-- MsgType lies in the message
type-inside : (message : List ℕ) (rs : List Record) → All (Small message) rs → (msg_type_record rs).place + (msg_type_record rs).length ≤ length message
unfolding msg_type_record
type-inside message [] a = omega arith
type-inside message (r ∷ rs) (all_more p a) = by_tag (eqb r.tag 35) (type-inside message rs a)
  where
    by_tag : (b : Bool) → (msg_type_record rs).place + (msg_type_record rs).length ≤ length message
        → (pick b r (msg_type_record rs)).place + (pick b r (msg_type_record rs)).length ≤ length message
    by_tag true later = p.inside
    by_tag false later = later

trailer_small : (h b : List Record) (t : Trailer) → AnswerSmall (after_trailer h b t).answer
unfolding after_trailer refusal values_of
trailer_small h b (stopped f rs) = record { first = omega arith; second = omega arith }
trailer_small h b (unstopped rs) = record { first = omega arith; second = omega arith }
trailer_small h b crowded = too_many_small

after_body_lem : (h : List Record) (checksum : Field) (r : Reading) → ReadingSmall r → AnswerSmall (after_body h checksum r).answer
unfolding after_body refusal
after_body_lem h checksum (refused answer) s = s
after_body_lem h checksum (ended f rest room b) s = trailer_small h b (trailer_from (field f rest) (suc room) (part_record 3 checksum ∷ []))

module _ (message : List ℕ) (short : length message ≤ 8192) (dictionary : Dictionary) (config : Config)
    (layouts : (msg_type : List ℕ) → ChoiceSmall (layout_of dictionary msg_type)) where
  after_type_lem : (f : Field) (rest : Fields) (room : ℕ) (h : List Record) (checksum : Field) (choice : Choice) → ChoiceSmall choice
      → All (Small message) h → Each FieldTagSmall (field f rest)
      → AnswerSmall (after_type dictionary config f rest room h checksum choice).answer
  unfolding after_type refusal values_of
  after_type_lem f rest room h checksum no_message c a e =
      let inside = type-inside message h a in
      record { first = omega (arith, inside, short); second = omega (arith, inside, short) }
  after_type_lem f rest room h checksum (laid_out layout) c a e =
      after_body_lem h checksum _
      (unfold body_from in body_small (accepted config (knows dictionary)) (trailer_tags_lem dictionary) layout c (suc (suc room)) (field f rest) (suc room) [] e)

  after_header_lem : (checksum : Field) (r : Reading) → ReadingSmall r
      → ((f : Field) (rest : Fields) (room : ℕ) (h : List Record) → r ≡ ended f rest room h → Kept message (field f rest) (suc room) h)
      → AnswerSmall (after_header dictionary config message (with_checksum checksum r)).answer
  unfolding after_header with_checksum refusal
  after_header_lem checksum (refused answer) s k = s
  after_header_lem checksum (ended f rest room h) s k =
      after_type_lem f rest room h checksum _ (layouts (value_at message (msg_type_record h))) (k f rest room h refl).small s

  started_small : (i : Result Verified GarbledReason) → integrity_of config.mode message ≡ i
      → AnswerSmall (after_header dictionary config message (started_by (header_tags_lem dictionary) config message i)).answer
  unfolding started_by
  started_small (Err reason) e = unfold after_header refusal values_of in record { first = omega arith; second = omega arith }
  started_small (Ok v) e =
      let fields = fields_from config.mode message v.msg_type.next in
      let kept = verified-kept message dictionary config v (verified-read config.mode message v e) in
      after_header_lem v.checksum (header_of (header_tags_lem dictionary) config message v)
      (unfold header_of in header_small (header_tags_lem dictionary) fields 1021 (verified_records v) (fields_small config.mode message v.msg_type.next))
      (λ f rest room h q. header-kept (header_tags_lem dictionary) fields 1021 (verified_records v) kept f rest room h (unfold header_of in q))

  read_small : AnswerSmall (message_read dictionary config message).answer
  unfolding message_read start_of
  read_small = started_small (integrity_of config.mode message) refl

-- ===== the build =====

-- whatever the build answers
pub build_small : (message : List ℕ) (config : Config) (dictionary : List ℕ) (lent : ℕ) (words : List ℕ) → Bytes dictionary
    → AnswerSmall (build_of message config dictionary lent words).answer
unfolding build_of
build_small message config dictionary lent words bytes =
    by_tests (is_refused_separator config.mode.separator) (ltb lent 1024) (ltb 8192 (length message)) refl
  where
    checked-answer : length message ≤ 8192 → (b : Bool)
        → AnswerSmall (pick b (message_read (dictionary_of dictionary) config message) (refusal (answers.BadDictionary (check_of dictionary)) [])).answer
    checked-answer short true = read_small message short (dictionary_of dictionary) config (λ msg_type. layout_small dictionary msg_type bytes)
    checked-answer short false = unfold refusal values_of in record { first = unfold value_of_check in check_small dictionary bytes; second = omega arith }

    by_tests : (x y z : Bool) → ltb 8192 (length message) ≡ z
        → AnswerSmall
        (pick x (untouched answers.InvalidSeparator words)
        (pick y (untouched answers.TooFewRecords words)
        (pick z (untouched answers.TooLong words) (shown lent (checked_read message config dictionary (check_of dictionary)))))
        ).answer
    by_tests true y z e = unfold untouched values_of in record { first = omega arith; second = omega arith }
    by_tests false true z e = unfold untouched values_of in record { first = omega arith; second = omega arith }
    by_tests false false true e = unfold untouched values_of in record { first = omega arith; second = omega arith }
    by_tests false false false e = unfold shown checked_read in checked-answer (ltb-false 8192 (length message) e) (eqb (number_of_check (check_of dictionary)) 0)
