-- What was built with 0 and taken over is encoded, whether a tag was stored twice in it or not: the separator is one that the build took, the
-- header holds 8 and 35, every run has its count, and there are no more fields than records. Only 20 and 23 are left, by its length.
use Rattle.std.specs.Prelude.{◌≡◌, refl, Bool, true, false, List, [], ◌∷◌, ◌++◌, ℕ, zero, suc, ◌≤◌, ◌<◌, length, drop, eqb, Option}
use Rattle.std.proofs.Common.{ap, ◌∙◌, arith}
use Rattle.build_config.specs.declared.Config.{Config}
use Rattle.field_rules.specs.Choice.{pick}
use Rattle.field_rules.specs.Separator.{is_refused_separator}
use Rattle.field_rules.specs.Fields.{Fields, unreadable, field, fields_from}
use Rattle.field_rules.specs.declared.Field.{Field}
use Rattle.dictionary_layout_rules.specs.Tree.{Dictionary, knows, header_tags_lem, trailer_tags_lem, holds_tag}
use Rattle.build_records.specs.Records.{stored}
use Rattle.build_records.specs.declared.Record.{Record}
use Rattle.build_group_rules.specs.Groups.{Rules, Frame, walk}
use Rattle.build_group_rules.specs.Groups.{ended as ran, entry_record}
use Rattle.build_group_rules.specs.Reading.{accepted, layout_rules, list_store}
use Rattle.build_required_rules.specs.Checking.{layout_demands}
use Rattle.build_nesting_laws.specs.Formed.{Own}
use Rattle.build_nesting_laws.specs.Entries.{All, all_none, all_more, all_append, all-stored}
use Rattle.build_answers.specs.declared.Answer.TheVariants.{Valid}
use Rattle.build_parts.specs.Parts.{ended, part_record}
use Rattle.build_parts.specs.Header.{header_from}
use Rattle.build_parts.specs.Trailer.{stopped, trailer_from}
use Rattle.build_body_rules.specs.Body.{body_from}
use Rattle.build_rules.specs.Beginning.{header_of, verified_records}
use Rattle.build_rules.specs.Message.{Outcome, message_read}
use Rattle.message_lent_rules.specs.Meaning.{Message, words_of, value_bytes_of}
use Rattle.message_lent_rules.proofs.FormedLaws.{layout_lends}
use Rattle.message_rules.specs.Changes.{field_total}
use Rattle.message_read_laws.specs.Parted.{Takes}
use Rattle.message_read_laws.specs.PartReading.{of_field, own-field}
use Rattle.message_read_laws.specs.BodyReading.{all-run}
use Rattle.encode_rules.specs.Encoding.{dropped, encoding, encoded_message}
use Rattle.encode_rules.specs.Encode.{has_uncounted, is_incomplete, left, encoded, encoding_of}
use Rattle.encode_rules.specs.declared.Encoding.TheVariants.{Written, TooLong, NoRoom}
use Rattle.encoder.specs.CountLaws.{dropped-uncounted}
use Rattle.encoder.specs.VerdictLaws.{refused_long, refused-room, found_fit, encodes, refuses}
use Rattle.build_order_laws.specs.InParts.{InParts, in_parts}
use Rattle.build_order_laws.specs.TrailerStores.{trailer_at, not_crowded, stopped-with, unstopped-with, trailer-own}
use Rattle.encode_rewriting_laws.proofs.EncodedText.{stands-counted}
use Rattle.encode_rewriting_laws.proofs.EncodedParts.{InPart, Parted, stands_parted}
use Rattle.encode_rewriting_laws.proofs.EncodedFit.{no_run}
use Rattle.promise_roundtrip.specs.BodyTurns.{body-ends}
use Rattle.promise_roundtrip.specs.RunSteps.{run_ends}
use Rattle.promise_roundtrip.specs.StoredOver.{all-joined}
use Rattle.promise_roundtrip.specs.DealerHolds.{begin_string-held, length-held, msg_type-held, checksum_held, header-holds, encoded_records}

-- ===== each record says its part =====

part_field : (part : ℕ) (f : Field) → InPart part (part_record part f)
part_field part f = record { of = (of_field part f).of }

header-part : (tags : List ℕ) (fields : Fields) (room : ℕ) (rs : List Record) (f : Field) (rest : Fields) (room₁ : ℕ) (rs₁ : List Record)
    → header_from tags fields room rs ≡ ended f rest room₁ rs₁ → All (InPart 1) rs → All (InPart 1) rs₁
unfolding header_from
header-part tags (unreadable cause place) room rs f rest room₁ rs₁ e a = let z : ◌≡◌ {A = ℕ} 0 1 = cc in absurd (omega arith)
header-part tags (field g more) zero rs f rest room₁ rs₁ e a = let z : ◌≡◌ {A = ℕ} 0 1 = cc in absurd (omega arith)
header-part tags (field g more) (suc room) rs f rest room₁ rs₁ e a =
    by_tag (holds_tag g.tag tags) e (λ q. header-part tags more room (stored (part_record 1 g) rs) f rest room₁ rs₁ q
    (all-stored _ (part_record 1 g) (part_field 1 g) a))
  where
    by_tag : (b : Bool) → pick b (header_from tags more room (stored (part_record 1 g) rs)) (ended g more room rs) ≡ ended f rest room₁ rs₁
        → (header_from tags more room (stored (part_record 1 g) rs) ≡ ended f rest room₁ rs₁ → All (InPart 1) rs₁) → All (InPart 1) rs₁
    by_tag true e later = later e
    by_tag false e later = let d : rs ≡ rs₁ = cc in rw (← d) a

trailer-part : (fields : Fields) (room : ℕ) (rs : List Record) (stop : Option Field) (ts : List Record) → trailer_from fields room rs ≡ trailer_at stop ts
    → All (InPart 3) rs → All (InPart 3) ts
unfolding trailer_from
trailer-part (unreadable cause place) zero rs stop ts e a = absurd (not_crowded stop ts e)
trailer-part (unreadable cause place) (suc room) rs stop ts e a = let d = unstopped-with rs ts stop e in rw (← d) a
trailer-part (field g more) zero rs stop ts e a = absurd (not_crowded stop ts e)
trailer-part (field g more) (suc room) rs stop ts e a =
    by_tag (eqb g.tag 10) e (λ q. trailer-part more room (stored (part_record 3 g) rs) stop ts q (all-stored _ (part_record 3 g) (part_field 3 g) a))
  where
    by_tag : (b : Bool) → pick b (stopped g rs) (trailer_from more room (stored (part_record 3 g) rs)) ≡ trailer_at stop ts
        → (trailer_from more room (stored (part_record 3 g) rs) ≡ trailer_at stop ts → All (InPart 3) ts) → All (InPart 3) ts
    by_tag true q later = let d = stopped-with rs ts g stop q in rw (← d) a
    by_tag false q later = later q

entry-part : (depth number : ℕ) (f : Field) → InPart 2 (entry_record depth number f)
unfolding entry_record
entry-part depth number f = record { of = refl }

run-part : {L : Type 0} (rules : Rules L) (room : ℕ) (stack : List (Frame L)) (fields : Fields) (f : Field) (rest : Fields) (room₁ : ℕ) (rs : List Record)
    → walk rules list_store room stack [] fields ≡ ran f rest room₁ rs → All (InPart 2) rs
run-part rules room stack fields f rest room₁ rs e =
    run_ends rules (λ at ss. All (InPart 2) ss)
    (λ g more ss depth number a. all_append _ a (all_more {r = entry_record depth number g} (entry-part depth number g) all_none))
    (λ g more ss start depth number a. all-joined start (entry_record depth number g) ss (entry-part depth number g) a) room stack [] fields f rest room₁ rs e
    all_none

module _ (dictionary : Dictionary) (config : Config) (message : List ℕ) (outcome : Outcome) (p : InParts dictionary config message outcome) where
  whole-header : All (InPart 1) p.header
  unfolding verified_records
  whole-header =
      let v = p.verified in
      header-part (header_tags_lem dictionary) (fields_from config.mode message v.msg_type.next) 1021 (verified_records v) p.f p.rest p.room
      p.header (unfold header_of in p.header_read)
      (all-stored _ _ (part_field 1 v.msg_type)
      (all-stored _ _ (part_field 1 v.body_length) (all-stored _ _ (part_field 1 v.begin_string) all_none)))

  whole-body : All (InPart 2) p.body
  whole-body =
      let rules = layout_rules (accepted config (knows dictionary)) in
      (body-ends rules layout_demands (trailer_tags_lem dictionary) p.layout (λ turns fields room rs. All (InPart 2) rs)
      (λ turns f rest room rs k a. all-stored _ (part_record 2 f) (part_field 2 f) a)
      (λ turns f rest room rs inner g more room₁ es k w a. all-run (part_record 2 f) es rs (part_field 2 f)
      (run-part rules room _ rest g more room₁ es w.walked) a)
      p.g p.more p.room₂ p.body (suc (suc p.room)) (field p.f p.rest) (suc p.room) []
      (unfold body_from in p.body-read) all_none).holds

  all-trailer : All (InPart 3) p.whole-trailer
  all-trailer =
      trailer-part (field p.g p.more) (suc p.room₂) (part_record 3 p.verified.checksum ∷ []) outcome.stop p.whole-trailer p.trailer-read
      (all_more {r = part_record 3 p.verified.checksum} (part_field 3 p.verified.checksum) all_none)

  -- no run hangs in the trailer
  own-trailer : All (Own 0 0) p.whole-trailer
  own-trailer =
      trailer-own (field p.g p.more) (suc p.room₂) (part_record 3 p.verified.checksum ∷ []) outcome.stop p.whole-trailer p.trailer-read
      (all_more {r = part_record 3 p.verified.checksum} (own-field 3 p.verified.checksum) all_none)

  -- ===== never 43 =====
  module _ (t : Takes message outcome.records) where
    parted : Parted t.stand p.records whole-header whole-body all-trailer
    parted = stands_parted t.stand p.records whole-header whole-body all-trailer

    all-counted : has_uncounted t.meant ≡ false
    unfolding has_uncounted
    all-counted =
        let f = t.within.formed in
        rw (stands-counted parted.header-stands f.header, stands-counted parted.body_stands f.body)
        (stands-counted parted.trailer-stands f.trailer)

    pub complete : is_incomplete (dropped t.meant) ≡ false
    unfolding is_incomplete dropped
    complete =
        rw (
          header-holds t.stand (begin_string-held dictionary config message outcome p),
          header-holds t.stand (msg_type-held dictionary config message outcome p),
        )
        (dropped-uncounted t.meant t.within.formed.trailer ∙ rw (no_run 10 parted.trailer-stands own-trailer, all-counted))

-- what an encode of a message answers and leaves, by the length of its encoding alone: "Encode: 22, 43, 20, 21, 23", of which 20 and 23 are left
pub record OnlyLength (separator : ℕ) (m : Message) (output : List ℕ) : Type 0 where
  pub written : length (encoding separator m) ≤ 8192 → length (encoding separator m) ≤ length output
      → encoding_of separator (words_of m) (value_bytes_of m) output
      ≡ left (Written (length (encoding separator m))) (words_of (encoded_message separator m)) (value_bytes_of (encoded_message separator m))
      (encoding separator m ++ drop (length (encoding separator m)) output)
  pub too_long : 8192 < length (encoding separator m)
      → encoding_of separator (words_of m) (value_bytes_of m) output ≡ left TooLong (words_of m) (value_bytes_of m) output
  pub no_room : length (encoding separator m) ≤ 8192 → length output < length (encoding separator m)
      → encoding_of separator (words_of m) (value_bytes_of m) output ≡ left NoRoom (words_of m) (value_bytes_of m) output

-- A message that was read with 0, with whatever tags in its dictionary's header, and repeats or not
pub built_encodes : (dictionary : Dictionary) (config : Config) (message output : List ℕ) → (message_read dictionary config message).answer ≡ Valid
    → is_refused_separator config.mode.separator ≡ false
    → (t : Takes message (message_read dictionary config message).records) → OnlyLength config.mode.separator t.meant output
built_encodes dictionary config message output a separates t =
    let p = in_parts dictionary config message a in
    let separator = config.mode.separator in
    let m = t.meant in
    let l = layout_lends m t.within in
    let whole = complete dictionary config message _ p t in
    let few : field_total (encoded_message separator m) ≤ 1024 =
    omega (arith, encoded_records separator t (length-held dictionary config message _ p) (checksum_held dictionary config message _ p), t.few) in
    record {
      written = λ short fits.
          encodes separator (words_of m) (value_bytes_of m) output _
          (found_fit (words_of m) (value_bytes_of m) l.is_message separator (length output) separates (rw l.meant whole) (rw l.meant short)
          (rw l.meant few) (rw l.meant fits))
          ∙ ap (λ (n : Message). encoded separator n output) l.meant ∙ (unfold encoded in refl);
      too_long =
          λ long. refuses separator (words_of m) (value_bytes_of m) output TooLong
          (refused_long (words_of m) (value_bytes_of m) l.is_message separator (length output) separates (rw l.meant whole) (rw l.meant long));
      no_room =
          λ short full. refuses separator (words_of m) (value_bytes_of m) output NoRoom
          (refused-room (words_of m) (value_bytes_of m) l.is_message separator (length output) separates (rw l.meant whole) (rw l.meant short)
          (rw l.meant few) (rw l.meant full));
    }
