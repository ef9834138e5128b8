-- THEOREM 5, which value is lost: where a tag was stored twice in one map of a message that was read with 0, an earlier field with the tag has no
-- record in that map. In header, body and trailer the one record there under the tag is of a later one.
use Rattle.std.specs.Prelude.{◌≡◌, Bool, true, false, ℕ, suc}
use Rattle.std.proofs.Math.Path.{refl, ap}
use Rattle.std.proofs.Common.{sym, ◌∙◌, ne_eqb}
use mathlib.Core.List.{List, [], ◌∷◌}
use Rattle.build_config.specs.declared.Config.{Config}
use Rattle.field_rules.specs.Choice.{pick}
use Rattle.field_rules.specs.Fields.{field, fields_from}
use Rattle.dictionary_layout_rules.specs.Tree.{Dictionary, knows, header_tags_lem, trailer_tags_lem}
use Rattle.build_records.specs.Records.{stored}
use Rattle.build_group_rules.specs.Reading.{accepted, layout_rules}
use Rattle.build_required_rules.specs.Checking.{layout_demands}
use Rattle.build_nesting_laws.specs.Entries.{all_none}
use Rattle.build_answers.specs.declared.Answer.TheVariants.{Valid}
use Rattle.build_parts.specs.Parts.{part_record}
use Rattle.build_body_rules.specs.Body.{body_from}
use Rattle.build_rules.specs.Beginning.{verified_records}
use Rattle.build_rules.specs.Message.{Outcome, message_read}
use Rattle.build_order_laws.specs.Follows.{here}
use Rattle.build_order_laws.specs.VerifiedTags.{verified-tags}
use Rattle.build_order_laws.specs.InParts.{InParts, in_parts}
use Rattle.build_order_laws.specs.Twice.{twice_in_header, twice_in_trailer, twice_in_body, twice_behind, twice_from_body, twice_from_header, stored_twice}
use Rattle.promise_roundtrip.specs.UnderTag.{under, single-none}
use Rattle.promise_roundtrip.specs.LastRead.{latest, trailer_takes}
use Rattle.promise_roundtrip.proofs.LastReadLaws.{field-single, stored_one, verified-single, verified-last, of_header, of_body}
use Rattle.promise_roundtrip.specs.LaterHeld.{LaterHeld}
use Rattle.promise_roundtrip.proofs.LaterHeldLaws.{body-starts, header_loses, body_loses, trailer_loses}
use Rattle.promise_roundtrip.proofs.TwiceRepeats.{RepeatedIn, NotTen, header_repeats, trailer_repeats}
use Rattle.promise_roundtrip.proofs.TwiceInBody.{EntryLoses, BodyTwice, of_body_lem, of_entry, body_repeats}

module _ (dictionary : Dictionary) (config : Config) (message : List ℕ) where
  module _ {outcome : Outcome} (p : InParts dictionary config message outcome) where
    -- Two fields with one tag that a map took, and what it holds under the tag. In an entry only unknown user tags can be two, for declared ones
    -- that don't rise are answered with 2; what joins an entry is stored there as in any map (`under-joined`), and no record of the body is the earlier's.
    pub data EarlierLost : Type 0 where
      in_header_lem : (r : RepeatedIn (of_header dictionary config message p)) → LaterHeld 1 r.earlier r.later (under 0 r.later.tag p.header)
          → EarlierLost
      in_body_lem : (r : RepeatedIn (of_body dictionary config message p)) → LaterHeld 2 r.earlier r.later (under 0 r.later.tag p.body) → EarlierLost
      in_trailer_lem : (r : RepeatedIn (trailer_takes (field p.g p.more))) → LaterHeld 3 r.earlier r.later (under 0 r.later.tag p.whole-trailer)
          → EarlierLost
      in_entry : EntryLoses (layout_rules (accepted config (knows dictionary))) layout_demands (trailer_tags_lem dictionary) p.layout (field p.f p.rest)
          p.body
          → EarlierLost

    abbrev in_header : Bool
    in_header = twice_in_header (header_tags_lem dictionary) (fields_from config.mode message p.verified.msg_type.next) (verified_records p.verified)

    abbrev in_body : Bool
    in_body =
        twice_in_body (layout_rules (accepted config (knows dictionary))) layout_demands (trailer_tags_lem dictionary) p.layout (field p.f p.rest)
        (suc p.room) []

    abbrev in_trailer : Bool
    in_trailer = twice_in_trailer (field p.g p.more) (part_record 3 p.verified.checksum ∷ [])

    twice_in_parts : stored_twice dictionary config message ≡ pick in_header true (pick in_body true in_trailer)
    unfolding stored_twice twice_from_header twice_from_body twice_behind
    twice_in_parts = rw (p.sound, p.header_read, p.chosen, p.body-read) refl

    header_lost : in_header ≡ true → EarlierLost
    header_lost e =
        let v = p.verified in
        let r =
        header_repeats (header_tags_lem dictionary) (v.begin_string ∷ v.body_length ∷ v.msg_type ∷ [])
        (fields_from config.mode message v.msg_type.next) (verified_records v)
        (record { single = verified-single v; same = λ tag asked. verified-last v tag }) e in
        in_header_lem r (header_loses dictionary config message p r.earlier r.later r.repeats)

    body_lost : in_body ≡ true → EarlierLost
    unfolding twice_in_body
    body_lost e =
        by_place
        (body_repeats (layout_rules (accepted config (knows dictionary))) layout_demands (trailer_tags_lem dictionary) p.layout (field p.f p.rest) p.g
        p.more p.room₂ p.body (suc (suc p.room)) [] (field p.f p.rest) (suc p.room) [] _ 0
        (record { single = single-none 0; same = λ tag asked. nothing-held tag }) (body-starts dictionary config message p) all_none here
        (unfold body_from in p.body-read) e)
      where
        nothing-held : (tag : ℕ) → under 0 tag [] ≡ latest 2 tag [] []
        nothing-held tag = unfold under latest in refl

        by_place : BodyTwice (layout_rules (accepted config (knows dictionary))) layout_demands (trailer_tags_lem dictionary) p.layout (field p.f p.rest)
            (of_body dictionary config message p) p.body
            → EarlierLost
        by_place (of_body_lem r) = in_body_lem r (body_loses dictionary config message p r.earlier r.later r.repeats)
        by_place (of_entry l) = in_entry l

    -- "The verified CheckSum stands first in the trailer", under 10
    sum_apart : (tag : ℕ) → NotTen tag → under 0 tag (stored (part_record 3 p.verified.checksum) []) ≡ latest 3 tag [] []
    unfolding latest
    sum_apart tag other =
        stored_one 3 p.verified.checksum tag
        ∙ ap (λ (b : Bool). pick b (part_record 3 p.verified.checksum ∷ []) [])
        (ne_eqb p.verified.checksum.tag tag (λ e. other (sym e ∙ (verified-tags config.mode message p.verified p.sound).sums)))

    trailer_lost : in_trailer ≡ true → EarlierLost
    trailer_lost e =
        let r =
        trailer_repeats [] (field p.g p.more) (stored (part_record 3 p.verified.checksum) [])
        (record { single = field-single 3 p.verified.checksum [] (single-none 0); same = sum_apart }) (unfold stored in e) in
        in_trailer_lem r (trailer_loses dictionary config message p r.earlier r.later r.repeats)

    parts_lose : pick in_header true (pick in_body true in_trailer) ≡ true → EarlierLost
    parts_lose = by_tests in_header in_body refl refl
      where
        by_tests : (h b : Bool) → in_header ≡ h → in_body ≡ b → pick h true (pick b true in_trailer) ≡ true → EarlierLost
        by_tests true b h k e = header_lost h
        by_tests false true h k e = body_lost k
        by_tests false false h k e = trailer_lost e

  -- "If a tag was stored twice in one map", the earlier value is lost
  pub stored_twice_earlier : (a : (message_read dictionary config message).answer ≡ Valid) → stored_twice dictionary config message ≡ true
      → EarlierLost (in_parts dictionary config message a)
  stored_twice_earlier a twice = let p = in_parts dictionary config message a in parts_lose p (sym (twice_in_parts p) ∙ twice)
