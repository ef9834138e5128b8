-- A message that was read with 0 has as many records as fields counted where no tag was stored twice in one map, and fewer where one was.
-- Each part tells so of its own records; no part makes up for a record that another lost.
use Rattle.std.specs.Prelude.{◌≡◌, Bool, false, length}
use Rattle.std.proofs.Math.Path.{refl}
use Rattle.std.proofs.Math.Bool.{true}
use mathlib.Core.List.{List, [], ◌∷◌}
use Prim.Native.Nat.{ℕ, suc, ◌+◌, ◌<◌}
use Rattle.std.proofs.Common.{arith}
use Rattle.build_config.specs.declared.Config.{Config}
use Rattle.field_rules.specs.Choice.{pick}
use Rattle.field_rules.specs.Fields.{field, fields_from}
use Rattle.build_integrity_rules.specs.declared.Verified.{Verified}
use Rattle.dictionary_layout_rules.specs.Tree.{Dictionary, knows, header_tags_lem, trailer_tags_lem}
use Rattle.build_records.specs.Records.{stored}
use Rattle.build_group_rules.specs.Reading.{accepted, layout_rules}
use Rattle.build_required_rules.specs.Checking.{layout_demands}
use Rattle.build_answers.specs.declared.Answer.TheVariants.{Valid}
use Rattle.build_parts.specs.Parts.{part_record}
use Rattle.build_rules.specs.Beginning.{header_of, verified_records}
use Rattle.build_rules.specs.Message.{Outcome, message_read}
use Rattle.build_order_laws.specs.Counted.{trailer_fields, fields_counted}
use Rattle.build_order_laws.specs.VerifiedTags.{VerifiedTags, verified-tags}
use Rattle.build_order_laws.specs.InParts.{InParts, in_parts}
use Rattle.build_order_laws.specs.InOrder.{Sizes, sizes}
use Rattle.build_order_laws.specs.Twice.{twice_in_header, twice_in_trailer, twice_in_body, twice_behind, twice_from_body, twice_from_header, stored_twice}
use Rattle.build_order_laws.specs.TwiceLaws.{Tells, tells_as, tells_then}
use Rattle.build_order_laws.proofs.TwiceInParts.{header_tells, trailer_tells, body_tells}

-- 8, 9 and 35 are stored side by side
pub three_verified : (v : Verified) → VerifiedTags v → length (verified_records v) ≡ 3
unfolding verified_records stored part_record
three_verified v t = rw (t.begins, t.counts, t.types) refl

module _ (dictionary : Dictionary) (config : Config) (message : List ℕ) where
  module _ (outcome : Outcome) (p : InParts dictionary config message outcome) where
    abbrev in_header : Bool
    in_header = twice_in_header (header_tags_lem dictionary) (fields_from config.mode message p.verified.msg_type.next) (verified_records p.verified)

    abbrev in_body : Bool
    in_body =
        twice_in_body (layout_rules (accepted config (knows dictionary))) layout_demands (trailer_tags_lem dictionary) p.layout (field p.f p.rest)
        (suc p.room) []

    abbrev in_trailer : Bool
    in_trailer = twice_in_trailer (field p.g p.more) (part_record 3 p.verified.checksum ∷ [])

    -- the three parts in turn
    twice_in_parts : stored_twice dictionary config message ≡ pick in_header true (pick in_body true in_trailer)
    unfolding stored_twice twice_from_header twice_from_body twice_behind
    twice_in_parts = rw (p.sound, p.header_read, p.chosen, p.body-read) refl

    parts_tell : Sizes dictionary config message outcome p
        → Tells (pick in_header true (pick in_body true in_trailer)) (fields_counted config.mode message outcome.stop) (length outcome.records)
    parts_tell s =
        let v = p.verified in
        let three = three_verified v (verified-tags config.mode message v p.sound) in
        let h =
        header_tells (header_tags_lem dictionary) (fields_from config.mode message v.msg_type.next) 1021 (verified_records v) p.f p.rest p.room
        p.header (unfold header_of in p.header_read) in
        let b =
        body_tells (layout_rules (accepted config (knows dictionary))) layout_demands (trailer_tags_lem dictionary) p.layout (field p.f p.rest)
        (suc p.room) [] p.g p.more p.room₂ p.body p.body-read in
        let t =
        trailer_tells (field p.g p.more) (suc p.room₂) (part_record 3 v.checksum ∷ []) outcome.stop p.whole-trailer p.trailer-read in
        let in_trailer_lem = trailer_fields (field p.g p.more) in
        let x : Tells in_header (fields_counted config.mode message outcome.stop) (length p.header + (s.of_body_lem.read + suc in_trailer_lem)) =
        tells_as in_header (omega (arith, three, s.counted, s.of_header.room_is, s.of_trailer.counted)) h in
        let y : Tells in_body (length p.header + (s.of_body_lem.read + suc in_trailer_lem)) (length p.header + (length p.body + suc in_trailer_lem)) =
        tells_as in_body (omega (arith, s.of_body_lem.room_is)) b in
        let z : Tells in_trailer (length p.header + (length p.body + suc in_trailer_lem)) (length outcome.records) =
        tells_as in_trailer (omega (arith, s.size)) t in
        tells_then in_header (pick in_body true in_trailer) x (tells_then in_body in_trailer y z)

  message_tells : (message_read dictionary config message).answer ≡ Valid
      → Tells (stored_twice dictionary config message) (fields_counted config.mode message (message_read dictionary config message).stop)
      (length (message_read dictionary config message).records)
  message_tells a =
      let p = in_parts dictionary config message a in
      rw (twice_in_parts _ p) (parts_tell _ p (sizes dictionary config message _ p))

  -- where no tag is stored twice in one map, each field has a record of its own
  pub once_all : (message_read dictionary config message).answer ≡ Valid → stored_twice dictionary config message ≡ false
      → length (message_read dictionary config message).records ≡ fields_counted config.mode message (message_read dictionary config message).stop
  once_all a once = (message_tells a).all once

  -- where one is, there are fewer records than fields
  pub twice_fewer : (message_read dictionary config message).answer ≡ Valid → stored_twice dictionary config message ≡ true
      → length (message_read dictionary config message).records < fields_counted config.mode message (message_read dictionary config message).stop
  twice_fewer a twice = (message_tells a).fewer twice
