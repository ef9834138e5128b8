-- What reading a message again stands on: verified fields that make similar records, MsgType third in the header, and the parts put
-- together to what is read.
use Rattle.std.specs.Prelude.{◌≡◌, Bool, List, [], ◌∷◌, ◌++◌, ℕ, suc, Some, Ok}
use Rattle.std.proofs.Math.Path.{refl}
use Rattle.std.proofs.Common.{sym, ◌∙◌}
use Rattle.build_records.specs.Records.{value_at}
use Rattle.build_config.specs.declared.Config.{Config}
use Rattle.field_rules.specs.Field.{value_of}
use Rattle.field_rules.specs.Fields.{Fields, field}
use Rattle.field_rules.specs.declared.Field.{Field}
use Rattle.build_integrity_rules.specs.Integrity.{integrity_of}
use Rattle.build_integrity_rules.specs.declared.Verified.{Verified}
use Rattle.dictionary_layout_rules.specs.Tree.{Dictionary, knows, header_tags_lem, trailer_tags_lem, laid_out, layout_of}
use Rattle.build_records.specs.declared.Record.{Record}
use Rattle.build_group_rules.specs.Reading.{accepted, layout_rules}
use Rattle.build_required_rules.specs.Checking.{layout_demands}
use Rattle.build_answers.specs.declared.Answer.TheVariants.{Valid}
use Rattle.build_parts.specs.Parts.{ended, part_record}
use Rattle.build_parts.specs.Trailer.{stopped, trailer_from}
use Rattle.build_body_rules.specs.Body.{body_from}
use Rattle.build_body_rules.specs.Kinds.{body_of}
use Rattle.build_rules.specs.Beginning.{header_of, verified_records, with_checksum, started_by, start_of, msg_type_record}
use Rattle.build_rules.specs.Message.{after_trailer, after_body, after_type, after_header, message_read}
use Rattle.build_order_laws.specs.VerifiedTags.{VerifiedTags}
use Rattle.build_order_laws.specs.InOrder.{verified_three}
use Rattle.build_order_laws.proofs.TwiceMessage.{three_verified}
use Rattle.build_order_laws.specs.Agree.{Similar, none}
use Rattle.build_order_laws.specs.SimilarLaws.{similar_stored, alike_field}

-- the verified fields stand side by side
pub verified-first : (v : Verified) → VerifiedTags v → verified_records v ≡ part_record 1 v.begin_string ∷ part_record 1 v.body_length ∷ part_record 1 v.msg_type ∷ []
verified-first v t = verified_three v (three_verified v t)

pub verified_similar : (v w : Verified) → VerifiedTags v → VerifiedTags w → Similar (verified_records v) (verified_records w)
unfolding verified_records
verified_similar v w t u =
    similar_stored (alike_field 1 v.msg_type w.msg_type (t.types ∙ sym u.types))
    (similar_stored (alike_field 1 v.body_length w.body_length (t.counts ∙ sym u.counts))
    (similar_stored (alike_field 1 v.begin_string w.begin_string (t.begins ∙ sym u.begins)) none))

-- MsgType is the third of the header's records
pub msg_type_third : (message : List ℕ) (v : Verified) (header others : List Record) → VerifiedTags v → header ≡ part_record 1 v.begin_string ∷ part_record 1 v.body_length ∷ part_record 1 v.msg_type ∷ others
    → value_at message (msg_type_record header) ≡ value_of message v.msg_type
unfolding msg_type_record part_record value_at value_of
msg_type_third message v header others t e = rw (e, t.begins, t.counts, t.types) refl

-- a message that was read in parts, put together again
module _ (dictionary : Dictionary) (config : Config) (message : List ℕ) (v : Verified) (sound : integrity_of config.mode message ≡ Ok v) where
  pub put_together : (layout : _) (f g : Field) (rest behind : Fields) (room room₂ : ℕ) (header body trailer : List Record) (stop : Field) → header_of (header_tags_lem dictionary) config message v ≡ ended f rest room header
      → layout_of dictionary (value_at message (msg_type_record header)) ≡ laid_out layout
      → body_from (body_of (layout_rules (accepted config (knows dictionary))) layout_demands (trailer_tags_lem dictionary) layout) (field f rest) (suc room) [] ≡ ended g behind room₂ body
      → trailer_from (field g behind) (suc room₂) (part_record 3 v.checksum ∷ []) ≡ stopped stop trailer
      → message_read dictionary config message ≡ record { answer = Valid; records = header ++ (body ++ trailer); stop = Some stop }
  unfolding message_read start_of started_by with_checksum after_header after_type after_body after_trailer
  put_together layout f g rest behind room room₂ header body trailer stop h c b t = rw (sound, h, c, b, t) refl
