-- A message that was read with 0, taken apart: the verified fields, and what was read as header, body and trailer, in turn.
-- Each part was stored field by field, from the message's start to where the trailer stopped.
use Rattle.std.proofs.Math.Path.{◌≡◌, refl, ap}
use Rattle.std.proofs.Common.{◌∙◌, arith}
use Rattle.std.specs.Prelude.{Bool, ℕ, suc, Result, Ok, Err}
use mathlib.Core.List.{List, [], ◌∷◌, ◌++◌}
use Rattle.build_records.specs.Records.{value_at}
use Rattle.field_rules.specs.declared.Mode.{Mode}
use Rattle.build_config.specs.declared.Config.{Config}
use Rattle.field_rules.specs.Field.{start_at}
use Rattle.field_rules.specs.Fields.{Fields, field, fields_from}
use Rattle.field_rules.proofs.FieldsLaws.{fields-field}
use Rattle.field_rules.specs.declared.Field.{Field}
use Rattle.build_integrity_rules.specs.Integrity.{integrity_of}
use Rattle.build_integrity_rules.proofs.VerifiedLaws.{VerifiedRead}
use Rattle.build_integrity_rules.specs.declared.Verified.{Verified}
use Rattle.dictionary_layout_rules.specs.Layout.{Layout}
use Rattle.dictionary_layout_rules.specs.Tree.{Dictionary, knows, header_tags_lem, trailer_tags_lem, Choice, no_message, laid_out, layout_of}
use Rattle.build_records.specs.declared.Record.{Record}
use Rattle.build_group_rules.specs.Reading.{accepted, layout_rules}
use Rattle.build_required_rules.specs.Checking.{layout_demands}
use Rattle.build_answers.specs.declared.Answer.TheVariants.{Valid}
use Rattle.build_parts.specs.Parts.{Reading, ended, refused, part_record}
use Rattle.build_parts.specs.Trailer.{Trailer, stopped, unstopped, crowded, trailer_from}
use Rattle.build_body_rules.specs.Body.{body_from}
use Rattle.build_body_rules.specs.Kinds.{body_of}
use Rattle.build_rules.specs.Beginning.{header_of, verified_records, with_checksum, started_by, start_of, msg_type_record}
use Rattle.build_rules.specs.Message.{Outcome, refusal, after_trailer, after_body, after_type, after_header, message_read}
use Rattle.message_read_laws.specs.Refusals.{header_never, body_never}
use Rattle.build_order_laws.specs.Follows.{Stores}
use Rattle.build_order_laws.specs.StoresLaws.{stores_then, stores_field}
use Rattle.build_order_laws.specs.TrailerStores.{trailer_at}
use Rattle.build_integrity_rules.specs.declared.GarbledReason.{GarbledReason}

module _ (dictionary : Dictionary) (config : Config) (message : List ℕ) where
  -- the parts of a message with an outcome; the whole trailer is that with the verified CheckSum, which stands first in it
  pub record InParts (outcome : Outcome) : Type 0 where
    pub verified : Verified
    pub sound : integrity_of config.mode message ≡ Ok verified
    pub layout : Layout
    pub f : Field
    pub rest : Fields
    pub room : ℕ
    pub header : List Record
    pub g : Field
    pub more : Fields
    pub room₂ : ℕ
    pub body : List Record
    pub whole-trailer : List Record
    pub header_read : header_of (header_tags_lem dictionary) config message verified ≡ ended f rest room header
    pub chosen : layout_of dictionary (value_at message (msg_type_record header)) ≡ laid_out layout
    pub body-read : body_from (body_of (layout_rules (accepted config (knows dictionary))) layout_demands (trailer_tags_lem dictionary) layout) (field f rest)
        (suc room) [] ≡ ended g more room₂ body
    pub trailer-read : trailer_from (field g more) (suc room₂) (part_record 3 verified.checksum ∷ []) ≡ trailer_at outcome.stop whole-trailer
    pub records : outcome.records ≡ header ++ (body ++ whole-trailer)

  module _ (v : Verified) (sound : integrity_of config.mode message ≡ Ok v) (f : Field) (rest : Fields) (room : ℕ) (h : List Record)
      (header : header_of (header_tags_lem dictionary) config message v ≡ ended f rest room h) where
    module _ (layout : Layout) (chosen : layout_of dictionary (value_at message (msg_type_record h)) ≡ laid_out layout) where
      trailer-parts : (g : Field) (more : Fields) (room₂ : ℕ) (b : List Record)
          → body_from (body_of (layout_rules (accepted config (knows dictionary))) layout_demands (trailer_tags_lem dictionary) layout) (field f rest) (suc room) []
          ≡ ended g more room₂ b
          → (t : Trailer) → trailer_from (field g more) (suc room₂) (part_record 3 v.checksum ∷ []) ≡ t → (after_trailer h b t).answer ≡ Valid
          → InParts (after_trailer h b t)
      unfolding after_trailer trailer_at
      trailer-parts g more room₂ b e (stopped s ts) q a =
          record {
            verified = v;
            sound = sound;
            layout = layout;
            f = f;
            rest = rest;
            room = room;
            header = h;
            g = g;
            more = more;
            room₂ = room₂;
            body = b;
            whole-trailer = ts;
            header_read = header;
            chosen = chosen;
            body-read = e;
            trailer-read = q;
            records = refl;
          }
      trailer-parts g more room₂ b e (unstopped ts) q a =
          record {
            verified = v;
            sound = sound;
            layout = layout;
            f = f;
            rest = rest;
            room = room;
            header = h;
            g = g;
            more = more;
            room₂ = room₂;
            body = b;
            whole-trailer = ts;
            header_read = header;
            chosen = chosen;
            body-read = e;
            trailer-read = q;
            records = refl;
          }
      trailer-parts g more room₂ b e crowded q a = let z : ◌≡◌ {A = ℕ} 0 1 = unfold refusal in cc in absurd (omega arith)

      body-parts : (r : Reading)
          → body_from (body_of (layout_rules (accepted config (knows dictionary))) layout_demands (trailer_tags_lem dictionary) layout) (field f rest) (suc room) []
          ≡ r
          → (after_body h v.checksum r).answer ≡ Valid → InParts (after_body h v.checksum r)
      unfolding after_body
      body-parts (refused answer) e a =
          absurd (body_never (layout_rules (accepted config (knows dictionary))) layout_demands (trailer_tags_lem dictionary) layout (suc (suc room)) (field f rest)
          (suc room) [] (unfold body_from in (e ∙ ap refused (unfold refusal in a))))
      body-parts (ended g more room₂ b) e a = trailer-parts g more room₂ b e (trailer_from (field g more) (suc room₂) (part_record 3 v.checksum ∷ [])) refl a

    type-parts : (choice : Choice) → layout_of dictionary (value_at message (msg_type_record h)) ≡ choice
        → (after_type dictionary config f rest room h v.checksum choice).answer ≡ Valid
        → InParts (after_type dictionary config f rest room h v.checksum choice)
    unfolding after_type
    type-parts no_message c a = let z : ◌≡◌ {A = ℕ} 0 1 = unfold refusal in cc in absurd (omega arith)
    type-parts (laid_out layout) c a =
        body-parts layout c (body_from (body_of (layout_rules (accepted config (knows dictionary))) layout_demands (trailer_tags_lem dictionary) layout) (field f rest)
        (suc room) []) refl a

  header-parts : (v : Verified) → integrity_of config.mode message ≡ Ok v → (r : Reading) → header_of (header_tags_lem dictionary) config message v ≡ r
      → (after_header dictionary config message (with_checksum v.checksum r)).answer ≡ Valid
      → InParts (after_header dictionary config message (with_checksum v.checksum r))
  unfolding after_header with_checksum
  header-parts v sound (refused answer) e a =
      absurd (header_never (header_tags_lem dictionary) (fields_from config.mode message v.msg_type.next) 1021 (verified_records v)
      (unfold header_of in (e ∙ ap refused (unfold refusal in a))))
  header-parts v sound (ended f rest room h) e a = type-parts v sound f rest room h e (layout_of dictionary (value_at message (msg_type_record h))) refl a

  integrity_parts : (i : Result Verified GarbledReason) → integrity_of config.mode message ≡ i
      → (after_header dictionary config message (started_by (header_tags_lem dictionary) config message i)).answer ≡ Valid
      → InParts (after_header dictionary config message (started_by (header_tags_lem dictionary) config message i))
  unfolding started_by
  integrity_parts (Err reason) e a = let z : ◌≡◌ {A = ℕ} 0 1 = unfold after_header refusal in cc in absurd (omega arith)
  integrity_parts (Ok v) e a = header-parts v e (header_of (header_tags_lem dictionary) config message v) refl a

  pub in_parts : (message_read dictionary config message).answer ≡ Valid → InParts (message_read dictionary config message)
  unfolding message_read start_of
  in_parts a = integrity_parts (integrity_of config.mode message) refl a

-- the fields that were verified are the first three of the message
pub verified_stores : (mode : Mode) (message : List ℕ) (v : Verified) → VerifiedRead mode message v
    → Stores 1 (fields_from mode message (start_at 0)) 1024 [] (fields_from mode message v.msg_type.next) 1021 (verified_records v)
unfolding verified_records
verified_stores mode message v w =
    rw (
      fields-field mode message (start_at 0) v.begin_string w.begins,
      fields-field mode message v.begin_string.next v.body_length w.counts,
      fields-field mode message v.body_length.next v.msg_type w.types,
    )
    (stores_then (stores_then (stores_field {room = 1023}) (stores_field {room = 1022})) (stores_field {room = 1021}))
