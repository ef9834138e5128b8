-- A message that was read with 0 has a 9 in its header and a 10 in its trailer, whatever is stored over them. So the new 9 and 10 of an
-- encoding stand for the old, and the encoded message has as many fields as there are records.
use Rattle.std.specs.Prelude.{◌≡◌, ◌⊎◌, Bool, ℕ, zero, suc, ◌<◌, Option}
use Rattle.std.proofs.Math.Path.{refl, sym, ap}
use Rattle.std.proofs.Common.{◌∙◌, inl, inr, ⊎_elim, eqb-true, eq-eqb}
use Rattle.std.proofs.Math.Bool.{true, false}
use mathlib.Core.List.{List, [], ◌∷◌, ◌++◌}
use native.Mathlib.Omega.{arith}
use Rattle.std.proofs.Math.ListN.{length, length-append}
use Rattle.std.proofs.Math.Dec.{eqb}
use Rattle.build_config.specs.declared.Config.{Config}
use Rattle.field_rules.specs.Choice.{pick, pick_same}
use Rattle.field_rules.specs.Fields.{Fields, unreadable, field, fields_from}
use Rattle.field_rules.specs.declared.Field.{Field}
use Rattle.build_integrity_rules.specs.declared.Verified.{Verified}
use Rattle.dictionary_layout_rules.specs.Tree.{Dictionary, header_tags_lem, holds_tag}
use Rattle.build_records.specs.Records.{stored}
use Rattle.build_records.specs.declared.Record.{Record}
use Rattle.build_parts.specs.Parts.{ended, part_record}
use Rattle.build_parts.specs.Header.{header_from}
use Rattle.build_parts.specs.Trailer.{stopped, trailer_from}
use Rattle.build_rules.specs.Beginning.{header_of, verified_records}
use Rattle.build_rules.specs.Message.{Outcome}
use Rattle.message_maps.specs.Map.{Map, holds}
use Rattle.message_lent_rules.specs.Meaning.{Message}
use Rattle.message_rules.specs.Changes.{field_total}
use Rattle.message_take_over.specs.Derived.{Stands, StandFor, no_more as stands_none, own as stands-own, in_entry as stands-entry}
use Rattle.message_read_laws.specs.Parted.{Takes}
use Rattle.encode_rules.specs.Encoding.{encoded_message}
use Rattle.encoder.specs.SizeLaws.{encoded-fields}
use Rattle.encoder.specs.CountLaws.{gone_once}
use Rattle.build_order_laws.specs.InParts.{InParts}
use Rattle.build_order_laws.specs.TrailerStores.{trailer_at, not_crowded, stopped-with, unstopped-with}
use Rattle.build_order_laws.specs.VerifiedTags.{VerifiedTags, verified-tags}
use Rattle.encode_rewriting_laws.proofs.EncodedText.{stands-count}

-- a record that stands outside groups in a part, under a tag
pub record Under (part tag : ℕ) (r : Record) : Type 0 where
  pub of : r.part ≡ part
  pub shallow : r.depth ≡ 0
  pub tagged : r.tag ≡ tag

-- one of the records is such
pub data Held (part tag : ℕ) : List Record → Type 0 where
  held_first : {r : Record} {rs : List Record} → Under part tag r → Held part tag (r ∷ rs)
  held-later : {r : Record} {rs : List Record} → Held part tag rs → Held part tag (r ∷ rs)

module _ {part tag : ℕ} where
  held-left : {rs : List Record} (ss : List Record) → Held part tag rs → Held part tag (rs ++ ss)
  held-left ss (held_first u) = held_first u
  held-left ss (held-later h) = held-later (held-left ss h)

  held_right : (rs : List Record) {ss : List Record} → Held part tag ss → Held part tag (rs ++ ss)
  held_right [] h = h
  held_right (r ∷ rs) h = held-later (held_right rs h)

  held_either : (rs ss : List Record) → Held part tag (rs ++ ss) → Held part tag rs ⊎ Held part tag ss
  held_either [] ss h = inr h
  held_either (r ∷ rs) ss (held_first u) = inl (held_first u)
  held_either (r ∷ rs) ss (held-later h) = longer (held_either rs ss h)
    where
      longer : Held part tag rs ⊎ Held part tag ss → Held part tag (r ∷ rs) ⊎ Held part tag ss
      longer (inl a) = inl (held-later a)
      longer (inr b) = inr b

  -- a field of the same part is stored in its own place or over one of its tag
  held-stored : (r : Record) → r.part ≡ part → {rs : List Record} → Held part tag rs → Held part tag (stored r rs)
  unfolding stored
  held-stored r of (held_first {r = x} {rs = rs} u) = by_tests (eqb x.depth r.depth) (eqb x.tag r.tag) refl refl
    where
      by_tests : (d t : Bool) → eqb x.depth r.depth ≡ d → eqb x.tag r.tag ≡ t
          → Held part tag (pick d (pick t (r ∷ rs) (x ∷ stored r rs)) (x ∷ stored r rs))
      by_tests true true e f = held_first (record { of = of; shallow = sym (eqb-true _ _ e) ∙ u.shallow; tagged = sym (eqb-true _ _ f) ∙ u.tagged })
      by_tests true false e f = held_first u
      by_tests false t e f = held_first u
  held-stored r of (held-later {r = x} {rs = rs} h) = by_tests (eqb x.depth r.depth) (eqb x.tag r.tag) (held-stored r of h)
    where
      by_tests : (d t : Bool) → Held part tag (stored r rs) → Held part tag (pick d (pick t (r ∷ rs) (x ∷ stored r rs)) (x ∷ stored r rs))
      by_tests true true k = held-later h
      by_tests true false k = held-later k
      by_tests false t k = held-later k

  held_new : (r : Record) → Under part tag r → (rs : List Record) → Held part tag (stored r rs)
  unfolding stored
  held_new r u [] = held_first u
  held_new r u (x ∷ rs) = by_tests (eqb x.depth r.depth) (eqb x.tag r.tag) (held_new r u rs)
    where
      by_tests : (d t : Bool) → Held part tag (stored r rs) → Held part tag (pick d (pick t (r ∷ rs) (x ∷ stored r rs)) (x ∷ stored r rs))
      by_tests true true k = held_first u
      by_tests true false k = held-later k
      by_tests false t k = held-later k

under-field : (part tag : ℕ) (f : Field) → f.tag ≡ tag → Under part tag (part_record part f)
unfolding part_record
under-field part tag f e = record { of = refl; shallow = refl; tagged = e }

of_part : (part : ℕ) (f : Field) → (part_record part f).part ≡ part
unfolding part_record
of_part part f = refl

-- the verified BeginString, BodyLength and MsgType are in the header, and stay there
module _ (v : Verified) (t : VerifiedTags v) where
  begin-held : Held 1 8 (verified_records v)
  unfolding verified_records
  begin-held =
      held-stored (part_record 1 v.msg_type) (of_part 1 v.msg_type)
      (held-stored (part_record 1 v.body_length) (of_part 1 v.body_length)
      (held_new (part_record 1 v.begin_string) (under-field 1 8 v.begin_string t.begins) []))

  size-held : Held 1 9 (verified_records v)
  unfolding verified_records
  size-held =
      held-stored (part_record 1 v.msg_type) (of_part 1 v.msg_type)
      (held_new (part_record 1 v.body_length) (under-field 1 9 v.body_length t.counts) _)

  type-held : Held 1 35 (verified_records v)
  unfolding verified_records
  type-held = held_new (part_record 1 v.msg_type) (under-field 1 35 v.msg_type t.types) _

header-held : {tag : ℕ} (tags : List ℕ) (fields : Fields) (room : ℕ) (rs : List Record) (f : Field) (rest : Fields) (left : ℕ) (ss : List Record)
    → header_from tags fields room rs ≡ ended f rest left ss → Held 1 tag rs → Held 1 tag ss
unfolding header_from
header-held tags (unreadable cause place) room rs f rest left ss e h = let z : ◌≡◌ {A = ℕ} 0 1 = cc in absurd (omega arith)
header-held tags (field g more) zero rs f rest left ss e h = let z : ◌≡◌ {A = ℕ} 0 1 = cc in absurd (omega arith)
header-held {tag} tags (field g more) (suc room) rs f rest left ss e h =
    by_tag (holds_tag g.tag tags) e (λ q. header-held tags more room (stored (part_record 1 g) rs) f rest left ss q
    (held-stored (part_record 1 g) (of_part 1 g) h))
  where
    by_tag : (b : Bool) → pick b (header_from tags more room (stored (part_record 1 g) rs)) (ended g more room rs) ≡ ended f rest left ss
        → (header_from tags more room (stored (part_record 1 g) rs) ≡ ended f rest left ss → Held 1 tag ss) → Held 1 tag ss
    by_tag true q later = later q
    by_tag false q later = let d : rs ≡ ss = cc in rw (← d) h

-- the verified CheckSum is in the trailer, and stays there
trailer-held : {tag : ℕ} (fields : Fields) (room : ℕ) (rs : List Record) (stop : Option Field) (ts : List Record) → trailer_from fields room rs ≡ trailer_at stop ts
    → Held 3 tag rs → Held 3 tag ts
unfolding trailer_from
trailer-held (unreadable cause place) zero rs stop ts e h = absurd (not_crowded stop ts e)
trailer-held (unreadable cause place) (suc room) rs stop ts e h = let d = unstopped-with rs ts stop e in rw (← d) h
trailer-held (field g more) zero rs stop ts e h = absurd (not_crowded stop ts e)
trailer-held {tag} (field g more) (suc room) rs stop ts e h =
    by_tag (eqb g.tag 10) e (λ q. trailer-held more room (stored (part_record 3 g) rs) stop ts q (held-stored (part_record 3 g) (of_part 3 g) h))
  where
    by_tag : (b : Bool) → pick b (stopped g rs) (trailer_from more room (stored (part_record 3 g) rs)) ≡ trailer_at stop ts
        → (trailer_from more room (stored (part_record 3 g) rs) ≡ trailer_at stop ts → Held 3 tag ts) → Held 3 tag ts
    by_tag true q later = let d = stopped-with rs ts g stop q in rw (← d) h
    by_tag false q later = later q

module _ (dictionary : Dictionary) (config : Config) (message : List ℕ) (outcome : Outcome) (p : InParts dictionary config message outcome) where
  in_header_lem : {tag : ℕ} → Held 1 tag (verified_records p.verified) → Held 1 tag outcome.records
  in_header_lem held =
      let v = p.verified in
      let h =
      header-held (header_tags_lem dictionary) (fields_from config.mode message v.msg_type.next) 1021 (verified_records v) p.f p.rest p.room
      p.header (unfold header_of in p.header_read) held in
      rw p.records (held-left (p.body ++ p.whole-trailer) h)

  pub begin_string-held : Held 1 8 outcome.records
  begin_string-held = in_header_lem (begin-held p.verified (verified-tags config.mode message p.verified p.sound))

  pub length-held : Held 1 9 outcome.records
  length-held = in_header_lem (size-held p.verified (verified-tags config.mode message p.verified p.sound))

  pub msg_type-held : Held 1 35 outcome.records
  msg_type-held = in_header_lem (type-held p.verified (verified-tags config.mode message p.verified p.sound))

  pub checksum_held : Held 3 10 outcome.records
  checksum_held =
      let v = p.verified in
      let t =
      trailer-held (field p.g p.more) (suc p.room₂) (part_record 3 v.checksum ∷ []) outcome.stop p.whole-trailer p.trailer-read
      (held_first (under-field 3 10 v.checksum (verified-tags config.mode message v p.sound).sums)) in
      rw p.records (held_right p.header (held_right p.body t))

-- the records that stand for a map are of its part
stands-part : {bytes : List ℕ} {part depth number start entries other tag : ℕ} {map : Map} {rs : List Record}
    → Stands bytes part depth number start entries map rs → Held other tag rs → other ≡ part
stands-part stands_none never = elim never [ ]
stands-part (stands-own r o more) (held_first u) = sym u.of ∙ o.of
stands-part (stands-own r o more) (held-later h) = stands-part more h
stands-part (stands-entry r o inner more) (held_first u) = sym u.of ∙ o.of
stands-part (stands-entry {rs = rs} {ss = ss} r o inner more) (held-later h) =
    ⊎_elim (λ a. stands-part inner a) (λ b. stands-part more b) (held_either rs ss h)

-- no record of an entry stands outside groups
entry-deep : {bytes : List ℕ} {part depth number start entries other tag : ℕ} {map : Map} {rs : List Record} → 0 < depth
    → Stands bytes part depth number start entries map rs → Held other tag rs → ⊥
entry-deep deep stands_none never = elim never [ ]
entry-deep deep (stands-own r o more) (held_first u) = omega (arith, o.deep, u.shallow)
entry-deep deep (stands-own r o more) (held-later h) = entry-deep deep more h
entry-deep deep (stands-entry r o inner more) (held_first u) = omega (arith, o.deep, u.shallow)
entry-deep deep (stands-entry {rs = rs} {ss = ss} r o inner more) (held-later h) =
    ⊎_elim (λ a. entry-deep (omega arith) inner a) (λ b. entry-deep deep more b) (held_either rs ss h)

-- so what is held stands in the map itself
stands_hold : {bytes : List ℕ} {part number start entries other tag : ℕ} {map : Map} {rs : List Record} → Stands bytes part 0 number start entries map rs
    → Held other tag rs → holds tag map ≡ true
unfolding holds
stands_hold stands_none never = elim never [ ]
stands_hold {tag = tag} (stands-own r o more) (held_first u) = rw (eq-eqb r.tag tag u.tagged)
stands_hold {tag = tag} (stands-own r o more) (held-later h) = rw (stands_hold more h) (pick_same (eqb r.tag tag) true)
stands_hold (stands-entry r o inner more) (held_first u) = absurd (omega (arith, o.deep, u.shallow))
stands_hold (stands-entry {rs = rs} {ss = ss} r o inner more) (held-later h) =
    ⊎_elim (λ a. absurd (entry-deep (omega arith) inner a)) (λ b. stands_hold more b) (held_either rs ss h)

module _ {bytes : List ℕ} {m : Message} {rs : List Record} (stand : StandFor bytes m rs) where
  in_parts-held : {part tag : ℕ} → Held part tag rs → Held part tag stand.of_header ⊎ (Held part tag stand.of_body ⊎ Held part tag stand.of_trailer)
  in_parts-held {part} {tag} h =
      ⊎_elim (λ a. inl a) (λ b. inr (held_either stand.of_body stand.of_trailer b))
      (held_either stand.of_header (stand.of_body ++ stand.of_trailer) all)
    where
      all : Held part tag (stand.of_header ++ (stand.of_body ++ stand.of_trailer))
      all = rw stand.all at h

  pub header-holds : {tag : ℕ} → Held 1 tag rs → holds tag m.header ≡ true
  header-holds h =
      ⊎_elim (λ a. stands_hold stand.header a)
      (⊎_elim (λ a. let z = stands-part stand.body a in absurd (omega arith)) (λ a. let z = stands-part stand.trailer a in absurd (omega arith)))
      (in_parts-held h)

  trailer-holds : {tag : ℕ} → Held 3 tag rs → holds tag m.trailer ≡ true
  trailer-holds h =
      ⊎_elim (λ a. let z = stands-part stand.header a in absurd (omega arith))
      (⊎_elim (λ a. let z = stands-part stand.body a in absurd (omega arith)) (λ a. stands_hold stand.trailer a))
      (in_parts-held h)

  -- as many fields as records
  stand_total : field_total m ≡ length rs
  unfolding field_total
  stand_total =
      omega (
        arith,
        stands-count stand.header,
        stands-count stand.body,
        stands-count stand.trailer,
        ap length stand.all,
        length-append stand.of_header (stand.of_body ++ stand.of_trailer),
        length-append stand.of_body stand.of_trailer,
      )

-- the new 9 and 10 stand for the old: "the message then holds the new 9, and the new 10 last in its trailer"
pub encoded_records : {message : List ℕ} {rs : List Record} (separator : ℕ) (t : Takes message rs) → Held 1 9 rs → Held 3 10 rs
    → field_total (encoded_message separator t.meant) ≡ length rs
encoded_records separator t nine ten =
    let m = t.meant in
    let e =
    rw (header-holds t.stand nine, trailer-holds t.stand ten) at
    (encoded-fields separator m (gone_once 10 m.trailer t.within.formed.trailer)) in
    omega (arith, e, stand_total t.stand)
