-- Laws of what specs/LastRead.antt defines.
-- What a part holds under a tag is the record of the last field with it that the part took, in header, body and trailer.
use Rattle.std.specs.Prelude.{◌≡◌, Bool, true, eqb}
use Rattle.std.proofs.Math.Path.{refl, sym, ap}
use Rattle.std.proofs.Common.{◌∙◌, arith, Option}
use Rattle.std.proofs.Math.Bool.{false}
use mathlib.Core.List.{List, [], ◌∷◌}
use Prim.Native.Nat.{ℕ, zero, suc}
use Rattle.build_config.specs.declared.Config.{Config}
use Rattle.field_rules.specs.Choice.{pick}
use Rattle.field_rules.specs.Fields.{Fields, unreadable, field, fields_from}
use Rattle.field_rules.specs.declared.Field.{Field}
use Rattle.build_integrity_rules.specs.declared.Verified.{Verified}
use Rattle.dictionary_layout_rules.specs.Tree.{Dictionary, knows, header_tags_lem, trailer_tags_lem, holds_tag}
use Rattle.build_records.specs.Records.{stored}
use Rattle.build_records.specs.declared.Record.{Record}
use Rattle.build_group_rules.specs.Groups.{Rules, outermost}
use Rattle.build_group_rules.specs.Reading.{accepted, layout_rules}
use Rattle.build_required_rules.specs.Required.{Demands}
use Rattle.build_required_rules.specs.Checking.{layout_demands}
use Rattle.build_nesting_laws.specs.Entries.{All, Deep, formed_deep}
use Rattle.build_nesting_laws.specs.Nesting.{run_formed}
use Rattle.build_parts.specs.Parts.{ended, part_record}
use Rattle.build_parts.specs.Header.{header_from}
use Rattle.build_parts.specs.Trailer.{stopped, trailer_from}
use Rattle.build_body_rules.specs.Body.{plain, counts, other, Body, stored_run, body_within, body_from}
use Rattle.build_body_rules.specs.Kinds.{body_of}
use Rattle.build_rules.specs.Beginning.{header_of, verified_records}
use Rattle.build_rules.specs.Message.{Outcome}
use Rattle.build_order_laws.specs.InParts.{InParts}
use Rattle.build_order_laws.specs.TrailerStores.{trailer_at, not_crowded, stopped-with, unstopped-with}
use Rattle.promise_roundtrip.specs.BodyTurns.{RunRead, body-ends}
use Rattle.promise_roundtrip.specs.UnderTag.{under, Single, single-none, under-stored, under-run, single-after}
use Rattle.promise_roundtrip.specs.LastRead.{body_takes, body_taking, header_takes, latest, taken_behind, trailer_takes}

-- a field that is stored
module _ (part : ℕ) (f : Field) (rs : List Record) (single : Single 0 rs) where
  pub field-under : (tag : ℕ) → under 0 tag (stored (part_record part f) rs) ≡ pick (eqb f.tag tag) (part_record part f ∷ []) (under 0 tag rs)
  unfolding part_record
  field-under tag = under-stored (part_record part f) rs single tag

  pub field-single : Single 0 (stored (part_record part f) rs)
  unfolding part_record
  field-single = single-after (part_record part f) rs (stored (part_record part f) rs) single (under-stored (part_record part f) rs single)

  module _ (es : List Record) (deeper : All (Deep 1) es) where
    pub count_under : (tag : ℕ) → under 0 tag (stored_run (part_record part f) es rs) ≡ pick (eqb f.tag tag) (part_record part f ∷ []) (under 0 tag rs)
    unfolding part_record
    count_under tag = under-run (part_record part f) refl es deeper rs single tag

    pub count-single : Single 0 (stored_run (part_record part f) es rs)
    unfolding part_record
    count-single = single-after (part_record part f) rs (stored_run (part_record part f) es rs) single (under-run (part_record part f) refl es deeper rs single)

latest_as : (part tag : ℕ) {held other : List Record} (fs : List Field) → held ≡ other → latest part tag held fs ≡ latest part tag other fs
latest_as part tag fs e = rw e refl

-- ===== the header =====

header-last : (tags : List ℕ) (fields : Fields) (room : ℕ) (rs : List Record) (f : Field) (rest : Fields) (room₁ : ℕ) (rs₁ : List Record)
    → header_from tags fields room rs ≡ ended f rest room₁ rs₁ → Single 0 rs
    → (tag : ℕ) → under 0 tag rs₁ ≡ latest 1 tag (under 0 tag rs) (header_takes tags fields)
unfolding header_from header_takes
header-last tags (unreadable cause place) room rs f rest room₁ rs₁ e s tag = let z : ◌≡◌ {A = ℕ} 0 1 = cc in absurd (omega arith)
header-last tags (field g more) zero rs f rest room₁ rs₁ e s tag = let z : ◌≡◌ {A = ℕ} 0 1 = cc in absurd (omega arith)
header-last tags (field g more) (suc room) rs f rest room₁ rs₁ e s tag =
    by_tag (holds_tag g.tag tags) e (λ q. header-last tags more room (stored (part_record 1 g) rs) f rest room₁ rs₁ q (field-single 1 g rs s) tag)
  where
    by_tag : (b : Bool) → pick b (header_from tags more room (stored (part_record 1 g) rs)) (ended g more room rs) ≡ ended f rest room₁ rs₁
        → (header_from tags more room (stored (part_record 1 g) rs) ≡ ended f rest room₁ rs₁
        → under 0 tag rs₁ ≡ latest 1 tag (under 0 tag (stored (part_record 1 g) rs)) (header_takes tags more))
        → under 0 tag rs₁ ≡ latest 1 tag (under 0 tag rs) (pick b (g ∷ header_takes tags more) [])
    by_tag true e later = later e ∙ latest_as 1 tag (header_takes tags more) (field-under 1 g rs s tag) ∙ (unfold latest in refl)
    by_tag false e later = let d : rs ≡ rs₁ = cc in rw (← d) (unfold latest in refl)

-- ===== the trailer =====

trailer-last : (fields : Fields) (room : ℕ) (rs : List Record) (stop : Option Field) (ts : List Record) → trailer_from fields room rs ≡ trailer_at stop ts → Single 0 rs
    → (tag : ℕ) → under 0 tag ts ≡ latest 3 tag (under 0 tag rs) (trailer_takes fields)
unfolding trailer_from trailer_takes
trailer-last (unreadable cause place) zero rs stop ts e s tag = absurd (not_crowded stop ts e)
trailer-last (unreadable cause place) (suc room) rs stop ts e s tag = let d = unstopped-with rs ts stop e in rw (← d) (unfold latest in refl)
trailer-last (field g more) zero rs stop ts e s tag = absurd (not_crowded stop ts e)
trailer-last (field g more) (suc room) rs stop ts e s tag =
    by_tag (eqb g.tag 10) e (λ q. trailer-last more room (stored (part_record 3 g) rs) stop ts q (field-single 3 g rs s) tag)
  where
    by_tag : (b : Bool) → pick b (stopped g rs) (trailer_from more room (stored (part_record 3 g) rs)) ≡ trailer_at stop ts
        → (trailer_from more room (stored (part_record 3 g) rs) ≡ trailer_at stop ts
        → under 0 tag ts ≡ latest 3 tag (under 0 tag (stored (part_record 3 g) rs)) (trailer_takes more))
        → under 0 tag ts ≡ latest 3 tag (under 0 tag rs) (pick b [] (g ∷ trailer_takes more))
    by_tag true q later = let d = stopped-with rs ts g stop q in rw (← d) (unfold latest in refl)
    by_tag false q later = later q ∙ latest_as 3 tag (trailer_takes more) (field-under 3 g rs s tag) ∙ (unfold latest in refl)

-- ===== the body =====

module _ {L : Type 0} (rules : Rules L) (demands : Demands L) (tags : List ℕ) (level : L) where
  abbrev body : Body L
  body = body_of rules demands tags level

  module _ (turns : ℕ) (f : Field) (rest : Fields) (room : ℕ) where
    takes_field : body.kind f.tag ≡ plain → body_takes body (suc turns) (field f rest) (suc room) ≡ f ∷ body_takes body turns rest room
    unfolding body_takes body_taking
    takes_field k = rw k

    takes_run : (inner : L) (g : Field) (more : Fields) (left : ℕ) (es : List Record) → body.kind f.tag ≡ counts inner
        → body.run inner f.tag rest room ≡ ended g more left es
        → body_takes body (suc turns) (field f rest) (suc room) ≡ f ∷ body_takes body turns (field g more) (suc left)
    unfolding body_takes body_taking taken_behind
    takes_run inner g more left es k e = rw (k, e)

    takes_no_more : body.kind f.tag ≡ other → body_takes body (suc turns) (field f rest) (suc room) ≡ []
    unfolding body_takes body_taking
    takes_no_more k = rw k

  -- what is left has the outcome of the whole
  record Standing (whole : ℕ → List Record) (turns : ℕ) (fields : Fields) (room : ℕ) (rs : List Record) : Type 0 where
    single : Single 0 rs
    same : (tag : ℕ) → latest 2 tag (under 0 tag rs) (body_takes body turns fields room) ≡ whole tag

  -- the entries of a run stand deeper than the body
  pub run-deeper : (inner : L) (f : Field) (rest : Fields) (room : ℕ) (g : Field) (more : Fields) (left : ℕ) (es : List Record)
      → RunRead rules demands tags level inner f rest room g more left es → All (Deep 1) es
  run-deeper inner f rest room g more left es w =
      let read = run_formed rules [] (outermost f.tag inner) room rest g more left es w.walked in
      let same : es ≡ read.records = read.whole in
      rw same (formed_deep rules read.formed)

  next-standing : (whole : ℕ → List Record) (turns : ℕ) (f : Field) (rest : Fields) (room : ℕ) (rs : List Record) (fields : Fields) (left : ℕ)
      (ss : List Record)
      → body_takes body (suc turns) (field f rest) (suc room) ≡ f ∷ body_takes body turns fields left → Single 0 ss
      → ((tag : ℕ) → under 0 tag ss ≡ pick (eqb f.tag tag) (part_record 2 f ∷ []) (under 0 tag rs))
      → Standing whole (suc turns) (field f rest) (suc room) rs → Standing whole turns fields left ss
  unfolding latest
  next-standing whole turns f rest room rs fields left ss takes single same s =
      record {
        single = single;
        same = λ tag. latest_as 2 tag (body_takes body turns fields left) (same tag) ∙ sym (ap (latest 2 tag (under 0 tag rs)) takes) ∙ s.same tag;
      }

  body-last : (turns : ℕ) (fields : Fields) (room : ℕ) (rs : List Record) (f : Field) (rest : Fields) (room₁ : ℕ) (rs₁ : List Record)
      → body_within body turns fields room rs ≡ ended f rest room₁ rs₁ → Single 0 rs
      → (tag : ℕ) → under 0 tag rs₁ ≡ latest 2 tag (under 0 tag rs) (body_takes body turns fields room)
  unfolding latest
  body-last turns fields room rs f rest room₁ rs₁ e s tag =
      let whole : ℕ → List Record = λ n. latest 2 n (under 0 n rs) (body_takes body turns fields room) in
      let end = body-ends rules demands tags level (Standing whole)
      (λ turns₂ g more room₂ ss k p. next-standing whole turns₂ g more room₂ ss more room₂ (stored (part_record 2 g) ss) (takes_field turns₂ g more room₂ k)
      (field-single 2 g ss p.single) (field-under 2 g ss p.single) p)
      (λ turns₂ g more room₂ ss inner h last left es k w p.
      let deeper = run-deeper inner g more room₂ h last left es w in
      next-standing whole turns₂ g more room₂ ss (field h last) (suc left) (stored_run (part_record 2 g) es ss)
      (takes_run turns₂ g more room₂ inner h last left es k w.comes_to) (count-single 2 g ss p.single es deeper)
      (count_under 2 g ss p.single es deeper) p)
      f rest room₁ rs₁ turns fields room rs e (record { single = s; same = λ n. refl }) in
      sym (ap (latest 2 tag (under 0 tag rs₁)) (takes_no_more end.turns f rest room₁ end.not_taken)) ∙ end.holds.same tag

-- ===== a message that was read with 0 =====

-- fields that are stored one after the other into an empty map
pub stored_one : (part : ℕ) (f : Field) (tag : ℕ) → under 0 tag (stored (part_record part f) []) ≡ latest part tag [] (f ∷ [])
unfolding latest
stored_one part f tag = field-under part f [] (single-none 0) tag ∙ (unfold under in refl)

module _ (v : Verified) where
  pub verified-single : Single 0 (verified_records v)
  unfolding verified_records
  verified-single = field-single 1 v.msg_type _ (field-single 1 v.body_length _ (field-single 1 v.begin_string [] (single-none 0)))

  pub verified-last : (tag : ℕ) → under 0 tag (verified_records v) ≡ latest 1 tag [] (v.begin_string ∷ v.body_length ∷ v.msg_type ∷ [])
  unfolding verified_records latest
  verified-last tag =
      let one = field-single 1 v.begin_string [] (single-none 0) in
      let two = field-single 1 v.body_length _ one in
      field-under 1 v.msg_type _ two tag
      ∙ ap (pick (eqb v.msg_type.tag tag) (part_record 1 v.msg_type ∷ []))
      (field-under 1 v.body_length _ one tag ∙ ap (pick (eqb v.body_length.tag tag) (part_record 1 v.body_length ∷ []))
      (stored_one 1 v.begin_string tag))

module _ (dictionary : Dictionary) (config : Config) (message : List ℕ) {outcome : Outcome} (p : InParts dictionary config message outcome) where
  -- the fields that each part's own map took, in the order of reading: 8, 9 and 35 first in the header; "The verified CheckSum stands first in
  -- the trailer."
  abbrev pub of_header : List Field
  of_header =
      p.verified.begin_string ∷ p.verified.body_length ∷ p.verified.msg_type ∷ header_takes (header_tags_lem dictionary)
      (fields_from config.mode message p.verified.msg_type.next)

  abbrev pub of_body : List Field
  of_body =
      body_takes (body_of (layout_rules (accepted config (knows dictionary))) layout_demands (trailer_tags_lem dictionary) p.layout) (suc (suc p.room))
      (field p.f p.rest) (suc p.room)

  abbrev pub of_trailer : List Field
  of_trailer = p.verified.checksum ∷ trailer_takes (field p.g p.more)

  -- under each tag a part holds the record of the last field with the tag that it took, and no other
  pub record LastRead : Type 0 where
    pub in_header_lem : (tag : ℕ) → under 0 tag p.header ≡ latest 1 tag [] of_header
    pub in_body_lem : (tag : ℕ) → under 0 tag p.body ≡ latest 2 tag [] of_body
    pub in_trailer_lem : (tag : ℕ) → under 0 tag p.whole-trailer ≡ latest 3 tag [] of_trailer

  pub last-read : LastRead
  unfolding latest
  last-read =
      let v = p.verified in
      let rules = layout_rules (accepted config (knows dictionary)) in
      record {
        in_header_lem = λ tag.
            header-last (header_tags_lem dictionary) (fields_from config.mode message v.msg_type.next) 1021 (verified_records v) p.f p.rest p.room
            p.header (unfold header_of in p.header_read) (verified-single v) tag
            ∙ latest_as 1 tag (header_takes (header_tags_lem dictionary) (fields_from config.mode message v.msg_type.next)) (verified-last v tag);
        in_body_lem = λ tag.
            body-last rules layout_demands (trailer_tags_lem dictionary) p.layout (suc (suc p.room)) (field p.f p.rest) (suc p.room) [] p.g
            p.more p.room₂ p.body (unfold body_from in p.body-read) (single-none 0) tag
            ∙ latest_as 2 tag of_body (unfold under in refl);
        in_trailer_lem = λ tag.
            trailer-last (field p.g p.more) (suc p.room₂) (stored (part_record 3 v.checksum) []) outcome.stop p.whole-trailer
            (unfold stored in p.trailer-read) (field-single 3 v.checksum [] (single-none 0)) tag
            ∙ latest_as 3 tag (trailer_takes (field p.g p.more)) (stored_one 3 v.checksum tag);
      }
