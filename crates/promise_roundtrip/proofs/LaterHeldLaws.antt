-- Laws of what specs/LaterHeld.antt defines.
-- Fields stand one behind the other, and of two with a tag the later one is held, or one read still later.
use Rattle.std.specs.Prelude.{◌≡◌, Bool}
use Rattle.std.proofs.Math.Path.{refl, ap}
use Rattle.std.proofs.Common.{sym, ◌∙◌, eqb-true, eq-eqb}
use Rattle.std.proofs.Math.Bool.{true, false}
use mathlib.Core.List.{List, [], ◌∷◌, ◌++◌, append_assoc}
use Prim.Native.Nat.{ℕ, zero, suc, ◌≤◌}
use native.Mathlib.Omega.{arith}
use Rattle.std.proofs.Math.Dec.{eqb}
use Rattle.build_config.specs.declared.Config.{Config}
use Rattle.field_rules.specs.Choice.{pick}
use Rattle.field_rules.specs.Field.{start_at}
use Rattle.field_rules.specs.Fields.{Fields, unreadable, field, fields_from}
use Rattle.field_rules.proofs.FieldsLaws.{step-lies, by_fields}
use Rattle.field_rules.specs.declared.Mode.{Mode}
use Rattle.field_rules.specs.declared.Cursor.{Cursor}
use Rattle.field_rules.specs.declared.Field.{Field}
use Rattle.build_integrity_rules.proofs.VerifiedLaws.{verified-read}
use Rattle.dictionary_layout_rules.specs.Tree.{Dictionary, knows, header_tags_lem, trailer_tags_lem, holds_tag}
use Rattle.build_records.specs.declared.Record.{Record}
use Rattle.build_group_rules.specs.Groups.{Rules, run, outermost, RunOutcome, walk}
use Rattle.build_group_rules.specs.Groups.{ended as ran, refused as stops}
use Rattle.build_group_rules.specs.Reading.{accepted, layout_rules, list_store}
use Rattle.build_required_rules.specs.Required.{Demands, run_lack}
use Rattle.build_required_rules.specs.Checking.{layout_demands}
use Rattle.build_required_rules.specs.declared.Lack.{Lack}
use Rattle.build_required_rules.specs.declared.Lack.TheVariants.{Missing, Complete}
use Rattle.build_parts.specs.Parts.{part_record}
use Rattle.build_body_rules.specs.Body.{Kind, plain, counts, other, Body}
use Rattle.build_body_rules.specs.Kinds.{checked, ran_as, run_from, body_of}
use Rattle.build_rules.specs.Beginning.{header_of, verified_records}
use Rattle.build_rules.specs.Message.{Outcome}
use Rattle.build_order_laws.specs.Follows.{Reaches, here, further}
use Rattle.build_order_laws.specs.BodyStores.{walk_stores, body_stores}
use Rattle.build_order_laws.specs.HeaderStores.{header_stores}
use Rattle.build_order_laws.specs.InParts.{InParts}
use Rattle.promise_roundtrip.specs.UnderTag.{under}
use Rattle.promise_roundtrip.specs.LastRead.{latest, header_takes, trailer_takes, taken_behind, body_taking, body_takes}
use Rattle.promise_roundtrip.proofs.LastReadLaws.{of_header, of_body, last-read}
use Rattle.promise_roundtrip.specs.LaterHeld.{LaterHeld, Repeats, Rising, rising_end, rising_field}

pub rising_lower : {at to : ℕ} {fields : Fields} → to ≤ at → Rising at fields → Rising to fields
rising_lower h rising_end = rising_end
rising_lower {at} {to} h (rising_field {f = f} p r) = let q : to ≤ f.place = omega (arith, h, p) in rising_field q r

pub rising_first : {at : ℕ} {f : Field} {rest : Fields} → Rising at (field f rest) → (at ≤ f.place) × Rising (suc f.place) rest
rising_first (rising_field p r) = (p, r)

pub rising_from : (mode : Mode) (message : List ℕ) (c : Cursor) → Rising c.at (fields_from mode message c)
rising_from mode message =
    by_fields mode message (λ c fields. Rising c.at fields) (λ c cause place e. rising_end)
    (λ c f e later. let l = step-lies mode message c f e in
    let p : c.at ≤ f.place = omega (arith, l.value_after) in
    let q : suc f.place ≤ f.next.at = omega (arith, l.ends) in
    rising_field p (rising_lower q later))

pub rising_reaches : {at n : ℕ} {fields last : Fields} → Reaches fields n last → Rising at fields → Rising at last
rising_reaches here r = r
rising_reaches {at} (further more) (rising_field {f = f} p r) = let q : at ≤ suc f.place = omega (arith, p) in rising_lower q (rising_reaches more r)

-- the same of a list of them
data Ascending : ℕ → List Field → Type 0 where
  ascends_none : {at : ℕ} → Ascending at []
  ascends_more : {at : ℕ} {f : Field} {fs : List Field} → at ≤ f.place → Ascending (suc f.place) fs → Ascending at (f ∷ fs)

ascending_lower : {at to : ℕ} {fs : List Field} → to ≤ at → Ascending at fs → Ascending to fs
ascending_lower h ascends_none = ascends_none
ascending_lower {at} {to} h (ascends_more {f = f} p r) = let q : to ≤ f.place = omega (arith, h, p) in ascends_more q r

header_ascends : (tags : List ℕ) {at : ℕ} (fields : Fields) → Rising at fields → Ascending at (header_takes tags fields)
unfolding header_takes
header_ascends tags (unreadable cause place) r = ascends_none
header_ascends tags {at} (field f rest) (rising_field p r) = by_tag (holds_tag f.tag tags) (header_ascends tags rest r)
  where
    by_tag : (b : Bool) → Ascending (suc f.place) (header_takes tags rest) → Ascending at (pick b (f ∷ header_takes tags rest) [])
    by_tag true later = ascends_more p later
    by_tag false later = ascends_none

trailer_ascends : {at : ℕ} (fields : Fields) → Rising at fields → Ascending at (trailer_takes fields)
unfolding trailer_takes
trailer_ascends (unreadable cause place) r = ascends_none
trailer_ascends {at} (field f rest) (rising_field p r) = by_tag (eqb f.tag 10) (trailer_ascends rest r)
  where
    by_tag : (b : Bool) → Ascending (suc f.place) (trailer_takes rest) → Ascending at (pick b [] (f ∷ trailer_takes rest))
    by_tag true later = ascends_none
    by_tag false later = ascends_more p later

module _ {L : Type 0} (rules : Rules L) (demands : Demands L) (tags : List ℕ) (level : L) where
  abbrev body : Body L
  body = body_of rules demands tags level

  -- behind a run that was read reading stands further on
  module _ (inner : L) (tag : ℕ) (rest : Fields) (room at : ℕ) (r : Rising at rest) (on : Fields → ℕ → List Field) (later : (fields : Fields) (left : ℕ) → Rising at fields → Ascending at (on fields left)) where
    lack_ascends : (g : Field) (more : Fields) (left : ℕ) (es : List Record) (lack : Lack) → Rising at (field g more) → Ascending at (taken_behind (checked g more left es lack) on)
    unfolding checked taken_behind
    lack_ascends g more left es Complete q = later (field g more) (suc left) q
    lack_ascends g more left es (Missing t u) q = ascends_none

    run_ascends : (o : RunOutcome (List Record) (List Record)) → walk rules list_store room (run (outermost tag inner) 0 ∷ []) [] rest ≡ o
        → Ascending at (taken_behind (ran_as rules demands inner tag o) on)
    unfolding ran_as
    run_ascends (ran g more left es) w =
        lack_ascends g more left es (run_lack demands 4 inner tag 1 es) (rising_reaches (walk_stores rules room (run (outermost tag inner) 0 ∷ []) [] rest g more left es w).reaches r)
    run_ascends (stops refusal es) w = unfold taken_behind in ascends_none

  kind_ascends : (on : Fields → ℕ → List Field) → ((at : ℕ) (fields : Fields) (left : ℕ) → Rising at fields → Ascending at (on fields left)) → (f : Field) (rest : Fields) (room at : ℕ) → at ≤ f.place → Rising (suc f.place) rest → (k : Kind L)
      → Ascending at (body_taking body on f rest room k)
  unfolding body_taking
  kind_ascends on later f rest room at p r plain = ascends_more p (later (suc f.place) rest room r)
  kind_ascends on later f rest room at p r (counts inner) =
      let q : Ascending (suc f.place) (taken_behind (body.run inner f.tag rest room) on) = unfold body_of run_from in run_ascends inner f.tag rest room (suc f.place) r on (later (suc f.place)) (walk rules list_store room (run (outermost f.tag inner) 0 ∷ []) [] rest) refl in
      ascends_more p q
  kind_ascends on later f rest room at p r other = ascends_none

  body_ascends : (turns at : ℕ) (fields : Fields) (room : ℕ) → Rising at fields → Ascending at (body_takes body turns fields room)
  unfolding body_takes
  body_ascends zero at fields room r = ascends_none
  body_ascends (suc turns) at (unreadable cause place) room r = ascends_none
  body_ascends (suc turns) at (field f rest) zero r = ascends_none
  body_ascends (suc turns) at (field f rest) (suc room) (rising_field p r) = kind_ascends (body_takes body turns) (body_ascends turns) f rest room at p r (body.kind f.tag)

-- the one record is of a field with the tag, whose value starts at a place or later
record From (part tag place : ℕ) (rs : List Record) : Type 0 where
  last : Field
  only : rs ≡ part_record part last ∷ []
  tagged : last.tag ≡ tag
  from : place ≤ last.place

module _ (part : ℕ) where
  -- from a field on that has the tag
  held_from : (f : Field) (tag : ℕ) (fs : List Field) → f.tag ≡ tag → Ascending (suc f.place) fs → From part tag f.place (latest part tag (part_record part f ∷ []) fs)
  unfolding latest
  held_from f tag [] t a = record { last = f; only = refl; tagged = t; from = omega arith }
  held_from f tag (g ∷ gs) t (ascends_more p a) =
      let q : suc f.place ≤ suc g.place = omega (arith, p) in
      by_tag (eqb g.tag tag) refl (λ e. held_from g tag gs e a) (held_from f tag gs t (ascending_lower q a))
    where
      by_tag : (b : Bool) → eqb g.tag tag ≡ b → (g.tag ≡ tag → From part tag g.place (latest part tag (part_record part g ∷ []) gs)) → From part tag f.place (latest part tag (part_record part f ∷ []) gs)
          → From part tag f.place (latest part tag (pick b (part_record part g ∷ []) (part_record part f ∷ [])) gs)
      by_tag true e new old = let n = new (eqb-true _ _ e) in record { last = n.last; only = n.only; tagged = n.tagged; from = omega (arith, p, n.from) }
      by_tag false e new old = old

  -- what was held before, and what stands before, doesn't matter
  held_past : (tag : ℕ) (held : List Record) (before : List Field) (later : Field) (after : List Field) → later.tag ≡ tag → latest part tag held (before ++ (later ∷ after)) ≡ latest part tag (part_record part later ∷ []) after
  unfolding latest
  held_past tag held [] later after t = ap (λ (b : Bool). latest part tag (pick b (part_record part later ∷ []) held) after) (eq-eqb later.tag tag t)
  held_past tag held (f ∷ before) later after t = held_past tag (pick (eqb f.tag tag) (part_record part f ∷ []) held) before later after t

  ascending_from : {at : ℕ} (before : List Field) (f : Field) (fs : List Field) → Ascending at (before ++ (f ∷ fs)) → (at ≤ f.place) × Ascending (suc f.place) fs
  ascending_from [] f fs (ascends_more p a) = (p, a)
  ascending_from {at} (g ∷ before) f fs (ascends_more p a) = let q = ascending_from before f fs a in (omega (arith, p, q.0), q.1)

  later-held : {at : ℕ} (held : List Record) (fs : List Field) (earlier later : Field) → Ascending at fs → Repeats fs earlier later → LaterHeld part earlier later (latest part later.tag held fs)
  later-held held fs earlier later a r =
      let first = ascending_from r.before earlier (r.between ++ (later ∷ r.after)) (rw r.is at a) in
      let second = ascending_from r.between later r.after first.1 in
      let h = held_from later later.tag r.after refl second.1 in
      record {
        last = h.last;
        only =
            ap (latest part later.tag held) (r.is ∙ sym (append_assoc r.before (earlier ∷ r.between) (later ∷ r.after)))
            ∙ held_past later.tag held (r.before ++ (earlier ∷ r.between)) later r.after refl ∙ h.only;
        tagged = h.tagged;
        behind = omega (arith, second.0, h.from);
        not_before = h.from;
      }

-- ===== a message that was read with 0 =====

module _ (dictionary : Dictionary) (config : Config) (message : List ℕ) {outcome : Outcome} (p : InParts dictionary config message outcome) where
  abbrev fields_of : Fields
  fields_of = fields_from config.mode message p.verified.msg_type.next

  header_rises : Ascending 0 (of_header dictionary config message p)
  header_rises =
      let v = p.verified in
      let w = verified-read config.mode message v p.sound in
      let b = step-lies config.mode message (start_at 0) v.begin_string w.begins in
      let s = step-lies config.mode message v.begin_string.next v.body_length w.counts in
      let t = step-lies config.mode message v.body_length.next v.msg_type w.types in
      let one : suc v.begin_string.place ≤ v.body_length.place = omega (arith, b.ends, s.value_after) in
      let two : suc v.body_length.place ≤ v.msg_type.place = omega (arith, s.ends, t.value_after) in
      let three : suc v.msg_type.place ≤ v.msg_type.next.at = omega (arith, t.ends) in
      let none : 0 ≤ v.begin_string.place = omega arith in
      ascends_more none (ascends_more one (ascends_more two (header_ascends (header_tags_lem dictionary) fields_of (rising_lower three (rising_from config.mode message v.msg_type.next)))))

  pub body-starts : Rising p.verified.msg_type.next.at (field p.f p.rest)
  body-starts =
      let v = p.verified in
      rising_reaches (header_stores (header_tags_lem dictionary) fields_of 1021 (verified_records v) p.f p.rest p.room p.header (unfold header_of in p.header_read)).reaches (rising_from config.mode message v.msg_type.next)

  trailer-starts : Rising p.verified.msg_type.next.at (field p.g p.more)
  trailer-starts =
      rising_reaches (body_stores (layout_rules (accepted config (knows dictionary))) layout_demands (trailer_tags_lem dictionary) p.layout (field p.f p.rest) (suc p.room) [] p.g p.more p.room₂ p.body p.body-read).reaches body-starts

  module _ (earlier later : Field) where
    -- THE EARLIER IS LOST: in the header, in the body, in the trailer
    pub header_loses : Repeats (of_header dictionary config message p) earlier later → LaterHeld 1 earlier later (under 0 later.tag p.header)
    header_loses r = rw ((last-read dictionary config message p).in_header_lem later.tag) (later-held 1 [] (of_header dictionary config message p) earlier later header_rises r)

    pub body_loses : Repeats (of_body dictionary config message p) earlier later → LaterHeld 2 earlier later (under 0 later.tag p.body)
    body_loses r =
        let rises = body_ascends (layout_rules (accepted config (knows dictionary))) layout_demands (trailer_tags_lem dictionary) p.layout (suc (suc p.room)) _ (field p.f p.rest) (suc p.room) body-starts in
        rw ((last-read dictionary config message p).in_body_lem later.tag) (later-held 2 [] (of_body dictionary config message p) earlier later rises r)

    -- the verified 10 apart, which is the only 10
    pub trailer_loses : Repeats (trailer_takes (field p.g p.more)) earlier later → LaterHeld 3 earlier later (under 0 later.tag p.whole-trailer)
    unfolding latest
    trailer_loses r =
        rw ((last-read dictionary config message p).in_trailer_lem later.tag) (later-held 3 _ (trailer_takes (field p.g p.more)) earlier later (trailer_ascends (field p.g p.more) trailer-starts) r)
