-- The three parts together: what was read as header, body and trailer of a message stands for a message within the limits.
use Rattle.std.specs.Prelude.{◌≡◌, true, ℕ, suc, ◌+◌, ◌-◌, ◌≤◌, drop, Some}
use Rattle.std.proofs.Math.Path.{refl, ap}
use Rattle.std.proofs.Common.{sym, ◌∙◌}
use mathlib.Core.List.{List, [], ◌∷◌, ◌++◌}
use native.Mathlib.Omega.{arith}
use Rattle.std.proofs.Math.ListN.{length, length-append, length-take}
use Rattle.field_rules.specs.declared.Mode.{Mode}
use Rattle.field_rules.specs.Field.{start_at}
use Rattle.field_rules.specs.Fields.{Fields, field, fields_from}
use Rattle.field_rules.proofs.FieldsLaws.{step-lies}
use Rattle.field_rules.specs.declared.Field.{Field}
use Rattle.build_integrity_rules.specs.declared.Verified.{Verified}
use Rattle.build_records.specs.Records.{stored, value_at}
use Rattle.build_records.specs.declared.Record.{Record}
use Rattle.message_maps.specs.Map.{Map, end, holds_any, field_count}
use Rattle.message_lent_rules.specs.Meaning.{Message}
use Rattle.message_lent_rules.specs.Formed.{is_formed, Formed, Within}
use Rattle.build_group_rules.specs.Groups.{Rules, opens}
use Rattle.build_required_rules.specs.Required.{Demands}
use Rattle.build_nesting_laws.specs.Entries.{all_none, all_more}
use Rattle.build_parts.specs.Parts.{ended, part_record}
use Rattle.build_parts.specs.Header.{header_from}
use Rattle.build_parts.specs.Trailer.{Trailer, trailer_from}
use Rattle.build_body_rules.specs.Body.{body_from}
use Rattle.build_body_rules.specs.Kinds.{body_of}
use Rattle.message_take_over.specs.Taking.{values_at}
use Rattle.message_take_over.specs.Derived.{StandFor}
use Rattle.message_take_over.proofs.TakenLaws.{stand_values}
use Rattle.message_read_laws.specs.Shapes.{Shapes, no_more, one-own, one_entry, Placed, Tagged}
use Rattle.message_read_laws.specs.ShapeLaws.{shapes_stand}
use Rattle.message_read_laws.specs.GroupShapes.{EntryBuilt, build_start, build_user}
use Rattle.message_read_laws.specs.Counting.{total, budget, Fine, Counts}
use Rattle.message_read_laws.specs.CountLaws.{total-append, grows_stored, read_fine, all_fine, all-budget}
use Rattle.message_read_laws.specs.PartReading.{Reads, of_field, own-field, header-reads, Ended, trailer-reads}
use Rattle.message_read_laws.specs.BodyReading.{body_reads}
use Rattle.build_integrity_rules.proofs.VerifiedLaws.{VerifiedRead}

-- records of a build that take-over accepts: they stand for a message within the limits
pub record Takes (message : List ℕ) (rs : List Record) : Type 0 where
  pub meant : Message
  pub stand : StandFor message meant rs
  pub within : Within meant
  pub few : length rs ≤ 1024

-- an entry has its first field, so there are as many fields as records
shapes_count : {bytes : List ℕ} {depth number start entries : ℕ} {m : Map} {rs : List Record} → Shapes bytes depth number start entries m rs
    → field_count m ≡ length rs
unfolding field_count holds_any
shapes_count no_more = refl
shapes_count (one-own r o more) = omega (arith, shapes_count more)
shapes_count (one_entry {rs = rs} {ss = ss} r o inner more) = omega (arith, shapes_count inner, shapes_count more, length-append rs ss)

values_small : (bytes : List ℕ) (rs : List Record) → length (values_at bytes rs) ≤ total rs
unfolding values_at total
values_small bytes [] = omega arith
values_small bytes (r ∷ rs) = omega (arith, length-append (value_at bytes r) (values_at bytes rs), values_small bytes rs, value_short r)
  where
    value_short : (r : Record) → length (value_at bytes r) ≤ r.length
    value_short r = unfold value_at in omega (arith, length-take r.length (drop r.place bytes))

module _ (mode : Mode) (message : List ℕ) (v : Verified) (w : VerifiedRead mode message v) where
  -- the fields that were verified
  verified-reads : Reads message 1 1024 (length message - 9) (fields_from mode message v.msg_type.next) 1021
      (stored (part_record 1 v.msg_type) (stored (part_record 1 v.body_length) (stored (part_record 1 v.begin_string) [])))
  verified-reads =
      let a = v.begin_string in
      let b = v.body_length in
      let c = v.msg_type in
      let p = part_record 1 a in
      let q = part_record 1 b in
      let r = part_record 1 c in
      let la = step-lies mode message (start_at 0) a w.begins in
      let lb = step-lies mode message a.next b w.counts in
      let lc = step-lies mode message b.next c w.types in
      let fa = fine_record a (read_fine mode message (start_at 0) a w.begins) in
      let fb = fine_record b (read_fine mode message a.next b w.counts) in
      let fc = fine_record c (read_fine mode message b.next c w.types) in
      let one = stored p [] in
      let two = stored q one in
      let g₁ = grows_stored p [] in
      let g₂ = grows_stored q one in
      let g₃ = grows_stored r two in
      let s₁ : total [] ≡ 0 = unfold total in refl in
      let none : EntryBuilt message 0 0 [] = record { map = end; shapes = no_more; formed = unfold is_formed in refl } in
      record {
        built =
            build_user message r (build_user message q (build_user message p none (own-field 1 a) fa.0.some) (own-field 1 b) fb.0.some)
            (own-field 1 c) fc.0.some;
        counts = record {
          tagged = g₃.tags fc.0 (g₂.tags fb.0 (g₁.tags fa.0 all_none));
          placed = g₃.places message 1 fc.1 (g₂.places message 1 fb.1 (g₁.places message 1 fa.1 all_none));
          few = omega (arith, g₁.longer, g₂.longer, g₃.longer);
          small =
              omega (
                arith,
                s₁,
                g₁.larger,
                g₂.larger,
                g₃.larger,
                (of_field 1 a).sized,
                (of_field 1 b).sized,
                (of_field 1 c).sized,
                la.falls,
                la.ends,
                la.value_after,
                la.within,
                lb.falls,
                lb.ends,
                lb.value_after,
                lb.within,
                lc.falls,
                lc.ends,
                lc.value_after,
                lc.within,
                all-budget mode message c.next,
              );
          each = all_fine mode message c.next;
        };
      }
    where
      fine_record : (f : Field) → Fine message f → Tagged (part_record 1 f) × Placed message 1 (part_record 1 f)
      fine_record f fine =
          let o = of_field 1 f in
          (record { some = λ z. fine.some (sym o.tagged ∙ z) }, record { of = o.of; inside = omega (arith, fine.inside, o.placed, o.sized) })

  -- "The verified CheckSum stands first in the trailer"
  trailer-begins : (f : Field) (rest : Fields) (room most bytes : ℕ) → Counts message 2 most bytes (field f rest) (suc room) []
      → Reads message 3 (most + 1) (bytes + v.checksum.length) (field f rest) (suc room) (part_record 3 v.checksum ∷ [])
  trailer-begins f rest room most bytes r =
      let k = v.checksum in
      let o = of_field 3 k in
      let fine = read_fine mode message (start_at (length message - 7)) k w.sums in
      let some : (part_record 3 k).tag ≡ 0 → ⊥ = λ z. fine.some (sym o.tagged ∙ z) in
      record {
        built = build_start message (part_record 3 k) (own-field 3 k) some;
        counts = record {
          tagged = all_more {r = part_record 3 k} (record { some = some }) all_none;
          placed = all_more {r = part_record 3 k} (record { of = o.of; inside = omega (arith, fine.inside, o.placed, o.sized) }) all_none;
          few = omega (arith, r.few);
          small = unfold total in omega (arith, r.small, o.sized);
          each = r.each;
        };
      }

  -- the CheckSum's value is short: it lies in the last seven bytes
  checksum_short : v.checksum.length ≤ 9
  checksum_short =
      let l = step-lies mode message (start_at (length message - 7)) v.checksum w.sums in omega (arith, l.falls, l.ends, l.value_after, l.within)

  -- nothing of a part is read yet
  none_read : (most bytes : ℕ) (f : Field) (rest : Fields) (room : ℕ) → suc room ≤ most → budget (field f rest) ≤ bytes
      → {part : ℕ} {rs : List Record} {m b : ℕ} → Counts message part m b (field f rest) (suc room) rs
      → Counts message 2 most bytes (field f rest) (suc room) []
  none_read most bytes f rest room few small c =
      record { tagged = all_none; placed = all_none; few = omega arith; small = unfold total in omega arith; each = c.each }

  module _ {L : Type 0} (rules : Rules L) (first : (level : L) (tag : ℕ) → opens rules level tag ≡ true → rules.position level tag ≡ Some 0)
      (demands : Demands L) (header_tags_lem trailer_tags_lem : List ℕ) (level : L) where
    pub parts-take : (f g : Field) (rest more : Fields) (room room₂ : ℕ) (h b t : List Record) (trailer : Trailer) → length message ≤ 8192
        → header_from header_tags_lem (fields_from mode message v.msg_type.next) 1021 (stored (part_record 1 v.msg_type)
        (stored (part_record 1 v.body_length) (stored (part_record 1 v.begin_string) []))) ≡ ended f rest room h
        → body_from (body_of rules demands trailer_tags_lem level) (field f rest) (suc room) [] ≡ ended g more room₂ b
        → trailer_from (field g more) (suc room₂) (part_record 3 v.checksum ∷ []) ≡ trailer → Ended trailer t → Takes message (h ++ (b ++ t))
    unfolding body_from
    parts-take f g rest more room room₂ h b t trailer short eh eb et end-of-it =
        let rh = header-reads header_tags_lem _ 1021 _ verified-reads f rest room h eh in
        let start : Reads message 2 (suc room) (budget (field f rest)) (field f rest) (suc room) [] =
        record {
          built = record { map = end; shapes = no_more; formed = unfold is_formed in refl };
          counts = none_read (suc room) (budget (field f rest)) f rest room (omega arith) (omega arith) rh.counts;
        } in
        let rb = body_reads rules first demands trailer_tags_lem level (suc (suc room)) (field f rest) (suc room) [] start g more room₂ b eb in
        let rt =
        trailer-reads (field g more) (suc room₂) (part_record 3 v.checksum ∷ [])
        (trailer-begins g more room₂ (suc room₂) (budget (field g more))
        (none_read (suc room₂) (budget (field g more)) g more room₂ (omega arith) (omega arith) rb.counts)) trailer t et end-of-it in
        let m : Message = record { header = rh.built.map; body = rb.built.map; trailer = rt.built.map } in
        let sh = shapes_stand message rh.built.shapes rh.counts.placed in
        let sb = shapes_stand message rb.built.shapes rb.counts.placed in
        let st = shapes_stand message rt.built.shapes rt.placed in
        let formed : Formed m = record { header = rh.built.formed; body = rb.built.formed; trailer = rt.built.formed } in
        let values = stand_values message m h b t formed sh sb st in
        let all = total-append h (b ++ t) in
        let both = total-append b t in
        let fits : total (h ++ (b ++ t)) ≤ 8192 = omega (arith, all, both, rh.counts.small, rb.counts.small, rt.small, checksum_short) in
        record {
          meant = m;
          stand = record { of_header = h; of_body = b; of_trailer = t; all = refl; header = sh; body = sb; trailer = st };
          within = record {
            formed = formed;
            small = omega (arith, ap length values, values_small message (h ++ (b ++ t)), fits);
            few =
                omega (
                  arith,
                  shapes_count rh.built.shapes,
                  shapes_count rb.built.shapes,
                  shapes_count rt.built.shapes,
                  rh.counts.few,
                  rb.counts.few,
                  rt.few,
                );
          };
          few = omega (arith, length-append h (b ++ t), length-append b t, rh.counts.few, rb.counts.few, rt.few);
        }
