-- Each way that the trailer goes at a field that is read already.
use Rattle.std.specs.Prelude.{◌≡◌, refl, Bool, true, false, List, ℕ, zero, suc, ◌+◌, ◌-◌, ◌<◌, eqb, Ok, Err}
use Rattle.std.proofs.Common.{sym, ap, ◌∙◌, arith}
use borrow.Author.Tests.{eq-eqb, ne_eqb}
use Rattle.field_rules.specs.declared.Mode.{Mode}
use Rattle.field_rules.specs.Field.{field_at}
use Rattle.field_rules.specs.Fields.{Fields, unreadable, field, fields_from}
use Rattle.field_rules.proofs.FieldsLaws.{fields-field, fields-end}
use Rattle.field_rules.specs.declared.Cause.{Cause}
use Rattle.field_rules.specs.declared.Field.{Field}
use Rattle.build_records.specs.Records.{stored}
use Rattle.build_records.specs.declared.Record.{Record}
use Rattle.build_parts.specs.Parts.{part_record}
use Rattle.build_parts.specs.Trailer.{stopped, unstopped, crowded, trailer_from}

-- room for a field that is read already, and for those behind it
one_more : (room : ℕ) → room + 1 ≡ suc room
one_more room = omega arith

crowds : (rest : Fields) (records : List Record) → trailer_from rest zero records ≡ crowded
unfolding trailer_from
crowds (unreadable cause place) records = refl
crowds (field f rest) records = refl

module _ (f : Field) (rest : Fields) (room : ℕ) (records : List Record) where
  pub trailer-stops : f.tag ≡ 10 → trailer_from (field f rest) (room + 1) records ≡ stopped f records
  unfolding trailer_from
  trailer-stops h = rw (one_more room, eq-eqb _ _ h)

  pub trailer_takes : (f.tag ≡ 10 → ⊥) → trailer_from (field f rest) (room + 1) records ≡ trailer_from rest room (stored (part_record 3 f) records)
  unfolding trailer_from
  trailer_takes h = rw (one_more room, ne_eqb _ _ h)

  pub trailer-crowded : (f.tag ≡ 10 → ⊥) → room ≡ 0 → trailer_from (field f rest) (room + 1) records ≡ crowded
  trailer-crowded h z = trailer_takes h ∙ rw z (crowds rest (stored (part_record 3 f) records))

module _ (mode : Mode) (message : List ℕ) (f : Field) (room : ℕ) (records : List Record) (other : f.tag ≡ 10 → ⊥) (some : 0 < room) where
  left : trailer_from (field f (fields_from mode message f.next)) (room + 1) records ≡ trailer_from (fields_from mode message f.next) (room - 1 + 1) (stored (part_record 3 f) records)
  left =
      let one : room ≡ room - 1 + 1 = omega arith in
      trailer_takes f (fields_from mode message f.next) room records other
      ∙ ap (λ (n : ℕ). trailer_from (fields_from mode message f.next) n (stored (part_record 3 f) records)) one

  pub trailer-ends : (cause : Cause) (place : ℕ) → field_at mode message f.next ≡ Err (cause, place) → trailer_from (field f (fields_from mode message f.next)) (room + 1) records ≡ unstopped (stored (part_record 3 f) records)
  unfolding trailer_from
  trailer-ends cause place e = left ∙ rw (fields-end mode message f.next cause place e, one_more (room - 1))

  pub trailer-on : (g : Field) → field_at mode message f.next ≡ Ok g → trailer_from (field f (fields_from mode message f.next)) (room + 1) records ≡ trailer_from (field g (fields_from mode message g.next)) (room - 1 + 1) (stored (part_record 3 f) records)
  trailer-on g e = left ∙ ap (λ (l : Fields). trailer_from l (room - 1 + 1) (stored (part_record 3 f) records)) (fields-field mode message f.next g e)
