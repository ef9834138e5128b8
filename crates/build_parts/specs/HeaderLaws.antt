-- Each way that the header goes at a field.
use Rattle.std.proofs.Math.Path.{◌≡◌, refl}
use Rattle.std.proofs.Common.{sym, ap, ◌∙◌, arith}
use Rattle.std.specs.Prelude.{Bool, true, false, List, Result, Ok, Err, ℕ}
use Prim.Native.Nat.{ℕ, zero, suc, ◌-◌}
use Rattle.field_rules.specs.declared.Mode.{Mode}
use Rattle.field_rules.specs.Field.{field_at}
use Rattle.field_rules.specs.Fields.{Fields, field, fields_from}
use Rattle.field_rules.proofs.FieldsLaws.{fields-field, fields-end}
use Rattle.field_rules.specs.declared.Cursor.{Cursor}
use Rattle.field_rules.specs.declared.Field.{Field}
use Rattle.dictionary_layout_rules.specs.Tree.{holds_tag}
use Rattle.build_records.specs.Records.{stored}
use Rattle.build_records.specs.declared.Record.{Record}
use Rattle.build_parts.specs.Parts.{ended, refused, part_record, next_of}
use Rattle.build_parts.specs.PartLaws.{taken}
use Rattle.build_parts.specs.Header.{header_from}
use Rattle.build_answers.specs.declared.Answer.{Answer}
use Rattle.field_rules.specs.declared.Cause.{Cause}

module _ (tags : List ℕ) (mode : Mode) (message : List ℕ) (c : Cursor) (room : ℕ) (records : List Record) where
  pub header_missing : (answer : Answer) → next_of room (field_at mode message c) ≡ Err answer → header_from tags (fields_from mode message c) room records ≡ refused answer
  unfolding next_of header_from
  header_missing answer h = go (field_at mode message c) refl room h
    where
      go : (r : Result Field (Cause × ℕ)) → field_at mode message c ≡ r → (room : ℕ) → next_of room r ≡ Err answer → header_from tags (fields_from mode message c) room records ≡ refused answer
      go (Err (cause, place)) e room h = rw (fields-end mode message c cause place e) (ap refused (cc))
      go (Ok f) e zero h = rw (fields-field mode message c f e) (ap refused (cc))
      go (Ok f) e (suc room) h = let z : ◌≡◌ {A = ℕ} 0 1 = cc in absurd (omega arith)

  module _ (f : Field) (got : next_of room (field_at mode message c) ≡ Ok f) where
    header-field : header_from tags (fields_from mode message c) room records ≡ header_from tags (field f (fields_from mode message f.next)) (suc (room - 1)) records
    header-field = let t = taken mode message c f room got in
        ap (λ (l : Fields). header_from tags l room records) t.fields ∙ ap (λ (n : ℕ). header_from tags (field f (fields_from mode message f.next)) n records) t.one_less

    pub header_takes : holds_tag f.tag tags ≡ true → header_from tags (fields_from mode message c) room records ≡ header_from tags (fields_from mode message f.next) (room - 1) (stored (part_record 1 f) records)
    unfolding header_from
    header_takes h = header-field ∙ rw h

    pub header-stops : holds_tag f.tag tags ≡ false → header_from tags (fields_from mode message c) room records ≡ ended f (fields_from mode message f.next) (room - 1) records
    unfolding header_from
    header-stops h = header-field ∙ rw h
