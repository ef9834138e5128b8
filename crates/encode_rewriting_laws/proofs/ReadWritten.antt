-- What was read with plain tags is what writing the records makes: the bytes of a message between two places are the text of the records
-- of the fields between them. Whatever was read can be written.
use Rattle.std.proofs.Math.Path.{◌≡◌, refl, ap}
use Rattle.std.proofs.Common.{sym, ◌∙◌, append_assoc, arith, Ok}
use Rattle.std.specs.Prelude.{Bool, List, ◌∷◌, ◌++◌, ℕ, ◌+◌, ◌-◌, ◌≤◌, ◌<◌, length}
use Rattle.std.proofs.Math.Bool.{true, false}
use Rattle.std.proofs.Math.ListN.{drop}
use Rattle.std.proofs.Math.Dec.{eqb}
use borrow.Author.Tests.{eqb-true}
use Rattle.build_records.specs.Records.{value_at}
use Rattle.field_rules.specs.declared.Mode.{Mode}
use Rattle.field_rules.specs.Choice.{pick}
use Rattle.field_rules.specs.Decimal.{decimal}
use Rattle.field_rules.proofs.FindLaws.{Absent}
use Rattle.field_rules.specs.Field.{field_at, field_bytes, value_of}
use Rattle.field_rules.specs.Fields.{Fields, field, fields_from}
use Rattle.field_rules.proofs.FieldsLaws.{step-lies, step_falls}
use Rattle.field_rules.specs.declared.Cursor.{Cursor}
use Rattle.field_rules.specs.declared.Field.{Field}
use Rattle.build_records.specs.declared.Record.{Record}
use Rattle.build_nesting_laws.specs.Entries.{All, all_none, all_more}
use Rattle.message_read_laws.specs.Counting.{Of}
use Rattle.build_order_laws.specs.Follows.{Follows, no_field, one_field}
use Rattle.encode_rewriting_laws.specs.Plain.{is_plain, plain_tags}
use Rattle.encode_rewriting_laws.proofs.PlainLaws.{tag-text, plain_leads, plain_digits}
use Rattle.encode_rewriting_laws.specs.ReadPlaces.{follows_cursor}
use Rattle.field_rules.proofs.PlaceLaws.{first_read, one_place}
use Rattle.field_rules.proofs.SpelledLaws.{spells, value_is, value_ends, behind-text}
use Rattle.encode_rewriting_laws.specs.Written.{written}

-- a record whose text reads as it was written
pub record Writable (separator : ℕ) (bytes : List ℕ) (r : Record) : Type 0 where
  pub least : 1 ≤ r.tag
  pub most : r.tag ≤ 4294967295
  pub no_separator : Absent separator (value_at bytes r)
  pub inside : r.place + r.length ≤ length bytes

-- the value of a field's record is the field's
pub of_value : {part : ℕ} (message : List ℕ) (f : Field) (r : Record) → Of part f r → value_at message r ≡ value_of message f
unfolding value_at value_of
of_value message f r o = rw (o.placed, o.sized)

-- plain tags: the first one is, and the others are where it isn't the last
module _ (message : List ℕ) (place : ℕ) (f : Field) (rest : Fields) (plain : plain_tags message place (field f rest) ≡ true) where
  plain-first : is_plain message f.first (f.place - f.first - 1) ≡ true
  unfolding plain_tags
  plain-first = by_test (is_plain message f.first (f.place - f.first - 1)) refl plain
    where
      by_test : (b : Bool) → is_plain message f.first (f.place - f.first - 1) ≡ b → pick b (pick (eqb f.first place) true (plain_tags message place rest)) false ≡ true → is_plain message f.first (f.place - f.first - 1) ≡ true
      by_test true is e = is
      by_test false is e = let z : ◌≡◌ {A = ℕ} 0 1 = cc in absurd (omega arith)

  plain-others : f.first < place → plain_tags message place rest ≡ true
  unfolding plain_tags
  plain-others before = by_tests (is_plain message f.first (f.place - f.first - 1)) (eqb f.first place) refl plain
    where
      by_tests : (a b : Bool) → eqb f.first place ≡ b → pick a (pick b true (plain_tags message place rest)) false ≡ true → plain_tags message place rest ≡ true
      by_tests true true is e = absurd (omega (arith, eqb-true f.first place is))
      by_tests true false is e = e
      by_tests false b is e = let z : ◌≡◌ {A = ℕ} 0 1 = cc in absurd (omega arith)

module _ (mode : Mode) (message : List ℕ) where
  module _ (c : Cursor) (f : Field) (h : field_at mode message c ≡ Ok f) where
    text-plain : is_plain message f.first (f.place - f.first - 1) ≡ true → (spells mode message c f h).text ≡ decimal f.tag
    text-plain plain =
        let w = spells mode message c f h in
        let tagged = tag-text w.text f.tag w.is_tag in
        let first : f.first ≡ c.at = ap (λ (g : Field). g.first) w.is in
        let size : f.place - f.first - 1 ≡ length w.text = omega (arith, ap (λ (g : Field). g.place) w.is) in
        plain_digits w.text f.tag tagged.digits
        (plain_leads message c.at w.text (61 ∷ (w.value ++ (mode.separator ∷ w.rest))) tagged.digits.some (w.whole ∙ simp append_assoc)
        (ap (λ (n : ℕ). is_plain message n (length w.text)) (sym first) ∙ ap (λ (n : ℕ). is_plain message f.first n) (sym size) ∙ plain))

    field-written : is_plain message f.first (f.place - f.first - 1) ≡ true → drop c.at message ≡ field_bytes mode.separator (decimal f.tag) (value_of message f) ++ drop f.next.at message
    field-written plain =
        let w = spells mode message c f h in
        w.whole
        ∙ ap (λ (t : List ℕ). field_bytes mode.separator t w.value ++ w.rest) (text-plain plain)
        ∙ ap (λ (v : List ℕ). field_bytes mode.separator (decimal f.tag) v ++ w.rest) (sym (value_is mode message c f h))
        ∙ ap (λ (l : List ℕ). field_bytes mode.separator (decimal f.tag) (value_of message f) ++ l) (behind-text mode message c f h)

    of_writable : (part : ℕ) (r : Record) → Of part f r → Writable mode.separator message r
    of_writable part r o =
        let w = spells mode message c f h in
        let tagged = tag-text w.text f.tag w.is_tag in
        let lies = step-lies mode message c f h in
        let falls = step_falls mode message c f h in
        let tag = o.tagged in
        record {
          least = omega (arith, tagged.least);
          most = omega (arith, tagged.digits.most);
          no_separator = rw (of_value message f r o) (value_ends mode message c f h);
          inside = omega (arith, o.placed, o.sized, lies.ends, falls.1);
        }

  -- the bytes up to where reading stands then are those of the records, and the tags from there on are plain too
  pub record WrittenTo (place : ℕ) (c d : Cursor) (rs : List Record) (last : Fields) : Type 0 where
    pub bytes : drop c.at message ≡ written mode.separator message rs ++ drop d.at message
    pub plain : plain_tags message place last ≡ true

  pub follows_written : {part : ℕ} {fields last : Fields} {rs : List Record} → Follows part fields rs last → (place : ℕ) (c d : Cursor) → fields ≡ fields_from mode message c → last ≡ fields_from mode message d → d.at ≤ place
      → plain_tags message place fields ≡ true → WrittenTo place c d rs last
  unfolding written
  follows_written no_field place c d e g before plain =
      record { bytes = ap (λ (n : ℕ). drop n message) (one_place mode message c d (sym e ∙ g)); plain = plain }
  follows_written (one_field {f = f} {rest = rest} {last = last} {rs = rs} r of follows) place c d e g before plain =
      let first = first_read mode message c f rest e in
      let falls = step_falls mode message c f first.reads in
      let starts = (step-lies mode message c f first.reads).starts in
      let end = follows_cursor mode message follows f.next first.others in
      let same : end.cursor.at ≡ d.at = one_place mode message end.cursor d (sym end.left ∙ g) in
      let later = follows_written follows place f.next d first.others g before
      (plain-others message place f rest plain (omega (arith, starts, falls.0, end.behind, same))) in
      record {
        bytes =
            field-written c f first.reads (plain-first message place f rest plain)
            ∙ rw (later.bytes, ← of_value message f r of, ← of.tagged) (sym (append_assoc (field_bytes mode.separator (decimal r.tag) (value_at message r)) (written mode.separator message rs) (drop d.at message)));
        plain = later.plain;
      }

  pub follows_writable : {part : ℕ} {fields last : Fields} {rs : List Record} → Follows part fields rs last → (c : Cursor) → fields ≡ fields_from mode message c → All (Writable mode.separator message) rs
  follows_writable no_field c e = all_none
  follows_writable {part} (one_field {f = f} {rest = rest} r of follows) c e =
      let first = first_read mode message c f rest e in
      all_more (of_writable c f first.reads part r of) (follows_writable follows f.next first.others)
