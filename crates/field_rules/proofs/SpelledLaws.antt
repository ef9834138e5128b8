-- A field that was read, as the text that spells it: its tag is none but zero, where its value stands, that it has no separator, and that
-- reading goes on behind the text. And the other way round: a field's text is read wherever it stands.
use Rattle.std.specs.Prelude.{◌≡◌, refl, Bool, true, false, List, [], ◌∷◌, ◌++◌, ◌≢◌, ℕ, ◌+◌, ◌≤◌, eqb, length, drop}
use Rattle.std.proofs.Common.{sym, ap, ◌∙◌, arith, length-append, drop-drop, drop_at, le-leb, Option, Some, None, Ok}
use Rattle.std.proofs.Math.Seq.{drop-append_seam}
use Rattle.std.proofs.lemmas.Bool.{eqb-false}
use Rattle.field_rules.specs.Choice.{pick}
use Rattle.field_rules.proofs.FindLaws.{Absent, none, also}
use Rattle.field_rules.specs.Number.{is_digit, all_digits, number_in, non_zero, tag_of}
use Rattle.field_rules.proofs.DecimalLaws.{all_digits-first}
use Rattle.field_rules.specs.Field.{start_at, field_at, field_bytes, value_of}
use Rattle.field_rules.proofs.FieldTextLaws.{Spelled, spelt, spelled-read, read-spelled, bytes-size, value_part}
use Rattle.field_rules.specs.Fields.{field, fields_from}
use Rattle.field_rules.proofs.FieldsLaws.{step_value, fields-field}
use Rattle.field_rules.specs.declared.Mode.{Mode}
use Rattle.field_rules.specs.declared.Cursor.{Cursor}
use Rattle.field_rules.specs.declared.Field.{Field}

-- digits have no byte among them that is none
pub digits_absent : (b : ℕ) → is_digit b ≡ false → (text : List ℕ) → all_digits text ≡ true → Absent b text
unfolding is_digit
digits_absent b other [] digits = none
digits_absent b other (x ∷ text) digits =
    let first = all_digits-first x text digits in
    also (differs first.0 first.1) (digits_absent b other text first.2)
  where
    differs : 48 ≤ x → x ≤ 57 → x ≢ b
    differs low high same =
        let e = rw (le-leb 48 b (omega (arith, same)), le-leb b 57 (omega (arith, same))) at other in
        let z : ◌≡◌ {A = ℕ} 0 1 = cc in
        absurd (omega arith)

pub no_equals_sign : is_digit 61 ≡ false
unfolding is_digit
no_equals_sign = refl

not_zero : (n : Option ℕ) (t : ℕ) → non_zero n ≡ Some t → t ≡ 0 → ⊥
unfolding non_zero
not_zero None t e z = let y : ◌≡◌ {A = ℕ} 0 1 = cc in omega arith
not_zero (Some m) t e z = by_test (eqb m 0) refl e
  where
    by_test : (b : Bool) → eqb m 0 ≡ b → pick b None (Some m) ≡ Some t → ⊥
    by_test true p e = let y : ◌≡◌ {A = ℕ} 0 1 = cc in omega arith
    by_test false p e = let y : m ≡ t = cc in eqb-false m 0 p (y ∙ z)

module _ (mode : Mode) (message : List ℕ) (c : Cursor) (f : Field) (read : field_at mode message c ≡ Ok f) where
  pub spells : Spelled mode c.at (drop c.at message) f
  unfolding field_at
  spells = read-spelled mode c.at (drop c.at message) f read

  pub value_is : value_of message f ≡ spells.value
  value_is = step_value mode message c f spells

  pub value_ends : Absent mode.separator (value_of message f)
  value_ends = rw value_is spells.no_separator-before

  pub value_size : length (value_of message f) ≡ f.length
  value_size = ap length value_is ∙ sym (ap (λ (g : Field). g.length) spells.is)

  -- at the value's place stand the value and the separator
  pub value_stands : drop f.place message ≡ value_of message f ++ (mode.separator ∷ spells.rest)
  value_stands =
      let w = spells in
      let place : f.place ≡ c.at + (length w.text + 1) = ap (λ (g : Field). g.place) w.is in
      ap (λ (n : ℕ). drop n message) place
      ∙ sym (drop-drop (length w.text + 1) c.at message)
      ∙ ap (λ (l : List ℕ). drop (length w.text + 1) l) w.whole
      ∙ value_part mode.separator w.text w.value w.rest
      ∙ ap (λ (l : List ℕ). l ++ (mode.separator ∷ w.rest)) (sym value_is)

  -- behind the field's text stands what is read next
  pub behind-text : spells.rest ≡ drop f.next.at message
  behind-text =
      let text = field_bytes mode.separator spells.text spells.value in
      let next : c.at + length text ≡ f.next.at = omega (arith, bytes-size mode.separator spells.text spells.value, ap (λ (g : Field). g.next.at) spells.is) in
      sym
      (ap (λ (n : ℕ). drop n message) (sym next)
      ∙ sym (drop-drop (length text) c.at message)
      ∙ ap (λ (l : List ℕ). drop (length text) l) spells.whole
      ∙ drop_at text spells.rest (length text) refl)

  -- no tag is 0
  pub step-tag : f.tag ≡ 0 → ⊥
  unfolding tag_of
  step-tag = not_zero (number_in spells.text) f.tag spells.is_tag

-- a field's text that stands behind other bytes
module _ (mode : Mode) (tag : ℕ) (copy pre text value post : List ℕ) (whole : copy ≡ pre ++ (field_bytes mode.separator text value ++ post)) (reads : tag_of text ≡ Some tag)
    (digits : all_digits text ≡ true) (ends : Absent mode.separator value) where
  spells_there : Spelled mode (length pre) (drop (length pre) copy) (spelt (length pre) tag text value)
  spells_there =
      record {
        text = text;
        value = value;
        rest = post;
        whole = ap (λ (l : List ℕ). drop (length pre) l) whole ∙ drop-append_seam pre (field_bytes mode.separator text value ++ post);
        is_tag = reads;
        no_equals-before = digits_absent 61 no_equals_sign text digits;
        no_separator-before = ends;
        is = refl;
      }

  -- it is read
  pub text-read : field_at mode copy (start_at (length pre)) ≡ Ok (spelt (length pre) tag text value)
  unfolding field_at
  text-read = spelled-read mode (length pre) (drop (length pre) copy) (spelt (length pre) tag text value) spells_there

  -- with its value
  pub text_value : value_of copy (spelt (length pre) tag text value) ≡ value
  unfolding spells_there
  text_value = step_value mode copy (start_at (length pre)) (spelt (length pre) tag text value) spells_there

  -- and reading goes on behind it
  pub text-fields : fields_from mode copy (start_at (length pre)) ≡ field (spelt (length pre) tag text value) (fields_from mode copy (start_at (length (pre ++ field_bytes mode.separator text value))))
  text-fields =
      let next : length pre + (length text + 1) + length value + 1 ≡ length (pre ++ field_bytes mode.separator text value) =
      omega (arith, length-append pre (field_bytes mode.separator text value), bytes-size mode.separator text value) in
      fields-field mode copy (start_at (length pre)) (spelt (length pre) tag text value) text-read
      ∙ ap (λ (n : ℕ). field (spelt (length pre) tag text value) (fields_from mode copy (start_at n))) next
