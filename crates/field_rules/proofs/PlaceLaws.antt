-- Where reading stands: a field that can't be read has the place where reading stood, fields start where they are read, and reading at one
-- place reads one field.
use Rattle.std.specs.Prelude.{◌≡◌, List, ℕ, ◌+◌, take, drop}
use Rattle.std.proofs.Math.Path.{refl, sym, ap}
use Rattle.std.proofs.Common.{◌∙◌, arith, Option, Some, None, Result, Ok, Err}
use Rattle.field_rules.specs.Find.{find_in}
use Rattle.field_rules.specs.Number.{tag_of}
use Rattle.field_rules.specs.Field.{field_at, field_from, with_equals, with_separator, with_tag}
use Rattle.field_rules.specs.Fields.{Fields, field, fields_from, start_of}
use Rattle.field_rules.proofs.FieldsLaws.{step-lies, fields-field, fields-end}
use Rattle.field_rules.specs.declared.Mode.{Mode}
use Rattle.field_rules.specs.declared.Cause.{Cause}
use Rattle.field_rules.specs.declared.Cursor.{Cursor}
use Rattle.field_rules.specs.declared.Field.{Field}

-- the place that a refusal names
abbrev told : Result Field (Cause × ℕ) → ℕ
told (Ok f) = f.first
told (Err (cause, place)) = place

unreadable-from : (at : ℕ) (mode : Mode) (s : List ℕ) (cause : Cause) (place : ℕ) → field_from at mode s ≡ Err (cause, place) → place ≡ at
unfolding field_from with_equals with_separator with_tag
unreadable-from at mode s cause place e = by_equals (find_in 61 0 s) e
  where
    by_tag : (q n : ℕ) (t : Option ℕ) → with_tag at q n t ≡ Err (cause, place) → place ≡ at
    by_tag q n None e = sym (ap told e)
    by_tag q n (Some tag) e = let z : ◌≡◌ {A = ℕ} 0 1 = cc in absurd (omega arith)

    by_separator : (q : ℕ) (found : Option ℕ) → with_separator at s q found ≡ Err (cause, place) → place ≡ at
    by_separator q None e = sym (ap told e)
    by_separator q (Some n) e = by_tag q n (tag_of (take q s)) e

    by_equals : (found : Option ℕ) → with_equals at mode s found ≡ Err (cause, place) → place ≡ at
    by_equals None e = sym (ap told e)
    by_equals (Some q) e = by_separator q (find_in mode.separator 0 (drop (q + 1) s)) e

module _ (mode : Mode) (message : List ℕ) where
  -- a field that can't be read has the place where reading stood
  pub unreadable-place : (c : Cursor) (cause : Cause) (place : ℕ) → field_at mode message c ≡ Err (cause, place) → place ≡ c.at
  unfolding field_at
  unreadable-place c cause place e = unreadable-from _ _ _ cause place e

  -- the first of the fields was read where reading stood, and the others from its end on
  pub record FirstRead (c : Cursor) (f : Field) (rest : Fields) : Type 0 where
    pub reads : field_at mode message c ≡ Ok f
    pub others : rest ≡ fields_from mode message f.next

  pub first_read : (c : Cursor) (f : Field) (rest : Fields) → field f rest ≡ fields_from mode message c → FirstRead c f rest
  first_read c f rest e = by_read (field_at mode message c) refl
    where
      by_read : (r : Result Field (Cause × ℕ)) → field_at mode message c ≡ r → FirstRead c f rest
      by_read (Err (cause, place)) r = let s = fields-end mode message c cause place r in let z : ◌≡◌ {A = ℕ} 0 1 = cc in absurd (omega arith)
      by_read (Ok g) r =
          let s = fields-field mode message c g r in
          let same : g ≡ f = cc in
          let tail : fields_from mode message g.next ≡ rest = cc in
          record { reads = r ∙ ap Ok same; others = sym tail ∙ ap (λ (h : Field). fields_from mode message h.next) same }

  -- fields start at the place where they are read
  pub fields-start : (c : Cursor) → start_of (fields_from mode message c) ≡ c.at
  unfolding start_of
  fields-start c = by_read (field_at mode message c) refl
    where
      by_read : (r : Result Field (Cause × ℕ)) → field_at mode message c ≡ r → start_of (fields_from mode message c) ≡ c.at
      by_read (Err (cause, place)) r = rw (fields-end mode message c cause place r) (unreadable-place c cause place r)
      by_read (Ok g) r = rw (fields-field mode message c g r) (step-lies mode message c g r).starts

  -- so fields are left for one place alone
  pub one_place : (c d : Cursor) → fields_from mode message c ≡ fields_from mode message d → c.at ≡ d.at
  one_place c d e = sym (fields-start c) ∙ ap start_of e ∙ fields-start d

  -- and at one place one field is read
  pub one-read : (c d : Cursor) (f g : Field) → field_at mode message c ≡ Ok f → field_at mode message d ≡ Ok g → c.at ≡ d.at → f ≡ g
  unfolding field_at
  one-read c d f g first second same =
      let reads : Ok f ≡ Ok g = sym first ∙ ap (λ (n : ℕ). field_from n mode (drop n message)) same ∙ second in
      cc
