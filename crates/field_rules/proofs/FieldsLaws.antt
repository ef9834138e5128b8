-- The laws of reading fields one after the other: one step of the reader is one step of the list, each step falls and stays within
-- the message, and depends on no byte from the field's end on.
use Rattle.std.specs.Prelude.{◌≡◌, refl, ℕ, zero, suc, ◌+◌, ◌-◌, ◌≤◌, ◌<◌}
use Rattle.std.proofs.Math.Path.{sym, ap}
use Rattle.std.proofs.Common.{◌∙◌, arith, length-drop, drop-drop, Result, Ok, Err}
use mathlib.Core.List.{List, ◌∷◌, ◌++◌}
use Rattle.std.proofs.Math.ListN.{length, take, drop}
use Rattle.std.proofs.lemmas.List.{drop-append-le}
use Rattle.std.proofs.Math.Seq.{take-append_seam}
use Rattle.field_rules.specs.Field.{field_at, value_of}
use Rattle.field_rules.proofs.FieldLaws.{past_end}
use Rattle.field_rules.proofs.FieldTextLaws.{Spelled, Lies, field-lies, field_depends, value_part}
use Rattle.field_rules.specs.Fields.{Fields, unreadable, field, followed_by, fields_within, fields_from, Inside, Each, each_end, each_field}
use Rattle.field_rules.specs.declared.Mode.{Mode}
use Rattle.field_rules.specs.declared.Cursor.{Cursor}
use Rattle.field_rules.specs.declared.Field.{Field}
use Rattle.field_rules.specs.declared.Cause.{Cause}

module _ (mode : Mode) (message : List ℕ) (c : Cursor) (f : Field) where
  -- a field that was read lies between the cursor and the message's end
  pub step-lies : field_at mode message c ≡ Ok f → Lies c.at (length message - c.at) f
  unfolding field_at
  step-lies h = rw (length-drop c.at message) at (field-lies mode c.at (drop c.at message) f h)

  pub step_falls : field_at mode message c ≡ Ok f → (c.at < f.next.at) × (f.next.at ≤ length message)
  step_falls h = let l = step-lies h in (omega (arith, l.falls), omega (arith, l.falls, l.within))

  -- the value that the field's text spells is the value that its place and length give
  pub step_value : (w : Spelled mode c.at (drop c.at message) f) → value_of message f ≡ w.value
  unfolding value_of
  step_value w =
      let place : f.place ≡ c.at + (length w.text + 1) = ap (λ (g : Field). g.place) w.is in
      let count : f.length ≡ length w.value = ap (λ (g : Field). g.length) w.is in
      let part : drop f.place message ≡ w.value ++ (mode.separator ∷ w.rest) =
      ap (λ (n : ℕ). drop n message) place ∙ sym (drop-drop (length w.text + 1) c.at message) ∙ ap (λ (l : List ℕ). drop (length w.text + 1) l) w.whole ∙ value_part mode.separator w.text w.value w.rest in
      ap (λ (n : ℕ). take n (drop f.place message)) count ∙ ap (λ (l : List ℕ). take (length w.value) l) part ∙ take-append_seam w.value (mode.separator ∷ w.rest)

-- a field that ends within a depends on no byte behind a
pub step_depends : (mode : Mode) (a t u : List ℕ) (c : Cursor) (f : Field) → field_at mode (a ++ t) c ≡ Ok f → f.next.at ≤ length a → field_at mode (a ++ u) c ≡ Ok f
unfolding field_at
step_depends mode a t u c f h l =
    let before : c.at ≤ length a = omega (arith, (step_falls mode (a ++ t) c f h).0) in
    let size : length (drop c.at a) ≡ length a - c.at = length-drop c.at a in
    rw (drop-append-le c.at a u before)
    (field_depends mode c.at (drop c.at a) t u f (rw (drop-append-le c.at a t before) at h) (omega arith))

-- enough is enough: where no more bytes are left than fields are allowed, their number doesn't matter
enough : (k l : ℕ) (mode : Mode) (message : List ℕ) (c : Cursor) → length message - c.at ≤ k → length message - c.at ≤ l → fields_within k mode message c ≡ fields_within l mode message c
unfolding fields_within followed_by
enough zero zero mode message c h g = refl
enough zero (suc l) mode message c h g = rw (past_end mode message c (omega arith))
enough (suc k) zero mode message c h g = rw (past_end mode message c (omega arith))
enough (suc k) (suc l) mode message c h g =
    go (field_at mode message c) refl (λ f. enough k l mode message f.next)
  where
    go : (r : Result Field (Cause × ℕ)) → field_at mode message c ≡ r → ((f : Field) → length message - f.next.at ≤ k → length message - f.next.at ≤ l → fields_within k mode message f.next ≡ fields_within l mode message f.next) → followed_by r (λ f. fields_within k mode message f.next) ≡ followed_by r (λ f. fields_within l mode message f.next)
    go (Err (cause, place)) e later = refl
    go (Ok f) e later =
        let s = step_falls mode message c f e in
        ap (λ (x : Fields). field f x) (later f (omega (arith, s.0, s.1)) (omega (arith, s.0, s.1)))

module _ (mode : Mode) (message : List ℕ) (c : Cursor) where
  one_more : fields_from mode message c ≡ fields_within (suc (length message)) mode message c
  unfolding fields_from
  one_more = enough (length message - c.at) (suc (length message)) mode message c (omega arith) (omega arith)

  -- where a field can be read it comes first, and what follows is read from its end on
  pub fields-field : (f : Field) → field_at mode message c ≡ Ok f → fields_from mode message c ≡ field f (fields_from mode message f.next)
  unfolding fields_from fields_within followed_by
  fields-field f h =
      one_more ∙ rw h (ap (λ (x : Fields). field f x) (enough (length message) (length message - f.next.at) mode message f.next (omega arith) (omega arith)))

  -- where none can be read the list ends, with the reason
  pub fields-end : (cause : Cause) (place : ℕ) → field_at mode message c ≡ Err (cause, place) → fields_from mode message c ≡ unreadable cause place
  unfolding fields_within followed_by
  fields-end cause place h = one_more ∙ rw h

-- INDUCTION: what holds where no field can be read, and of a field once it holds of what is read behind it, holds from every cursor on
module _ (mode : Mode) (message : List ℕ) (P : Cursor → Fields → Type 0)
    (ends : (c : Cursor) (cause : Cause) (place : ℕ) → field_at mode message c ≡ Err (cause, place) → P c (unreadable cause place))
    (goes_on : (c : Cursor) (f : Field) → field_at mode message c ≡ Ok f → P f.next (fields_from mode message f.next) → P c (field f (fields_from mode message f.next))) where
  within : (most : ℕ) (c : Cursor) → length message - c.at ≤ most → P c (fields_from mode message c)
  within zero c h =
      let past = past_end mode message c (omega arith) in
      rw (fields-end mode message c _ _ past) (ends c _ _ past)
  within (suc most) c h = go (field_at mode message c) refl (λ f. within most f.next)
    where
      go : (r : Result Field (Cause × ℕ)) → field_at mode message c ≡ r → ((f : Field) → length message - f.next.at ≤ most → P f.next (fields_from mode message f.next)) → P c (fields_from mode message c)
      go (Err (cause, place)) e later = rw (fields-end mode message c cause place e) (ends c cause place e)
      go (Ok f) e later =
          let s = step_falls mode message c f e in
          rw (fields-field mode message c f e) (goes_on c f e (later f (omega (arith, s.0, s.1))))

  pub by_fields : (c : Cursor) → P c (fields_from mode message c)
  by_fields c = within (length message - c.at) c (omega arith)

module _ (mode : Mode) (message : List ℕ) (c : Cursor) (f : Field) where
  pub step-inside : field_at mode message c ≡ Ok f → Inside message f
  step-inside h = let l = step-lies mode message c f h in record { within = omega (arith, l.ends, (step_falls mode message c f h).1) }

-- what holds of each field that can be read at all holds of all of them
pub each_read : (mode : Mode) (message : List ℕ) (P : Field → Type 0) → ((c : Cursor) (f : Field) → field_at mode message c ≡ Ok f → P f) → (c : Cursor) → Each P (fields_from mode message c)
each_read mode message P holds = by_fields mode message (λ c fields. Each P fields) (λ c cause place e. each_end) (λ c f e later. each_field (holds c f e) later)

pub all-inside : (mode : Mode) (message : List ℕ) (c : Cursor) → Each (Inside message) (fields_from mode message c)
all-inside mode message = each_read mode message (Inside message) (step-inside mode message)
