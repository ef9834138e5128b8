-- The laws that the readers cite: reading the next field is a step of the walk, where a reading stands it lies within the message and
-- leaves room, and going on from there is the rest of the walk.
use Rattle.std.specs.Prelude.{◌≡◌, refl, List}
use Rattle.std.proofs.Common.{sym, ◌∙◌, add-zero, Option, Some, None, Result, Ok, Err, ℕ}
use Rattle.std.proofs.Math.Path.{ap}
use Prim.Native.Nat.{ℕ, zero, suc, ◌+◌, ◌-◌, ◌≤◌, ◌<◌, ◌^◌}
use native.Mathlib.Omega.{arith}
use Rattle.field_rules.specs.declared.Mode.{Mode}
use Rattle.field_rules.specs.Field.{field_at}
use Rattle.field_rules.specs.Fields.{field, fields_from, Inside}
use Rattle.field_rules.proofs.FieldsLaws.{step-inside, all-inside, fields-field, fields-end}
use Rattle.field_rules.specs.declared.Cursor.{Cursor}
use Rattle.field_rules.specs.declared.Cause.{Cause}
use Rattle.field_rules.specs.declared.Field.{Field}
use Rattle.build_records.specs.declared.Record.{Record}
use Rattle.build_group_rules.specs.Groups.{none, opened, Rules, Frame, RunOutcome, refused, walk, taking, and_then}
use Rattle.build_group_rules.proofs.GroupLaws.{walk-unreadable, walk_full, walk_field, keeps}
use Rattle.build_group_rules.specs.Reading.{opened_by, Memory, memory, added_words, makes, standing_in, joined_words, word_store, further, Fits, FitsAt, room_for, next_reading, told_by}
use Rattle.build_group_rules.specs.declared.Progress.{Progress}
use Rattle.build_group_rules.specs.declared.Refusal.{Refusal}
use Rattle.build_group_rules.specs.declared.Refusal.TheVariants.{Malformed, TooManyFields}

-- each way that a group word goes
pub opened-none : (level : ℕ) → level ≡ 0 → opened_by level ≡ none
unfolding opened_by
opened-none level e = rw e

pub opened_some : (level : ℕ) → (level ≡ 0 → ⊥) → opened_by level ≡ opened level
unfolding opened_by
opened_some zero some = absurd (some refl)
opened_some (suc n) some = refl

-- each way that the next field goes
module _ (read : Result Field (Cause × ℕ)) (progress : Progress) where
  pub next-unreadable : (cause : Cause) (place : ℕ) → read ≡ Err (cause, place) → next_reading read progress ≡ Err (Malformed cause place)
  unfolding next_reading
  next-unreadable cause place e = rw e

  module _ (f : Field) (e : read ≡ Ok f) where
    pub next_full : progress.room ≡ 0 → next_reading read progress ≡ Err TooManyFields
    unfolding next_reading room_for
    next_full z = rw (e, z)

    pub next_field : (progress.room ≡ 0 → ⊥) → next_reading read progress ≡ Ok (f, (record { room = progress.room - 1; records = progress.records; place = progress.place }))
    unfolding next_reading room_for
    next_field n =
        let r : progress.room ≡ suc (progress.room - 1) = omega arith in
        rw e (ap (room_for f progress) r)

pub further-none : (progress : Progress) → further 0 progress ≡ progress
unfolding further
further-none progress = rw (add-zero progress.records, add-zero progress.place)

-- a tag that was held makes no record, any other makes one
pub further-held : (standing : Option ℕ) (progress : Progress) (i : ℕ) → standing ≡ Some i → progress ≡ further (makes standing) progress
unfolding makes
further-held standing progress i e = rw e (sym (further-none progress))

pub further-new : (standing : Option ℕ) (progress : Progress) → standing ≡ None → further 1 progress ≡ further (makes standing) progress
unfolding makes
further-new standing progress e = rw e

-- how many fields may still be read, the one that is read already counted in
unfoldable pub room_of : Result (Field × Progress) Refusal → ℕ
room_of (Ok (f, progress)) = suc progress.room
room_of (Err refusal) = 0

-- where a reading stands it lies within the message, and leaves room
pub record Follows (message : List ℕ) (room : ℕ) (reading : Result (Field × Progress) Refusal) : Type 0 where
  pub falls : room_of reading ≤ room
  pub fits : (f : Field) (progress : Progress) → reading ≡ Ok (f, progress) → FitsAt message f progress

-- what is left to be read of a stack from where a reading stands
module _ (rules : Rules ℕ) (mode : Mode) (message : List ℕ) where
  unfoldable pub going : List (Frame ℕ) → Result (Field × Progress) Refusal → List ℕ → RunOutcome Memory (List ℕ)
  going stack (Ok (f, progress)) words = taking rules word_store progress.room stack (memory progress words) f (fields_from mode message f.next)
  going stack (Err refusal) words = refused refusal words

module _ (rules : Rules ℕ) (mode : Mode) (message : List ℕ) (stack : List (Frame ℕ)) (progress : Progress) (words : List ℕ) (c : Cursor) where
  by_field : (r : Result Field (Cause × ℕ)) → field_at mode message c ≡ r → (room : ℕ) → progress.room ≡ room →
      walk rules word_store progress.room stack (memory progress words) (fields_from mode message c) ≡ going rules mode message stack (next_reading (field_at mode message c) progress) words
  unfolding going word_store memory
  by_field (Err (cause, place)) e room q =
      rw (fields-end mode message c cause place e, next-unreadable _ progress cause place e) (walk-unreadable rules word_store progress.room stack (memory progress words) cause place)
  by_field (Ok f) e zero q =
      rw (fields-field mode message c f e, next_full _ progress f e q, q) (walk_full rules word_store stack (memory progress words) f (fields_from mode message f.next))
  by_field (Ok f) e (suc room) q =
      let r : progress.room - 1 ≡ room = omega arith in
      rw (fields-field mode message c f e, next_field _ progress f e (omega arith))
      (ap (λ (k : ℕ). walk rules word_store k stack (memory progress words) (field f (fields_from mode message f.next))) q
      ∙ walk_field rules word_store room stack (memory progress words) f (fields_from mode message f.next)
      ∙ ap (λ (k : ℕ). taking rules word_store k stack (memory progress words) f (fields_from mode message f.next)) (sym r))

module _ (rules : Rules ℕ) (mode : Mode) (message : List ℕ) where
  -- reading the next field is a step of the walk
  pub walk-next : (stack : List (Frame ℕ)) (progress : Progress) (words : List ℕ) (c : Cursor) →
      walk rules word_store progress.room stack (memory progress words) (fields_from mode message c) ≡ going rules mode message stack (next_reading (field_at mode message c) progress) words
  walk-next stack progress words c = by_field rules mode message stack progress words c (field_at mode message c) refl progress.room refl

  -- going on from where a reading ended
  pub going_on : (stack : List (Frame ℕ)) (reading : Result (Field × Progress) Refusal) (words : List ℕ) (outcome : RunOutcome Memory (List ℕ)) → told_by mode message reading words ≡ outcome →
      and_then outcome (λ room s f rest. taking rules word_store room stack s f rest) ≡ going rules mode message stack reading words
  unfolding going told_by and_then
  going_on stack (Ok (f, progress)) words outcome e = rw (← e)
  going_on stack (Err refusal) words outcome e = rw (← e)

refused_follows : (message : List ℕ) (room : ℕ) (refusal : Refusal) → Follows message room (Err refusal)
unfolding room_of
refused_follows message room refusal = record { falls = omega arith; fits = λ f progress e. let z : ◌≡◌ {A = ℕ} 0 1 = cc in absurd (omega arith) }

at_follows : (message : List ℕ) (room : ℕ) (f : Field) (progress : Progress) → suc progress.room ≤ room → FitsAt message f progress → Follows message room (Ok (f, progress))
unfolding room_of
at_follows message room f progress h fits = record { falls = h; fits = same }
  where
    same : (f₁ : Field) (progress₁ : Progress) → ◌≡◌ {A = Result (Field × Progress) Refusal} (Ok (f, progress)) (Ok (f₁, progress₁)) → FitsAt message f₁ progress₁
    same f₁ progress₁ e =
        let both : ◌≡◌ {A = Field × Progress} (f, progress) (f₁, progress₁) = cc in
        let a : f ≡ f₁ = ap (λ (read : Field × Progress). read.0) both in
        let b : progress ≡ progress₁ = ap (λ (read : Field × Progress). read.1) both in
        rw (← a, ← b) fits

-- the next field lies within the message, and the room falls
pub next_follows : (mode : Mode) (message : List ℕ) (c : Cursor) (progress : Progress) → Fits message progress → Follows message progress.room (next_reading (field_at mode message c) progress)
next_follows mode message c progress fits = go (field_at mode message c) refl progress.room refl
  where
    go : (r : Result Field (Cause × ℕ)) → field_at mode message c ≡ r → (room : ℕ) → progress.room ≡ room → Follows message progress.room (next_reading (field_at mode message c) progress)
    go (Err (cause, place)) e room q = rw (next-unreadable _ progress cause place e) (refused_follows message progress.room (Malformed cause place))
    go (Ok f) e zero q = rw (next_full _ progress f e q) (refused_follows message progress.room TooManyFields)
    go (Ok f) e (suc room) q =
        let inside = step-inside mode message c f e in
        rw (next_field _ progress f e (omega arith))
        (at_follows message progress.room f _ (omega arith) (record { short = fits.short; inside = inside; counted = omega (arith, fits.counted); placed = omega (arith, fits.placed) }))

-- counts that leave room
record Leaves (limit room : ℕ) (m : Memory) : Type 0 where
  within : room ≤ limit
  counted : m.records + room < 2 ^ 32
  placed : m.place + room < 2 ^ 32

pub makes_one : (standing : Option ℕ) → makes standing ≤ 1
unfolding makes
makes_one (Some i) = omega arith
makes_one None = omega arith

leaves-add : (limit room : ℕ) (r : Record) (m : Memory) → Leaves limit (suc room) m → Leaves limit room (word_store.add r m)
unfolding word_store added_words
leaves-add limit room r m l = record { within = omega (arith, l.within); counted = omega (arith, l.counted); placed = omega (arith, l.placed) }

leaves_join : (limit room start : ℕ) (r : Record) (m : Memory) → Leaves limit (suc room) m → Leaves limit room (word_store.join start r m)
unfolding word_store joined_words
leaves_join limit room start r m l =
    let one = makes_one (standing_in start m.place r m.words) in
    record { within = omega (arith, l.within); counted = omega (arith, l.counted, one); placed = omega (arith, l.placed, one) }

-- where a run or an entry ended lies within the message, and the room falls
pub told_follows : (rules : Rules ℕ) (mode : Mode) (message : List ℕ) (stack : List (Frame ℕ)) (c : Cursor) (progress : Progress) (words : List ℕ) → Fits message progress → (reading : Result (Field × Progress) Refusal) (words₁ : List ℕ) →
    told_by mode message reading words₁ ≡ walk rules word_store progress.room stack (memory progress words) (fields_from mode message c) → Follows message progress.room reading
unfolding told_by memory
told_follows rules mode message stack c progress words fits (Err refusal) words₁ e = refused_follows message progress.room refusal
told_follows rules mode message stack c progress words fits (Ok (f, p)) words₁ e =
    let k = keeps rules word_store (Leaves progress.room) (Inside message) (leaves-add progress.room) (leaves_join progress.room) progress.room stack (memory progress words) (fields_from mode message c) (all-inside mode message c) (record { within = omega arith; counted = fits.counted; placed = fits.placed }) f (fields_from mode message f.next) p.room (memory p words₁) (sym e) in
    at_follows message progress.room f p k.holds.within (record { short = fits.short; inside = k.has; counted = k.holds.counted; placed = k.holds.placed })
