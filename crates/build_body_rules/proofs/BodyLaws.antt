-- Each way that the body goes at a field. A run leaves less room than it had, so turns never run out before the room does.
use Rattle.std.proofs.Math.Path.{◌≡◌, refl, ap}
use Rattle.std.proofs.Common.{sym, ◌∙◌, arith, Result, Ok, Err, ℕ}
use Rattle.std.specs.Prelude.{Bool, true, false}
use mathlib.Core.List.{List}
use Prim.Native.Nat.{ℕ, zero, suc, ◌+◌, ◌-◌, ◌≤◌, ◌<◌}
use Rattle.field_rules.specs.declared.Mode.{Mode}
use Rattle.field_rules.specs.Field.{field_at}
use Rattle.field_rules.specs.Fields.{Fields, unreadable, field, fields_from}
use Rattle.field_rules.proofs.FieldsLaws.{fields-field, fields-end}
use Rattle.field_rules.specs.declared.Cursor.{Cursor}
use Rattle.field_rules.specs.declared.Field.{Field}
use Rattle.dictionary_layout_rules.specs.Tree.{holds_tag}
use Rattle.build_records.specs.Records.{stored}
use Rattle.build_records.specs.declared.Record.{Record}
use Rattle.build_answers.specs.declared.Answer.{Answer}
use Rattle.build_answers.specs.declared.Answer.TheVariants.{InvalidField}
use Rattle.build_parts.specs.Parts.{Reading, ended, refused, part_record, next_of}
use Rattle.build_parts.specs.PartLaws.{taken}
use Rattle.build_body_rules.specs.Body.{Body, Kind, plain, counts, other, and_then, next_from, with_run, must_follow, takes, body_within, body_from}
use Rattle.field_rules.specs.declared.Cause.{Cause}

-- a run leaves less room than it had
abbrev pub Falls : (Fields → ℕ → Reading) → Type 0
Falls run = (rest after : Fields) (room left : ℕ) (f : Field) (records : List Record) → run rest room ≡ ended f after left records → left < room

-- how reading goes on matters only where there is less room
on_alike : (r : Reading) (room : ℕ) (on off : Fields → ℕ → List Record → Reading) → ((f : Field) (after : Fields) (left : ℕ) (records : List Record) → r ≡ ended f after left records → left < room) →
    ((fields : Fields) (left : ℕ) (records : List Record) → left ≤ room → on fields left records ≡ off fields left records) → and_then r on ≡ and_then r off
unfolding and_then
on_alike (ended f after left records) room on off less alike = let l = less f after left records refl in alike (field f after) (suc left) records (omega arith)
on_alike (refused answer) room on off less alike = refl

next_less : (fields : Fields) (room : ℕ) (records : List Record) (f : Field) (after : Fields) (left : ℕ) (records₁ : List Record) → next_from fields room records ≡ ended f after left records₁ → left < room
unfolding next_from
next_less (unreadable cause place) room records f after left records₁ e = let z : ◌≡◌ {A = ℕ} 0 1 = cc in absurd (omega arith)
next_less (field g rest) zero records f after left records₁ e = let z : ◌≡◌ {A = ℕ} 0 1 = cc in absurd (omega arith)
next_less (field g rest) (suc room) records f after left records₁ e = let same : room ≡ left = cc in omega arith

run_less : (r : Reading) (count : Record) (records : List Record) (room : ℕ) → ((f : Field) (after : Fields) (left : ℕ) (run : List Record) → r ≡ ended f after left run → left < room) →
    (f : Field) (after : Fields) (left : ℕ) (records₁ : List Record) → with_run count records r ≡ ended f after left records₁ → left < room
unfolding with_run
run_less (ended g rest here run) count records room less f after left records₁ e = let same : here ≡ left = cc in let l = less g rest here run refl in omega arith
run_less (refused answer) count records room less f after left records₁ e = let z : ◌≡◌ {A = ℕ} 0 1 = cc in absurd (omega arith)

module _ {L : Type 0} (body : Body L) (falls : (inner : L) (tag : ℕ) → Falls (body.run inner tag)) where
  -- where there are more turns than room, their number doesn't matter
  enough : (k l : ℕ) (fields : Fields) (room : ℕ) (records : List Record) → room < k → room < l → body_within body k fields room records ≡ body_within body l fields room records
  unfolding body_within takes
  enough zero l fields room records more also = absurd (omega arith)
  enough (suc k) zero fields room records more also = absurd (omega arith)
  enough (suc k) (suc l) (unreadable cause place) room records more also = refl
  enough (suc k) (suc l) (field f rest) zero records more also = refl
  enough (suc k) (suc l) (field f rest) (suc room) records more also = by_kind (body.kind f.tag) (λ fields left records h. enough k l fields left records (omega arith) (omega arith))
    where
      by_kind : (t : Kind L) → ((fields : Fields) (left : ℕ) (records : List Record) → left ≤ room → body_within body k fields left records ≡ body_within body l fields left records) →
          takes body (body_within body k) f rest room records t ≡ takes body (body_within body l) f rest room records t
      by_kind plain later = on_alike (next_from rest room (stored (part_record 2 f) records)) room _ _ (next_less rest room (stored (part_record 2 f) records)) later
      by_kind (counts inner) later =
          on_alike (with_run (part_record 2 f) records (body.run inner f.tag rest room)) room _ _ (run_less (body.run inner f.tag rest room) (part_record 2 f) records room (λ g after left run e. falls inner f.tag rest after room left g run e)) later
      by_kind other later = refl

  module _ (f : Field) (rest : Fields) (room : ℕ) (records : List Record) where
    turn : (t : Kind L) → body.kind f.tag ≡ t → body_from body (field f rest) (suc room) records ≡ takes body (body_within body (suc room)) f rest room records t
    unfolding body_from body_within
    turn t e = rw e

    pub body-plain : body.kind f.tag ≡ plain → body_from body (field f rest) (suc room) records ≡ and_then (next_from rest room (stored (part_record 2 f) records)) (body_from body)
    unfolding takes body_from
    body-plain e = turn plain e ∙ on_alike (next_from rest room (stored (part_record 2 f) records)) room _ _ (next_less rest room (stored (part_record 2 f) records)) (λ fields left records h. enough (suc room) (suc left) fields left records (omega arith) (omega arith))

    pub body_run : (inner : L) → body.kind f.tag ≡ counts inner → body_from body (field f rest) (suc room) records ≡ and_then (with_run (part_record 2 f) records (body.run inner f.tag rest room)) (body_from body)
    unfolding takes body_from
    body_run inner e =
        turn (counts inner) e
        ∙ on_alike (with_run (part_record 2 f) records (body.run inner f.tag rest room)) room _ _ (run_less (body.run inner f.tag rest room) (part_record 2 f) records room (λ g after left run e. falls inner f.tag rest after room left g run e)) (λ fields left records h. enough (suc room) (suc left) fields left records (omega arith) (omega arith))

    pub body-other : body.kind f.tag ≡ other → body_from body (field f rest) (suc room) records ≡ must_follow body.trailer (ended f rest room records)
    unfolding takes
    body-other e = turn other e

    pub body-ends : body.kind f.tag ≡ other → holds_tag f.tag body.trailer ≡ true → body_from body (field f rest) (suc room) records ≡ ended f rest room records
    unfolding must_follow
    body-ends e h = body-other e ∙ rw h

    pub body_invalid : body.kind f.tag ≡ other → holds_tag f.tag body.trailer ≡ false → body_from body (field f rest) (suc room) records ≡ refused (InvalidField f.tag)
    unfolding must_follow
    body_invalid e h = body-other e ∙ rw h

module _ (mode : Mode) (message : List ℕ) (c : Cursor) (room : ℕ) (records : List Record) where
  pub next_missing : (answer : Answer) → next_of room (field_at mode message c) ≡ Err answer → next_from (fields_from mode message c) room records ≡ refused answer
  unfolding next_of next_from
  next_missing answer h = go (field_at mode message c) refl room h
    where
      go : (r : Result Field (Cause × ℕ)) → field_at mode message c ≡ r → (room : ℕ) → next_of room r ≡ Err answer → next_from (fields_from mode message c) room records ≡ refused answer
      go (Err (cause, place)) e room h = rw (fields-end mode message c cause place e) (ap refused (cc))
      go (Ok f) e zero h = rw (fields-field mode message c f e) (ap refused (cc))
      go (Ok f) e (suc room) h = let z : ◌≡◌ {A = ℕ} 0 1 = cc in absurd (omega arith)

  pub next-found : (f : Field) → next_of room (field_at mode message c) ≡ Ok f → next_from (fields_from mode message c) room records ≡ ended f (fields_from mode message f.next) (room - 1) records
  unfolding next_from
  next-found f got =
      let t = taken mode message c f room got in
      ap (λ (l : Fields). next_from l room records) t.fields ∙ ap (λ (n : ℕ). next_from (field f (fields_from mode message f.next)) n records) t.one_less
