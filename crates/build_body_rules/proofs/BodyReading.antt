-- The body as the code reads it: where reading stands, and each way that it goes on there.
use Rattle.std.proofs.Math.Path.{◌≡◌, refl, ap}
use Rattle.std.proofs.Common.{sym, ◌∙◌, arith, Result, Ok, Err}
use mathlib.Core.List.{List, [], ◌∷◌}
use Rattle.std.specs.Prelude.{ℕ, zero, suc, ◌+◌, ◌-◌, ◌/◌, ◌≤◌, ◌<◌, length}
use Rattle.field_rules.specs.declared.Mode.{Mode}
use Rattle.field_rules.specs.Fields.{Fields, unreadable, field, fields_from, Each, each_end, each_field}
use Rattle.field_rules.specs.declared.Field.{Field}
use Rattle.build_records.specs.Records.{stored}
use Rattle.build_records.specs.declared.Record.{Record}
use Rattle.build_group_rules.specs.Groups.{Rules, run, outermost, RunOutcome, walk}
use Rattle.build_group_rules.specs.Groups.{ended as ran, refused as stops}
use Rattle.build_group_rules.proofs.GroupLaws.{keeps}
use Rattle.build_group_rules.specs.Reading.{list_store}
use Rattle.build_required_rules.specs.Required.{Demands, run_lack}
use Rattle.build_required_rules.specs.declared.Lack.{Lack}
use Rattle.build_required_rules.specs.declared.Lack.TheVariants.{Missing, Complete}
use Rattle.build_answers.specs.declared.Answer.{Answer}
use Rattle.build_parts.specs.declared.Progress.{Progress}
use Rattle.build_parts.specs.Parts.{Reading, ended, part_record, part_of, part_told, Stays}
use Rattle.build_body_rules.specs.Body.{plain, counts, other, and_then, next_from, with_run, must_follow, body_from}
use Rattle.build_body_rules.proofs.BodyLaws.{Falls, body-plain, body_run, body-other}
use Rattle.build_body_rules.specs.Kinds.{body_kind, checked, ran_as, run_from, body_of}

-- how many fields may still be read, the one that is read already counted in
unfoldable pub part_room : Result (Field × Progress) Answer → ℕ
part_room (Ok (f, p)) = suc p.room
part_room (Err answer) = 0

each_field_is : (fields : Fields) → Each (λ (f : Field). f.tag ≡ f.tag) fields
each_field_is (unreadable cause place) = each_end
each_field_is (field f rest) = each_field refl (each_field_is rest)

module _ {L : Type 0} (rules : Rules L) (demands : Demands L) where
  -- a run reads at least the field that ends it
  pub run_falls : (inner : L) (tag : ℕ) → Falls (run_from rules demands inner tag)
  unfolding run_from ran_as checked
  run_falls inner tag rest after room left f records e = by_outcome (walk rules list_store room (run (outermost tag inner) 0 ∷ []) [] rest) refl e
    where
      by_lack : (g : Field) (behind : Fields) (here : ℕ) (entries : List Record) (lack : Lack) → checked g behind here entries lack ≡ ended f after left records → here ≡ left
      by_lack g behind here entries Complete e = cc
      by_lack g behind here entries (Missing wanted group) e = let z : ◌≡◌ {A = ℕ} 0 1 = cc in absurd (omega arith)

      by_outcome : (o : RunOutcome (List Record) (List Record)) → walk rules list_store room (run (outermost tag inner) 0 ∷ []) [] rest ≡ o
          → ran_as rules demands inner tag o ≡ ended f after left records → left < room
      by_outcome (stops refusal entries) w e = let z : ◌≡◌ {A = ℕ} 0 1 = cc in absurd (omega arith)
      by_outcome (ran g behind here entries) w e =
          let k = keeps rules list_store (λ n s. n ≤ room) (λ (f : Field). f.tag ≡ f.tag) (λ n r s h. omega arith) (λ n start r s h. omega arith) room (run (outermost tag inner) 0 ∷ []) [] rest (each_field_is rest) (omega arith) g behind here entries w in
          let same = by_lack g behind here entries (run_lack demands 4 inner tag 1 entries) e in
          omega (arith, k.holds)

  module _ (mode : Mode) (message : List ℕ) (from : ℕ) (trailer_tags_lem : List ℕ) (level : L) (reading : Result (Field × Progress) Answer) (words : List ℕ) where
    abbrev pub left : Reading
    left = and_then (part_told mode message from reading words) (body_from (body_of rules demands trailer_tags_lem level))

    pub left-refused : (answer : Answer) → reading ≡ Err answer → left ≡ must_follow trailer_tags_lem (part_told mode message from reading words)
    unfolding part_told and_then must_follow
    left-refused answer e = rw e

    module _ (f : Field) (p : Progress) (e : reading ≡ Ok (f, p)) where
      abbrev here : Reading
      here = body_from (body_of rules demands trailer_tags_lem level) (field f (fields_from mode message f.next)) (suc p.room) (part_of from p.records words)

      left_here : left ≡ here
      unfolding part_told and_then
      left_here = rw e

      pub left-plain : body_kind rules level f.tag ≡ plain → (next : Result (Field × Progress) Answer) (later : List ℕ) → part_told mode message from next later ≡ next_from (fields_from mode message f.next) p.room (stored (part_record 2 f) (part_of from p.records words)) →
          left ≡ and_then (part_told mode message from next later) (body_from (body_of rules demands trailer_tags_lem level))
      unfolding body_of
      left-plain k next later told =
          left_here ∙ body-plain (body_of rules demands trailer_tags_lem level) run_falls f (fields_from mode message f.next) p.room (part_of from p.records words) k
          ∙ ap (λ (r : Reading). and_then r (body_from (body_of rules demands trailer_tags_lem level))) (sym told)

      pub left-run : (inner : L) → body_kind rules level f.tag ≡ counts inner → (next : Result (Field × Progress) Answer) (later : List ℕ) → part_told mode message from next later ≡ with_run (part_record 2 f) (part_of from p.records words) (run_from rules demands inner f.tag (fields_from mode message f.next) p.room) →
          left ≡ and_then (part_told mode message from next later) (body_from (body_of rules demands trailer_tags_lem level))
      unfolding body_of
      left-run inner k next later told =
          left_here ∙ body_run (body_of rules demands trailer_tags_lem level) run_falls f (fields_from mode message f.next) p.room (part_of from p.records words) inner k
          ∙ ap (λ (r : Reading). and_then r (body_from (body_of rules demands trailer_tags_lem level))) (sym told)

      pub left_other : body_kind rules level f.tag ≡ other → left ≡ must_follow trailer_tags_lem (part_told mode message from (Ok (f, p)) words)
      unfolding body_of part_told
      left_other k =
          left_here
          ∙ body-other (body_of rules demands trailer_tags_lem level) run_falls f (fields_from mode message f.next) p.room (part_of from p.records words) k

-- one step after another
pub stays_on : (message entry words exit : List ℕ) (from room limit : ℕ) (next : Result (Field × Progress) Answer) → length words ≡ length entry → part_of 0 from words ≡ part_of 0 from entry → room < limit → Stays message words exit from room next → Stays message entry exit from limit next
stays_on message entry words exit from room limit next same before less s = record {
  before = s.before ∙ before;
  ends = λ f p e. let d = s.ends f p e in record { fits = omega (arith, d.fits); inside = d.inside; starts = d.starts; falls = omega (arith, d.falls) };
}

pub room_falls : (message words exit : List ℕ) (from : ℕ) (reading next : Result (Field × Progress) Answer) (f : Field) (p : Progress) → reading ≡ Ok (f, p) → Stays message words exit from p.room next → part_room next < part_room reading
unfolding part_room
room_falls message words exit from reading (Ok (g, q)) f p e s = rw e (omega (arith, (s.ends g q refl).falls))
room_falls message words exit from reading (Err answer) f p e s = rw e (omega arith)
