-- Reading is never refused with 0.
use Rattle.std.proofs.Math.Path.{◌≡◌}
use Rattle.std.specs.Prelude.{Bool, true, false}
use mathlib.Core.List.{List, [], ◌∷◌}
use Prim.Native.Nat.{ℕ, zero, suc}
use native.Mathlib.Omega.{arith}
use Rattle.field_rules.specs.Choice.{pick}
use Rattle.field_rules.specs.Fields.{Fields, unreadable, field}
use Rattle.field_rules.specs.declared.Field.{Field}
use Rattle.dictionary_layout_rules.specs.Tree.{holds_tag}
use Rattle.build_records.specs.Records.{stored}
use Rattle.build_records.specs.declared.Record.{Record}
use Rattle.build_group_rules.specs.Groups.{Rules, run, outermost, RunOutcome, walk}
use Rattle.build_group_rules.specs.Groups.{ended as ran, refused as stops}
use Rattle.build_group_rules.specs.Reading.{list_store, answer_of}
use Rattle.build_group_rules.specs.declared.Refusal.{Refusal}
use Rattle.build_group_rules.specs.declared.Refusal.TheVariants.{Malformed, TooManyFields, InvalidOrderInGroup}
use Rattle.build_required_rules.specs.Required.{Demands, run_lack}
use Rattle.build_required_rules.specs.declared.Lack.{Lack}
use Rattle.build_required_rules.specs.declared.Lack.TheVariants.{Missing, Complete}
use Rattle.build_answers.specs.declared.Answer.TheVariants.{Valid, InvalidField}
use Rattle.build_parts.specs.Parts.{Reading, ended, refused, part_record}
use Rattle.build_parts.specs.Header.{header_from}
use Rattle.build_body_rules.specs.Body.{Kind, plain, counts, other, Body, and_then, next_from, with_run, takes, body_within}
use Rattle.build_body_rules.specs.Kinds.{checked, ran_as, run_from, body_of}

pub header_never : (tags : List ℕ) (fields : Fields) (room : ℕ) (rs : List Record) → header_from tags fields room rs ≡ refused Valid → ⊥
unfolding header_from
header_never tags (unreadable cause place) room rs e = let z : ◌≡◌ {A = ℕ} 0 1 = cc in omega arith
header_never tags (field f rest) zero rs e = let z : ◌≡◌ {A = ℕ} 0 1 = cc in omega arith
header_never tags (field f rest) (suc room) rs e = by_tag (holds_tag f.tag tags) e (header_never tags rest room (stored (part_record 1 f) rs))
  where
    by_tag : (b : Bool) → pick b (header_from tags rest room (stored (part_record 1 f) rs)) (ended f rest room rs) ≡ refused Valid → (header_from tags rest room (stored (part_record 1 f) rs) ≡ refused Valid → ⊥) → ⊥
    by_tag true e later = later e
    by_tag false e later = let z : ◌≡◌ {A = ℕ} 0 1 = cc in omega arith

module _ {L : Type 0} (rules : Rules L) (demands : Demands L) (tags : List ℕ) (level : L) where
  pub body_never : (turns : ℕ) (fields : Fields) (room : ℕ) (rs : List Record) → body_within (body_of rules demands tags level) turns fields room rs ≡ refused Valid → ⊥
  unfolding body_within
  body_never zero fields room rs e = let z : ◌≡◌ {A = ℕ} 0 1 = cc in omega arith
  body_never (suc turns) (unreadable cause place) room rs e = let z : ◌≡◌ {A = ℕ} 0 1 = cc in omega arith
  body_never (suc turns) (field f rest) zero rs e = let z : ◌≡◌ {A = ℕ} 0 1 = cc in omega arith
  body_never (suc turns) (field f rest) (suc room) rs e = by_kind ((body_of rules demands tags level).kind f.tag) e (λ fields₂ room₂ rs₂. body_never turns fields₂ room₂ rs₂)
    where
      body : Body L
      body = body_of rules demands tags level

      by_reading : (r : Reading) → (r ≡ refused Valid → ⊥) → and_then r (body_within body turns) ≡ refused Valid → ((fields₂ : Fields) (room₂ : ℕ) (rs₂ : List Record) → body_within body turns fields₂ room₂ rs₂ ≡ refused Valid → ⊥) → ⊥
      by_reading (ended g more room₂ rs₂) never q later = later (field g more) (suc room₂) rs₂ (unfold and_then in q)
      by_reading (refused answer) never q later = never (unfold and_then in q)

      next_never : (fields : Fields) (room : ℕ) (rs : List Record) → next_from fields room rs ≡ refused Valid → ⊥
      next_never (unreadable cause place) room rs q = let z : ◌≡◌ {A = ℕ} 0 1 = unfold next_from in cc in omega arith
      next_never (field g more) zero rs q = let z : ◌≡◌ {A = ℕ} 0 1 = unfold next_from in cc in omega arith
      next_never (field g more) (suc room) rs q = let z : ◌≡◌ {A = ℕ} 0 1 = unfold next_from in cc in omega arith

      lack_never : (g : Field) (more : Fields) (room : ℕ) (es : List Record) (lack : Lack) → with_run (part_record 2 f) rs (checked g more room es lack) ≡ refused Valid → ⊥
      lack_never g more room es Complete q = let z : ◌≡◌ {A = ℕ} 0 1 = unfold checked with_run in cc in omega arith
      lack_never g more room es (Missing t u) q = let z : ◌≡◌ {A = ℕ} 0 1 = unfold checked with_run in cc in omega arith

      refusal_never : (r : Refusal) → ◌≡◌ {A = Reading} (refused (answer_of r)) (refused Valid) → ⊥
      refusal_never (Malformed cause place) q = let z : ◌≡◌ {A = ℕ} 0 1 = unfold answer_of in cc in omega arith
      refusal_never TooManyFields q = let z : ◌≡◌ {A = ℕ} 0 1 = unfold answer_of in cc in omega arith
      refusal_never (InvalidOrderInGroup t g) q = let z : ◌≡◌ {A = ℕ} 0 1 = unfold answer_of in cc in omega arith

      run_never : (inner : L) (o : RunOutcome (List Record) (List Record)) → with_run (part_record 2 f) rs (ran_as rules demands inner f.tag o) ≡ refused Valid → ⊥
      run_never inner (ran g more room₂ es) q = lack_never g more room₂ es (run_lack demands 4 inner f.tag 1 es) (unfold ran_as in q)
      run_never inner (stops refusal es) q = refusal_never refusal (unfold ran_as with_run in q)

      tag_never : (b : Bool) → pick b (ended f rest room rs) (refused (InvalidField f.tag)) ≡ refused Valid → ⊥
      tag_never true q = let z : ◌≡◌ {A = ℕ} 0 1 = cc in omega arith
      tag_never false q = let z : ◌≡◌ {A = ℕ} 0 1 = cc in omega arith

      by_kind : (k : Kind L) → takes body (body_within body turns) f rest room rs k ≡ refused Valid → ((fields₂ : Fields) (room₂ : ℕ) (rs₂ : List Record) → body_within body turns fields₂ room₂ rs₂ ≡ refused Valid → ⊥) → ⊥
      by_kind plain q later = by_reading (next_from rest room (stored (part_record 2 f) rs)) (next_never rest room (stored (part_record 2 f) rs)) (unfold takes in q) later
      by_kind (counts inner) q later =
          by_reading (with_run (part_record 2 f) rs (ran_as rules demands inner f.tag (walk rules list_store room (run (outermost f.tag inner) 0 ∷ []) [] rest)))
          (run_never inner (walk rules list_store room (run (outermost f.tag inner) 0 ∷ []) [] rest)) (unfold takes body_of run_from in q) later
      by_kind other q later = tag_never (holds_tag f.tag body.trailer) (unfold takes in q)
