-- The body, turn by turn: a field is stored, or a count with the run that was read behind it, up to the first field that the body doesn't take.
-- What each turn keeps holds at the end.
use Rattle.std.proofs.Math.Path.{◌≡◌, refl, ap}
use Rattle.std.specs.Prelude.{Bool, true, false}
use mathlib.Core.List.{List, [], ◌∷◌}
use Prim.Native.Nat.{ℕ, zero, suc}
use Rattle.std.proofs.Common.{arith}
use Rattle.field_rules.specs.Choice.{pick}
use Rattle.field_rules.specs.Fields.{Fields, unreadable, field}
use Rattle.field_rules.specs.declared.Field.{Field}
use Rattle.dictionary_layout_rules.specs.Tree.{holds_tag}
use Rattle.build_records.specs.Records.{stored}
use Rattle.build_records.specs.declared.Record.{Record}
use Rattle.build_group_rules.specs.Groups.{Rules, run, outermost, RunOutcome, walk}
use Rattle.build_group_rules.specs.Groups.{ended as ran, refused as stops}
use Rattle.build_group_rules.specs.Reading.{list_store}
use Rattle.build_required_rules.specs.Required.{Demands, run_lack}
use Rattle.build_required_rules.specs.declared.Lack.{Lack}
use Rattle.build_required_rules.specs.declared.Lack.TheVariants.{Missing, Complete}
use Rattle.build_answers.specs.declared.Answer.TheVariants.{InvalidField}
use Rattle.build_parts.specs.Parts.{ended, refused, part_record}
use Rattle.build_body_rules.specs.Body.{Kind, plain, counts, other, Body, stored_run, and_then, next_from, with_run, takes, body_within}
use Rattle.build_body_rules.specs.Kinds.{checked, ran_as, run_from, body_of}

module _ {L : Type 0} (rules : Rules L) (demands : Demands L) (tags : List ℕ) (level : L) where
  abbrev body : Body L
  body = body_of rules demands tags level

  -- a run that was read behind its count, and is complete
  pub record RunRead (inner : L) (f : Field) (rest : Fields) (room : ℕ) (g : Field) (more : Fields) (left : ℕ) (es : List Record) : Type 0 where
    pub walked : walk rules list_store room (run (outermost f.tag inner) 0 ∷ []) [] rest ≡ ran g more left es
    pub comes_to : body.run inner f.tag rest room ≡ ended g more left es

  -- where reading stands: the turns and fields that are left, the room, and the records so far
  module _ (P : ℕ → Fields → ℕ → List Record → Type 0)
      (field_stored : (turns : ℕ) (f : Field) (rest : Fields) (room : ℕ) (rs : List Record) → body.kind f.tag ≡ plain → P (suc turns) (field f rest) (suc room) rs → P turns rest room (stored (part_record 2 f) rs))
      (run-stored : (turns : ℕ) (f : Field) (rest : Fields) (room : ℕ) (rs : List Record) (inner : L) (g : Field) (more : Fields) (left : ℕ) (es : List Record) → body.kind f.tag ≡ counts inner → RunRead inner f rest room g more left es
      → P (suc turns) (field f rest) (suc room) rs → P turns (field g more) (suc left) (stored_run (part_record 2 f) es rs)) where
    -- it stands at a field that the body doesn't take
    pub record Ends (f : Field) (rest : Fields) (room : ℕ) (rs : List Record) : Type 0 where
      pub turns : ℕ
      pub not_taken : body.kind f.tag ≡ other
      pub holds : P (suc turns) (field f rest) (suc room) rs

    module _ (f : Field) (rest : Fields) (room₁ : ℕ) (rs₁ : List Record) where
      -- one turn, where the turns behind it keep
      module _ (turns : ℕ) (later : (fields : Fields) (room : ℕ) (rs : List Record) → body_within body turns fields room rs ≡ ended f rest room₁ rs₁ → P turns fields room rs → Ends f rest room₁ rs₁) where
        after_next : (fields : Fields) (room : ℕ) (rs : List Record) → and_then (next_from fields room rs) (body_within body turns) ≡ ended f rest room₁ rs₁ → P turns fields room rs → Ends f rest room₁ rs₁
        unfolding next_from and_then
        after_next (unreadable cause place) room rs e p = let z : ◌≡◌ {A = ℕ} 0 1 = cc in absurd (omega arith)
        after_next (field g more) zero rs e p = let z : ◌≡◌ {A = ℕ} 0 1 = cc in absurd (omega arith)
        after_next (field g more) (suc room) rs e p = later (field g more) (suc room) rs e p

        module _ (g : Field) (more : Fields) (room : ℕ) (rs : List Record) (p : P (suc turns) (field g more) (suc room) rs) where
          after_lack : (inner : L) → body.kind g.tag ≡ counts inner → (h : Field) (last : Fields) (left : ℕ) (es : List Record) (lack : Lack)
              → walk rules list_store room (run (outermost g.tag inner) 0 ∷ []) [] more ≡ ran h last left es
              → body.run inner g.tag more room ≡ checked h last left es lack → and_then (with_run (part_record 2 g) rs (checked h last left es lack)) (body_within body turns) ≡ ended f rest room₁ rs₁ → Ends f rest room₁ rs₁
          unfolding checked with_run and_then
          after_lack inner k h last left es Complete w c e = later (field h last) (suc left) (stored_run (part_record 2 g) es rs) e (run-stored turns g more room rs inner h last left es k (record { walked = w; comes_to = c }) p)
          after_lack inner k h last left es (Missing t u) w c e = let z : ◌≡◌ {A = ℕ} 0 1 = cc in absurd (omega arith)

          after_run : (inner : L) → body.kind g.tag ≡ counts inner → (o : RunOutcome (List Record) (List Record))
              → walk rules list_store room (run (outermost g.tag inner) 0 ∷ []) [] more ≡ o
              → and_then (with_run (part_record 2 g) rs (ran_as rules demands inner g.tag o)) (body_within body turns) ≡ ended f rest room₁ rs₁ → Ends f rest room₁ rs₁
          unfolding ran_as
          after_run inner k (ran h last left es) w e =
              after_lack inner k h last left es (run_lack demands 4 inner g.tag 1 es) w (unfold body_of run_from in ap (ran_as rules demands inner g.tag) w) e
          after_run inner k (stops refusal es) w e = let z : ◌≡◌ {A = ℕ} 0 1 = unfold with_run and_then in cc in absurd (omega arith)

          after-other : body.kind g.tag ≡ other → (b : Bool) → pick b (ended g more room rs) (refused (InvalidField g.tag)) ≡ ended f rest room₁ rs₁ → Ends f rest room₁ rs₁
          after-other k true e =
              let a : g ≡ f = cc in
              let b : more ≡ rest = cc in
              let c : room ≡ room₁ = cc in
              let d : rs ≡ rs₁ = cc in
              rw (← a, ← b, ← c, ← d) (record { turns = turns; not_taken = k; holds = p })
          after-other k false e = let z : ◌≡◌ {A = ℕ} 0 1 = cc in absurd (omega arith)

          after_kind : (k : Kind L) → body.kind g.tag ≡ k → takes body (body_within body turns) g more room rs k ≡ ended f rest room₁ rs₁ → Ends f rest room₁ rs₁
          unfolding takes
          after_kind plain k e = after_next more room (stored (part_record 2 g) rs) e (field_stored turns g more room rs k p)
          after_kind (counts inner) k e =
              after_run inner k (walk rules list_store room (run (outermost g.tag inner) 0 ∷ []) [] more) refl (unfold body_of run_from in e)
          after_kind other k e = after-other k (holds_tag g.tag body.trailer) e

      pub body-ends : (turns : ℕ) (fields : Fields) (room : ℕ) (rs : List Record) → body_within body turns fields room rs ≡ ended f rest room₁ rs₁ → P turns fields room rs → Ends f rest room₁ rs₁
      unfolding body_within
      body-ends zero fields room rs e p = let z : ◌≡◌ {A = ℕ} 0 1 = cc in absurd (omega arith)
      body-ends (suc turns) (unreadable cause place) room rs e p = let z : ◌≡◌ {A = ℕ} 0 1 = cc in absurd (omega arith)
      body-ends (suc turns) (field g more) zero rs e p = let z : ◌≡◌ {A = ℕ} 0 1 = cc in absurd (omega arith)
      body-ends (suc turns) (field g more) (suc room) rs e p = after_kind turns (body-ends turns) g more room rs p (body.kind g.tag) refl e
