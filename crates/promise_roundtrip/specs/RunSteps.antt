-- A run, field by field: a field makes a record, or joins the open entry, up to the first that nothing open takes. What each step keeps holds at
-- the end.
use Rattle.std.proofs.Math.Path.{◌≡◌}
use mathlib.Core.List.{List, [], ◌∷◌, ◌++◌}
use Prim.Native.Nat.{ℕ, zero, suc}
use Rattle.std.proofs.Common.{arith}
use Rattle.std.specs.Prelude.{length}
use Rattle.field_rules.specs.Fields.{Fields, unreadable, field}
use Rattle.field_rules.specs.declared.Field.{Field}
use Rattle.build_records.specs.declared.Record.{Record}
use Rattle.build_group_rules.specs.Groups.{Rules, Frame, Move, adds, joins_at, disorders, leaves, decide, moved, RunOutcome, walk}
use Rattle.build_group_rules.specs.Groups.{ended as ran, entry_record}
use Rattle.build_group_rules.specs.Reading.{list_store, joined_list}

module _ {L : Type 0} (rules : Rules L) (P : Fields → List Record → Type 0)
    (added : (g : Field) (more : Fields) (rs : List Record) (depth number : ℕ) → P (field g more) rs → P more (rs ++ (entry_record depth number g ∷ [])))
    (joined : (g : Field) (more : Fields) (rs : List Record) (start depth number : ℕ) → P (field g more) rs → P more (joined_list start (entry_record depth number g) rs)) where
  pub run_ends : (room : ℕ) (stack : List (Frame L)) (rs : List Record) (fields : Fields) (f : Field) (rest : Fields) (room₁ : ℕ) (rs₁ : List Record) → walk rules list_store room stack rs fields ≡ ran f rest room₁ rs₁ → P fields rs → P (field f rest) rs₁
  unfolding walk
  run_ends room stack rs (unreadable cause place) f rest room₁ rs₁ e p = let z : ◌≡◌ {A = ℕ} 0 1 = cc in absurd (omega arith)
  run_ends zero stack rs (field g more) f rest room₁ rs₁ e p = let z : ◌≡◌ {A = ℕ} 0 1 = cc in absurd (omega arith)
  run_ends (suc room) stack rs (field g more) f rest room₁ rs₁ e p =
      by_move (decide rules (length rs) stack g.tag) (unfold list_store in e) (λ stack₂ rs₂ q. run_ends room stack₂ rs₂ more f rest room₁ rs₁ q)
    where
      by_move : (m : Move L) → moved list_store room rs g more (λ stack₂ rs₂. walk rules list_store room stack₂ rs₂ more) m ≡ ran f rest room₁ rs₁
          → ((stack₂ : List (Frame L)) (rs₂ : List Record) → walk rules list_store room stack₂ rs₂ more ≡ ran f rest room₁ rs₁ → P more rs₂ → P (field f rest) rs₁) → P (field f rest) rs₁
      by_move (adds stack₂ numbers) e later =
          later stack₂ (rs ++ (entry_record numbers.depth numbers.number g ∷ [])) (unfold moved list_store in e) (added g more rs numbers.depth numbers.number p)
      by_move (joins_at stack₂ start numbers) e later =
          later stack₂ (joined_list start (entry_record numbers.depth numbers.number g) rs) (unfold moved list_store in e) (joined g more rs start numbers.depth numbers.number p)
      by_move (disorders group) e later = let z : ◌≡◌ {A = ℕ} 0 1 = unfold moved in cc in absurd (omega arith)
      by_move leaves e later =
          let q : ◌≡◌ {A = RunOutcome (List Record) (List Record)} (ran g more room rs) (ran f rest room₁ rs₁) = unfold moved in e in
          let a : g ≡ f = cc in
          let b : more ≡ rest = cc in
          let c : rs ≡ rs₁ = cc in
          rw (← a, ← b, ← c) p
