-- A group is read by tags alone: fields of the same tags are read the same way, and leave records that are alike.
-- What is open, the room and where an entry starts are the same at each field, so what a tag does is the same.
use Rattle.std.proofs.Math.Path.{◌≡◌}
use Rattle.std.specs.Prelude.{refl, List, [], ◌∷◌, ◌++◌, length}
use Prim.Native.Nat.{ℕ, zero, suc, ◌+◌, ◌≤◌, ◌<◌}
use Rattle.std.proofs.Common.{arith}
use Rattle.field_rules.specs.Fields.{Fields, unreadable, field, Each, each_end, each_field}
use Rattle.field_rules.specs.declared.Field.{Field}
use Rattle.build_records.specs.declared.Record.{Record}
use Rattle.build_group_rules.specs.Groups.{Rules, Frame, Move, adds, joins_at, disorders, leaves, decide, moved, walk}
use Rattle.build_group_rules.specs.Groups.{ended as ran, entry_record}
use Rattle.build_group_rules.proofs.GroupLaws.{keeps}
use Rattle.build_group_rules.specs.Reading.{list_store, joined_list}
use Rattle.build_order_laws.specs.Agree.{Agree, enough, same, Similar, none, more}
use Rattle.build_order_laws.specs.Alongside.{Alongside, one_more, at_first}
use Rattle.build_order_laws.specs.SimilarLaws.{similar_length, similar_append, similar_joined, alike_entry}

each_is : (fields : Fields) → Each (λ (f : Field). f.tag ≡ f.tag) fields
each_is (unreadable cause place) = each_end
each_is (field f rest) = each_field refl (each_is rest)

module _ {L : Type 0} (rules : Rules L) where
  -- the field that ends reading is read
  pub walk_falls : (room : ℕ) (stack : List (Frame L)) (rs : List Record) (fields : Fields) (f : Field) (rest : Fields) (room₁ : ℕ) (rs₁ : List Record) → walk rules list_store room stack rs fields ≡ ran f rest room₁ rs₁ → room₁ < room
  walk_falls room stack rs fields f rest room₁ rs₁ e =
      let k = keeps rules list_store (λ n s. n ≤ room) (λ (f : Field). f.tag ≡ f.tag) (λ n r s h. omega arith) (λ n start r s h. omega arith) room stack rs fields (each_is fields) (omega arith) f rest room₁ rs₁ e in
      omega (arith, k.holds)

  -- what a field does is done with the other as well
  module _ (f : Field) (rest : Fields) (room₁ : ℕ) (rs₁ : List Record) (g h : Field) (last others : Fields) (room n : ℕ) (rs qs : List Record) (t : g.tag ≡ h.tag) (a : Agree n last others) (s : Similar rs qs) where
    by_move : (m : Move L) → moved list_store room rs g last (λ stack₂ rs₂. walk rules list_store room stack₂ rs₂ last) m ≡ ran f rest room₁ rs₁
        → ((stack₂ : List (Frame L)) (rs₂ qs₂ : List Record) → Similar rs₂ qs₂ → walk rules list_store room stack₂ rs₂ last ≡ ran f rest room₁ rs₁ → Alongside ran (walk rules list_store room stack₂ qs₂ others) n room f rest room₁ rs₁)
        → Alongside ran (moved list_store room qs h others (λ stack₂ qs₂. walk rules list_store room stack₂ qs₂ others) m) (suc n) (suc room) f rest room₁ rs₁
    unfolding moved list_store
    by_move (adds stack₂ numbers) e later =
        one_more ran (later stack₂ (rs ++ (entry_record numbers.depth numbers.number g ∷ [])) (qs ++ (entry_record numbers.depth numbers.number h ∷ [])) (similar_append s (more (alike_entry numbers.depth numbers.number g h t) none)) e)
    by_move (joins_at stack₂ start numbers) e later =
        one_more ran (later stack₂ (joined_list start (entry_record numbers.depth numbers.number g) rs) (joined_list start (entry_record numbers.depth numbers.number h) qs) (similar_joined start (alike_entry numbers.depth numbers.number g h t) s) e)
    by_move (disorders group) e later = let z : ◌≡◌ {A = ℕ} 0 1 = cc in absurd (omega arith)
    by_move leaves e later =
        let b : g ≡ f = cc in
        let c : last ≡ rest = cc in
        let d : room ≡ room₁ = cc in
        let r : rs ≡ rs₁ = cc in
        rw (← b, ← c, ← d, ← r) (at_first ran g h room t a s)

  pub walk_same : (room : ℕ) (stack : List (Frame L)) (rs qs : List Record) (fields others : Fields) (n : ℕ) (f : Field) (rest : Fields) (room₁ : ℕ) (rs₁ : List Record) → walk rules list_store room stack rs fields ≡ ran f rest room₁ rs₁
      → Similar rs qs → Agree n fields others → room ≤ n + room₁ → Alongside ran (walk rules list_store room stack qs others) n room f rest room₁ rs₁
  unfolding walk list_store
  walk_same room stack rs qs fields others n f rest room₁ rs₁ e s enough l = absurd (omega (arith, walk_falls room stack rs fields f rest room₁ rs₁ e))
  walk_same zero stack rs qs (field g last) (field h others) (suc n) f rest room₁ rs₁ e s (same t a) l = let z : ◌≡◌ {A = ℕ} 0 1 = cc in absurd (omega arith)
  walk_same (suc room) stack rs qs (field g last) (field h others) (suc n) f rest room₁ rs₁ e s (same t a) l =
      moves (decide rules (length rs) stack g.tag) (rw (t, similar_length s))
      (by_move f rest room₁ rs₁ g h last others room n rs qs t a s (decide rules (length rs) stack g.tag) e
      (λ stack₂ rs₂ qs₂ s₂ q. walk_same room stack₂ rs₂ qs₂ last others n f rest room₁ rs₁ q s₂ a (omega arith)))
    where
      moves : (m : Move L) → m ≡ decide rules (length qs) stack h.tag → Alongside ran (moved list_store room qs h others (λ stack₂ qs₂. walk rules list_store room stack₂ qs₂ others) m) (suc n) (suc room) f rest room₁ rs₁
          → Alongside ran (walk rules list_store (suc room) stack qs (field h others)) (suc n) (suc room) f rest room₁ rs₁
      moves m p w = rw (← p) w
