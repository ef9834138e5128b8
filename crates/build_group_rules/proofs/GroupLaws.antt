-- The laws of reading groups: what is open is read part by part (`compose`); one law for each way that a field goes in a run and in an
-- entry; the room falls, and what each step keeps is kept to the end (`keeps`).
use Rattle.std.proofs.Math.Path.{◌≡◌, refl}
use Rattle.std.specs.Prelude.{Bool, eqb}
use Rattle.std.proofs.Math.Bool.{true, false}
use mathlib.Core.List.{List, [], ◌∷◌, ◌++◌}
use Prim.Native.Nat.{ℕ, zero, suc, ◌+◌}
use Rattle.std.proofs.Common.{arith}
use borrow.Author.Tests.{eq-eqb, ne_eqb}
use Rattle.field_rules.specs.Choice.{pick}
use Rattle.field_rules.specs.Fields.{Fields, unreadable, field, Each, each_field}
use Rattle.field_rules.specs.declared.Cause.{Cause}
use Rattle.field_rules.specs.declared.Field.{Field}
use Rattle.build_records.specs.declared.Record.{Record}
use Rattle.build_group_rules.specs.Groups.{Rules, opens, Kind, plain, count, joins, wrong, ends, entry_kind, OpenGroup, OpenEntry, Frame, run, entry, Numbers, Move, adds, joins_at, disorders, leaves, reaching, numbers_in, nested, in_entry_lem, decide, entry_record, Store, ended, refused, moved, walk, taking, and_then}
use Rattle.build_group_rules.specs.declared.Refusal.TheVariants.{Malformed, TooManyFields, InvalidOrderInGroup}

-- what a tag does to a stack with more below it
unfoldable pub extended : {L : Type 0} → Move L → List (Frame L) → Move L → Move L
extended (adds stack numbers) below otherwise = adds (stack ++ below) numbers
extended (joins_at stack start numbers) below otherwise = joins_at (stack ++ below) start numbers
extended (disorders group) below otherwise = disorders group
extended leaves below otherwise = otherwise

module _ {L : Type 0} (rules : Rules L) (here : ℕ) where
  extended_run : (b c : Bool) (f g : Frame L) (stack below : List (Frame L)) (numbers : Numbers) (group : ℕ) (x otherwise : Move L) →
      pick b (adds (f ∷ g ∷ (stack ++ below)) numbers) (pick c (disorders group) (extended x below otherwise))
      ≡ extended (pick b (adds (f ∷ g ∷ stack) numbers) (pick c (disorders group) x)) below otherwise
  unfolding extended
  extended_run true c f g stack below numbers group x otherwise = refl
  extended_run false true f g stack below numbers group x otherwise = refl
  extended_run false false f g stack below numbers group x otherwise = refl

  extended-entry : (group : OpenGroup L) (own : OpenEntry) (stack below : List (Frame L)) (tag : ℕ) (x otherwise : Move L) (kind : Kind L) →
      in_entry_lem group own (stack ++ below) tag (extended x below otherwise) kind ≡ extended (in_entry_lem group own stack tag x kind) below otherwise
  unfolding extended in_entry_lem
  extended-entry group own stack below tag x otherwise (plain position) = refl
  extended-entry group own stack below tag x otherwise (count inner position) = refl
  extended-entry group own stack below tag x otherwise joins = refl
  extended-entry group own stack below tag x otherwise wrong = refl
  extended-entry group own stack below tag x otherwise ends = refl

  decide-append : (stack below : List (Frame L)) (tag : ℕ) → decide rules here (stack ++ below) tag ≡ extended (decide rules here stack tag) below (decide rules here below tag)
  unfolding decide extended
  decide-append [] below tag = refl
  decide-append (run group entries ∷ stack) below tag =
      rw (decide-append stack below tag) (extended_run (opens rules group.level tag) (eqb entries 0) (entry group (record { number = entries + 1; last = 0; start = here })) (run group (entries + 1)) stack below (numbers_in group (entries + 1)) group.tag (decide rules here stack tag) (decide rules here below tag))
  decide-append (entry group own ∷ stack) below tag =
      rw (decide-append stack below tag) (extended-entry group own stack below tag (decide rules here stack tag) (decide rules here below tag) (entry_kind rules group.level group.depth own.last tag))

module _ {L S W : Type 0} (rules : Rules L) (store : Store S W) where
  compose_move : (room : ℕ) (s : S) (f : Field) (rest : Fields) (below : List (Frame L)) →
      ((stack : List (Frame L)) (s₁ : S) → walk rules store room (stack ++ below) s₁ rest ≡ and_then (walk rules store room stack s₁ rest) (λ room s f rest. taking rules store room below s f rest)) →
      (m : Move L) → moved store room s f rest (λ stack s₁. walk rules store room stack s₁ rest) (extended m below (decide rules (store.place s) below f.tag)) ≡ and_then (moved store room s f rest (λ stack s₁. walk rules store room stack s₁ rest) m) (λ room s f rest. taking rules store room below s f rest)
  unfolding moved extended and_then taking
  compose_move room s f rest below later (adds stack numbers) = later stack (store.add (entry_record numbers.depth numbers.number f) s)
  compose_move room s f rest below later (joins_at stack start numbers) = later stack (store.join start (entry_record numbers.depth numbers.number f) s)
  compose_move room s f rest below later (disorders group) = refl
  compose_move room s f rest below later leaves = refl

  -- reading what is open is reading the upper part of it, and then the rest from the field on where that ended
  pub compose : (room : ℕ) (stack below : List (Frame L)) (s : S) (fields : Fields) →
      walk rules store room (stack ++ below) s fields ≡ and_then (walk rules store room stack s fields) (λ room s f rest. taking rules store room below s f rest)
  unfolding walk and_then
  compose room stack below s (unreadable cause place) = refl
  compose zero stack below s (field f rest) = refl
  compose (suc room) stack below s (field f rest) =
      rw (decide-append rules (store.place s) stack below f.tag) (compose_move room s f rest below (λ stack₁ s₁. compose room stack₁ below s₁ rest) (decide rules (store.place s) stack f.tag))

  pub walk-unreadable : (room : ℕ) (stack : List (Frame L)) (s : S) (cause : Cause) (place : ℕ) → walk rules store room stack s (unreadable cause place) ≡ refused (Malformed cause place) (store.left s)
  unfolding walk
  walk-unreadable room stack s cause place = refl

  pub walk_full : (stack : List (Frame L)) (s : S) (f : Field) (rest : Fields) → walk rules store 0 stack s (field f rest) ≡ refused TooManyFields (store.left s)
  unfolding walk
  walk_full stack s f rest = refl

  pub walk_field : (room : ℕ) (stack : List (Frame L)) (s : S) (f : Field) (rest : Fields) → walk rules store (suc room) stack s (field f rest) ≡ taking rules store room stack s f rest
  unfolding walk taking
  walk_field room stack s f rest = refl

  -- a field in a run
  module _ (room : ℕ) (s : S) (f : Field) (rest : Fields) (group : OpenGroup L) (entries : ℕ) where
    pub run-entry : opens rules group.level f.tag ≡ true →
        taking rules store room (run group entries ∷ []) s f rest
        ≡ and_then (walk rules store room (entry group (record { number = entries + 1; last = 0; start = store.place s }) ∷ []) (store.add (entry_record group.depth (entries + 1) f) s) rest) (λ room s f rest. taking rules store room (run group (entries + 1) ∷ []) s f rest)
    unfolding taking decide moved
    run-entry e =
        rw e (compose room (entry group (record { number = entries + 1; last = 0; start = store.place s }) ∷ []) (run group (entries + 1) ∷ []) (store.add (entry_record group.depth (entries + 1) f) s) rest)

    pub run-first : opens rules group.level f.tag ≡ false → entries ≡ 0 →
        taking rules store room (run group entries ∷ []) s f rest ≡ refused (InvalidOrderInGroup f.tag group.tag) (store.left s)
    unfolding taking decide moved
    run-first e z = rw (e, eq-eqb _ _ z)

    pub run-over : opens rules group.level f.tag ≡ false → (entries ≡ 0 → ⊥) →
        taking rules store room (run group entries ∷ []) s f rest ≡ ended f rest room s
    unfolding taking decide moved
    run-over e z = rw (e, ne_eqb _ _ z)

  -- a field in an entry
  module _ (room : ℕ) (s : S) (f : Field) (rest : Fields) (group : OpenGroup L) (own : OpenEntry) where
    pub entry-plain : (position : ℕ) → entry_kind rules group.level group.depth own.last f.tag ≡ plain position →
        taking rules store room (entry group own ∷ []) s f rest
        ≡ walk rules store room (entry group (reaching own position) ∷ []) (store.add (entry_record group.depth own.number f) s) rest
    unfolding taking decide in_entry_lem moved
    entry-plain position k = rw k

    pub entry-count : (inner : L) (position : ℕ) → entry_kind rules group.level group.depth own.last f.tag ≡ count inner position →
        taking rules store room (entry group own ∷ []) s f rest
        ≡ and_then (walk rules store room (run (nested group f.tag inner) 0 ∷ []) (store.add (entry_record group.depth own.number f) s) rest) (λ room s f rest. taking rules store room (entry group (reaching own position) ∷ []) s f rest)
    unfolding taking decide in_entry_lem moved
    entry-count inner position k =
        rw k (compose room (run (nested group f.tag inner) 0 ∷ []) (entry group (reaching own position) ∷ []) (store.add (entry_record group.depth own.number f) s) rest)

    pub entry-joins : entry_kind rules group.level group.depth own.last f.tag ≡ joins →
        taking rules store room (entry group own ∷ []) s f rest
        ≡ walk rules store room (entry group own ∷ []) (store.join own.start (entry_record group.depth own.number f) s) rest
    unfolding taking decide in_entry_lem moved
    entry-joins k = rw k

    pub entry-wrong : entry_kind rules group.level group.depth own.last f.tag ≡ wrong →
        taking rules store room (entry group own ∷ []) s f rest ≡ refused (InvalidOrderInGroup f.tag group.tag) (store.left s)
    unfolding taking decide in_entry_lem moved
    entry-wrong k = rw k

    pub entry-ends : entry_kind rules group.level group.depth own.last f.tag ≡ ends →
        taking rules store room (entry group own ∷ []) s f rest ≡ ended f rest room s
    unfolding taking decide in_entry_lem moved
    entry-ends k = rw k

module _ {L S W : Type 0} (rules : Rules L) (store : Store S W) (P : ℕ → S → Type 0) (Q : Field → Type 0)
    (on-add : (room : ℕ) (r : Record) (s : S) → P (suc room) s → P room (store.add r s))
    (on-join : (room start : ℕ) (r : Record) (s : S) → P (suc room) s → P room (store.join start r s)) where
  -- what holds where reading ended
  pub record Kept (f : Field) (rest : Fields) (room : ℕ) (s : S) : Type 0 where
    pub holds : P (suc room) s
    pub has : Q f
    pub have : Each Q rest

  keeps_move : (room : ℕ) (s : S) (f : Field) (rest : Fields) → P (suc room) s → Q f → Each Q rest → (f₁ : Field) (rest₁ : Fields) (room₁ : ℕ) (s₁ : S) →
      ((stack : List (Frame L)) (s₂ : S) → P room s₂ → walk rules store room stack s₂ rest ≡ ended f₁ rest₁ room₁ s₁ → Kept f₁ rest₁ room₁ s₁) →
      (m : Move L) → moved store room s f rest (λ stack s₂. walk rules store room stack s₂ rest) m ≡ ended f₁ rest₁ room₁ s₁ → Kept f₁ rest₁ room₁ s₁
  unfolding moved
  keeps_move room s f rest p q qs f₁ rest₁ room₁ s₁ later (adds stack numbers) e = later stack _ (on-add room _ s p) e
  keeps_move room s f rest p q qs f₁ rest₁ room₁ s₁ later (joins_at stack start numbers) e = later stack _ (on-join room start _ s p) e
  keeps_move room s f rest p q qs f₁ rest₁ room₁ s₁ later (disorders group) e = let z : ◌≡◌ {A = ℕ} 0 1 = cc in absurd (omega arith)
  keeps_move room s f rest p q qs f₁ rest₁ room₁ s₁ later leaves e =
      let a : f ≡ f₁ = cc in
      let b : rest ≡ rest₁ = cc in
      let c : room ≡ room₁ = cc in
      let d : s ≡ s₁ = cc in
      record { holds = rw (← c, ← d) p; has = rw (← a) q; have = rw (← b) qs }

  -- the room falls by each field that is read, and a property that every step keeps for the room that is left is kept
  pub keeps : (room : ℕ) (stack : List (Frame L)) (s : S) (fields : Fields) → Each Q fields → P room s → (f : Field) (rest : Fields) (room₁ : ℕ) (s₁ : S) → walk rules store room stack s fields ≡ ended f rest room₁ s₁ → Kept f rest room₁ s₁
  unfolding walk
  keeps room stack s (unreadable cause place) each p f rest room₁ s₁ e = let z : ◌≡◌ {A = ℕ} 0 1 = cc in absurd (omega arith)
  keeps zero stack s (field g fields) each p f rest room₁ s₁ e = let z : ◌≡◌ {A = ℕ} 0 1 = cc in absurd (omega arith)
  keeps (suc room) stack s (field g fields) (each_field q qs) p f rest room₁ s₁ e =
      keeps_move room s g fields p q qs f rest room₁ s₁ (λ stack₂ s₂ p₂ e₂. keeps room stack₂ s₂ fields qs p₂ f rest room₁ s₁ e₂) (decide rules (store.place s) stack g.tag) e
