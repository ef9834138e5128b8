-- Levels that answer alike read alike, and so do stores that keep alike: the walk looks at nothing else of them.
use Rattle.std.specs.Prelude.{◌≡◌, Bool, List, [], ◌∷◌, eqb, leb, ltb}
use Rattle.std.proofs.Math.Path.{ap}
use Rattle.std.proofs.Math.Bool.{true, false}
use Prim.Native.Nat.{ℕ, zero, suc, ◌+◌}
use Rattle.field_rules.specs.Choice.{pick}
use Rattle.field_rules.specs.Fields.{Fields, unreadable, field}
use Rattle.field_rules.specs.declared.Field.{Field}
use Rattle.build_records.specs.declared.Record.{Record}
use Rattle.build_group_rules.specs.Groups.{Opened, none, opened, Rules, is_delimiter, opens, Kind, plain, count, joins, wrong, ends, counting, declared, entry_kind, OpenGroup, OpenEntry, Frame, run, entry, Numbers, Move, adds, joins_at, disorders, leaves, numbers_in, in_entry_lem, decide, Store, RunOutcome, ended, refused, moved, walk}
use Rattle.build_group_rules.specs.declared.Refusal.{Refusal}
use Rattle.std.proofs.Common.{Option, Some, None, ℕ}

-- the group with its entries' level as other rules have it
abbrev pub on_level : {L M : Type 0} → M → OpenGroup L → OpenGroup M
on_level level group = record { level = level; tag = group.tag; depth = group.depth }

module _ {L M : Type 0} (Same : L → M → Type 0) where
  pub data OpenedAlike : Opened L → Opened M → Type 0 where
    none_alike : OpenedAlike none none
    opened_alike : {l : L} {m : M} → Same l m → OpenedAlike (opened l) (opened m)

  -- every look-up of levels that are the same answers the same
  pub record RulesAlike (rules : Rules L) (others : Rules M) : Type 0 where
    pub delimiters : (l : L) (m : M) → Same l m → rules.delimiter l ≡ others.delimiter m
    pub positions : (l : L) (m : M) → Same l m → (tag : ℕ) → rules.position l tag ≡ others.position m tag
    pub groups : (l : L) (m : M) → Same l m → (tag : ℕ) → OpenedAlike (rules.group l tag) (others.group m tag)
    pub accepting : (tag : ℕ) → rules.accepts tag ≡ others.accepts tag

  pub data StackAlike : List (Frame L) → List (Frame M) → Type 0 where
    empty_alike : StackAlike [] []
    run_alike : {group : OpenGroup L} {m : M} {entries : ℕ} {stack : List (Frame L)} {other : List (Frame M)} → Same group.level m → StackAlike stack other
        → StackAlike (run group entries ∷ stack) (run (on_level m group) entries ∷ other)
    entry_alike : {group : OpenGroup L} {m : M} {own : OpenEntry} {stack : List (Frame L)} {other : List (Frame M)} → Same group.level m
        → StackAlike stack other
        → StackAlike (entry group own ∷ stack) (entry (on_level m group) own ∷ other)

  data KindAlike : Kind L → Kind M → Type 0 where
    plain_alike : {position : ℕ} → KindAlike (plain position) (plain position)
    count_alike : {l : L} {m : M} {position : ℕ} → Same l m → KindAlike (count l position) (count m position)
    joins_alike : KindAlike joins joins
    wrong_alike : KindAlike wrong wrong
    ends_alike : KindAlike ends ends

  data MoveAlike : Move L → Move M → Type 0 where
    adds_alike : {stack : List (Frame L)} {other : List (Frame M)} {numbers : Numbers} → StackAlike stack other
        → MoveAlike (adds stack numbers) (adds other numbers)
    joins_at_alike : {stack : List (Frame L)} {other : List (Frame M)} {start : ℕ} {numbers : Numbers} → StackAlike stack other
        → MoveAlike (joins_at stack start numbers) (joins_at other start numbers)
    disorders_alike : {group : ℕ} → MoveAlike (disorders group) (disorders group)
    leaves_alike : MoveAlike leaves leaves

  counting_alike : (depth position : ℕ) (o : Opened L) (p : Opened M) → OpenedAlike o p → KindAlike (counting depth position o) (counting depth position p)
  unfolding counting
  counting_alike depth position none none none_alike = plain_alike
  counting_alike depth position none (opened m) never = elim never [ ]
  counting_alike depth position (opened l) none never = elim never [ ]
  counting_alike depth position (opened l) (opened m) (opened_alike s) = go (ltb depth 4)
    where
      go : (b : Bool) → KindAlike (pick b (count l position) (plain position)) (pick b (count m position) (plain position))
      go true = count_alike s
      go false = plain_alike

  module _ (rules : Rules L) (others : Rules M) (alike : RulesAlike rules others) where
    opens-same : (l : L) (m : M) → Same l m → (tag : ℕ) → opens rules l tag ≡ opens others m tag
    unfolding opens
    opens-same l m s tag = ap (λ (d : Option ℕ). is_delimiter d tag) (alike.delimiters l m s)

    declared_alike : (l : L) (m : M) → Same l m → (depth last tag : ℕ) (p : Option ℕ) → KindAlike (declared rules l depth last tag p) (declared others m depth last tag p)
    unfolding declared
    declared_alike l m s depth last tag None = rw (alike.accepting tag) (go (others.accepts tag))
      where
        go : (b : Bool) → KindAlike (pick b joins ends) (pick b joins ends)
        go true = joins_alike
        go false = ends_alike
    declared_alike l m s depth last tag (Some position) = go (leb position last) (counting_alike depth position _ _ (alike.groups l m s tag))
      where
        go : (b : Bool) → KindAlike (counting depth position (rules.group l tag)) (counting depth position (others.group m tag)) → KindAlike (pick b wrong (counting depth position (rules.group l tag))) (pick b wrong (counting depth position (others.group m tag)))
        go true k = wrong_alike
        go false k = k

    kind_alike : (l : L) (m : M) → Same l m → (depth last tag : ℕ) → KindAlike (entry_kind rules l depth last tag) (entry_kind others m depth last tag)
    unfolding entry_kind
    kind_alike l m s depth last tag = rw (opens-same l m s tag, alike.positions l m s tag) (go (opens others m tag) (declared_alike l m s depth last tag (others.position m tag)))
      where
        go : (b : Bool) → KindAlike (declared rules l depth last tag (others.position m tag)) (declared others m depth last tag (others.position m tag)) → KindAlike (pick b ends (declared rules l depth last tag (others.position m tag))) (pick b ends (declared others m depth last tag (others.position m tag)))
        go true k = ends_alike
        go false k = k

    in_entry : (group : OpenGroup L) (m : M) → Same group.level m → (own : OpenEntry) (stack : List (Frame L)) (other : List (Frame M))
        → StackAlike stack other → (tag : ℕ) (x : Move L) (y : Move M) → MoveAlike x y → {k : Kind L} {j : Kind M} → KindAlike k j →
        MoveAlike (in_entry_lem group own stack tag x k) (in_entry_lem (on_level m group) own other tag y j)
    unfolding in_entry_lem
    in_entry group m s own stack other below tag x y xy plain_alike = adds_alike (entry_alike s below)
    in_entry group m s own stack other below tag x y xy (count_alike ab) = adds_alike (run_alike ab (entry_alike s below))
    in_entry group m s own stack other below tag x y xy joins_alike = joins_at_alike (entry_alike s below)
    in_entry group m s own stack other below tag x y xy wrong_alike = disorders_alike
    in_entry group m s own stack other below tag x y xy ends_alike = xy

    run_decides : (here : ℕ) (group : OpenGroup L) (m : M) → Same group.level m → (entries : ℕ) (stack : List (Frame L)) (other : List (Frame M))
        → StackAlike stack other → (b c : Bool) (x : Move L) (y : Move M) → MoveAlike x y →
        MoveAlike (pick b (adds (entry group (record { number = entries + 1; last = 0; start = here }) ∷ run group (entries + 1) ∷ stack) (numbers_in group (entries + 1))) (pick c (disorders group.tag) x))
        (pick b (adds (entry (on_level m group) (record { number = entries + 1; last = 0; start = here }) ∷ run (on_level m group) (entries + 1) ∷ other) (numbers_in (on_level m group) (entries + 1))) (pick c (disorders group.tag) y))
    run_decides here group m s entries stack other below true c x y d = adds_alike (entry_alike s (run_alike s below))
    run_decides here group m s entries stack other below false true x y d = disorders_alike
    run_decides here group m s entries stack other below false false x y d = d

    decide_alike : (here : ℕ) {stack : List (Frame L)} {other : List (Frame M)} → StackAlike stack other → (tag : ℕ) → MoveAlike (decide rules here stack tag) (decide others here other tag)
    unfolding decide
    decide_alike here empty_alike tag = leaves_alike
    decide_alike here (run_alike {group} {m} {entries} {stack} {other} s below) tag =
        rw (opens-same group.level m s tag) (run_decides here group m s entries stack other below (opens others m tag) (eqb entries 0) _ _ (decide_alike here below tag))
    decide_alike here (entry_alike {group} {m} {own} {stack} {other} s below) tag =
        in_entry group m s own stack other below tag _ _ (decide_alike here below tag) (kind_alike group.level m s group.depth own.last tag)

-- what two stores keep is alike for the room that is left, and so is what their refusals leave
module _ {S W T X : Type 0} (Keeps : ℕ → S → T → Type 0) (Leaves : W → X → Type 0) where
  pub record StoresAlike (store : Store S W) (another : Store T X) : Type 0 where
    pub places : (room : ℕ) (s : S) (t : T) → Keeps room s t → store.place s ≡ another.place t
    pub adding : (room : ℕ) (s : S) (t : T) (r : Record) → Keeps (suc room) s t → Keeps room (store.add r s) (another.add r t)
    pub joining : (room : ℕ) (s : S) (t : T) (start : ℕ) (r : Record) → Keeps (suc room) s t → Keeps room (store.join start r s) (another.join start r t)
    pub leaving : (room : ℕ) (s : S) (t : T) → Keeps room s t → Leaves (store.left s) (another.left t)

  pub data OutcomeAlike : RunOutcome S W → RunOutcome T X → Type 0 where
    ended_alike : {f : Field} {rest : Fields} {room : ℕ} {s : S} {t : T} → Keeps (suc room) s t → OutcomeAlike (ended f rest room s) (ended f rest room t)
    refused_alike : {refusal : Refusal} {w : W} {x : X} → Leaves w x → OutcomeAlike (refused refusal w) (refused refusal x)

module _ {L M S W T X : Type 0} (Same : L → M → Type 0) (Keeps : ℕ → S → T → Type 0) (Leaves : W → X → Type 0)
    (rules : Rules L) (others : Rules M) (rules_alike : RulesAlike Same rules others) (store : Store S W) (another : Store T X) (stores_alike : StoresAlike Keeps Leaves store another) where
  moved_alike : (room : ℕ) (s : S) (t : T) → Keeps (suc room) s t → (f : Field) (rest : Fields) (x : List (Frame L) → S → RunOutcome S W) (y : List (Frame M) → T → RunOutcome T X) →
      ((stack : List (Frame L)) (other : List (Frame M)) (s₁ : S) (t₁ : T) → StackAlike Same stack other → Keeps room s₁ t₁ → OutcomeAlike Keeps Leaves (x stack s₁) (y other t₁)) →
      {m : Move L} {n : Move M} → MoveAlike Same m n → OutcomeAlike Keeps Leaves (moved store room s f rest x m) (moved another room t f rest y n)
  unfolding moved
  moved_alike room s t k f rest x y later (adds_alike st) = later _ _ _ _ st (stores_alike.adding room s t _ k)
  moved_alike room s t k f rest x y later (joins_at_alike st) = later _ _ _ _ st (stores_alike.joining room s t _ _ k)
  moved_alike room s t k f rest x y later disorders_alike = refused_alike (stores_alike.leaving (suc room) s t k)
  moved_alike room s t k f rest x y later leaves_alike = ended_alike k

  -- levels that answer alike, and stores that keep alike, read alike
  pub walk_alike : (room : ℕ) (stack : List (Frame L)) (other : List (Frame M)) (s : S) (t : T) (fields : Fields) → StackAlike Same stack other → Keeps room s t →
      OutcomeAlike Keeps Leaves (walk rules store room stack s fields) (walk others another room other t fields)
  unfolding walk
  walk_alike room stack other s t (unreadable cause place) st k = refused_alike (stores_alike.leaving room s t k)
  walk_alike zero stack other s t (field f rest) st k = refused_alike (stores_alike.leaving 0 s t k)
  walk_alike (suc room) stack other s t (field f rest) st k =
      rw (stores_alike.places (suc room) s t k)
      (moved_alike room s t k f rest _ _ (λ stack₁ other₁ s₁ t₁ st₁ k₁. walk_alike room stack₁ other₁ s₁ t₁ rest st₁ k₁) (decide_alike Same rules others rules_alike (another.place t) st f.tag))
