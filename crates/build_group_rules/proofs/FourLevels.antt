-- "A nested count starts a nested run." Reading stops by itself where four levels are open; in a layout that is no deeper than that, as
-- every message's is of a dictionary that passes (35), the stop is never met: wherever reading comes, depth and level are within four.
use Rattle.std.specs.Prelude.{◌≡◌, refl, Bool, ◌⊎◌, List, [], ◌∷◌, ◌++◌, ℕ, suc, ◌+◌, ◌≤◌, eqb, leb, ltb}
use Rattle.std.proofs.Common.{ap, inl, inr, ⊎_elim, arith, lt-ltb, Option, Some, None}
use Rattle.std.proofs.Math.Bool.{true, false}
use Rattle.field_rules.specs.Choice.{pick}
use Rattle.field_rules.specs.Fields.{Fields, field}
use Rattle.field_rules.specs.declared.Field.{Field}
use Rattle.dictionary_layout_rules.specs.Layout.{Layout, Group, group_since, group_of, position_in, larger}
use Rattle.dictionary_layout_rules.specs.Layout.{end as layout-end, field as layout-field, group as layout-group, none as no_group, entries as entries-of, depth as nesting}
use Rattle.dictionary_layout_rules.specs.Measures.{most_depth}
use Rattle.dictionary_layout_rules.proofs.MeasuresLaws.{larger-first, larger-second}
use Rattle.build_group_rules.specs.Groups.{Rules, opens, Kind, plain, count, joins, wrong, ends, counting, declared, entry_kind, OpenGroup, OpenEntry, Frame, run, entry, Numbers, Move, adds, joins_at, disorders, leaves, numbers_in, outermost, in_entry_lem, decide, entry_record, Store, moved, walk}
use Rattle.build_group_rules.specs.Reading.{opened_as, layout_rules}

-- the stacks that reading comes to, field by field
pub data ComesTo {L S W : Type 0} (rules : Rules L) (store : Store S W) : ℕ → List (Frame L) → S → Fields → List (Frame L) → Type 0 where
  comes_here : {room : ℕ} {stack : List (Frame L)} {s : S} {fields : Fields} → ComesTo rules store room stack s fields stack
  comes_adding : {room : ℕ} {stack later : List (Frame L)} {s : S} {f : Field} {rest : Fields} (next : List (Frame L)) (numbers : Numbers)
      → decide rules (store.place s) stack f.tag ≡ adds next numbers
      → ComesTo rules store room next (store.add (entry_record numbers.depth numbers.number f) s) rest later
      → ComesTo rules store (suc room) stack s (field f rest) later
  comes_joining : {room : ℕ} {stack later : List (Frame L)} {s : S} {f : Field} {rest : Fields} (next : List (Frame L)) (start : ℕ) (numbers : Numbers)
      → decide rules (store.place s) stack f.tag ≡ joins_at next start numbers
      → ComesTo rules store room next (store.join start (entry_record numbers.depth numbers.number f) s) rest later
      → ComesTo rules store (suc room) stack s (field f rest) later

-- reading goes on from there
pub comes_reading : {L S W : Type 0} (rules : Rules L) (store : Store S W) {room : ℕ} {stack later : List (Frame L)} {s : S} {fields : Fields} → ComesTo rules store room stack s fields later → (room₁ : ℕ) × (s₁ : S) × (rest : Fields) × (walk rules store room stack s fields ≡ walk rules store room₁ later s₁ rest)
unfolding walk moved
comes_reading rules store {room} {s} {fields} comes_here = (room, s, fields, refl)
comes_reading rules store (comes_adding next numbers e c) = let r = comes_reading rules store c in (r.0, r.1, r.2, rw e r.3)
comes_reading rules store (comes_joining next start numbers e c) = let r = comes_reading rules store c in (r.0, r.1, r.2, rw e r.3)

-- what is open is within four levels, and so is all that may open in it
pub data WithinFour : List (Frame Layout) → Type 0 where
  within_none : WithinFour []
  within-run : {group : OpenGroup Layout} {number : ℕ} {below : List (Frame Layout)} → group.depth + nesting group.level ≤ most_depth → WithinFour below
      → WithinFour (run group number ∷ below)
  within-entry : {group : OpenGroup Layout} {own : OpenEntry} {below : List (Frame Layout)} → group.depth + nesting group.level ≤ most_depth
      → WithinFour below
      → WithinFour (entry group own ∷ below)

-- a group's entries nest less deep than the layout that it stands in
since_nests : (tag : ℕ) (sofar : Group) (layout inner : Layout) → group_since sofar tag layout ≡ entries-of inner → (sofar ≡ entries-of inner) ⊎ (1 + nesting inner ≤ nesting layout)
unfolding group_since nesting
since_nests tag sofar layout-end inner e = inl e
since_nests tag sofar (layout-field t required rest) inner e = since_nests tag sofar rest inner e
since_nests tag sofar (layout-group t required within rest) inner e = go (eqb t tag) (since_nests tag (pick (eqb t tag) (entries-of within) sofar) rest inner e)
  where
    here : 1 + nesting within ≤ larger (1 + nesting within) (nesting rest)
    here = larger-first (1 + nesting within) (nesting rest)

    there : nesting rest ≤ larger (1 + nesting within) (nesting rest)
    there = larger-second (1 + nesting within) (nesting rest)

    same : entries-of within ≡ entries-of inner → within ≡ inner
    same q = cc

    go : (b : Bool) → (pick b (entries-of within) sofar ≡ entries-of inner) ⊎ (1 + nesting inner ≤ nesting rest) → (sofar ≡ entries-of inner) ⊎ (1 + nesting inner ≤ larger (1 + nesting within) (nesting rest))
    go true (inl q) = inr (omega (arith, here, ap nesting (same q)))
    go false (inl q) = inl q
    go b (inr h) = inr (omega (arith, there))

pub group_nests : (tag : ℕ) (layout inner : Layout) → group_of tag layout ≡ entries-of inner → 1 + nesting inner ≤ nesting layout
unfolding group_of
group_nests tag layout inner e = ⊎_elim (λ q. let z : ◌≡◌ {A = ℕ} 0 1 = cc in absurd (omega arith)) (λ h. h) (since_nests tag no_group layout inner e)

-- so at a frame within them, a tag that counts entries starts their run
pub count_runs : (depth : ℕ) (level : Layout) → depth + nesting level ≤ most_depth → (tag : ℕ) (inner : Layout) → group_of tag level ≡ entries-of inner → (position : ℕ) → counting depth position (opened_as (group_of tag level)) ≡ count inner position
unfolding counting opened_as
count_runs depth level h tag inner e position = rw (e, lt-ltb depth 4 (omega (arith, group_nests tag level inner e)))

-- what a tag does there stays within four levels
data KindWithin (depth : ℕ) : Kind Layout → Type 0 where
  within-plain : {position : ℕ} → KindWithin depth (plain position)
  within_count : {inner : Layout} {position : ℕ} → depth + 1 + nesting inner ≤ most_depth → KindWithin depth (count inner position)
  within-joins : KindWithin depth joins
  within-wrong : KindWithin depth wrong
  within-ends : KindWithin depth ends

data MoveWithin : Move Layout → Type 0 where
  within-adds : {stack : List (Frame Layout)} {numbers : Numbers} → WithinFour stack → MoveWithin (adds stack numbers)
  within_joining : {stack : List (Frame Layout)} {start : ℕ} {numbers : Numbers} → WithinFour stack → MoveWithin (joins_at stack start numbers)
  within-disorders : {group : ℕ} → MoveWithin (disorders group)
  within-leaves : MoveWithin leaves

below-within : (above : List (Frame Layout)) {below : List (Frame Layout)} → WithinFour (above ++ below) → WithinFour below
below-within [] w = w
below-within (f ∷ above) (within-run h w) = below-within above w
below-within (f ∷ above) (within-entry h w) = below-within above w

entry-within : {group : OpenGroup Layout} {own : OpenEntry} {below : List (Frame Layout)} → WithinFour (entry group own ∷ below)
    → group.depth + nesting group.level ≤ most_depth
entry-within (within-entry h w) = h

module _ (accepts : ℕ → Bool) where
  pick_kind : (depth : ℕ) (b : Bool) (x y : Kind Layout) → KindWithin depth x → KindWithin depth y → KindWithin depth (pick b x y)
  pick_kind depth true x y p q = p
  pick_kind depth false x y p q = q

  counting-within : (depth : ℕ) (level : Layout) → depth + nesting level ≤ most_depth → (tag position : ℕ) (group : Group) → group_of tag level ≡ group → KindWithin depth (counting depth position (opened_as group))
  unfolding counting opened_as
  counting-within depth level h tag position no_group e = within-plain
  counting-within depth level h tag position (entries-of inner) e =
      pick_kind depth (ltb depth 4) (count inner position) (plain position) (within_count (omega (arith, group_nests tag level inner e))) within-plain

  kind_within : (depth last : ℕ) (level : Layout) → depth + nesting level ≤ most_depth → (tag : ℕ) → KindWithin depth (entry_kind (layout_rules accepts) level depth last tag)
  unfolding entry_kind layout_rules
  kind_within depth last level h tag =
      pick_kind depth (opens (layout_rules accepts) level tag) ends _ within-ends (go (position_in tag level))
    where
      go : (p : Option ℕ) → KindWithin depth (declared (layout_rules accepts) level depth last tag p)
      go None = unfold declared in pick_kind depth (accepts tag) joins ends within-joins within-ends
      go (Some position) = unfold declared in pick_kind depth (leb position last) wrong _ within-wrong (counting-within depth level h tag position (group_of tag level) refl)

  decide-within : (here tag : ℕ) {stack : List (Frame Layout)} → WithinFour stack → MoveWithin (decide (layout_rules accepts) here stack tag)
  unfolding decide
  decide-within here tag within_none = within-leaves
  decide-within here tag (within-run {group} {number} {below} h f) =
      go (opens (layout_rules accepts) group.level tag) (eqb number 0) (decide-within here tag f)
    where
      go : (b c : Bool) → MoveWithin (decide (layout_rules accepts) here below tag)
          → MoveWithin (pick b (adds (entry group (record { number = number + 1; last = 0; start = here }) ∷ run group (number + 1) ∷ below) (numbers_in group (number + 1))) (pick c (disorders group.tag) (decide (layout_rules accepts) here below tag)))
      go true c m = within-adds (within-entry h (within-run h f))
      go false true m = within-disorders
      go false false m = m
  decide-within here tag (within-entry {group} {own} {below} h f) =
      go _ (kind_within group.depth own.last group.level h tag) (decide-within here tag f)
    where
      go : (kind : Kind Layout) → KindWithin group.depth kind → MoveWithin (decide (layout_rules accepts) here below tag)
          → MoveWithin (in_entry_lem group own below tag (decide (layout_rules accepts) here below tag) kind)
      go kind within-plain m = unfold in_entry_lem in within-adds (within-entry h f)
      go kind (within_count k) m = unfold in_entry_lem in within-adds (within-run k (within-entry h f))
      go kind within-joins m = unfold in_entry_lem in within_joining (within-entry h f)
      go kind within-wrong m = unfold in_entry_lem in within-disorders
      go kind within-ends m = unfold in_entry_lem in m

  adds-within : {move : Move Layout} → MoveWithin move → (stack : List (Frame Layout)) (numbers : Numbers) → move ≡ adds stack numbers → WithinFour stack
  adds-within (within-adds {stack = other} f) stack numbers e = let same : other ≡ stack = cc in rw same at f
  adds-within (within_joining f) stack numbers e = let z : ◌≡◌ {A = ℕ} 0 1 = cc in absurd (omega arith)
  adds-within within-disorders stack numbers e = let z : ◌≡◌ {A = ℕ} 0 1 = cc in absurd (omega arith)
  adds-within within-leaves stack numbers e = let z : ◌≡◌ {A = ℕ} 0 1 = cc in absurd (omega arith)

  joins-within : {move : Move Layout} → MoveWithin move → (stack : List (Frame Layout)) (start : ℕ) (numbers : Numbers) → move ≡ joins_at stack start numbers
      → WithinFour stack
  joins-within (within_joining {stack = other} f) stack start numbers e = let same : other ≡ stack = cc in rw same at f
  joins-within (within-adds f) stack start numbers e = let z : ◌≡◌ {A = ℕ} 0 1 = cc in absurd (omega arith)
  joins-within within-disorders stack start numbers e = let z : ◌≡◌ {A = ℕ} 0 1 = cc in absurd (omega arith)
  joins-within within-leaves stack start numbers e = let z : ◌≡◌ {A = ℕ} 0 1 = cc in absurd (omega arith)

  comes_within : {S W : Type 0} (store : Store S W) {room : ℕ} {stack later : List (Frame Layout)} {s : S} {fields : Fields} → WithinFour stack → ComesTo (layout_rules accepts) store room stack s fields later → WithinFour later
  comes_within store f comes_here = f
  comes_within store {s = s} f (comes_adding {f = x} next numbers e c) =
      comes_within store (adds-within (decide-within (store.place s) x.tag f) next numbers e) c
  comes_within store {s = s} f (comes_joining {f = x} next start numbers e c) =
      comes_within store (joins-within (decide-within (store.place s) x.tag f) next start numbers e) c

  -- the run of a tag of a message's layout, wherever reading comes in it
  module _ {S W : Type 0} (store : Store S W) (layout : Layout) (shallow : nesting layout ≤ most_depth) (tag : ℕ) (inner : Layout) (counts : group_of tag layout ≡ entries-of inner) {room : ℕ} {s : S} {fields : Fields} where
    pub run-within : (later : List (Frame Layout)) → ComesTo (layout_rules accepts) store room (run (outermost tag inner) 0 ∷ []) s fields later
        → WithinFour later
    run-within later c = comes_within store (within-run (omega (arith, group_nests tag layout inner counts)) within_none) c

    -- a tag that counts entries in an open entry starts their run: the stop is never met
    pub nested-runs : (above below : List (Frame Layout)) (group : OpenGroup Layout) (own : OpenEntry)
        → ComesTo (layout_rules accepts) store room (run (outermost tag inner) 0 ∷ []) s fields (above ++ (entry group own ∷ below))
        → (wanted : ℕ) (nested : Layout) → group_of wanted group.level ≡ entries-of nested → (position : ℕ)
        → counting group.depth position (opened_as (group_of wanted group.level)) ≡ count nested position
    nested-runs above below group own c wanted nested e position =
        count_runs group.depth group.level (entry-within (below-within above (run-within _ c))) wanted nested e position
