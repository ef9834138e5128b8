-- What a component stands for: in a dictionary's names every component that is not empty stands for one that is closed, stands for
-- itself, and has the same items and the same depth. So whoever flattens may go straight to it.
use Rattle.std.specs.Prelude.{◌≡◌, Bool, List, ◌∷◌, ℕ, ◌+◌, ◌≤◌, ltb}
use Rattle.std.proofs.Math.Path.{refl, ap, subst}
use Rattle.std.proofs.Common.{sym, ◌∙◌, arith, eq-eqb, eqb-true, ltb-false, le-ltb, Option, Some, None, Result, Ok, Err}
use Rattle.std.proofs.Math.Bool.{true, false}
use Rattle.std.proofs.Math.Dec.{eqb}
use Rattle.std.proofs.lemmas.Bool.{eqb-false}
use Rattle.field_rules.specs.Choice.{pick}
use Rattle.dictionary_rules.specs.Records.{Records, ends, bad, whole, records_from}
use Rattle.dictionary_rules.specs.declared.Record.{Record}
use Rattle.dictionary_rules.specs.declared.Record.TheVariants.{KnownTag, OpensComponent, OpensMessage, FieldItem, ComponentItem, OpensGroup, Closes}
use Rattle.dictionary_rules.specs.Step.{depth_of, opens, deeper, grown, held_also, held_with, stands_for, at_top_lem, inside, closed_before, known_before}
use Rattle.dictionary_rules.specs.Step.{not_empty, not_too_deep, not_too_many, once_component, once_message, on_tag, on_component, on_message, on_field, on_item}
use Rattle.dictionary_rules.specs.Step.{on_group, closes_owner, closes_group, closes_innermost, on_close, step_of}
use Rattle.dictionary_rules.specs.Check.{outcome, on_step, walked, too_long, read_of, store_of}
use Rattle.dictionary_rules.specs.declared.Checked.{Checked}
use Rattle.dictionary_rules.specs.declared.Checked.TheVariants.{TooLong}
use Rattle.dictionary_rules.specs.declared.Component.{Component}
use Rattle.dictionary_rules.specs.declared.Group.{Group}
use Rattle.dictionary_rules.specs.declared.Groups.{Groups}
use Rattle.dictionary_rules.specs.declared.Groups.TheVariants.{NoGroup, OneGroup, TwoGroups, ThreeGroups, FourGroups}
use Rattle.dictionary_rules.specs.declared.Held.{Held}
use Rattle.dictionary_rules.specs.declared.Held.TheVariants.{Empty, Only, Several}
use Rattle.dictionary_rules.specs.declared.Owner.{Owner}
use Rattle.dictionary_rules.specs.declared.Owner.TheVariants.{OfComponent, OfMessage}
use Rattle.dictionary_rules.specs.declared.Open.{Open}
use Rattle.dictionary_rules.specs.declared.State.{State}
use Rattle.dictionary_rules.specs.declared.State.TheVariants.{TopLevel, Inside}
use Rattle.dictionary_rules.specs.declared.Note.{Note}
use Rattle.dictionary_rules.specs.declared.Note.TheVariants.{Unchanged, KnowsTag, NamesMessage}
use Rattle.dictionary_rules.specs.Names.{Names, component_in, looks_in, named, no_names}

-- so many items, so deep, and one component that has them
pub record Stood (components : List Component) (number items depth : ℕ) : Type 0 where
  pub meant : Component
  pub closed : component_in components number ≡ Some meant
  pub same-items : meant.items ≡ items
  pub same-depth : meant.depth ≡ depth
  pub itself : meant.stands ≡ number

-- an empty component has no depth; any other stands for one that has its items
pub record Sound (components : List Component) (c : Component) : Type 0 where
  pub flat : c.items ≡ 0 → c.depth ≡ 0
  pub stood : (c.items ≡ 0 → ⊥) → Stood components c.stands c.items c.depth

unfoldable pub AllSound : List Component → Type 0
AllSound components = (number : ℕ) (c : Component) → component_in components number ≡ Some c → Sound components c

-- what is held so far, with the items and the depth counted so far
abbrev HeldSound : List Component → Held → ℕ → ℕ → ℕ → Type 0
HeldSound components Empty items depth groups = (items ≡ 0) × (depth ≡ 0) × (groups ≡ 0)
HeldSound components (Only number) items depth groups = Stood components number items depth × (groups ≡ 0) × (1 ≤ items)
HeldSound components Several items depth groups = 1 ≤ items

abbrev OwnerSound : List Component → Owner → Type 0
OwnerSound components (OfComponent number) = component_in components number ≡ None
OwnerSound components OfMessage = Unit {0}

abbrev StateSound : List Component → State → Type 0
StateSound components TopLevel = Unit {0}
StateSound components (Inside o) = OwnerSound components o.owner × HeldSound components o.held o.items o.depth (depth_of o.groups)

abbrev Keeps : Names → Result (State × Note) Checked → Type 0
Keeps names (Err checked) = Unit {0}
Keeps names (Ok (state, note)) = AllSound (named names note).components × StateSound (named names note).components state

keeps_refuses : (names : Names) (t : Bool) (checked : Checked) (step : Result (State × Note) Checked) → Keeps names step → Keeps names (pick t (Err checked) step)
keeps_refuses names true checked step k = tt
keeps_refuses names false checked step k = k

keeps_known : (names : Names) (t : Bool) (checked : Checked) (step : Result (State × Note) Checked) → Keeps names step → Keeps names (pick t step (Err checked))
keeps_known names true checked step k = k
keeps_known names false checked step k = tt

deeper-none : (a : ℕ) → deeper a (0 + 0) ≡ a
unfolding deeper
deeper-none a = rw (le-ltb a 0 (omega arith))

-- an empty component adds neither items nor depth
adds-nothing : (components : List Component) (held : Held) (items depth groups more below : ℕ) → more ≡ 0 → below ≡ 0
    → HeldSound components held items depth groups → HeldSound components held (items + more) (deeper depth (groups + below)) groups
adds-nothing components Empty items depth groups more below z y (i, d, g) =
    (omega arith, rw (g, y) (deeper-none depth ∙ d), g)
adds-nothing components (Only number) items depth groups more below z y (s, g, l) =
    let same : items + more ≡ items = omega arith in
    (rw (same, g, y, deeper-none depth) s, g, omega arith)
adds-nothing components Several items depth groups more below z y l = omega arith

deeper-first : (x : ℕ) → deeper 0 (0 + x) ≡ x
unfolding deeper
deeper-first x = go (ltb 0 (0 + x)) refl
  where
    go : (t : Bool) → ltb 0 (0 + x) ≡ t → pick t (0 + x) 0 ≡ x
    go true e = omega arith
    go false e = omega (arith, ltb-false 0 (0 + x) e)

-- a component item, by what it adds
held_with_lem : (components : List Component) (held : Held) (c : Component) (items depth groups : ℕ) → Sound components c
    → HeldSound components held items depth groups → HeldSound components (held_with held c) (items + c.items) (deeper depth (groups + c.depth)) groups
unfolding held_with held_also
held_with_lem components held c items depth groups sound h = go (eqb c.items 0) refl held h
  where
    go : (t : Bool) → eqb c.items 0 ≡ t → (held : Held) → HeldSound components held items depth groups
        → HeldSound components (pick t held (held_also held c.stands)) (items + c.items) (deeper depth (groups + c.depth)) groups
    go true e held h =
        let z : c.items ≡ 0 = eqb-true c.items 0 e in adds-nothing components held items depth groups c.items c.depth z (sound.flat z) h
    go false e Empty (i, d, g) =
        let some : c.items ≡ 0 → ⊥ = eqb-false c.items 0 e in
        let same : items + c.items ≡ c.items = omega arith in
        (rw (same, d, g, deeper-first c.depth) (sound.stood some), g, omega arith)
    go false e (Only number) (s, g, l) = omega arith
    go false e Several l = omega arith

-- a group that closes leaves what was held
regroup : (components : List Component) (held : Held) (items depth n m : ℕ) → 1 ≤ n → HeldSound components held items depth n
    → HeldSound components held items depth m
regroup components Empty items depth n m l (i, d, g) = absurd (omega arith)
regroup components (Only number) items depth n m l (s, g, k) = absurd (omega arith)
regroup components Several items depth n m l k = k

-- a new number hides no component
older : (c : Component) (components : List Component) → component_in components c.number ≡ None → (number : ℕ) (x : Component)
    → component_in components number ≡ Some x → component_in (c ∷ components) number ≡ Some x
unfolding component_in
older c components fresh number x h = go (eqb number c.number) refl
  where
    go : (t : Bool) → eqb number c.number ≡ t → pick t (Some c) (component_in components number) ≡ Some x
    go true e =
        let same : number ≡ c.number = eqb-true number c.number e in
        let none : component_in components number ≡ None = ap (component_in components) same ∙ fresh in
        let z : ◌≡◌ {A = ℕ} 0 1 = cc in absurd (omega arith)
    go false e = h

module _ (c : Component) (components : List Component) (fresh : component_in components c.number ≡ None) where
  stood_older : (number items depth : ℕ) → Stood components number items depth → Stood (c ∷ components) number items depth
  stood_older number items depth s =
      record {
        meant = s.meant;
        closed = older c components fresh number s.meant s.closed;
        same-items = s.same-items;
        same-depth = s.same-depth;
        itself = s.itself;
      }

  sound_older : (x : Component) → Sound components x → Sound (c ∷ components) x
  sound_older x s = record { flat = s.flat; stood = λ some. stood_older x.stands x.items x.depth (s.stood some) }

  found-new : component_in (c ∷ components) c.number ≡ Some c
  unfolding component_in
  found-new = rw (eq-eqb c.number c.number refl)

  sound_new : (held : Held) (groups : ℕ) → c.stands ≡ stands_for c.number held → HeldSound components held c.items c.depth groups
      → Sound (c ∷ components) c
  unfolding stands_for
  sound_new Empty groups e (i, d, g) = record { flat = λ z. d; stood = λ some. absurd (some i) }
  sound_new (Only number) groups e (s, g, l) =
      record {
        flat = λ z. absurd (omega arith);
        stood = λ some. subst (λ (n : ℕ). Stood (c ∷ components) n c.items c.depth) (sym e) (stood_older number c.items c.depth s);
      }
  sound_new Several groups e l =
      record {
        flat = λ z. absurd (omega arith);
        stood = λ some. record { meant = c; closed = ap (component_in (c ∷ components)) e ∙ found-new; same-items = refl; same-depth = refl; itself = refl };
      }

  all_sound : AllSound components → Sound (c ∷ components) c → AllSound (c ∷ components)
  unfolding AllSound component_in
  all_sound all new number x h = go (eqb number c.number) refl h
    where
      go : (t : Bool) → eqb number c.number ≡ t → pick t (Some c) (component_in components number) ≡ Some x → Sound (c ∷ components) x
      go true e q = let same : c ≡ x = cc in subst (λ (y : Component). Sound (c ∷ components) y) same new
      go false e q = sound_older x (all number x q)

module _ (names : Names) (all : AllSound names.components) where
  keeps_owner : (o : Open) (owner : Owner) (groups : ℕ) → OwnerSound names.components owner
      → HeldSound names.components o.held o.items o.depth groups → Keeps names (closes_owner o owner)
  unfolding closes_owner named
  keeps_owner o (OfComponent number) groups own h =
      let c : Component = record { number = number; place = o.place; items = o.items; depth = o.depth; stands = stands_for number o.held } in
      (all_sound c names.components own all (sound_new c names.components own o.held groups refl h), tt)
  keeps_owner o OfMessage groups own h = (all, tt)

  keeps_group : (o : Open) (g : Group) (inner groups : Groups) → 1 ≤ depth_of inner → OwnerSound names.components o.owner
      → HeldSound names.components o.held o.items o.depth (depth_of inner) → Keeps names (closes_group o g groups)
  unfolding closes_group not_empty grown named
  keeps_group o g inner groups l own h =
      keeps_refuses names (eqb o.items g.since) _ _
      (all, (own, regroup names.components o.held o.items o.depth (depth_of inner) (depth_of groups) l h))

  keeps_close : (o : Open) (groups : Groups) → OwnerSound names.components o.owner
      → HeldSound names.components o.held o.items o.depth (depth_of groups) → Keeps names (closes_innermost o groups)
  unfolding closes_innermost depth_of
  keeps_close o NoGroup own h = keeps_owner o o.owner 0 own h
  keeps_close o (OneGroup x) own h = keeps_group o x (OneGroup x) NoGroup (omega arith) own h
  keeps_close o (TwoGroups x y) own h = keeps_group o x (TwoGroups x y) (OneGroup y) (omega arith) own h
  keeps_close o (ThreeGroups x y z) own h = keeps_group o x (ThreeGroups x y z) (TwoGroups y z) (omega arith) own h
  keeps_close o (FourGroups x y z w) own h = keeps_group o x (FourGroups x y z w) (ThreeGroups y z w) (omega arith) own h

  keeps_tag : (known : Bool) (place tag : ℕ) → Keeps names (Ok (TopLevel, (pick known Unchanged (KnowsTag place tag))))
  unfolding named
  keeps_tag true place tag = (all, tt)
  keeps_tag false place tag = (all, tt)

  keeps_component : (looked : Option Component) (number place : ℕ) → component_in names.components number ≡ looked
      → Keeps names (once_component looked place (Ok ((Inside (opens (OfComponent number) place)), Unchanged)))
  unfolding once_component opens named depth_of
  keeps_component None number place e = (all, (e, (refl, refl, refl)))
  keeps_component (Some c) number place e = tt

  keeps_message : (placed : Option ℕ) (msg_type place : ℕ)
      → Keeps names (once_message placed place (Ok ((Inside (opens OfMessage place)), (NamesMessage place msg_type))))
  unfolding once_message opens named depth_of
  keeps_message None msg_type place = (all, (tt, (refl, refl, refl)))
  keeps_message (Some p) msg_type place = tt

  keeps_item : (o : Open) (looked : Option Component) (number place : ℕ) → component_in names.components number ≡ looked → OwnerSound names.components o.owner
      → HeldSound names.components o.held o.items o.depth (depth_of o.groups)
      → Keeps names (closed_before looked number
      (λ c. not_too_deep (depth_of o.groups + c.depth) place
      (not_too_many (o.items + c.items) place
      (Ok ((Inside (grown o (o.items + c.items) (deeper o.depth (depth_of o.groups + c.depth)) (held_with o.held c) o.groups)), Unchanged)))))
  unfolding closed_before not_too_deep not_too_many grown named AllSound
  keeps_item o None number place e own h = tt
  keeps_item o (Some c) number place e own h =
      keeps_refuses names (ltb 4 (depth_of o.groups + c.depth)) _ _
      (keeps_refuses names (ltb 1024 (o.items + c.items)) _ _
      (all, (own, held_with_lem names.components o.held c o.items o.depth (depth_of o.groups) (all number c e) h)))

  step_keeps : (state : State) (place : ℕ) (r : Record) → StateSound names.components state → Keeps names (step_of (looks_in names) state place r)
  unfolding step_of on_tag on_component on_message on_field on_item on_group on_close at_top_lem inside known_before not_too_deep not_too_many grown named looks_in
  step_keeps TopLevel place (KnownTag tag) s = keeps_tag ((looks_in names).known tag) place tag
  step_keeps (Inside o) place (KnownTag tag) s = tt
  step_keeps TopLevel place (OpensComponent number) s = keeps_component (component_in names.components number) number place refl
  step_keeps (Inside o) place (OpensComponent number) s = tt
  step_keeps TopLevel place (OpensMessage msg_type) s = keeps_message ((looks_in names).message msg_type) msg_type place
  step_keeps (Inside o) place (OpensMessage msg_type) s = tt
  step_keeps TopLevel place (FieldItem tag required) s = tt
  step_keeps (Inside o) place (FieldItem tag required) s =
      keeps_known names ((looks_in names).known tag) _ _
      (keeps_refuses names (ltb 1024 (o.items + 1)) _ _ (all, (s.0, omega arith)))
  step_keeps TopLevel place (ComponentItem required number) s = tt
  step_keeps (Inside o) place (ComponentItem required number) s = keeps_item o (component_in names.components number) number place refl s.0 s.1
  step_keeps TopLevel place (OpensGroup tag required) s = tt
  step_keeps (Inside o) place (OpensGroup tag required) s =
      keeps_known names ((looks_in names).known tag) _ _
      (keeps_refuses names (ltb 4 (depth_of o.groups + 1)) _ _
      (keeps_refuses names (ltb 1024 (o.items + 1)) _ _ (all, (s.0, omega arith))))
  step_keeps TopLevel place Closes s = tt
  step_keeps (Inside o) place Closes s = keeps_close o o.groups s.0 s.1

walk_sound : (rs : Records) (state : State) (names : Names) → AllSound names.components → StateSound names.components state
    → AllSound (store_of (walked looks_in named rs state names)).components
unfolding walked store_of
walk_sound (ends size) state names all s = all
walk_sound (bad place) state names all s = all
walk_sound (whole place r rest) state names all s =
    go (step_of (looks_in names) state place r) (step_keeps names all state place r s) (λ state₁ note. walk_sound rest state₁ (named names note))
  where
    go : (step : Result (State × Note) Checked) → Keeps names step
        → ((state₁ : State) (note : Note) → AllSound (named names note).components → StateSound (named names note).components state₁
        → AllSound (store_of (walked looks_in named rest state₁ (named names note))).components)
        → AllSound (store_of (on_step names step (λ state₁ note. walked looks_in named rest state₁ (named names note)))).components
    go (Err checked) k later = unfold on_step in all
    go (Ok (state₁, note)) k later = unfold on_step in later state₁ note k.0 k.1

none_sound : AllSound no_names.components
unfolding AllSound no_names component_in
none_sound number c h = let z : ◌≡◌ {A = ℕ} 0 1 = cc in absurd (omega arith)

-- what a dictionary's components stand for
pub components_sound : (dictionary : List ℕ) → AllSound (store_of (read_of dictionary)).components
unfolding read_of
components_sound dictionary = go (too_long dictionary)
  where
    go : (t : Bool) → AllSound (store_of (pick t (outcome TooLong no_names) (walked looks_in named (records_from dictionary 0) TopLevel no_names))).components
    go true = unfold store_of in none_sound
    go false = walk_sound (records_from dictionary 0) TopLevel no_names none_sound tt
