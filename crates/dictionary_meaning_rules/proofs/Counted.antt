-- What the check counts of a level, and what it holds: the items of each component that it names, and whether it holds one component
-- and else only empty ones. Where the counts of the components are right, so is that of the level.
use Rattle.std.specs.Prelude.{◌≡◌, Bool, ◌⊎◌, List, ℕ, zero, suc, ◌+◌, ◌≤◌, ◌<◌, eqb}
use Rattle.std.proofs.Math.Path.{refl, ap}
use Rattle.std.proofs.Common.{sym, ◌∙◌, inl, inr, eqb-true, Option, Some, None}
use Rattle.std.proofs.Math.Bool.{true, false}
use Rattle.std.proofs.Math.Logic.{⊎_elim}
use native.Mathlib.Omega.{arith}
use Rattle.std.proofs.lemmas.Bool.{eqb-false}
use Rattle.field_rules.specs.Choice.{pick}
use Rattle.dictionary_layout_rules.specs.Layout.{Layout, end, field, group, followed_by, items, depth as nesting}
use Rattle.dictionary_layout_rules.specs.Tree.{flattened}
use Rattle.dictionary_rules.specs.Step.{held_also, held_with}
use Rattle.dictionary_rules.specs.declared.Component.{Component}
use Rattle.dictionary_rules.specs.declared.Held.{Held}
use Rattle.dictionary_rules.specs.declared.Held.TheVariants.{Empty, Only, Several}
use Rattle.dictionary_meaning_rules.specs.Meaning.{Items, closed, field_then_lem, component_then_lem, group_then_lem, Defined, expanded}
use Rattle.dictionary_meaning_rules.proofs.Written.{followed-end}
use Rattle.dictionary_meaning_rules.proofs.Layable.{layout_of, flat, calls_for, Room, room-close, room-field, room-component, room-group, count-field, count-component, count-group, nest_field, nest_component, nest_group}

unfoldable pub items_in : Option Component → ℕ
items_in None = 0
items_in (Some c) = c.items

unfoldable pub held_by : Held → Option Component → Held
held_by held None = held
held_by held (Some c) = held_with held c

module _ (look : ℕ → Option Component) where
  unfoldable pub count_of : Items → ℕ
  count_of closed = 0
  count_of (field_then_lem tag required rest) = 1 + count_of rest
  count_of (component_then_lem number required rest) = items_in (look number) + count_of rest
  count_of (group_then_lem tag required inner rest) = 1 + (count_of inner + count_of rest)

  unfoldable pub held_from : Held → Items → Held
  held_from held closed = held
  held_from held (field_then_lem tag required rest) = held_from Several rest
  held_from held (component_then_lem number required rest) = held_from (held_by held (look number)) rest
  held_from held (group_then_lem tag required inner rest) = held_from (held_from Several inner) rest

-- each component that a level names is closed, and its count is that of its layout
pub data Agrees (look : ℕ → Option Component) (defined : List Defined) : Items → Type 0 where
  agrees_close : Agrees look defined closed
  agrees_field : {tag : ℕ} {required : Bool} {rest : Items} → Agrees look defined rest → Agrees look defined (field_then_lem tag required rest)
  agrees_component : {number : ℕ} {required : Bool} {rest : Items} (c : Component) → look number ≡ Some c → c.items ≡ items (layout_of defined number) → Agrees look defined rest → Agrees look defined (component_then_lem number required rest)
  agrees_group : {tag : ℕ} {required : Bool} {inner rest : Items} → Agrees look defined inner → Agrees look defined rest → Agrees look defined (group_then_lem tag required inner rest)

module _ (look : ℕ → Option Component) (defined : List Defined) where
  pub count_agrees : {level : Items} → Agrees look defined level → count_of look level ≡ items (flat defined level)
  unfolding count_of items_in
  count_agrees agrees_close = unfold expanded flattened items in refl
  count_agrees (agrees_field {tag} {required} {rest} a) = omega (arith, count_agrees a, count-field defined tag required rest)
  count_agrees (agrees_component {number} {required} {rest} c e n a) =
      rw e (omega (arith, count_agrees a, count-component defined number required rest, n))
  count_agrees (agrees_group {tag} {required} {inner} {rest} i a) = omega (arith, count_agrees i, count_agrees a, count-group defined tag required inner rest)

-- a component that was met: it was empty and nothing changed, or it was not
data Met (held : Held) (c : Component) : Held → Type 0 where
  met_empty : c.items ≡ 0 → Met held c held
  met_some : 1 ≤ c.items → Met held c (held_also held c.stands)

met : (held : Held) (c : Component) → Met held c (held_with held c)
unfolding held_with
met held c = go (eqb c.items 0) refl
  where
    go : (t : Bool) → eqb c.items 0 ≡ t → Met held c (pick t held (held_also held c.stands))
    go true e = met_empty (eqb-true _ _ e)
    go false e = let h = eqb-false _ _ e in met_some (some c.items h)
      where
        some : (n : ℕ) → (n ≡ 0 → ⊥) → 1 ≤ n
        some zero h = absurd (h refl)
        some (suc n) h = omega arith

never_empty : {A : Type 0} {s : ℕ} → Only s ≡ Empty → A
never_empty e = let z : ◌≡◌ {A = ℕ} 0 1 = cc in absurd (omega arith)

never_several : {A : Type 0} → Several ≡ Empty → A
never_several e = let z : ◌≡◌ {A = ℕ} 0 1 = cc in absurd (omega arith)

only_several : {A : Type 0} {s : ℕ} → Only s ≡ Several → A
only_several e = let z : ◌≡◌ {A = ℕ} 0 1 = cc in absurd (omega arith)

module _ (look : ℕ → Option Component) (defined : List Defined) where
  -- several things stay several
  several_stays : (level : Items) → held_from look Several level ≡ Several
  unfolding held_from
  several_stays closed = refl
  several_stays (field_then_lem tag required rest) = several_stays rest
  several_stays (component_then_lem number required rest) = ap (λ (h : Held). held_from look h rest) (still (look number)) ∙ several_stays rest
    where
      still : (l : Option Component) → held_by Several l ≡ Several
      still None = unfold held_by in refl
      still (Some c) = unfold held_by held_with held_also in pick_still (eqb c.items 0)
        where
          pick_still : (t : Bool) → pick t Several Several ≡ Several
          pick_still true = refl
          pick_still false = refl
  several_stays (group_then_lem tag required inner rest) = ap (λ (h : Held). held_from look h rest) (several_stays inner) ∙ several_stays rest

pub items-none : (layout : Layout) → items layout ≡ 0 → layout ≡ end
unfolding items
items-none end e = refl
items-none (field tag required rest) e = absurd (omega arith)
items-none (group tag required inner rest) e = absurd (omega arith)

calls_none : (layout : Layout) → items layout ≡ 0 → calls_for layout ≡ 0
unfolding items nesting
calls_none end e = refl
calls_none (field tag required rest) e = absurd (omega arith)
calls_none (group tag required inner rest) e = absurd (omega arith)

pub items-some : (layout : Layout) → (layout ≡ end → ⊥) → 1 ≤ items layout
unfolding items
items-some end some = absurd (some refl)
items-some (field tag required rest) some = omega arith
items-some (group tag required inner rest) some = omega arith

-- a level that names an empty component first means what the rest means
flat-empty : (defined : List Defined) (number : ℕ) (required : Bool) (rest : Items) → items (layout_of defined number) ≡ 0 → flat defined (component_then_lem number required rest) ≡ flat defined rest
unfolding expanded flattened followed_by
flat-empty defined number required rest z = rw (items-none (layout_of defined number) z)

-- and one that names empty components last, what it names first
flat_only : (defined : List Defined) (number : ℕ) (required : Bool) (rest : Items) → flat defined rest ≡ end → flat defined (component_then_lem number required rest) ≡ layout_of defined number
unfolding expanded flattened
flat_only defined number required rest e = rw e (followed-end (layout_of defined number))

flat-closed : (defined : List Defined) → flat defined closed ≡ end
unfolding expanded flattened
flat-closed defined = refl

-- the one component that a level holds, all else being empty
pub record Single (look : ℕ → Option Component) (defined : List Defined) (level : Items) (stands : ℕ) : Type 0 where
  pub number : ℕ
  pub component : Component
  pub looked : look number ≡ Some component
  pub standing : component.stands ≡ stands
  pub some : 1 ≤ component.items
  pub same : flat defined level ≡ layout_of defined number

module _ (look : ℕ → Option Component) (defined : List Defined) where
  held-component : (held : Held) (number : ℕ) (required : Bool) (rest : Items) (c : Component) → look number ≡ Some c → held_from look held (component_then_lem number required rest) ≡ held_from look (held_with held c) rest
  unfolding held_from held_by
  held-component held number required rest c e = rw e

  several_no_only : {A : Type 0} {t : ℕ} (level : Items) → held_from look Several level ≡ Only t → A
  several_no_only level e = let s = several_stays look defined level in only_several (sym e ∙ s)

  several_no_empty : {A : Type 0} (level : Items) → held_from look Several level ≡ Empty → A
  several_no_empty level e = let s = several_stays look defined level in never_several (sym s ∙ e)

  group_several : (tag : ℕ) (required : Bool) (inner rest : Items) (held : Held) → held_from look held (group_then_lem tag required inner rest) ≡ held_from look Several rest
  unfolding held_from
  group_several tag required inner rest held = ap (λ (h : Held). held_from look h rest) (several_stays look defined inner)

  -- a component that a level names first is empty, or changes what is held
  meets : (held result : Held) (number : ℕ) (required : Bool) (rest : Items) (c : Component) → look number ≡ Some c → held_from look held (component_then_lem number required rest) ≡ result →
      ((c.items ≡ 0) × (held_from look held rest ≡ result)) ⊎ ((1 ≤ c.items) × (held_from look (held_also held c.stands) rest ≡ result))
  meets held result number required rest c l e = go _ (met held c) (sym (held-component held number required rest c l) ∙ e)
    where
      go : (h : Held) → Met held c h → held_from look h rest ≡ result → ((c.items ≡ 0) × (held_from look held rest ≡ result)) ⊎ ((1 ≤ c.items) × (held_from look (held_also held c.stands) rest ≡ result))
      go h (met_empty z) q = inl (z, q)
      go h (met_some k) q = inr (k, q)

  only_no_empty : {A : Type 0} {level : Items} (s : ℕ) → Agrees look defined level → held_from look (Only s) level ≡ Empty → A
  unfolding held_from held_also
  only_no_empty s agrees_close e = never_empty e
  only_no_empty s (agrees_field {rest} a) e = several_no_empty rest e
  only_no_empty s (agrees_component {number} {required} {rest} c l n a) e =
      ⊎_elim (λ w. only_no_empty s a w.1) (λ w. several_no_empty rest w.1) (meets (Only s) Empty number required rest c l e)
  only_no_empty s (agrees_group {tag} {required} {inner} {rest} i a) e = several_no_empty rest (sym (group_several tag required inner rest (Only s)) ∙ e)

  pub empty-none : {level : Items} → Agrees look defined level → held_from look Empty level ≡ Empty → items (flat defined level) ≡ 0
  unfolding held_from held_also
  empty-none agrees_close e = unfold items in rw (flat-closed defined)
  empty-none (agrees_field {rest} a) e = several_no_empty rest e
  empty-none (agrees_component {number} {required} {rest} c l n a) e =
      ⊎_elim
      (λ w. omega (arith, empty-none a w.1, w.0, n, count-component defined number required rest))
      (λ w. only_no_empty c.stands a w.1)
      (meets Empty Empty number required rest c l e)
  empty-none (agrees_group {tag} {required} {inner} {rest} i a) e = several_no_empty rest (sym (group_several tag required inner rest Empty) ∙ e)

  only_nothing : {level : Items} (s t : ℕ) → Agrees look defined level → held_from look (Only s) level ≡ Only t → (s ≡ t) × (flat defined level ≡ end)
  unfolding held_from held_also
  only_nothing s t agrees_close e = let same : s ≡ t = cc in (same, flat-closed defined)
  only_nothing s t (agrees_field {rest} a) e = several_no_only rest e
  only_nothing s t (agrees_component {number} {required} {rest} c l n a) e =
      ⊎_elim
      (λ w. let r = only_nothing s t a w.1 in (r.0, flat-empty defined number required rest (sym n ∙ w.0) ∙ r.1))
      (λ w. several_no_only rest w.1)
      (meets (Only s) (Only t) number required rest c l e)
  only_nothing s t (agrees_group {tag} {required} {inner} {rest} i a) e = several_no_only rest (sym (group_several tag required inner rest (Only s)) ∙ e)

  pub only_one : {level : Items} (t : ℕ) → Agrees look defined level → held_from look Empty level ≡ Only t → Single look defined level t
  unfolding held_from held_also
  only_one t agrees_close e = never_empty (sym e)
  only_one t (agrees_field {rest} a) e = several_no_only rest e
  only_one t (agrees_component {number} {required} {rest} c l n a) e =
      ⊎_elim
      (λ w. let r = only_one t a w.1 in record { number = r.number; component = r.component; looked = r.looked; standing = r.standing; some = r.some; same = flat-empty defined number required rest (sym n ∙ w.0) ∙ r.same })
      (λ w. let r = only_nothing c.stands t a w.1 in record { number = number; component = c; looked = l; standing = r.0; some = w.0; same = flat_only defined number required rest r.1 })
      (meets Empty (Only t) number required rest c l e)
  only_one t (agrees_group {tag} {required} {inner} {rest} i a) e = several_no_only rest (sym (group_several tag required inner rest Empty) ∙ e)

  only_grows : {level : Items} (s : ℕ) → Agrees look defined level → held_from look (Only s) level ≡ Several → 1 ≤ items (flat defined level)
  unfolding held_from
  only_grows s agrees_close e = only_several e
  only_grows s (agrees_field {tag} {required} {rest} a) e = omega (arith, count-field defined tag required rest)
  only_grows s (agrees_component {number} {required} {rest} c l n a) e =
      ⊎_elim
      (λ w. omega (arith, only_grows s a w.1, count-component defined number required rest))
      (λ w. omega (arith, w.0, n, count-component defined number required rest))
      (meets (Only s) Several number required rest c l e)
  only_grows s (agrees_group {tag} {required} {inner} {rest} i a) e = omega (arith, count-group defined tag required inner rest)

-- how much was counted for what is held
data Weighs : Held → ℕ → Type 0 where
  weighs_empty : Weighs Empty 0
  weighs_only : {s k : ℕ} → 1 ≤ k → Weighs (Only s) k
  weighs_several : {k : ℕ} → 1 ≤ k → Weighs Several k

module _ (look : ℕ → Option Component) (defined : List Defined) where
  weighs_more : (held : Held) (s k n : ℕ) → Weighs held k → 1 ≤ n → Weighs (held_also held s) (k + n)
  unfolding held_also
  weighs_more Empty s k n weighs_empty h = let more : 1 ≤ 0 + n = omega arith in weighs_only more
  weighs_more (Only t) s k n (weighs_only w) h = let more : 1 ≤ k + n = omega arith in weighs_several more
  weighs_more Several s k n (weighs_several w) h = let more : 1 ≤ k + n = omega arith in weighs_several more

  -- a component that comes to a level of several has fewer items than the level
  fewer : {rest : Items} (held : Held) (s k n : ℕ) → Weighs held k → Agrees look defined rest → held_from look (held_also held s) rest ≡ Several → 1 ≤ k + items (flat defined rest)
  unfolding held_also
  fewer Empty s k n weighs_empty a e = omega (arith, only_grows look defined s a e)
  fewer (Only t) s k n (weighs_only w) a e = omega arith
  fewer Several s k n (weighs_several w) a e = omega arith

  -- so one for each item is enough where a level holds several things, and one for each group that nests
  room_several : {level : Items} (held : Held) (k nest depth : ℕ) → Agrees look defined level → Weighs held k → held_from look held level ≡ Several → 1 ≤ depth
      → nesting (flat defined level) ≤ nest → k + items (flat defined level) + nest ≤ depth → Room defined depth level
  unfolding held_from
  room_several held k nest depth agrees_close w e p n h = room-close
  room_several held k nest depth (agrees_field {tag} {required} {rest} a) w e p n h =
      let c = count-field defined tag required rest in
      let d = nest_field defined tag required rest in
      let more : 1 ≤ k + 1 = omega arith in
      room-field (room_several Several (k + 1) nest depth a (weighs_several more) e p (omega arith) (omega arith))
  room_several held k nest depth (agrees_component {number} {required} {rest} c l n a) w e p d h =
      let count = count-component defined number required rest in
      let below = nest_component defined number required rest in
      ⊎_elim
      (λ q. let z : calls_for (layout_of defined number) ≡ 0 = calls_none (layout_of defined number) (omega (arith, q.0)) in
      let r : calls_for (layout_of defined number) < depth = omega arith in
      room-component r (room_several held k nest depth a w q.1 p (omega arith) (omega arith)))
      (λ q. let f = fewer held c.stands k c.items w a q.1 in
      let r : calls_for (layout_of defined number) < depth = omega arith in
      room-component r (room_several (held_also held c.stands) (k + c.items) nest depth a (weighs_more held c.stands k c.items w q.0) q.1 p (omega arith) (omega arith)))
      (meets look defined held Several number required rest c l e)
  room_several held k nest depth (agrees_group {tag} {required} {inner} {rest} i a) w e p n h =
      let c = count-group defined tag required inner rest in
      let d = nest_group defined tag required inner rest in
      let r : calls_for (flat defined inner) + 1 < depth = omega arith in
      let more : 1 ≤ k + 1 + items (flat defined inner) = omega arith in
      room-group r (room_several Several (k + 1 + items (flat defined inner)) nest depth a (weighs_several more) (sym (ap (λ (x : Held). held_from look x rest) (several_stays look defined inner)) ∙ e) p (omega arith) (omega arith))

  pub room_proper : {level : Items} (depth : ℕ) → Agrees look defined level → held_from look Empty level ≡ Several → 1 ≤ depth → calls_for (flat defined level) ≤ depth → Room defined depth level
  room_proper {level} depth a e p h = room_several Empty 0 (nesting (flat defined level)) depth a weighs_empty e p (omega arith) (omega arith)
