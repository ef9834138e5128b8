-- The check beside the tree, one record at a time: its counters are the items, the depth and the empty groups of the tree so far. So a
-- record that it takes keeps the bounds, and one that it refuses with 34, 35 or 37 breaks that bound.
use Rattle.std.specs.Prelude.{◌≡◌, Bool}
use Rattle.std.proofs.Math.Path.{refl, sym, ap, subst}
use Rattle.std.proofs.Common.{◌∙◌, ⊎_elim}
use mathlib.Core.List.{List, [], ◌∷◌}
use Prim.Native.Nat.{ℕ, suc, ◌+◌, ◌≤◌}
use native.Mathlib.Omega.{arith}
use Rattle.std.proofs.Math.ListN.{length}
use Rattle.dictionary_layout_rules.specs.Layout.{Layout, end, group, followed_by, items, larger, depth}
use Rattle.dictionary_layout_rules.specs.Tree.{flattened}
use Rattle.dictionary_layout_rules.specs.Measures.{NoEmptyGroup, none-at_end, none-after-field, none_in_group, filled, BoundedSoFar, InnermostOpen}
use Rattle.dictionary_layout_rules.proofs.MeasuresLaws.{larger-first, larger-second, larger-least, filled-followed}
use Rattle.dictionary_layout_rules.specs.Measures.{innermost as innermost-here}
use Rattle.dictionary_rules.specs.Step.{depth_of, opened, deeper, opens, grown}
use Rattle.dictionary_rules.specs.StepLaws.{first_no_deeper, second_no_deeper, deeper_either}
use Rattle.dictionary_rules.specs.declared.Group.{Group}
use Rattle.dictionary_rules.specs.declared.Groups.{Groups}
use Rattle.dictionary_rules.specs.declared.Groups.TheVariants.{NoGroup, OneGroup, TwoGroups, ThreeGroups, FourGroups}
use Rattle.dictionary_rules.specs.declared.Held.{Held}
use Rattle.dictionary_rules.specs.declared.Owner.{Owner}
use Rattle.dictionary_rules.specs.declared.Open.{Open}
use Rattle.dictionary_meaning_rules.specs.Meaning.{Items, closed, field_then_lem, component_then_lem, group_then_lem, Defined, expanded}
use Rattle.dictionary_meaning_rules.proofs.Written.{followed-end}
use Rattle.dictionary_meaning_rules.proofs.Layable.{layout_of, flat}
use Rattle.dictionary_meaning_rules.proofs.Counted.{items-none}
use Rattle.dictionary_meaning_rules.proofs.SoFar.{OpenGroup, continued, wrapped, flat-continued, flat_around, items-continued, depth-more, depth_above, Counts, counts-own, counts_in, counts_grow, counts_whole, FilledBefore, before-none, before_more, filled-wrapped, innermost-wrapped}

-- the open groups, the innermost first
unfoldable pub listed : Groups → List Group
listed NoGroup = []
listed (OneGroup a) = a ∷ []
listed (TwoGroups a b) = a ∷ b ∷ []
listed (ThreeGroups a b c) = a ∷ b ∷ c ∷ []
listed (FourGroups a b c d) = a ∷ b ∷ c ∷ d ∷ []

pub listed-opened : (g : Group) (groups : Groups) → depth_of groups + 1 ≤ 4 → (listed (opened g groups) ≡ g ∷ listed groups) × (depth_of (opened g groups) ≡ suc (depth_of groups))
unfolding listed opened depth_of
listed-opened g NoGroup h = (refl, refl)
listed-opened g (OneGroup a) h = (refl, refl)
listed-opened g (TwoGroups a b) h = (refl, refl)
listed-opened g (ThreeGroups a b c) h = (refl, refl)
listed-opened g (FourGroups a b c d) h = absurd (omega arith)

-- "the deeper" of the check is the larger of the tree
pub deeper-larger : (a b : ℕ) → deeper a b ≡ larger a b
deeper-larger a b =
    let l₁ = larger-first a b in let l₂ = larger-second a b in
    let d₁ = first_no_deeper a b in let d₂ = second_no_deeper a b in
    let under = larger-least a b (deeper a b) d₁ d₂ in
    ⊎_elim (λ e. omega (arith, e)) (λ e. omega (arith, e)) (deeper_either a b)

-- the counters of what is open are the measures of what was read of it, and within bounds
pub record Counted (o : Open) (defined : List Defined) (level : Items) (groups : List OpenGroup) : Type 0 where
  pub nests : depth_of o.groups ≡ length groups
  pub counts : Counts defined o.items (items (flat defined level)) groups (listed o.groups)
  pub deep : o.depth ≡ depth (flat defined (wrapped groups level))
  pub few : o.items ≤ 1024
  pub shallow : o.depth ≤ 4
  pub filled : NoEmptyGroup (flat defined level)
  pub before : FilledBefore defined groups

module _ (defined : List Defined) where
  pub count-whole : {o : Open} {level : Items} {groups : List OpenGroup} → Counted o defined level groups → items (flat defined (wrapped groups level)) ≡ o.items
  count-whole {level} c = counts_whole defined c.counts level refl

  -- what has just opened
  pub counted-opens : (owner : Owner) (place : ℕ) → Counted (opens owner place) defined closed []
  unfolding opens depth_of listed wrapped expanded flattened items depth
  counted-opens owner place =
      record { nests = refl; counts = counts-own refl; deep = refl; few = omega arith; shallow = omega arith; filled = none-at_end; before = before-none }

  -- so far the bounds are kept
  pub bounded_so_far : {o : Open} {level : Items} {groups : List OpenGroup} → Counted o defined level groups → BoundedSoFar (length groups) (flat defined (wrapped groups level))
  bounded_so_far {level} {groups} c =
      let s = c.shallow in let d = c.deep in let f = c.few in let n = count-whole c in
      let open-groups : length groups + 0 ≡ length groups = omega arith in
      record {
        shallow = omega arith;
        few = omega arith;
        filled = rw open-groups at (filled-wrapped defined c.before 0 level (filled c.filled));
      }

  -- more items in the innermost level
  items_more : {o : Open} {level : Items} {groups : List OpenGroup} → Counted o defined level groups → (more : Items) → Counts defined (o.items + items (flat defined more)) (items (flat defined (continued level more))) groups (listed o.groups)
  items_more {o} {level} {groups} c more =
      subst (λ (n : ℕ). Counts defined (o.items + items (flat defined more)) n groups (listed o.groups)) (sym (items-continued defined level more)) (counts_grow defined (items (flat defined more)) c.counts)

  pub whole-more : {o : Open} {level : Items} {groups : List OpenGroup} → Counted o defined level groups → (more : Items) → items (flat defined (wrapped groups (continued level more))) ≡ o.items + items (flat defined more)
  whole-more {level} c more = counts_whole defined (items_more c more) (continued level more) refl

  pub deep_more : {o : Open} {level : Items} {groups : List OpenGroup} → Counted o defined level groups → (more : Items) → depth (flat defined (wrapped groups (continued level more))) ≡ larger o.depth (depth_of o.groups + depth (flat defined more))
  deep_more {o} {level} {groups} c more =
      depth-more defined groups level more
      ∙ ap (λ (n : ℕ). larger n (length groups + depth (flat defined more))) (sym c.deep)
      ∙ ap (λ (n : ℕ). larger o.depth (n + depth (flat defined more))) (sym c.nests)

  shallow-more : {o : Open} {level : Items} {groups : List OpenGroup} → Counted o defined level groups → (more : Items) → depth_of o.groups + depth (flat defined more) ≤ 4 → depth (flat defined (wrapped groups (continued level more))) ≤ 4
  shallow-more {o} c more h =
      omega (arith, deep_more c more, larger-least o.depth (depth_of o.groups + depth (flat defined more)) 4 c.shallow h)

  pub counted-more : {o : Open} {level : Items} {groups : List OpenGroup} → Counted o defined level groups →
      (more : Items) (count deep : ℕ) (held : Held) → NoEmptyGroup (flat defined more) → count ≡ o.items + items (flat defined more) → deep
      ≡ larger o.depth (depth_of o.groups + depth (flat defined more)) → count ≤ 1024 → depth_of o.groups + depth (flat defined more) ≤ 4 →
      Counted (grown o count deep held o.groups) defined (continued level more) groups
  unfolding grown
  counted-more {o} {level} {groups} c more count deep held f n d m h =
      record {
        nests = c.nests;
        counts = subst (λ (x : ℕ). Counts defined x (items (flat defined (continued level more))) groups (listed o.groups)) (sym n) (items_more c more);
        deep = d ∙ sym (deep_more c more);
        few = m;
        shallow = omega (arith, larger-least o.depth (depth_of o.groups + depth (flat defined more)) 4 c.shallow h);
        filled = rw (flat-continued defined level more) (filled-followed c.filled f);
        before = c.before;
      }

  -- a field, a component, a group alone in a level
  one_field : (tag : ℕ) (required : Bool) → (items (flat defined (field_then_lem tag required closed)) ≡ 1) × (depth (flat defined (field_then_lem tag required closed)) ≡ 0)
  unfolding expanded flattened items depth
  one_field tag required = (refl, refl)

  one-component : (number : ℕ) (required : Bool) → flat defined (component_then_lem number required closed) ≡ layout_of defined number
  unfolding expanded flattened
  one-component number required = followed-end (layout_of defined number)

  one-group : (tag : ℕ) (required : Bool) → (items (flat defined (group_then_lem tag required closed closed)) ≡ 1) × (depth (flat defined (group_then_lem tag required closed closed)) ≡ 1)
  unfolding expanded flattened items depth larger
  one-group tag required = (refl, refl)

module _ (defined : List Defined) {o : Open} {level : Items} {groups : List OpenGroup} (c : Counted o defined level groups) where
  -- "field item"
  pub field-whole : (tag : ℕ) (required : Bool) → items (flat defined (wrapped groups (continued level (field_then_lem tag required closed)))) ≡ o.items + 1
  field-whole tag required = whole-more defined c (field_then_lem tag required closed) ∙ ap (λ (n : ℕ). o.items + n) (one_field defined tag required).0

  field_nests : (tag : ℕ) (required : Bool) → depth_of o.groups + depth (flat defined (field_then_lem tag required closed)) ≤ o.depth
  field_nests tag required =
      omega (arith, (one_field defined tag required).1, c.nests, c.deep, depth_above defined groups level)

  pub field-shallow : (tag : ℕ) (required : Bool) → depth (flat defined (wrapped groups (continued level (field_then_lem tag required closed)))) ≤ 4
  field-shallow tag required = shallow-more defined c (field_then_lem tag required closed) (omega (arith, field_nests tag required, c.shallow))

  pub counted-field : (tag : ℕ) (required : Bool) (held : Held) → o.items + 1 ≤ 1024 → Counted (grown o (o.items + 1) o.depth held o.groups) defined (continued level (field_then_lem tag required closed)) groups
  counted-field tag required held h =
      let one = one_field defined tag required in
      let count = one.0 in let flatly = one.1 in
      let nests = c.nests in let deep = c.deep in let above = depth_above defined groups level in let shallow = c.shallow in
      let most : depth_of o.groups + depth (flat defined (field_then_lem tag required closed)) ≤ o.depth = omega arith in
      let up = larger-first o.depth (depth_of o.groups + depth (flat defined (field_then_lem tag required closed))) in
      let down = larger-least o.depth (depth_of o.groups + depth (flat defined (field_then_lem tag required closed))) o.depth (omega arith) most in
      counted-more defined c (field_then_lem tag required closed) (o.items + 1) o.depth held (plain tag required) (omega arith) (omega arith) h (omega arith)
    where
      plain : (tag : ℕ) (required : Bool) → NoEmptyGroup (flat defined (field_then_lem tag required closed))
      plain tag required = unfold expanded flattened in none-after-field none-at_end

  -- "component item"
  pub component-whole : (number : ℕ) (required : Bool) → items (flat defined (wrapped groups (continued level (component_then_lem number required closed)))) ≡ o.items + items (layout_of defined number)
  component-whole number required = whole-more defined c (component_then_lem number required closed) ∙ ap (λ (l : Layout). o.items + items l) (one-component defined number required)

  pub component-deep : (number : ℕ) (required : Bool) → depth_of o.groups + depth (layout_of defined number) ≤ depth (flat defined (wrapped groups (continued level (component_then_lem number required closed))))
  component-deep number required =
      let e = deep_more defined c (component_then_lem number required closed) in
      let s = ap depth (one-component defined number required) in
      let l = larger-second o.depth (depth_of o.groups + depth (flat defined (component_then_lem number required closed))) in
      omega arith

  pub component-shallow : (number : ℕ) (required : Bool) → depth_of o.groups + depth (layout_of defined number) ≤ 4 → depth (flat defined (wrapped groups (continued level (component_then_lem number required closed)))) ≤ 4
  component-shallow number required h = shallow-more defined c (component_then_lem number required closed) (omega (arith, ap depth (one-component defined number required)))

  pub counted-component : (number : ℕ) (required : Bool) (count deep : ℕ) (held : Held) → count ≡ items (layout_of defined number) → deep
      ≡ depth (layout_of defined number) → NoEmptyGroup (layout_of defined number) → depth_of o.groups + deep ≤ 4 → o.items + count ≤ 1024 →
      Counted (grown o (o.items + count) (deeper o.depth (depth_of o.groups + deep)) held o.groups) defined (continued level
      (component_then_lem number required closed)) groups
  counted-component number required count deep held n d f h m =
      let whole = one-component defined number required in
      let same = ap depth whole in
      let number_of_lem = ap items whole in
      let deepest : depth_of o.groups + deep ≡ depth_of o.groups + depth (flat defined (component_then_lem number required closed)) = omega arith in
      counted-more defined c (component_then_lem number required closed) (o.items + count) (deeper o.depth (depth_of o.groups + deep)) held (rw whole f) (omega arith) (deeper-larger o.depth (depth_of o.groups + deep) ∙ ap (larger o.depth) deepest) m (omega arith)

  -- "group opens"
  pub group-whole : (tag : ℕ) (required : Bool) → items (flat defined (wrapped groups (continued level (group_then_lem tag required closed closed)))) ≡ o.items + 1
  group-whole tag required = whole-more defined c (group_then_lem tag required closed closed) ∙ ap (λ (n : ℕ). o.items + n) (one-group defined tag required).0

  pub group-deep : (tag : ℕ) (required : Bool) → depth (flat defined (wrapped groups (continued level (group_then_lem tag required closed closed)))) ≡ larger o.depth (depth_of o.groups + 1)
  group-deep tag required = deep_more defined c (group_then_lem tag required closed closed) ∙ ap (λ (n : ℕ). larger o.depth (depth_of o.groups + n)) (one-group defined tag required).1

  pub group-shallow : (tag : ℕ) (required : Bool) → depth_of o.groups + 1 ≤ 4 → depth (flat defined (wrapped groups (continued level (group_then_lem tag required closed closed)))) ≤ 4
  group-shallow tag required h = shallow-more defined c (group_then_lem tag required closed closed) (omega (arith, (one-group defined tag required).1))

  pub counted-group : (tag : ℕ) (required : Bool) (held : Held) → depth_of o.groups + 1 ≤ 4 → o.items + 1 ≤ 1024 →
      Counted (grown o (o.items + 1) (deeper o.depth (depth_of o.groups + 1)) held (opened (record { tag = tag; since = o.items + 1 })
      o.groups)) defined closed (record { before = level; tag = tag; required = required } ∷ groups)
  unfolding grown
  counted-group tag required held h m =
      let g : Group = record { tag = tag; since = o.items + 1 } in
      let l = listed-opened g o.groups h in
      let none = nothing-held defined in
      let nests = c.nests in
      record {
        nests = l.1 ∙ ap suc nests;
        counts = rw l.0 (counts_in {held = items (flat defined closed)} {g = record { before = level; tag = tag; required = required }} {counted = g} (items (flat defined level) + 1) refl (omega arith) (omega arith) (counts_grow defined 1 c.counts));
        deep = deeper-larger o.depth (depth_of o.groups + 1) ∙ sym (group-deep tag required) ∙ (unfold wrapped in refl);
        few = m;
        shallow = omega (arith, deeper-larger o.depth (depth_of o.groups + 1), larger-least o.depth (depth_of o.groups + 1) 4 c.shallow h);
        filled = unfold expanded flattened in none-at_end;
        before = before_more c.filled c.before;
      }
    where
      nothing-held : (defined : List Defined) → items (flat defined closed) ≡ 0
      nothing-held defined = unfold expanded flattened items in refl

-- what an open group was counted for
record CountedIn (defined : List Defined) (total held : ℕ) (g : OpenGroup) (groups : List OpenGroup) (counted : Group) (others : List Group) : Type 0 where
  around : ℕ
  tag : counted.tag ≡ g.tag
  since : counted.since + held ≡ total
  whole : around ≡ items (flat defined g.before) + (1 + held)
  counts : Counts defined total around groups others

counted_in : (defined : List Defined) {total held : ℕ} {g : OpenGroup} {groups : List OpenGroup} {all : List Group} (counted : Group) (others : List Group) → Counts defined total held (g ∷ groups) all → all ≡ counted ∷ others → CountedIn defined total held g groups counted others
counted_in defined {total} {held} {g} {groups} counted others (counts_in {counted = a} {others = bs} around t s e c) q =
    let same : a ≡ counted = cc in
    let rest : bs ≡ others = cc in
    record { around = around; tag = sym (ap (λ (x : Group). x.tag) same) ∙ t; since = rw same at s; whole = e; counts = rw rest at c }

before-first : (defined : List Defined) {g : OpenGroup} {groups : List OpenGroup} → FilledBefore defined (g ∷ groups) → NoEmptyGroup (flat defined g.before) × FilledBefore defined groups
before-first defined (before_more b f) = (b, f)

-- the innermost group closes
module _ (defined : List Defined) {o : Open} {level : Items} {g : OpenGroup} {groups : List OpenGroup} (c : Counted o defined level (g ∷ groups)) (counted : Group) (others : Groups) (lists : listed o.groups ≡ counted ∷ listed others) (nested : depth_of o.groups ≡ suc (depth_of others)) where
  abbrev inside : CountedIn defined o.items (items (flat defined level)) g groups counted (listed others)
  inside = counted_in defined counted (listed others) c.counts lists

  -- no item was counted since it opened: it is empty
  pub closes-empty : o.items ≡ counted.since → InnermostOpen counted.tag end (suc (length groups)) (flat defined (wrapped (g ∷ groups) level))
  unfolding wrapped
  closes-empty e =
      let since = inside.since in
      let none : flat defined level ≡ end = items-none (flat defined level) (omega arith) in
      let n : length groups + 1 ≡ suc (length groups) = omega arith in
      let here : flat defined (continued g.before (group_then_lem g.tag g.required level closed))
      ≡ followed_by (flat defined g.before) (group g.tag g.required end end) = flat_around defined g.before level g.tag g.required
      ∙ ap (λ (l : Layout). followed_by (flat defined g.before) (group g.tag g.required l end)) none in
      rw inside.tag (rw n at (innermost-wrapped defined groups g.tag end 1 (continued g.before (group_then_lem g.tag g.required level closed)) (rw here (innermost-here (flat defined g.before) g.required))))

  -- else it is not, and it is an item of the level around it
  pub counted-close : (o.items ≡ counted.since → ⊥) → Counted (grown o o.items o.depth o.held others) defined (continued g.before (group_then_lem g.tag g.required level closed)) groups
  unfolding grown
  counted-close some =
      let since = inside.since in
      let b = before-first defined c.before in
      let nests = c.nests in
      let held = items-continued defined g.before (group_then_lem g.tag g.required level closed) in
      let own = group-items g.tag g.required level in
      let held-around : inside.around ≡ items (flat defined (continued g.before (group_then_lem g.tag g.required level closed))) = omega (arith, inside.whole) in
      record {
        nests = omega arith;
        counts = subst (λ (n : ℕ). Counts defined o.items n groups (listed others)) held-around inside.counts;
        deep = c.deep ∙ (unfold wrapped in refl);
        few = c.few;
        shallow = c.shallow;
        filled = rw (flat_around defined g.before level g.tag g.required) (filled-followed b.0 (none_in_group (λ none. some (omega (arith, ap items none, no_items))) c.filled none-at_end));
        before = b.1;
      }
    where
      group-items : (tag : ℕ) (required : Bool) (inner : Items) → items (flat defined (group_then_lem tag required inner closed)) ≡ 1 + items (flat defined inner)
      group-items tag required inner = unfold expanded flattened items in omega arith

      no_items : items end ≡ 0
      no_items = unfold items in refl
