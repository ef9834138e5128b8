-- What is open while records are read: the items of the innermost level so far, and the groups around it, the innermost first. What the
-- records still say of each level is joined to it; closed off, its items, its depth and its groups are those of what was read.
use Rattle.std.specs.Prelude.{◌≡◌, Bool, replicate}
use Rattle.std.proofs.Math.Path.{refl, sym, ap, subst}
use Rattle.std.proofs.Common.{◌∙◌}
use mathlib.Core.List.{List, [], ◌∷◌}
use Prim.Native.Nat.{ℕ, suc, ◌+◌, ◌-◌, ◌≤◌}
use native.Mathlib.Omega.{arith}
use Rattle.std.proofs.Math.ListN.{length}
use Rattle.dictionary_layout_rules.specs.Layout.{Layout, end, field, group, followed_by, items, larger, depth}
use Rattle.dictionary_layout_rules.specs.Tree.{flattened}
use Rattle.dictionary_layout_rules.specs.Measures.{NoEmptyGroup, FilledSoFar, filled_around, InnermostOpen, innermost-within}
use Rattle.dictionary_layout_rules.proofs.MeasuresLaws.{larger-first, larger-second, larger-least, depth-followed}
use Rattle.dictionary_rules.specs.declared.Group.{Group}
use Rattle.dictionary_meaning_rules.specs.Meaning.{Items, closed, field_then_lem, component_then_lem, group_then_lem, Defined, expanded}
use Rattle.dictionary_meaning_rules.proofs.Written.{items-followed}
use Rattle.dictionary_meaning_rules.proofs.Layable.{layout_of, flat}

-- a group that is open, with what stands before it in the level around it
pub record OpenGroup : Type 0 where
  pub before : Items
  pub tag : ℕ
  pub required : Bool

-- items and then more of the same level
unfoldable pub continued : Items → Items → Items
continued closed more = more
continued (field_then_lem tag required rest) more = field_then_lem tag required (continued rest more)
continued (component_then_lem number required rest) more = component_then_lem number required (continued rest more)
continued (group_then_lem tag required inner rest) more = group_then_lem tag required inner (continued rest more)

-- the innermost of some levels, and those below it
unfoldable pub innermost : List Items → Items
innermost [] = closed
innermost (items ∷ levels) = items

unfoldable pub below : List Items → List Items
below [] = []
below (items ∷ levels) = levels

-- what is open, with the levels that the records to come still hold
unfoldable pub joined : Items → List OpenGroup → List Items → Items
joined level [] levels = continued level (innermost levels)
joined level (g ∷ groups) levels =
    joined g.before groups (group_then_lem g.tag g.required (continued level (innermost levels)) (innermost (below levels)) ∷ below (below levels))

-- and closed off
unfoldable pub wrapped : List OpenGroup → Items → Items
wrapped [] level = level
wrapped (g ∷ groups) level = wrapped groups (continued g.before (group_then_lem g.tag g.required level closed))

pub continued-closed : (a : Items) → continued a closed ≡ a
unfolding continued
continued-closed closed = refl
continued-closed (field_then_lem tag required rest) = rw (continued-closed rest)
continued-closed (component_then_lem number required rest) = rw (continued-closed rest)
continued-closed (group_then_lem tag required inner rest) = rw (continued-closed rest)

continued-more : (a b c : Items) → continued (continued a b) c ≡ continued a (continued b c)
unfolding continued
continued-more closed b c = refl
continued-more (field_then_lem tag required rest) b c = ap (field_then_lem tag required) (continued-more rest b c)
continued-more (component_then_lem number required rest) b c = ap (component_then_lem number required) (continued-more rest b c)
continued-more (group_then_lem tag required inner rest) b c = ap (group_then_lem tag required inner) (continued-more rest b c)

-- an item that was read is one less to come
pub joined-more : (level more next : Items) (groups : List OpenGroup) (levels : List Items) → joined (continued level more) groups (next ∷ levels) ≡ joined level groups (continued more next ∷ levels)
unfolding joined innermost below
joined-more level more next [] levels = continued-more level more next
joined-more level more next (g ∷ groups) levels =
    ap (λ (x : Items). joined g.before groups (group_then_lem g.tag g.required x (innermost levels) ∷ below levels)) (continued-more level more next)

-- a group that closes is an item of the level around it
pub joined-close : (level next : Items) (g : OpenGroup) (groups : List OpenGroup) (levels : List Items) → joined level (g ∷ groups) (closed ∷ next ∷ levels) ≡ joined (continued g.before (group_then_lem g.tag g.required level closed)) groups (next ∷ levels)
unfolding joined innermost below continued
joined-close level next g groups levels =
    ap (λ (x : Items). joined g.before groups (group_then_lem g.tag g.required x next ∷ levels)) (continued-closed level)
    ∙ sym (joined-more g.before (group_then_lem g.tag g.required level closed) next groups levels)

joined-last : (level more : Items) (groups : List OpenGroup) →
    joined level groups (more ∷ replicate (length groups) closed) ≡ wrapped groups (continued level more)
unfolding joined wrapped innermost below
joined-last level more [] = refl
joined-last level more (g ∷ groups) = joined-last g.before (group_then_lem g.tag g.required (continued level more) closed) groups

pub joined-closes : (level : Items) (groups : List OpenGroup) → joined level groups (replicate (suc (length groups)) closed) ≡ wrapped groups level
joined-closes level groups = joined-last level closed groups ∙ ap (wrapped groups) (continued-closed level)

followed-more : (a b c : Layout) → followed_by (followed_by a b) c ≡ followed_by a (followed_by b c)
unfolding followed_by
followed-more end b c = refl
followed-more (field tag required rest) b c = ap (field tag required) (followed-more rest b c)
followed-more (group tag required inner rest) b c = ap (group tag required inner) (followed-more rest b c)

-- of the larger of two numbers under a group
larger-within : (b m n : ℕ) → larger b (larger (1 + larger m n) 0) ≡ larger (larger b (larger (1 + m) 0)) (1 + n)
larger-within b m n =
    let whole : ℕ = larger b (larger (1 + larger m n) 0) in
    let parts : ℕ = larger (larger b (larger (1 + m) 0)) (1 + n) in
    let a₁ = larger-first b (larger (1 + larger m n) 0) in let a₂ = larger-second b (larger (1 + larger m n) 0) in
    let b₁ = larger-first (1 + larger m n) 0 in
    let c₁ = larger-first m n in let c₂ = larger-second m n in
    let d₁ = larger-first (larger b (larger (1 + m) 0)) (1 + n) in let d₂ = larger-second (larger b (larger (1 + m) 0)) (1 + n) in
    let e₁ = larger-first b (larger (1 + m) 0) in let e₂ = larger-second b (larger (1 + m) 0) in
    let f₁ = larger-first (1 + m) 0 in
    let inner : larger m n + 1 ≤ parts = inside (larger m n) parts (larger-least m n (parts - 1) (omega arith) (omega arith)) (omega arith) in
    let over : whole ≤ parts = larger-least b (larger (1 + larger m n) 0) parts (omega arith) (larger-least (1 + larger m n) 0 parts (omega arith) (omega arith)) in
    let under : parts ≤ whole = larger-least (larger b (larger (1 + m) 0)) (1 + n) whole (larger-least b (larger (1 + m) 0) whole (omega arith) (larger-least (1 + m) 0 whole (omega arith) (omega arith))) (omega arith) in
    omega arith
  where
    inside : (x p : ℕ) → x ≤ p - 1 → 1 ≤ p → x + 1 ≤ p
    inside x p h k = omega arith

module _ (defined : List Defined) where
  pub flat-continued : (a b : Items) → flat defined (continued a b) ≡ followed_by (flat defined a) (flat defined b)
  unfolding continued expanded flattened followed_by
  flat-continued closed b = refl
  flat-continued (field_then_lem tag required rest) b = ap (field tag required) (flat-continued rest b)
  flat-continued (component_then_lem number required rest) b =
      ap (followed_by (layout_of defined number)) (flat-continued rest b) ∙ sym (followed-more (layout_of defined number) (flat defined rest) (flat defined b))
  flat-continued (group_then_lem tag required inner rest) b = ap (group tag required (flat defined inner)) (flat-continued rest b)

  -- an open group stands last in the level around it
  pub flat_around : (before inner : Items) (tag : ℕ) (required : Bool) → flat defined (continued before (group_then_lem tag required inner closed)) ≡ followed_by (flat defined before) (group tag required (flat defined inner) end)
  unfolding expanded flattened
  flat_around before inner tag required = flat-continued before (group_then_lem tag required inner closed)

  pub items-continued : (a b : Items) → items (flat defined (continued a b)) ≡ items (flat defined a) + items (flat defined b)
  items-continued a b = ap items (flat-continued a b) ∙ items-followed (flat defined a) (flat defined b)

  depth-continued : (a b : Items) → depth (flat defined (continued a b)) ≡ larger (depth (flat defined a)) (depth (flat defined b))
  depth-continued a b = ap depth (flat-continued a b) ∙ depth-followed (flat defined a) (flat defined b)

  -- how deep the whole is where the innermost level is so deep
  unfoldable deepened : List OpenGroup → ℕ → ℕ
  deepened [] n = n
  deepened (g ∷ groups) n = deepened groups (larger (depth (flat defined g.before)) (larger (1 + n) 0))

  depth-group : (tag : ℕ) (required : Bool) (inner : Items) → depth (flat defined (group_then_lem tag required inner closed)) ≡ larger (1 + depth (flat defined inner)) 0
  unfolding expanded flattened depth
  depth-group tag required inner = refl

  depth-wrapped : (groups : List OpenGroup) (level : Items) → depth (flat defined (wrapped groups level)) ≡ deepened groups (depth (flat defined level))
  unfolding wrapped deepened
  depth-wrapped [] level = refl
  depth-wrapped (g ∷ groups) level =
      depth-wrapped groups (continued g.before (group_then_lem g.tag g.required level closed))
      ∙ ap (deepened groups) (depth-continued g.before (group_then_lem g.tag g.required level closed) ∙ ap (larger (depth (flat defined g.before))) (depth-group g.tag g.required level))

  deepened-larger : (groups : List OpenGroup) (m n : ℕ) → deepened groups (larger m n) ≡ larger (deepened groups m) (length groups + n)
  unfolding deepened
  deepened-larger [] m n = ap (larger m) (omega arith)
  deepened-larger (g ∷ groups) m n =
      ap (deepened groups) (larger-within (depth (flat defined g.before)) m n)
      ∙ deepened-larger groups (larger (depth (flat defined g.before)) (larger (1 + m) 0)) (1 + n)
      ∙ ap (larger (deepened groups (larger (depth (flat defined g.before)) (larger (1 + m) 0)))) (omega arith)

  deepened_above : (groups : List OpenGroup) (n : ℕ) → length groups + n ≤ deepened groups n
  unfolding deepened
  deepened_above [] n = omega arith
  deepened_above (g ∷ groups) n =
      let b : ℕ = depth (flat defined g.before) in
      let h = deepened_above groups (larger b (larger (1 + n) 0)) in
      let k = larger-second b (larger (1 + n) 0) in
      let l = larger-first (1 + n) 0 in
      omega arith

  -- more items in the innermost level make the whole as deep as they lie
  pub depth-more : (groups : List OpenGroup) (level more : Items) → depth (flat defined (wrapped groups (continued level more))) ≡ larger (depth (flat defined (wrapped groups level))) (length groups + depth (flat defined more))
  depth-more groups level more =
      depth-wrapped groups (continued level more)
      ∙ ap (deepened groups) (depth-continued level more)
      ∙ deepened-larger groups (depth (flat defined level)) (depth (flat defined more))
      ∙ ap (λ (n : ℕ). larger n (length groups + depth (flat defined more))) (sym (depth-wrapped groups level))

  pub depth_above : (groups : List OpenGroup) (level : Items) → length groups ≤ depth (flat defined (wrapped groups level))
  depth_above groups level = omega (arith, deepened_above groups (depth (flat defined level)), depth-wrapped groups level)

  -- The check counts the items of the whole, and keeps for each open group what the count was when it opened: between lies what it holds.
  -- `held` is what the innermost level holds.
  pub data Counts (total : ℕ) : ℕ → List OpenGroup → List Group → Type 0 where
    counts-own : {held : ℕ} → held ≡ total → Counts total held [] []
    counts_in : {held : ℕ} {g : OpenGroup} {groups : List OpenGroup} {counted : Group} {others : List Group} (around : ℕ) → counted.tag ≡ g.tag → counted.since + held ≡ total → around ≡ items (flat defined g.before) + (1 + held) → Counts total around groups others → Counts total held (g ∷ groups) (counted ∷ others)

  pub counts_grow : {total held : ℕ} {groups : List OpenGroup} {counted : List Group} (more : ℕ) → Counts total held groups counted → Counts (total + more) (held + more) groups counted
  counts_grow more (counts-own e) = counts-own (ap (λ (n : ℕ). n + more) e)
  counts_grow {held} more (counts_in {g} {counted} around t s e c) =
      counts_in {held = held + more} {g = g} {counted = counted} (around + more) t (omega arith) (omega arith) (counts_grow more c)

  pub counts_whole : {total held : ℕ} {groups : List OpenGroup} {counted : List Group} → Counts total held groups counted → (level : Items) → items (flat defined level) ≡ held → items (flat defined (wrapped groups level)) ≡ total
  unfolding wrapped
  counts_whole (counts-own e) level h = h ∙ e
  counts_whole (counts_in {g} around t s e c) level h =
      counts_whole c (continued g.before (group_then_lem g.tag g.required level closed)) (items-continued g.before (group_then_lem g.tag g.required level closed) ∙ omega (arith, one-group g.tag g.required level))
    where
      one-group : (tag : ℕ) (required : Bool) (inner : Items) → items (flat defined (group_then_lem tag required inner closed)) ≡ 1 + items (flat defined inner)
      one-group tag required inner = unfold expanded flattened items in omega arith

  -- no group is empty before an open one
  pub data FilledBefore : List OpenGroup → Type 0 where
    before-none : FilledBefore []
    before_more : {g : OpenGroup} {groups : List OpenGroup} → NoEmptyGroup (flat defined g.before) → FilledBefore groups → FilledBefore (g ∷ groups)

  pub filled-wrapped : {groups : List OpenGroup} → FilledBefore groups → (within : ℕ) (level : Items) → FilledSoFar within (flat defined level) → FilledSoFar (length groups + within) (flat defined (wrapped groups level))
  unfolding wrapped
  filled-wrapped before-none within level f = subst (λ (n : ℕ). FilledSoFar n (flat defined level)) (omega arith) f
  filled-wrapped (before_more {g} {groups} b more) within level f =
      let n : length groups + suc within ≡ suc (length groups) + within = omega arith in
      subst (λ (k : ℕ). FilledSoFar k (flat defined (wrapped groups (continued g.before (group_then_lem g.tag g.required level closed))))) n
      (filled-wrapped more (suc within) (continued g.before (group_then_lem g.tag g.required level closed))
      (rw (flat_around g.before level g.tag g.required) (filled_around (flat defined g.before) g.tag g.required b f)))

  pub innermost-wrapped : (groups : List OpenGroup) (tag : ℕ) (inner : Layout) (within : ℕ) (level : Items) → InnermostOpen tag inner within (flat defined level) → InnermostOpen tag inner (length groups + within) (flat defined (wrapped groups level))
  unfolding wrapped
  innermost-wrapped [] tag inner within level i = subst (λ (n : ℕ). InnermostOpen tag inner n (flat defined level)) (omega arith) i
  innermost-wrapped (g ∷ groups) tag inner within level i =
      let n : length groups + suc within ≡ suc (length groups) + within = omega arith in
      subst (λ (k : ℕ). InnermostOpen tag inner k (flat defined (wrapped groups (continued g.before (group_then_lem g.tag g.required level closed))))) n
      (innermost-wrapped groups tag inner (suc within) (continued g.before (group_then_lem g.tag g.required level closed))
      (rw (flat_around g.before level g.tag g.required) (innermost-within (flat defined g.before) g.tag g.required i)))
