-- Laws of what specs/Measures.antt defines.
use Rattle.std.specs.Prelude.{◌≡◌, Bool, ℕ, suc, ◌+◌, ◌≤◌}
use Rattle.std.proofs.Math.Path.{refl}
use Rattle.std.proofs.Common.{sym, ap, ◌∙◌, subst}
use Rattle.std.proofs.Math.Bool.{true, false}
use native.Mathlib.Omega.{arith}
use Rattle.std.proofs.Math.Dec.{leb}
use borrow.Author.Tests.{leb-true, leb-false}
use Rattle.field_rules.specs.Choice.{pick}
use Rattle.dictionary_layout_rules.specs.Layout.{Layout, end, field, group, followed_by, larger, depth}
use Rattle.dictionary_layout_rules.specs.Measures.{Bounded, BoundedSoFar, FilledSoFar, InnermostOpen, NoEmptyGroup, filled, filled_around, innermost, innermost-within, none-after-field, none-at_end, none_in_group}

-- the larger of two numbers, as a least bound
module _ (m n : ℕ) where
  pub larger-first : m ≤ larger m n
  unfolding larger
  larger-first = go (leb m n) refl
    where
      go : (t : Bool) → leb m n ≡ t → m ≤ pick t n m
      go true e = leb-true _ _ e
      go false e = omega arith

  pub larger-second : n ≤ larger m n
  unfolding larger
  larger-second = go (leb m n) refl
    where
      go : (t : Bool) → leb m n ≡ t → n ≤ pick t n m
      go true e = omega arith
      go false e = let h = leb-false m n e in omega arith

  pub larger-least : (bound : ℕ) → m ≤ bound → n ≤ bound → larger m n ≤ bound
  unfolding larger
  larger-least bound a b = go (leb m n)
    where
      go : (t : Bool) → pick t n m ≤ bound
      go true = b
      go false = a

-- what follows doesn't lie within
pub depth-followed : (a b : Layout) → depth (followed_by a b) ≡ larger (depth a) (depth b)
unfolding depth followed_by
depth-followed end b =
    let up = larger-second 0 (depth b) in
    let down = larger-least 0 (depth b) (depth b) (omega arith) (omega arith) in
    omega arith
depth-followed (field tag required rest) b = depth-followed rest b
depth-followed (group tag required inner rest) b =
    ap (larger (1 + depth inner)) (depth-followed rest b) ∙ larger-group (1 + depth inner) (depth rest) (depth b)
  where
    larger-group : (x y z : ℕ) → larger x (larger y z) ≡ larger (larger x y) z
    larger-group x y z =
        let a = larger-first x (larger y z) in let b = larger-second x (larger y z) in
        let c = larger-first y z in let d = larger-second y z in
        let e = larger-first x y in let f = larger-second x y in
        let g = larger-first (larger x y) z in let h = larger-second (larger x y) z in
        let over = larger-least x (larger y z) (larger (larger x y) z) (omega arith) (larger-least y z (larger (larger x y) z) (omega arith) (omega arith)) in
        let under = larger-least (larger x y) z (larger x (larger y z)) (larger-least x y (larger x (larger y z)) (omega arith) (omega arith)) (omega arith) in
        omega arith

pub filled-followed : {a b : Layout} → NoEmptyGroup a → NoEmptyGroup b → NoEmptyGroup (followed_by a b)
unfolding followed_by
filled-followed none-at_end n = n
filled-followed (none-after-field m) n = none-after-field (filled-followed m n)
filled-followed (none_in_group some inner m) n = none_in_group some inner (filled-followed m n)

pub filled-after : (a : Layout) {b : Layout} → NoEmptyGroup (followed_by a b) → NoEmptyGroup b
unfolding followed_by
filled-after end n = n
filled-after (field tag required rest) (none-after-field n) = filled-after rest n
filled-after (group tag required inner rest) (none_in_group some m n) = filled-after rest n

pub bounded_closed : {layout : Layout} → Bounded layout → BoundedSoFar 0 layout
bounded_closed b = record { shallow = b.shallow; few = b.few; filled = filled b.filled }

-- an open group stands last, so it is found in one way
followed-some : (a : Layout) (tag : ℕ) (required : Bool) (inner : Layout) → followed_by a (group tag required inner end) ≡ end → ⊥
unfolding followed_by
followed-some end tag required inner e = let z : ◌≡◌ {A = ℕ} 0 1 = cc in omega arith
followed-some (field t r rest) tag required inner e = let z : ◌≡◌ {A = ℕ} 0 1 = cc in omega arith
followed-some (group t r i rest) tag required inner e = let z : ◌≡◌ {A = ℕ} 0 1 = cc in omega arith

last_group : (a b : Layout) (t u : ℕ) (r q : Bool) (i j : Layout) → followed_by a (group t r i end) ≡ followed_by b (group u q j end) → i ≡ j
unfolding followed_by
last_group end end t u r q i j e = cc
last_group end (field t₁ r₁ rest) t u r q i j e = let z : ◌≡◌ {A = ℕ} 0 1 = cc in absurd (omega arith)
last_group end (group t₁ r₁ i₁ rest) t u r q i j e = let none : followed_by rest (group u q j end) ≡ end = cc in absurd (followed-some rest u q j none)
last_group (field t₁ r₁ rest) end t u r q i j e = let z : ◌≡◌ {A = ℕ} 0 1 = cc in absurd (omega arith)
last_group (field t₁ r₁ rest) (field t₂ r₂ rest₂) t u r q i j e = let more : followed_by rest (group t r i end) ≡ followed_by rest₂ (group u q j end) = cc in last_group rest rest₂ t u r q i j more
last_group (field t₁ r₁ rest) (group t₂ r₂ i₂ rest₂) t u r q i j e = let z : ◌≡◌ {A = ℕ} 0 1 = cc in absurd (omega arith)
last_group (group t₁ r₁ i₁ rest) end t u r q i j e = let none : followed_by rest (group t r i end) ≡ end = cc in absurd (followed-some rest t r i none)
last_group (group t₁ r₁ i₁ rest) (field t₂ r₂ rest₂) t u r q i j e = let z : ◌≡◌ {A = ℕ} 0 1 = cc in absurd (omega arith)
last_group (group t₁ r₁ i₁ rest) (group t₂ r₂ i₂ rest₂) t u r q i j e = let more : followed_by rest (group t r i end) ≡ followed_by rest₂ (group u q j end) = cc in last_group rest rest₂ t u r q i j more

empty-last : (before : Layout) (tag : ℕ) (required : Bool) → NoEmptyGroup (followed_by before (group tag required end end)) → ⊥
unfolding followed_by
empty-last end tag required (none_in_group some inner more) = some refl
empty-last (field t r rest) tag required (none-after-field more) = empty-last rest tag required more
empty-last (group t r i rest) tag required (none_in_group some inner more) = empty-last rest tag required more

pub some_open : {tag : ℕ} {inner : Layout} {groups : ℕ} {layout : Layout} → InnermostOpen tag inner groups layout → 1 ≤ groups
some_open (innermost before required) = omega arith
some_open (innermost-within before other required i) = omega (arith, some_open i)

-- an innermost group that is empty may not close
empty-closed : {tag groups fewer : ℕ} {layout same : Layout} → InnermostOpen tag end groups layout → FilledSoFar fewer same → layout ≡ same → groups ≡ suc fewer → ⊥
empty-closed {tag} (innermost before required) (filled f) e n = empty-last before tag required (subst (λ (l : Layout). NoEmptyGroup l) (sym e) f)
empty-closed (innermost before required) (filled_around around other mark b f) e n = omega arith
empty-closed (innermost-within before other required i) (filled f) e n = omega (arith, some_open i)
empty-closed (innermost-within {groups} {around} before other required i) (filled_around {groups = k} {inner} before₁ other₁ required₁ b f) e n =
    empty-closed i f (last_group before before₁ other other₁ required required₁ around inner e) (omega arith)

pub empty-breaks : {tag groups : ℕ} {layout : Layout} → InnermostOpen tag end (suc groups) layout → FilledSoFar groups layout → ⊥
empty-breaks i f = empty-closed i f refl refl
