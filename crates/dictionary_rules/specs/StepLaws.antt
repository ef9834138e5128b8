-- The laws of a step: one for each way that a record can go inside something open.
use Rattle.std.specs.Prelude.{◌≡◌, Bool, ◌⊎◌, List, ℕ, ◌+◌, ◌≤◌, ◌<◌, Some, None, Ok, Err}
use Rattle.std.proofs.Math.Path.{refl}
use Rattle.std.proofs.Common.{ap}
use Rattle.std.proofs.Math.Bool.{true, false}
use Rattle.std.proofs.Math.Logic.{inl, inr}
use native.Mathlib.Omega.{arith}
use Rattle.std.proofs.Math.Dec.{ltb}
use borrow.Author.Tests.{ltb-true, ltb-false, lt-ltb, le-ltb}
use Rattle.field_rules.specs.Choice.{pick}
use Rattle.dictionary_rules.specs.Step.{depth_of, opened, deeper, grown, held_with, inside, closed_before, known_before, not_too_deep, not_too_many, on_field, on_item, on_group, on_close, closes_owner, closes_group, closes_innermost}
use Rattle.dictionary_rules.specs.Index.{tag_at, component_at, message_at, looks_at}
use Rattle.dictionary_rules.specs.declared.Checked.TheVariants.{NoComponent, UnknownTag, TooDeep, TooManyItems}
use Rattle.dictionary_rules.specs.declared.Component.{Component}
use Rattle.dictionary_rules.specs.declared.Group.{Group}
use Rattle.dictionary_rules.specs.declared.Groups.{Groups}
use Rattle.dictionary_rules.specs.declared.Groups.TheVariants.{NoGroup, OneGroup, TwoGroups, ThreeGroups, FourGroups}
use Rattle.dictionary_rules.specs.declared.Held.TheVariants.{Several}
use Rattle.dictionary_rules.specs.declared.Open.{Open}
use Rattle.dictionary_rules.specs.declared.State.{State}
use Rattle.dictionary_rules.specs.declared.State.TheVariants.{Inside}
use Rattle.dictionary_rules.specs.declared.Note.TheVariants.{Unchanged}
use Rattle.dictionary_rules.specs.Names.{Looks}

-- no more than four groups are open
pub depth_small : (groups : Groups) → depth_of groups ≤ 4
unfolding depth_of
depth_small NoGroup = omega arith
depth_small (OneGroup a) = omega arith
depth_small (TwoGroups a b) = omega arith
depth_small (ThreeGroups a b c) = omega arith
depth_small (FourGroups a b c d) = omega arith

-- of two depths the greater: no less than either, and one of them
module _ (a b : ℕ) where
  pub first_no_deeper : a ≤ deeper a b
  unfolding deeper
  first_no_deeper = go (ltb a b) refl
    where
      go : (t : Bool) → ltb a b ≡ t → a ≤ pick t b a
      go true e = let h = ltb-true a b e in omega arith
      go false e = omega arith

  pub second_no_deeper : b ≤ deeper a b
  unfolding deeper
  second_no_deeper = go (ltb a b) refl
    where
      go : (t : Bool) → ltb a b ≡ t → b ≤ pick t b a
      go true e = omega arith
      go false e = ltb-false a b e

  pub deeper_either : (deeper a b ≡ a) ⊎ (deeper a b ≡ b)
  unfolding deeper
  deeper_either = go (ltb a b)
    where
      go : (t : Bool) → (pick t b a ≡ a) ⊎ (pick t b a ≡ b)
      go true = inr refl
      go false = inl refl

-- what the index answers
pub looks_known : (index : List ℕ) (tag : ℕ) → (looks_at index).known tag ≡ tag_at index tag
unfolding looks_at
looks_known index tag = refl

pub looks_component : (index : List ℕ) (number : ℕ) → (looks_at index).component number ≡ component_at index number
unfolding looks_at
looks_component index number = refl

pub looks_message : (index : List ℕ) (msg_type : ℕ) → (looks_at index).message msg_type ≡ message_at index msg_type
unfolding looks_at
looks_message index msg_type = refl

module _ (looks : Looks) (state : State) (o : Open) (here : state ≡ Inside o) (place tag : ℕ) where
  pub field_unknown : looks.known tag ≡ false → on_field looks state place tag ≡ Err (UnknownTag tag)
  unfolding on_field inside known_before
  field_unknown k = rw (here, k)

  pub field-many : looks.known tag ≡ true → 1024 < o.items + 1 → on_field looks state place tag ≡ Err (TooManyItems place)
  unfolding on_field inside known_before not_too_many
  field-many k m = rw (here, k, lt-ltb 1024 (o.items + 1) m)

  pub field-goes : looks.known tag ≡ true → o.items + 1 ≤ 1024 → on_field looks state place tag ≡ Ok ((Inside (grown o (o.items + 1) o.depth Several o.groups)), Unchanged)
  unfolding on_field inside known_before not_too_many
  field-goes k m = rw (here, k, le-ltb 1024 (o.items + 1) m)

  pub group_unknown : looks.known tag ≡ false → on_group looks state place tag ≡ Err (UnknownTag tag)
  unfolding on_group inside known_before
  group_unknown k = rw (here, k)

  pub group-deep : looks.known tag ≡ true → 4 < depth_of o.groups + 1 → on_group looks state place tag ≡ Err (TooDeep place)
  unfolding on_group inside known_before not_too_deep
  group-deep k d = rw (here, k, lt-ltb 4 (depth_of o.groups + 1) d)

  pub group-many : looks.known tag ≡ true → depth_of o.groups + 1 ≤ 4 → 1024 < o.items + 1 → on_group looks state place tag ≡ Err (TooManyItems place)
  unfolding on_group inside known_before not_too_deep not_too_many
  group-many k d m = rw (here, k, le-ltb 4 (depth_of o.groups + 1) d, lt-ltb 1024 (o.items + 1) m)

  pub group-goes : looks.known tag ≡ true → depth_of o.groups + 1 ≤ 4 → o.items + 1 ≤ 1024 → on_group looks state place tag ≡ Ok ((Inside (grown o (o.items + 1) (deeper o.depth (depth_of o.groups + 1)) Several (opened (record { tag = tag; since = o.items + 1 }) o.groups))), Unchanged)
  unfolding on_group inside known_before not_too_deep not_too_many
  group-goes k d m = rw (here, k, le-ltb 4 (depth_of o.groups + 1) d, le-ltb 1024 (o.items + 1) m)

module _ (looks : Looks) (state : State) (o : Open) (here : state ≡ Inside o) (place number : ℕ) where
  pub item_missing : looks.component number ≡ None → on_item looks state place number ≡ Err (NoComponent number)
  unfolding on_item inside closed_before
  item_missing k = rw (here, k)

  pub item-deep : (c : Component) → looks.component number ≡ Some c → 4 < depth_of o.groups + c.depth → on_item looks state place number ≡ Err (TooDeep place)
  unfolding on_item inside closed_before not_too_deep
  item-deep c k d = rw (here, k, lt-ltb 4 (depth_of o.groups + c.depth) d)

  pub item-many : (c : Component) → looks.component number ≡ Some c → depth_of o.groups + c.depth ≤ 4 → 1024 < o.items + c.items → on_item looks state place number ≡ Err (TooManyItems place)
  unfolding on_item inside closed_before not_too_deep not_too_many
  item-many c k d m = rw (here, k, le-ltb 4 (depth_of o.groups + c.depth) d, lt-ltb 1024 (o.items + c.items) m)

  pub item-goes : (c : Component) → looks.component number ≡ Some c → depth_of o.groups + c.depth ≤ 4 → o.items + c.items ≤ 1024 → on_item looks state place number ≡ Ok ((Inside (grown o (o.items + c.items) (deeper o.depth (depth_of o.groups + c.depth)) (held_with o.held c) o.groups)), Unchanged)
  unfolding on_item inside closed_before not_too_deep not_too_many
  item-goes c k d m = rw (here, k, le-ltb 4 (depth_of o.groups + c.depth) d, le-ltb 1024 (o.items + c.items) m)

module _ (state : State) (o : Open) (here : state ≡ Inside o) (place : ℕ) where
  close-innermost : (groups : Groups) → o.groups ≡ groups → on_close state place ≡ closes_innermost o groups
  unfolding on_close inside
  close-innermost groups e = rw here (ap (λ (g : Groups). closes_innermost o g) e)

  pub close-none : o.groups ≡ NoGroup → on_close state place ≡ closes_owner o o.owner
  unfolding closes_innermost
  close-none e = close-innermost NoGroup e

  pub close-one : (a : Group) → o.groups ≡ OneGroup a → on_close state place ≡ closes_group o a NoGroup
  unfolding closes_innermost
  close-one a e = close-innermost (OneGroup a) e

  pub close-two : (a b : Group) → o.groups ≡ TwoGroups a b → on_close state place ≡ closes_group o a (OneGroup b)
  unfolding closes_innermost
  close-two a b e = close-innermost (TwoGroups a b) e

  pub close_three : (a b c : Group) → o.groups ≡ ThreeGroups a b c → on_close state place ≡ closes_group o a (TwoGroups b c)
  unfolding closes_innermost
  close_three a b c e = close-innermost (ThreeGroups a b c) e

  pub close-four : (a b c d : Group) → o.groups ≡ FourGroups a b c d → on_close state place ≡ closes_group o a (ThreeGroups b c d)
  unfolding closes_innermost
  close-four a b c d e = close-innermost (FourGroups a b c d) e
