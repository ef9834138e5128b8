-- The laws of the index: what a look-up gives, and that it answers as the names do.
use Rattle.std.specs.Prelude.{◌≡◌, refl, Bool, true, false, List, ℕ, eqb, Some, None}
use Rattle.std.proofs.Common.{arith}
use borrow.Author.Tests.{eq-eqb, ne_eqb, eqb-true, eqb-false}
use Rattle.dictionary_chains.specs.Chain.{entry_at, found}
use Rattle.dictionary_chains.specs.declared.Table.TheVariants.{Tags, Components, MsgTypes}
use Rattle.dictionary_rules.specs.Index.{component_of, tag_at, looked_as, component_at, placed_as, message_at}

-- a key that is not answered has no entry, if an entry would be answered otherwise
unanswered : {A : Type 0} {looked none : A} (found : ℕ) → ((found ≡ 0 → ⊥) → looked ≡ none → ⊥) → looked ≡ none → found ≡ 0
unanswered found other e = go (eqb found 0) refl
  where
    go : (t : Bool) → eqb found 0 ≡ t → found ≡ 0
    go true q = eqb-true _ _ q
    go false q = absurd (other (eqb-false _ _ q) e)

module _ (index : List ℕ) (key : ℕ) where
  pub tag_unknown : found Tags index key ≡ 0 → tag_at index key ≡ false
  unfolding tag_at
  tag_unknown z = rw (eq-eqb (found Tags index key) 0 z)

  pub tag-known : (n : ℕ) → found Tags index key ≡ n → (n ≡ 0 → ⊥) → tag_at index key ≡ true
  unfolding tag_at
  tag-known n e z = rw (e, ne_eqb n 0 z)

  pub component_missing : found Components index key ≡ 0 → component_at index key ≡ None
  unfolding component_at looked_as
  component_missing z = rw (eq-eqb (found Components index key) 0 z)

  pub component-closed : (n : ℕ) → found Components index key ≡ n → (n ≡ 0 → ⊥) → component_at index key ≡ Some (component_of (entry_at index n))
  unfolding component_at looked_as
  component-closed n e z = rw (e, ne_eqb n 0 z)

  pub missing_new : component_at index key ≡ None → found Components index key ≡ 0
  missing_new = unanswered (found Components index key) (λ some e. let other = component-closed (found Components index key) refl some in
      let z : ◌≡◌ {A = ℕ} 0 1 = cc in omega arith)

  pub message-nowhere : found MsgTypes index key ≡ 0 → message_at index key ≡ None
  unfolding message_at placed_as
  message-nowhere z = rw (eq-eqb (found MsgTypes index key) 0 z)

  pub message-placed : (n : ℕ) → found MsgTypes index key ≡ n → (n ≡ 0 → ⊥) → message_at index key ≡ Some (entry_at index n).place
  unfolding message_at placed_as
  message-placed n e z = rw (e, ne_eqb n 0 z)

  pub nowhere-new : message_at index key ≡ None → found MsgTypes index key ≡ 0
  nowhere-new = unanswered (found MsgTypes index key) (λ some e. let other = message-placed (found MsgTypes index key) refl some in
      let z : ◌≡◌ {A = ℕ} 0 1 = cc in omega arith)
