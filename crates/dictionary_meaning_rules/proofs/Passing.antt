-- A dictionary that passes the check: every component is laid as what it means, and so is every message. Components are taken in the
-- order in which they close, so what a component names is known before it.
use Rattle.std.specs.Prelude.{◌≡◌, refl, Bool, true, false, List, [], ◌∷◌, ℕ, ◌+◌, ◌≤◌, eqb, length}
use Rattle.std.proofs.Common.{sym, ◌∙◌, arith, eqb-true, Option, Some}
use Rattle.std.proofs.Math.Path.{ap}
use Rattle.std.proofs.lemmas.Bool.{eqb-false}
use Rattle.dictionary_layout_rules.specs.Layout.{end, items}
use Rattle.dictionary_layout_rules.specs.Tree.{Nodes, flattened}
use Rattle.dictionary_layout_rules.specs.Measures.{NoEmptyGroup, none-after-field, none_in_group}
use Rattle.dictionary_layout_rules.proofs.MeasuresLaws.{filled-after}
use Rattle.dictionary_rules.specs.Records.{Records, records_from}
use Rattle.dictionary_rules.specs.Step.{opens, stands_for, depth_of}
use Rattle.dictionary_rules.specs.Names.{Names}
use Rattle.dictionary_rules.specs.declared.Component.{Component}
use Rattle.dictionary_rules.specs.declared.Held.{Held}
use Rattle.dictionary_rules.specs.declared.Held.TheVariants.{Empty, Only, Several}
use Rattle.dictionary_rules.specs.declared.Owner.{Owner}
use Rattle.dictionary_rules.specs.declared.Open.{Open}
use Rattle.dictionary_meaning_rules.specs.Laying.{behind_opening, stands_at}
use Rattle.dictionary_meaning_rules.proofs.LayingLaws.{stands-empty, stands-behind, stands_somewhere}
use Rattle.dictionary_meaning_rules.specs.Meaning.{Items, Defined, nodes_of, expanded}
use Rattle.dictionary_meaning_rules.proofs.Layable.{Reads, layout_of, flat, Lays, lays_nothing, lays_items, AllLay, all-close, all-field, all-component, all-group, level_layable}
use Rattle.dictionary_meaning_rules.proofs.Bodies.{Holds, reads_hold}
use Rattle.dictionary_meaning_rules.proofs.Counted.{Agrees, agrees_close, agrees_field, agrees_component, agrees_group, count_of, held_from, items-none, items-some, Single, empty-none, only_one, room_proper}
use Rattle.dictionary_meaning_rules.proofs.Inside.{look_in, Resolved, resolved_close, resolved_field, resolved_component, resolved_group, AllResolved, none_resolved, one_resolved, ReadsAll, no_level, one_level, count_all, held_all, Closing}

-- what nodes mean stands at a place
pub record OwnItems (bytes : List ℕ) (at : ℕ) (nodes : Nodes) : Type 0 where
  pub level : Items
  pub after : ℕ
  pub before : List Defined
  pub reads : Reads bytes at level after
  pub same : nodes ≡ expanded before level

-- what is known of a closed component: its count is that of what it means, and it is laid as that
pub record KnownAs (bytes : List ℕ) (components : ℕ → Option Component) (number : ℕ) (c : Component) (nodes : Nodes) : Type 0 where
  pub count : c.items ≡ items (flattened nodes)
  pub lays : Lays bytes components number (flattened nodes)
  pub limit : c.items ≤ 1024
  pub looked : components number ≡ Some c
  pub own : OwnItems bytes (c.place + 3) nodes

abbrev pub Known : List ℕ → (ℕ → Option Component) → Names → List Defined → Type 0
Known bytes components names defined = (number : ℕ) (c : Component) → look_in names number ≡ Some c → KnownAs bytes components number c (nodes_of defined number)

module _ (bytes : List ℕ) (components : ℕ → Option Component) (names : Names) (defined : List Defined) (known : Known bytes components names defined) where
  pub agrees_known : {level : Items} → Resolved (look_in names) level → Agrees (look_in names) defined level
  agrees_known resolved_close = agrees_close
  agrees_known (resolved_field r) = agrees_field (agrees_known r)
  agrees_known (resolved_component {number} c e r) = agrees_component c e (known number c e).count (agrees_known r)
  agrees_known (resolved_group i r) = agrees_group (agrees_known i) (agrees_known r)

  pub lay_known : {level : Items} → Resolved (look_in names) level → NoEmptyGroup (flat defined level) → AllLay bytes components defined level
  unfolding expanded flattened
  lay_known resolved_close n = all-close
  lay_known (resolved_field r) (none-after-field n) = all-field (lay_known r n)
  lay_known (resolved_component {number} c e r) n = all-component (known number c e).lays (lay_known r (filled-after (layout_of defined number) n))
  lay_known (resolved_group i r) (none_in_group some m n) = all-group (items-some _ some) (lay_known i m) (lay_known r n)

-- something that closes without a group has one level
pub record OneLevel (bytes : List ℕ) (names : Names) (at : ℕ) (rs : Records) (after : ℕ) (rest : Records) (last : Open) : Type 0 where
  pub level : Items
  pub reads : Reads bytes at level after
  pub resolved : Resolved (look_in names) level
  pub holds : Holds rs level rest
  pub count : last.items ≡ count_of (look_in names) level
  pub held : last.held ≡ held_from (look_in names) Empty level
  pub limit : last.items ≤ 1024

pub one_level_of : (bytes : List ℕ) (final names : Names) (at : ℕ) (rs : Records) (owner : Owner) (place : ℕ) → records_from bytes at ≡ rs →
    (c : Closing bytes final names at rs (opens owner place)) → OneLevel bytes names at rs c.after c.rest c.last
unfolding opens depth_of count_all held_all
one_level_of bytes final names at rs owner place e c = go c.levels c.deep c.reads c.resolved c.count c.held (c.limit (omega arith))
  where
    go : (levels : List Items) → length levels ≡ 1 + 0 → ReadsAll bytes at levels c.after → AllResolved (look_in names) levels →
        c.last.items ≡ 0 + count_all (look_in names) levels → c.last.held ≡ held_all (look_in names) Empty levels → c.last.items ≤ 1024 →
        OneLevel bytes names at rs c.after c.rest c.last
    go [] d r v k l m = absurd (omega arith)
    go (level ∷ (more ∷ levels)) d r v k l m = absurd (omega arith)
    go (level ∷ []) d (one_level r no_level) (one_resolved v none_resolved) k l m =
        record { level = level; reads = r; resolved = v; holds = rw (← e, ← c.there) (reads_hold bytes r); count = omega arith; held = l; limit = m }

pub items-end : items end ≡ 0
unfolding items
items-end = refl

-- two components that stand for the same one stand at the same place
stands_alike : (components : ℕ → Option Component) (a b : ℕ) (c d : Component) → components a ≡ Some c → components b ≡ Some d → (c.items ≡ 0 → ⊥) → (d.items ≡ 0 → ⊥) → c.stands ≡ d.stands → stands_at components a ≡ stands_at components b
stands_alike components a b c d p q x y s =
    stands-behind components a c p x ∙ ap (λ (number : ℕ). behind_opening (components number)) s ∙ sym (stands-behind components b d q y)

-- a component that has just closed
module _ (bytes : List ℕ) (components : ℕ → Option Component) (names : Names) (defined : List Defined) (known : Known bytes components names defined) (number : ℕ) (c : Component) (looked : components number ≡ Some c) (at after : ℕ) (level : Items) (reads : Reads bytes at level after) (resolved : Resolved (look_in names) level)
    (filled : NoEmptyGroup (flat defined level)) where
  abbrev agreeing : Agrees (look_in names) defined level
  agreeing = agrees_known bytes components names defined known resolved

  -- one that holds several things is laid from its own items
  several_lays : held_from (look_in names) Empty level ≡ Several → c.stands ≡ number → c.place + 3 ≡ at → (c.items ≡ 0 → ⊥) → c.items ≡ items (flat defined level) → Lays bytes components number (flat defined level)
  several_lays e s p z n =
      let here : components c.stands ≡ Some c = ap components s ∙ looked in
      let stands : stands_at components number ≡ Some at = stands_somewhere components number c c looked z here ∙ ap Some p in
      lays_items stands (items-some (flat defined level) (λ q. z (n ∙ ap items q ∙ items-end)))
      (level_layable bytes components defined reads (lay_known bytes components names defined known resolved filled)
      (λ depth h. room_proper (look_in names) defined depth agreeing e (omega arith) (omega arith)))

  -- one that holds another only is laid as that one
  only_lays : (s : ℕ) → held_from (look_in names) Empty level ≡ Only s → c.stands ≡ s → (c.items ≡ 0 → ⊥) → Lays bytes components number (flat defined level)
  only_lays s e t z = let o = only_one (look_in names) defined s agreeing e in
      go o (known o.number o.component o.looked)
    where
      go : (o : Single (look_in names) defined level s) → KnownAs bytes components o.number o.component (nodes_of defined o.number) → Lays bytes components number (flat defined level)
      go o k = by k.lays
        where
          by : Lays bytes components o.number (layout_of defined o.number) → Lays bytes components number (flat defined level)
          by (lays_nothing w x) = absurd (omega (arith, o.some, k.count, ap items x, items-end))
          by (lays_items w m l) =
              let some = o.some in
              rw o.same (lays_items (stands_alike components number o.number c o.component looked k.looked z (λ q. absurd (omega arith)) (t ∙ sym o.standing) ∙ w) m l)

  -- and in each case it is laid
  pub closed_lays : c.items ≡ items (flat defined level) → c.stands ≡ stands_for number (held_from (look_in names) Empty level) → c.place + 3 ≡ at → Lays bytes components number (flat defined level)
  closed_lays n s p = go (eqb c.items 0) refl
    where
      by_held : (held : Held) → held_from (look_in names) Empty level ≡ held → (c.items ≡ 0 → ⊥) → Lays bytes components number (flat defined level)
      by_held Empty e z = absurd (z (n ∙ empty-none (look_in names) defined agreeing e))
      by_held (Only t) e z = only_lays t e (s ∙ ap (stands_for number) e ∙ (unfold stands_for in refl)) z
      by_held Several e z = several_lays e (s ∙ ap (stands_for number) e ∙ (unfold stands_for in refl)) p z n

      go : (b : Bool) → eqb c.items 0 ≡ b → Lays bytes components number (flat defined level)
      go true e = lays_nothing (stands-empty components number c looked (eqb-true _ _ e)) (items-none (flat defined level) (sym n ∙ eqb-true _ _ e))
      go false e = by_held (held_from (look_in names) Empty level) refl (eqb-false _ _ e)
