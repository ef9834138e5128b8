-- The tree beside the check: what the records mean that were read, whatever comes after them. Each record that can come inside something
-- open, and each close, leaves such a tree; closed off, it is the latest layout, before those that have closed.
use Rattle.std.specs.Prelude.{◌≡◌, Bool, true, false, ℕ, zero, suc, eqb, length, replicate}
use Rattle.std.proofs.Math.Path.{refl, ap}
use Rattle.std.proofs.Common.{sym, ◌∙◌, subst, arith, Some}
use mathlib.Core.List.{List, [], ◌∷◌}
use Rattle.std.proofs.lemmas.List.{length-replicate}
use Rattle.field_rules.specs.Choice.{pick}
use Rattle.dictionary_layout_rules.specs.Layout.{Layout, items, depth}
use Rattle.dictionary_layout_rules.specs.Tree.{flattened}
use Rattle.dictionary_layout_rules.specs.Measures.{NoEmptyGroup, Bounded, Each}
use Rattle.dictionary_rules.specs.Records.{Records, ends, whole}
use Rattle.dictionary_rules.specs.Names.{Names, component_in, named}
use Rattle.dictionary_rules.specs.declared.Component.{Component}
use Rattle.dictionary_rules.specs.declared.Note.TheVariants.{ClosesComponent}
use Rattle.dictionary_rules.specs.declared.Owner.{Owner}
use Rattle.dictionary_rules.specs.declared.Owner.TheVariants.{OfComponent, OfMessage}
use Rattle.dictionary_rules.specs.declared.Record.{Record}
use Rattle.dictionary_rules.specs.declared.Record.TheVariants.{FieldItem, ComponentItem, OpensGroup, Closes}
use Rattle.dictionary_meaning_rules.specs.Meaning.{Items, closed, field_then_lem, component_then_lem, group_then_lem, Declaration, component, message, declarations_of, Defined, nodes_of, expanded, defined_by}
use Rattle.dictionary_meaning_rules.proofs.Layable.{layout_of, flat}
use Rattle.dictionary_meaning_rules.proofs.Bodies.{Holds, holds-close, holds-field, holds-component, holds-group, HoldsAll, holds-none, holds_more, declared-end}
use Rattle.dictionary_meaning_rules.proofs.Inside.{look_in}
use Rattle.dictionary_meaning_rules.specs.ClosedOff.{closes, layouts_by, layouts_after, Latest, latest}
use Rattle.dictionary_meaning_rules.proofs.SoFar.{OpenGroup, innermost, below, continued, joined, wrapped, continued-closed, joined-more, joined-close, joined-closes}

-- a closed component's numbers are those of what it means
pub record Measured (c : Component) (layout : Layout) : Type 0 where
  pub count : c.items ≡ items layout
  pub deep : c.depth ≡ depth layout
  pub filled : NoEmptyGroup layout

abbrev pub AllMeasured : Names → List Defined → Type 0
AllMeasured names defined = (number : ℕ) (c : Component) → look_in names number ≡ Some c → Measured c (layout_of defined number)

pub measured-more : (names : Names) (defined : List Defined) (c : Component) (level : Items) → AllMeasured names defined → Measured c (flat defined level) → AllMeasured (named names (ClosesComponent c)) (defined_by defined (component c.number level))
unfolding named component_in defined_by nodes_of
measured-more names defined c level known new number d e = go (eqb number c.number) refl e
  where
    go : (t : Bool) → eqb number c.number ≡ t → pick t (Some c) (component_in names.components number) ≡ Some d → Measured d (flattened (pick (eqb number c.number) (expanded defined level) (nodes_of defined number)))
    go true t q = let same : c ≡ d = cc in rw (t, ← same) new
    go false t q = rw t (known number d q)

-- what an owner declares by its items
pub data Declares : Owner → (Items → Declaration) → Type 0 where
  declares_component : (number : ℕ) → Declares (OfComponent number) (component number)
  declares_message : (msg_type : List ℕ) → Declares OfMessage (message msg_type)

-- what was read at top level: the components that are defined, and all layouts
pub record Tree (names : Names) (layouts : Records → List Layout) : Type 0 where
  pub defined : List Defined
  pub read : List Layout
  pub measured : AllMeasured names defined
  pub bounded : Each Bounded read
  pub means : (later : Records) → layouts later ≡ layouts_after defined read (declarations_of later)

-- whatever comes and holds the rest of each level that is open: what is declared is the level so far with its rest, and then what stands
-- behind the last close
abbrev MeansSoFar : (Records → List Layout) → List Defined → List Layout → (Items → Declaration) → Items → List OpenGroup → Type 0
MeansSoFar layouts defined read declares level groups =
    (later behind : Records) (levels : List Items) → length levels ≡ suc (length groups) → HoldsAll later levels behind →
    layouts later ≡ layouts_after defined read (declares (joined level groups levels) ∷ declarations_of behind)

-- what was read inside something open
pub record OpenTree (owner : Owner) (layouts : Records → List Layout) (defined : List Defined) (read : List Layout) (level : Items) (groups : List OpenGroup) : Type 0 where
  pub declares : Items → Declaration
  pub sort : Declares owner declares
  pub means : MeansSoFar layouts defined read declares level groups

-- closes hold no more items
closes_hold : (things size : ℕ) → HoldsAll (closes things (ends size)) (replicate things closed) (ends size)
unfolding closes
closes_hold zero size = holds-none
closes_hold (suc things) size = holds_more holds-close (closes_hold things size)

-- what an owner declares comes before the layouts that were read
declared_layout : {owner : Owner} {declares : Items → Declaration} → Declares owner declares → (defined : List Defined) (read : List Layout) (level : Items) (more : List Declaration) → layouts_after defined read (declares level ∷ more) ≡ layouts_after (defined_by defined (declares level)) (flat defined level ∷ read) more
unfolding layouts_after layouts_by
declared_layout (declares_component number) defined read level more = refl
declared_layout (declares_message msg_type) defined read level more = refl

module _ (owner : Owner) (layouts : Records → List Layout) (defined : List Defined) (read : List Layout) (level : Items) where
  -- an item that comes next
  tree_item : (groups : List OpenGroup) (place : ℕ) (r : Record) (more : Items) →
      ((later behind : Records) (next : Items) → Holds later next behind → Holds (whole place r later) (continued more next) behind) →
      OpenTree owner layouts defined read level groups →
      OpenTree owner (λ (later : Records). layouts (whole place r later)) defined read (continued level more) groups
  tree_item groups place r more onto t =
      record { declares = t.declares; sort = t.sort; means = go }
    where
      go : MeansSoFar (λ (later : Records). layouts (whole place r later)) defined read t.declares (continued level more) groups
      go later behind [] n holds-none = absurd (omega arith)
      go later behind (next ∷ levels) n (holds_more h hs) =
          t.means _ behind _ n (holds_more (onto _ _ next h) hs)
          ∙ ap (λ (x : Items). layouts_after defined read (t.declares x ∷ declarations_of behind)) (sym (joined-more level more next groups levels))

  pub tree_field : (groups : List OpenGroup) (place tag : ℕ) (required : Bool) → OpenTree owner layouts defined read level groups → OpenTree owner (λ (later : Records). layouts (whole place (FieldItem tag required) later)) defined read (continued level (field_then_lem tag required closed)) groups
  unfolding continued
  tree_field groups place tag required t =
      tree_item groups place (FieldItem tag required) (field_then_lem tag required closed) (λ later behind next h. holds-field h) t

  pub tree_component : (groups : List OpenGroup) (place number : ℕ) (required : Bool) → OpenTree owner layouts defined read level groups → OpenTree owner (λ (later : Records). layouts (whole place (ComponentItem required number) later)) defined read (continued level (component_then_lem number required closed)) groups
  unfolding continued
  tree_component groups place number required t =
      tree_item groups place (ComponentItem required number) (component_then_lem number required closed) (λ later behind next h. holds-component h) t

  -- a group that opens
  pub tree_group : (groups : List OpenGroup) (place tag : ℕ) (required : Bool) → OpenTree owner layouts defined read level groups → OpenTree owner (λ (later : Records). layouts (whole place (OpensGroup tag required) later)) defined read closed (record { before = level; tag = tag; required = required } ∷ groups)
  tree_group groups place tag required t =
      record { declares = t.declares; sort = t.sort; means = go }
    where
      opened : OpenGroup
      opened = record { before = level; tag = tag; required = required }

      go : MeansSoFar (λ (later : Records). layouts (whole place (OpensGroup tag required) later)) defined read t.declares closed (opened ∷ groups)
      go later behind [] n holds-none = absurd (omega arith)
      go later behind (inner ∷ []) n (holds_more h holds-none) = absurd (omega arith)
      go later behind (inner ∷ (next ∷ levels)) n (holds_more i (holds_more h hs)) =
          unfold joined continued innermost below in t.means _ behind _ (omega arith) (holds_more (holds-group i h) hs)

  -- and one that closes: it is an item of the level around it
  pub tree_close : (g : OpenGroup) (groups : List OpenGroup) (place : ℕ) → OpenTree owner layouts defined read level (g ∷ groups) → OpenTree owner (λ (later : Records). layouts (whole place Closes later)) defined read (continued g.before (group_then_lem g.tag g.required level closed)) groups
  tree_close g groups place t =
      record { declares = t.declares; sort = t.sort; means = go }
    where
      around : Items
      around = continued g.before (group_then_lem g.tag g.required level closed)

      go : MeansSoFar (λ (later : Records). layouts (whole place Closes later)) defined read t.declares around groups
      go later behind [] n holds-none = absurd (omega arith)
      go later behind (next ∷ levels) n (holds_more h hs) =
          t.means _ behind _ (omega arith) (holds_more holds-close (holds_more h hs))
          ∙ ap (λ (x : Items). layouts_after defined read (t.declares x ∷ declarations_of behind)) (joined-close level next g groups levels)

  -- the owner closes: its layout is the latest
  pub tree_owner : (place : ℕ) (t : OpenTree owner layouts defined read level []) (later : Records) → layouts (whole place Closes later) ≡ layouts_after (defined_by defined (t.declares level)) (flat defined level ∷ read) (declarations_of later)
  tree_owner place t later =
      let own : joined level [] (closed ∷ []) ≡ level = (unfold joined innermost in continued-closed level) in
      t.means _ _ _ refl (holds_more holds-close holds-none)
      ∙ ap (λ (x : Items). layouts_after defined read (t.declares x ∷ declarations_of later)) own
      ∙ declared_layout t.sort defined read level (declarations_of later)

  -- closed off
  pub tree_off : (groups : List OpenGroup) → OpenTree owner layouts defined read level groups → layouts (closes (suc (length groups)) (ends 0)) ≡ flat defined (wrapped groups level) ∷ read
  unfolding layouts_after
  tree_off groups t =
      t.means _ _ _ (length-replicate (suc (length groups)) closed) (closes_hold (suc (length groups)) 0)
      ∙ ap (λ (x : Items). layouts_after defined read (t.declares x ∷ declarations_of (ends 0))) (joined-closes level groups)
      ∙ ap (λ (ds : List Declaration). layouts_after defined read (t.declares (wrapped groups level) ∷ ds)) (declared-end 0)
      ∙ declared_layout t.sort defined read (wrapped groups level) []

  pub latest_off : (P : Layout → Type 0) (groups : List OpenGroup) (things : ℕ) → OpenTree owner layouts defined read level groups → things ≡ suc (length groups) → P (flat defined (wrapped groups level)) → Latest P (layouts (closes things (ends 0)))
  latest_off P groups things t e p = subst (λ (l : List Layout). Latest P l) (sym (ap (λ (n : ℕ). layouts (closes n (ends 0))) e ∙ tree_off groups t)) (latest p)
