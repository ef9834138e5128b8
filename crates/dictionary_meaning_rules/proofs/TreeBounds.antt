-- "group closes empty after flattening" (34), "group nested five deep after flattening" (35) and "one component or message passes 1,024
-- items, all levels, flattened" (37) are true of the tree: a dictionary that passes has none, and one that is refused for it is refused
-- at the first record that breaks this, and at no other.
use Rattle.std.proofs.Math.Path.{◌≡◌, subst}
use Rattle.std.specs.Prelude.{refl, Bool, leb}
use Rattle.std.proofs.Common.{sym, ap, leb-true, leb-false, Some, None}
use Rattle.std.proofs.Math.Bool.{true, false}
use mathlib.Core.List.{List, [], ◌∷◌, map}
use Prim.Native.Nat.{ℕ, zero, suc, ◌-◌, ◌≤◌, ◌<◌}
use native.Mathlib.Omega.{arith}
use Rattle.field_rules.specs.Choice.{pick}
use Rattle.dictionary_layout_rules.specs.Layout.{Layout, end}
use Rattle.dictionary_layout_rules.specs.Tree.{Message, flattened, laid_out, no_message, message_of, same_bytes}
use Rattle.dictionary_layout_rules.specs.Tree.{layout_of as layout_in_tree}
use Rattle.dictionary_layout_rules.specs.Measures.{Bounded, InnermostOpen, Each, each_none, each_more}
use Rattle.dictionary_layout_rules.proofs.MeasuresLaws.{some_open}
use Rattle.dictionary_layout_rules.proofs.MeasuresLaws.{empty-breaks as empty-innermost}
use Rattle.dictionary_rules.specs.Records.{Records, ends, bad, whole, records_from}
use Rattle.dictionary_rules.specs.declared.Record.{Record}
use Rattle.dictionary_rules.specs.declared.Record.TheVariants.{Closes}
use Rattle.dictionary_rules.specs.Check.{outcome, walked, too_long, read_of, answer_of, check_of}
use Rattle.dictionary_rules.specs.Names.{component_in, looks_in, named, no_names}
use Rattle.dictionary_rules.specs.declared.Checked.{Checked}
use Rattle.dictionary_rules.specs.declared.Checked.TheVariants.{Passes, TooLong, EmptyGroup, TooDeep, TooManyItems}
use Rattle.dictionary_rules.specs.declared.Component.{Component}
use Rattle.dictionary_rules.specs.declared.State.TheVariants.{TopLevel}
use Rattle.dictionary_meaning_rules.specs.Meaning.{Items, Declaration, known_tag, component, message, declarations_of, Defined, defined_by, defined_after, message_in, messages_from, meaning_of, dictionary_of}
use Rattle.dictionary_meaning_rules.proofs.Layable.{layout_of, flat}
use Rattle.dictionary_meaning_rules.proofs.Inside.{look_in}
use Rattle.dictionary_meaning_rules.specs.ClosedOff.{open_after, open_of, records_after, layouts_by, layouts_after, layouts_of, taken_from, taken, AllBounded, latest_bounded, Latest, latest, KeepsBounds, ClosesEmpty, FiveDeep, NestsTooDeep, OverThousand, HoldsTooMany}
use Rattle.dictionary_meaning_rules.proofs.TreeSoFar.{Measured}
use Rattle.dictionary_meaning_rules.proofs.BesideSteps.{Beside, at_top, things_of}
use Rattle.dictionary_meaning_rules.proofs.Bounds.{taken_bounded, Verdict, it_passes, it_nests, it_holds, it_closes, verdict}

abbrev pub component_layout : Defined → Layout
component_layout d = flattened d.nodes

abbrev pub message_layout : Message → Layout
message_layout m = flattened m.nodes

-- every component that a dictionary defines, and every message, keeps the bounds
pub record AllKeepBounds (bytes : List ℕ) : Type 0 where
  pub components : Each Bounded (map component_layout (defined_after [] (declarations_of (records_from bytes 0))))
  pub messages : Each Bounded (map message_layout (dictionary_of bytes).messages)

first_bounded : {layout : Layout} {layouts : List Layout} → Each Bounded (layout ∷ layouts) → Bounded layout
first_bounded (each_more b more) = b

others_bounded : {layout : Layout} {layouts : List Layout} → Each Bounded (layout ∷ layouts) → Each Bounded layouts
others_bounded (each_more b more) = more

-- layouts that were read stay
read_stay : (declarations : List Declaration) (defined : List Defined) (read : List Layout) → Each Bounded (layouts_after defined read declarations) → Each Bounded read
unfolding layouts_after layouts_by defined_by
read_stay [] defined read e = e
read_stay (known_tag tag ∷ declarations) defined read e = read_stay declarations defined read e
read_stay (component number level ∷ declarations) defined read e = others_bounded (read_stay declarations (defined_by defined (component number level)) (flat defined level ∷ read) e)
read_stay (message msg_type level ∷ declarations) defined read e = others_bounded (read_stay declarations (defined_by defined (message msg_type level)) (flat defined level ∷ read) e)

-- declarations keep the bounds that come after components and after whatever was read
pub record KeptFrom (defined : List Defined) (declarations : List Declaration) : Type 0 where
  pub read : List Layout
  pub each : Each Bounded (layouts_after defined read declarations)

module _ (defined : List Defined) (declarations : List Declaration) where
  pub kept-tag : (tag : ℕ) → KeptFrom defined (known_tag tag ∷ declarations) → KeptFrom defined declarations
  unfolding layouts_after layouts_by defined_by
  kept-tag tag k = record { read = k.read; each = k.each }

  pub kept-component : (number : ℕ) (level : Items) → KeptFrom defined (component number level ∷ declarations) →
      Bounded (flat defined level) × KeptFrom (defined_by defined (component number level)) declarations
  unfolding layouts_after layouts_by
  kept-component number level k =
      let more : List Layout = flat defined level ∷ k.read in
      (first_bounded (read_stay declarations (defined_by defined (component number level)) more k.each), record { read = more; each = k.each })

  pub kept-message : (msg_type : List ℕ) (level : Items) → KeptFrom defined (message msg_type level ∷ declarations) →
      Bounded (flat defined level) × KeptFrom defined declarations
  unfolding layouts_after layouts_by defined_by
  kept-message msg_type level k =
      let more : List Layout = flat defined level ∷ k.read in
      (first_bounded (read_stay declarations defined more k.each), record { read = more; each = k.each })

components_bounded : (declarations : List Declaration) (defined : List Defined) (read : List Layout) → Each Bounded (layouts_after defined read declarations) → Each Bounded (map component_layout defined) → Each Bounded (map component_layout (defined_after defined declarations))
unfolding layouts_after layouts_by defined_after defined_by
components_bounded [] defined read e known = known
components_bounded (known_tag tag ∷ declarations) defined read e known = components_bounded declarations defined read e known
components_bounded (component number level ∷ declarations) defined read e known =
    let more : List Defined = defined_by defined (component number level) in
    components_bounded declarations more (flat defined level ∷ read) e (each_more (first_bounded (read_stay declarations more (flat defined level ∷ read) e)) known)
components_bounded (message msg_type level ∷ declarations) defined read e known = components_bounded declarations defined (flat defined level ∷ read) e known

messages_bounded : (declarations : List Declaration) (defined : List Defined) (read : List Layout) → Each Bounded (layouts_after defined read declarations) → Each Bounded (map message_layout (messages_from defined declarations))
unfolding layouts_after layouts_by messages_from message_in
messages_bounded [] defined read e = each_none
messages_bounded (known_tag tag ∷ declarations) defined read e = messages_bounded declarations (defined_by defined (known_tag tag)) read e
messages_bounded (component number level ∷ declarations) defined read e = messages_bounded declarations (defined_by defined (component number level)) (flat defined level ∷ read) e
messages_bounded (message msg_type level ∷ declarations) defined read e =
    each_more (first_bounded (read_stay declarations (defined_by defined (message msg_type level)) (flat defined level ∷ read) e)) (messages_bounded declarations (defined_by defined (message msg_type level)) (flat defined level ∷ read) e)

-- before the first record there is nothing
nothing_yet : Beside TopLevel no_names layouts_of
unfolding layouts_of
nothing_yet = at_top (record { defined = []; read = []; measured = none; bounded = each_none; means = λ later. refl })
  where
    none : (number : ℕ) (c : Component) → look_in no_names number ≡ Some c → Measured c (layout_of [] number)
    none number c e = let missing : look_in no_names number ≡ None = (unfold no_names component_in in refl) in let z : ◌≡◌ {A = ℕ} 0 1 = cc in absurd (omega arith)

-- one record more
open_after_lem : (first things : ℕ) (records : Records) (place : ℕ) (r : Record) (rest : Records) → records_after first records ≡ whole place r rest → open_of (suc first) things records ≡ open_after r (open_of first things records)
unfolding open_of records_after
open_after_lem zero things (ends size) place r rest e = let z : ◌≡◌ {A = ℕ} 0 1 = cc in absurd (omega arith)
open_after_lem zero things (bad at) place r rest e = let z : ◌≡◌ {A = ℕ} 0 1 = cc in absurd (omega arith)
open_after_lem zero things (whole at first rest₁) place r rest e = let same : first ≡ r = cc in ap (λ (x : Record). open_after x things) same
open_after_lem (suc first) things (ends size) place r rest e = let z : ◌≡◌ {A = ℕ} 0 1 = cc in absurd (omega arith)
open_after_lem (suc first) things (bad at) place r rest e = let z : ◌≡◌ {A = ℕ} 0 1 = cc in absurd (omega arith)
open_after_lem (suc first) things (whole at s rest₁) place r rest e = open_after_lem first (open_after s things) rest₁ place r rest e

module _ (bytes : List ℕ) where
  -- a dictionary that isn't too long is read record by record
  by_records : (checked : Checked) → (checked ≡ TooLong → ⊥) → check_of bytes ≡ checked → answer_of (walked looks_in named (records_from bytes 0) TopLevel no_names) ≡ checked
  unfolding check_of read_of
  by_records checked other e = go (too_long bytes) e
    where
      go : (t : Bool) → answer_of (pick t (outcome TooLong no_names) (walked looks_in named (records_from bytes 0) TopLevel no_names)) ≡ checked → answer_of (walked looks_in named (records_from bytes 0) TopLevel no_names) ≡ checked
      go true q = absurd (other (sym (unfold answer_of in q)))
      go false q = q

  of-answer : (checked : Checked) → (checked ≡ TooLong → ⊥) → check_of bytes ≡ checked → Verdict 0 (records_from bytes 0) layouts_of (taken bytes) checked
  unfolding taken things_of
  of-answer checked other e =
      subst (λ (x : Checked). Verdict 0 (records_from bytes 0) layouts_of (taken_from (records_from bytes 0) TopLevel no_names) x) (by_records checked other e) (verdict (records_from bytes 0) TopLevel no_names layouts_of nothing_yet)

  -- a dictionary that passes keeps the bounds
  passes_each : check_of bytes ≡ Passes → Each Bounded (layouts_after [] [] (declarations_of (records_from bytes 0)))
  passes_each e = go (of-answer Passes (λ q. let z : ◌≡◌ {A = ℕ} 0 1 = cc in absurd (omega arith)) e)
    where
      go : Verdict 0 (records_from bytes 0) layouts_of (taken bytes) Passes → Each Bounded (layouts_after [] [] (declarations_of (records_from bytes 0)))
      go (it_passes each) = unfold layouts_of in each

  pub passes_kept : check_of bytes ≡ Passes → KeptFrom [] (declarations_of (records_from bytes 0))
  passes_kept e = record { read = []; each = passes_each e }

  pub passes_bounded : check_of bytes ≡ Passes → AllKeepBounds bytes
  passes_bounded e =
      let all = passes_each e in
      record {
        components = components_bounded (declarations_of (records_from bytes 0)) [] [] all each_none;
        messages = unfold dictionary_of meaning_of in messages_bounded (declarations_of (records_from bytes 0)) [] [] all;
      }

  -- 34
  pub empty-first : (tag : ℕ) → check_of bytes ≡ EmptyGroup tag → ClosesEmpty bytes tag
  empty-first tag e = go (of-answer (EmptyGroup tag) (λ q. let z : ◌≡◌ {A = ℕ} 0 1 = cc in absurd (omega arith)) e)
    where
      go : Verdict 0 (records_from bytes 0) layouts_of (taken bytes) (EmptyGroup tag) → ClosesEmpty bytes tag
      go (it_closes first) = first

  -- 35
  pub deep-first : (place : ℕ) → check_of bytes ≡ TooDeep place → NestsTooDeep bytes place
  deep-first place e = go (of-answer (TooDeep place) (λ q. let z : ◌≡◌ {A = ℕ} 0 1 = cc in absurd (omega arith)) e)
    where
      go : Verdict 0 (records_from bytes 0) layouts_of (taken bytes) (TooDeep place) → NestsTooDeep bytes place
      go (it_nests first) = first

  -- 37
  pub many-first : (place : ℕ) → check_of bytes ≡ TooManyItems place → HoldsTooMany bytes place
  many-first place e = go (of-answer (TooManyItems place) (λ q. let z : ◌≡◌ {A = ℕ} 0 1 = cc in absurd (omega arith)) e)
    where
      go : Verdict 0 (records_from bytes 0) layouts_of (taken bytes) (TooManyItems place) → HoldsTooMany bytes place
      go (it_holds first) = first

  -- each of the three is refused for breaking the bounds: with one record more they are not kept
  pub empty-breaks : (tag : ℕ) → ClosesEmpty bytes tag → KeepsBounds 0 (records_from bytes 0) layouts_of (suc (taken bytes)) → ⊥
  unfolding KeepsBounds
  empty-breaks tag first keeps = go _ first.closed (open_after_lem (taken bytes) 0 (records_from bytes 0) first.place Closes first.rest first.stands) keeps
    where
      go : (layouts : List Layout) → Latest (InnermostOpen tag end (open_of (taken bytes) 0 (records_from bytes 0) - 1)) layouts → open_of (suc (taken bytes)) 0 (records_from bytes 0) ≡ open_after Closes (open_of (taken bytes) 0 (records_from bytes 0)) → AllBounded (open_of (suc (taken bytes)) 0 (records_from bytes 0) - 1) layouts → ⊥
      go layouts (latest {layout} i) n (latest_bounded b each) =
          let some = some_open i in
          let closing : open_after Closes (open_of (taken bytes) 0 (records_from bytes 0)) ≡ open_of (taken bytes) 0 (records_from bytes 0) - 1 = (unfold open_after in refl) in
          let one_more : open_of (taken bytes) 0 (records_from bytes 0) - 1 ≡ suc (open_of (suc (taken bytes)) 0 (records_from bytes 0) - 1) = omega arith in
          empty-innermost (rw one_more at i) b.filled

  pub deep-breaks : (place : ℕ) → NestsTooDeep bytes place → KeepsBounds 0 (records_from bytes 0) layouts_of (suc (taken bytes)) → ⊥
  unfolding KeepsBounds
  deep-breaks place first keeps = go first.over keeps
    where
      go : {groups : ℕ} {layouts : List Layout} → Latest FiveDeep layouts → AllBounded groups layouts → ⊥
      go (latest h) (latest_bounded b each) = omega (arith, b.shallow)

  pub many-breaks : (place : ℕ) → HoldsTooMany bytes place → KeepsBounds 0 (records_from bytes 0) layouts_of (suc (taken bytes)) → ⊥
  unfolding KeepsBounds
  many-breaks place first keeps = go first.over keeps
    where
      go : {groups : ℕ} {layouts : List Layout} → Latest OverThousand layouts → AllBounded groups layouts → ⊥
      go (latest h) (latest_bounded b each) = omega (arith, h.0, b.few)

  -- whatever is answered, the records that were taken keep the bounds
  pub taken-keep : (first : ℕ) → first ≤ taken bytes → KeepsBounds 0 (records_from bytes 0) layouts_of first
  unfolding taken things_of
  taken-keep first h = taken_bounded first (records_from bytes 0) TopLevel no_names layouts_of nothing_yet h

  -- so no record is taken with which a bound breaks
  pub broken_refused : (first : ℕ) → (KeepsBounds 0 (records_from bytes 0) layouts_of first → ⊥) → taken bytes < first
  broken_refused first broken = go (leb first (taken bytes)) refl
    where
      go : (t : Bool) → leb first (taken bytes) ≡ t → taken bytes < first
      go true e = absurd (broken (taken-keep first (leb-true _ _ e)))
      go false e = leb-false first (taken bytes) e

-- the layout of any MsgType that a dictionary has
pub message_bounded : (bytes : List ℕ) → check_of bytes ≡ Passes → (msg_type : List ℕ) (layout : Layout) → layout_in_tree (dictionary_of bytes) msg_type ≡ laid_out layout → Bounded layout
unfolding layout_in_tree
message_bounded bytes passes msg_type layout e = go (dictionary_of bytes).messages (passes_bounded bytes passes).messages e
  where
    go : (messages : List Message) → Each Bounded (map message_layout messages) → message_of msg_type messages ≡ laid_out layout → Bounded layout
    go [] each q = let none : message_of msg_type [] ≡ no_message = (unfold message_of in refl) in let z : ◌≡◌ {A = ℕ} 0 1 = cc in absurd (omega arith)
    go (m ∷ messages) (each_more b more) q = by (same_bytes m.msg_type msg_type) (λ later. go messages more later) (unfold message_of in q)
      where
        by : (t : Bool) → (message_of msg_type messages ≡ laid_out layout → Bounded layout) → pick t (laid_out (flattened m.nodes)) (message_of msg_type messages) ≡ laid_out layout → Bounded layout
        by true again q = let same : flattened m.nodes ≡ layout = cc in rw same at b
        by false again q = again q
