-- Each record that the check takes leaves the tree beside it, within bounds; each that it refuses with 34, 35 or 37 breaks that bound.
use Rattle.std.specs.Prelude.{◌≡◌, Bool, true, eqb, ltb, length}
use Rattle.std.proofs.Math.Path.{refl, sym, ap, subst}
use Rattle.std.proofs.Common.{◌∙◌, arith, Option, Some, None, Result, Ok, Err, ℕ}
use Rattle.std.proofs.Math.Bool.{false}
use mathlib.Core.List.{List, [], ◌∷◌}
use Prim.Native.Nat.{ℕ, suc, ◌+◌, ◌-◌, ◌≤◌}
use borrow.Author.Tests.{eqb-true, eqb-false, ltb-true, ltb-false}
use Rattle.field_rules.specs.Choice.{pick}
use Rattle.dictionary_layout_rules.specs.Layout.{Layout, end, items, depth}
use Rattle.dictionary_layout_rules.specs.Measures.{Bounded, InnermostOpen, Each, each_more}
use Rattle.dictionary_layout_rules.proofs.MeasuresLaws.{larger-second}
use Rattle.dictionary_rules.specs.Records.{Records, ends, whole}
use Rattle.dictionary_rules.specs.Step.{depth_of, opened, deeper, opens, grown, held_with, stands_for, at_top_lem, inside, closed_before, known_before, not_empty, not_too_deep, once_component, once_message, not_too_many, on_tag, on_component, on_message, on_field, on_item, on_group, closes_owner, closes_group, closes_innermost, on_close, step_of}
use Rattle.dictionary_rules.specs.Names.{Names, is_known, component_in, message_in, looks_in, named}
use Rattle.dictionary_rules.specs.declared.Checked.{Checked}
use Rattle.dictionary_rules.specs.declared.Checked.TheVariants.{BadRecord, NoComponent, UnknownTag, EmptyGroup, TooDeep, Twice, TooManyItems}
use Rattle.dictionary_rules.specs.declared.Group.{Group}
use Rattle.dictionary_rules.specs.declared.Groups.{Groups}
use Rattle.dictionary_rules.specs.declared.Groups.TheVariants.{NoGroup, OneGroup, TwoGroups, ThreeGroups, FourGroups}
use Rattle.dictionary_rules.specs.declared.Held.TheVariants.{Several}
use Rattle.dictionary_rules.specs.declared.Owner.{Owner}
use Rattle.dictionary_rules.specs.declared.Owner.TheVariants.{OfComponent, OfMessage}
use Rattle.dictionary_rules.specs.declared.Open.{Open}
use Rattle.dictionary_rules.specs.declared.State.{State}
use Rattle.dictionary_rules.specs.declared.State.TheVariants.{TopLevel, Inside}
use Rattle.dictionary_rules.specs.declared.Note.{Note}
use Rattle.dictionary_rules.specs.declared.Note.TheVariants.{Unchanged, KnowsTag, NamesMessage}
use Rattle.dictionary_rules.specs.declared.Record.{Record}
use Rattle.dictionary_rules.specs.declared.Record.TheVariants.{KnownTag, OpensComponent, OpensMessage, FieldItem, ComponentItem, OpensGroup, Closes}
use Rattle.dictionary_meaning_rules.specs.Meaning.{Items, closed, component_then_lem, group_then_lem, msg_type_bytes, Declaration, component, message, declarations_of, Defined, defined_by}
use Rattle.dictionary_meaning_rules.proofs.Layable.{flat}
use Rattle.dictionary_meaning_rules.specs.ClosedOff.{open_after, closes, layouts_by, layouts_after, Latest, FiveDeep, OverThousand}
use Rattle.dictionary_meaning_rules.proofs.Bodies.{Holds, HoldsAll, holds-none, holds_more, declared-tag, declared-component, declared-message}
use Rattle.dictionary_meaning_rules.proofs.SoFar.{OpenGroup, innermost, continued, joined, wrapped}
use Rattle.dictionary_meaning_rules.proofs.TreeSoFar.{AllMeasured, measured-more, Declares, declares_component, declares_message, Tree, OpenTree, tree_field, tree_component, tree_group, tree_close, tree_owner, latest_off}
use Rattle.dictionary_meaning_rules.proofs.Beside.{listed, listed-opened, Counted, count-whole, counted-opens, field-whole, field-shallow, counted-field, component-whole, component-deep, component-shallow, counted-component, group-whole, group-deep, group-shallow, counted-group, closes-empty, counted-close}
use Rattle.dictionary_rules.specs.declared.Component.{Component}

-- the state of the check, with the names so far, beside the tree that was read
pub data Beside : State → Names → (Records → List Layout) → Type 0 where
  at_top : {names : Names} {layouts : Records → List Layout} → Tree names layouts → Beside TopLevel names layouts
  within : {o : Open} {names : Names} {layouts : Records →
      List Layout} {defined : List Defined} {read : List Layout} {level : Items} {groups : List OpenGroup} → AllMeasured names defined →
      Each Bounded read → OpenTree o.owner layouts defined read level groups → Counted o defined level groups → Beside (Inside o) names layouts

-- how many things are open
unfoldable pub things_of : State → ℕ
things_of TopLevel = 0
things_of (Inside o) = suc (depth_of o.groups)

-- what a record breaks that is refused, where things are open
pub data Breaks (layouts : Records → List Layout) (things place : ℕ) (r : Record) : Checked → Type 0 where
  nests_too_deep : Latest FiveDeep (layouts (whole place r (closes (open_after r things) (ends 0)))) → Breaks layouts things place r (TooDeep place)
  holds_too_many : Latest OverThousand (layouts (whole place r (closes (open_after r things) (ends 0)))) → Breaks layouts things place r (TooManyItems place)
  closes_an_empty : {tag : ℕ} → r ≡ Closes → Latest (InnermostOpen tag end (things - 1)) (layouts (closes things (ends 0))) → Latest (InnermostOpen tag end (things - 1)) (layouts (whole place r (closes (open_after r things) (ends 0)))) → Breaks layouts things place r (EmptyGroup tag)
  bad_record : Breaks layouts things place r (BadRecord place)
  no_component : {number : ℕ} → Breaks layouts things place r (NoComponent number)
  unknown_tag : {tag : ℕ} → Breaks layouts things place r (UnknownTag tag)
  twice : Breaks layouts things place r (Twice place)

pub data Stepped (state : State) (names : Names) (layouts : Records → List Layout) (place : ℕ) (r : Record) : Result (State × Note) Checked → Type 0 where
  goes : {later : State} {note : Note} → Beside later (named names note) (λ (q : Records). layouts (whole place r q)) → things_of later ≡ open_after r (things_of state) → Stepped state names layouts place r (Ok (later, note))
  refuses : {checked : Checked} → Breaks layouts (things_of state) place r checked → Stepped state names layouts place r (Err checked)

-- what opens declares the one level that it holds
opening_declares : {later behind : Records} {levels : List Items} (rs : Records) (declares : Items → Declaration) →
    ((items : Items) (after : Records) → Holds later items after → declarations_of rs ≡ declares items ∷ declarations_of after) → length levels ≡ 1 →
    HoldsAll later levels behind → declarations_of rs ≡ declares (joined closed [] levels) ∷ declarations_of behind
unfolding joined continued innermost
opening_declares rs declares declared n holds-none = absurd (omega arith)
opening_declares rs declares declared n (holds_more h (holds_more g hs)) = absurd (omega arith)
opening_declares rs declares declared n (holds_more h holds-none) = declared _ _ h

module _ (names : Names) (layouts : Records → List Layout) (place : ℕ) where
  picked : (state : State) (r : Record) (b : Bool) (then other : Result (State × Note) Checked) → (b ≡ true → Stepped state names layouts place r then) → (b ≡ false → Stepped state names layouts place r other) → Stepped state names layouts place r (pick b then other)
  picked state r true then other t f = t refl
  picked state r false then other t f = f refl

  -- at top level
  module _ (t : Tree names layouts) where
    top_tag : (tag : ℕ) → Stepped TopLevel names layouts place (KnownTag tag) (step_of (looks_in names) TopLevel place (KnownTag tag))
    unfolding step_of on_tag at_top_lem looks_in things_of open_after
    top_tag tag = goes (at_top (next (is_known names.tags tag))) refl
      where
        same : (later : Records) → layouts (whole place (KnownTag tag) later) ≡ layouts_after t.defined t.read (declarations_of later)
        same later =
            t.means (whole place (KnownTag tag) later)
            ∙ ap (layouts_after t.defined t.read) (declared-tag place later tag)
            ∙ (unfold layouts_after layouts_by defined_by in refl)

        next : (b : Bool) → Tree (named names (pick b Unchanged (KnowsTag place tag))) (λ (later : Records). layouts (whole place (KnownTag tag) later))
        next true = unfold named in record { defined = t.defined; read = t.read; measured = t.measured; bounded = t.bounded; means = same }
        next false = unfold named in record { defined = t.defined; read = t.read; measured = t.measured; bounded = t.bounded; means = same }

    top_component : (number : ℕ) → Stepped TopLevel names layouts place (OpensComponent number) (step_of (looks_in names) TopLevel place (OpensComponent number))
    unfolding step_of on_component at_top_lem looks_in named
    top_component number = go (component_in names.components number)
      where
        begun : OpenTree (opens (OfComponent number) place).owner (λ (later : Records). layouts (whole place (OpensComponent number) later)) t.defined t.read closed []
        begun =
            unfold opens in
            record {
              declares = component number;
              sort = declares_component number;
              means = λ later behind levels n h.
                  t.means (whole place (OpensComponent number) later)
                  ∙ ap (layouts_after t.defined t.read) (opening_declares (whole place (OpensComponent number) later) (component number) (λ items after g. declared-component place later number g) n h);
            }

        go : (l : Option Component) → Stepped TopLevel names layouts place (OpensComponent number) (once_component l place (Ok ((Inside (opens (OfComponent number) place)), Unchanged)))
        go None = unfold once_component in goes (within t.measured t.bounded begun (counted-opens t.defined (OfComponent number) place)) (unfold things_of open_after opens depth_of in refl)
        go (Some c) = unfold once_component in refuses twice

    top_message : (msg_type : ℕ) → Stepped TopLevel names layouts place (OpensMessage msg_type) (step_of (looks_in names) TopLevel place (OpensMessage msg_type))
    unfolding step_of on_message at_top_lem looks_in named
    top_message msg_type = go (message_in names.messages msg_type)
      where
        begun : OpenTree (opens OfMessage place).owner (λ (later : Records). layouts (whole place (OpensMessage msg_type) later)) t.defined t.read closed []
        begun =
            unfold opens in
            record {
              declares = message (msg_type_bytes msg_type);
              sort = declares_message (msg_type_bytes msg_type);
              means = λ later behind levels n h.
                  t.means (whole place (OpensMessage msg_type) later)
                  ∙ ap (layouts_after t.defined t.read) (opening_declares (whole place (OpensMessage msg_type) later) (message (msg_type_bytes msg_type)) (λ items after g. declared-message place later msg_type g) n h);
            }

        go : (p : Option ℕ) → Stepped TopLevel names layouts place (OpensMessage msg_type) (once_message p place (Ok ((Inside (opens OfMessage place)), (NamesMessage place msg_type))))
        go None = unfold once_message in goes (within t.measured t.bounded begun (counted-opens t.defined OfMessage place)) (unfold things_of open_after opens depth_of in refl)
        go (Some earlier) = unfold once_message in refuses twice

  -- inside something open
  module _ (o : Open) (defined : List Defined) (read : List Layout) (level : Items) (groups : List OpenGroup) (measured : AllMeasured names defined) (bounded : Each Bounded read) (t : OpenTree o.owner layouts defined read level groups) (c : Counted o defined level groups) where
    as_open : things_of (Inside o) ≡ suc (length groups)
    unfolding things_of
    as_open = ap suc c.nests

    inside-field : (tag : ℕ) (required : Bool) → Stepped (Inside o) names layouts place (FieldItem tag required) (step_of (looks_in names) (Inside o) place (FieldItem tag required))
    unfolding step_of on_field inside known_before not_too_many looks_in named grown
    inside-field tag required =
        let next = tree_field o.owner layouts defined read level groups place tag required t in
        picked (Inside o) (FieldItem tag required) (is_known names.tags tag) _ _
        (λ k. picked (Inside o) (FieldItem tag required) (ltb 1024 (o.items + 1)) _ _
        (λ m. refuses (holds_too_many (latest_off o.owner _ defined read _ OverThousand groups _ next (unfold open_after in as_open) (omega (arith, ltb-true 1024 (o.items + 1) m, field-whole defined c tag required), field-shallow defined c tag required))))
        (λ m. goes (within measured bounded next (counted-field defined c tag required Several (ltb-false 1024 (o.items + 1) m))) (unfold things_of open_after grown in refl)))
        (λ k. refuses unknown_tag)

    inside-component : (number : ℕ) (required : Bool) → Stepped (Inside o) names layouts place (ComponentItem required number) (step_of (looks_in names) (Inside o) place (ComponentItem required number))
    unfolding step_of on_item inside looks_in named grown
    inside-component number required = go (component_in names.components number) refl
      where
        next : OpenTree o.owner (λ (later : Records). layouts (whole place (ComponentItem required number) later)) defined read (continued level (component_then_lem number required closed)) groups
        next = tree_component o.owner layouts defined read level groups place number required t

        over : (P : Layout → Type 0) → P (flat defined (wrapped groups (continued level (component_then_lem number required closed)))) → Latest P (layouts (whole place (ComponentItem required number) (closes (open_after (ComponentItem required number) (things_of (Inside o))) (ends 0))))
        over P p = latest_off o.owner _ defined read _ P groups _ next (unfold open_after in as_open) p

        go : (l : Option Component) → component_in names.components number ≡ l →
            Stepped (Inside o) names layouts place (ComponentItem required number) (closed_before l number (λ d. not_too_deep (depth_of
            o.groups + d.depth) place (not_too_many (o.items + d.items) place (Ok (
              Inside (grown o (o.items + d.items) (deeper o.depth (depth_of
                  o.groups + d.depth)) (held_with o.held d) o.groups),
              Unchanged,
            )))))
        go None e = unfold closed_before in refuses no_component
        go (Some d) e =
            let m = measured number d e in
            unfold closed_before not_too_deep not_too_many in
            picked (Inside o) (ComponentItem required number) (ltb 4 (depth_of o.groups + d.depth)) _ _
            (λ h. refuses (nests_too_deep (over FiveDeep (omega (arith, ltb-true 4 (depth_of o.groups + d.depth) h, component-deep defined c number required, m.deep)))))
            (λ h. picked (Inside o) (ComponentItem required number) (ltb 1024 (o.items + d.items)) _ _
            (λ k. refuses (holds_too_many (over OverThousand (omega (arith, ltb-true 1024 (o.items + d.items) k, component-whole defined c number required, m.count), component-shallow defined c number required (omega (arith, ltb-false 4 (depth_of o.groups + d.depth) h, m.deep))))))
            (λ k. goes (within measured bounded next (counted-component defined c number required d.items d.depth (held_with o.held d) m.count
            m.deep m.filled (ltb-false 4 (depth_of o.groups + d.depth) h) (ltb-false 1024 (o.items + d.items) k)))
            (unfold things_of open_after grown in refl)))

    inside-group : (tag : ℕ) (required : Bool) → Stepped (Inside o) names layouts place (OpensGroup tag required) (step_of (looks_in names) (Inside o) place (OpensGroup tag required))
    unfolding step_of on_group inside known_before not_too_deep not_too_many looks_in named grown
    inside-group tag required =
        picked (Inside o) (OpensGroup tag required) (is_known names.tags tag) _ _
        (λ k. picked (Inside o) (OpensGroup tag required) (ltb 4 (depth_of o.groups + 1)) _ _
        (λ h. refuses (nests_too_deep (over FiveDeep (omega (arith, ltb-true 4 (depth_of o.groups + 1) h, group-deep defined c tag required, larger-second o.depth (depth_of o.groups + 1))))))
        (λ h. picked (Inside o) (OpensGroup tag required) (ltb 1024 (o.items + 1)) _ _
        (λ m. refuses (holds_too_many (over OverThousand (omega (arith, ltb-true 1024 (o.items + 1) m, group-whole defined c tag required), group-shallow defined c tag required (ltb-false 4 (depth_of o.groups + 1) h)))))
        (λ m. goes (within measured bounded next (counted-group defined c tag required Several (ltb-false 4 (depth_of o.groups + 1) h) (ltb-false 1024 (o.items + 1) m))) (things (ltb-false 4 (depth_of o.groups + 1) h)))))
        (λ k. refuses unknown_tag)
      where
        next : OpenTree o.owner (λ (later : Records). layouts (whole place (OpensGroup tag required) later)) defined read closed (record { before = level; tag = tag; required = required } ∷ groups)
        next = tree_group o.owner layouts defined read level groups place tag required t

        one_more : open_after (OpensGroup tag required) (things_of (Inside o)) ≡ suc (suc (length groups))
        one_more = unfold open_after in omega (arith, as_open)

        over : (P : Layout → Type 0) → P (flat defined (wrapped groups (continued level (group_then_lem tag required closed closed)))) → Latest P (layouts (whole place (OpensGroup tag required) (closes (open_after (OpensGroup tag required) (things_of (Inside o))) (ends 0))))
        over P p = latest_off o.owner _ defined read closed P (record { before = level; tag = tag; required = required } ∷ groups) _ next one_more (unfold wrapped in p)

        things : depth_of o.groups + 1 ≤ 4 → things_of (Inside (grown o (o.items + 1) (deeper o.depth (depth_of o.groups + 1)) Several (opened (record { tag = tag; since = o.items + 1 }) o.groups))) ≡ open_after (OpensGroup tag required) (things_of (Inside o))
        things h = unfold things_of open_after in omega (arith, (listed-opened (record { tag = tag; since = o.items + 1 }) o.groups h).1)

-- what a close closes: the owner, or the innermost group
data Innermost (o : Open) (groups : Groups) : Type 0 where
  the_owner : groups ≡ NoGroup → Innermost o groups
  a-group : (counted : Group) (others : Groups) → closes_innermost o groups ≡ closes_group o counted others → listed groups ≡ counted ∷ listed others → depth_of groups ≡ suc (depth_of others) → Innermost o groups

innermost-of : (o : Open) (groups : Groups) → Innermost o groups
unfolding closes_innermost listed depth_of
innermost-of o NoGroup = the_owner refl
innermost-of o (OneGroup a) = a-group a NoGroup refl refl refl
innermost-of o (TwoGroups a b) = a-group a (OneGroup b) refl refl refl
innermost-of o (ThreeGroups a b c) = a-group a (TwoGroups b c) refl refl refl
innermost-of o (FourGroups a b c d) = a-group a (ThreeGroups b c d) refl refl refl

module _ (names : Names) (layouts : Records → List Layout) (place : ℕ) (o : Open) (defined : List Defined) (read : List Layout) (level : Items) (measured : AllMeasured names defined) (bounded : Each Bounded read) where
  -- the owner closes: its numbers are those of its layout
  owner_closes : OpenTree o.owner layouts defined read level [] → Counted o defined level [] → Stepped (Inside o) names layouts place Closes (closes_owner o o.owner)
  unfolding closes_owner named defined_by
  owner_closes t c = go o.owner t.declares t.sort (tree_owner o.owner layouts defined read level place t)
    where
      count : o.items ≡ items (flat defined level)
      count = sym (unfold wrapped in count-whole defined c)

      deep : o.depth ≡ depth (flat defined level)
      deep = unfold wrapped in c.deep

      all : Each Bounded (flat defined level ∷ read)
      all = let f = c.few in let s = c.shallow in each_more {layout = flat defined level} (record { shallow = omega (arith, deep); few = omega (arith, count); filled = c.filled }) bounded

      none_left : things_of TopLevel ≡ open_after Closes (things_of (Inside o))
      none_left = unfold things_of open_after in omega (arith, c.nests)

      go : (owner : Owner) (declares : Items → Declaration) → Declares owner declares → ((later : Records) → layouts (whole place Closes later)
          ≡ layouts_after (defined_by defined (declares level)) (flat defined level ∷ read) (declarations_of later)) →
          Stepped (Inside o) names layouts place Closes (closes_owner o owner)
      go owner declares (declares_component number) means =
          goes (at_top (record {
            defined = defined_by defined (component number level);
            read = flat defined level ∷ read;
            measured = measured-more names defined (record { number = number; place = o.place; items = o.items; depth = o.depth; stands = stands_for number o.held }) level measured (record { count = count; deep = deep; filled = c.filled });
            bounded = all;
            means = means;
          })) none_left
      go owner declares (declares_message msg_type) means =
          goes (at_top (record {
            defined = defined;
            read = flat defined level ∷ read;
            measured = measured;
            bounded = all;
            means = means;
          })) none_left

  -- a group closes
  group-closes : (g : OpenGroup) (groups : List OpenGroup) (counted : Group) (others : Groups) → listed o.groups ≡ counted ∷ listed others →
      depth_of o.groups ≡ suc (depth_of others) → OpenTree o.owner layouts defined read level (g ∷ groups) → Counted o defined level (g ∷ groups) →
      Stepped (Inside o) names layouts place Closes (closes_group o counted others)
  unfolding closes_group not_empty named grown
  group-closes g groups counted others l d t c =
      picked names layouts place (Inside o) Closes (eqb o.items counted.since) _ _
      (λ e. refuses (closes_an_empty refl
      (latest_off o.owner layouts defined read level (InnermostOpen counted.tag end (things_of (Inside o) - 1)) (g ∷ groups) (things_of (Inside o)) t as_many (none-held e))
      (latest_off o.owner _ defined read _ (InnermostOpen counted.tag end (things_of (Inside o) - 1)) groups _ (tree_close o.owner layouts defined read level g groups place t) one-closed (unfold wrapped in none-held e))))
      (λ e. goes (within measured bounded (tree_close o.owner layouts defined read level g groups place t) (counted-close defined c counted others l d (eqb-false o.items counted.since e))) one_left)
    where
      as_many : things_of (Inside o) ≡ suc (suc (length groups))
      as_many = unfold things_of in ap suc c.nests

      one_less : suc (length groups) ≡ things_of (Inside o) - 1
      one_less = omega (arith, as_many)

      one-closed : open_after Closes (things_of (Inside o)) ≡ suc (length groups)
      one-closed = unfold open_after in omega (arith, as_many)

      none-held : eqb o.items counted.since ≡ true → InnermostOpen counted.tag end (things_of (Inside o) - 1) (flat defined (wrapped (g ∷ groups) level))
      none-held e = subst (λ (n : ℕ). InnermostOpen counted.tag end n (flat defined (wrapped (g ∷ groups) level))) one_less (closes-empty defined c counted others l d (eqb-true o.items counted.since e))

      one_left : things_of (Inside (grown o o.items o.depth o.held others)) ≡ open_after Closes (things_of (Inside o))
      one_left = unfold things_of open_after in omega (arith, d)

  pub inside-close : (groups : List OpenGroup) → OpenTree o.owner layouts defined read level groups → Counted o defined level groups → Stepped (Inside o) names layouts place Closes (step_of (looks_in names) (Inside o) place Closes)
  unfolding step_of on_close inside
  inside-close groups t c = go (innermost-of o o.groups) groups t c
    where
      go : Innermost o o.groups → (groups : List OpenGroup) → OpenTree o.owner layouts defined read level groups → Counted o defined level groups → Stepped (Inside o) names layouts place Closes (closes_innermost o o.groups)
      go (the_owner e) [] t c =
          let own : Stepped (Inside o) names layouts place Closes (closes_innermost o NoGroup) = (unfold closes_innermost in owner_closes t c) in
          subst (λ (groups : Groups). Stepped (Inside o) names layouts place Closes (closes_innermost o groups)) (sym e) own
      go (the_owner e) (g ∷ groups) t c = absurd (omega (arith, c.nests, ap depth_of e, no_depth))
        where
          no_depth : depth_of NoGroup ≡ 0
          no_depth = unfold depth_of in refl
      go (a-group counted others s l d) [] t c = absurd (omega (arith, c.nests, d))
      go (a-group counted others s l d) (g ∷ groups) t c = subst (λ (step : Result (State × Note) Checked). Stepped (Inside o) names layouts place Closes step) (sym s) (group-closes g groups counted others l d t c)

-- every record
pub step_beside : (state : State) (names : Names) (layouts : Records → List Layout) (place : ℕ) (r : Record) → Beside state names layouts → Stepped state names layouts place r (step_of (looks_in names) state place r)
step_beside TopLevel names layouts place (KnownTag tag) (at_top t) = top_tag names layouts place t tag
step_beside TopLevel names layouts place (OpensComponent number) (at_top t) = top_component names layouts place t number
step_beside TopLevel names layouts place (OpensMessage msg_type) (at_top t) = top_message names layouts place t msg_type
step_beside TopLevel names layouts place (FieldItem tag required) (at_top t) = unfold step_of on_field inside in refuses bad_record
step_beside TopLevel names layouts place (ComponentItem required number) (at_top t) = unfold step_of on_item inside in refuses bad_record
step_beside TopLevel names layouts place (OpensGroup tag required) (at_top t) = unfold step_of on_group inside in refuses bad_record
step_beside TopLevel names layouts place Closes (at_top t) = unfold step_of on_close inside in refuses bad_record
step_beside (Inside o) names layouts place (KnownTag tag) (within m b t c) = unfold step_of on_tag at_top_lem in refuses bad_record
step_beside (Inside o) names layouts place (OpensComponent number) (within m b t c) = unfold step_of on_component at_top_lem in refuses bad_record
step_beside (Inside o) names layouts place (OpensMessage msg_type) (within m b t c) = unfold step_of on_message at_top_lem in refuses bad_record
step_beside (Inside o) names layouts place (FieldItem tag required) (within {defined} {read} {level} {groups} m b t c) = inside-field names layouts place o defined read level groups m b t c tag required
step_beside (Inside o) names layouts place (ComponentItem required number) (within {defined} {read} {level} {groups} m b t c) = inside-component names layouts place o defined read level groups m b t c number required
step_beside (Inside o) names layouts place (OpensGroup tag required) (within {defined} {read} {level} {groups} m b t c) = inside-group names layouts place o defined read level groups m b t c tag required
step_beside (Inside o) names layouts place Closes (within {defined} {read} {level} {groups} m b t c) = inside-close names layouts place o defined read level m b groups t c
