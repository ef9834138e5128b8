-- A check that passes, one record at a time: what each record of something open did, since it wasn't refused.
use Rattle.std.proofs.Math.Path.{◌≡◌, refl, ap}
use Rattle.std.proofs.Common.{sym, ◌∙◌, ⊎_elim, arith}
use Rattle.std.specs.Prelude.{Bool, ◌⊎◌, List, [], ◌∷◌, ℕ, zero, suc, ◌+◌, ◌-◌, ◌*◌, ◌≤◌, ◌<◌, ltb, Option, Some, None, Result, Ok, Err}
use Rattle.std.proofs.Math.Bool.{true, false}
use Rattle.std.proofs.Math.Logic.{inl, inr}
use Rattle.std.proofs.Math.Dec.{eqb}
use borrow.Author.Tests.{ltb-false, eqb-true}
use Rattle.field_rules.specs.Choice.{pick}
use Rattle.dictionary_rules.specs.Records.{Records, ends, bad, whole}
use Rattle.dictionary_rules.specs.declared.Record.{Record}
use Rattle.dictionary_rules.specs.declared.Record.TheVariants.{KnownTag, OpensComponent, OpensMessage, FieldItem, ComponentItem, OpensGroup, Closes}
use Rattle.dictionary_rules.specs.Names.{Looks}
use Rattle.dictionary_rules.specs.Step.{depth_of, opened, deeper, opens, grown, held_also, held_with, stands_for, at_top_lem, inside, closed_before, known_before, not_empty, not_too_deep, once_component, once_message, not_too_many, on_tag, on_component, on_message, on_field, on_item, on_group, closes_owner, closes_group, closes_innermost, on_close, step_of, present, at_end}
use Rattle.dictionary_rules.specs.Check.{CheckOutcome, outcome, on_step, walked}
use Rattle.dictionary_rules.specs.Names.{Names, is_known, component_in, message_in, looks_in, named}
use Rattle.dictionary_rules.specs.declared.Checked.{Checked}
use Rattle.dictionary_rules.specs.declared.Checked.TheVariants.{Passes, BadRecord, NoComponent, UnknownTag, EmptyGroup, TooDeep, Twice, TooManyItems}
use Rattle.dictionary_rules.specs.declared.Component.{Component}
use Rattle.dictionary_rules.specs.declared.Group.{Group}
use Rattle.dictionary_rules.specs.declared.Groups.{Groups}
use Rattle.dictionary_rules.specs.declared.Groups.TheVariants.{NoGroup, OneGroup, TwoGroups, ThreeGroups, FourGroups}
use Rattle.dictionary_rules.specs.declared.Held.{Held}
use Rattle.dictionary_rules.specs.declared.Held.TheVariants.{Empty, Only, Several}
use Rattle.dictionary_rules.specs.declared.Owner.{Owner}
use Rattle.dictionary_rules.specs.declared.Owner.TheVariants.{OfComponent, OfMessage}
use Rattle.dictionary_rules.specs.declared.Open.{Open}
use Rattle.dictionary_rules.specs.declared.State.{State}
use Rattle.dictionary_rules.specs.declared.State.TheVariants.{TopLevel, Inside}
use Rattle.dictionary_rules.specs.declared.Note.{Note}
use Rattle.dictionary_rules.specs.declared.Note.TheVariants.{Unchanged, ClosesComponent, KnowsTag, NamesMessage}

-- the records from here on pass, and in the end these are the names
abbrev pub Passing : Names → Records → State → Names → Type 0
Passing final records state names = walked looks_in named records state names ≡ outcome Passes final

-- an answer that is none of passing
refused : {A : Type 0} (checked : Checked) {names final : Names} → (checked ≡ Passes → ⊥) → outcome checked names ≡ outcome Passes final → A
refused checked n e = let same : checked ≡ Passes = cc in absurd (n same)

-- what is noted when something closes that no group is open in
unfoldable pub note_of : Open → Owner → Note
note_of o (OfComponent number) = ClosesComponent (record { number = number; place = o.place; items = o.items; depth = o.depth; stands = stands_for number o.held })
note_of o OfMessage = Unchanged

-- what a known tag does: the names have it, once, and nothing else is new
pub record TagGoes (final : Names) (rest : Records) (names : Names) (tag : ℕ) : Type 0 where
  pub later : Names
  pub components : later.components ≡ names.components
  pub messages : later.messages ≡ names.messages
  pub tags : (t : ℕ) → is_known later.tags t ≡ pick (eqb t tag) true (is_known names.tags t)
  pub passes : Passing final rest TopLevel later

module _ (final : Names) (place : ℕ) (rest : Records) (names : Names) where
  abbrev goes_on : State → Note → CheckOutcome Names
  goes_on state note = walked looks_in named rest state (named names note)

  abbrev after : Result (State × Note) Checked → Type 0
  after step = on_step names step goes_on ≡ outcome Passes final

  unless : {A : Type 0} (b : Bool) (then other : Result (State × Note) Checked) → (b ≡ true → after then → A) → (b ≡ false → after other → A) → after (pick b then other) → A
  unless true then other t f e = t refl e
  unless false then other t f e = f refl e

  never : {A : Type 0} (checked : Checked) → (checked ≡ Passes → ⊥) → after (Err checked) → A
  unfolding on_step
  never checked n e = refused checked n e

  -- a record that goes on with nothing to note
  went : (state : State) → after (Ok (state, Unchanged)) → Passing final rest state names
  unfolding on_step named
  went state e = e

  module _ (o : Open) where
    -- "field item"
    pub field-goes : (tag : ℕ) (required : Bool) → Passing final (whole place (FieldItem tag required) rest) (Inside o) names →
        (o.items + 1 ≤ 1024) × Passing final rest (Inside (grown o (o.items + 1) o.depth Several o.groups)) names
    unfolding walked step_of on_field inside known_before not_too_many looks_in
    field-goes tag required e =
        unless (is_known names.tags tag) _ _
        (λ k. unless (ltb 1024 (o.items + 1)) _ _ (λ m. never (TooManyItems place) (λ z. let w : ◌≡◌ {A = ℕ} 0 1 = cc in absurd (omega arith))) (λ m q. (ltb-false _ _ m, went _ q)))
        (λ k. never (UnknownTag tag) (λ z. let w : ◌≡◌ {A = ℕ} 0 1 = cc in absurd (omega arith)))
        e

    -- "group opens"
    pub group-goes : (tag : ℕ) (required : Bool) → Passing final (whole place (OpensGroup tag required) rest) (Inside o) names →
        (depth_of o.groups + 1 ≤ 4) × (o.items + 1 ≤ 1024) × Passing final rest (Inside (grown o (o.items + 1) (deeper o.depth (depth_of o.groups + 1)) Several (opened (record { tag = tag; since = o.items + 1 }) o.groups))) names
    unfolding walked step_of on_group inside known_before not_too_deep not_too_many looks_in
    group-goes tag required e =
        unless (is_known names.tags tag) _ _
        (λ k. unless (ltb 4 (depth_of o.groups + 1)) _ _ (λ d. never (TooDeep place) (λ z. let w : ◌≡◌ {A = ℕ} 0 1 = cc in absurd (omega arith))) (λ d. unless (ltb 1024 (o.items + 1)) _ _ (λ m. never (TooManyItems place) (λ z. let w : ◌≡◌ {A = ℕ} 0 1 = cc in absurd (omega arith))) (λ m q. (ltb-false _ _ d, ltb-false _ _ m, went _ q))))
        (λ k. never (UnknownTag tag) (λ z. let w : ◌≡◌ {A = ℕ} 0 1 = cc in absurd (omega arith)))
        e

    -- "component item"
    pub item-goes : (number : ℕ) (required : Bool) → Passing final (whole place (ComponentItem required number) rest) (Inside o) names →
        (c : Component) × (component_in names.components number ≡ Some c) × (o.items + c.items ≤ 1024) × Passing final rest (Inside (grown o (o.items + c.items) (deeper o.depth (depth_of o.groups + c.depth)) (held_with o.held c) o.groups)) names
    unfolding walked step_of on_item inside closed_before not_too_deep not_too_many looks_in
    item-goes number required e = go (component_in names.components number) refl e
      where
        go : (l : Option Component) → component_in names.components number ≡ l → after (closed_before l number (λ c. not_too_deep (depth_of o.groups + c.depth) place (not_too_many (o.items + c.items) place (Ok ((Inside (grown o (o.items + c.items) (deeper o.depth (depth_of o.groups + c.depth)) (held_with o.held c) o.groups)), Unchanged))))) →
            (c : Component) × (component_in names.components number ≡ Some c) × (o.items + c.items ≤ 1024) × Passing final rest (Inside (grown o (o.items + c.items) (deeper o.depth (depth_of o.groups + c.depth)) (held_with o.held c) o.groups)) names
        go None l q = never (NoComponent number) (λ z. let w : ◌≡◌ {A = ℕ} 0 1 = cc in absurd (omega arith)) q
        go (Some c) l q =
            unless (ltb 4 (depth_of o.groups + c.depth)) _ _ (λ d. never (TooDeep place) (λ z. let w : ◌≡◌ {A = ℕ} 0 1 = cc in absurd (omega arith))) (λ d. unless (ltb 1024 (o.items + c.items)) _ _ (λ m. never (TooManyItems place) (λ z. let w : ◌≡◌ {A = ℕ} 0 1 = cc in absurd (omega arith))) (λ m w. (c, l, ltb-false _ _ m, went _ w))) q

    -- what stands at top level isn't inside anything
    pub known-stops : {A : Type 0} (tag : ℕ) → Passing final (whole place (KnownTag tag) rest) (Inside o) names → A
    unfolding walked step_of on_tag at_top_lem
    known-stops tag e = never (BadRecord place) (λ z. let w : ◌≡◌ {A = ℕ} 0 1 = cc in absurd (omega arith)) e

    pub component-stops : {A : Type 0} (number : ℕ) → Passing final (whole place (OpensComponent number) rest) (Inside o) names → A
    unfolding walked step_of on_component at_top_lem
    component-stops number e = never (BadRecord place) (λ z. let w : ◌≡◌ {A = ℕ} 0 1 = cc in absurd (omega arith)) e

    pub message-stops : {A : Type 0} (msg_type : ℕ) → Passing final (whole place (OpensMessage msg_type) rest) (Inside o) names → A
    unfolding walked step_of on_message at_top_lem
    message-stops msg_type e = never (BadRecord place) (λ z. let w : ◌≡◌ {A = ℕ} 0 1 = cc in absurd (omega arith)) e

    -- what a close closes: the owner, or the innermost group
    abbrev CloseGoes : Type 0
    CloseGoes = ((o.groups ≡ NoGroup) × Passing final rest TopLevel (named names (note_of o o.owner))) ⊎ ((groups : Groups) × (depth_of o.groups ≡ 1 + depth_of groups) × Passing final rest (Inside (grown o o.items o.depth o.held groups)) names)

    owner_goes : (owner : Owner) → after (closes_owner o owner) → Passing final rest TopLevel (named names (note_of o owner))
    unfolding closes_owner note_of on_step
    owner_goes (OfComponent number) e = e
    owner_goes OfMessage e = e

    group-closes : (group : Group) (groups : Groups) → after (closes_group o group groups) → Passing final rest (Inside (grown o o.items o.depth o.held groups)) names
    unfolding closes_group not_empty
    group-closes group groups e = unless (eqb o.items group.since) _ _ (λ z. never (EmptyGroup group.tag) (λ z. let w : ◌≡◌ {A = ℕ} 0 1 = cc in absurd (omega arith))) (λ z q. went _ q) e

    pub close-goes : Passing final (whole place Closes rest) (Inside o) names → CloseGoes
    unfolding walked step_of on_close inside
    close-goes e = go o.groups refl e
      where
        go : (g : Groups) → o.groups ≡ g → after (closes_innermost o g) → CloseGoes
        go NoGroup g q = inl (g, owner_goes o.owner (unfold closes_innermost in q))
        go (OneGroup a) g q = inr (NoGroup, (ap depth_of g ∙ (unfold depth_of in refl)), group-closes a NoGroup (unfold closes_innermost in q))
        go (TwoGroups a b) g q = inr (OneGroup b, (ap depth_of g ∙ (unfold depth_of in refl)), group-closes a (OneGroup b) (unfold closes_innermost in q))
        go (ThreeGroups a b c) g q = inr (TwoGroups b c, (ap depth_of g ∙ (unfold depth_of in refl)), group-closes a (TwoGroups b c) (unfold closes_innermost in q))
        go (FourGroups a b c d) g q = inr (ThreeGroups b c d, (ap depth_of g ∙ (unfold depth_of in refl)), group-closes a (ThreeGroups b c d) (unfold closes_innermost in q))

  -- at top level: a known tag, a component or a message that opens, and no item
  pub tag-goes : (tag : ℕ) → Passing final (whole place (KnownTag tag) rest) TopLevel names → TagGoes final rest names tag
  unfolding walked step_of on_tag at_top_lem looks_in on_step named is_known
  tag-goes tag e = go (is_known names.tags tag) refl e
    where
      go : (k : Bool) → is_known names.tags tag ≡ k → on_step names (Ok (TopLevel, (pick k Unchanged (KnowsTag place tag)))) goes_on ≡ outcome Passes final → TagGoes final rest names tag
      go true k q = record { later = names; components = refl; messages = refl; tags = λ t. again t (eqb t tag) refl; passes = q }
        where
          again : (t : ℕ) (b : Bool) → eqb t tag ≡ b → is_known names.tags t ≡ pick b true (is_known names.tags t)
          again t true e = ap (is_known names.tags) (eqb-true t tag e) ∙ k
          again t false e = refl
      go false k q = record { later = record { tags = tag ∷ names.tags; components = names.components; messages = names.messages }; components = refl; messages = refl; tags = λ t. refl; passes = q }

  pub component-opens : (number : ℕ) → Passing final (whole place (OpensComponent number) rest) TopLevel names → (component_in names.components number ≡ None) × Passing final rest (Inside (opens (OfComponent number) place)) names
  unfolding walked step_of on_component at_top_lem looks_in
  component-opens number e = go (component_in names.components number) refl e
    where
      go : (l : Option Component) → component_in names.components number ≡ l → after (once_component l place (Ok ((Inside (opens (OfComponent number) place)), Unchanged))) → (component_in names.components number ≡ None) × Passing final rest (Inside (opens (OfComponent number) place)) names
      go None l q = (l, went _ (unfold once_component in q))
      go (Some c) l q = never (Twice place) (λ z. let w : ◌≡◌ {A = ℕ} 0 1 = cc in absurd (omega arith)) (unfold once_component in q)

  pub message-opens : (msg_type : ℕ) → Passing final (whole place (OpensMessage msg_type) rest) TopLevel names → (message_in names.messages msg_type ≡ None) × Passing final rest (Inside (opens OfMessage place)) (named names (NamesMessage place msg_type))
  unfolding walked step_of on_message at_top_lem looks_in
  message-opens msg_type e = go (message_in names.messages msg_type) refl e
    where
      go : (l : Option ℕ) → message_in names.messages msg_type ≡ l → after (once_message l place (Ok ((Inside (opens OfMessage place)), (NamesMessage place msg_type)))) → (message_in names.messages msg_type ≡ None) × Passing final rest (Inside (opens OfMessage place)) (named names (NamesMessage place msg_type))
      go None l q = (l, unfold once_message on_step in q)
      go (Some earlier) l q = never (Twice place) (λ z. let w : ◌≡◌ {A = ℕ} 0 1 = cc in absurd (omega arith)) (unfold once_message in q)

  pub field-stops : {A : Type 0} (tag : ℕ) (required : Bool) → Passing final (whole place (FieldItem tag required) rest) TopLevel names → A
  unfolding walked step_of on_field inside
  field-stops tag required e = never (BadRecord place) (λ z. let w : ◌≡◌ {A = ℕ} 0 1 = cc in absurd (omega arith)) e

  pub item-stops : {A : Type 0} (number : ℕ) (required : Bool) → Passing final (whole place (ComponentItem required number) rest) TopLevel names → A
  unfolding walked step_of on_item inside
  item-stops number required e = never (BadRecord place) (λ z. let w : ◌≡◌ {A = ℕ} 0 1 = cc in absurd (omega arith)) e

  pub group-stops : {A : Type 0} (tag : ℕ) (required : Bool) → Passing final (whole place (OpensGroup tag required) rest) TopLevel names → A
  unfolding walked step_of on_group inside
  group-stops tag required e = never (BadRecord place) (λ z. let w : ◌≡◌ {A = ℕ} 0 1 = cc in absurd (omega arith)) e

  pub close-stops : {A : Type 0} → Passing final (whole place Closes rest) TopLevel names → A
  unfolding walked step_of on_close inside
  close-stops e = never (BadRecord place) (λ z. let w : ◌≡◌ {A = ℕ} 0 1 = cc in absurd (omega arith)) e

module _ (final names : Names) where
  pub bad-stops : {A : Type 0} (place : ℕ) (state : State) → Passing final (bad place) state names → A
  unfolding walked
  bad-stops place state e = refused (BadRecord place) (λ z. let w : ◌≡◌ {A = ℕ} 0 1 = cc in absurd (omega arith)) e

  pub end-stops : {A : Type 0} (size : ℕ) (o : Open) → Passing final (ends size) (Inside o) names → A
  unfolding walked at_end
  end-stops size o e = refused (BadRecord size) (λ z. let w : ◌≡◌ {A = ℕ} 0 1 = cc in absurd (omega arith)) e

  -- at the end the names are the last ones, and components 0 and 1 are among them
  pub end_passes : (size : ℕ) → Passing final (ends size) TopLevel names → (names ≡ final) × ((c : Component) × (component_in names.components 0 ≡ Some c)) × ((c : Component) × (component_in names.components 1 ≡ Some c))
  unfolding walked at_end looks_in
  end_passes size e = go (component_in names.components 0) (component_in names.components 1) refl refl e
    where
      go : (a b : Option Component) → component_in names.components 0 ≡ a → component_in names.components 1 ≡ b → outcome (present a 0 (present b 1 Passes)) names ≡ outcome Passes final → (names ≡ final) × ((c : Component) × (component_in names.components 0 ≡ Some c)) × ((c : Component) × (component_in names.components 1 ≡ Some c))
      go None b p q r = unfold present in refused (NoComponent 0) (λ z. let w : ◌≡◌ {A = ℕ} 0 1 = cc in absurd (omega arith)) r
      go (Some a) None p q r = unfold present in refused (NoComponent 1) (λ z. let w : ◌≡◌ {A = ℕ} 0 1 = cc in absurd (omega arith)) r
      go (Some a) (Some b) p q r = let same : names ≡ final = (unfold present in cc) in (same, (a, p), (b, q))
