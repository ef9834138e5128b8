-- The check over the lent index answers as the check does, and leaves in the index what the dictionary names.
use Rattle.std.specs.Prelude.{◌≡◌, Bool, List, ◌++◌, ℕ, ◌+◌, ◌≤◌, ◌<◌, length, replicate, eqb, ltb}
use Rattle.std.proofs.Math.Path.{refl, ap}
use Rattle.std.proofs.Common.{sym, subst, lt-ltb, le-ltb, ltb-false, Option, Some, None, Result, Ok, Err}
use Rattle.std.proofs.Math.Bool.{true, false}
use native.Mathlib.Omega.{arith}
use Rattle.std.proofs.Math.ListN.{drop}
use Rattle.field_rules.specs.Choice.{pick}
use Rattle.dictionary_chains.specs.Chain.{head_words, index_words, number_at}
use Rattle.dictionary_rules.specs.Records.{Records, records_from}
use Rattle.dictionary_rules.specs.RecordsLaws.{size_of, Spaced, at_last, at-bad, at_next, spaced}
use Rattle.dictionary_rules.specs.declared.Record.{Record}
use Rattle.dictionary_rules.specs.declared.Record.TheVariants.{KnownTag, OpensComponent, OpensMessage, FieldItem, ComponentItem, OpensGroup, Closes}
use Rattle.dictionary_rules.specs.Step.{depth_of, opens, deeper, grown, held_with, at_top_lem, inside, closed_before, known_before, not_empty, not_too_deep}
use Rattle.dictionary_rules.specs.Step.{not_too_many, once_component, once_message, on_tag, on_component, on_message, on_field, on_item, on_group, closes_owner}
use Rattle.dictionary_rules.specs.Step.{closes_group, closes_innermost, on_close, step_of, at_end}
use Rattle.dictionary_rules.specs.Check.{CheckOutcome, outcome, on_step, walked, too_long, read_of, answer_of, store_of, check_of}
use Rattle.dictionary_rules.specs.Check.{prepared_of}
use Rattle.dictionary_rules.specs.Index.{looks_at, noted}
use Rattle.dictionary_rules.specs.Agreement.{Agrees, knows-tag, closes-component, names_message, clear_agrees}
use Rattle.dictionary_rules.specs.declared.Checked.{Checked}
use Rattle.dictionary_rules.specs.declared.Checked.TheVariants.{Passes, TooLong}
use Rattle.dictionary_rules.specs.declared.Group.{Group}
use Rattle.dictionary_rules.specs.declared.Groups.{Groups}
use Rattle.dictionary_rules.specs.declared.Groups.TheVariants.{NoGroup, OneGroup, TwoGroups, ThreeGroups, FourGroups}
use Rattle.dictionary_rules.specs.declared.Owner.{Owner}
use Rattle.dictionary_rules.specs.declared.Owner.TheVariants.{OfComponent, OfMessage}
use Rattle.dictionary_rules.specs.declared.Open.{Open}
use Rattle.dictionary_rules.specs.declared.State.{State}
use Rattle.dictionary_rules.specs.declared.State.TheVariants.{TopLevel, Inside}
use Rattle.dictionary_rules.specs.declared.Note.{Note}
use Rattle.dictionary_rules.specs.declared.Note.TheVariants.{Unchanged, KnowsTag, ClosesComponent, NamesMessage}
use Rattle.dictionary_rules.specs.Names.{Names, is_known, component_in, message_in, looks_in, named, no_names}
use Rattle.dictionary_rules.specs.declared.Component.{Component}

-- a step looks up one thing at most, so it is the same where the answers are
module _ (index : List ℕ) (names : Names) (b : ℕ) (a : Agrees index names b) where
  same_step : (state : State) (place : ℕ) (r : Record) → step_of (looks_at index) state place r ≡ step_of (looks_in names) state place r
  unfolding step_of on_tag on_component on_message on_field on_item on_group looks_at looks_in
  same_step state place (KnownTag tag) = rw (a.tags tag)
  same_step state place (OpensComponent number) = rw (a.components number)
  same_step state place (OpensMessage msg_type) = rw (a.messages msg_type)
  same_step TopLevel place (FieldItem tag required) = unfold inside in refl
  same_step (Inside o) place (FieldItem tag required) = unfold inside in rw (a.tags tag)
  same_step TopLevel place (ComponentItem required number) = unfold inside in refl
  same_step (Inside o) place (ComponentItem required number) = unfold inside in rw (a.components number)
  same_step TopLevel place (OpensGroup tag required) = unfold inside in refl
  same_step (Inside o) place (OpensGroup tag required) = unfold inside in rw (a.tags tag)
  same_step state place Closes = refl

  same_end : (state : State) (size : ℕ) → at_end (looks_at index) state size ≡ at_end (looks_in names) state size
  unfolding at_end looks_at looks_in
  same_end TopLevel size = rw (a.components 0, a.components 1)
  same_end (Inside o) size = refl

-- what is open at a place leaves room for its own entry, and a component that is open is not named yet: no entry is newer than b
abbrev ReadyFor : Names → Owner → ℕ → ℕ → ℕ → Type 0
ReadyFor names (OfComponent number) opening b place =
    (opening < 60000) × (b ≤ opening) × (opening + 3 ≤ place) × (component_in names.components number ≡ None)
ReadyFor names OfMessage opening b place = b ≤ place

abbrev Ready : Names → State → ℕ → ℕ → Type 0
Ready names TopLevel b place = b ≤ place
Ready names (Inside o) b place = ReadyFor names o.owner o.place b place

-- what is noted is newer than every entry, and names what had no name
abbrev After : Names → State → Note → ℕ → ℕ → Type 0
After names state Unchanged b next = Ready names state b next
After names state (KnowsTag place tag) b next =
    (place < 60000) × (b + 4 ≤ number_at place) × Ready (named names (KnowsTag place tag)) state (number_at place) next
After names state (ClosesComponent c) b next =
    (c.place < 60000) × (b + 4 ≤ number_at c.place) × Ready (named names (ClosesComponent c)) state (number_at c.place) next
    × (component_in names.components c.number ≡ None)
After names state (NamesMessage place msg_type) b next =
    (place < 60000) × (b + 4 ≤ number_at place) × Ready (named names (NamesMessage place msg_type)) state (number_at place) next
    × (message_in names.messages msg_type ≡ None)

abbrev Fine : Names → ℕ → ℕ → Result (State × Note) Checked → Type 0
Fine names b next (Err checked) = Unit {0}
Fine names b next (Ok (state, note)) = After names state note b next

later : (names : Names) (owner : Owner) (opening b place next : ℕ) → place ≤ next → ReadyFor names owner opening b place → ReadyFor names owner opening b next
later names (OfComponent number) opening b place next h r = (r.0, r.1, omega (arith, r.2), r.3)
later names OfMessage opening b place next h r = omega (arith, r)

module _ (names : Names) (place b : ℕ) where
  fine_refuses : (t : Bool) (checked : Checked) (step : Result (State × Note) Checked) (next : ℕ) → Fine names b next step → Fine names b next (pick t (Err checked) step)
  fine_refuses true checked step next f = tt
  fine_refuses false checked step next f = f

  fine_known : (t : Bool) (checked : Checked) (step : Result (State × Note) Checked) (next : ℕ) → Fine names b next step → Fine names b next (pick t step (Err checked))
  fine_known true checked step next f = f
  fine_known false checked step next f = tt

  fine_owner : (o : Open) (owner : Owner) → ReadyFor names owner o.place b place → Fine names b (place + 1) (closes_owner o owner)
  unfolding closes_owner number_at
  fine_owner o (OfComponent number) r = (r.0, omega (arith, r.1), omega (arith, r.1, r.2), r.3)
  fine_owner o OfMessage r = omega (arith, r)

  fine_group : (o : Open) (g : Group) (groups : Groups) → ReadyFor names o.owner o.place b place → Fine names b (place + 1) (closes_group o g groups)
  unfolding closes_group not_empty grown
  fine_group o g groups r = fine_refuses (eqb o.items g.since) _ _ (place + 1) (later names o.owner o.place b place (place + 1) (omega arith) r)

  fine_close : (o : Open) (groups : Groups) → ReadyFor names o.owner o.place b place → Fine names b (place + 1) (closes_innermost o groups)
  unfolding closes_innermost
  fine_close o NoGroup r = fine_owner o o.owner r
  fine_close o (OneGroup x) r = fine_group o x _ r
  fine_close o (TwoGroups x y) r = fine_group o x _ r
  fine_close o (ThreeGroups x y z) r = fine_group o x _ r
  fine_close o (FourGroups x y z w) r = fine_group o x _ r

  fine_item : (o : Open) (looked : Option Component) (number : ℕ) → ReadyFor names o.owner o.place b place
      → Fine names b (place + 4) (closed_before looked number
      (λ c. not_too_deep (depth_of o.groups + c.depth) place
      (not_too_many (o.items + c.items) place
      (Ok ((Inside (grown o (o.items + c.items) (deeper o.depth (depth_of o.groups + c.depth)) (held_with o.held c) o.groups)), Unchanged)))))
  unfolding closed_before not_too_deep not_too_many grown
  fine_item o None number r = tt
  fine_item o (Some c) number r =
      fine_refuses (ltb 4 (depth_of o.groups + c.depth)) _ _ (place + 4)
      (fine_refuses (ltb 1024 (o.items + c.items)) _ _ (place + 4)
      (later names o.owner o.place b place (place + 4) (omega arith) r))

  fine_tag : (known : Bool) (tag : ℕ) → place < 60000 → b ≤ place → After names TopLevel (pick known Unchanged (KnowsTag place tag)) b (place + 5)
  unfolding number_at
  fine_tag true tag h r = omega arith
  fine_tag false tag h r = (h, omega arith, omega arith)

  fine_component : (looked : Option Component) (number : ℕ) → component_in names.components number ≡ looked → place < 60000 → b ≤ place
      → Fine names b (place + 3) (once_component looked place (Ok ((Inside (opens (OfComponent number) place)), Unchanged)))
  unfolding once_component opens
  fine_component None number e h r = (h, r, omega arith, e)
  fine_component (Some c) number e h r = tt

  fine_message : (placed : Option ℕ) (msg_type : ℕ) → message_in names.messages msg_type ≡ placed → place < 60000 → b ≤ place
      → Fine names b (place + 9) (once_message placed place (Ok ((Inside (opens OfMessage place)), (NamesMessage place msg_type))))
  unfolding once_message opens number_at
  fine_message None msg_type e h r = (h, omega arith, omega arith, e)
  fine_message (Some p) msg_type e h r = tt

  -- a record's own entry is newer than every entry before it, and names what had no name
  step_fine : (state : State) (r : Record) → place < 60000 → Ready names state b place
      → Fine names b (place + size_of r) (step_of (looks_in names) state place r)
  unfolding step_of on_tag on_component on_message on_field on_item on_group on_close at_top_lem inside known_before not_too_deep not_too_many grown size_of looks_in
  step_fine TopLevel (KnownTag tag) h r = fine_tag (is_known names.tags tag) tag h r
  step_fine (Inside o) (KnownTag tag) h r = tt
  step_fine TopLevel (OpensComponent number) h r = fine_component (component_in names.components number) number refl h r
  step_fine (Inside o) (OpensComponent number) h r = tt
  step_fine TopLevel (OpensMessage msg_type) h r = fine_message (message_in names.messages msg_type) msg_type refl h r
  step_fine (Inside o) (OpensMessage msg_type) h r = tt
  step_fine TopLevel (FieldItem tag required) h r = tt
  step_fine (Inside o) (FieldItem tag required) h r =
      fine_known (is_known names.tags tag) _ _ (place + 6)
      (fine_refuses (ltb 1024 (o.items + 1)) _ _ (place + 6)
      (later names o.owner o.place b place (place + 6) (omega arith) r))
  step_fine TopLevel (ComponentItem required number) h r = tt
  step_fine (Inside o) (ComponentItem required number) h r = fine_item o (component_in names.components number) number r
  step_fine TopLevel (OpensGroup tag required) h r = tt
  step_fine (Inside o) (OpensGroup tag required) h r =
      fine_known (is_known names.tags tag) _ _ (place + 6)
      (fine_refuses (ltb 4 (depth_of o.groups + 1)) _ _ (place + 6)
      (fine_refuses (ltb 1024 (o.items + 1)) _ _ (place + 6)
      (later names o.owner o.place b place (place + 6) (omega arith) r)))
  step_fine TopLevel Closes h r = tt
  step_fine (Inside o) Closes h r = fine_close o o.groups r

-- what was noted leaves them in agreement
note_agrees : (index : List ℕ) (names : Names) (b : ℕ) → Agrees index names b → (state : State) (note : Note) (next : ℕ) → After names state note b next
    → (c : ℕ) × Agrees (noted index note) (named names note) c × Ready (named names note) state c next
note_agrees index names b a state Unchanged next r = unfold noted named in (b, a, r)
note_agrees index names b a state (KnowsTag place tag) next r = (number_at place, knows-tag index names b a place tag r.0 r.1, r.2)
note_agrees index names b a state (ClosesComponent c) next r = (number_at c.place, closes-component index names b a c r.0 r.1 r.3, r.2)
note_agrees index names b a state (NamesMessage place msg_type) next r =
    (number_at place, names_message index names b a place msg_type r.0 r.1 r.3, r.2)

-- the same answer, and stores that agree
abbrev Same : CheckOutcome (List ℕ) → CheckOutcome Names → Type 0
Same (outcome checked index) (outcome other names) = (checked ≡ other) × ((b : ℕ) × Agrees index names b)

same_answer : (x : CheckOutcome (List ℕ)) (y : CheckOutcome Names) → Same x y → answer_of x ≡ answer_of y
unfolding answer_of
same_answer (outcome checked index) (outcome other names) same = same.0

same_store : (x : CheckOutcome (List ℕ)) (y : CheckOutcome Names) → Same x y → (b : ℕ) × Agrees (store_of x) (store_of y) b
unfolding store_of
same_store (outcome checked index) (outcome other names) same = same.1

simulate : (n : ℕ) → n ≤ 60000 → {place : ℕ} {rs : Records} → Spaced n place rs → (state : State) (index : List ℕ) (names : Names) (b : ℕ)
    → Ready names state b place → Agrees index names b → Same (walked looks_at noted rs state index) (walked looks_in named rs state names)
unfolding walked
simulate n few at_last state index names b ready a = (same_end index names b a state _, (b, a))
simulate n few at-bad state index names b ready a = (refl, (b, a))
simulate n few (at_next {place = place} {r = r} {rest = rest} here others) state index names b ready a =
    rw (same_step index names b a state place r)
    (go (step_of (looks_in names) state place r) (step_fine names place b state r (omega arith) ready)
    (λ state₁ note after. let m = note_agrees index names b a state₁ note (place + size_of r) after in
    simulate n few others state₁ (noted index note) (named names note) m.0 m.2 m.1))
  where
    go : (step : Result (State × Note) Checked) → Fine names b (place + size_of r) step
        → ((state₁ : State) (note : Note) → After names state₁ note b (place + size_of r)
        → Same (walked looks_at noted rest state₁ (noted index note)) (walked looks_in named rest state₁ (named names note)))
        → Same (on_step index step (λ state₁ note. walked looks_at noted rest state₁ (noted index note)))
        (on_step names step (λ state₁ note. walked looks_in named rest state₁ (named names note)))
    go (Err checked) fine follows = unfold on_step in (refl, (b, a))
    go (Ok (state₁, note)) fine follows = unfold on_step in follows state₁ note fine

module _ (d index : List ℕ) where
  pub prepared_long : 60000 < length d → prepared_of d index ≡ outcome TooLong index
  unfolding prepared_of too_long
  prepared_long h = rw (lt-ltb 60000 (length d) h)

  pub prepared-short : length d ≤ 60000 → prepared_of d index ≡ walked looks_at noted (records_from d 0) TopLevel (replicate head_words 0 ++ drop head_words index)
  unfolding prepared_of too_long
  prepared-short h = rw (le-ltb 60000 (length d) h)

  prepared-over : too_long d ≡ true → prepared_of d index ≡ outcome TooLong index
  unfolding prepared_of
  prepared-over e = rw e

  stored : (out : List ℕ) → outcome Passes out ≡ prepared_of d index → out ≡ store_of (prepared_of d index)
  unfolding store_of
  stored out h = ap store_of h

pub check_long : (d : List ℕ) → 60000 < length d → check_of d ≡ TooLong
unfolding check_of read_of too_long answer_of
check_long d h = rw (lt-ltb 60000 (length d) h)

module _ (d index : List ℕ) (size : length index ≡ index_words) where
  same-walk : too_long d ≡ false
      → Same (walked looks_at noted (records_from d 0) TopLevel (replicate head_words 0 ++ drop head_words index))
      (walked looks_in named (records_from d 0) TopLevel no_names)
  unfolding too_long
  same-walk short =
      simulate (length d) (ltb-false 60000 (length d) short) (spaced d 0) TopLevel (replicate head_words 0 ++ drop head_words index) no_names 0 (omega arith)
      (clear_agrees index size)

  -- the check over the index is the check
  pub prepared-answer : answer_of (prepared_of d index) ≡ check_of d
  unfolding prepared_of check_of read_of
  prepared-answer = go (too_long d) refl
    where
      go : (t : Bool) → too_long d ≡ t
          → answer_of (pick t (outcome TooLong index) (walked looks_at noted (records_from d 0) TopLevel (replicate head_words 0 ++ drop head_words index)))
          ≡ answer_of (pick t (outcome TooLong no_names) (walked looks_in named (records_from d 0) TopLevel no_names))
      go true e = unfold answer_of in refl
      go false e =
          same_answer (walked looks_at noted (records_from d 0) TopLevel (replicate head_words 0 ++ drop head_words index))
          (walked looks_in named (records_from d 0) TopLevel no_names) (same-walk e)

  -- and what it leaves in the index answers every look-up as what the dictionary names does
  pub prepared_names : too_long d ≡ false → (b : ℕ) × Agrees (store_of (prepared_of d index)) (store_of (read_of d)) b
  unfolding prepared_of read_of
  prepared_names short =
      rw short (same_store (walked looks_at noted (records_from d 0) TopLevel (replicate head_words 0 ++ drop head_words index))
      (walked looks_in named (records_from d 0) TopLevel no_names) (same-walk short))

  -- after a check that passes, the lent index answers every look-up as the dictionary's names do
  pub passes_agrees : (out : List ℕ) → outcome Passes out ≡ prepared_of d index → (b : ℕ) × Agrees out (store_of (read_of d)) b
  passes_agrees out h = go (too_long d) refl
    where
      go : (t : Bool) → too_long d ≡ t → (b : ℕ) × Agrees out (store_of (read_of d)) b
      go true e =
          let long : prepared_of d index ≡ outcome TooLong index = prepared-over d index e in
          let z : ◌≡◌ {A = ℕ} 0 1 = cc in absurd (omega arith)
      go false e = subst (λ (x : List ℕ). (b : ℕ) × Agrees x (store_of (read_of d)) b) (sym (stored d index out h)) (prepared_names e)
