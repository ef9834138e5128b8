-- 34, 35 and 37 are true of the flattened tree. A dictionary that passes keeps the bounds in every component and message, and one that is
-- refused for them is so at the first record that breaks one.
use Rattle.std.specs.Prelude.{◌≡◌, refl, List, ◌∷◌, ℕ, zero, suc, ◌-◌, ◌≤◌, length}
use Rattle.std.proofs.Common.{sym, ◌∙◌, arith, Option, Some, None, Result}
use Rattle.std.proofs.Math.Path.{ap, subst}
use Rattle.dictionary_layout_rules.specs.Layout.{Layout}
use Rattle.dictionary_layout_rules.specs.Measures.{Bounded, Each, each_none, each_more}
use Rattle.dictionary_layout_rules.proofs.MeasuresLaws.{bounded_closed}
use Rattle.dictionary_rules.specs.Records.{Records, ends, bad, whole}
use Rattle.dictionary_rules.specs.Step.{depth_of, step_of, present, at_end}
use Rattle.dictionary_rules.specs.Check.{on_step, walked, answer_of}
use Rattle.dictionary_rules.specs.Names.{Names, looks_in, named}
use Rattle.dictionary_rules.specs.declared.Checked.{Checked}
use Rattle.dictionary_rules.specs.declared.Checked.TheVariants.{Passes, BadRecord, NoComponent, UnknownTag, EmptyGroup, TooDeep, Twice, TooManyItems}
use Rattle.dictionary_rules.specs.declared.Record.{Record}
use Rattle.dictionary_rules.specs.declared.State.{State}
use Rattle.dictionary_rules.specs.declared.State.TheVariants.{TopLevel, Inside}
use Rattle.dictionary_rules.specs.declared.Note.{Note}
use Rattle.dictionary_meaning_rules.proofs.Bodies.{declared-end}
use Rattle.dictionary_meaning_rules.proofs.Layable.{flat}
use Rattle.dictionary_meaning_rules.specs.ClosedOff.{open_after, closes, closed_off, open_of, records_after, layouts_after, goes_on, taken_from, AllBounded, nothing_read, latest_bounded, KeepsBounds, FirstWith, FirstEmpty, FiveDeep, OverThousand}
use Rattle.dictionary_meaning_rules.proofs.SoFar.{wrapped}
use Rattle.dictionary_meaning_rules.proofs.TreeSoFar.{Tree, tree_off}
use Rattle.dictionary_meaning_rules.proofs.Beside.{bounded_so_far}
use Rattle.dictionary_meaning_rules.proofs.BesideSteps.{Beside, at_top, within, things_of, Breaks, nests_too_deep, holds_too_many, closes_an_empty, bad_record, no_component, unknown_tag, twice, Stepped, goes, refuses, step_beside}
use Rattle.dictionary_rules.specs.declared.Component.{Component}

all_bounded : {layouts : List Layout} → Each Bounded layouts → AllBounded 0 layouts
all_bounded each_none = nothing_read
all_bounded (each_more b more) = latest_bounded (bounded_closed b) more

-- at top level, whatever ends it
top_read : {names : Names} {layouts : Records → List Layout} (t : Tree names layouts) (size : ℕ) → layouts (ends size) ≡ t.read
top_read t size = t.means (ends size) ∙ ap (layouts_after t.defined t.read) (declared-end size) ∙ (unfold layouts_after in refl)

-- beside the tree the bounds are kept
beside_bounded : (state : State) (names : Names) (layouts : Records → List Layout) → Beside state names layouts → AllBounded (things_of state - 1) (layouts (closes (things_of state) (ends 0)))
unfolding things_of closes
beside_bounded TopLevel names layouts (at_top t) = rw (top_read t 0) (all_bounded t.bounded)
beside_bounded (Inside o) names layouts (within {defined} {read} {level} {groups} m b t c) = go (depth_of o.groups) c.nests
  where
    go : (nested : ℕ) → nested ≡ length groups → AllBounded (suc nested - 1) (layouts (closes (suc nested) (ends 0)))
    go nested e =
        let n : length groups ≡ suc nested - 1 = omega arith in
        let off : layouts (closes (suc nested) (ends 0)) ≡ flat defined (wrapped groups level) ∷ read = ap (λ (k : ℕ). layouts (closes (suc k) (ends 0))) e ∙ tree_off o.owner layouts defined read level groups t in
        subst (λ (l : List Layout). AllBounded (suc nested - 1) l) (sym off) (subst (λ (k : ℕ). AllBounded k (flat defined (wrapped groups level) ∷ read)) n (latest_bounded (bounded_so_far defined c) b))

-- so far as the check takes the records, the bounds are kept
pub taken_bounded : (first : ℕ) (records : Records) (state : State) (names : Names) (layouts : Records → List Layout) → Beside state names layouts → first ≤ taken_from records state names → KeepsBounds (things_of state) records layouts first
unfolding KeepsBounds closed_off open_of taken_from
taken_bounded zero records state names layouts b h = beside_bounded state names layouts b
taken_bounded (suc first) (ends size) state names layouts b h = absurd (omega arith)
taken_bounded (suc first) (bad place) state names layouts b h = absurd (omega arith)
taken_bounded (suc first) (whole place r rest) state names layouts b h =
    go (step_of (looks_in names) state place r) (step_beside state names layouts place r b) h
    (λ later note b h. taken_bounded first rest later (named names note) (λ (q : Records). layouts (whole place r q)) b h)
  where
    go : (step : Result (State × Note) Checked) → Stepped state names layouts place r step → suc first ≤ goes_on step (λ later note. taken_from rest later (named names note)) →
        ((later : State) (note : Note) → Beside later (named names note) (λ (q : Records). layouts (whole place r q)) →
        first ≤ taken_from rest later (named names note) → KeepsBounds (things_of later) rest (λ (q : Records). layouts (whole place r q)) first) →
        AllBounded (open_of first (open_after r (things_of state)) rest - 1) (layouts (whole place r (closed_off first (open_after r (things_of state)) rest)))
    go step (refuses x) h again = unfold goes_on in absurd (omega arith)
    go step (goes {later} {note} b e) h again =
        subst (λ (things : ℕ). AllBounded (open_of first things rest - 1) (layouts (whole place r (closed_off first things rest)))) e (again later note b (unfold goes_on in omega arith))

-- what is true of the tree by the answer
pub data Verdict (things : ℕ) (records : Records) (layouts : Records → List Layout) (earlier : ℕ) : Checked → Type 0 where
  it_passes : Each Bounded (layouts records) → Verdict things records layouts earlier Passes
  it_nests : {place : ℕ} → FirstWith things records layouts earlier FiveDeep place → Verdict things records layouts earlier (TooDeep place)
  it_holds : {place : ℕ} → FirstWith things records layouts earlier OverThousand place → Verdict things records layouts earlier (TooManyItems place)
  it_closes : {tag : ℕ} → FirstEmpty things records layouts earlier tag → Verdict things records layouts earlier (EmptyGroup tag)
  of_record : {place : ℕ} → Verdict things records layouts earlier (BadRecord place)
  of-component : {number : ℕ} → Verdict things records layouts earlier (NoComponent number)
  of-tag : {tag : ℕ} → Verdict things records layouts earlier (UnknownTag tag)
  of_name : {place : ℕ} → Verdict things records layouts earlier (Twice place)

-- a record that is refused
module _ (state : State) (names : Names) (layouts : Records → List Layout) (place : ℕ) (r : Record) (rest : Records) (b : Beside state names layouts) where
  verdict-here : (checked : Checked) → Breaks layouts (things_of state) place r checked → Verdict (things_of state) (whole place r rest) layouts 0 checked
  unfolding KeepsBounds closed_off open_of records_after
  verdict-here checked (nests_too_deep p) = it_nests (record { refused = r; rest = rest; stands = refl; before = beside_bounded state names layouts b; over = p })
  verdict-here checked (holds_too_many p) = it_holds (record { refused = r; rest = rest; stands = refl; before = beside_bounded state names layouts b; over = p })
  verdict-here checked (closes_an_empty e p q) = it_closes (record { place = place; rest = rest; stands = ap (λ (x : Record). whole place x rest) e; before = beside_bounded state names layouts b; empty = p; closed = q })
  verdict-here checked bad_record = of_record
  verdict-here checked no_component = of-component
  verdict-here checked unknown_tag = of-tag
  verdict-here checked twice = of_name

-- a record that is taken
verdict-later : (things place : ℕ) (r : Record) (rest : Records) (layouts : Records → List Layout) (earlier : ℕ) (checked : Checked) → Verdict (open_after r things) rest (λ (q : Records). layouts (whole place r q)) earlier checked → Verdict things (whole place r rest) layouts (suc earlier) checked
unfolding KeepsBounds closed_off open_of records_after
verdict-later things place r rest layouts earlier checked (it_passes p) = it_passes p
verdict-later things place r rest layouts earlier checked (it_nests f) = it_nests (record { refused = f.refused; rest = f.rest; stands = f.stands; before = f.before; over = f.over })
verdict-later things place r rest layouts earlier checked (it_holds f) = it_holds (record { refused = f.refused; rest = f.rest; stands = f.stands; before = f.before; over = f.over })
verdict-later things place r rest layouts earlier checked (it_closes f) = it_closes (record { place = f.place; rest = f.rest; stands = f.stands; before = f.before; empty = f.empty; closed = f.closed })
verdict-later things place r rest layouts earlier checked of_record = of_record
verdict-later things place r rest layouts earlier checked of-component = of-component
verdict-later things place r rest layouts earlier checked of-tag = of-tag
verdict-later things place r rest layouts earlier checked of_name = of_name

verdict-end : (size : ℕ) (state : State) (names : Names) (layouts : Records → List Layout) → Beside state names layouts → Verdict (things_of state) (ends size) layouts 0 (at_end (looks_in names) state size)
unfolding at_end
verdict-end size (Inside o) names layouts b = of_record
verdict-end size TopLevel names layouts (at_top t) = go ((looks_in names).component 0) ((looks_in names).component 1)
  where
    go : (header trailer : Option Component) → Verdict (things_of TopLevel) (ends size) layouts 0 (present header 0 (present trailer 1 Passes))
    go None trailer = unfold present in of-component
    go (Some c) None = unfold present in of-component
    go (Some c) (Some d) = unfold present in it_passes (rw (top_read t size) t.bounded)

pub verdict : (records : Records) (state : State) (names : Names) (layouts : Records → List Layout) → Beside state names layouts → Verdict (things_of state) records layouts (taken_from records state names) (answer_of (walked looks_in named records state names))
unfolding taken_from walked answer_of
verdict (ends size) state names layouts b = verdict-end size state names layouts b
verdict (bad place) state names layouts b = of_record
verdict (whole place r rest) state names layouts b =
    go (step_of (looks_in names) state place r) (step_beside state names layouts place r b)
    (λ later note b. verdict rest later (named names note) (λ (q : Records). layouts (whole place r q)) b)
  where
    go : (step : Result (State × Note) Checked) → Stepped state names layouts place r step → ((later : State) (note : Note) →
        Beside later (named names note) (λ (q : Records). layouts (whole place r q)) →
        Verdict (things_of later) rest (λ (q : Records). layouts (whole place r q)) (taken_from rest later (named names note)) (answer_of
        (walked looks_in named rest later (named names note)))) →
        Verdict (things_of state) (whole place r rest) layouts (goes_on step (λ later note. taken_from rest later (named names note))) (answer_of
        (on_step names step (λ later note. walked looks_in named rest later (named names note))))
    go step (refuses {checked} x) again = unfold goes_on on_step in verdict-here state names layouts place r rest b checked x
    go step (goes {later} {note} b e) again =
        unfold goes_on on_step in
        verdict-later (things_of state) place r rest layouts (taken_from rest later (named names note)) _
        (subst (λ (things : ℕ). Verdict things rest (λ (q : Records). layouts (whole place r q)) (taken_from rest later (named names note)) (answer_of (walked looks_in named rest later (named names note)))) e (again later note b))
