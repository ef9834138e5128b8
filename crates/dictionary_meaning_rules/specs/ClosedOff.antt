-- A dictionary as far as it has been read: its first records, and a close for each thing that they leave open, are records that mean
-- something. Of that tree 34, 35 and 37 are said: the first record is refused with which it has an empty group, is too deep or too large.
use Rattle.std.specs.Prelude.{◌≡◌, List, [], ◌∷◌, ℕ, zero, suc, ◌+◌, ◌-◌, ◌≤◌, ◌<◌, Result, Ok, Err}
use Rattle.dictionary_layout_rules.specs.Layout.{Layout, end, items, depth}
use Rattle.dictionary_layout_rules.specs.Tree.{flattened}
use Rattle.dictionary_layout_rules.specs.Measures.{most_depth, most_items, Bounded, BoundedSoFar, InnermostOpen, Each}
use Rattle.dictionary_rules.specs.Records.{Records, ends, bad, whole, records_from}
use Rattle.dictionary_rules.specs.Names.{Names, looks_in, named, no_names}
use Rattle.dictionary_rules.specs.Step.{step_of}
use Rattle.dictionary_rules.specs.declared.Record.{Record}
use Rattle.dictionary_rules.specs.declared.Record.TheVariants.{KnownTag, OpensComponent, OpensMessage, FieldItem, ComponentItem, OpensGroup, Closes}
use Rattle.dictionary_rules.specs.declared.Note.{Note}
use Rattle.dictionary_rules.specs.declared.State.{State}
use Rattle.dictionary_rules.specs.declared.State.TheVariants.{TopLevel}
use Rattle.dictionary_meaning_rules.specs.Meaning.{Declaration, known_tag, component, message, declarations_of, Defined, expanded, defined_by}
use Rattle.dictionary_rules.specs.declared.Checked.{Checked}

-- how many things are open after a record: a component or a message, and the groups in it
unfoldable pub open_after : Record → ℕ → ℕ
open_after (KnownTag tag) things = things
open_after (OpensComponent number) things = things + 1
open_after (OpensMessage msg_type) things = things + 1
open_after (FieldItem tag required) things = things
open_after (ComponentItem required number) things = things
open_after (OpensGroup tag required) things = things + 1
open_after Closes things = things - 1

-- a close for each thing that is open
unfoldable pub closes : ℕ → Records → Records
closes zero last = last
closes (suc things) last = whole 0 Closes (closes things last)

-- the first records, closed off
unfoldable pub closed_off : ℕ → ℕ → Records → Records
closed_off zero things records = closes things (ends 0)
closed_off (suc first) things (ends size) = closes things (ends size)
closed_off (suc first) things (bad place) = closes things (ends place)
closed_off (suc first) things (whole place r rest) = whole place r (closed_off first (open_after r things) rest)

-- how many things the first records leave open
unfoldable pub open_of : ℕ → ℕ → Records → ℕ
open_of zero things records = things
open_of (suc first) things (ends size) = things
open_of (suc first) things (bad place) = things
open_of (suc first) things (whole place r rest) = open_of first (open_after r things) rest

-- the records after the first ones
unfoldable pub records_after : ℕ → Records → Records
records_after zero records = records
records_after (suc first) (ends size) = ends size
records_after (suc first) (bad place) = bad place
records_after (suc first) (whole place r rest) = records_after first rest

-- the layouts of all components and messages, flattened, the latest first
unfoldable pub layouts_by : List Defined → Declaration → List Layout → List Layout
layouts_by defined (component number items) layouts = flattened (expanded defined items) ∷ layouts
layouts_by defined (message msg_type items) layouts = flattened (expanded defined items) ∷ layouts
layouts_by defined (known_tag tag) layouts = layouts

unfoldable pub layouts_after : List Defined → List Layout → List Declaration → List Layout
layouts_after defined layouts [] = layouts
layouts_after defined layouts (d ∷ declarations) = layouts_after (defined_by defined d) (layouts_by defined d layouts) declarations

unfoldable pub layouts_of : Records → List Layout
layouts_of records = layouts_after [] [] (declarations_of records)

-- how many records the check takes before it refuses one or is at the end
unfoldable pub goes_on : Result (State × Note) Checked → (State → Note → ℕ) → ℕ
goes_on (Err checked) later = 0
goes_on (Ok (state, note)) later = suc (later state note)

unfoldable pub taken_from : Records → State → Names → ℕ
taken_from (ends size) state names = 0
taken_from (bad place) state names = 0
taken_from (whole place r rest) state names =
    goes_on (step_of (looks_in names) state place r) (λ state₁ note. taken_from rest state₁ (named names note))

unfoldable pub taken : List ℕ → ℕ
taken bytes = taken_from (records_from bytes 0) TopLevel no_names

-- all that was read keeps the bounds; of the latest so many groups may be open
pub data AllBounded (groups : ℕ) : List Layout → Type 0 where
  nothing_read : AllBounded groups []
  latest_bounded : {layout : Layout} {layouts : List Layout} → BoundedSoFar groups layout → Each Bounded layouts → AllBounded groups (layout ∷ layouts)

-- what was read last, in which the last record stands, has a property
pub data Latest (P : Layout → Type 0) : List Layout → Type 0 where
  latest : {layout : Layout} {layouts : List Layout} → P layout → Latest P (layout ∷ layouts)

-- of records that are read where things are open already, and that mean layouts
module _ (things : ℕ) (records : Records) (layouts : Records → List Layout) where
  -- the first records keep the bounds
  unfoldable pub KeepsBounds : ℕ → Type 0
  KeepsBounds first = AllBounded (open_of first things records - 1) (layouts (closed_off first things records))

  -- after so many records that keep the bounds, the one with which the component or message that it stands in has a property
  pub record FirstWith (earlier : ℕ) (Over : Layout → Type 0) (place : ℕ) : Type 0 where
    pub refused : Record
    pub rest : Records
    pub stands : records_after earlier records ≡ whole place refused rest
    pub before : KeepsBounds earlier
    pub over : Latest Over (layouts (closed_off (suc earlier) things records))

  -- and the close of a group that is empty, before it and with it: the innermost of those that are open
  pub record FirstEmpty (earlier : ℕ) (tag : ℕ) : Type 0 where
    pub place : ℕ
    pub rest : Records
    pub stands : records_after earlier records ≡ whole place Closes rest
    pub before : KeepsBounds earlier
    pub empty : Latest (InnermostOpen tag end (open_of earlier things records - 1)) (layouts (closed_off earlier things records))
    pub closed : Latest (InnermostOpen tag end (open_of earlier things records - 1)) (layouts (closed_off (suc earlier) things records))

-- 34: "group closes empty after flattening (group's tag)"
abbrev pub ClosesEmpty : List ℕ → ℕ → Type 0
ClosesEmpty bytes tag = FirstEmpty 0 (records_from bytes 0) layouts_of (taken bytes) tag

-- 35: "group nested five deep after flattening (place)"
abbrev pub FiveDeep : Layout → Type 0
FiveDeep layout = most_depth < depth layout

abbrev pub NestsTooDeep : List ℕ → ℕ → Type 0
NestsTooDeep bytes place = FirstWith 0 (records_from bytes 0) layouts_of (taken bytes) FiveDeep place

-- 37: "one component or message passes 1,024 items, all levels, flattened (place)"; "checks in number order", so it is not also too deep
abbrev pub OverThousand : Layout → Type 0
OverThousand layout = (most_items < items layout) × (depth layout ≤ most_depth)

abbrev pub HoldsTooMany : List ℕ → ℕ → Type 0
HoldsTooMany bytes place = FirstWith 0 (records_from bytes 0) layouts_of (taken bytes) OverThousand place
