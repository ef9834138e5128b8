-- What one record of a dictionary does (RULES.md, Flat dictionary and Numbers, 31 to 37), "checks in number order".
use Rattle.std.specs.Prelude.{ℕ, ◌+◌, Bool, eqb, ltb, Option, Some, None, Result, Ok, Err}
use Rattle.field_rules.specs.Choice.{pick}
use Rattle.dictionary_rules.specs.Names.{Looks}
use Rattle.dictionary_rules.specs.declared.Record.{Record}
use Rattle.dictionary_rules.specs.declared.Record.TheVariants.{KnownTag, OpensComponent, OpensMessage, FieldItem, ComponentItem, OpensGroup, Closes}
use Rattle.dictionary_rules.specs.declared.Checked.{Checked}
use Rattle.dictionary_rules.specs.declared.Checked.TheVariants.{Passes, BadRecord, NoComponent, UnknownTag, EmptyGroup, TooDeep, Twice, TooManyItems}
use Rattle.dictionary_rules.specs.declared.Component.{Component}
use Rattle.dictionary_rules.specs.declared.Group.{Group}
use Rattle.dictionary_rules.specs.declared.Groups.{Groups}
use Rattle.dictionary_rules.specs.declared.Groups.TheVariants.{NoGroup, OneGroup, TwoGroups, ThreeGroups, FourGroups}
use Rattle.dictionary_rules.specs.declared.Held.{Held}
use Rattle.dictionary_rules.specs.declared.Held.TheVariants.{Empty, Only, Several}
use Rattle.dictionary_rules.specs.declared.Owner.{Owner}
use Rattle.dictionary_rules.specs.declared.Owner.TheVariants.{OfComponent, OfMessage}
use Rattle.dictionary_rules.specs.declared.Open.{Open}
use Rattle.dictionary_rules.specs.declared.State.{State}
use Rattle.dictionary_rules.specs.declared.State.TheVariants.{TopLevel, Inside}
use Rattle.dictionary_rules.specs.declared.Note.TheVariants.{Unchanged, KnowsTag, ClosesComponent, NamesMessage}
use Rattle.dictionary_rules.specs.declared.Note.{Note}

-- how many groups are open
unfoldable pub depth_of : Groups → ℕ
depth_of NoGroup = 0
depth_of (OneGroup a) = 1
depth_of (TwoGroups a b) = 2
depth_of (ThreeGroups a b c) = 3
depth_of (FourGroups a b c d) = 4

-- a group opens inside those that are open; a fifth is refused before
unfoldable pub opened : Group → Groups → Groups
opened g NoGroup = OneGroup g
opened g (OneGroup a) = TwoGroups g a
opened g (TwoGroups a b) = ThreeGroups g a b
opened g (ThreeGroups a b c) = FourGroups g a b c
opened g (FourGroups a b c d) = FourGroups a b c d

unfoldable pub deeper : ℕ → ℕ → ℕ
deeper a b = pick (ltb a b) b a

-- what has just opened
unfoldable pub opens : Owner → ℕ → Open
opens owner place = record { owner = owner; place = place; items = 0; depth = 0; held = Empty; groups = NoGroup }

-- what is open, with its items counted and its depth so far
unfoldable pub grown : Open → ℕ → ℕ → Held → Groups → Open
grown o items depth held groups =
    record { owner = o.owner; place = o.place; items = items; depth = depth; held = held; groups = groups }

-- a non-empty component is all that was held, or one of several
unfoldable pub held_also : Held → ℕ → Held
held_also Empty number = Only number
held_also (Only other) number = Several
held_also Several number = Several

-- an empty component adds nothing
unfoldable pub held_with : Held → Component → Held
held_with held c = pick (eqb c.items 0) held (held_also held c.stands)

-- a component that holds one component, and else only empty ones, stands for what that one stands for
unfoldable pub stands_for : ℕ → Held → ℕ
stands_for number Empty = number
stands_for number (Only other) = other
stands_for number Several = number

-- 31: "1 to 3 stand at top level"
unfoldable pub at_top_lem : State → ℕ → Result (State × Note) Checked → Result (State × Note) Checked
at_top_lem TopLevel place step = step
at_top_lem (Inside o) place step = Err (BadRecord place)

-- 31: "4 to 6 inside something open", and there must be something for 7 to close
unfoldable pub inside : State → ℕ → (Open → Result (State × Note) Checked) → Result (State × Note) Checked
inside TopLevel place step = Err (BadRecord place)
inside (Inside o) place step = step o

-- 32: "component missing or not yet closed"
unfoldable pub closed_before : Option Component → ℕ → (Component → Result (State × Note) Checked) → Result (State × Note) Checked
closed_before None number step = Err (NoComponent number)
closed_before (Some c) number step = step c

-- 33: "item's tag not known earlier"
unfoldable pub known_before : Bool → ℕ → Result (State × Note) Checked → Result (State × Note) Checked
known_before known tag step = pick known step (Err (UnknownTag tag))

-- 34: "group closes empty after flattening": no item was counted since it opened
unfoldable pub not_empty : Group → ℕ → Result (State × Note) Checked → Result (State × Note) Checked
not_empty g items step = pick (eqb items g.since) (Err (EmptyGroup g.tag)) step

-- 35: "group nested five deep after flattening"
unfoldable pub not_too_deep : ℕ → ℕ → Result (State × Note) Checked → Result (State × Note) Checked
not_too_deep depth place step = pick (ltb 4 depth) (Err (TooDeep place)) step

-- 36: "component number or MsgType twice"
unfoldable pub once_component : Option Component → ℕ → Result (State × Note) Checked → Result (State × Note) Checked
once_component None place step = step
once_component (Some c) place step = Err (Twice place)

unfoldable pub once_message : Option ℕ → ℕ → Result (State × Note) Checked → Result (State × Note) Checked
once_message None place step = step
once_message (Some earlier) place step = Err (Twice place)

-- 37: "one component or message passes 1,024 items, all levels, flattened"
unfoldable pub not_too_many : ℕ → ℕ → Result (State × Note) Checked → Result (State × Note) Checked
not_too_many items place step = pick (ltb 1024 items) (Err (TooManyItems place)) step

-- "a known tag"; "a repeated 1 changes nothing"
unfoldable pub on_tag : Looks → State → ℕ → ℕ → Result (State × Note) Checked
on_tag looks state place tag = at_top_lem state place (Ok (TopLevel, (pick (looks.known tag) Unchanged (KnowsTag place tag))))

-- "component opens: its number"
unfoldable pub on_component : Looks → State → ℕ → ℕ → Result (State × Note) Checked
on_component looks state place number =
    at_top_lem state place
    (once_component (looks.component number) place
    (Ok ((Inside (opens (OfComponent number) place)), Unchanged)))

-- "message opens"
unfoldable pub on_message : Looks → State → ℕ → ℕ → Result (State × Note) Checked
on_message looks state place msg_type =
    at_top_lem state place
    (once_message (looks.message msg_type) place
    (Ok ((Inside (opens OfMessage place)), (NamesMessage place msg_type))))

-- "field item"
unfoldable pub on_field : Looks → State → ℕ → ℕ → Result (State × Note) Checked
on_field looks state place tag =
    inside state place (λ o.
    known_before (looks.known tag) tag
    (not_too_many (o.items + 1) place
    (Ok ((Inside (grown o (o.items + 1) o.depth Several o.groups)), Unchanged))))

-- "component item"
unfoldable pub on_item : Looks → State → ℕ → ℕ → Result (State × Note) Checked
on_item looks state place number =
    inside state place (λ o.
    closed_before (looks.component number) number (λ c.
    not_too_deep (depth_of o.groups + c.depth) place
    (not_too_many (o.items + c.items) place
    (Ok ((Inside (grown o (o.items + c.items) (deeper o.depth (depth_of o.groups + c.depth)) (held_with o.held c) o.groups)), Unchanged)))))

-- "group opens"; it is an item, and it counts what comes after it
unfoldable pub on_group : Looks → State → ℕ → ℕ → Result (State × Note) Checked
on_group looks state place tag =
    inside state place (λ o.
    known_before (looks.known tag) tag
    (not_too_deep (depth_of o.groups + 1) place
    (not_too_many (o.items + 1) place
    (Ok ((Inside (grown o (o.items + 1) (deeper o.depth (depth_of o.groups + 1)) Several (opened (record { tag = tag; since = o.items + 1 }) o.groups))), Unchanged)))))

-- a component can be used from its close on
unfoldable pub closes_owner : Open → Owner → Result (State × Note) Checked
closes_owner o (OfComponent number) =
    Ok (TopLevel, (ClosesComponent (record { number = number; place = o.place; items = o.items; depth = o.depth; stands = stands_for number o.held })))
closes_owner o OfMessage = Ok (TopLevel, Unchanged)

unfoldable pub closes_group : Open → Group → Groups → Result (State × Note) Checked
closes_group o g groups = not_empty g o.items (Ok ((Inside (grown o o.items o.depth o.held groups)), Unchanged))

-- "closes the innermost open thing"
unfoldable pub closes_innermost : Open → Groups → Result (State × Note) Checked
closes_innermost o NoGroup = closes_owner o o.owner
closes_innermost o (OneGroup a) = closes_group o a NoGroup
closes_innermost o (TwoGroups a b) = closes_group o a (OneGroup b)
closes_innermost o (ThreeGroups a b c) = closes_group o a (TwoGroups b c)
closes_innermost o (FourGroups a b c d) = closes_group o a (ThreeGroups b c d)

unfoldable pub on_close : State → ℕ → Result (State × Note) Checked
on_close state place = inside state place (λ o. closes_innermost o o.groups)

unfoldable pub step_of : Looks → State → ℕ → Record → Result (State × Note) Checked
step_of looks state place (KnownTag tag) = on_tag looks state place tag
step_of looks state place (OpensComponent number) = on_component looks state place number
step_of looks state place (OpensMessage msg_type) = on_message looks state place msg_type
step_of looks state place (FieldItem tag required) = on_field looks state place tag
step_of looks state place (ComponentItem required number) = on_item looks state place number
step_of looks state place (OpensGroup tag required) = on_group looks state place tag
step_of looks state place Closes = on_close state place

-- 32 at the end: "then component 0, then 1 missing"
unfoldable pub present : Option Component → ℕ → Checked → Checked
present None number checked = NoComponent number
present (Some c) number checked = checked

-- "at the end something left open (31, its place the dictionary's length), then component 0, then 1 missing (32)"
unfoldable pub at_end : Looks → State → ℕ → Checked
at_end looks (Inside o) size = BadRecord size
at_end looks TopLevel size = present (looks.component 0) 0 (present (looks.component 1) 1 Passes)
