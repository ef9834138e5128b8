-- What the records of a dictionary mean: the tree. The records are read from the first to the last, as the rules say them: at top level known
-- tags, components and messages; in a component, a message or a group its items, and then its close. Then component items are filled in
-- with what the components mean that were closed before.
use Rattle.std.specs.Prelude.{ℕ, zero, suc, ◌/◌, ◌%◌, List, [], ◌∷◌, Bool, eqb}
use Rattle.field_rules.specs.Choice.{pick}
use Rattle.dictionary_layout_rules.specs.Tree.{Nodes, nothing, field_item_lem, component_item_lem, group_item_lem, Message, Dictionary}
use Rattle.dictionary_rules.specs.Records.{Records, ends, bad, whole, records_from}
use Rattle.dictionary_rules.specs.declared.Record.TheVariants.{KnownTag, OpensComponent, OpensMessage, FieldItem, ComponentItem, OpensGroup, Closes}

-- the items of something up to its close, as they are written: a component item only names its component
pub data Items : Type 0 where
  closed : Items
  field_then_lem : ℕ → Bool → Items → Items
  component_then_lem : ℕ → Bool → Items → Items
  group_then_lem : ℕ → Bool → Items → Items → Items

-- the items of a thing that is open, and the records behind its close
pub record Body : Type 0 where
  pub items : Items
  pub after : Records

-- an item comes before the items that follow it
unfoldable pub item_before : (Items → Items) → Body → Body
item_before item body = record { items = item body.items; after = body.after }

-- no item comes any more, and these records stand behind
unfoldable pub no_items : Records → Body
no_items records = record { items = closed; after = records }

-- "4 to 7 inside something open": field items, component items and groups, and at last "the innermost open thing closes". A group holds the
-- items up to its own close, and the items behind that close follow it. One record is taken at each step, so as many steps as there are
-- records are enough. What is no item ends the items where it stands; in a dictionary that passes the check there is none (`passes_whole`).
unfoldable pub body_of : ℕ → Records → Body
body_of (suc steps) (whole place (FieldItem tag required) rest) = item_before (field_then_lem tag required) (body_of steps rest)
body_of (suc steps) (whole place (ComponentItem required number) rest) = item_before (component_then_lem number required) (body_of steps rest)
body_of (suc steps) (whole place (OpensGroup tag required) rest) =
    item_before (group_then_lem tag required (body_of steps rest).items) (body_of steps (body_of steps rest).after)
body_of (suc steps) (whole place Closes rest) = no_items rest
body_of (suc steps) (whole place (KnownTag tag) rest) = no_items (whole place (KnownTag tag) rest)
body_of (suc steps) (whole place (OpensComponent number) rest) = no_items (whole place (OpensComponent number) rest)
body_of (suc steps) (whole place (OpensMessage msg_type) rest) = no_items (whole place (OpensMessage msg_type) rest)
body_of (suc steps) (ends size) = no_items (ends size)
body_of (suc steps) (bad place) = no_items (bad place)
body_of zero records = no_items records

-- "MsgType of 1 to 8 bytes, zero-filled", from the number that the eight bytes make, low byte first
unfoldable pub bytes_within : ℕ → ℕ → List ℕ
bytes_within zero msg_type = []
bytes_within (suc size) msg_type = pick (eqb msg_type 0) [] (msg_type % 256 ∷ bytes_within size (msg_type / 256))

unfoldable pub msg_type_bytes : ℕ → List ℕ
msg_type_bytes msg_type = bytes_within 8 msg_type

-- what stands at top level: known tags, and components and messages with their items
pub data Declaration : Type 0 where
  known_tag : ℕ → Declaration
  component : ℕ → Items → Declaration
  message : List ℕ → Items → Declaration

-- "1, 2 and 3 stand at top level": a known tag; a component or a message that opens, with its items, and behind its close what stands there.
-- Anything else ends them; in a dictionary that passes the check there is none (`passes_whole`).
unfoldable pub declarations_in : ℕ → Records → List Declaration
declarations_in (suc steps) (whole place (KnownTag tag) rest) = known_tag tag ∷ declarations_in steps rest
declarations_in (suc steps) (whole place (OpensComponent number) rest) =
    component number (body_of steps rest).items ∷ declarations_in steps (body_of steps rest).after
declarations_in (suc steps) (whole place (OpensMessage msg_type) rest) =
    message (msg_type_bytes msg_type) (body_of steps rest).items ∷ declarations_in steps (body_of steps rest).after
declarations_in (suc steps) (whole place (FieldItem tag required) rest) = []
declarations_in (suc steps) (whole place (ComponentItem required number) rest) = []
declarations_in (suc steps) (whole place (OpensGroup tag required) rest) = []
declarations_in (suc steps) (whole place Closes rest) = []
declarations_in (suc steps) (ends size) = []
declarations_in (suc steps) (bad place) = []
declarations_in zero records = []

-- how many records
unfoldable pub size_of : Records → ℕ
size_of (ends size) = 0
size_of (bad place) = 0
size_of (whole place r rest) = suc (size_of rest)

-- all of them, from the first record to the last
unfoldable pub declarations_of : Records → List Declaration
declarations_of records = declarations_in (size_of records) records

-- a component with what it means
pub record Defined : Type 0 where
  pub number : ℕ
  pub nodes : Nodes

-- what a component means among those that are closed, the latest first
unfoldable pub nodes_of : List Defined → ℕ → Nodes
nodes_of [] number = nothing
nodes_of (d ∷ defined) number = pick (eqb number d.number) d.nodes (nodes_of defined number)

-- a component item holds that component's nodes
unfoldable pub expanded : List Defined → Items → Nodes
expanded defined closed = nothing
expanded defined (field_then_lem tag required items) = field_item_lem tag required (expanded defined items)
expanded defined (component_then_lem number required items) = component_item_lem required (nodes_of defined number) (expanded defined items)
expanded defined (group_then_lem tag required inner items) = group_item_lem tag required (expanded defined inner) (expanded defined items)

-- a component is usable from its close on
unfoldable pub defined_by : List Defined → Declaration → List Defined
defined_by defined (component number items) = record { number = number; nodes = expanded defined items } ∷ defined
defined_by defined (known_tag tag) = defined
defined_by defined (message msg_type items) = defined

unfoldable pub defined_after : List Defined → List Declaration → List Defined
defined_after defined [] = defined
defined_after defined (d ∷ declarations) = defined_after (defined_by defined d) declarations

unfoldable pub message_in : List Defined → Declaration → List Message → List Message
message_in defined (message msg_type items) messages = record { msg_type = msg_type; nodes = expanded defined items } ∷ messages
message_in defined (component number items) messages = messages
message_in defined (known_tag tag) messages = messages

unfoldable pub messages_from : List Defined → List Declaration → List Message
messages_from defined [] = []
messages_from defined (d ∷ declarations) = message_in defined d (messages_from (defined_by defined d) declarations)

unfoldable pub tag_in : Declaration → List ℕ → List ℕ
tag_in (known_tag tag) tags = tag ∷ tags
tag_in (component number items) tags = tags
tag_in (message msg_type items) tags = tags

unfoldable pub tags_from : List Declaration → List ℕ
tags_from [] = []
tags_from (d ∷ declarations) = tag_in d (tags_from declarations)

-- "Component 0 is the standard header, 1 the trailer."
unfoldable pub meaning_of : List Declaration → Dictionary
meaning_of declarations = record { known = tags_from declarations; header = nodes_of (defined_after [] declarations) 0; trailer = nodes_of (defined_after [] declarations) 1; messages = messages_from [] declarations }

-- the tree of a dictionary that passes the check
unfoldable pub dictionary_of : List ℕ → Dictionary
dictionary_of bytes = meaning_of (declarations_of (records_from bytes 0))
