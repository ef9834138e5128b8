-- The tags of a dictionary's layouts fit in 32 bits: from the records to the items that they make, from these to the tree, and from the
-- tree to its flattened layouts.
use Rattle.std.specs.Prelude.{Bool, true, false, List, [], ◌∷◌, ℕ, zero, suc, ◌<◌, ◌^◌, eqb}
use Rattle.field_rules.specs.Choice.{pick}
use Rattle.dictionary_rules.specs.Records.{Records, ends, bad, whole, records_from}
use Rattle.dictionary_rules.specs.declared.Record.TheVariants.{KnownTag, OpensComponent, OpensMessage, FieldItem, ComponentItem, OpensGroup, Closes}
use Rattle.dictionary_layout_rules.specs.Layout.{Layout, end, field, group, followed_by, Group, none, entries, group_since, group_of, required_tags}
use Rattle.dictionary_layout_rules.specs.Tree.{Nodes, nothing, field_item_lem, component_item_lem, group_item_lem, Message, flattened, same_bytes, Choice, no_message, laid_out, message_of, layout_of}
use Rattle.dictionary_meaning_rules.specs.Meaning.{Items, closed, field_then_lem, component_then_lem, group_then_lem, Body, item_before, no_items, body_of, Declaration, known_tag, component, message, declarations_in, size_of, declarations_of, Defined, nodes_of, expanded, defined_by, message_in, messages_from, meaning_of, dictionary_of}
use Rattle.dictionary_meaning_rules.proofs.MsgTypeText.{Bytes}
use Rattle.promise_told.specs.DictionaryNumbers.{RecordsSmall, whole_small, records_small}

-- each of a list has a property
pub data Every {A : Type 0} (P : A → Type 0) : List A → Type 0 where
  every_none : Every P []
  every_more : {x : A} {s : List A} → P x → Every P s → Every P (x ∷ s)

-- ===== items =====

data ItemsSmall : Items → Type 0 where
  closed_small : ItemsSmall closed
  field_then : {tag : ℕ} {required : Bool} {items : Items} → tag < 2 ^ 32 → ItemsSmall items → ItemsSmall (field_then_lem tag required items)
  component_then : {number : ℕ} {required : Bool} {items : Items} → ItemsSmall items → ItemsSmall (component_then_lem number required items)
  group_then : {tag : ℕ} {required : Bool} {inner items : Items} → tag < 2 ^ 32 → ItemsSmall inner → ItemsSmall items
      → ItemsSmall (group_then_lem tag required inner items)

-- the items of a body, and the records behind its close
record BodySmall (most : ℕ) (body : Body) : Type 0 where
  pub items : ItemsSmall body.items
  pub after : RecordsSmall most body.after

no_items_small : {most : ℕ} (rs : Records) → RecordsSmall most rs → BodySmall most (no_items rs)
unfolding no_items
no_items_small rs small = record { items = closed_small; after = small }

item_before_small : {most : ℕ} (item : Items → Items) (body : Body) → ((items : Items) → ItemsSmall items → ItemsSmall (item items)) → BodySmall most body
    → BodySmall most (item_before item body)
unfolding item_before
item_before_small item body h b = record { items = h body.items b.items; after = b.after }

body_small : {most : ℕ} (steps : ℕ) (rs : Records) → RecordsSmall most rs → BodySmall most (body_of steps rs)
unfolding body_of
body_small zero rs small = no_items_small rs small
body_small (suc steps) (ends size) small = no_items_small (ends size) small
body_small (suc steps) (bad place) small = no_items_small (bad place) small
body_small (suc steps) (whole place Closes rest) (whole_small h r later) = no_items_small rest later
body_small (suc steps) (whole place (FieldItem tag required) rest) (whole_small h r later) =
    item_before_small (field_then_lem tag required) (body_of steps rest) (λ items p. field_then r p) (body_small steps rest later)
body_small (suc steps) (whole place (ComponentItem required number) rest) (whole_small h r later) =
    item_before_small (component_then_lem number required) (body_of steps rest) (λ items p. component_then p) (body_small steps rest later)
body_small (suc steps) (whole place (OpensGroup tag required) rest) (whole_small h r later) =
    let inner = body_small steps rest later in
    item_before_small (group_then_lem tag required (body_of steps rest).items) (body_of steps (body_of steps rest).after) (λ items p. group_then r inner.items p)
    (body_small steps (body_of steps rest).after inner.after)
body_small (suc steps) (whole place (KnownTag tag) rest) small = no_items_small (whole place (KnownTag tag) rest) small
body_small (suc steps) (whole place (OpensComponent number) rest) small = no_items_small (whole place (OpensComponent number) rest) small
body_small (suc steps) (whole place (OpensMessage msg_type) rest) small = no_items_small (whole place (OpensMessage msg_type) rest) small

abbrev DeclarationSmall : Declaration → Type 0
DeclarationSmall (known_tag tag) = Unit {0}
DeclarationSmall (component number items) = ItemsSmall items
DeclarationSmall (message msg_type items) = ItemsSmall items

declarations_small : {most : ℕ} (steps : ℕ) (rs : Records) → RecordsSmall most rs → Every DeclarationSmall (declarations_in steps rs)
unfolding declarations_in
declarations_small zero rs small = every_none
declarations_small (suc steps) (ends size) small = every_none
declarations_small (suc steps) (bad place) small = every_none
declarations_small (suc steps) (whole place (KnownTag tag) rest) (whole_small h r later) = every_more tt (declarations_small steps rest later)
declarations_small (suc steps) (whole place (OpensComponent number) rest) (whole_small h r later) =
    let b = body_small steps rest later in
    every_more b.items (declarations_small steps (body_of steps rest).after b.after)
declarations_small (suc steps) (whole place (OpensMessage msg_type) rest) (whole_small h r later) =
    let b = body_small steps rest later in
    every_more b.items (declarations_small steps (body_of steps rest).after b.after)
declarations_small (suc steps) (whole place (FieldItem tag required) rest) small = every_none
declarations_small (suc steps) (whole place (ComponentItem required number) rest) small = every_none
declarations_small (suc steps) (whole place (OpensGroup tag required) rest) small = every_none
declarations_small (suc steps) (whole place Closes rest) small = every_none

-- ===== the tree =====

data NodesSmall : Nodes → Type 0 where
  nothing_small : NodesSmall nothing
  field_item : {tag : ℕ} {required : Bool} {rest : Nodes} → tag < 2 ^ 32 → NodesSmall rest → NodesSmall (field_item_lem tag required rest)
  component_item : {required : Bool} {inner rest : Nodes} → NodesSmall inner → NodesSmall rest → NodesSmall (component_item_lem required inner rest)
  group_item : {tag : ℕ} {required : Bool} {inner rest : Nodes} → tag < 2 ^ 32 → NodesSmall inner → NodesSmall rest
      → NodesSmall (group_item_lem tag required inner rest)

abbrev DefinedSmall : Defined → Type 0
DefinedSmall d = NodesSmall d.nodes

nodes_small : {defined : List Defined} (number : ℕ) → Every DefinedSmall defined → NodesSmall (nodes_of defined number)
unfolding nodes_of
nodes_small number every_none = nothing_small
nodes_small number (every_more {x = d} {s = defined} p s) = by_test (eqb number d.number) (nodes_small number s)
  where
    by_test : (b : Bool) → NodesSmall (nodes_of defined number) → NodesSmall (pick b d.nodes (nodes_of defined number))
    by_test true later = p
    by_test false later = later

expanded_small : (defined : List Defined) {items : Items} → Every DefinedSmall defined → ItemsSmall items → NodesSmall (expanded defined items)
unfolding expanded
expanded_small defined d closed_small = nothing_small
expanded_small defined d (field_then t p) = field_item t (expanded_small defined d p)
expanded_small defined d (component_then {number = number} p) = component_item (nodes_small number d) (expanded_small defined d p)
expanded_small defined d (group_then t inner p) = group_item t (expanded_small defined d inner) (expanded_small defined d p)

defined_small : (defined : List Defined) (declaration : Declaration) → Every DefinedSmall defined → DeclarationSmall declaration
    → Every DefinedSmall (defined_by defined declaration)
unfolding defined_by
defined_small defined (component number items) d p = every_more (expanded_small defined d p) d
defined_small defined (known_tag tag) d p = d
defined_small defined (message msg_type items) d p = d

abbrev MessageSmall : Message → Type 0
MessageSmall m = NodesSmall m.nodes

message_small : (defined : List Defined) (declaration : Declaration) {messages : List Message} → Every DefinedSmall defined
    → DeclarationSmall declaration → Every MessageSmall messages → Every MessageSmall (message_in defined declaration messages)
unfolding message_in
message_small defined (message msg_type items) d p later = every_more (expanded_small defined d p) later
message_small defined (component number items) d p later = later
message_small defined (known_tag tag) d p later = later

messages_small : (defined : List Defined) {declarations : List Declaration} → Every DefinedSmall defined → Every DeclarationSmall declarations
    → Every MessageSmall (messages_from defined declarations)
unfolding messages_from
messages_small defined d every_none = every_none
messages_small defined d (every_more {x = declaration} p s) =
    message_small defined declaration d p (messages_small (defined_by defined declaration) (defined_small defined declaration d p) s)

-- ===== layouts =====

pub data LayoutSmall : Layout → Type 0 where
  end_small : LayoutSmall end
  field_small : {tag : ℕ} {required : Bool} {rest : Layout} → tag < 2 ^ 32 → LayoutSmall rest → LayoutSmall (field tag required rest)
  group_small : {tag : ℕ} {required : Bool} {inner rest : Layout} → tag < 2 ^ 32 → LayoutSmall inner → LayoutSmall rest
      → LayoutSmall (group tag required inner rest)

followed_small : {layout after : Layout} → LayoutSmall layout → LayoutSmall after → LayoutSmall (followed_by layout after)
unfolding followed_by
followed_small end_small a = a
followed_small (field_small t p) a = field_small t (followed_small p a)
followed_small (group_small t inner p) a = group_small t inner (followed_small p a)

flattened_small : {nodes : Nodes} → NodesSmall nodes → LayoutSmall (flattened nodes)
unfolding flattened
flattened_small nothing_small = end_small
flattened_small (field_item t p) = field_small t (flattened_small p)
flattened_small (component_item inner p) = followed_small (flattened_small inner) (flattened_small p)
flattened_small (group_item t inner p) = group_small t (flattened_small inner) (flattened_small p)

abbrev pub ChoiceSmall : Choice → Type 0
ChoiceSmall no_message = Unit {0}
ChoiceSmall (laid_out layout) = LayoutSmall layout

choice_small : (msg_type : List ℕ) {messages : List Message} → Every MessageSmall messages → ChoiceSmall (message_of msg_type messages)
unfolding message_of
choice_small msg_type every_none = tt
choice_small msg_type (every_more {x = m} {s = messages} p s) = by_test (same_bytes m.msg_type msg_type) (choice_small msg_type s)
  where
    by_test : (b : Bool) → ChoiceSmall (message_of msg_type messages) → ChoiceSmall (pick b (laid_out (flattened m.nodes)) (message_of msg_type messages))
    by_test true later = flattened_small p
    by_test false later = later

pub layout_small : (bytes msg_type : List ℕ) → Bytes bytes → ChoiceSmall (layout_of (dictionary_of bytes) msg_type)
unfolding layout_of dictionary_of meaning_of declarations_of
layout_small bytes msg_type b =
    choice_small msg_type (messages_small [] every_none (declarations_small (size_of (records_from bytes 0)) (records_from bytes 0) (records_small bytes b)))

-- what is looked up in a layout: its required tags, and the layout of a group
abbrev pub TagSmall : ℕ → Type 0
TagSmall tag = tag < 2 ^ 32

pub required_small : {layout : Layout} → LayoutSmall layout → Every TagSmall (required_tags layout)
unfolding required_tags
required_small end_small = every_none
required_small (field_small {tag} {required} {rest} t p) = by_mark required (required_small p)
  where
    by_mark : (b : Bool) → Every TagSmall (required_tags rest) → Every TagSmall (pick b (tag ∷ required_tags rest) (required_tags rest))
    by_mark true later = every_more t later
    by_mark false later = later
required_small (group_small {tag} {required} {inner} {rest} t i p) = by_mark required (required_small p)
  where
    by_mark : (b : Bool) → Every TagSmall (required_tags rest) → Every TagSmall (pick b (tag ∷ required_tags rest) (required_tags rest))
    by_mark true later = every_more t later
    by_mark false later = later

abbrev pub GroupSmall : Group → Type 0
GroupSmall none = Unit {0}
GroupSmall (entries layout) = LayoutSmall layout

since_small : (sofar : Group) (tag : ℕ) {layout : Layout} → GroupSmall sofar → LayoutSmall layout → GroupSmall (group_since sofar tag layout)
unfolding group_since
since_small sofar tag g end_small = g
since_small sofar tag g (field_small t p) = since_small sofar tag g p
since_small sofar tag g (group_small {tag = t} {inner = inner} s i p) = since_small (pick (eqb t tag) (entries inner) sofar) tag (by_test (eqb t tag)) p
  where
    by_test : (b : Bool) → GroupSmall (pick b (entries inner) sofar)
    by_test true = i
    by_test false = g

pub group_of_small : (tag : ℕ) {layout : Layout} → LayoutSmall layout → GroupSmall (group_of tag layout)
unfolding group_of
group_of_small tag p = since_small none tag tt p
