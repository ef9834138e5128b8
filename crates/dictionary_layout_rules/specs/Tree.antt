-- What a dictionary means, as a tree: known tags, the items of the standard header and trailer, and the messages, each with its items.
-- Nothing here knows how a dictionary is written down.
use Rattle.std.specs.Prelude.{ℕ, List, [], ◌∷◌, Bool, true, false, eqb}
use Rattle.field_rules.specs.Choice.{pick}
use Rattle.dictionary_layout_rules.specs.Layout.{Layout, end, field, group, followed_by}

-- The items of a component, a message or a group, each with its own required mark. A component item holds that component's items.
pub data Nodes : Type 0 where
  nothing : Nodes
  field_item_lem : ℕ → Bool → Nodes → Nodes
  component_item_lem : Bool → Nodes → Nodes → Nodes
  group_item_lem : ℕ → Bool → Nodes → Nodes → Nodes

pub record Message : Type 0 where
  pub msg_type : List ℕ
  pub nodes : Nodes

pub record Dictionary : Type 0 where
  pub known : List ℕ
  pub header : Nodes
  pub trailer : Nodes
  pub messages : List Message

-- a tag stands in a list of tags
unfoldable pub holds_tag : ℕ → List ℕ → Bool
holds_tag tag [] = false
holds_tag tag (t ∷ tags) = pick (eqb t tag) true (holds_tag tag tags)

-- the dictionary has the tag
unfoldable pub knows : Dictionary → ℕ → Bool
knows dictionary tag = holds_tag tag dictionary.known

-- "the plain field items directly in" a component: no group's count, and nothing of a component within
unfoldable pub plain_fields : Nodes → List ℕ
plain_fields nothing = []
plain_fields (field_item_lem tag required rest) = tag ∷ plain_fields rest
plain_fields (component_item_lem required inner rest) = plain_fields rest
plain_fields (group_item_lem tag required inner rest) = plain_fields rest

-- "Header and trailer tags are the plain field items directly in components 0 and 1."
unfoldable pub header_tags_lem : Dictionary → List ℕ
header_tags_lem dictionary = plain_fields dictionary.header

unfoldable pub trailer_tags_lem : Dictionary → List ℕ
trailer_tags_lem dictionary = plain_fields dictionary.trailer

-- "Components are flattened in place; only an item's own required mark counts."
unfoldable pub flattened : Nodes → Layout
flattened nothing = end
flattened (field_item_lem tag required rest) = field tag required (flattened rest)
flattened (component_item_lem required inner rest) = followed_by (flattened inner) (flattened rest)
flattened (group_item_lem tag required inner rest) = group tag required (flattened inner) (flattened rest)

-- a MsgType is compared with its length
unfoldable pub same_bytes : List ℕ → List ℕ → Bool
same_bytes [] [] = true
same_bytes [] (y ∷ t) = false
same_bytes (x ∷ s) [] = false
same_bytes (x ∷ s) (y ∷ t) = pick (eqb x y) (same_bytes s t) false

-- what a dictionary says of a MsgType
pub data Choice : Type 0 where
  no_message : Choice
  laid_out : Layout → Choice

unfoldable pub message_of : List ℕ → List Message → Choice
message_of msg_type [] = no_message
message_of msg_type (message ∷ messages) =
    pick (same_bytes message.msg_type msg_type) (laid_out (flattened message.nodes)) (message_of msg_type messages)

-- "MsgType must be in the dictionary": the layout of a message, if it is
unfoldable pub layout_of : Dictionary → List ℕ → Choice
layout_of dictionary msg_type = message_of msg_type dictionary.messages
