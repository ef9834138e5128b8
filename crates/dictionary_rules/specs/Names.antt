-- What a dictionary names: the known tags, the closed components and the messages, and what is looked up in them.
use Rattle.std.specs.Prelude.{ℕ, Bool, true, false, List, [], ◌∷◌, eqb, Option, Some, None}
use Rattle.field_rules.specs.Choice.{pick}
use Rattle.dictionary_rules.specs.declared.Component.{Component}
use Rattle.dictionary_rules.specs.declared.Note.{Note}
use Rattle.dictionary_rules.specs.declared.Note.TheVariants.{Unchanged, KnowsTag, ClosesComponent, NamesMessage}

-- what earlier records made known
pub record Looks : Type 0 where
  pub known : ℕ → Bool
  pub component : ℕ → Option Component
  pub message : ℕ → Option ℕ

-- a message that has opened
pub record Message : Type 0 where
  pub msg_type : ℕ
  pub place : ℕ

-- what a dictionary names: the known tags, the closed components and the messages, the latest first
pub record Names : Type 0 where
  pub tags : List ℕ
  pub components : List Component
  pub messages : List Message

unfoldable pub is_known : List ℕ → ℕ → Bool
is_known [] tag = false
is_known (t ∷ tags) tag = pick (eqb tag t) true (is_known tags tag)

unfoldable pub component_in : List Component → ℕ → Option Component
component_in [] number = None
component_in (c ∷ components) number = pick (eqb number c.number) (Some c) (component_in components number)

unfoldable pub message_in : List Message → ℕ → Option ℕ
message_in [] msg_type = None
message_in (m ∷ messages) msg_type = pick (eqb msg_type m.msg_type) (Some m.place) (message_in messages msg_type)

unfoldable pub looks_in : Names → Looks
looks_in names =
    record { known = is_known names.tags; component = component_in names.components; message = message_in names.messages }

unfoldable pub named : Names → Note → Names
named names Unchanged = names
named names (KnowsTag place tag) = record { tags = tag ∷ names.tags; components = names.components; messages = names.messages }
named names (ClosesComponent c) = record { tags = names.tags; components = c ∷ names.components; messages = names.messages }
named names (NamesMessage place msg_type) =
    record { tags = names.tags; components = names.components; messages = record { msg_type = msg_type; place = place } ∷ names.messages }

unfoldable pub no_names : Names
no_names = record { tags = []; components = []; messages = [] }
