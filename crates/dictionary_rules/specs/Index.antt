-- The lent index as a store of names: what is entered for each, word by word, and what a look-up answers.
use Rattle.std.specs.Prelude.{ℕ, ◌/◌, ◌%◌, Bool, true, false, List, eqb, Option, Some, None}
use Rattle.field_rules.specs.Choice.{pick}
use Rattle.dictionary_chains.specs.Chain.{entry_at, found, entered}
use Rattle.dictionary_chains.specs.declared.Table.TheVariants.{Tags, Components, MsgTypes}
use Rattle.dictionary_chains.specs.declared.Entry.{Entry}
use Rattle.dictionary_rules.specs.declared.Component.{Component}
use Rattle.dictionary_rules.specs.declared.Note.{Note}
use Rattle.dictionary_rules.specs.declared.Note.TheVariants.{Unchanged, KnowsTag, ClosesComponent, NamesMessage}
use Rattle.dictionary_rules.specs.Names.{Looks}

-- a tag as two words, low word first
unfoldable pub tag_entry : ℕ → ℕ → Entry
tag_entry place tag = record { place = place; first = tag % 65536; second = tag / 65536; third = 0; fourth = 0 }

-- a closed component: its number, its items, its depth, and the component that it stands for
unfoldable pub component_entry : Component → Entry
component_entry c = record { place = c.place; first = c.number; second = c.items; third = c.depth; fourth = c.stands }

-- a MsgType as four words, low word first
unfoldable pub message_entry : ℕ → ℕ → Entry
message_entry place msg_type =
    record { place = place; first = msg_type % 65536; second = msg_type / 65536 % 65536; third = msg_type / 4294967296 % 65536; fourth = msg_type / 281474976710656 }

unfoldable pub component_of : Entry → Component
component_of e = record { number = e.first; place = e.place; items = e.second; depth = e.third; stands = e.fourth }

unfoldable pub tag_at : List ℕ → ℕ → Bool
tag_at index tag = pick (eqb (found Tags index tag) 0) false true

unfoldable pub looked_as : ℕ → Component → Option Component
looked_as number c = pick (eqb number 0) None (Some c)

unfoldable pub component_at : List ℕ → ℕ → Option Component
component_at index number = looked_as (found Components index number) (component_of (entry_at index (found Components index number)))

unfoldable pub placed_as : ℕ → Entry → Option ℕ
placed_as number e = pick (eqb number 0) None (Some e.place)

unfoldable pub message_at : List ℕ → ℕ → Option ℕ
message_at index msg_type = placed_as (found MsgTypes index msg_type) (entry_at index (found MsgTypes index msg_type))

unfoldable pub looks_at : List ℕ → Looks
looks_at index = record { known = tag_at index; component = component_at index; message = message_at index }

unfoldable pub noted : List ℕ → Note → List ℕ
noted index Unchanged = index
noted index (KnowsTag place tag) = entered Tags index (tag_entry place tag)
noted index (ClosesComponent c) = entered Components index (component_entry c)
noted index (NamesMessage place msg_type) = entered MsgTypes index (message_entry place msg_type)
