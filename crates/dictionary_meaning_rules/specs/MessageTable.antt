-- The table of a message: its MsgType is looked up in the index, and its items are laid from the first row on.
use Rattle.std.specs.Prelude.{ℕ, ◌+◌, List, Option, Some, None}
use Rattle.dictionary_rules.specs.Index.{component_at, message_at}
use Rattle.dictionary_meaning_rules.specs.Laying.{Laying, laying, lay_items}
use Rattle.dictionary_meaning_rules.specs.MsgType.{name_of}
use Rattle.dictionary_meaning_rules.specs.declared.MessageTable.{MessageTable}
use Rattle.dictionary_meaning_rules.specs.declared.MessageTable.TheVariants.{Rows, NoMessage, Unprepared}

-- the answer, and what the table holds then
pub data Tabling : Type 0 where
  tabling : MessageTable → List ℕ → Tabling

unfoldable pub as_table : Laying → Tabling
as_table (laying None table) = tabling Unprepared table
as_table (laying (Some (after, rows)) table) = tabling (Rows rows) table

-- laying goes down at most once for each of 1,024 items and for each of four groups that nest, which is what passes the check, below a message
-- that holds a component only
abbrev pub most_calls : ℕ
most_calls = 1030

-- a message's items stand behind the record of nine bytes that opens it
unfoldable pub placed_table : List ℕ → List ℕ → Option ℕ → List ℕ → Tabling
placed_table dictionary index None table = tabling NoMessage table
placed_table dictionary index (Some place) table = as_table (lay_items most_calls dictionary (component_at index) (place + 9) 0 table)

-- where the record stands that opens the message of a name
unfoldable pub place_named : List ℕ → Option ℕ → Option ℕ
place_named index None = None
place_named index (Some msg_type) = message_at index msg_type

-- and that of a MsgType's value
unfoldable pub place_of : List ℕ → List ℕ → Option ℕ
place_of index value = place_named index (name_of value)

unfoldable pub message_table : List ℕ → List ℕ → List ℕ → List ℕ → Tabling
message_table dictionary index value table = placed_table dictionary index (place_of index value) table
