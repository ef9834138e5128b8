-- The laws of a message's table: each way that finding its place and laying it goes.
use Rattle.std.specs.Prelude.{◌≡◌, refl, List, ℕ, ◌+◌, Some, None}
use Rattle.std.proofs.Common.{sym, ap, ◌∙◌}
use Rattle.dictionary_rules.specs.Index.{component_at, message_at}
use Rattle.dictionary_meaning_rules.specs.Laying.{Laying, laying, lay_items}
use Rattle.dictionary_meaning_rules.specs.MsgType.{name_of}
use Rattle.dictionary_meaning_rules.specs.MessageTable.{most_calls, Tabling, tabling, as_table, placed_table, place_named, place_of, message_table}
use Rattle.dictionary_meaning_rules.specs.declared.MessageTable.TheVariants.{Rows, NoMessage, Unprepared}

module _ (index value : List ℕ) where
  pub place_unnamed : name_of value ≡ None → place_of index value ≡ None
  unfolding place_of place_named
  place_unnamed e = rw e

  pub place_named_lem : (msg_type : ℕ) → name_of value ≡ Some msg_type → place_of index value ≡ message_at index msg_type
  unfolding place_of place_named
  place_named_lem msg_type e = rw e

module _ (dictionary index value table : List ℕ) where
  pub table-nowhere : place_of index value ≡ None → message_table dictionary index value table ≡ tabling NoMessage table
  unfolding message_table placed_table
  table-nowhere e = rw e

  pub table_rows : (place : ℕ) → place_of index value ≡ Some place → (after rows : ℕ) (laid : List ℕ) →
      lay_items most_calls dictionary (component_at index) (place + 9) 0 table ≡ laying (Some (after, rows)) laid → message_table dictionary index value table ≡ tabling (Rows rows) laid
  unfolding message_table placed_table as_table
  table_rows place placed after rows laid e = rw (placed, e)
