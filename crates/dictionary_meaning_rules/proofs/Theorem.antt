-- "A dictionary that passes has tables for each of its messages, and the tables mean the tree's layout": what `message_table` answers and
-- writes, for any value of MsgType and whatever the table held before.
use Rattle.std.specs.Prelude.{◌≡◌, refl, List, ℕ, ◌≤◌, length}
use Rattle.std.proofs.Common.{◌∙◌, arith, Option, Some, None}
use Rattle.dictionary_chains.specs.Chain.{index_words}
use Rattle.dictionary_layout_rules.specs.Layout.{Layout, items}
use Rattle.dictionary_layout_rules.specs.Tree.{Choice, no_message, laid_out}
use Rattle.dictionary_layout_rules.specs.Tree.{layout_of as layout_in_tree}
use Rattle.dictionary_layout_rules.specs.Tabled.{Tabled}
use Rattle.dictionary_rules.specs.Check.{store_of, check_of}
use Rattle.dictionary_rules.specs.Index.{component_at, message_at}
use Rattle.dictionary_rules.specs.Check.{prepared_of}
use Rattle.dictionary_rules.specs.declared.Checked.TheVariants.{Passes}
use Rattle.dictionary_meaning_rules.specs.Meaning.{dictionary_of}
use Rattle.dictionary_meaning_rules.proofs.Written.{written, written-length, written_stands}
use Rattle.dictionary_meaning_rules.specs.MsgType.{name_of}
use Rattle.dictionary_meaning_rules.proofs.MsgTypeText.{Bytes}
use Rattle.dictionary_meaning_rules.specs.MessageTable.{Tabling, tabling, place_of, message_table}
use Rattle.dictionary_meaning_rules.specs.MessageTableLaws.{place_unnamed, place_named_lem, table-nowhere, table_rows}
use Rattle.dictionary_meaning_rules.proofs.Tables.{MessageAs}
use Rattle.dictionary_meaning_rules.proofs.Prepared.{message-laid, message-none}
use Rattle.dictionary_meaning_rules.specs.declared.MessageTable.TheVariants.{Rows, NoMessage}

-- what the tree says of a MsgType, and what was answered and written
pub data TableOf (table : List ℕ) : Choice → Tabling → Type 0 where
  no_table : TableOf table no_message (tabling NoMessage table)
  a-table : {layout : Layout} {rows : List ℕ} → items layout ≤ 1024 → length rows ≡ length table → Tabled rows (record { first = 0; end = items layout }) layout → TableOf table (laid_out layout) (tabling (Rows (items layout)) rows)

module _ (d : List ℕ) (bytes : Bytes d) (passes : check_of d ≡ Passes) (index : List ℕ) (size : length index ≡ index_words) where
  abbrev made : List ℕ
  made = store_of (prepared_of d index)

  -- a layout that is laid is tabled
  laid_table : (value table : List ℕ) (msg_type place : ℕ) (layout : Layout) → 4096 ≤ length table → name_of value ≡ Some msg_type → message_at made msg_type ≡ Some place → MessageAs d (component_at made) place layout → TableOf table (laid_out layout) (message_table d made value table)
  laid_table value table msg_type place layout room name placed as-laid =
      let w = as-laid.laid table in
      let limit = as-laid.limit in
      rw (table_rows d made value table place (place_named_lem made value msg_type name ∙ placed) w.0 (items layout) (written 0 layout table) w.1)
      (a-table limit (written-length 0 layout table) (record { stands = written_stands 0 layout table (omega arith); ends = omega arith }))

  pub tables_mean_tree : (value table : List ℕ) → Bytes value → 4096 ≤ length table → TableOf table (layout_in_tree (dictionary_of d) value) (message_table d made value table)
  tables_mean_tree value table text room = by_name (name_of value) refl
    where
      none : ((msg_type : ℕ) → name_of value ≡ Some msg_type → message_at made msg_type ≡ None) → place_of made value ≡ None →
          TableOf table (layout_in_tree (dictionary_of d) value) (message_table d made value table)
      none nowhere e = rw (message-none d passes index size bytes value nowhere, table-nowhere d made value table e) no_table

      by_place : (msg_type : ℕ) (placed : Option ℕ) → name_of value ≡ Some msg_type → message_at made msg_type ≡ placed →
          TableOf table (layout_in_tree (dictionary_of d) value) (message_table d made value table)
      by_place msg_type None name e =
          none (λ wanted other. let same : wanted ≡ msg_type = cc in rw same e) (place_named_lem made value msg_type name ∙ e)
      by_place msg_type (Some place) name e =
          let l = message-laid d passes index size bytes value text msg_type place name e in
          rw l.1 (laid_table value table msg_type place l.0 room name e l.2)

      by_name : (name : Option ℕ) → name_of value ≡ name → TableOf table (layout_in_tree (dictionary_of d) value) (message_table d made value table)
      by_name None e = none (λ wanted other. let z : ◌≡◌ {A = ℕ} 0 1 = cc in absurd (omega arith)) (place_unnamed made value e)
      by_name (Some msg_type) e = by_place msg_type (message_at made msg_type) e refl
