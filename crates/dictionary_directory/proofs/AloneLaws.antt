-- What a table that is laid by itself is, where one could be laid: just the words of the layout that the rows hold.
use Rattle.std.proofs.Math.Path.{◌≡◌, sym, ap}
use Rattle.std.specs.Prelude.{refl, List, ◌++◌, ℕ, ◌≤◌, take, replicate}
use Rattle.std.proofs.Common.{Option, ◌∙◌, arith, Some, None}
use Rattle.std.proofs.Math.ListN.{length, drop, length-append, length-drop, length-replicate}
use Rattle.std.proofs.Math.Seq.{take_at}
use Rattle.dictionary_layout_rules.specs.RowsLayout.{layout_in}
use Rattle.dictionary_tables_rules.specs.Laid.{table_size, table_of}
use Rattle.dictionary_tables_rules.proofs.Tabled.{table-length}
use Rattle.dictionary_meaning_rules.specs.MessageTable.{Tabling, tabling, placed_table}
use Rattle.dictionary_meaning_rules.proofs.LaidLayoutLaws.{placed_layout}
use Rattle.dictionary_meaning_rules.specs.declared.MessageTable.TheVariants.{Rows, NoMessage, Unprepared}
use Rattle.dictionary_directory.specs.Directory.{table_words, laid_alone, laid_over}
use Rattle.dictionary_directory.proofs.LayingFacts.{held_fits}

-- a table stands in the first words
pub record Alone (d index : List ℕ) (place size : ℕ) (words : List ℕ) : Type 0 where
  pub count : ℕ
  pub rows : List ℕ
  pub made : placed_table d index (Some place) (replicate 4096 0) ≡ tabling (Rows count) rows
  pub table : take size words ≡ table_of (layout_in rows count)
  pub fits : size ≤ table_words
  pub long : length words ≡ table_words

module _ (d index : List ℕ) (place from size : ℕ) (before after : List ℕ) (room : length before ≡ table_words) where
  pub alone : Some (from, size) ≡ laid_alone (placed_table d index (Some place) (replicate 4096 0)) → after ≡ laid_over (placed_table d index (Some place) (replicate 4096 0)) before →
      Alone d index place size after
  alone = go (placed_table d index (Some place) (replicate 4096 0)) refl
    where
      go : (told : Tabling) → placed_table d index (Some place) (replicate 4096 0) ≡ told → Some (from, size) ≡ laid_alone told → after ≡ laid_over told before → Alone d index place size after
      go (tabling NoMessage rows) e k o = let s : ◌≡◌ {A = Option (ℕ × ℕ)} (Some (from, size)) None = unfold laid_alone in k in let z : ◌≡◌ {A = ℕ} 0 1 = cc in absurd (omega arith)
      go (tabling Unprepared rows) e k o = let s : ◌≡◌ {A = Option (ℕ × ℕ)} (Some (from, size)) None = unfold laid_alone in k in let z : ◌≡◌ {A = ℕ} 0 1 = cc in absurd (omega arith)
      go (tabling (Rows count) rows) e k o =
          let s : ◌≡◌ {A = Option (ℕ × ℕ)} (Some (from, size)) (Some (0, table_size (layout_in rows count))) = unfold laid_alone in k in
          let both : ◌≡◌ {A = ℕ × ℕ} (from, size) (0, table_size (layout_in rows count)) = cc in
          let sized : size ≡ table_size (layout_in rows count) = ap (λ (kept : ℕ × ℕ). kept.1) both in
          let words : after ≡ table_of (layout_in rows count) ++ drop (table_size (layout_in rows count)) before = unfold laid_over in o in
          let n = table-length (layout_in rows count) in
          let l = placed_layout d index place (replicate 4096 0) rows count (omega (arith, length-replicate {A = ℕ} 4096 0)) (sym e) in
          record {
            count = count;
            rows = rows;
            made = e;
            table = ap (take size) words ∙ take_at (table_of (layout_in rows count)) _ size (n ∙ sym sized);
            fits = omega (arith, held_fits rows count l);
            long = ap length words ∙ length-append (table_of (layout_in rows count)) (drop (table_size (layout_in rows count)) before)
                ∙ omega (arith, n, length-drop (table_size (layout_in rows count)) before, held_fits rows count l);
          }
