-- What holds of the words while tables are laid: each word of the directory leads nowhere, or to a block behind the directory that holds the
-- table of the place it says. A later block is written behind all of them, so it changes none.
use Rattle.std.specs.Prelude.{◌≡◌, refl, ◌⊎◌, Bool, true, false, List, ℕ, ◌+◌, ◌*◌, ◌/◌, ◌≤◌, ◌<◌, length, get_or, take, drop, replicate, eqb}
use Rattle.std.proofs.Common.{sym, ap, ◌∙◌, subst, inl, inr, ⊎_elim, eqb-true, Some}
use native.Mathlib.Omega.{arith}
use Rattle.std.proofs.lemmas.List.{length-replicate, get_or-replicate}
use Rattle.std.proofs.Math.ListN.{get_or-append}
use Rattle.std.proofs.lemmas.Bool.{eqb-false}
use Rattle.dictionary_layout_rules.specs.Layout.{Layout}
use Rattle.dictionary_layout_rules.specs.RowsLayout.{layout_in}
use Rattle.dictionary_tables_rules.specs.Laid.{table_size, table_of}
use Rattle.dictionary_tables_rules.specs.Tags.{fields_of}
use Rattle.dictionary_meaning_rules.specs.MessageTable.{tabling, placed_table}
use Rattle.dictionary_meaning_rules.specs.declared.MessageTable.TheVariants.{Rows}
use Rattle.dictionary_directory.specs.Directory.{longest, directory_words, block_stride, tags_place, next_block, with_block, tags_listed, clear_directory}
use Rattle.dictionary_directory.proofs.BlockLaws.{slot_now, word_kept, part-kept, size_now, place_now, table_now}

-- the layout whose table is laid for a place: that of the message whose record stands there, or the tags of the header or of the trailer
pub data LaidFor (d index : List ℕ) : ℕ → Layout → Type 0 where
  for_message : {place count : ℕ} {rows : List ℕ} → place < longest → placed_table d index (Some place) (replicate 4096 0) ≡ tabling (Rows count) rows →
      LaidFor d index place (layout_in rows count)
  for_tags : (number : ℕ) → LaidFor d index (tags_place number) (fields_of (tags_listed d index number))

-- a block behind the directory, before the first free word, that holds the table which is laid for the place it says
pub record BlockStands (d index tables : List ℕ) (block free : ℕ) : Type 0 where
  pub layout : Layout
  pub laid : LaidFor d index (get_or tables (block + 1) 0) layout
  pub table : take (get_or tables block 0) (drop (block + 2) tables) ≡ table_of layout
  pub behind : directory_words ≤ block
  pub ends : block + 2 + get_or tables block 0 ≤ free

-- the words so far, whose first free one is `free`
pub record Fills (d index tables : List ℕ) (free : ℕ) : Type 0 where
  pub aligned : block_stride * (free / block_stride) ≡ free
  pub behind : directory_words ≤ free
  pub leads : (slot : ℕ) → slot < directory_words → (get_or tables slot 0 ≡ 0) ⊎ BlockStands d index tables (block_stride * get_or tables slot 0) free

-- where nothing is laid yet
pub clear_fills : (d index tables : List ℕ) → Fills d index (clear_directory tables) directory_words
unfolding clear_directory
clear_fills d index tables = record {
  aligned = refl;
  behind = omega arith;
  leads = λ slot h. inl (
      get_or-append (replicate directory_words 0) (drop directory_words tables) 0 slot (omega (arith, length-replicate {A = ℕ} directory_words 0))
      ∙ get_or-replicate {A = ℕ} directory_words slot 0 0 h);
}

-- one block more
module _ (d index : List ℕ) (slot place : ℕ) (layout : Layout) (tables : List ℕ) (free : ℕ) (apart : slot < directory_words)
    (laid : LaidFor d index place layout) (room : free + 2 + table_size layout ≤ length tables) (fills : Fills d index tables free) where
  abbrev filled : List ℕ
  filled = with_block slot place layout tables free

  abbrev next : ℕ
  next = next_block (free + 2 + table_size layout)

  next-behind : free + 2 + table_size layout ≤ next
  unfolding next_block
  next-behind = omega arith

  block_kept : (block : ℕ) → BlockStands d index tables block free → BlockStands d index filled block next
  block_kept block b =
      let behind = b.behind in
      let ends = b.ends in
      let later = next-behind in
      let size : get_or filled block 0 ≡ get_or tables block 0 = word_kept slot place layout tables free room block (omega arith) (λ e. omega arith) in
      let whose : get_or filled (block + 1) 0 ≡ get_or tables (block + 1) 0 =
      word_kept slot place layout tables free room (block + 1) (omega arith) (λ e. omega arith) in
      record {
        layout = b.layout;
        laid = subst (λ (n : ℕ). LaidFor d index n b.layout) (sym whose) b.laid;
        table = ap (λ (n : ℕ). take n (drop (block + 2) filled)) size
            ∙ part-kept slot place layout tables free room (block + 2) (get_or tables block 0) (omega arith) (omega arith) ∙ b.table;
        behind = b.behind;
        ends = omega arith;
      }

  block_new : BlockStands d index filled free next
  block_new =
      let behind = fills.behind in
      let low : slot < free = omega arith in
      let size = size_now slot place layout tables free room low in
      record {
        layout = layout;
        laid = subst (λ (n : ℕ). LaidFor d index n layout) (sym (place_now slot place layout tables free room low)) laid;
        table = ap (λ (n : ℕ). take n (drop (free + 2) filled)) size ∙ table_now slot place layout tables free room low;
        behind = behind;
        ends = omega (arith, next-behind, size);
      }

  block_leads : (word : ℕ) → word < directory_words → (get_or filled word 0 ≡ 0) ⊎ BlockStands d index filled (block_stride * get_or filled word 0) next
  block_leads word h = go (eqb word slot) refl
    where
      go : (b : Bool) → eqb word slot ≡ b → (get_or filled word 0 ≡ 0) ⊎ BlockStands d index filled (block_stride * get_or filled word 0) next
      go true e =
          let same : get_or filled word 0 ≡ free / block_stride =
          ap (λ (n : ℕ). get_or filled n 0) (eqb-true _ _ e) ∙ slot_now slot place layout tables free room (omega (arith, fills.behind)) in
          let at : block_stride * get_or filled word 0 ≡ free = ap (λ (n : ℕ). block_stride * n) same ∙ fills.aligned in
          inr (subst (λ (n : ℕ). BlockStands d index filled n next) (sym at) block_new)
      go false e =
          let same : get_or filled word 0 ≡ get_or tables word 0 =
          word_kept slot place layout tables free room word (omega (arith, fills.behind)) (eqb-false _ _ e) in
          ⊎_elim
          (λ z. inl (same ∙ z))
          (λ b. inr (subst (λ (n : ℕ). BlockStands d index filled (block_stride * n) next) (sym same) (block_kept _ b)))
          (fills.leads word h)

  pub block_fills : Fills d index filled next
  block_fills = record { aligned = unfold next_block in omega arith; behind = omega (arith, next-behind, fills.behind); leads = block_leads }
