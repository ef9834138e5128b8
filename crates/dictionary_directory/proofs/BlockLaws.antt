-- What a new block leaves as it was, and what it adds: words before the first free one stay, but for the one that leads to it.
use Rattle.std.specs.Prelude.{◌≡◌, refl, List, ◌++◌, ℕ, ◌+◌, ◌/◌, ◌≤◌, ◌<◌, length, take}
use Rattle.std.proofs.Common.{sym, ◌∙◌, arith, length-append, length-drop, take-append-drop, length-take-le, get_or-take, drop-set-lt}
use Rattle.std.proofs.Math.Path.{ap}
use Rattle.std.proofs.Math.ListN.{get_or, drop, length-set, get_or-append}
use Rattle.std.proofs.Math.Seq.{take_at, drop-append-add, get_or-append-add, get_or-set_same, get_or-set_other}
use Rattle.std.proofs.lemmas.List.{take-append-le, drop-append-le}
use Rattle.dictionary_layout_rules.specs.Layout.{Layout}
use Rattle.dictionary_tables_rules.specs.Laid.{table_size, table_of}
use Rattle.dictionary_tables_rules.proofs.Tabled.{table-length}
use Rattle.dictionary_directory.specs.Directory.{block_stride, block_of, with_block}

-- what lies in front of a word stays, whatever comes behind
module _ (tables rest : List ℕ) (free : ℕ) (within : free ≤ length tables) where
  front-word : (i : ℕ) → i < free → get_or (take free tables ++ rest) i 0 ≡ get_or tables i 0
  front-word i h =
      get_or-append (take free tables) rest 0 i (omega (arith, length-take-le free tables within)) ∙ get_or-take free tables i 0 h

  front_only : (from size : ℕ) → from + size ≤ free → take size (drop from (take free tables ++ rest)) ≡ take size (drop from (take free tables))
  front_only from size h =
      let n = length-take-le free tables within in
      ap (take size) (drop-append-le from (take free tables) rest (omega arith))
      ∙ take-append-le size (drop from (take free tables)) rest (omega (arith, length-drop from (take free tables)))

front-part : (tables rest : List ℕ) (free from size : ℕ) → free ≤ length tables → from + size ≤ free →
    take size (drop from (take free tables ++ rest)) ≡ take size (drop from tables)
front-part tables rest free from size w h =
    front_only tables rest free w from size h ∙ sym (front_only tables (drop free tables) free w from size h)
    ∙ ap (λ (l : List ℕ). take size (drop from l)) (take-append-drop free tables)

module _ (slot place : ℕ) (layout : Layout) (tables : List ℕ) (free : ℕ) (room : free + 2 + table_size layout ≤ length tables) where
  abbrev over : List ℕ
  over = take free tables ++ (block_of place layout ++ drop (free + 2 + table_size layout) tables)

  front : length (take free tables) ≡ free
  front = length-take-le free tables (omega arith)

  block_length : length (block_of place layout) ≡ 2 + table_size layout
  unfolding block_of
  block_length = omega (arith, table-length layout)

  over-length : length over ≡ length tables
  over-length =
      omega (
        arith,
        length-append (take free tables) (block_of place layout ++ drop (free + 2 + table_size layout) tables),
        length-append (block_of place layout) (drop (free + 2 + table_size layout) tables),
        front,
        block_length,
        length-drop (free + 2 + table_size layout) tables,
      )

  pub with-length : length (with_block slot place layout tables free) ≡ length tables
  unfolding with_block
  with-length = length-set over slot (free / block_stride) ∙ over-length

  -- the directory leads to the block
  pub slot_now : slot < length tables → get_or (with_block slot place layout tables free) slot 0 ≡ free / block_stride
  unfolding with_block
  slot_now h = get_or-set_same over slot (free / block_stride) 0 (omega (arith, over-length))

  pub word_kept : (i : ℕ) → i < free → (i ≡ slot → ⊥) → get_or (with_block slot place layout tables free) i 0 ≡ get_or tables i 0
  unfolding with_block
  word_kept i h n =
      get_or-set_other over slot i (free / block_stride) 0 n
      ∙ front-word tables (block_of place layout ++ drop (free + 2 + table_size layout) tables) free (omega arith) i h

  pub part-kept : (from size : ℕ) → slot < from → from + size ≤ free →
      take size (drop from (with_block slot place layout tables free)) ≡ take size (drop from tables)
  unfolding with_block
  part-kept from size o h =
      ap (take size) (drop-set-lt from over slot (free / block_stride) o)
      ∙ front-part tables (block_of place layout ++ drop (free + 2 + table_size layout) tables) free from size (omega arith) h

  module _ (apart : slot < free) where
    block_word : (k : ℕ) →
        get_or (with_block slot place layout tables free) (free + k) 0 ≡ get_or (block_of place layout ++ drop (free + 2 + table_size layout) tables) k 0
    unfolding with_block
    block_word k =
        get_or-set_other over slot (free + k) (free / block_stride) 0 (λ e. omega arith)
        ∙ ap (λ (n : ℕ). get_or over (n + k) 0) (sym front)
        ∙ get_or-append-add (take free tables) (block_of place layout ++ drop (free + 2 + table_size layout) tables) k 0

    -- the block says how many words its table has, and whose it is
    pub size_now : get_or (with_block slot place layout tables free) free 0 ≡ table_size layout
    size_now =
        let z : free ≡ free + 0 = omega arith in
        ap (λ (n : ℕ). get_or (with_block slot place layout tables free) n 0) z ∙ block_word 0 ∙ (unfold block_of in refl)

    pub place_now : get_or (with_block slot place layout tables free) (free + 1) 0 ≡ place
    place_now = block_word 1 ∙ (unfold block_of in refl)

    pub table_now : take (table_size layout) (drop (free + 2) (with_block slot place layout tables free)) ≡ table_of layout
    unfolding with_block block_of
    table_now =
        ap (take (table_size layout)) (drop-set-lt (free + 2) over slot (free / block_stride) (omega arith)
        ∙ ap (λ (n : ℕ). drop (n + 2) over) (sym front)
        ∙ drop-append-add (take free tables) (block_of place layout ++ drop (free + 2 + table_size layout) tables) 2)
        ∙ take_at (table_of layout) (drop (free + 2 + table_size layout) tables) (table_size layout) (table-length layout)
