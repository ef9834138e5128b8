-- What the directory leads to after tables were laid is the table of the message whose record stands at the place that is asked for, or that of the
-- header's tags or the trailer's, whatever the words held before; and they stay as many.
use Rattle.std.specs.Prelude.{◌≡◌, ◌⊎◌, Bool, ℕ, ◌+◌, ◌*◌, ◌/◌, ◌≤◌, ◌<◌, length, get_or, take, drop, replicate, ltb}
use Rattle.std.proofs.Math.Path.{refl}
use Rattle.std.proofs.Common.{sym, ap, ◌∙◌, subst, arith, length-append, length-drop, leb-false, ltb-true, ltb-false, Option, Some, None}
use Rattle.std.proofs.Math.Logic.{inl, inr, ⊎_elim}
use Rattle.std.proofs.Math.Bool.{true, false}
use mathlib.Core.List.{List, [], ◌∷◌}
use Rattle.std.proofs.lemmas.List.{length-replicate}
use Rattle.std.proofs.Math.Dec.{leb}
use Rattle.field_rules.specs.Choice.{pick}
use Rattle.dictionary_layout_rules.specs.Layout.{Layout}
use Rattle.dictionary_layout_rules.specs.RowsLayout.{layout_in}
use Rattle.dictionary_tables_rules.specs.Laid.{table_size, table_of}
use Rattle.dictionary_tables_rules.specs.Tags.{fields_of}
use Rattle.dictionary_meaning_rules.specs.MessageTable.{Tabling, tabling, placed_table}
use Rattle.dictionary_meaning_rules.specs.declared.MessageTable.TheVariants.{Rows, NoMessage, Unprepared}
use Rattle.dictionary_directory.specs.Directory.{longest, directory_words, block_stride, tags_slot, tags_place, block_at, kept_at, tags_at, Filling, filling, next_block, with_block, room_for, put_block, tags_listed, lay_listed, put_rows, lay_message, messages_from, lay_messages, clear_directory, lay_tables}
use Rattle.dictionary_directory.proofs.KeptLaws.{kept-short, tags-short, Found, kept-found, found-tags}
use Rattle.dictionary_directory.proofs.BlockLaws.{with-length}
use Rattle.dictionary_directory.proofs.FillingLaws.{LaidFor, for_message, for_tags, BlockStands, Fills, clear_fills, block_fills}
use Rattle.dictionary_directory.proofs.LayingFacts.{lay_short, lay_all}
use Rattle.dictionary_directory.proofs.LayingFacts.{room-here}

-- a table that is found lies in the words, whatever they hold
pub table-lies : (tables : List ℕ) (place from size : ℕ) → kept_at tables place ≡ Some (from, size) → from + size ≤ length tables
table-lies tables place from size e = (kept-found tables place from size e).1.lies

pub tags_lie : (tables : List ℕ) (number from size : ℕ) → tags_at tables number ≡ Some (from, size) → from + size ≤ length tables
tags_lie tables number from size e = (found-tags tables number from size e).1.lies

-- what holds of the words so far, of which there are as many as were lent
data Holds (d index : List ℕ) (lent : ℕ) : Filling → Type 0 where
  holds : {tables : List ℕ} {free : ℕ} → length tables ≡ lent → Fills d index tables free → Holds d index lent (filling tables free)

module _ (d index : List ℕ) (lent : ℕ) where
  block_holds : (slot place : ℕ) (layout : Layout) (tables : List ℕ) (free : ℕ) → slot < directory_words → LaidFor d index place layout →
      length tables ≡ lent → Fills d index tables free → Holds d index lent (put_block slot place layout tables free)
  unfolding put_block
  block_holds slot place layout tables free apart laid n f = go (room_for (length tables) free (table_size layout)) refl
    where
      go : (b : Bool) → room_for (length tables) free (table_size layout) ≡ b →
          Holds d index lent (pick b (filling (with_block slot place layout tables free) (next_block (free + 2 + table_size layout))) (filling tables free))
      go true q =
          let room = (room-here _ _ _ q).1 in
          holds (with-length slot place layout tables free room ∙ n) (block_fills d index slot place layout tables free apart laid room f)
      go false q = holds n f

  listed-holds : (number : ℕ) (sofar : Filling) → number ≤ 1 → Holds d index lent sofar → Holds d index lent (lay_listed d index number sofar)
  unfolding lay_listed
  listed-holds number (filling tables free) h (holds n f) = block_holds (tags_slot number) (tags_place number) _ tables free (omega arith) (for_tags number) n f

  rows_hold : (place : ℕ) (t : Tabling) (tables : List ℕ) (free : ℕ) → place < longest → placed_table d index (Some place) (replicate 4096 0) ≡ t →
      length tables ≡ lent → Fills d index tables free → Holds d index lent (put_rows place t tables free)
  unfolding put_rows
  rows_hold place (tabling (Rows count) rows) tables free near e n f =
      block_holds (place / 4) place (layout_in rows count) tables free (omega arith) (for_message near e) n f
  rows_hold place (tabling NoMessage rows) tables free near e n f = holds n f
  rows_hold place (tabling Unprepared rows) tables free near e n f = holds n f

  message-holds : (place : ℕ) (sofar : Filling) → Holds d index lent sofar → Holds d index lent (lay_message d index place sofar)
  unfolding lay_message
  message-holds place (filling tables free) (holds n f) = go (leb longest place) refl
    where
      go : (b : Bool) → leb longest place ≡ b →
          Holds d index lent (pick b (filling tables free) (put_rows place (placed_table d index (Some place) (replicate 4096 0)) tables free))
      go true q = holds n f
      go false q = rows_hold place (placed_table d index (Some place) (replicate 4096 0)) tables free (leb-false _ _ q) refl n f

  messages_hold : (places : List ℕ) (sofar : Filling) → Holds d index lent sofar → Holds d index lent (lay_messages d index places sofar)
  unfolding lay_messages
  messages_hold [] sofar h = h
  messages_hold (place ∷ places) sofar h = messages_hold places (lay_message d index place sofar) (message-holds place sofar h)

clear_length : (tables : List ℕ) → directory_words ≤ length tables → length (clear_directory tables) ≡ length tables
unfolding clear_directory
clear_length tables h =
    omega (
      arith,
      length-append (replicate {A = ℕ} directory_words 0) (drop directory_words tables),
      length-replicate {A = ℕ} directory_words 0,
      length-drop directory_words tables,
    )

-- what laying comes to: words that hold, or too few for a directory
data Outcome (d index tables : List ℕ) : List ℕ → Type 0 where
  too_few : length tables < directory_words → Outcome d index tables tables
  filled : {words : List ℕ} {free : ℕ} → length words ≡ length tables → Fills d index words free → Outcome d index tables words

outcome : (d index tables : List ℕ) → Outcome d index tables (lay_tables d index tables)
outcome d index tables = by_length (ltb (length tables) directory_words) refl
  where
    by_filling : directory_words ≤ length tables → (start last : Filling) →
        lay_listed d index 1 (lay_listed d index 0 (filling (clear_directory tables) directory_words)) ≡ start →
        lay_messages d index (messages_from d 0) start ≡ last → Holds d index (length tables) last → Outcome d index tables (lay_tables d index tables)
    by_filling h start (filling words free) s e (holds n f) =
        subst (λ (l : List ℕ). Outcome d index tables l)
        (sym (lay_all d index tables h _ _ start refl refl (sym s) words free e)) (filled n f)

    by_length : (b : Bool) → ltb (length tables) directory_words ≡ b → Outcome d index tables (lay_tables d index tables)
    by_length true q =
        let few = ltb-true _ _ q in
        subst (λ (l : List ℕ). Outcome d index tables l) (sym (lay_short d index tables few)) (too_few few)
    by_length false q =
        let long = ltb-false _ _ q in
        let lent = length tables in
        let clear : Holds d index lent (filling (clear_directory tables) directory_words) = holds (clear_length tables long) (clear_fills d index tables) in
        let start = listed-holds d index lent 1 _ (omega arith) (listed-holds d index lent 0 _ (omega arith) clear) in
        by_filling long _ _ refl refl (messages_hold d index lent (messages_from d 0) _ start)

-- what the directory leads to is the table of the message whose record stands there
pub data Leads (d index tables : List ℕ) (place : ℕ) : Option (ℕ × ℕ) → Type 0 where
  nowhere : Leads d index tables place None
  a-table : {count : ℕ} {rows : List ℕ} {from size : ℕ} → placed_table d index (Some place) (replicate 4096 0) ≡ tabling (Rows count) rows →
      take size (drop from tables) ≡ table_of (layout_in rows count) → from + size ≤ length tables → Leads d index tables place (Some (from, size))

-- and what it leads to for the header (0) or the trailer (1) is the table of its tags
pub data TagsLead (d index tables : List ℕ) (number : ℕ) : Option (ℕ × ℕ) → Type 0 where
  tags-nowhere : TagsLead d index tables number None
  a-tags-table : {from size : ℕ} → take size (drop from tables) ≡ table_of (fields_of (tags_listed d index number)) → from + size ≤ length tables →
      TagsLead d index tables number (Some (from, size))

module _ (d index tables : List ℕ) (from size : ℕ) (lies : from + size ≤ length tables) where
  -- what was found holds the table that is laid for its place
  record Holding (place : ℕ) : Type 0 where
    layout : Layout
    laid : LaidFor d index place layout
    table : take size (drop from tables) ≡ table_of layout

  message_leads : (place : ℕ) → place < longest → Holding place → Leads d index tables place (Some (from, size))
  message_leads place near h = go h.laid near h.table
    where
      go : {p : ℕ} {layout : Layout} → LaidFor d index p layout → p < longest → take size (drop from tables) ≡ table_of layout →
          Leads d index tables p (Some (from, size))
      go (for_message n e) k t = a-table e t lies
      go (for_tags number) k t = absurd (omega arith)

  listed_leads : (number : ℕ) → Holding (tags_place number) → TagsLead d index tables number (Some (from, size))
  listed_leads number h = go h.laid refl h.table
    where
      go : {p : ℕ} {layout : Layout} → LaidFor d index p layout → p ≡ tags_place number → take size (drop from tables) ≡ table_of layout →
          TagsLead d index tables number (Some (from, size))
      go (for_message n e) same t = absurd (omega arith)
      go (for_tags k) same t =
          let is : k ≡ number = omega arith in
          a-tags-table (t ∙ ap (λ (n : ℕ). table_of (fields_of (tags_listed d index n))) is) lies

module _ (d index tables : List ℕ) (free : ℕ) (f : Fills d index tables free) where
  fills_block : (slot : ℕ) → slot < directory_words → (block_at tables slot ≡ 0) ⊎ BlockStands d index tables (block_at tables slot) free
  unfolding block_at
  fills_block slot h = ⊎_elim (λ e. inl (ap (λ (n : ℕ). block_stride * n) e)) (λ b. inr b) (f.leads slot h)

  found-holds : (slot place from size : ℕ) → slot < directory_words → (k : Found tables slot place from size) →
      Holding d index tables from size k.lies place
  found-holds slot place from size h k = go (fills_block slot h)
    where
      go : (block_at tables slot ≡ 0) ⊎ BlockStands d index tables (block_at tables slot) free → Holding d index tables from size k.lies place
      go (inl e) = absurd (k.some e)
      go (inr b) = record {
        layout = b.layout;
        laid = subst (λ (n : ℕ). LaidFor d index n b.layout) k.says b.laid;
        table = ap (λ (n : ℕ). take n (drop from tables)) k.counts
            ∙ ap (λ (n : ℕ). take (get_or tables (block_at tables slot) 0) (drop n tables)) k.starts ∙ b.table;
      }

  fills_lead : (place : ℕ) → Leads d index tables place (kept_at tables place)
  fills_lead place = go (kept_at tables place) refl
    where
      go : (kept : Option (ℕ × ℕ)) → kept_at tables place ≡ kept → Leads d index tables place kept
      go None e = nowhere
      go (Some (from, size)) e =
          let k = kept-found tables place from size e in
          let near = k.0 in
          message_leads d index tables from size k.1.lies place near (found-holds (place / 4) place from size (omega arith) k.1)

  tags_fill : (number : ℕ) → TagsLead d index tables number (tags_at tables number)
  tags_fill number = go (tags_at tables number) refl
    where
      go : (kept : Option (ℕ × ℕ)) → tags_at tables number ≡ kept → TagsLead d index tables number kept
      go None e = tags-nowhere
      go (Some (from, size)) e =
          let k = found-tags tables number from size e in
          let near = k.0 in
          listed_leads d index tables from size k.1.lies number
          (found-holds (tags_slot number) (tags_place number) from size (omega arith) k.1)

module _ (d index tables : List ℕ) where
  pub laid_leads : (place : ℕ) → Leads d index (lay_tables d index tables) place (kept_at (lay_tables d index tables) place)
  laid_leads place = go (outcome d index tables)
    where
      go : {words : List ℕ} → Outcome d index tables words → Leads d index words place (kept_at words place)
      go (too_few h) = subst (λ (k : Option (ℕ × ℕ)). Leads d index tables place k) (sym (kept-short tables place h)) nowhere
      go (filled {words} {free} n f) = fills_lead d index words free f place

  pub tags-lead : (number : ℕ) → TagsLead d index (lay_tables d index tables) number (tags_at (lay_tables d index tables) number)
  tags-lead number = go (outcome d index tables)
    where
      go : {words : List ℕ} → Outcome d index tables words → TagsLead d index words number (tags_at words number)
      go (too_few h) = subst (λ (k : Option (ℕ × ℕ)). TagsLead d index tables number k) (sym (tags-short tables number h)) tags-nowhere
      go (filled {words} {free} n f) = tags_fill d index words free f number

  -- and as many words as were lent
  pub laid-length : length (lay_tables d index tables) ≡ length tables
  laid-length = go (outcome d index tables)
    where
      go : {words : List ℕ} → Outcome d index tables words → length words ≡ length tables
      go (too_few h) = refl
      go (filled n f) = n
