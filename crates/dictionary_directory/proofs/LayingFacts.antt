-- Laws of what specs/LayingLaws.antt defines.
-- The laws of laying tables: one for each way that it goes at a block, at a list of tags, at a message and at a record.
use Rattle.std.specs.Prelude.{◌≡◌, refl, Bool, true, false, List, [], ◌∷◌, ◌++◌, ℕ, suc, ◌+◌, ◌-◌, ◌/◌, ◌≤◌, ◌<◌, length, get_or, take, drop, set, replicate, leb, ltb}
use Rattle.std.proofs.Common.{sym, ◌∙◌, subst, append_assoc, arith, length-append, length-take-le, take-suc, leb-true, ltb-true, ltb-false, le-leb, lt-ltb, le-ltb, Option, Some, None}
use Rattle.std.proofs.Math.Path.{ap}
use Rattle.std.proofs.Math.ListN.{length-replicate}
use Rattle.std.proofs.Math.Seq.{take-length}
use Rattle.std.proofs.lemmas.List.{set_at}
use Rattle.std.proofs.lemmas.Bool.{lt-leb}
use Rattle.field_rules.proofs.DecimalLaws.{written_fits, written_copied}
use Rattle.dictionary_layout_rules.specs.Layout.{Layout, items}
use Rattle.dictionary_layout_rules.specs.Tabled.{Tabled}
use Rattle.dictionary_layout_rules.specs.RowsLayout.{layout_in}
use Rattle.dictionary_layout_rules.proofs.RowsLayoutLaws.{layout_held}
use Rattle.dictionary_tables_rules.specs.Laid.{table_size, table_of}
use Rattle.dictionary_tables_rules.proofs.Tabled.{table-length}
use Rattle.dictionary_tables_rules.specs.Tags.{fields_of}
use Rattle.dictionary_pressing.specs.Pressing.{Pressable}
use Rattle.dictionary_pressing.specs.Sizing.{size_bound}
use Rattle.dictionary_rules.specs.Record.{record_at}
use Rattle.dictionary_rules.specs.RecordsLaws.{records_end, records_bad, records_whole}
use Rattle.dictionary_rules.specs.declared.Record.{Record}
use Rattle.dictionary_rules.specs.declared.RecordRead.TheVariants.{Whole, Bad, End}
use Rattle.dictionary_meaning_rules.specs.MessageTable.{Tabling, tabling, placed_table}
use Rattle.dictionary_meaning_rules.specs.LaidLayout.{LaidAs}
use Rattle.dictionary_meaning_rules.specs.PlainTags.{listing, plain_tags}
use Rattle.dictionary_meaning_rules.proofs.Kept.{tags_kept}
use Rattle.dictionary_meaning_rules.specs.declared.MessageTable.TheVariants.{Rows, NoMessage, Unprepared}
use Rattle.dictionary_directory.specs.Directory.{longest, directory_words, block_stride, tags_slot, tags_place, block_of, Filling, filling, words_of, next_block, with_block, room_for, put_block, listed_tags, tags_listed, lay_listed, put_rows, lay_message, is_message, messages_among, messages_from, lay_messages, clear_directory, lay_tables, table_words, laid_alone, laid_over}
use Rattle.dictionary_directory.specs.LayingLaws.{headed}

-- the layout that rows hold is the one that is read back from them
module _ (rows : List ℕ) (count : ℕ) (l : LaidAs rows count) where
  held : layout_in rows count ≡ l.layout
  held = layout_held rows count l.layout l.tabled

  pub held_tabled : Tabled rows (record { first = 0; end = count }) (layout_in rows count)
  held_tabled = subst (λ (x : Layout). Tabled rows (record { first = 0; end = count }) x) (sym held) l.tabled

  pub held-few : items (layout_in rows count) ≤ 1024
  held-few = subst (λ (x : Layout). items x ≤ 1024) (sym held) l.limit

  pub held_fits : table_size (layout_in rows count) ≤ table_words
  held_fits = rw held (omega (arith, size_bound l.filled, l.limit))

  pub held_small : table_size (layout_in rows count) < 65536
  held_small = omega (arith, held_fits)

  pub held_pressable : (words : ℕ) → table_size (layout_in rows count) ≤ words → Pressable rows count words
  held_pressable words room = record { layout = layout_in rows count; tabled = held_tabled; room = room; small = held_small }

-- two words stored behind others
set_pair : (p : List ℕ) (x y : ℕ) (rest : List ℕ) (a b n : ℕ) → length p ≡ n →
    set (set (((p ++ (x ∷ [])) ++ (y ∷ [])) ++ rest) n a) (n + 1) b ≡ p ++ (a ∷ b ∷ rest)
set_pair p x y rest a b n e =
    ap (λ (l : List ℕ). set (set l n a) (n + 1) b) (append_assoc (p ++ (x ∷ [])) (y ∷ []) rest ∙ append_assoc p (x ∷ []) (y ∷ rest))
    ∙ ap (λ (l : List ℕ). set l (n + 1) b) (set_at p x (y ∷ rest) a n e ∙ sym (append_assoc p (a ∷ []) (y ∷ rest)))
    ∙ set_at (p ++ (a ∷ [])) y rest b (n + 1) (length-append p (a ∷ []) ∙ omega arith)
    ∙ append_assoc p (a ∷ []) (b ∷ rest)

module _ (words free size : ℕ) where
  pub room_far : 65536 ≤ free / block_stride → room_for words free size ≡ false
  unfolding room_for
  room_far h = rw (le-ltb _ _ h)

  pub room_near : free / block_stride < 65536 → room_for words free size ≡ leb (free + 2 + size) words
  unfolding room_for
  room_near h = rw (lt-ltb _ _ h)

  pub room-here : room_for words free size ≡ true → (free / block_stride < 65536) × (free + 2 + size ≤ words)
  room-here e = go (ltb (free / block_stride) 65536) refl
    where
      go : (b : Bool) → ltb (free / block_stride) 65536 ≡ b → (free / block_stride < 65536) × (free + 2 + size ≤ words)
      go true q = let near = ltb-true _ _ q in (near, leb-true _ _ (sym (room_near near) ∙ e))
      go false q = let none = room_far (ltb-false _ _ q) in let z : ◌≡◌ {A = ℕ} 0 1 = cc in absurd (omega arith)

module _ (slot place : ℕ) (layout : Layout) (tables : List ℕ) (free size : ℕ) (sized : size ≡ table_size layout) where
  pub put-none : room_for (length tables) free size ≡ false → put_block slot place layout tables free ≡ filling tables free
  unfolding put_block
  put-none h = let none = ap (room_for (length tables) free) (sym sized) ∙ h in rw none

  module _ (fits : room_for (length tables) free size ≡ true) (pressed : List ℕ)
      (press : pressed ≡ table_of layout ++ drop (table_size layout) (take (length tables - (free + 2)) (drop (free + 2) tables))) where
    room : free + 2 + size ≤ length tables
    room = (room-here _ _ _ fits).1

    -- the words once the table is pressed behind the first two
    abbrev after : List ℕ
    after = take (free + 2) tables ++ (pressed ++ drop (length tables - (free + 2)) (drop (free + 2) tables))

    abbrev behind : List ℕ
    behind = table_of layout ++ drop (free + 2 + table_size layout) tables

    after-pressed : after ≡ take (free + 2) tables ++ behind
    after-pressed =
        let n = table-length layout in
        let fits : free + 2 + length (table_of layout) ≤ length tables = omega (arith, room) in
        written_copied (free + 2) (table_of layout) tables pressed fits (press ∙ rw (take-length, n))
        ∙ written_fits (free + 2) (table_of layout) tables fits
        ∙ ap (λ (k : ℕ). take (free + 2) tables ++ (table_of layout ++ drop (free + 2 + k) tables)) n

    two-before : take (free + 2) tables ≡ (take free tables ++ (get_or tables free 0 ∷ [])) ++ (get_or tables (suc free) 0 ∷ [])
    two-before =
        let n : free + 2 ≡ suc (suc free) = omega arith in
        ap (λ (k : ℕ). take k tables) n ∙ take-suc tables (suc free) 0 (omega (arith, room))
        ∙ ap (λ (l : List ℕ). l ++ (get_or tables (suc free) 0 ∷ [])) (take-suc tables free 0 (omega (arith, room)))

    -- and once these two are stored
    two-stored : set (set after free size) (free + 1) place ≡ take free tables ++ (size ∷ place ∷ behind)
    two-stored =
        ap (λ (l : List ℕ). set (set l free size) (free + 1) place) (after-pressed ∙ ap (λ (l : List ℕ). l ++ behind) two-before)
        ∙ set_pair (take free tables) (get_or tables free 0) (get_or tables (suc free) 0) behind size place free
        (length-take-le free tables (omega (arith, room)))

    pub put-words : (words : List ℕ) → words ≡ headed after slot place size free → (next : ℕ) → next ≡ next_block (free + 2 + size) →
        filling words next ≡ put_block slot place layout tables free
    unfolding put_block with_block block_of headed
    put-words words w next n = let some = ap (room_for (length tables) free) (sym sized) ∙ fits in rw (w, n, two-stored, some, sized)

-- the tags that are listed
module _ (d index : List ℕ) (number : ℕ) (exit : List ℕ) where
  pub tags-taken : (r : Option ℕ) → listing r exit ≡ plain_tags d index number (replicate 1024 0) → (count : ℕ) → r ≡ Some count →
      (take count exit ≡ tags_listed d index number) × (count ≤ length exit)
  unfolding tags_listed listed_tags
  tags-taken r e count is =
      let told : listing (Some count) exit ≡ plain_tags d index number (replicate 1024 0) = ap (λ (t : Option ℕ). listing t exit) (sym is) ∙ e in
      (ap listed_tags told, tags_kept d index number (replicate 1024 0) (omega (arith, length-replicate {A = ℕ} 1024 0)) count exit told)

  pub tags-none : (r : Option ℕ) → listing r exit ≡ plain_tags d index number (replicate 1024 0) → r ≡ None → take 0 exit ≡ tags_listed d index number
  unfolding tags_listed listed_tags
  tags-none r e is = ap listed_tags (ap (λ (t : Option ℕ). listing t exit) (sym is) ∙ e)

pub listed-put : (d index : List ℕ) (number : ℕ) (tables : List ℕ) (free : ℕ) (tags : List ℕ) → tags ≡ tags_listed d index number → {after : Filling} →
    after ≡ put_block (tags_slot number) (tags_place number) (fields_of tags) tables free → after ≡ lay_listed d index number (filling tables free)
unfolding lay_listed
listed-put d index number tables free tags e put =
    put ∙ ap (λ (l : List ℕ). put_block (tags_slot number) (tags_place number) (fields_of l) tables free) e

module _ (d index : List ℕ) (place : ℕ) (tables : List ℕ) (free : ℕ) where
  pub message-beyond : longest ≤ place → lay_message d index place (filling tables free) ≡ filling tables free
  unfolding lay_message
  message-beyond h = rw (le-leb _ _ h)

  module _ (near : place < longest) where
    pub message_rows : (count : ℕ) (rows : List ℕ) → tabling (Rows count) rows ≡ placed_table d index (Some place) (replicate 4096 0) →
        {after : Filling} → after ≡ put_block (place / 4) place (layout_in rows count) tables free → after ≡ lay_message d index place (filling tables free)
    unfolding lay_message put_rows
    message_rows count rows e put = rw (lt-leb _ _ near) (put ∙ ap (λ (t : Tabling). put_rows place t tables free) e)

    pub message-none : (rows : List ℕ) → tabling NoMessage rows ≡ placed_table d index (Some place) (replicate 4096 0) →
        lay_message d index place (filling tables free) ≡ filling tables free
    unfolding lay_message put_rows
    message-none rows e = rw (lt-leb _ _ near) (ap (λ (t : Tabling). put_rows place t tables free) (sym e))

    pub message_unprepared : (rows : List ℕ) → tabling Unprepared rows ≡ placed_table d index (Some place) (replicate 4096 0) →
        lay_message d index place (filling tables free) ≡ filling tables free
    unfolding lay_message put_rows
    message_unprepared rows e = rw (lt-leb _ _ near) (ap (λ (t : Tabling). put_rows place t tables free) (sym e))

module _ (d index : List ℕ) (at : ℕ) (sofar : Filling) where
  abbrev rest : Filling
  rest = lay_messages d index (messages_from d at) sofar

  pub rest_end : record_at d at ≡ End → rest ≡ sofar
  unfolding messages_from messages_among lay_messages
  rest_end e = rw (records_end d at e)

  pub rest-bad : record_at d at ≡ Bad → rest ≡ sofar
  unfolding messages_from messages_among lay_messages
  rest-bad e = rw (records_bad d at e)

  module _ (r : Record) (next : ℕ) (e : record_at d at ≡ Whole r next) where
    pub rest-message : is_message r ≡ true → (later : Filling) → later ≡ lay_message d index at sofar → rest ≡ lay_messages d index (messages_from d next) later
    unfolding messages_from messages_among lay_messages
    rest-message m later l = rw (records_whole d at r next e, m, l)

    pub rest-other : is_message r ≡ false → rest ≡ lay_messages d index (messages_from d next) sofar
    unfolding messages_from messages_among
    rest-other m = rw (records_whole d at r next e, m)

module _ (d index tables : List ℕ) where
  pub lay_short : length tables < directory_words → lay_tables d index tables ≡ tables
  unfolding lay_tables
  lay_short h = rw (lt-ltb _ _ h)

  pub lay_all : directory_words ≤ length tables → (cleared : List ℕ) (header trailer : Filling) → cleared ≡ clear_directory tables →
      header ≡ lay_listed d index 0 (filling cleared directory_words) → trailer ≡ lay_listed d index 1 header →
      (laid : List ℕ) (free : ℕ) → lay_messages d index (messages_from d 0) trailer ≡ filling laid free → lay_tables d index tables ≡ laid
  unfolding lay_tables words_of
  lay_all h cleared header trailer c k t laid free e = rw (le-ltb _ _ h, ← c, ← k, ← t, e)

-- a table by itself
module _ {told : Tabling} (count : ℕ) (rows : List ℕ) (is : tabling (Rows count) rows ≡ told) where
  pub alone_rows : (size : ℕ) → size ≡ table_size (layout_in rows count) → Some (0, size) ≡ laid_alone told
  unfolding laid_alone
  alone_rows size e = rw (← is, e)

  pub over_rows : (table after : List ℕ) → after ≡ table_of (layout_in rows count) ++ drop (table_size (layout_in rows count)) table → after ≡ laid_over told table
  unfolding laid_over
  over_rows table after e = rw (← is) e
