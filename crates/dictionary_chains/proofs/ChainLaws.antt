-- The laws of the index as a store: what is entered is found under its key and leaves every other key as it was, and an array
-- without heads holds nothing.
use Rattle.std.specs.Prelude.{◌≡◌, refl, List, ◌++◌, ℕ, suc, ◌+◌, ◌≤◌, ◌<◌, length, get_or, set, drop, replicate, leb}
use Rattle.std.proofs.Common.{sym, ◌∙◌, add-one, drop-cons}
use Rattle.std.proofs.Math.Path.{ap}
use native.Mathlib.Omega.{arith}
use Rattle.std.proofs.lemmas.List.{length-replicate, get_or-replicate, replicate-append-replicate, set_at}
use Rattle.std.proofs.Math.ListN.{get_or-append}
use Rattle.std.proofs.Math.Seq.{append_snoc}
use borrow.Author.Tests.{eq-eqb, ne_eqb, le-leb, lt-leb}
use Rattle.field_rules.specs.Choice.{pick_same}
use Rattle.dictionary_chains.specs.Chain.{head_words, entry_start, entry_room, index_words, key_of, head_of, entry_at, link_at, branch_of, ends, way_of, found, written, branched, number_at, entered_at, entered}
use Rattle.dictionary_chains.proofs.WordLaws.{head_small, written-length, written-other, written_entry, branched-length, branched_cell, branched-other, branched_branch}
use Rattle.dictionary_chains.proofs.WayLaws.{link-none, link_rises, number_of, Comes, starts, turns, Ends, free, taken, astray, way_ends, comes_low}
use Rattle.dictionary_chains.proofs.TreeLaws.{Stands, none, reached, equal, Bounded, more_bounded, stands_bounded, never_strays, comes_before}
use Rattle.dictionary_chains.proofs.GrowLaws.{Grows, older_entry, grows_bounded, grows_way, grows_elsewhere}
use Rattle.dictionary_chains.specs.declared.Table.{Table}
use Rattle.dictionary_chains.specs.declared.Entry.{Entry}
use Rattle.dictionary_chains.specs.declared.Way.{Way}

module _ (table : Table) (index : List ℕ) (key : ℕ) where
  comes_small : {n low cell : ℕ} → Comes table index key n low cell → cell < index_words
  unfolding branch_of
  comes_small starts = omega (arith, head_small table key)
  comes_small (turns p h) = omega arith

  -- whatever the array holds, a way ends in it
  pub way_small : (way_of table index key).cell < index_words
  way_small = go (way_of table index key) way_ends
    where
      go : (w : Way) → Ends table index key w → w.cell < index_words
      go w (free p h) = comes_small p
      go w (taken p h e) = comes_small p
      go w (astray p h e s) = comes_small p

  -- and a number that is found is that of an entry
  pub found_small : found table index key < entry_room
  unfolding found
  found_small = go (way_of table index key) way_ends
    where
      go : (w : Way) → Ends table index key w → w.number < entry_room
      go w (free p h) = omega arith
      go w (taken p h e) = h
      go w (astray p h e s) = omega arith

  pub found-stands : Stands index (found table index key)
  unfolding found
  found-stands = go (way_of table index key) way_ends
    where
      go : (w : Way) → Ends table index key w → Stands index w.number
      go w (free p h) = none
      go w (taken p h e) = reached p h
      go w (astray p h e s) = none

module _ (table : Table) (index : List ℕ) (e : Entry) where
  pub entered-late : 60000 ≤ e.place → entered table index e ≡ index
  unfolding entered
  entered-late h = rw (le-leb 60000 e.place h)

  -- a new entry
  pub entered-new : e.place < 60000 → (way : Way) → way_of table index (key_of table e) ≡ way → way.number ≡ 0
      → entered table index e ≡ written (branched index way.cell (number_at e.place)) (number_at e.place) e
  unfolding entered entered_at
  entered-new h way w z = rw (lt-leb 60000 e.place h, w, eq-eqb way.number 0 z)

  -- a key that was entered before
  pub entered_again : (way : Way) → way_of table index (key_of table e) ≡ way → (way.number ≡ 0 → ⊥) → entered table index e ≡ index
  unfolding entered entered_at
  entered_again way w z = rw (w, ne_eqb way.number 0 z) (pick_same (leb 60000 e.place) index)

branch_apart : (number rest k : ℕ) → 2 ≤ k → k < 6 → branch_of number rest ≡ entry_start number + k → ⊥
unfolding branch_of
branch_apart number rest k two six q = omega arith

-- an entry newer than all that the array holds
module _ (table : Table) (index : List ℕ) (e : Entry) (b : ℕ) (size : length index ≡ index_words) (bound : Bounded index b)
    (early : e.place < 60000) (newer : b + 4 ≤ number_at e.place) where
  abbrev number : ℕ
  number = number_at e.place

  number_small : number < entry_room
  unfolding number_at
  number_small = omega arith

  -- it stands behind the word where its key's way ended, or its key was entered before
  data Entering (after : List ℕ) : Type 0 where
    grown : {n low cell : ℕ} → Grows table index after (key_of table e) b n low cell number → way_of table index (key_of table e) ≡ ends cell 0
        → length after ≡ length index → entry_at after number ≡ e → Entering after
    kept : (found table index (key_of table e) ≡ 0 → ⊥) → after ≡ index → Entering after

  known : (way : Way) → way_of table index (key_of table e) ≡ way → (way.number ≡ 0 → ⊥) → found table index (key_of table e) ≡ 0 → ⊥
  unfolding found
  known way w some z = some (sym (ap number_of w) ∙ z)

  entering : Entering (entered table index e)
  entering = go (way_of table index (key_of table e)) refl way_ends
    where
      go : (w : Way) → way_of table index (key_of table e) ≡ w → Ends table index (key_of table e) w → Entering (entered table index e)
      go w way (free {n = n} {low = low} {cell = cell} p vacant) =
          let behind = comes_before bound p number newer in
          let row = branched index cell number in
          let long : entry_start number + 6 ≤ length row = omega (arith, number_small, branched-length index cell number behind) in
          let mine = written_entry row number e long refl in
          let grows : Grows table index (written row number e) (key_of table e) b n low cell number = record {
            bound = bound;
            end = p;
            vacant = vacant;
            newer = newer;
            fits = number_small;
            leads = written-other row number e cell (λ k two six q. omega arith) ∙ branched_cell index cell number behind (omega (arith, number_small));
            bare = λ rest.
                written-other row number e (branch_of number rest) (branch_apart number rest)
                ∙ branched_branch index cell number behind rest (omega (arith, number_small));
            words = λ i before other.
                written-other row number e i (λ k two six q. omega arith)
                ∙ branched-other index cell number behind i other (λ k two q. omega arith);
            mine = ap (key_of table) mine;
          } in
          rw (entered-new table index e early w way refl) (grown grows way (written-length row number e ∙ branched-length index cell number behind) mine)
      go w way (taken {low = low} {cell = cell} p leads was) =
          let some : link_at index low cell ≡ 0 → ⊥ = λ z. omega (arith, link_rises index low cell (comes_low p)) in
          kept (known w way some) (entered_again table index e w way some)
      go w way (astray p h other s) = absurd (never_strays bound p h other s)

  pub enter_length : length (entered table index e) ≡ index_words
  enter_length = go entering
    where
      go : Entering (entered table index e) → length (entered table index e) ≡ index_words
      go (grown g way long mine) = long ∙ size
      go (kept before still) = ap length still ∙ size

  pub enter_bounded : Bounded (entered table index e) (number_at e.place)
  enter_bounded = go entering
    where
      go : Entering (entered table index e) → Bounded (entered table index e) (number_at e.place)
      go (grown g way long mine) = grows_bounded g
      go (kept before still) = rw still (more_bounded bound (number_at e.place) (omega arith))

  -- the entry is found under its key
  pub enter_known : found table (entered table index e) (key_of table e) ≡ 0 → ⊥
  unfolding found
  enter_known z = go entering
    where
      go : Entering (entered table index e) → ⊥
      go (grown g way long mine) = omega (arith, ap number_of (grows_way g way))
      go (kept before still) = before (rw still at z)

  -- as it was entered, where its key is new
  pub enter_found : found table index (key_of table e) ≡ 0 → entry_at (entered table index e) (found table (entered table index e) (key_of table e)) ≡ e
  unfolding found
  enter_found new = go entering
    where
      go : Entering (entered table index e) → entry_at (entered table index e) (found table (entered table index e) (key_of table e)) ≡ e
      go (grown g way long mine) = ap (λ (w : Way). entry_at (entered table index e) w.number) (grows_way g way) ∙ mine
      go (kept before still) = absurd (before new)

  -- and under any other key, and in another table, what was found before
  pub enter_elsewhere : (t : Table) (key : ℕ) → (t ≡ table → key ≡ key_of table e → ⊥)
      → (found t (entered table index e) key ≡ found t index key)
      × (entry_at (entered table index e) (found t index key) ≡ entry_at index (found t index key))
  enter_elsewhere t key apart = go entering
    where
      go : Entering (entered table index e)
          → (found t (entered table index e) key ≡ found t index key)
          × (entry_at (entered table index e) (found t index key) ≡ entry_at index (found t index key))
      go (grown g way long mine) = (grows_elsewhere g t key apart, older_entry g (found-stands t index key))
      go (kept before still) = (rw still, rw still)

-- an array without heads holds nothing
module _ (index : List ℕ) (empty : (h : ℕ) → h < head_words → get_or index h 0 ≡ 0) where
  no_link : {table : Table} {key n low cell : ℕ} → Comes table index key n low cell → link_at index low cell ≡ entry_room
  no_link {table} {key} starts = link-none index 0 (head_of table key) (omega (arith, empty (head_of table key) (head_small table key)))
  no_link (turns p h) = absurd (omega (arith, no_link p))

  empty_bounded : Bounded index 0
  empty_bounded =
      record {
        links = λ p h. absurd (omega (arith, no_link p));
        own = λ p q h same. absurd (omega (arith, no_link p));
        keys = λ p h. absurd (omega (arith, no_link p));
        apart = λ s r. equal (nothing s ∙ sym (nothing r));
      }
    where
      nothing : {n : ℕ} → Stands index n → n ≡ 0
      nothing none = refl
      nothing (reached p h) = absurd (omega (arith, no_link p))

module _ (rest : List ℕ) where
  pub clear_bounded : Bounded (replicate head_words 0 ++ rest) 0
  clear_bounded =
      empty_bounded (replicate head_words 0 ++ rest)
      (λ h low. get_or-append (replicate head_words 0) rest 0 h (rw length-replicate low) ∙ get_or-replicate {A = ℕ} head_words h 0 0 low)

  pub clear_found : (table : Table) (key : ℕ) → found table (replicate head_words 0 ++ rest) key ≡ 0
  clear_found table key = omega (arith, stands_bounded clear_bounded (found-stands table (replicate head_words 0 ++ rest) key))

-- clearing one word more
pub clear_step : (index : List ℕ) (i : ℕ) → i < length index → set (replicate i 0 ++ drop i index) i 0 ≡ replicate (i + 1) 0 ++ drop (i + 1) index
clear_step index i h =
    rw (add-one, drop-cons index i 0 h)
    (set_at (replicate i 0) (get_or index i 0) (drop (suc i) index) 0 i (length-replicate i 0)
    ∙ sym (append_snoc (replicate i 0) 0 (drop (suc i) index))
    ∙ ap (λ (l : List ℕ). l ++ drop (suc i) index) (replicate-append-replicate {A = ℕ} i 1 0 ∙ ap (λ (n : ℕ). replicate {A = ℕ} n 0) (add-one i)))
