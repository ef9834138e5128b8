-- What a look-up costs at most: it looks at one entry more than its table's keys have turns, whatever the words hold. In trees no way
-- needs more, however the keys that were entered were chosen, and in forged memory a way that would go on has strayed.
use Rattle.std.specs.Prelude.{◌≡◌, false, List, ℕ, zero, suc, ◌+◌, ◌/◌, ◌<◌, get_or}
use Rattle.std.proofs.Math.Path.{sym}
use Rattle.std.proofs.Common.{◌∙◌, arith}
use Rattle.dictionary_chains.specs.Chain.{entry_start, key_room, most_turns, key_of, head_of, word_at, entry_at, link_at, branch_of, strayed, climbed, way_of}
use Rattle.dictionary_chains.proofs.WordLaws.{key_small}
use Rattle.dictionary_chains.proofs.WayLaws.{strayed-late, Meets, nothing, itself, stranger, another, meets, climb_none, climb_hit, climb_stray, climb_on, rest_after, way_from, from-none, from_hit, from_stray, from_on}
use Rattle.dictionary_chains.specs.declared.Table.{Table}

-- an entry in words of 16 bits has a key of its table
entry_small : (table : Table) (index : List ℕ) → ((i : ℕ) → get_or index i 0 < 65536) → (number : ℕ)
    → key_of table (entry_at index number) < key_room table
unfolding entry_at word_at
entry_small table index words number =
    key_small table (entry_at index number) (words (entry_start number + 2)) (words (entry_start number + 3)) (words (entry_start number + 4))
    (words (entry_start number + 5))

module _ (table : Table) (index : List ℕ) (key n low cell : ℕ) where
  abbrev link : ℕ
  link = link_at index low cell

  abbrev next : ℕ
  next = branch_of link (rest_after n key)

  -- looks are enough if one less is from the next word on
  next-enough : (left : ℕ)
      → (strayed table n (key_of table (entry_at index link)) key ≡ false
      → climbed left table index key (suc n) next (rest_after (suc n) key) (link_at index link next) ≡ way_from table index key (suc n) link next)
      → climbed (suc left) table index key n cell (rest_after n key) link ≡ way_from table index key n low cell
  unfolding rest_after
  next-enough left later = go (meets table index key n link)
    where
      go : Meets table index key n link → climbed (suc left) table index key n cell (rest_after n key) link ≡ way_from table index key n low cell
      go (nothing z) = climb_none table index key (suc left) n cell (rest_after n key) link z ∙ sym (from-none table index key n low cell z)
      go (itself h e) = climb_hit table index key left n cell (rest_after n key) link h e ∙ sym (from_hit table index key n low cell h e)
      go (stranger h e s) = climb_stray table index key left n cell (rest_after n key) link h e s ∙ sym (from_stray table index key n low cell h e s)
      go (another h e s) = climb_on table index key left n cell (rest_after n key) link h e s ∙ later s ∙ sym (from_on table index key n low cell h e s)

module _ (table : Table) (index : List ℕ) (words : (i : ℕ) → get_or index i 0 < 65536) (key : ℕ) (small : key < key_room table) where
  few : (left n low cell : ℕ) → n + left ≡ most_turns table
      → climbed (suc left) table index key n cell (rest_after n key) (link_at index low cell) ≡ way_from table index key n low cell
  few zero n low cell e =
      next-enough table index key n low cell 0
      (λ on. let off = strayed-late table n _ key (omega arith) (entry_small table index words (link_at index low cell)) small in
      let z : ◌≡◌ {A = ℕ} 0 1 = cc in absurd (omega arith))
  few (suc left) n low cell e =
      let met = link_at index low cell in
      next-enough table index key n low cell (suc left) (λ on. few left (suc n) met (branch_of met (rest_after n key)) (omega arith))

  -- What is promised to who lends the memory: whatever words of 16 bits it holds, forged or not, the way of a key of the table looks at
  -- its first entry and, at most, at one more for each turn
  pub few-turns : way_of table index key
      ≡ climbed (suc (most_turns table)) table index key 0 (head_of table key) (key / 2048) (link_at index 0 (head_of table key))
  unfolding way_of rest_after
  few-turns = sym (few (most_turns table) 0 0 (head_of table key) (omega arith))
