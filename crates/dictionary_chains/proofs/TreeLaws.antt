-- What makes trees of the words of an index: one word leads to each entry, and an entry lies on the way of its key. Two ways that come
-- to one word are ways of one table, and of keys that are alike so far.
use Rattle.std.specs.Prelude.{◌≡◌, refl, true, List, get_or}
use Rattle.std.proofs.Common.{sym, ◌∙◌, subst, arith, pow_mono}
use Rattle.std.proofs.Math.Path.{ap}
use Prim.Native.Nat.{ℕ, zero, suc, ◌+◌, ◌*◌, ◌/◌, ◌%◌, ◌≤◌, ◌<◌, ◌^◌}
use Rattle.std.proofs.Math.Nat.{two-pow-succ}
use Rattle.dictionary_chains.specs.Chain.{head_words, entry_start, entry_room, key_room, most_turns, key_of, word_at, entry_at, link_at, branch_of, strayed}
use Rattle.dictionary_chains.proofs.WordLaws.{head_small, head_table, head_slot}
use Rattle.dictionary_chains.proofs.WayLaws.{strayed_facts, rest_after, Comes, starts, turns}
use Rattle.dictionary_chains.specs.declared.Table.{Table}
use Rattle.dictionary_chains.specs.declared.Table.TheVariants.{Tags, Components, MsgTypes}

-- two keys hang in one tree, and take the same first turns
unfoldable pub Alike : ℕ → ℕ → ℕ → Type 0
Alike zero key other = key % 2048 ≡ other % 2048
Alike (suc n) key other = Alike n key other × (rest_after n key % 2 ≡ rest_after n other % 2)

-- the numbers of the entries that ways come to, and of none
pub data Stands (index : List ℕ) : ℕ → Type 0 where
  none : Stands index 0
  reached : {t : Table} {key n low cell : ℕ} → Comes t index key n low cell → link_at index low cell < entry_room → Stands index (link_at index low cell)

pub stands_as : {index : List ℕ} {n m : ℕ} → n ≡ m → Stands index n → Stands index m
stands_as {index} e s = subst (Stands index) e s

-- numbers of one entry, or of two that share no word
pub data Apart (n m : ℕ) : Type 0 where
  equal : n ≡ m → Apart n m
  lower : n + 4 ≤ m → Apart n m
  higher : m + 4 ≤ n → Apart n m

-- entries up to b stand in trees: no link leads beyond b, no two words lead to one entry, an entry's key is like every key whose way
-- comes to it, and no two share a word
pub record Bounded (index : List ℕ) (b : ℕ) : Type 0 where
  pub links : {t : Table} {key n low cell : ℕ} → Comes t index key n low cell → link_at index low cell < entry_room → link_at index low cell ≤ b
  pub own : {t u : Table} {key other n m low below cell place : ℕ} → Comes t index key n low cell → Comes u index other m below place
      → link_at index low cell < entry_room → link_at index low cell ≡ link_at index below place → (t ≡ u) × (cell ≡ place)
  pub keys : {t : Table} {key n low cell : ℕ} → Comes t index key n low cell → link_at index low cell < entry_room
      → Alike n (key_of t (entry_at index (link_at index low cell))) key
  pub apart : {n m : ℕ} → Stands index n → Stands index m → Apart n m

-- two ways at one word
pub record Together (t u : Table) (key other n m low below : ℕ) : Type 0 where
  pub table : t ≡ u
  pub entry : low ≡ below
  pub depth : n ≡ m
  pub alike : Alike n key other

-- a branch tells its entry and its side
branch_entry : (n m r s : ℕ) → Apart n m → branch_of n r ≡ branch_of m s → n ≡ m
unfolding branch_of
branch_entry n m r s (equal e) q = e
branch_entry n m r s (lower h) q = absurd (omega arith)
branch_entry n m r s (higher h) q = absurd (omega arith)

branch_side : (n m r s : ℕ) → n ≡ m → branch_of n r ≡ branch_of m s → r % 2 ≡ s % 2
unfolding branch_of
branch_side n m r s e q = omega arith

branch_behind : (n r : ℕ) → head_words ≤ branch_of n r
unfolding branch_of
branch_behind n r = omega arith

module _ {index : List ℕ} {b : ℕ} (bound : Bounded index b) where
  pub more_bounded : (c : ℕ) → b ≤ c → Bounded index c
  more_bounded c h = record { links = λ p g. omega (arith, bound.links p g); own = bound.own; keys = bound.keys; apart = bound.apart }

  pub together : {t u : Table} {key other n m low below cell place : ℕ} → Comes t index key n low cell → Comes u index other m below place
      → cell ≡ place → Together t u key other n m low below
  unfolding Alike
  together {t} {u} {key} {other} starts starts q = record { table = head_table t u key other q; entry = refl; depth = refl; alike = head_slot t u key other q }
  together {t} {key = key} {other = other} starts (turns {n = m} {low = below} {cell = place} p h) q =
      absurd (omega (arith, head_small t key, branch_behind (link_at index below place) (rest_after m other)))
  together {u = u} {key = key} {other = other} (turns {n = n} {low = low} {cell = cell} p h) starts q =
      absurd (omega (arith, head_small u other, branch_behind (link_at index low cell) (rest_after n key)))
  together {t} {u} {key} {other} (turns {n = n} {low = low} {cell = cell} p h) (turns {n = m} {low = below} {cell = place} r g) q =
      let link = link_at index low cell in
      let meets = link_at index below place in
      let same = branch_entry link meets (rest_after n key) (rest_after m other) (bound.apart (reached p h) (reached r g)) q in
      let one = bound.own p r h same in
      let before = together p r one.1 in
      let side = branch_side link meets (rest_after n key) (rest_after m other) same q in
      record {
        table = one.0;
        entry = same;
        depth = ap suc before.depth;
        alike = (before.alike, side ∙ ap (λ (k : ℕ). rest_after k other % 2) (sym before.depth));
      }

  pub stands_bounded : {n : ℕ} → Stands index n → n ≤ b
  stands_bounded none = omega arith
  stands_bounded (reached p h) = bound.links p h

  pub comes_bounded : {t : Table} {key n low cell : ℕ} → Comes t index key n low cell → low ≤ b
  comes_bounded starts = omega arith
  comes_bounded (turns p h) = bound.links p h

  -- a word of a way lies before every newer entry
  pub comes_before : {t : Table} {key n low cell : ℕ} → Comes t index key n low cell → (number : ℕ) → b + 4 ≤ number → cell < entry_start number
  unfolding branch_of
  comes_before {t} {key} starts number h = omega (arith, head_small t key)
  comes_before {key = key} (turns {n = n} p h) number g = omega (arith, bound.links p h)

-- what is left of a key becomes less with each turn
rest_small : (n k whole key : ℕ) → n + k ≡ whole → key / 2048 < 2 ^ whole → rest_after n key < 2 ^ k
unfolding rest_after
rest_small zero k whole key e h = let same : k ≡ whole = omega arith in rw same h
rest_small (suc n) k whole key e h = omega (arith, rest_small n (suc k) whole key (omega arith) h, two-pow-succ k)

-- the bits of a key that choose its head, and those that choose a turn, are all that it has
room_turned : (table : Table) → key_room table ≡ 2048 * 2 ^ most_turns table
unfolding key_room most_turns
room_turned Tags = omega arith
room_turned Components = omega arith
room_turned MsgTypes = omega arith

none_left : (table : Table) (n key : ℕ) → most_turns table ≤ n → key < key_room table → rest_after n key ≡ 0
none_left table n key late small = omega (arith, rest_small n 0 n key (omega arith) (omega (arith, room_turned table, pow_mono late)))

-- keys that are alike in every bit are the same
alike_same : (n key other : ℕ) → Alike n key other → rest_after n key ≡ rest_after n other → key ≡ other
unfolding Alike rest_after
alike_same zero key other a e = omega arith
alike_same (suc n) key other a e = alike_same n key other a.0 (omega (arith, a.1))

-- so no way strays in trees: an entry that it comes to after all turns has its key
pub never_strays : {t : Table} {index : List ℕ} {b key n low cell : ℕ} → Bounded index b → Comes t index key n low cell → link_at index low cell < entry_room
    → (key_of t (entry_at index (link_at index low cell)) ≡ key → ⊥) → strayed t n (key_of t (entry_at index (link_at index low cell))) key ≡ true → ⊥
never_strays {t} {index} {key = key} {n = n} {low = low} {cell = cell} bound p h other s =
    let met = key_of t (entry_at index (link_at index low cell)) in
    let facts = strayed_facts t n met key s in
    other (alike_same n met key (bound.keys p h) (none_left t n met facts.0 facts.1 ∙ sym (none_left t n key facts.0 facts.2)))

-- a word of a way holds nothing of an entry but a branch
pub comes_apart : {t : Table} {index : List ℕ} {b key n low cell number : ℕ} → Bounded index b → Comes t index key n low cell → Stands index number
    → (k : ℕ) → 2 ≤ k → k < 6 → entry_start number + k ≡ cell → ⊥
unfolding branch_of
comes_apart {t} {key = key} bound starts stands k h l q = omega (arith, head_small t key)
comes_apart {index = index} {number = number} bound (turns {low = low} {cell = cell} p g) stands k h l q = go (bound.apart (reached p g) stands)
  where
    go : Apart (link_at index low cell) number → ⊥
    go (equal e) = omega arith
    go (lower f) = omega arith
    go (higher f) = omega arith

-- the same words are the same entry and the same link
pub same-entry : (i j : List ℕ) (number : ℕ) → ((k : ℕ) → 2 ≤ k → k < 6 → get_or i (entry_start number + k) 0 ≡ get_or j (entry_start number + k) 0)
    → entry_at i number ≡ entry_at j number
unfolding entry_at word_at
same-entry i j number same =
    rw (same 2 (omega arith) (omega arith), same 3 (omega arith) (omega arith))
    (rw (same 4 (omega arith) (omega arith), same 5 (omega arith) (omega arith)))

pub same-link : (i j : List ℕ) (low cell : ℕ) → get_or i cell 0 ≡ get_or j cell 0 → link_at i low cell ≡ link_at j low cell
unfolding link_at
same-link i j low cell q = rw q
