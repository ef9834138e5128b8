-- The laws of a way: what a turn gives, that `followed` looks at entries enough, and that a way leads from word to word over links
-- that rise.
use Rattle.std.proofs.Math.Path.{◌≡◌, refl}
use Rattle.std.proofs.Common.{sym, ap, ◌∙◌, arith}
use Rattle.std.specs.Prelude.{Bool, List, get_or, eqb}
use Rattle.std.proofs.Math.Bool.{true, false}
use Prim.Native.Nat.{ℕ, zero, suc, ◌+◌, ◌/◌, ◌≤◌, ◌<◌}
use Rattle.std.proofs.Math.Dec.{leb, ltb}
use borrow.Author.Tests.{eq-eqb, ne_eqb, eqb-true, eqb-false, le-ltb, lt-ltb, ltb-true, ltb-false, le-leb, lt-leb, leb-true, leb-false}
use Rattle.field_rules.specs.Choice.{pick}
use Rattle.dictionary_chains.specs.Chain.{entry_room, key_room, most_turns, key_of, head_of, entry_at, link_at, branch_of, ends, strayed, climbed, followed, way_of}
use Rattle.dictionary_chains.specs.declared.Table.{Table}
use Rattle.dictionary_chains.specs.declared.Way.{Way}

module _ (index : List ℕ) (low cell : ℕ) where
  pub link-none : get_or index cell 0 ≤ low → link_at index low cell ≡ entry_room
  unfolding link_at
  link-none h = rw (le-leb (get_or index cell 0) low h)

  pub link-some : low < get_or index cell 0 → link_at index low cell ≡ get_or index cell 0
  unfolding link_at
  link-some h = rw (lt-leb (get_or index cell 0) low h)

  pub link_rises : low < entry_room → low < link_at index low cell
  unfolding link_at
  link_rises h = go (leb (get_or index cell 0) low) refl
    where
      go : (t : Bool) → leb (get_or index cell 0) low ≡ t → low < pick t entry_room (get_or index cell 0)
      go true q = h
      go false q = omega (arith, leb-false (get_or index cell 0) low q)

module _ (table : Table) (turns met key : ℕ) where
  pub strayed_facts : strayed table turns met key ≡ true → (most_turns table ≤ turns) × (met < key_room table) × (key < key_room table)
  unfolding strayed
  strayed_facts = go (leb (most_turns table) turns) refl (ltb met (key_room table)) refl (ltb key (key_room table)) refl
    where
      go : (a : Bool) → leb (most_turns table) turns ≡ a → (b : Bool) → ltb met (key_room table) ≡ b → (c : Bool) → ltb key (key_room table) ≡ c
          → pick a (pick b c false) false ≡ true → (most_turns table ≤ turns) × (met < key_room table) × (key < key_room table)
      go true p true q true r h = (leb-true _ _ p, ltb-true _ _ q, ltb-true _ _ r)
      go true p true q false r h = let z : ◌≡◌ {A = ℕ} 0 1 = cc in absurd (omega arith)
      go true p false q c r h = let z : ◌≡◌ {A = ℕ} 0 1 = cc in absurd (omega arith)
      go false p b q c r h = let z : ◌≡◌ {A = ℕ} 0 1 = cc in absurd (omega arith)

  pub strayed-late : most_turns table ≤ turns → met < key_room table → key < key_room table → strayed table turns met key ≡ true
  unfolding strayed
  strayed-late h m k = rw (le-leb (most_turns table) turns h, lt-ltb met (key_room table) m, lt-ltb key (key_room table) k)

  pub strayed-early : turns < most_turns table → strayed table turns met key ≡ false
  unfolding strayed
  strayed-early h = rw (lt-leb (most_turns table) turns h)

-- what a link can lead to after so many turns: no entry, the key's, one that was never entered there, or another's
pub data Meets (table : Table) (index : List ℕ) (key turns link : ℕ) : Type 0 where
  nothing : entry_room ≤ link → Meets table index key turns link
  itself : link < entry_room → key_of table (entry_at index link) ≡ key → Meets table index key turns link
  stranger : link < entry_room → (key_of table (entry_at index link) ≡ key → ⊥) → strayed table turns (key_of table (entry_at index link)) key ≡ true
      → Meets table index key turns link
  another : link < entry_room → (key_of table (entry_at index link) ≡ key → ⊥) → strayed table turns (key_of table (entry_at index link)) key ≡ false
      → Meets table index key turns link

module _ (table : Table) (index : List ℕ) (key : ℕ) where
  pub meets : (turns link : ℕ) → Meets table index key turns link
  meets turns link = go (ltb link entry_room) refl (eqb met key) refl (strayed table turns met key) refl
    where
      met : ℕ
      met = key_of table (entry_at index link)

      go : (t : Bool) → ltb link entry_room ≡ t → (s : Bool) → eqb met key ≡ s → (r : Bool) → strayed table turns met key ≡ r → Meets table index key turns link
      go false q s e r l = nothing (ltb-false link entry_room q)
      go true q true e r l = itself (ltb-true link entry_room q) (eqb-true _ _ e)
      go true q false e true l = stranger (ltb-true link entry_room q) (eqb-false _ _ e) l
      go true q false e false l = another (ltb-true link entry_room q) (eqb-false _ _ e) l

  pub climb_none : (looks turns cell rest link : ℕ) → entry_room ≤ link → climbed looks table index key turns cell rest link ≡ ends cell 0
  unfolding climbed
  climb_none zero turns cell rest link h = refl
  climb_none (suc looks) turns cell rest link h = rw (le-ltb link entry_room h)

  pub climb_hit : (looks turns cell rest link : ℕ) → link < entry_room → key_of table (entry_at index link) ≡ key
      → climbed (suc looks) table index key turns cell rest link ≡ ends cell link
  unfolding climbed
  climb_hit looks turns cell rest link h e = rw (lt-ltb link entry_room h, eq-eqb _ _ e)

  pub climb_stray : (looks turns cell rest link : ℕ) → link < entry_room → (key_of table (entry_at index link) ≡ key → ⊥)
      → strayed table turns (key_of table (entry_at index link)) key ≡ true → climbed (suc looks) table index key turns cell rest link ≡ ends cell 0
  unfolding climbed
  climb_stray looks turns cell rest link h e s = rw (lt-ltb link entry_room h, ne_eqb _ _ e, s)

  pub climb_on : (looks turns cell rest link : ℕ) → link < entry_room → (key_of table (entry_at index link) ≡ key → ⊥)
      → strayed table turns (key_of table (entry_at index link)) key ≡ false
      → climbed (suc looks) table index key turns cell rest link
      ≡ climbed looks table index key (suc turns) (branch_of link rest) (rest / 2) (link_at index link (branch_of link rest))
  unfolding climbed
  climb_on looks turns cell rest link h e s = rw (lt-ltb link entry_room h, ne_eqb _ _ e, s)

  -- links rise, so as many looks as there are entries above the link are enough
  enough : (k l turns cell rest link : ℕ) → entry_room ≤ link + k → entry_room ≤ link + l
      → climbed k table index key turns cell rest link ≡ climbed l table index key turns cell rest link
  enough zero l turns cell rest link h g = climb_none zero turns cell rest link (omega arith) ∙ sym (climb_none l turns cell rest link (omega arith))
  enough (suc k) zero turns cell rest link h g =
      climb_none (suc k) turns cell rest link (omega arith) ∙ sym (climb_none zero turns cell rest link (omega arith))
  enough (suc k) (suc l) turns cell rest link h g = go (meets turns link) (enough k l (suc turns) (branch_of link rest) (rest / 2) next)
    where
      next : ℕ
      next = link_at index link (branch_of link rest)

      go : Meets table index key turns link
          → (entry_room ≤ next + k → entry_room ≤ next + l
          → climbed k table index key (suc turns) (branch_of link rest) (rest / 2) next
          ≡ climbed l table index key (suc turns) (branch_of link rest) (rest / 2) next)
          → climbed (suc k) table index key turns cell rest link ≡ climbed (suc l) table index key turns cell rest link
      go (nothing z) later = climb_none (suc k) turns cell rest link z ∙ sym (climb_none (suc l) turns cell rest link z)
      go (itself b e) later = climb_hit k turns cell rest link b e ∙ sym (climb_hit l turns cell rest link b e)
      go (stranger b e s) later = climb_stray k turns cell rest link b e s ∙ sym (climb_stray l turns cell rest link b e s)
      go (another b e s) later =
          let rises = link_rises index link (branch_of link rest) b in
          climb_on k turns cell rest link b e s ∙ later (omega arith) (omega arith) ∙ sym (climb_on l turns cell rest link b e s)

  module _ (turns cell rest link : ℕ) where
    one_more : followed table index key turns cell rest link ≡ climbed (suc entry_room) table index key turns cell rest link
    unfolding followed
    one_more = enough entry_room (suc entry_room) turns cell rest link (omega arith) (omega arith)

    pub follow_none : entry_room ≤ link → followed table index key turns cell rest link ≡ ends cell 0
    follow_none h = one_more ∙ climb_none (suc entry_room) turns cell rest link h

    pub follow_hit : link < entry_room → key_of table (entry_at index link) ≡ key → followed table index key turns cell rest link ≡ ends cell link
    follow_hit h e = one_more ∙ climb_hit entry_room turns cell rest link h e

    pub follow_stray : link < entry_room → (key_of table (entry_at index link) ≡ key → ⊥) → strayed table turns (key_of table (entry_at index link)) key ≡ true
        → followed table index key turns cell rest link ≡ ends cell 0
    follow_stray h e s = one_more ∙ climb_stray entry_room turns cell rest link h e s

    pub follow_on : link < entry_room → (key_of table (entry_at index link) ≡ key → ⊥) → strayed table turns (key_of table (entry_at index link)) key ≡ false
        → followed table index key turns cell rest link
        ≡ followed table index key (suc turns) (branch_of link rest) (rest / 2) (link_at index link (branch_of link rest))
    unfolding followed
    follow_on h e s = one_more ∙ climb_on entry_room turns cell rest link h e s

-- what is left of a key after so many turns
unfoldable pub rest_after : ℕ → ℕ → ℕ
rest_after zero key = key / 2048
rest_after (suc turns) key = rest_after turns key / 2

-- the way on from a word that is come to after so many turns, from the entry that it belongs to
abbrev pub way_from : Table → List ℕ → ℕ → ℕ → ℕ → ℕ → Way
way_from table index key n low cell = followed table index key n cell (rest_after n key) (link_at index low cell)

abbrev pub number_of : Way → ℕ
number_of way = way.number

-- a way comes to a word after so many turns, from the entry that the word belongs to, or 0 for a head
pub data Comes (table : Table) (index : List ℕ) (key : ℕ) : ℕ → ℕ → ℕ → Type 0 where
  starts : Comes table index key 0 0 (head_of table key)
  turns : {n low cell : ℕ} → Comes table index key n low cell → link_at index low cell < entry_room
      → Comes table index key (suc n) (link_at index low cell) (branch_of (link_at index low cell) (rest_after n key))

-- how a way goes on from a word: it ends there, without the key, with it or astray, or it takes a turn
pub data Climbs (table : Table) (index : List ℕ) (key : ℕ) : ℕ → ℕ → ℕ → Type 0 where
  stops : {n low cell : ℕ} → entry_room ≤ link_at index low cell → Climbs table index key n low cell
  hits : {n low cell : ℕ} → link_at index low cell < entry_room → key_of table (entry_at index (link_at index low cell)) ≡ key → Climbs table index key n low cell
  strays : {n low cell : ℕ} → link_at index low cell < entry_room → (key_of table (entry_at index (link_at index low cell)) ≡ key → ⊥)
      → strayed table n (key_of table (entry_at index (link_at index low cell))) key ≡ true → Climbs table index key n low cell
  goes : {n low cell : ℕ} → link_at index low cell < entry_room → (key_of table (entry_at index (link_at index low cell)) ≡ key → ⊥)
      → strayed table n (key_of table (entry_at index (link_at index low cell))) key ≡ false
      → Climbs table index key (suc n) (link_at index low cell) (branch_of (link_at index low cell) (rest_after n key))
      → Climbs table index key n low cell

-- where a way ends: at a word that leads to no entry, at one that leads to the key's, or at one that leads astray
pub data Ends (table : Table) (index : List ℕ) (key : ℕ) : Way → Type 0 where
  free : {n low cell : ℕ} → Comes table index key n low cell → entry_room ≤ link_at index low cell → Ends table index key (ends cell 0)
  taken : {n low cell : ℕ} → Comes table index key n low cell → link_at index low cell < entry_room
      → key_of table (entry_at index (link_at index low cell)) ≡ key → Ends table index key (ends cell (link_at index low cell))
  astray : {n low cell : ℕ} → Comes table index key n low cell → link_at index low cell < entry_room
      → (key_of table (entry_at index (link_at index low cell)) ≡ key → ⊥) → strayed table n (key_of table (entry_at index (link_at index low cell))) key ≡ true
      → Ends table index key (ends cell 0)

module _ (table : Table) (index : List ℕ) (key : ℕ) where
  climbs_in : (left n low cell : ℕ) → entry_room ≤ link_at index low cell + left → Climbs table index key n low cell
  climbs_in zero n low cell h = let none : entry_room ≤ link_at index low cell = omega arith in stops none
  climbs_in (suc left) n low cell h = go (meets table index key n (link_at index low cell)) (climbs_in left (suc n) (link_at index low cell) next)
    where
      next : ℕ
      next = branch_of (link_at index low cell) (rest_after n key)

      go : Meets table index key n (link_at index low cell)
          → (entry_room ≤ link_at index (link_at index low cell) next + left → Climbs table index key (suc n) (link_at index low cell) next)
          → Climbs table index key n low cell
      go (nothing z) later = stops z
      go (itself b e) later = hits b e
      go (stranger b e s) later = strays b e s
      go (another b e s) later = goes b e s (later (omega (arith, link_rises index (link_at index low cell) next b)))

  -- links rise, so every way ends
  pub climbs : (n low cell : ℕ) → Climbs table index key n low cell
  climbs n low cell = climbs_in entry_room n low cell (omega arith)

  module _ (n low cell : ℕ) where
    pub from-none : entry_room ≤ link_at index low cell → way_from table index key n low cell ≡ ends cell 0
    from-none h = follow_none table index key n cell (rest_after n key) (link_at index low cell) h

    pub from_hit : link_at index low cell < entry_room → key_of table (entry_at index (link_at index low cell)) ≡ key
        → way_from table index key n low cell ≡ ends cell (link_at index low cell)
    from_hit h e = follow_hit table index key n cell (rest_after n key) (link_at index low cell) h e

    pub from_stray : link_at index low cell < entry_room → (key_of table (entry_at index (link_at index low cell)) ≡ key → ⊥)
        → strayed table n (key_of table (entry_at index (link_at index low cell))) key ≡ true → way_from table index key n low cell ≡ ends cell 0
    from_stray h e s = follow_stray table index key n cell (rest_after n key) (link_at index low cell) h e s

    pub from_on : link_at index low cell < entry_room → (key_of table (entry_at index (link_at index low cell)) ≡ key → ⊥)
        → strayed table n (key_of table (entry_at index (link_at index low cell))) key ≡ false
        → way_from table index key n low cell ≡ way_from table index key (suc n) (link_at index low cell) (branch_of (link_at index low cell) (rest_after n key))
    unfolding rest_after
    from_on h e s = follow_on table index key n cell (rest_after n key) (link_at index low cell) h e s

-- in an array where a word leads to the same entry, with the same key, the way goes on as it did
module _ (table : Table) (index after : List ℕ) (key n low cell : ℕ) (link : link_at after low cell ≡ link_at index low cell)
    (same : key_of table (entry_at after (link_at index low cell)) ≡ key_of table (entry_at index (link_at index low cell)))
    (leads : link_at index low cell < entry_room) where
  same_now : key_of table (entry_at after (link_at after low cell)) ≡ key_of table (entry_at index (link_at index low cell))
  same_now = rw link same

  pub same_hit : key_of table (entry_at index (link_at index low cell)) ≡ key → way_from table after key n low cell ≡ way_from table index key n low cell
  same_hit e = from_hit table after key n low cell (rw link leads) (same_now ∙ e) ∙ ap (ends cell) link ∙ sym (from_hit table index key n low cell leads e)

  pub same_stray : (key_of table (entry_at index (link_at index low cell)) ≡ key → ⊥)
      → strayed table n (key_of table (entry_at index (link_at index low cell))) key ≡ true
      → way_from table after key n low cell ≡ way_from table index key n low cell
  same_stray e s =
      from_stray table after key n low cell (rw link leads) (λ q. e (sym same_now ∙ q)) (rw same_now s) ∙ sym (from_stray table index key n low cell leads e s)

  pub same_turn : (key_of table (entry_at index (link_at index low cell)) ≡ key → ⊥)
      → strayed table n (key_of table (entry_at index (link_at index low cell))) key ≡ false
      → way_from table after key n low cell ≡ way_from table after key (suc n) (link_at index low cell) (branch_of (link_at index low cell) (rest_after n key))
  same_turn e s =
      from_on table after key n low cell (rw link leads) (λ q. e (sym same_now ∙ q)) (rw same_now s)
      ∙ ap (λ (l : ℕ). way_from table after key (suc n) l (branch_of l (rest_after n key))) link

module _ {table : Table} {index : List ℕ} {key : ℕ} where
  pub comes_low : {n low cell : ℕ} → Comes table index key n low cell → low < entry_room
  comes_low starts = omega arith
  comes_low (turns p h) = h

  comes_end : {n low cell : ℕ} → Comes table index key n low cell → Climbs table index key n low cell
      → Ends table index key (way_from table index key n low cell)
  comes_end {n} {low} {cell} p (stops z) = rw (from-none table index key n low cell z) (free p z)
  comes_end {n} {low} {cell} p (hits b e) = rw (from_hit table index key n low cell b e) (taken p b e)
  comes_end {n} {low} {cell} p (strays b e s) = rw (from_stray table index key n low cell b e s) (astray p b e s)
  comes_end {n} {low} {cell} p (goes b e s c) = rw (from_on table index key n low cell b e s) (comes_end (turns p b) c)

  pub way_ends : Ends table index key (way_of table index key)
  unfolding way_of rest_after
  way_ends = comes_end starts (climbs table index key 0 0 (head_of table key))
