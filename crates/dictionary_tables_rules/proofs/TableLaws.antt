-- The laws of looking up: each way that a look-up goes at an item, for every content of the table.
-- Links rise and items lie in the table, so the fuel never runs out; later proofs cite only these steps.
use Rattle.std.specs.Prelude.{◌≡◌, Bool, List, get_or}
use Rattle.std.proofs.Math.Path.{refl, sym}
use Rattle.std.proofs.Common.{◌∙◌, arith, Some, None}
use Rattle.std.proofs.Math.Bool.{true, false}
use Prim.Native.Nat.{ℕ, zero, suc, ◌+◌, ◌-◌, ◌*◌, ◌%◌, ◌≤◌, ◌<◌}
use Rattle.std.proofs.Math.ListN.{length, get_or-eq_default}
use Rattle.std.proofs.Math.Dec.{ltb}
use borrow.Author.Tests.{eq-eqb, ne_eqb, lt-ltb, le-ltb, le-leb, lt-leb, ltb-true}
use Rattle.field_rules.specs.Choice.{pick, pick_same}
use Rattle.dictionary_tables_rules.specs.Table.{heads_for, heads_at, items_at, item_at, lies, tag_at, group_at, later_at, chased, followed, item_of, delimiter_at}

pub heads-few : (count : ℕ) → count ≤ 16 → heads_for count ≡ 8
unfolding heads_for
heads-few count h = rw (le-ltb 16 count h)

pub heads-many : (count : ℕ) → 16 < count → heads_for count ≡ 128
unfolding heads_for
heads-many count h = rw (lt-ltb 16 count h)

pub heads_bounds : (count : ℕ) → (8 ≤ heads_for count) × (heads_for count ≤ 128)
unfolding heads_for
heads_bounds count = go (ltb 16 count)
  where
    go : (t : Bool) → (8 ≤ pick t 128 8) × (pick t 128 8 ≤ 128)
    go true = (omega arith, omega arith)
    go false = (omega arith, omega arith)

pub heads_at_bounds : (table : List ℕ) (level : ℕ) → (8 ≤ heads_at table level) × (heads_at table level ≤ 128)
unfolding heads_at
heads_at_bounds table level = heads_bounds (get_or table level 0)

-- the items stand behind the heads, whatever there is of the table
module _ (table : List ℕ) (level : ℕ) where
  pub items_from : (heads : ℕ) → heads ≡ heads_at table level → level + 1 + heads ≡ items_at table level
  unfolding items_at
  items_from heads e = rw e

-- an item lies in the table or not, by where its link leads
module _ (table : List ℕ) (from link : ℕ) where
  pub item-lies : item_at from link + 5 ≤ length table → lies table (item_at from link) ≡ true
  unfolding lies
  item-lies h = le-leb _ _ h

  pub item_past : length table < item_at from link + 5 → lies table (item_at from link) ≡ false
  unfolding lies
  item_past h = lt-leb _ _ h

  -- a link past the table leads to no item of it
  pub link_past : length table < link → lies table (item_at from link) ≡ false
  unfolding lies item_at
  link_past h = lt-leb (from + 5 * (link - 1) + 5) (length table) (omega arith)

module _ (table : List ℕ) (from tag : ℕ) where
  -- as many steps as lie between are enough
  chased_fuel : (k l link : ℕ) → length table < k + link → length table < l + link → chased k table from tag link ≡ chased l table from tag link
  unfolding chased
  chased_fuel zero zero link h g = refl
  chased_fuel zero (suc l) link h g = rw (link_past table from link (omega arith), pick_same)
  chased_fuel (suc k) zero link h g = rw (link_past table from link (omega arith), pick_same)
  chased_fuel (suc k) (suc l) link h g =
      rw (go (later_at table (item_at from link)) (ltb link (later_at table (item_at from link))) refl (chased_fuel k l (later_at table (item_at from link))))
    where
      go : (later : ℕ) (t : Bool) → ltb link later ≡ t →
          (length table < k + later → length table < l + later → chased k table from tag later ≡ chased l table from tag later) →
          pick t (chased k table from tag later) None ≡ pick t (chased l table from tag later) None
      go later false e goes = refl
      go later true e goes = let rises : link < later = ltb-true _ _ e in goes (omega arith) (omega arith)

  -- one step more than the fuel says
  followed-more : (link : ℕ) → followed table from tag link ≡ chased (suc (length table)) table from tag link
  unfolding followed
  followed-more link = chased_fuel (suc (length table) - link) (suc (length table)) link (omega arith) (omega arith)

  pub follow_none : (link : ℕ) → link ≡ 0 → followed table from tag link ≡ None
  follow_none link z = followed-more link ∙ unfold chased in rw (eq-eqb link 0 z)

  pub follow_past : (link : ℕ) → length table < item_at from link + 5 → followed table from tag link ≡ None
  follow_past link h = followed-more link ∙ unfold chased in rw (item_past table from link h, pick_same)

  module _ (link : ℕ) (some : link ≡ 0 → ⊥) (within : item_at from link + 5 ≤ length table) where
    pub follow_hit : tag_at table (item_at from link) ≡ tag → followed table from tag link ≡ Some ((link - 1), (group_at table (item_at from link)))
    follow_hit e = followed-more link ∙ unfold chased in rw (ne_eqb link 0 some, item-lies table from link within, eq-eqb _ _ e)

    pub follow_stop : (tag_at table (item_at from link) ≡ tag → ⊥) → later_at table (item_at from link) ≤ link → followed table from tag link ≡ None
    follow_stop e h = followed-more link ∙ unfold chased in rw (ne_eqb link 0 some, item-lies table from link within, ne_eqb _ _ e, le-ltb _ _ h)

    pub follow_on : (tag_at table (item_at from link) ≡ tag → ⊥) → link < later_at table (item_at from link) →
        followed table from tag link ≡ followed table from tag (later_at table (item_at from link))
    follow_on e h =
        followed-more link
        ∙ unfold chased in rw (ne_eqb link 0 some, item-lies table from link within, ne_eqb _ _ e, lt-ltb _ _ h)
        (chased_fuel (length table) (suc (length table)) (later_at table (item_at from link)) (omega arith) (omega arith))
        ∙ sym (followed-more (later_at table (item_at from link)))

-- a level that doesn't lie in the table has no items
module _ (table : List ℕ) (level : ℕ) where
  pub item_head : (tag : ℕ) → item_of table level tag ≡ followed table (items_at table level) tag (get_or table (level + 1 + tag % heads_at table level) 0)
  unfolding item_of
  item_head tag = refl

  pub item_no_head : (tag : ℕ) → length table ≤ level + 1 + tag % heads_at table level → item_of table level tag ≡ None
  item_no_head tag h = item_head tag ∙ follow_none table (items_at table level) tag _ (get_or-eq_default table 0 h)

  pub delimiter_empty : get_or table level 0 ≡ 0 → delimiter_at table level ≡ None
  unfolding delimiter_at
  delimiter_empty e = rw (eq-eqb _ _ e)

  pub delimiter_none : length table < items_at table level + 5 → delimiter_at table level ≡ None
  unfolding delimiter_at lies
  delimiter_none h = rw (lt-leb _ _ h, pick_same)

  pub delimiter_some : (get_or table level 0 ≡ 0 → ⊥) → items_at table level + 5 ≤ length table →
      delimiter_at table level ≡ Some (tag_at table (items_at table level))
  unfolding delimiter_at lies
  delimiter_some filled h = rw (ne_eqb _ _ filled, le-leb _ _ h)
