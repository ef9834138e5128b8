-- The laws of marks: each way that the next required tag is looked for at an item, and that asking for it, and then from the link behind it on,
-- again and again gives all of them in order, for every content of a table.
use Rattle.std.specs.Prelude.{◌≡◌, Bool, length, get_or, ltb}
use Rattle.std.proofs.Math.Path.{refl, sym}
use Rattle.std.proofs.Common.{ap, ◌∙◌, arith, Option, Some, None, ℕ}
use Rattle.std.proofs.Math.Bool.{true, false}
use mathlib.Core.List.{List, [], ◌∷◌}
use Prim.Native.Nat.{ℕ, zero, suc, ◌+◌, ◌-◌, ◌/◌, ◌%◌, ◌≤◌, ◌<◌}
use Rattle.std.proofs.Math.Dec.{eqb, leb}
use borrow.Author.Tests.{eq-eqb, ne_eqb, eqb-true, eqb-false, lt-ltb, le-ltb, leb-true, leb-false, ltb-true}
use Rattle.field_rules.specs.Choice.{pick, pick_same}
use Rattle.dictionary_tables_rules.specs.Table.{items_at, item_at, tag_at, mark_at, marked_behind, required_within, required_from, mark_within, mark_from}
use Rattle.dictionary_tables_rules.proofs.TableLaws.{item-lies, item_past, link_past}

pub behind-ends : (link word : ℕ) → word / 2 ≤ link → marked_behind link word ≡ 0
unfolding marked_behind
behind-ends link word h = rw (le-ltb _ _ h)

pub behind_rises : (link word : ℕ) → link < word / 2 → marked_behind link word ≡ word / 2
unfolding marked_behind
behind_rises link word h = rw (lt-ltb _ _ h)

-- what holds of no link, and of a link that rises, holds of the link behind an item
behind_either : (P : ℕ → Type 0) (link word : ℕ) → P 0 → ((behind : ℕ) → link < behind → P behind) → P (marked_behind link word)
unfolding marked_behind
behind_either P link word none rises = go (ltb link (word / 2)) refl
  where
    go : (t : Bool) → ltb link (word / 2) ≡ t → P (pick t (word / 2) 0)
    go true e = rises (word / 2) (ltb-true _ _ e)
    go false e = none

-- how many links may still be followed where there is room for so many items: the marks end
unfoldable pub links_left : ℕ → ℕ → ℕ
links_left room link = pick (eqb link 0) 0 (room + 1 - link)

pub links_fall : (room link word : ℕ) → 0 < link → link ≤ room → links_left room (marked_behind link word) < links_left room link
unfolding links_left
links_fall room link word some within =
    rw (ne_eqb link 0 (λ z. omega arith))
    (behind_either (λ (behind : ℕ). links_left room behind < room + 1 - link) link word (omega arith)
    (λ behind rises. rw (ne_eqb behind 0 (λ z. omega arith)) (omega arith)))

module _ (table : List ℕ) (from : ℕ) where
  mark_zero : (k : ℕ) → mark_within k table from 0 ≡ None
  unfolding mark_within
  mark_zero zero = refl
  mark_zero (suc k) = refl

  all_zero : (k : ℕ) → required_within k table from 0 ≡ []
  unfolding required_within
  all_zero zero = refl
  all_zero (suc k) = refl

  -- as many steps as lie between are enough
  mark_fuel : (k l link : ℕ) → length table < k + link → length table < l + link → mark_within k table from link ≡ mark_within l table from link
  unfolding mark_within
  mark_fuel zero zero link h g = refl
  mark_fuel zero (suc l) link h g = rw (link_past table from link (omega arith), pick_same)
  mark_fuel (suc k) zero link h g = rw (link_past table from link (omega arith), pick_same)
  mark_fuel (suc k) (suc l) link h g =
      rw
      (behind_either (λ (behind : ℕ). mark_within k table from behind ≡ mark_within l table from behind) link (mark_at table (item_at from link))
      (mark_zero k ∙ sym (mark_zero l))
      (λ behind rises. mark_fuel k l behind (omega arith) (omega arith)))

  all_fuel : (k l link : ℕ) → length table < k + link → length table < l + link → required_within k table from link ≡ required_within l table from link
  unfolding required_within
  all_fuel zero zero link h g = refl
  all_fuel zero (suc l) link h g = rw (link_past table from link (omega arith), pick_same)
  all_fuel (suc k) zero link h g = rw (link_past table from link (omega arith), pick_same)
  all_fuel (suc k) (suc l) link h g =
      rw
      (behind_either (λ (behind : ℕ). required_within k table from behind ≡ required_within l table from behind) link (mark_at table (item_at from link))
      (all_zero k ∙ sym (all_zero l))
      (λ behind rises. all_fuel k l behind (omega arith) (omega arith)))

module _ (table : List ℕ) (level : ℕ) where
  -- where the item of a link stands, and the link to where its marks go on
  abbrev pub place : ℕ → ℕ
  place link = item_at (items_at table level) link

  abbrev pub marks_behind : ℕ → ℕ
  marks_behind link = marked_behind link (mark_at table (place link))

  -- a level without items has no marks
  pub mark-empty : get_or table level 0 ≡ 0 → (link : ℕ) → mark_from table level link ≡ None
  unfolding mark_from
  mark-empty e link = rw (eq-eqb _ _ e)

  pub all-empty : get_or table level 0 ≡ 0 → (link : ℕ) → required_from table level link ≡ []
  unfolding required_from
  all-empty e link = rw (eq-eqb _ _ e)

  module _ (filled : get_or table level 0 ≡ 0 → ⊥) where
    -- one step more than the fuel says
    mark-more : (link : ℕ) → mark_from table level link ≡ mark_within (suc (length table)) table (items_at table level) link
    unfolding mark_from
    mark-more link =
        rw (ne_eqb _ _ filled) (mark_fuel table (items_at table level) (suc (length table) - link) (suc (length table)) link (omega arith) (omega arith))

    all_more : (link : ℕ) → required_from table level link ≡ required_within (suc (length table)) table (items_at table level) link
    unfolding required_from
    all_more link =
        rw (ne_eqb _ _ filled) (all_fuel table (items_at table level) (suc (length table) - link) (suc (length table)) link (omega arith) (omega arith))

    -- behind an item one step less is enough
    mark-behind : (link : ℕ) → mark_within (length table) table (items_at table level) (marks_behind link) ≡ mark_from table level (marks_behind link)
    mark-behind link =
        behind_either (λ (behind : ℕ). mark_within (length table) table (items_at table level) behind ≡ mark_from table level behind) link _
        (mark_zero table (items_at table level) (length table) ∙ sym (mark-more 0 ∙ mark_zero table (items_at table level) (suc (length table))))
        (λ behind rises. mark_fuel table (items_at table level) (length table) (suc (length table)) behind (omega arith) (omega arith) ∙ sym (mark-more behind))

    all-behind : (link : ℕ) → required_within (length table) table (items_at table level) (marks_behind link) ≡ required_from table level (marks_behind link)
    all-behind link =
        behind_either (λ (behind : ℕ). required_within (length table) table (items_at table level) behind ≡ required_from table level behind) link _
        (all_zero table (items_at table level) (length table) ∙ sym (all_more 0 ∙ all_zero table (items_at table level) (suc (length table))))
        (λ behind rises. all_fuel table (items_at table level) (length table) (suc (length table)) behind (omega arith) (omega arith) ∙ sym (all_more behind))

    module _ (link : ℕ) where
      pub mark-none : link ≡ 0 → mark_from table level link ≡ None
      mark-none z = mark-more link ∙ unfold mark_within in rw (eq-eqb link 0 z)

      pub all_none : link ≡ 0 → required_from table level link ≡ []
      all_none z = all_more link ∙ unfold required_within in rw (eq-eqb link 0 z)

      pub mark_past : length table < place link + 5 → mark_from table level link ≡ None
      mark_past h = mark-more link ∙ unfold mark_within in rw (item_past table (items_at table level) link h, pick_same)

      pub all_past : length table < place link + 5 → required_from table level link ≡ []
      all_past h = all_more link ∙ unfold required_within in rw (item_past table (items_at table level) link h, pick_same)

      module _ (some : link ≡ 0 → ⊥) (within : place link + 5 ≤ length table) where
        pub mark_hit : mark_at table (place link) % 2 ≡ 1 → mark_from table level link ≡ Some ((tag_at table (place link)), (marks_behind link))
        mark_hit e = mark-more link ∙ unfold mark_within in rw (ne_eqb link 0 some, item-lies table (items_at table level) link within, eq-eqb _ _ e)

        pub all_hit : mark_at table (place link) % 2 ≡ 1 → required_from table level link ≡ tag_at table (place link) ∷ required_from table level (marks_behind link)
        all_hit e =
            all_more link
            ∙ unfold required_within in rw (ne_eqb link 0 some, item-lies table (items_at table level) link within, eq-eqb _ _ e)
            (ap (λ (tags : List ℕ). tag_at table (place link) ∷ tags) (all-behind link))

        pub mark_on : (mark_at table (place link) % 2 ≡ 1 → ⊥) → mark_from table level link ≡ mark_from table level (marks_behind link)
        mark_on e =
            mark-more link
            ∙ unfold mark_within in rw (ne_eqb link 0 some, item-lies table (items_at table level) link within, ne_eqb _ _ e)
            (mark-behind link)

        pub all-on : (mark_at table (place link) % 2 ≡ 1 → ⊥) → required_from table level link ≡ required_from table level (marks_behind link)
        all-on e =
            all_more link
            ∙ unfold required_within in rw (ne_eqb link 0 some, item-lies table (items_at table level) link within, ne_eqb _ _ e)
            (all-behind link)

-- what an answer says of the required tags from a link on
data Says (table : List ℕ) (level link : ℕ) : Option (ℕ × ℕ) → Type 0 where
  no_more : required_from table level link ≡ [] → Says table level link None
  one_more : {tag behind : ℕ} → required_from table level link ≡ tag ∷ required_from table level behind → Says table level link (Some (tag, behind))

module _ (table : List ℕ) (level : ℕ) where
  -- an item without the mark is passed over
  passed : (link behind : ℕ) (answer : Option (ℕ × ℕ)) → required_from table level link ≡ required_from table level behind → Says table level behind answer →
      Says table level link answer
  passed link behind None e (no_more q) = no_more (e ∙ q)
  passed link behind (Some (tag, later)) e (one_more q) = one_more (e ∙ q)

  module _ (filled : get_or table level 0 ≡ 0 → ⊥) where
    says_none : (link : ℕ) → link ≡ 0 → Says table level link (mark_from table level link)
    says_none link z = rw (mark-none table level filled link z) (no_more (all_none table level filled link z))

    says_past : (link : ℕ) → length table < place table level link + 5 → Says table level link (mark_from table level link)
    says_past link h = rw (mark_past table level filled link h) (no_more (all_past table level filled link h))

    -- by what lies between the link and the table's end
    says : (k link : ℕ) → length table < k + link → Says table level link (mark_from table level link)
    says zero link h = says_past link (unfold item_at in omega arith)
    says (suc k) link h =
        go (eqb link 0) refl (leb (place table level link + 5) (length table)) refl (eqb (mark_at table (place table level link) % 2) 1) refl
        (behind_either (λ (behind : ℕ). Says table level behind (mark_from table level behind)) link _ (says_none 0 refl)
        (λ behind rises. says k behind (omega arith)))
      where
        go : (none : Bool) → eqb link 0 ≡ none → (within : Bool) → leb (place table level link + 5) (length table) ≡ within →
            (marked : Bool) → eqb (mark_at table (place table level link) % 2) 1 ≡ marked →
            Says table level (marks_behind table level link) (mark_from table level (marks_behind table level link)) →
            Says table level link (mark_from table level link)
        go true z within w marked m later = says_none link (eqb-true link 0 z)
        go false z false w marked m later = says_past link (leb-false _ _ w)
        go false z true w true m later =
            rw (mark_hit table level filled link (eqb-false _ _ z) (leb-true _ _ w) (eqb-true _ _ m))
            (one_more (all_hit table level filled link (eqb-false _ _ z) (leb-true _ _ w) (eqb-true _ _ m)))
        go false z true w false m later =
            rw (mark_on table level filled link (eqb-false _ _ z) (leb-true _ _ w) (eqb-false _ _ m))
            (passed link _ _ (all-on table level filled link (eqb-false _ _ z) (leb-true _ _ w) (eqb-false _ _ m)) later)

  says_all : (link : ℕ) → Says table level link (mark_from table level link)
  says_all link = go (eqb (get_or table level 0) 0) refl
    where
      go : (none : Bool) → eqb (get_or table level 0) 0 ≡ none → Says table level link (mark_from table level link)
      go true z = let none = eqb-true _ _ z in rw (mark-empty table level none link) (no_more (all-empty table level none link))
      go false z = says (eqb-false _ _ z) (suc (length table)) link (omega arith)

  pub required_none : (link : ℕ) → mark_from table level link ≡ None → required_from table level link ≡ []
  required_none link e = go _ e (says_all link)
    where
      go : (answer : Option (ℕ × ℕ)) → answer ≡ None → Says table level link answer → required_from table level link ≡ []
      go None e (no_more q) = q
      go (Some (t, b)) e (one_more q) = let z : ◌≡◌ {A = ℕ} 0 1 = cc in absurd (omega arith)

  pub required_first : (link tag behind : ℕ) → mark_from table level link ≡ Some (tag, behind) →
      required_from table level link ≡ tag ∷ required_from table level behind
  required_first link tag behind e = go _ e (says_all link)
    where
      go : (answer : Option (ℕ × ℕ)) → answer ≡ Some (tag, behind) → Says table level link answer → required_from table level link ≡ tag ∷ required_from table level behind
      go None e (no_more q) = let z : ◌≡◌ {A = ℕ} 0 1 = cc in absurd (omega arith)
      go (Some (t, b)) e (one_more q) =
          let both : ◌≡◌ {A = ℕ × ℕ} (t, b) (tag, behind) = cc in
          let tags : t ≡ tag = ap (λ (mark : ℕ × ℕ). mark.0) both in
          let same : b ≡ behind = ap (λ (mark : ℕ × ℕ). mark.1) both in
          rw (tags, same) at q
