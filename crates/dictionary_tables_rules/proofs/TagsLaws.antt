-- The tags that a table stands for: for any words they hold just what a look-up finds, so one probe answers for the list.
-- The table that was made of a list of tags stands for that list.
use Rattle.std.specs.Prelude.{◌≡◌, Bool, ltb}
use Rattle.std.proofs.Math.Path.{refl, sym, ap}
use Rattle.std.proofs.Common.{◌∙◌, arith, Option, Some, None, ℕ}
use Rattle.std.proofs.Math.Bool.{true, false}
use mathlib.Core.List.{List, [], ◌∷◌}
use Prim.Native.Nat.{ℕ, zero, suc, ◌+◌, ◌-◌, ◌*◌, ◌≤◌, ◌<◌}
use Rattle.std.proofs.Math.ListN.{length}
use Rattle.std.proofs.Math.Dec.{eqb}
use borrow.Author.Tests.{eq-eqb, eqb-true, eqb-false, leb-true, le-leb}
use Rattle.field_rules.specs.Choice.{pick, pick_same}
use Rattle.dictionary_layout_rules.specs.Tree.{holds_tag}
use Rattle.dictionary_tables_rules.specs.Table.{heads_for, items_at, item_at, lies, tag_at, group_at, later_at, chased, followed, item_of}
use Rattle.dictionary_tables_rules.proofs.TableLaws.{heads_bounds, item-lies, item_past}
use Rattle.dictionary_tables_rules.specs.Laid.{own_count, part_size, inner_size, table_size, own_items, items_words, part_words, inner_words, table_of}
use Rattle.dictionary_tables_rules.proofs.PartLaws.{Stands, item_among, heads-read, item-first, items-behind, items_stand, item_among_lem}
use Rattle.dictionary_tables_rules.proofs.Tabled.{own_items-length, table-length}
use Rattle.dictionary_tables_rules.specs.Tags.{fields_of, place_at, item_tags, is_item, found_of, tags_found}

-- ===== any words =====

-- an item that lies in the table and has a tag
record Lying (table : List ℕ) (from tag : ℕ) : Type 0 where
  link : ℕ
  some : 1 ≤ link
  lying : lies table (item_at from link) ≡ true
  tagged : tag_at table (item_at from link) ≡ tag

-- what a look-up finds is such an item
chased_lying : (fuel : ℕ) (table : List ℕ) (from tag link : ℕ) → is_item (chased fuel table from tag link) ≡ true → Lying table from tag
unfolding chased is_item
chased_lying zero table from tag link h = let z : ◌≡◌ {A = ℕ} 0 1 = cc in absurd (omega arith)
chased_lying (suc fuel) table from tag link h =
    go (eqb link 0) refl (lies table (item_at from link)) refl (eqb (tag_at table (item_at from link)) tag) refl (ltb link (later_at table (item_at from link))) h
    (chased_lying fuel table from tag (later_at table (item_at from link)))
  where
    go : (none : Bool) → eqb link 0 ≡ none → (within : Bool) → lies table (item_at from link) ≡ within →
        (same : Bool) → eqb (tag_at table (item_at from link)) tag ≡ same → (rises : Bool) →
        is_item (pick none None (pick within (pick same (Some ((link - 1), (group_at table (item_at from link))))
        (pick rises (chased fuel table from tag (later_at table (item_at from link))) None)) None)) ≡ true →
        (is_item (chased fuel table from tag (later_at table (item_at from link))) ≡ true → Lying table from tag) → Lying table from tag
    go true z within w same t rises h later = let z : ◌≡◌ {A = ℕ} 0 1 = cc in absurd (omega arith)
    go false z false w same t rises h later = let z : ◌≡◌ {A = ℕ} 0 1 = cc in absurd (omega arith)
    go false z true w true t rises h later =
        record { link = link; some = omega (arith, eqb-false link 0 z); lying = w; tagged = eqb-true _ _ t }
    go false z true w false t true h later = later h
    go false z true w false t false h later = let z : ◌≡◌ {A = ℕ} 0 1 = cc in absurd (omega arith)

item_lying : (table : List ℕ) (tag : ℕ) → is_item (item_of table 0 tag) ≡ true → Lying table (items_at table 0) tag
unfolding item_of followed
item_lying table tag h = chased_lying _ table (items_at table 0) tag _ h

-- an item before one that lies in the table lies in it too
lies-before : (table : List ℕ) (from first link : ℕ) → first ≤ link → lies table (item_at from link) ≡ true → lies table (item_at from first) ≡ true
unfolding lies item_at
lies-before table from first link h w =
    le-leb (from + 5 * (first - 1) + 5) (length table) (omega (arith, leb-true (from + 5 * (link - 1) + 5) (length table) w))

-- and no link is larger than the table
link-within : (table : List ℕ) (from link : ℕ) → lies table (item_at from link) ≡ true → link ≤ length table
unfolding lies item_at
link-within table from link w = omega (arith, leb-true (from + 5 * (link - 1) + 5) (length table) w)

module _ (table : List ℕ) (tag : ℕ) where
  -- an item that lies in the table is among those that were listed
  listed_lying : (link : ℕ) → lies table (place_at table link) ≡ true → tag_at table (place_at table link) ≡ tag →
      (fuel first : ℕ) → first ≤ link → link < first + fuel → holds_tag tag (item_tags fuel table first) ≡ true
  unfolding item_tags holds_tag
  listed_lying link w t zero first above below = absurd (omega arith)
  listed_lying link w t (suc fuel) first above below =
      rw (lies-before table (items_at table 0) first link above w)
      (go (eqb (tag_at table (place_at table first)) tag) refl (listed_lying link w t fuel (first + 1)))
    where
      go : (same : Bool) → eqb (tag_at table (place_at table first)) tag ≡ same →
          (first + 1 ≤ link → link < first + 1 + fuel → holds_tag tag (item_tags fuel table (first + 1)) ≡ true) →
          pick same true (holds_tag tag (item_tags fuel table (first + 1))) ≡ true
      go true e later = refl
      go false e later =
          let other : link ≡ first → ⊥ = λ z. eqb-false _ _ e (ap (λ (l : ℕ). tag_at table (place_at table l)) (sym z) ∙ t) in
          later (omega (arith, other)) (omega arith)

  -- of some tags, those are kept that a look-up finds
  found_of_lem : (tags : List ℕ) → holds_tag tag (found_of table tags) ≡ pick (is_item (item_of table 0 tag)) (holds_tag tag tags) false
  unfolding found_of holds_tag
  found_of_lem [] = sym (pick_same (is_item (item_of table 0 tag)) false)
  found_of_lem (t ∷ tags) = go (is_item (item_of table 0 t)) refl (eqb t tag) refl (found_of_lem tags)
    where
      go : (found : Bool) → is_item (item_of table 0 t) ≡ found → (same : Bool) → eqb t tag ≡ same →
          holds_tag tag (found_of table tags) ≡ pick (is_item (item_of table 0 tag)) (holds_tag tag tags) false →
          holds_tag tag (pick found (t ∷ found_of table tags) (found_of table tags)) ≡
          pick (is_item (item_of table 0 tag)) (pick same true (holds_tag tag tags)) false
      go true f true e later = let same : t ≡ tag = eqb-true t tag e in rw (e, ← same, f)
      go true f false e later = rw e later
      go false f true e later =
          let same : t ≡ tag = eqb-true t tag e in
          let none : is_item (item_of table 0 tag) ≡ false = rw same at f in
          later ∙ rw none
      go false f false e later = later

-- a table holds a tag just where a look-up finds it, whatever its words are
pub found-holds : (table : List ℕ) (tag : ℕ) → holds_tag tag (tags_found table) ≡ is_item (item_of table 0 tag)
unfolding tags_found
found-holds table tag = found_of_lem table tag (item_tags (length table) table 1) ∙ go (is_item (item_of table 0 tag)) refl
  where
    go : (found : Bool) → is_item (item_of table 0 tag) ≡ found → pick found (holds_tag tag (item_tags (length table) table 1)) false ≡ found
    go true e =
        let l = item_lying table tag e in
        listed_lying table tag l.link l.lying l.tagged (length table) 1 l.some
        (omega (arith, link-within table (items_at table 0) l.link l.lying))
    go false e = refl

-- ===== the table of a list of tags =====

pub fields-count : (tags : List ℕ) → own_count (fields_of tags) ≡ length tags
unfolding own_count fields_of
fields-count [] = refl
fields-count (tag ∷ tags) = omega (arith, fields-count tags)

fields-inner : (tags : List ℕ) → inner_size (fields_of tags) ≡ 0
unfolding inner_size fields_of
fields-inner [] = refl
fields-inner (tag ∷ tags) = fields-inner tags

-- it has the part of its only level
pub fields-part : (tags : List ℕ) → table_size (fields_of tags) ≡ part_size (length tags)
fields-part tags = omega (arith, ap part_size (fields-count tags), fields-inner tags)

pub fields-size : (tags : List ℕ) → length (table_of (fields_of tags)) ≡ part_size (length tags)
fields-size tags = table-length (fields_of tags) ∙ fields-part tags

-- few words for as many tags as a dictionary may have
pub fields-few : (tags : List ℕ) → length tags ≤ 1024 → table_size (fields_of tags) ≤ 5249
unfolding part_size
fields-few tags h = omega (arith, fields-part tags, (heads_bounds (length tags)).1)

-- the items are those of the tags
fields_among : (tag position free : ℕ) (tags : List ℕ) → is_item (item_among tag position (own_items free (fields_of tags))) ≡ holds_tag tag tags
unfolding item_among own_items fields_of holds_tag is_item
fields_among tag position free [] = refl
fields_among tag position free (t ∷ tags) = go (eqb t tag) _ _ (fields_among tag (position + 1) free tags)
  where
    go : (same : Bool) (group : ℕ) (later : Option (ℕ × ℕ)) → is_item later ≡ holds_tag tag tags →
        is_item (pick same (Some (position, group)) later) ≡ pick same true (holds_tag tag tags)
    go true group later e = refl
    go false group later e = e

-- the items of the tags that are left are listed one by one, and no further item lies in the table
fields-listed : (table : List ℕ) (heads free fuel position : ℕ) (tags : List ℕ) →
    Stands table (items_at table 0 + 5 * position) (items_words heads (position + 1) (own_items free (fields_of tags))) →
    length table ≡ items_at table 0 + 5 * (position + length tags) → length tags ≤ fuel → item_tags fuel table (position + 1) ≡ tags
unfolding item_tags own_items fields_of
fields-listed table heads free zero position [] s ends h = refl
fields-listed table heads free zero position (tag ∷ tags) s ends h = absurd (omega arith)
fields-listed table heads free (suc fuel) position [] s ends h = rw (item_past table (items_at table 0) (position + 1) (unfold item_at in omega arith))
fields-listed table heads free (suc fuel) position (tag ∷ tags) s ends h =
    let read = item-first table (items_at table 0) heads position _ _ s in
    rw (item-lies table (items_at table 0) (position + 1) read.within, read.tag_read)
    (ap (λ (l : List ℕ). tag ∷ l) (fields-listed table heads free fuel (position + 1) tags (items-behind table (items_at table 0) heads position _ _ s)
    (omega arith) (omega arith)))

-- tags that are found are kept
all_found : (table : List ℕ) (tags : List ℕ) → ((tag : ℕ) → holds_tag tag tags ≡ true → is_item (item_of table 0 tag) ≡ true) → found_of table tags ≡ tags
unfolding found_of holds_tag
all_found table [] found = refl
all_found table (t ∷ tags) found =
    rw (found t (rw (eq-eqb t t refl))) (ap (λ (l : List ℕ). t ∷ l) (all_found table tags (λ tag h. found tag (rw (h, pick_same)))))

module _ (tags : List ℕ) where
  abbrev table : List ℕ
  table = table_of (fields_of tags)

  abbrev free : ℕ
  free = 0 + part_size (own_count (fields_of tags))

  fields_stand : Stands table 0 (part_words (own_items free (fields_of tags)))
  unfolding table_of
  fields_stand = record { before = []; after = inner_words free (fields_of tags); whole = refl; start = refl }

  fields-found : (tag : ℕ) → is_item (item_of table 0 tag) ≡ holds_tag tag tags
  fields-found tag = ap is_item (item_among_lem table 0 _ fields_stand tag) ∙ fields_among tag 0 free tags

  fields-ends : length table ≡ items_at table 0 + 5 * (0 + length tags)
  unfolding items_at part_size
  fields-ends =
      let count : length (own_items free (fields_of tags)) ≡ length tags = own_items-length free (fields_of tags) ∙ fields-count tags in
      omega (arith, fields-size tags, heads-read table 0 _ fields_stand, ap heads_for count)

  -- the table of a list of tags stands for it
  pub tags_found_lem : tags_found (table_of (fields_of tags)) ≡ tags
  unfolding tags_found
  tags_found_lem =
      let listed = fields-listed table _ free (length table) 0 tags (items_stand table 0 _ fields_stand) fields-ends (omega (arith, fields-ends)) in
      ap (found_of table) listed ∙ all_found table tags (λ tag h. fields-found tag ∙ h)
