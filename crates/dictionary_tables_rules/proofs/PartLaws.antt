-- What stands in a part, by the list of its items: the words are read where they were laid, a chain finds the first item of its tag, and the
-- marks are those of the items. What stands in the table before and after the part makes no difference.
use Rattle.std.specs.Prelude.{◌≡◌, Bool, ◌⊎◌, ℕ, zero, suc, ◌+◌, ◌-◌, ◌*◌, ◌%◌, ◌≤◌, ◌<◌, get_or, eqb}
use Rattle.std.proofs.Math.Path.{refl, ap}
use Rattle.std.proofs.Common.{sym, ◌∙◌, inl, inr, mod-lt, length-append, get_or-append-add, eqb-true, Option, Some, None}
use Rattle.std.proofs.Math.Bool.{true, false}
use mathlib.Core.List.{List, [], ◌∷◌, ◌++◌, append_assoc}
use native.Mathlib.Omega.{arith}
use Rattle.std.proofs.Math.ListN.{length, get_or-append}
use Rattle.std.proofs.lemmas.Bool.{eqb-false}
use Rattle.field_rules.specs.Choice.{pick}
use Rattle.dictionary_layout_rules.specs.Table.{mark}
use Rattle.dictionary_tables_rules.specs.Table.{heads_for, heads_at, items_at, item_at, tag_at, group_at, mark_at, later_at, followed, item_of, delimiter_at, marked_behind, required_from, required_of}
use Rattle.dictionary_tables_rules.proofs.TableLaws.{heads_bounds, follow_none, follow_hit, follow_stop, follow_on, delimiter_empty, delimiter_some}
use Rattle.dictionary_tables_rules.proofs.MarkLaws.{behind_rises, behind-ends, all-empty, all_none, all_hit, all-on}
use Rattle.dictionary_tables_rules.specs.Laid.{Own, part_size, first_under, last_group, first_marked, item_words, items_words, head_words, part_words}

-- words stand in a table from a place on
pub record Stands (table : List ℕ) (at : ℕ) (words : List ℕ) : Type 0 where
  pub before : List ℕ
  pub after : List ℕ
  pub whole : table ≡ before ++ (words ++ after)
  pub start : length before ≡ at

module _ {table : List ℕ} {at : ℕ} where
  pub stands-first : (a b : List ℕ) → Stands table at (a ++ b) → Stands table at a
  stands-first a b s = record {
    before = s.before;
    after = b ++ s.after;
    whole = s.whole ∙ ap (λ (l : List ℕ). s.before ++ l) (append_assoc a b s.after);
    start = s.start;
  }

  pub stands-second : (a b : List ℕ) → Stands table at (a ++ b) → Stands table (at + length a) b
  stands-second a b s = record {
    before = s.before ++ a;
    after = s.after;
    whole = s.whole ∙ ap (λ (l : List ℕ). s.before ++ l) (append_assoc a b s.after) ∙ sym (append_assoc s.before a _);
    start = length-append s.before a ∙ omega (arith, s.start);
  }

  pub stands-within : (words : List ℕ) → Stands table at words → at + length words ≤ length table
  stands-within words s =
      omega (arith, ap length s.whole, length-append s.before (words ++ s.after), length-append words s.after, s.start)

  -- a word reads as what was written there
  pub stands_word : (words : List ℕ) → Stands table at words → (place k : ℕ) → place ≡ at + k → k < length words → get_or table place 0 ≡ get_or words k 0
  stands_word words s place k e h =
      rw (e, s.whole, ← s.start) (get_or-append-add s.before (words ++ s.after) k 0 ∙ get_or-append words s.after 0 k h)

-- ===== lengths =====

pub head_words-length : (left heads head : ℕ) (owns : List Own) → length (head_words left heads head owns) ≡ left
unfolding head_words
head_words-length zero heads head owns = refl
head_words-length (suc left) heads head owns = ap suc (head_words-length left heads (head + 1) owns)

pub items_words-length : (heads link : ℕ) (owns : List Own) → length (items_words heads link owns) ≡ 5 * length owns
unfolding items_words item_words
items_words-length heads link [] = refl
items_words-length heads link (own ∷ owns) = omega (arith, items_words-length heads (link + 1) owns)

pub part_length : (owns : List Own) → length (part_words owns) ≡ part_size (length owns)
unfolding part_words part_size
part_length owns = let heads = heads_for (length owns) in
    omega (arith, length-append (head_words heads heads 0 owns) (items_words heads 1 owns), head_words-length heads heads 0 owns, items_words-length heads 1 owns)

-- ===== heads and items are read where they were laid =====

pub part-some : (count : ℕ) → 9 ≤ part_size count
unfolding part_size
part-some count = omega (arith, (heads_bounds count).0)

head_word : (left heads head : ℕ) (owns : List Own) (k : ℕ) → k < left → get_or (head_words left heads head owns) k 0 ≡ first_under heads (head + k) 1 owns
unfolding head_words
head_word zero heads head owns k h = absurd (omega arith)
head_word (suc left) heads head owns zero h = ap (λ (n : ℕ). first_under heads n 1 owns) (omega arith)
head_word (suc left) heads head owns (suc k) h = head_word left heads (head + 1) owns k (omega arith) ∙ ap (λ (n : ℕ). first_under heads n 1 owns) (omega arith)

-- the five words of an item
pub record ItemRead (table : List ℕ) (at heads link : ℕ) (own : Own) (later : List Own) : Type 0 where
  pub within : at + 5 ≤ length table
  pub tag_read : tag_at table at ≡ own.tag
  group-read : group_at table at ≡ last_group 0 own.tag (own ∷ later)
  mark-read : mark_at table at ≡ 2 * first_marked (link + 1) later + mark own.required
  later-read : later_at table at ≡ first_under heads (own.tag % heads) (link + 1) later

item-read : (table : List ℕ) (at heads link : ℕ) (own : Own) (later : List Own) → Stands table at (item_words heads link own later) →
    ItemRead table at heads link own later
unfolding item_words tag_at group_at mark_at later_at
item-read table at heads link own later s =
    let word = stands_word _ s in
    record {
      within = stands-within _ s;
      tag_read = omega (arith, word at 0 (omega arith) (omega arith), word (at + 1) 1 refl (omega arith));
      group-read = word (at + 2) 2 refl (omega arith);
      mark-read = word (at + 3) 3 refl (omega arith);
      later-read = word (at + 4) 4 refl (omega arith);
    }

-- the items from a position on: the first of them, and those behind it
module _ (table : List ℕ) (from heads position : ℕ) (own : Own) (owns : List Own)
    (s : Stands table (from + 5 * position) (items_words heads (position + 1) (own ∷ owns))) where
  pub item-first : ItemRead table (item_at from (position + 1)) heads (position + 1) own owns
  unfolding items_words item_at
  item-first =
      let place : from + 5 * position ≡ from + 5 * (position + 1 - 1) = omega arith in
      item-read table _ heads (position + 1) own owns (rw place at (stands-first (item_words heads (position + 1) own owns) _ s))

  pub items-behind : Stands table (from + 5 * (position + 1)) (items_words heads (position + 1 + 1) owns)
  unfolding items_words item_words
  items-behind =
      let place : from + 5 * position + 5 ≡ from + 5 * (position + 1) = omega arith in
      rw place at (stands-second (item_words heads (position + 1) own owns) _ s)

-- ===== chains =====

-- "its position is the first, its group the last": the items from a position on
unfoldable pub item_among : ℕ → ℕ → List Own → Option (ℕ × ℕ)
item_among tag position [] = None
item_among tag position (own ∷ owns) = pick (eqb own.tag tag) (Some (position, (last_group 0 tag (own ∷ owns)))) (item_among tag (position + 1) owns)

-- a link leads nowhere, or to one of the items
first_under_rises : (heads head link : ℕ) (owns : List Own) → (first_under heads head link owns ≡ 0) ⊎ (link ≤ first_under heads head link owns)
unfolding first_under
first_under_rises heads head link [] = inl refl
first_under_rises heads head link (own ∷ owns) = go (eqb (own.tag % heads) head) (first_under_rises heads head (link + 1) owns)
  where
    go : (t : Bool) → (first_under heads head (link + 1) owns ≡ 0) ⊎ (link + 1 ≤ first_under heads head (link + 1) owns) →
        (pick t link (first_under heads head (link + 1) owns) ≡ 0) ⊎ (link ≤ pick t link (first_under heads head (link + 1) owns))
    go true r = inr (omega arith)
    go false (inl z) = inl z
    go false (inr h) = inr (omega arith)

module _ (table : List ℕ) (from heads tag : ℕ) where
  -- another tag of the same head: the look-up goes on at the next item under it, if there is one
  chain_on : (position : ℕ) (own : Own) (later : List Own) → ItemRead table (item_at from (position + 1)) heads (position + 1) own later →
      own.tag % heads ≡ tag % heads → (own.tag ≡ tag → ⊥) →
      followed table from tag (position + 1) ≡ followed table from tag (first_under heads (tag % heads) (position + 1 + 1) later)
  chain_on position own later r same other = go (first_under_rises heads (tag % heads) (position + 1 + 1) later)
    where
      leads : later_at table (item_at from (position + 1)) ≡ first_under heads (tag % heads) (position + 1 + 1) later
      leads = r.later-read ∙ ap (λ (head : ℕ). first_under heads head (position + 1 + 1) later) same

      other_tag : tag_at table (item_at from (position + 1)) ≡ tag → ⊥
      other_tag e = other (sym r.tag_read ∙ e)

      go : (first_under heads (tag % heads) (position + 1 + 1) later ≡ 0) ⊎ (position + 1 + 1 ≤ first_under heads (tag % heads) (position + 1 + 1) later) →
          followed table from tag (position + 1) ≡ followed table from tag (first_under heads (tag % heads) (position + 1 + 1) later)
      go (inl z) =
          follow_stop table from tag (position + 1) (λ e. omega arith) r.within other_tag (omega (arith, leads, z))
          ∙ sym (follow_none table from tag _ z)
      go (inr h) =
          follow_on table from tag (position + 1) (λ e. omega arith) r.within other_tag (omega (arith, leads, h))
          ∙ ap (followed table from tag) leads

  -- a chain visits, rising, the items under its head: it finds the first that has the tag
  pub chain : (position : ℕ) (owns : List Own) → Stands table (from + 5 * position) (items_words heads (position + 1) owns) →
      followed table from tag (first_under heads (tag % heads) (position + 1) owns) ≡ item_among tag position owns
  unfolding first_under item_among items_words
  chain position [] s = follow_none table from tag 0 refl
  chain position (own ∷ owns) s =
      go (eqb (own.tag % heads) (tag % heads)) refl (eqb own.tag tag) refl
      (chain (position + 1) owns (items-behind table from heads position own owns s))
    where
      read : ItemRead table (item_at from (position + 1)) heads (position + 1) own owns
      read = item-first table from heads position own owns s

      go : (u : Bool) → eqb (own.tag % heads) (tag % heads) ≡ u → (t : Bool) → eqb own.tag tag ≡ t →
          followed table from tag (first_under heads (tag % heads) (position + 1 + 1) owns) ≡ item_among tag (position + 1) owns →
          followed table from tag (pick u (position + 1) (first_under heads (tag % heads) (position + 1 + 1) owns)) ≡
          pick t (Some (position, (last_group 0 tag (own ∷ owns)))) (item_among tag (position + 1) owns)
      go true u true t later =
          let e : own.tag ≡ tag = eqb-true _ _ t in
          let found = follow_hit table from tag (position + 1) (λ z. omega arith) read.within (read.tag_read ∙ e) in
          let group : group_at table (item_at from (position + 1)) ≡ last_group 0 tag (own ∷ owns) =
          read.group-read ∙ ap (λ (n : ℕ). last_group 0 n (own ∷ owns)) e in
          let position' : position + 1 - 1 ≡ position = omega arith in
          found ∙ rw (group, position')
      go true u false t later = chain_on position own owns read (eqb-true _ _ u) (eqb-false _ _ t) ∙ later
      go false u true t later = absurd (eqb-false _ _ u (ap (λ (n : ℕ). n % heads) (eqb-true _ _ t)))
      go false u false t later = later

-- ===== marks =====

-- "each required mark counts at its own place"
unfoldable pub required_among : List Own → List ℕ
required_among [] = []
required_among (own ∷ owns) = pick own.required (own.tag ∷ required_among owns) (required_among owns)

first_marked_rises : (link : ℕ) (owns : List Own) → (first_marked link owns ≡ 0) ⊎ (link ≤ first_marked link owns)
unfolding first_marked
first_marked_rises link [] = inl refl
first_marked_rises link (own ∷ owns) = go own.required (first_marked_rises (link + 1) owns)
  where
    go : (t : Bool) → (first_marked (link + 1) owns ≡ 0) ⊎ (link + 1 ≤ first_marked (link + 1) owns) →
        (pick t link (first_marked (link + 1) owns) ≡ 0) ⊎ (link ≤ pick t link (first_marked (link + 1) owns))
    go true r = inr (omega arith)
    go false (inl z) = inl z
    go false (inr h) = inr (omega arith)

-- an item's marks go on at the next item that has one
marks_behind : (link word next : ℕ) (required : Bool) → word ≡ 2 * next + mark required → (next ≡ 0) ⊎ (link + 1 ≤ next) → marked_behind link word ≡ next
unfolding mark
marks_behind link word next true e (inl z) = behind-ends link word (omega arith) ∙ sym z
marks_behind link word next true e (inr h) = behind_rises link word (omega arith) ∙ omega arith
marks_behind link word next false e (inl z) = behind-ends link word (omega arith) ∙ sym z
marks_behind link word next false e (inr h) = behind_rises link word (omega arith) ∙ omega arith

module _ (table : List ℕ) (level heads : ℕ) (filled : get_or table level 0 ≡ 0 → ⊥) where
  -- asking from an item on gives its own tag, if it has the mark, and then those from the next mark on
  item-marks : (position : ℕ) (own : Own) (later : List Own) → ItemRead table (item_at (items_at table level) (position + 1)) heads (position + 1) own later →
      required_from table level (first_marked (position + 1 + 1) later) ≡ required_among later →
      required_from table level (position + 1) ≡ required_among (own ∷ later)
  unfolding required_among mark
  item-marks position own later r goes = go own.required refl
    where
      behind : marked_behind (position + 1) (mark_at table (item_at (items_at table level) (position + 1))) ≡ first_marked (position + 1 + 1) later
      behind = marks_behind (position + 1) _ (first_marked (position + 1 + 1) later) own.required r.mark-read (first_marked_rises (position + 1 + 1) later)

      go : (t : Bool) → own.required ≡ t → required_from table level (position + 1) ≡ pick t (own.tag ∷ required_among later) (required_among later)
      go true t =
          let one : mark own.required ≡ 1 = ap mark t in
          all_hit table level filled (position + 1) (λ z. omega arith) r.within (omega (arith, r.mark-read, one))
          ∙ rw (r.tag_read, behind, goes)
      go false t =
          let none : mark own.required ≡ 0 = ap mark t in
          all-on table level filled (position + 1) (λ z. omega arith) r.within (λ e. omega (arith, r.mark-read, none))
          ∙ rw (behind, goes)

  -- from the first mark on, a part's marks are those of its items
  marks : (position : ℕ) (owns : List Own) → Stands table (items_at table level + 5 * position) (items_words heads (position + 1) owns) →
      required_from table level (first_marked (position + 1) owns) ≡ required_among owns
  unfolding first_marked
  marks position [] s = all_none table level filled 0 refl ∙ unfold required_among in refl
  marks position (own ∷ owns) s = go own.required refl (marks (position + 1) owns (items-behind table (items_at table level) heads position own owns s))
    where
      go : (t : Bool) → own.required ≡ t → required_from table level (first_marked (position + 1 + 1) owns) ≡ required_among owns →
          required_from table level (pick t (position + 1) (first_marked (position + 1 + 1) owns)) ≡ required_among (own ∷ owns)
      go true t goes = item-marks position own owns (item-first table (items_at table level) heads position own owns s) goes
      go false t goes = goes ∙ unfold required_among in rw t

-- ===== a part =====

unfoldable pub first_among : List Own → Option ℕ
first_among [] = None
first_among (own ∷ owns) = Some own.tag

module _ (table : List ℕ) (level : ℕ) (owns : List Own) (s : Stands table level (part_words owns)) where
  -- a level's first word says how many items it has
  count-read : get_or table level 0 ≡ length owns
  unfolding part_words
  count-read = stands_word _ s level 0 (omega arith) (omega arith)

  pub heads-read : heads_at table level ≡ heads_for (length owns)
  unfolding heads_at
  heads-read = ap heads_for count-read

  words_stand : Stands table (level + 1) (head_words (heads_for (length owns)) (heads_for (length owns)) 0 owns ++ items_words (heads_for (length owns)) 1 owns)
  unfolding part_words
  words_stand = stands-second (length owns ∷ []) _ s

  head_read : (k : ℕ) → k < heads_for (length owns) → get_or table (level + 1 + k) 0 ≡ first_under (heads_for (length owns)) k 1 owns
  head_read k h = let heads = heads_for (length owns) in
      stands_word (head_words heads heads 0 owns) (stands-first _ _ words_stand) (level + 1 + k) k refl (omega (arith, head_words-length heads heads 0 owns))
      ∙ head_word heads heads 0 owns k h
      ∙ ap (λ (head : ℕ). first_under heads head 1 owns) (omega arith)

  pub items_stand : Stands table (items_at table level + 5 * 0) (items_words (heads_for (length owns)) (0 + 1) owns)
  unfolding items_at
  items_stand = let heads = heads_for (length owns) in
      let place : level + 1 + length (head_words heads heads 0 owns) ≡ level + 1 + heads_at table level + 5 * 0 =
      omega (arith, head_words-length heads heads 0 owns, heads-read) in
      rw place at (stands-second (head_words heads heads 0 owns) (items_words heads 1 owns) words_stand)

  -- what a tag is at a level, by the list of its items
  pub item_among_lem : (tag : ℕ) → item_of table level tag ≡ item_among tag 0 owns
  unfolding item_of
  item_among_lem tag = let heads = heads_for (length owns) in
      rw (heads-read, head_read (tag % heads) (mod-lt tag (omega (arith, (heads_bounds (length owns)).0))))
      (chain table (items_at table level) heads tag 0 owns items_stand)

filled : (table : List ℕ) (level : ℕ) (own : Own) (owns : List Own) → Stands table level (part_words (own ∷ owns)) → get_or table level 0 ≡ 0 → ⊥
filled table level own owns s e = omega (arith, count-read table level (own ∷ owns) s)

first-place : (table : List ℕ) (level : ℕ) → item_at (items_at table level) 1 ≡ items_at table level
unfolding item_at
first-place table level = omega arith

pub delimiter_among : (table : List ℕ) (level : ℕ) (owns : List Own) → Stands table level (part_words owns) → delimiter_at table level ≡ first_among owns
unfolding first_among
delimiter_among table level [] s = delimiter_empty table level (count-read table level [] s)
delimiter_among table level (own ∷ owns) s =
    let r = item-first table (items_at table level) _ 0 own owns (items_stand table level (own ∷ owns) s) in
    let place = first-place table level in
    delimiter_some table level (filled table level own owns s) (omega (arith, r.within, place)) ∙ ap Some (ap (tag_at table) (sym place) ∙ r.tag_read)

pub required_among_lem : (table : List ℕ) (level : ℕ) (owns : List Own) → Stands table level (part_words owns) → required_of table level ≡ required_among owns
unfolding required_of required_among
required_among_lem table level [] s = all-empty table level (count-read table level [] s) 1
required_among_lem table level (own ∷ owns) s =
    let stand = items_stand table level (own ∷ owns) s in
    let some = filled table level own owns s in
    item-marks table level _ some 0 own owns (item-first table (items_at table level) _ 0 own owns stand)
    (marks table level _ some 1 owns (items-behind table (items_at table level) _ 0 own owns stand))
