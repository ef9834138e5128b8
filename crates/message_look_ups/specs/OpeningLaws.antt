-- What is opened is the map that a row names, and one law for each way that a look among rows goes.
use Rattle.std.specs.Prelude.{◌≡◌, refl, Bool, true, false, ℕ, ◌+◌, ◌-◌, ◌≤◌, ◌<◌, ltb}
use Rattle.std.proofs.Math.Path.{sym, ap}
use Rattle.std.proofs.Common.{◌∙◌}
use mathlib.Core.List.{List, [], ◌∷◌, ◌++◌, append_assoc, append-nil}
use native.Mathlib.Omega.{arith}
use Rattle.std.proofs.Math.Nat.{sub-zero}
use Rattle.std.proofs.Math.ListN.{length, length-append}
use borrow.Author.Tests.{ltb-true, ltb-false, lt-ltb, le-ltb, eq-eqb, ne_eqb}
use Rattle.field_rules.specs.Choice.{pick, pick_same}
use Rattle.message_maps.specs.Map.{Map, none, some}
use Rattle.message_maps.specs.Rows.{Row, row, laid, row_at, rows_from, level_of, size_of, sizes, matches, end_from, message_rows}
use Rattle.message_maps.specs.RowsLaws.{rows_step, rows_none}
use Rattle.message_lent_rules.specs.Lent.{row_count, rows_of, is_message}
use Rattle.message_lent_rules.specs.LentLaws.{message-held}
use Rattle.message_lent_rules.specs.Meaning.{parts, message_in}
use Rattle.message_lent_rules.proofs.MeaningLaws.{means}
use Rattle.message_rules.specs.RowChanges.{place_of}
use Rattle.message_rules.specs.LayoutLaws.{sizes-append, end_below}
use Rattle.message_lent_rules.specs.LaidLaws.{shallow}
use Rattle.message_rules.specs.PlaceLaws.{rows_length, rows_part}
use Rattle.message_rules.specs.CutLaws.{Sized, laid_sized}
use Rattle.message_rules.specs.LookUps.{standing, map_at}
use Rattle.message_look_ups.specs.Opening.{is_head, rows_below, opened_at, value_from, entry_from}
use Rattle.message_look_ups.specs.RowLaws.{head_in, head_within, head_past, MapSplit, MapNamed, there, nowhere}
use Rattle.message_look_ups.specs.NamedLaws.{map-named}
use Rattle.message_rules.specs.declared.FoundValue.TheVariants as value
use Rattle.message_rules.specs.declared.FoundMap.TheVariants as map
use Rattle.message_look_ups.specs.declared.Rows.{Rows}
use Rattle.message_look_ups.specs.declared.Opened.TheVariants.{NoMessage, Absent, Within}

-- one step among rows
module _ (words : List ℕ) (i to : ℕ) (more : i < to) (level : ℕ) where
  module _ (tag place : ℕ) where
    pub value_here : matches 1 level tag (row_at words i) ≡ true → value_from level tag place (rows_from (to - i) i words) ≡ value.At (record { place = place; size = size_of (row_at words i) })
    unfolding value_from
    value_here m = rw (rows_step words i to more, m)

    pub value_on : matches 1 level tag (row_at words i) ≡ false → value_from level tag place (rows_from (to - i) i words) ≡ value_from level tag (place + size_of (row_at words i)) (rows_from (to - (i + 1)) (i + 1) words)
    unfolding value_from
    value_on m = rw (rows_step words i to more, m)

  module _ (start number : ℕ) where
    pub entry_here : matches 2 level start (row_at words i) ≡ true → number ≡ 0 → entry_from level start number i (rows_from (to - i) i words) ≡ map.At i
    unfolding entry_from
    entry_here m z = rw (rows_step words i to more, m, eq-eqb _ _ z)

    pub entry_next : matches 2 level start (row_at words i) ≡ true → (number ≡ 0 → ⊥) → entry_from level start number i (rows_from (to - i) i words) ≡ entry_from level start (number - 1) (i + 1) (rows_from (to - (i + 1)) (i + 1) words)
    unfolding entry_from
    entry_next m z = rw (rows_step words i to more, m, ne_eqb _ _ z)

    pub entry-on : matches 2 level start (row_at words i) ≡ false → entry_from level start number i (rows_from (to - i) i words) ≡ entry_from level start number (i + 1) (rows_from (to - (i + 1)) (i + 1) words)
    unfolding entry_from
    entry-on m = rw (rows_step words i to more, m)

module _ (words : List ℕ) (i to : ℕ) (past : to ≤ i) (level : ℕ) where
  pub value_end : (tag place : ℕ) → value_from level tag place (rows_from (to - i) i words) ≡ value.Absent
  unfolding value_from
  value_end tag place = rw (rows_none words i to past)

  pub entry-end : (start number : ℕ) → entry_from level start number i (rows_from (to - i) i words) ≡ map.Absent
  unfolding entry_from
  entry-end start number = rw (rows_none words i to past)

-- the rows of a map that a row names
pub record Inside (head : ℕ) (rows : Rows) (words : List ℕ) (m : Map) : Type 0 where
  pub own : Map
  pub place : ℕ
  pub named : map_at head 0 m ≡ some (standing own place)
  pub from : rows.from ≡ head + 1
  pub own_rows_lem : rows_from (rows.to - rows.from) rows.from words ≡ laid rows.level own
  pub starts : place_of words rows.from ≡ place
  pub forwards : rows.from ≤ rows.to
  pub few : rows.to ≤ message_rows
  pub near : rows.level ≤ message_rows
  pub small : place ≤ 8192

place-front : (words : List ℕ) (n i : ℕ) (front behind : List Row) → rows_from n 0 words ≡ front ++ behind → i ≡ length front → place_of words i ≡ sizes front
unfolding place_of
place-front words n i front behind all e = ap sizes (rows_part words n 0 i [] front behind all refl (omega arith))

end-shallow : (l at : ℕ) (rows : List Row) → shallow l rows ≡ true → end_from l at rows ≡ at
unfolding shallow end_from
end-shallow l at [] h = refl
end-shallow l at (r ∷ rows) h = rw h

module _ (words values : List ℕ) (m : Map) (sized : Sized words values) (same : rows_of words ≡ laid 0 m) where
  all_rows : rows_from (row_count words) 0 words ≡ laid 0 m
  unfolding rows_of
  all_rows = ap (λ (n : ℕ). rows_from n 0 words) (sym (sub-zero (row_count words))) ∙ same

  module _ (head : ℕ) (s : MapSplit head 0 m) where
    head_row : row_at words head ≡ row 2 s.level s.start s.delimiter
    unfolding rows_from
    head_row =
        let one : head + 1 - head ≡ 1 = omega arith in
        let r : rows_from (head + 1 - head) head words ≡ row 2 s.level s.start s.delimiter ∷ [] =
        rows_part words (row_count words) head (head + 1) s.before (row 2 s.level s.start s.delimiter ∷ []) (laid (s.level + 1) s.own ++ s.behind) (all_rows ∙ s.rows) (sym s.place) (omega (arith, s.place)) in
        let q : row_at words head ∷ [] ≡ row 2 s.level s.start s.delimiter ∷ [] = rw one at r in
        cc

    count_is : row_count words ≡ head + 1 + length (laid (s.level + 1) s.own) + length s.behind
    count_is =
        omega (
          arith,
          rows_length (row_count words) 0 words,
          ap length (all_rows ∙ s.rows),
          s.place,
          length-append s.before (row 2 s.level s.start s.delimiter ∷ (laid (s.level + 1) s.own ++ s.behind)),
          length-append (laid (s.level + 1) s.own) s.behind,
        )

    ends_at : end_from (level_of (row_at words head)) (head + 1) (rows_from (row_count words - (head + 1)) (head + 1) words) ≡ head + 1 + length (laid (s.level + 1) s.own)
    unfolding level_of
    ends_at =
        let own = laid (s.level + 1) s.own in
        let behind : rows_from (row_count words - (head + 1)) (head + 1) words ≡ own ++ s.behind =
        rows_part words (row_count words) (head + 1) (row_count words) (s.before ++ (row 2 s.level s.start s.delimiter ∷ [])) (own ++ s.behind) []
        (all_rows ∙ s.rows ∙ simp (append_assoc, append-nil)) (simp length-append (omega (arith, s.place))) (simp length-append (omega (arith, s.place, count_is))) in
        rw (head_row, behind) (end_below s.level s.own (s.level + 1) (head + 1) s.behind (omega arith) ∙ end-shallow s.level (head + 1 + length own) s.behind s.ends)

    pub split_inside : Inside head (rows_below head words) words m
    unfolding rows_below
    split_inside =
        let own = laid (s.level + 1) s.own in
        let level : level_of (row_at words head) ≡ s.level = ap level_of head_row ∙ (unfold level_of in refl) in
        let front = s.before ++ (row 2 s.level s.start s.delimiter ∷ []) in
        let all : rows_from (row_count words) 0 words ≡ front ++ (own ++ s.behind) = all_rows ∙ s.rows ∙ simp append_assoc in
        let front_length : length front ≡ head + 1 = simp length-append (omega (arith, s.place)) in
        let front-size : sizes front ≡ length s.values-before = sizes-append s.before (row 2 s.level s.start s.delimiter ∷ []) ∙ (unfold sizes size_of in omega (arith, s.size)) in
        let zero-place : 0 + length s.values-before ≡ length s.values-before = omega arith in
        let total : sizes (rows_of words) ≡ sizes front + sizes (own ++ s.behind) = ap sizes (same ∙ sym all_rows ∙ all) ∙ sizes-append front (own ++ s.behind) in
        record {
          own = s.own;
          place = length s.values-before;
          named = s.named 0 ∙ ap (λ (n : ℕ). some (standing s.own n)) zero-place;
          from = refl;
          own_rows_lem = rw (ends_at, level) (rows_part words (row_count words) (head + 1) (head + 1 + length own) front own s.behind all (sym front_length) (omega (arith, front_length)));
          starts = place-front words (row_count words) (head + 1) front (own ++ s.behind) all (sym front_length) ∙ front-size;
          forwards = omega (arith, ends_at);
          few = omega (arith, ends_at, count_is, sized.counted);
          near = omega (arith, level, s.deep.1, count_is, sized.counted);
          small = omega (arith, total, front-size, sized.within);
        }

-- a message that is lent
module _ (words values : List ℕ) (lent : is_message words values ≡ true) where
  rows_here : rows_of words ≡ laid 0 (parts (message_in words values))
  rows_here = (means words values (message-held words values lent)).rows

  pub sized_here : Sized words values
  sized_here = laid_sized words values (message-held words values lent).laid

-- what a row opens in it
module _ (head : ℕ) (words values : List ℕ) (lent : is_message words values ≡ true) where
  pub opened_past : row_count words ≤ head → opened_at head words values ≡ Absent
  unfolding opened_at
  opened_past h = rw (lent, le-ltb _ _ h)

  pub opened-other : is_head (row_at words head) ≡ false → opened_at head words values ≡ Absent
  unfolding opened_at
  opened-other h = rw (lent, h) (pick_same (ltb head (row_count words)) Absent)

  pub opened_head : head < row_count words → is_head (row_at words head) ≡ true → opened_at head words values ≡ Within (rows_below head words)
  unfolding opened_at
  opened_head below is = rw (lent, lt-ltb _ _ below, is)

  -- a head opens the map that it names, and any other row names none
  pub data Opens : Type 0 where
    shut : opened_at head words values ≡ Absent → map_at head 0 (parts (message_in words values)) ≡ none → Opens
    opened : opened_at head words values ≡ Within (rows_below head words) → Inside head (rows_below head words) words (parts (message_in words values)) → Opens

  head_test : head_in head (laid 0 (parts (message_in words values))) ≡ pick (ltb head (row_count words)) (is_head (row_at words head)) false
  head_test = by_test (ltb head (row_count words)) refl
    where
      rows : rows_from (row_count words) 0 words ≡ laid 0 (parts (message_in words values))
      rows = all_rows words values (parts (message_in words values)) (sized_here words values lent) (rows_here words values lent)

      by_test : (b : Bool) → ltb head (row_count words) ≡ b → head_in head (laid 0 (parts (message_in words values))) ≡ pick b (is_head (row_at words head)) false
      by_test true e =
          let z : 0 + head ≡ head = omega arith in
          ap (head_in head) (sym rows) ∙ head_within head (row_count words) 0 words (ltb-true _ _ e) ∙ rw z
      by_test false e =
          let past = ltb-false head (row_count words) e in
          ap (head_in head) (sym rows) ∙ head_past head (rows_from (row_count words) 0 words) (omega (arith, rows_length (row_count words) 0 words))

  pub opens : Opens
  opens = by_named (map-named head 0 (parts (message_in words values)))
    where
      by_tests : (b f : Bool) → ltb head (row_count words) ≡ b → is_head (row_at words head) ≡ f → pick b f false ≡ false → opened_at head words values ≡ Absent
      by_tests true true e g h = let z : ◌≡◌ {A = ℕ} 0 1 = cc in absurd (omega arith)
      by_tests true false e g h = opened-other g
      by_tests false f e g h = opened_past (ltb-false _ _ e)

      by_named : MapNamed head 0 (parts (message_in words values)) → Opens
      by_named (nowhere off f) = shut (by_tests _ _ refl refl (sym head_test ∙ off)) (f 0)
      by_named (there s) =
          let m = parts (message_in words values) in
          let sized = sized_here words values lent in
          let rows = rows_here words values lent in
          let below : head < row_count words = omega (arith, count_is words values m sized rows head s) in
          let is : is_head (row_at words head) ≡ true = ap is_head (head_row words values m sized rows head s) ∙ (unfold is_head in refl) in
          opened (opened_head below is) (split_inside words values m sized rows head s)

  pub level_near : head < row_count words → is_head (row_at words head) ≡ true → level_of (row_at words head) + 1 ≤ message_rows
  level_near below is = by_opens opens
    where
      by_opens : Opens → level_of (row_at words head) + 1 ≤ message_rows
      by_opens (shut e f) = let q = sym e ∙ opened_head below is in let z : ◌≡◌ {A = ℕ} 0 1 = cc in absurd (omega arith)
      by_opens (opened e i) = unfold rows_below in i.near

pub opened_no : (head : ℕ) (words values : List ℕ) → is_message words values ≡ false → opened_at head words values ≡ NoMessage
unfolding opened_at
opened_no head words values h = rw h
