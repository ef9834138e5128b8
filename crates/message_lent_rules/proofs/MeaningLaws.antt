-- What is lent and passes the check is the layout of the message that it means. By induction over the rows: the maps that are open after
-- the rows from one on have these rows and these values, and are no deeper than that row may stand.
use Rattle.std.specs.Prelude.{◌≡◌, ◌⊎◌, Bool, true, false, ℕ, zero, suc, ◌+◌, ◌-◌, ◌*◌, ◌≤◌, ◌<◌, get_or, take, eqb}
use Rattle.std.proofs.Math.Path.{refl, sym, ap}
use Rattle.std.proofs.Common.{◌∙◌, inl, inr, arith, length-drop, take-append-drop, take-add, length-take-le, drop-cons, eqb-true, leb-true, ne_eqb}
use mathlib.Core.List.{List, [], ◌∷◌, ◌++◌, append_assoc, append-nil}
use Rattle.std.proofs.Math.Nat.{sub-zero}
use Rattle.std.proofs.Math.ListN.{length, drop}
use Rattle.field_rules.specs.Choice.{pick}
use Rattle.message_maps.specs.Map.{Map, end, field, entry, values_in}
use Rattle.message_maps.specs.Rows.{Row, row, laid, flat, row_at, rows_from, level_of, size_of, sizes, matches, message_words, message_rows}
use Rattle.message_lent_rules.specs.Lent.{deepest, field_allowed, head_allowed, row_allowed, rows_allowed, delimiter_is, is_part, next_part, parts_from, row_count, rows_of}
use Rattle.message_lent_rules.specs.LentLaws.{both, Laid, Held}
use Rattle.message_lent_rules.specs.Meaning.{Message, parts, LaysOut, opened, with_field, with_entry, with_row, open_in, outermost, third_of, second_of, parts_in, message_in}

-- the rows and the values of what is open, the deepest first
unfoldable pub open_rows : List Map → List Row
open_rows [] = []
open_rows (m ∷ maps) = laid (length maps) m ++ open_rows maps

unfoldable pub open_values : List Map → List ℕ
open_values [] = []
open_values (m ∷ maps) = values_in m ++ open_values maps

opened_rows : (n : ℕ) (maps : List Map) → open_rows (opened n maps) ≡ open_rows maps
unfolding opened open_rows laid
opened_rows zero maps = refl
opened_rows (suc n) maps = opened_rows n maps

opened-values : (n : ℕ) (maps : List Map) → open_values (opened n maps) ≡ open_values maps
unfolding opened open_values values_in
opened-values zero maps = refl
opened-values (suc n) maps = opened-values n maps

pub opened-length : (n : ℕ) (maps : List Map) → length (opened n maps) ≡ n + length maps
unfolding opened
opened-length zero maps = omega arith
opened-length (suc n) maps = omega (arith, opened-length n maps)

-- a field in front of what is open at its level
field-front : (l t : ℕ) (value : List ℕ) (maps : List Map) → length maps ≡ l + 1
    → (length (with_field t value maps) ≡ l + 1) × (open_rows (with_field t value maps) ≡ row 1 l t (length value) ∷ open_rows maps) × (open_values (with_field t value maps) ≡ value ++ open_values maps)
unfolding with_field open_rows open_values laid values_in
field-front l t value [] h = absurd (omega arith)
field-front l t value (m ∷ maps) h =
    let e : length maps ≡ l = omega arith in
    (omega arith, rw e, append_assoc value (values_in m) (open_values maps))

entry-front : (l s d : ℕ) (maps : List Map) → length maps ≡ l + 2
    → (length (with_entry s d maps) ≡ l + 1) × (open_rows (with_entry s d maps) ≡ row 2 l s d ∷ open_rows maps) × (open_values (with_entry s d maps) ≡ open_values maps)
unfolding with_entry open_rows open_values laid values_in
entry-front l s d [] h = absurd (omega arith)
entry-front l s d (own ∷ []) h = absurd (omega arith)
entry-front l s d (own ∷ rest ∷ maps) h =
    let e : length maps ≡ l = omega arith in
    let f : suc (length maps) ≡ l + 1 = omega arith in
    (omega arith, rw (f, e) (ap (λ (r : List Row). row 2 l s d ∷ r) (append_assoc (laid (l + 1) own) (laid l rest) (open_rows maps))), append_assoc (values_in own) (values_in rest) (open_values maps))

-- what an allowed row is
pub row_kind : (before : List Row) (k l t x : ℕ) → row_allowed before (row k l t x) ≡ true → (l ≤ deepest before) × ((k ≡ 1) ⊎ (k ≡ 2))
unfolding row_allowed
row_kind before k l t x h =
    let a = both _ _ h in
    (leb-true _ _ a.0, by_kind (eqb k 1) (eqb k 2) refl refl a.1)
  where
    by_kind : (f g : Bool) → eqb k 1 ≡ f → eqb k 2 ≡ g → pick f (field_allowed before l t) (pick g (head_allowed before l t x) false) ≡ true → (k ≡ 1) ⊎ (k ≡ 2)
    by_kind true g p q e = inl (eqb-true k 1 p)
    by_kind false true p q e = inr (eqb-true k 2 q)
    by_kind false false p q e = let z : ◌≡◌ {A = ℕ} 0 1 = cc in absurd (omega arith)

pub record Opened (before rows : List Row) (values : List ℕ) : Type 0 where
  pub some : 1 ≤ length (open_in rows values)
  pub high : length (open_in rows values) ≤ deepest before + 1
  pub same_rows : open_rows (open_in rows values) ≡ rows
  pub same-values : open_values (open_in rows values) ≡ take (sizes rows) values

open_field : (before rows : List Row) (l t x : ℕ) (values : List ℕ) → l ≤ deepest before → x + sizes rows ≤ length values
    → Opened (row 1 l t x ∷ before) rows (drop x values) → Opened before (row 1 l t x ∷ rows) values
unfolding open_in with_row size_of sizes deepest
open_field before rows l t x values deep room o =
    let maps = open_in rows (drop x values) in
    let up = opened (l + 1 - length maps) maps in
    let f = field-front l t (take x values) up (omega (arith, opened-length (l + 1 - length maps) maps, o.high)) in
    let n : length (take x values) ≡ x = length-take-le x values (omega arith) in
    record {
      some = omega (arith, f.0);
      high = omega (arith, f.0);
      same_rows = f.1 ∙ rw (n, opened_rows, o.same_rows);
      same-values = f.2 ∙ rw (opened-values, o.same-values, take-add);
    }

open_entry : (before rows : List Row) (l s d : ℕ) (values : List ℕ) → l ≤ deepest before
    → Opened (row 2 l s d ∷ before) rows (drop 0 values) → Opened before (row 2 l s d ∷ rows) values
unfolding open_in with_row size_of sizes deepest
open_entry before rows l s d values deep o =
    let maps = open_in rows (drop 0 values) in
    let up = opened (l + 2 - length maps) maps in
    let f = entry-front l s d up (omega (arith, opened-length (l + 2 - length maps) maps, o.high)) in
    let n : 0 + sizes rows ≡ sizes rows = omega arith in
    record {
      some = omega (arith, f.0);
      high = omega (arith, f.0);
      same_rows = f.1 ∙ rw (opened_rows, o.same_rows);
      same-values = f.2 ∙ rw (opened-values, o.same-values, n);
    }

pub open_all : (before rows : List Row) (values : List ℕ) → rows_allowed before rows ≡ true → sizes rows ≤ length values → Opened before rows values
unfolding rows_allowed sizes size_of
open_all before [] values a room = unfold open_in open_rows open_values laid values_in in
    record { some = omega arith; high = omega arith; same_rows = refl; same-values = refl }
open_all before (row k l t x ∷ rows) values a room =
    let h = both _ _ a in
    let w = row_kind before k l t x h.0 in
    by_kind w (λ size. open_all (row k l t x ∷ before) rows (drop size values) h.1)
  where
    by_kind : (l ≤ deepest before) × ((k ≡ 1) ⊎ (k ≡ 2))
        → ((size : ℕ) → sizes rows ≤ length (drop size values) → Opened (row k l t x ∷ before) rows (drop size values))
        → Opened before (row k l t x ∷ rows) values
    by_kind (deep, inl e) again =
        let r : x + sizes rows ≤ length values = rw e at room in
        rw e (open_field before rows l t x values deep r (rw e at (again x (omega (arith, length-drop x values)))))
    by_kind (deep, inr e) again =
        let r : sizes rows ≤ length values = omega (arith, rw e at room) in
        rw e (open_entry before rows l t x values deep (rw e at (again 0 r)))

-- the rows below a part change nothing about the parts
pub parts_below : (m : Map) (l p : ℕ) (rest : List Row) → (p ≡ 0 → ⊥) → parts_from p (laid (l + 1) m ++ rest) ≡ parts_from p rest
unfolding laid parts_from next_part level_of
parts_below end l p rest some = refl
parts_below (field t v more) l p rest some =
    let e : eqb (l + 1) 0 ≡ false = ne_eqb (l + 1) 0 (λ h. omega arith) in
    rw (e, ne_eqb _ _ some) (parts_below more l p rest some)
parts_below (entry s d own more) l p rest some =
    let e : eqb (l + 1) 0 ≡ false = ne_eqb (l + 1) 0 (λ h. omega arith) in
    rw (e, ne_eqb _ _ some)
    (ap (parts_from p) (append_assoc (laid (l + 1 + 1) own) (laid (l + 1) more) rest)
    ∙ parts_below own (l + 1) p (laid (l + 1) more ++ rest) some
    ∙ parts_below more l p rest some)

-- the part that comes next
pub data NextPart (p : ℕ) (m : Map) : Type 0 where
  no_more : p ≡ 4 → m ≡ end → NextPart p m
  one_more : (own rest : Map) → m ≡ entry p 0 own rest → parts_from (p + 1) (laid 0 rest) ≡ true → NextPart p m

part-next : (p : ℕ) (m : Map) → (p ≡ 0 → ⊥) → parts_from p (laid 0 m) ≡ true → NextPart p m
unfolding laid parts_from next_part level_of is_part matches delimiter_is
part-next p end some h = no_more (eqb-true p 4 h) refl
part-next p (field t v more) some h = let z : ◌≡◌ {A = ℕ} 0 1 = cc in absurd (omega arith)
part-next p (entry s d own more) some h = by_tests (eqb s p) (eqb d 0) refl refl h
  where
    by_tests : (f g : Bool) → eqb s p ≡ f → eqb d 0 ≡ g
        → pick (eqb (pick (pick f g false) (p + 1) 0) 0) false (parts_from (pick (pick f g false) (p + 1) 0) (laid 1 own ++ laid 0 more)) ≡ true
        → NextPart p (entry s d own more)
    by_tests true true f g e =
        let n : eqb (p + 1) 0 ≡ false = ne_eqb (p + 1) 0 (λ q. omega arith) in
        one_more own more (rw (eqb-true s p f, eqb-true d 0 g))
        (sym (parts_below own 0 (p + 1) (laid 0 more) (λ q. omega arith)) ∙ rw n at e)
    by_tests true false f g e = let z : ◌≡◌ {A = ℕ} 0 1 = cc in absurd (omega arith)
    by_tests false g f q e = let z : ◌≡◌ {A = ℕ} 0 1 = cc in absurd (omega arith)

-- there is no fifth part
no_part : (m : Map) (p : ℕ) → 4 < p → parts_from p (laid 0 m) ≡ true → ⊥
unfolding laid parts_from next_part level_of is_part matches delimiter_is
no_part end p past h = let e = eqb-true p 4 h in omega arith
no_part (field t v more) p past h = let z : ◌≡◌ {A = ℕ} 0 1 = cc in omega arith
no_part (entry s d own more) p past h =
    by_next (part-next p (entry s d own more) (λ e. omega arith) h) (λ q. no_part more (p + 1) (omega arith) q)
  where
    by_next : NextPart p (entry s d own more) → (parts_from (p + 1) (laid 0 more) ≡ true → ⊥) → ⊥
    by_next (no_more e q) again = omega arith
    by_next (one_more o rest e q) again = let z : rest ≡ more = cc in again (rw z at q)

pub parts-of : (m : Map) → parts_from 1 (laid 0 m) ≡ true → m ≡ parts (parts_in m)
unfolding parts parts_in second_of third_of
parts-of m h = first (part-next 1 m (λ e. omega arith) h)
  where
    third : (h b rest : Map) → NextPart 3 rest → entry 1 0 h (entry 2 0 b rest) ≡ parts (parts_in (entry 1 0 h (entry 2 0 b rest)))
    third h b rest (no_more e q) = absurd (omega arith)
    third h b rest (one_more t more e q) = fourth h b t more rest e (part-next 4 more (λ z. omega arith) q)
      where
        fourth : (h b t more rest : Map) → rest ≡ entry 3 0 t more → NextPart 4 more → entry 1 0 h (entry 2 0 b rest) ≡ parts (parts_in (entry 1 0 h (entry 2 0 b rest)))
        fourth h b t more rest e (no_more q z) = rw (e, z)
        fourth h b t more rest e (one_more own last q z) = absurd (no_part last 5 (omega arith) z)

    second : (h rest : Map) → NextPart 2 rest → entry 1 0 h rest ≡ parts (parts_in (entry 1 0 h rest))
    second h rest (no_more e q) = absurd (omega arith)
    second h rest (one_more b more e q) = rw e (third h b more (part-next 3 more (λ z. omega arith) q))

    first : NextPart 1 m → m ≡ parts (parts_in m)
    first (no_more e q) = absurd (omega arith)
    first (one_more own rest e q) = rw e (second own rest (part-next 2 rest (λ z. omega arith) q))

-- the flat words of rows
pub flat-length : (rows : List Row) → length (flat rows) ≡ 4 * length rows
unfolding flat
flat-length [] = refl
flat-length (row k l t x ∷ rows) = omega (arith, flat-length rows)

pub flat_append : (a b : List Row) → flat (a ++ b) ≡ flat a ++ flat b
unfolding flat
flat_append [] b = refl
flat_append (row k l t x ∷ a) b = rw (flat_append a b)

word_next : (words : List ℕ) (i j : ℕ) → suc i ≡ j → i < length words → drop i words ≡ get_or words i 0 ∷ drop j words
word_next words i j e h = drop-cons words i 0 h ∙ ap (λ (n : ℕ). get_or words i 0 ∷ drop n words) e

pub rows_flat : (n i : ℕ) (words : List ℕ) → 4 * (i + n) + 1 ≤ length words → flat (rows_from n i words) ≡ take (4 * n) (drop (4 * i + 1) words)
unfolding flat rows_from row_at
rows_flat zero i words h = refl
rows_flat (suc n) i words h =
    let four : 4 * suc n ≡ suc (suc (suc (suc (4 * n)))) = omega arith in
    let a = word_next words (4 * i + 1) (4 * i + 2) (omega arith) (omega arith) in
    let b = word_next words (4 * i + 2) (4 * i + 3) (omega arith) (omega arith) in
    let c = word_next words (4 * i + 3) (4 * i + 4) (omega arith) (omega arith) in
    let d = word_next words (4 * i + 4) (4 * (i + 1) + 1) (omega arith) (omega arith) in
    rw (four, a, b, c, d, rows_flat n (i + 1) words (omega arith))

pub rows_length : (n i : ℕ) (words : List ℕ) → length (rows_from n i words) ≡ n
unfolding rows_from
rows_length zero i words = refl
rows_length (suc n) i words = ap suc (rows_length n (i + 1) words)

-- the words that hold rows
pub words_hold : (words : List ℕ) → length words ≡ message_words → row_count words ≤ message_rows → words ≡ row_count words ∷ (flat (rows_of words) ++ drop (4 * row_count words) (drop 1 words))
unfolding rows_of row_count
words_hold words whole counted =
    let n = get_or words 0 0 in
    let z : n - 0 ≡ n = sub-zero n in
    let f : flat (rows_from (n - 0) 0 words) ≡ take (4 * n) (drop 1 words) = rw z (rows_flat n 0 words (omega arith)) in
    drop-cons words 0 0 (omega arith) ∙ ap (λ (t : List ℕ). n ∷ t) (sym (take-append-drop (4 * n) (drop 1 words)) ∙ rw f)

-- the message that is lent has the rows and the values that are lent
pub record Means (words values : List ℕ) (m : Message) : Type 0 where
  pub rows : rows_of words ≡ laid 0 (parts m)
  pub texts : take (sizes (rows_of words)) values ≡ values_in (parts m)

outermost_only : (maps : List Map) (rows : List Row) (values : List ℕ) → 1 ≤ length maps → length maps ≤ 1 → open_rows maps ≡ rows → open_values maps ≡ values
    → (laid 0 (outermost maps) ≡ rows) × (values_in (outermost maps) ≡ values)
unfolding outermost open_rows open_values
outermost_only [] rows values some one r v = absurd (omega arith)
outermost_only (m ∷ []) rows values some one r v = (sym (append-nil (laid 0 m)) ∙ r, sym (append-nil (values_in m)) ∙ v)
outermost_only (m ∷ n ∷ maps) rows values some one r v = absurd (omega arith)

-- what is laid out has the rows and the values of the map that it means
pub laid_means : (words values : List ℕ) → Laid words values
    → (rows_of words ≡ laid 0 (outermost (open_in (rows_of words) values))) × (take (sizes (rows_of words)) values ≡ values_in (outermost (open_in (rows_of words) values)))
unfolding deepest
laid_means words values l =
    let o = open_all [] (rows_of words) values l.allowed (omega (arith, l.within, l.store)) in
    let u = outermost_only (open_in (rows_of words) values) _ _ o.some o.high o.same_rows o.same-values in
    (sym u.0, sym u.1)

-- and lays it out
pub lent_laid : (words values : List ℕ) → Laid words values → LaysOut (outermost (open_in (rows_of words) values)) words values
lent_laid words values l =
    let m = laid_means words values l in
    let n : row_count words ≡ length (rows_of words) = unfold rows_of in sym (rows_length (row_count words - 0) 0 words ∙ sub-zero (row_count words)) in
    record {
      words_lent = l.whole;
      values-lent = l.store;
      behind_rows = drop (4 * row_count words) (drop 1 words);
      rows_first = words_hold words l.whole l.counted
          ∙ ap (λ (c : ℕ). c ∷ (flat (rows_of words) ++ drop (4 * row_count words) (drop 1 words))) n
          ∙ ap (λ (r : List Row). length r ∷ (flat r ++ drop (4 * row_count words) (drop 1 words))) m.0;
      behind-values = drop (sizes (rows_of words)) values;
      values-first = sym (take-append-drop (sizes (rows_of words)) values) ∙ ap (λ (t : List ℕ). t ++ drop (sizes (rows_of words)) values) m.1;
    }

pub means : (words values : List ℕ) → Held words values → Means words values (message_in words values)
unfolding message_in
means words values h =
    let u = laid_means words values h.laid in
    let p = parts-of (outermost (open_in (rows_of words) values)) (rw (← u.0) h.parts) in
    record { rows = u.0 ∙ ap (laid 0) p; texts = u.1 ∙ ap values_in p }

-- two lent layouts of one message are the same layout: the same rows, and the same values. What stands past them is no part of it.
pub same_layout : (words values words' values' : List ℕ) → Held words values → Held words' values' → message_in words values ≡ message_in words' values'
    → (rows_of words ≡ rows_of words') × (take (sizes (rows_of words)) values ≡ take (sizes (rows_of words')) values')
same_layout words values words' values' h h' e =
    let a = means words values h in
    let b = means words' values' h' in (
      a.rows ∙ ap (λ (m : Message). laid 0 (parts m)) e ∙ sym b.rows,
      a.texts ∙ ap (λ (m : Message). values_in (parts m)) e ∙ sym b.texts,
    )
