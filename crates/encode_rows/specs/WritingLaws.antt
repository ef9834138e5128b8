-- The steps by which rows are written, and what they come to for the rows of a map.
use Rattle.std.specs.Prelude.{◌≡◌, refl, Bool, true, false, ℕ, ◌+◌, ◌-◌, ◌≤◌, ◌<◌, length, take, drop, Some, None}
use Rattle.std.proofs.Common.{sym, ap, ◌∙◌, length-append, take-append-drop, take_at, drop_at, drop-drop, length-take-le}
use mathlib.Core.List.{List, [], ◌∷◌, ◌++◌, append_assoc}
use native.Mathlib.Omega.{arith}
use borrow.Author.Tests.{eq-eqb, ne_eqb}
use Rattle.field_rules.specs.Choice.{pick, pick_same}
use Rattle.field_rules.specs.Decimal.{decimal, written_at, answer_at}
use Rattle.field_rules.proofs.DecimalLaws.{written_fits, written-length, written_copied, answer_fits}
use Rattle.field_rules.specs.Field.{field_bytes}
use Rattle.message_maps.specs.Map.{Map, end, field, entry, values_in}
use Rattle.message_maps.specs.Rows.{Row, row, laid, row_at, rows_from, size_of, sizes}
use Rattle.message_maps.specs.RowsLaws.{rows_step, rows_none}
use Rattle.message_rules.specs.RowChanges.{place_of}
use Rattle.message_rules.specs.LayoutLaws.{sizes-append}
use Rattle.message_rules.specs.PlaceLaws.{rows_split, place_grows}
use Rattle.encode_rules.specs.Encoding.{text, text_under, bytes_of}
use Rattle.encode_rows.specs.Writing.{chosen, row_on, row_text, rows_text, row_bytes, bytes_in}

module _ (words : List ℕ) (i to : ℕ) (more : i < to) where
  pub text-on : (which separator : ℕ) (on : Bool) (values : List ℕ)
      → rows_text which separator on (rows_from (to - i) i words) values
      ≡ row_text separator (row_on which on (row_at words i)) (row_at words i) values
      ++ rows_text which separator (row_on which on (row_at words i)) (rows_from (to - (i + 1)) (i + 1) words) (drop (size_of (row_at words i)) values)
  unfolding rows_text
  text-on which separator on values = rw (rows_step words i to more)

  pub bytes_on : bytes_in (rows_from (to - i) i words) ≡ row_bytes (row_at words i) + bytes_in (rows_from (to - (i + 1)) (i + 1) words)
  unfolding bytes_in
  bytes_on = rw (rows_step words i to more)

module _ (words : List ℕ) (i to : ℕ) (past : to ≤ i) where
  pub text-end : (which separator : ℕ) (on : Bool) (values : List ℕ) → rows_text which separator on (rows_from (to - i) i words) values ≡ []
  unfolding rows_text
  text-end which separator on values = rw (rows_none words i to past)

  pub bytes-end : bytes_in (rows_from (to - i) i words) ≡ 0
  unfolding bytes_in
  bytes-end = rw (rows_none words i to past)

-- what is written behind what was written
pub written_twice : (at : ℕ) (a b output : List ℕ) → at + length (a ++ b) ≤ length output
    → written_at (at + length a) b (written_at at a output) ≡ written_at at (a ++ b) output
written_twice at a b output h =
    let n = at + length a in
    let d = drop n output in
    let room : at + (length a + length b) ≤ length output = rw length-append at h in
    let front : List ℕ = take at output ++ a in
    let front_length : length front ≡ n = length-append (take at output) a ∙ (let e = length-take-le at output (omega arith) in rw e) in
    let whole : written_at at a output ≡ front ++ d = written_fits at a output (omega arith) ∙ sym (append_assoc (take at output) a d) in
    let size : length (front ++ d) ≡ length output = ap length (sym whole) ∙ written-length at a output in
    let behind : n + length b ≡ at + length (a ++ b) = omega (arith, length-append a b) in
    ap (written_at n b) whole
    ∙ written_fits n b (front ++ d) (omega arith)
    ∙ rw (take_at front d n front_length, ← drop-drop (length b) n (front ++ d), drop_at front d n front_length, drop-drop (length b) n output, behind)
    (simp append_assoc)
    ∙ sym (written_fits at (a ++ b) output h)

pub written_none : (at : ℕ) (output : List ℕ) → at ≤ length output → written_at at [] output ≡ output
written_none at output h =
    let e : at + 0 ≡ at = omega arith in
    written_fits at [] output (omega arith) ∙ rw e (take-append-drop at output)

-- where a number has room it is written
pub next_is : (at n : ℕ) (digits output : List ℕ) → at + length digits ≤ length output → answer_at at digits output ≡ Some n → n ≡ at + length digits
next_is at n digits output room h = let e = answer_fits at digits output room in cc

pub never_full : (at : ℕ) (digits output : List ℕ) → at + length digits ≤ length output → answer_at at digits output ≡ None → ⊥
never_full at digits output room h = let e = answer_fits at digits output room in let z : ◌≡◌ {A = ℕ} 0 1 = cc in omega arith

-- the four pieces of a field
pub field-written : (at separator : ℕ) (tag value output one two three four : List ℕ) (digits place stop : ℕ)
    → at + (length tag + length value + 2) ≤ length output
    → digits ≡ at + length tag → one ≡ written_at at tag output → place ≡ digits + 1 → two ≡ written_at digits (61 ∷ []) one
    → stop ≡ place + length value → three ≡ written_at place value two → four ≡ written_at stop (separator ∷ []) three
    → four ≡ written_at at (field_bytes separator tag value) output
field-written at separator tag value output one two three four digits place stop room d o p t s r f =
    let a = tag ++ (61 ∷ []) in
    let b = a ++ value in
    let la : length a ≡ length tag + 1 = length-append tag (61 ∷ []) in
    let lb : length b ≡ length tag + 1 + length value = length-append a value ∙ rw la in
    let lc : length (b ++ (separator ∷ [])) ≡ length tag + 1 + length value + 1 = length-append b (separator ∷ []) ∙ rw lb in
    let two' : two ≡ written_at at a output = t ∙ rw (d, o) (written_twice at tag (61 ∷ []) output (omega arith)) in
    let e : place ≡ at + length a = omega arith in
    let three' : three ≡ written_at at b output = r ∙ rw (e, two') (written_twice at a value output (omega arith)) in
    let g : stop ≡ at + length b = omega arith in
    let four' : four ≡ written_at at (b ++ (separator ∷ [])) output = f ∙ rw (g, three') (written_twice at b (separator ∷ []) output (omega arith)) in
    let same : b ++ (separator ∷ []) ≡ field_bytes separator tag value = simp append_assoc in
    four' ∙ ap (λ (w : List ℕ). written_at at w output) same

-- what `copy` leaves of `&mut output[at..]`, put back
pub bytes-written : (at : ℕ) (text output copied : List ℕ) → at + length text ≤ length output
    → copied ≡ take (length text) text ++ drop (length text) (take (length output - at) (drop at output))
    → take at output ++ (copied ++ drop (length output - at) (drop at output)) ≡ written_at at text output
bytes-written at text output copied room e = written_copied at text output copied room e

-- below the level of a map, rows are written as what they hang on
text-below : (which separator : ℕ) (on : Bool) (m : Map) (l : ℕ) (rest : List Row) (values : List ℕ) → 1 < l
    → rows_text which separator on (laid l m ++ rest) (values_in m ++ values) ≡ pick on (text separator m) [] ++ rows_text which separator on rest values
unfolding laid values_in text rows_text row_text row_on size_of
text-below which separator on end l rest values h = ap (λ (t : List ℕ). t ++ rows_text which separator on rest values) (sym (pick_same {A = List ℕ} on []))
text-below which separator on (field t v more) l rest values h =
    rw (
      ne_eqb l 1 (λ e. omega arith),
      append_assoc v (values_in more) values,
      take_at v (values_in more ++ values) (length v) refl,
      drop_at v (values_in more ++ values) (length v) refl,
      text-below which separator on more l rest values h,
    )
    (by_on on)
  where
    by_on : (b : Bool)
        → pick b (field_bytes separator (decimal t) v) [] ++ (pick b (text separator more) [] ++ rows_text which separator on rest values)
        ≡ pick b (field_bytes separator (decimal t) v ++ text separator more) [] ++ rows_text which separator on rest values
    by_on true = sym (append_assoc (field_bytes separator (decimal t) v) (text separator more) (rows_text which separator on rest values))
    by_on false = refl
text-below which separator on (entry s d own more) l rest values h =
    rw (
      ne_eqb l 1 (λ e. omega arith),
      pick_same {A = List ℕ} on [],
      append_assoc (laid (l + 1) own) (laid l more) rest,
      append_assoc (values_in own) (values_in more) values,
      text-below which separator on own (l + 1) (laid l more ++ rest) (values_in more ++ values) (omega arith),
      text-below which separator on more l rest values h,
    )
    (by_on on)
  where
    by_on : (b : Bool)
        → pick b (text separator own) [] ++ (pick b (text separator more) [] ++ rows_text which separator on rest values)
        ≡ pick b (text separator own ++ text separator more) [] ++ rows_text which separator on rest values
    by_on true = sym (append_assoc (text separator own) (text separator more) (rows_text which separator on rest values))
    by_on false = refl

-- a map's rows, written, are what it has under the chosen tags
pub text-laid : (which separator : ℕ) (on : Bool) (m : Map) (values : List ℕ)
    → rows_text which separator on (laid 1 m) (values_in m ++ values) ≡ text_under (chosen which) separator m
unfolding laid values_in text_under rows_text row_text row_on size_of
text-laid which separator on end values = refl
text-laid which separator on (field t v more) values =
    rw (
      append_assoc v (values_in more) values,
      take_at v (values_in more ++ values) (length v) refl,
      drop_at v (values_in more ++ values) (length v) refl,
      text-laid which separator (chosen which t) more values,
    )
text-laid which separator on (entry s d own more) values =
    rw (
      pick_same {A = List ℕ} (chosen which s) [],
      append_assoc (values_in own) (values_in more) values,
      text-below which separator (chosen which s) own 2 (laid 1 more) (values_in more ++ values) (omega arith),
      text-laid which separator (chosen which s) more values,
    )

pub bytes-append : (a b : List Row) → bytes_in (a ++ b) ≡ bytes_in a + bytes_in b
unfolding bytes_in
bytes-append [] b = omega arith
bytes-append (r ∷ a) b = omega (arith, bytes-append a b)

pub bytes-laid : (l : ℕ) (m : Map) → bytes_in (laid l m) ≡ bytes_of m
unfolding laid bytes_in row_bytes bytes_of
bytes-laid l end = refl
bytes-laid l (field t v more) = omega (arith, bytes-laid l more)
bytes-laid l (entry s d own more) = omega (arith, bytes-append (laid (l + 1) own) (laid l more), bytes-laid (l + 1) own, bytes-laid l more)

pub text-length : (separator : ℕ) (m : Map) → length (text separator m) ≡ bytes_of m
unfolding text bytes_of
text-length separator end = refl
text-length separator (field t v more) =
    omega (
      arith,
      length-append (field_bytes separator (decimal t) v) (text separator more),
      length-append (decimal t) (61 ∷ (v ++ (separator ∷ []))),
      length-append v (separator ∷ []),
      text-length separator more,
    )
text-length separator (entry s d own more) =
    omega (arith, length-append (text separator own) (text separator more), text-length separator own, text-length separator more)

-- the place of a value, one row further
pub place-step : (words : List ℕ) (i : ℕ) → place_of words (i + 1) ≡ place_of words i + size_of (row_at words i)
unfolding place_of
place-step words i =
    let e : i + 1 - 0 ≡ i + 1 = omega arith in
    let f : i - 0 ≡ i = omega arith in
    let g : 0 + i ≡ i = omega arith in
    rw (e, f) (ap sizes (rows_split i 1 0 words) ∙ sizes-append (rows_from i 0 words) (rows_from 1 (0 + i) words) ∙ rw g (one_row (rows_from i 0 words)))
  where
    one_row : (rows : List Row) → sizes rows + sizes (rows_from 1 i words) ≡ sizes rows + size_of (row_at words i)
    one_row rows = unfold rows_from sizes in omega arith

-- what is written of a row
module _ (separator k l t x : ℕ) (values : List ℕ) where
  pub row_off : (on : Bool) → on ≡ false → row_text separator on (row k l t x) values ≡ []
  unfolding row_text
  row_off on e = rw e

  pub row_head : (on : Bool) → (k ≡ 1 → ⊥) → row_text separator on (row k l t x) values ≡ []
  unfolding row_text
  row_head on e = rw (ne_eqb k 1 e, pick_same {A = List ℕ} on [])

  pub row_field : (on : Bool) → on ≡ true → k ≡ 1 → row_text separator on (row k l t x) values ≡ field_bytes separator (decimal t) (take x values)
  unfolding row_text
  row_field on e f = rw (e, eq-eqb k 1 f)

pub row-size : (k l t x : ℕ) → k ≡ 1 → size_of (row k l t x) ≡ x
unfolding size_of
row-size k l t x e = rw (eq-eqb k 1 e)

pub field-length : (separator : ℕ) (tag value : List ℕ) → length (field_bytes separator tag value) ≡ length tag + length value + 2
field-length separator tag value = length-append tag (61 ∷ (value ++ (separator ∷ []))) ∙ omega (arith, length-append value (separator ∷ []))

-- what is left to write, on what is written so far, is the whole
pub record Going (words values : List ℕ) (to which separator : ℕ) (all start : List ℕ) (first : ℕ) (output : List ℕ) (next place : ℕ) (on : Bool)
    (i : ℕ) : Type 0 where
  pub within : i ≤ to
  pub same_place : place ≡ place_of words i
  pub same : written_at first all start ≡ written_at next (rows_text which separator on (rows_from (to - i) i words) (drop place values)) output
  pub ends : next + length (rows_text which separator on (rows_from (to - i) i words) (drop place values)) ≡ first + length all
  pub size : length output ≡ length start

pub going_on : (words values : List ℕ) (to which separator : ℕ) (all start : List ℕ) (first : ℕ) (output : List ℕ) (next place : ℕ) (on : Bool) (i : ℕ)
    → first + length all ≤ length start → i < to → Going words values to which separator all start first output next place on i
    → (on' : Bool) (output' : List ℕ) (next' place' : ℕ) → on' ≡ row_on which on (row_at words i)
    → next' ≡ next + length (row_text separator on' (row_at words i) (drop place values))
    → output' ≡ written_at next (row_text separator on' (row_at words i) (drop place values)) output → place' ≡ place + size_of (row_at words i)
    → Going words values to which separator all start first output' next' place' on' (i + 1)
going_on words values to which separator all start first output next place on i room more g on' output' next' place' o n w p =
    let r = row_text separator on' (row_at words i) (drop place values) in
    let rest = rows_text which separator on' (rows_from (to - (i + 1)) (i + 1) words) (drop place' values) in
    let step : rows_text which separator on (rows_from (to - i) i words) (drop place values) ≡ r ++ rest =
    text-on words i to more which separator on (drop place values) ∙ rw (← o, drop-drop (size_of (row_at words i)) place values, ← p) in
    let total : next + length (r ++ rest) ≡ first + length all = rw step at g.ends in
    record {
      within = omega arith;
      same_place = p ∙ rw g.same_place (sym (place-step words i));
      same = g.same ∙ rw (step, w, n) (sym (written_twice next r rest output (omega (arith, total, g.size))));
      ends = omega (arith, total, length-append r rest);
      size = ap length w ∙ written-length next r output ∙ g.size;
    }

pub going_done : (words values : List ℕ) (to which separator : ℕ) (all start : List ℕ) (first : ℕ) (output : List ℕ) (next place : ℕ) (on : Bool) (i : ℕ)
    → first + length all ≤ length start → to ≤ i → Going words values to which separator all start first output next place on i
    → (next ≡ first + length all) × (output ≡ written_at first all start)
going_done words values to which separator all start first output next place on i room past g =
    let none = text-end words i to past which separator on (drop place values) in
    let e : next + 0 ≡ first + length all = rw none at g.ends in
    (omega arith, sym (g.same ∙ rw none (written_none next output (omega (arith, g.size)))))

pub nothing_written : (at : ℕ) (what output : List ℕ) → what ≡ [] → at + length what ≤ length output
    → (at ≡ at + length what) × (output ≡ written_at at what output)
nothing_written at what output e h =
    (omega (arith, ap length e), ap (λ (w : List ℕ). w) (sym (ap (λ (w : List ℕ). written_at at w output) e ∙ written_none at output (omega arith))))

pub field-done : (at separator next : ℕ) (what tag value output left : List ℕ) → what ≡ field_bytes separator tag value
    → next ≡ at + (length tag + length value + 2)
    → left ≡ written_at at (field_bytes separator tag value) output → (next ≡ at + length what) × (left ≡ written_at at what output)
field-done at separator next what tag value output left e n w =
    (omega (arith, ap length e, field-length separator tag value), w ∙ sym (ap (λ (t : List ℕ). written_at at t output) e))

pub going_start : (words values : List ℕ) (from to which separator : ℕ) (start : List ℕ) (first place : ℕ) → from ≤ to → place ≡ place_of words from
    → Going words values to which separator (rows_text which separator false (rows_from (to - from) from words) (drop (place_of words from) values)) start first
    start first place false from
going_start words values from to which separator start first place h e =
    record { within = h; same_place = e; same = rw e; ends = rw e; size = refl }

module _ (words values : List ℕ) (to which separator : ℕ) (all start : List ℕ) (first : ℕ) (output : List ℕ) (next place : ℕ) (on : Bool) (i : ℕ)
    (room : first + length all ≤ length start) (more : i < to) (g : Going words values to which separator all start first output next place on i) where
  pub going-room : (on' : Bool) → on' ≡ row_on which on (row_at words i)
      → next + length (row_text separator on' (row_at words i) (drop place values)) ≤ length output
  going-room on' o =
      let r = row_text separator on' (row_at words i) (drop place values) in
      let rest = rows_text which separator on' (rows_from (to - (i + 1)) (i + 1) words) (drop (size_of (row_at words i)) (drop place values)) in
      let step : rows_text which separator on (rows_from (to - i) i words) (drop place values) ≡ r ++ rest =
      text-on words i to more which separator on (drop place values) ∙ rw (← o) in
      let total : next + length (r ++ rest) ≡ first + length all = rw step at g.ends in
      omega (arith, total, length-append r rest, g.size)

  pub going-place : place_of words to ≤ length values → place + size_of (row_at words i) ≤ length values
  going-place h = omega (arith, g.same_place, place-step words i, place_grows words (i + 1) to (omega arith))

-- what is left of a text, on what is written of it, is the whole
pub record Rest (first : ℕ) (all start output : List ℕ) (next : ℕ) (left : List ℕ) : Type 0 where
  pub same : written_at first all start ≡ written_at next left output
  pub ends : next + length left ≡ first + length all
  pub size : length output ≡ length start

pub rest-start : (first : ℕ) (all start : List ℕ) → Rest first all start start first all
rest-start first all start = record { same = refl; ends = refl; size = refl }

module _ (first : ℕ) (all start output : List ℕ) (next : ℕ) (room : first + length all ≤ length start) where
  pub rest-room : (piece left : List ℕ) → Rest first all start output next (piece ++ left) → next + length piece ≤ length output
  rest-room piece left r = omega (arith, r.ends, r.size, length-append piece left)

  pub rest-step : (piece left : List ℕ) → Rest first all start output next (piece ++ left) → (next' : ℕ) (output' : List ℕ) → next' ≡ next + length piece
      → output' ≡ written_at next piece output
      → Rest first all start output' next' left
  rest-step piece left r next' output' n w =
      record {
        same = r.same ∙ rw (w, n) (sym (written_twice next piece left output (omega (arith, r.ends, r.size))));
        ends = omega (arith, r.ends, length-append piece left);
        size = ap length w ∙ written-length next piece output ∙ r.size;
      }

  pub rest-last : (piece : List ℕ) → Rest first all start output next piece → next + length piece ≤ length output
  rest-last piece r = omega (arith, r.ends, r.size)

  pub rest-done : (piece : List ℕ) → Rest first all start output next piece → (next' : ℕ) (output' : List ℕ) → next' ≡ next + length piece
      → output' ≡ written_at next piece output
      → (next' ≡ first + length all) × (output' ≡ written_at first all start)
  rest-done piece r next' output' n w = (omega (arith, r.ends), w ∙ sym r.same)
