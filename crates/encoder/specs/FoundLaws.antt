-- What is found in the rows of a part of a message that is lent is what the part's map has: a field, a run, and the bytes of a field.
use Rattle.std.specs.Prelude.{◌≡◌, Bool, List, [], ◌∷◌, ◌++◌, ℕ, suc, ◌+◌, ◌-◌, ltb, eqb}
use Rattle.std.proofs.Math.Path.{refl, sym, ap}
use Rattle.std.proofs.Common.{◌∙◌, append_assoc}
use Rattle.std.proofs.Math.Bool.{true, false}
use native.Mathlib.Omega.{arith}
use Rattle.std.proofs.Math.ListN.{length, length-append}
use borrow.Author.Tests.{eq-eqb, lt-ltb, le-ltb}
use Rattle.field_rules.specs.Choice.{pick}
use Rattle.field_rules.specs.Decimal.{decimal}
use Rattle.message_maps.specs.Map.{Map, end, field, entry, holds}
use Rattle.message_maps.specs.Rows.{Row, row, laid, row_at, rows_from, matches, find_from}
use Rattle.message_lent_rules.specs.Lent.{row_count}
use Rattle.message_lent_rules.specs.Meaning.{Message}
use Rattle.message_rules.specs.Changes.{part_of}
use Rattle.message_rules.specs.RowChanges.{span_of, field_place, run_place}
use Rattle.message_rules.specs.LayoutLaws.{laid-joined, find_below}
use Rattle.message_rules.specs.PlaceLaws.{rows_part}
use Rattle.message_rules.specs.SplitLaws.{field_split, field_absent}
use Rattle.message_rules.specs.StoreLaws.{In, rows_all, own_rows_lem, span_grows}
use Rattle.message_rules.specs.declared.Part.{Part}
use Rattle.encode_rows.specs.Writing.{row_bytes}
use Rattle.encoder.specs.Judging.{SpanWithin, held_at, hung_at, size_at}
use Rattle.encoder.specs.SizeLaws.{size_under}

-- whether a map itself has a run on a start tag
unfoldable pub hangs : ℕ → Map → Bool
hangs start end = false
hangs start (field t v rest) = hangs start rest
hangs start (entry s d own rest) = pick (eqb s start) true (hangs start rest)

run_place_lem : (start l at : ℕ) (m : Map) → ltb (find_from 2 l start at (laid l m)) (at + length (laid l m)) ≡ hangs start m
unfolding laid find_from matches hangs
run_place_lem start l at end = le-ltb at (at + 0) (omega arith)
run_place_lem start l at (field t v rest) =
    let q : at + suc (length (laid l rest)) ≡ at + 1 + length (laid l rest) = omega arith in
    rw q (run_place_lem start l (at + 1) rest)
run_place_lem start l at (entry s d own rest) = rw (eq-eqb l l refl) (by_test (eqb s start) (run_place_lem start l (at + 1 + length (laid (l + 1) own)) rest))
  where
    by_test : (b : Bool)
        → ltb (find_from 2 l start (at + 1 + length (laid (l + 1) own)) (laid l rest)) (at + 1 + length (laid (l + 1) own) + length (laid l rest))
        ≡ hangs start rest
        → ltb (pick b at (find_from 2 l start (at + 1) (laid (l + 1) own ++ laid l rest))) (at + suc (length (laid (l + 1) own ++ laid l rest)))
        ≡ pick b true (hangs start rest)
    by_test true h = lt-ltb at (at + suc (length (laid (l + 1) own ++ laid l rest))) (omega arith)
    by_test false h =
        let q : at + suc (length (laid (l + 1) own ++ laid l rest)) ≡ at + 1 + length (laid (l + 1) own) + length (laid l rest) =
        omega (arith, length-append (laid (l + 1) own) (laid l rest)) in
        rw (q, find_below l 2 start own (l + 1) (at + 1) (laid l rest) (omega arith)) h

field-there : (tag l at : ℕ) (m : Map) → ltb (find_from 1 l tag at (laid l m)) (at + length (laid l m)) ≡ holds tag m
field-there tag l at m = by_test (holds tag m) refl
  where
    by_test : (b : Bool) → holds tag m ≡ b → ltb (find_from 1 l tag at (laid l m)) (at + length (laid l m)) ≡ b
    by_test true e =
        let s = field_split tag m e in
        let one : length (laid l (field tag s.value s.back)) ≡ suc (length (laid l s.back)) = unfold laid in
        refl in lt-ltb (find_from 1 l tag at (laid l m)) (at + length (laid l m))
        (omega (
          arith,
          s.place l at,
          ap (λ (n : Map). length (laid l n)) s.whole,
          ap length (laid-joined l s.front (field tag s.value s.back)),
          length-append (laid l s.front) (laid l (field tag s.value s.back)),
        ))
    by_test false e = le-ltb (find_from 1 l tag at (laid l m)) (at + length (laid l m)) (omega (arith, field_absent tag m e l at))

size_absent : (tag : ℕ) (m : Map) → holds tag m ≡ false → size_under tag m ≡ 0
unfolding holds size_under
size_absent tag end h = refl
size_absent tag (field t v rest) h = by_test (eqb t tag) h (size_absent tag rest)
  where
    by_test : (b : Bool) → pick b true (holds tag rest) ≡ false → (holds tag rest ≡ false → size_under tag rest ≡ 0)
        → pick b (length (decimal t) + length v + 2) (size_under tag rest) ≡ 0
    by_test true k again = let z : ◌≡◌ {A = ℕ} 0 1 = cc in absurd (omega arith)
    by_test false k again = again k
size_absent tag (entry s d own rest) h = size_absent tag rest h

-- the row that is found has the bytes of the field
size-row : (tag l : ℕ) (m : Map) → holds tag m ≡ true → (front behind : List Row) → (words : List ℕ) (n at : ℕ)
    → rows_from n 0 words ≡ front ++ (laid l m ++ behind) → at ≡ find_from 1 l tag (length front) (laid l m)
    → row_bytes (row_at words at) ≡ size_under tag m
unfolding holds laid find_from matches size_under rows_from row_bytes
size-row tag l end h front behind words n at rows found = let z : ◌≡◌ {A = ℕ} 0 1 = cc in absurd (omega arith)
size-row tag l (field t v rest) h front behind words n at rows found =
    by_test (eqb t tag) refl h (rw (eq-eqb l l refl) at found)
    (λ k f. size-row tag l rest k (front ++ (row 1 l t (length v) ∷ [])) behind words n at
    (rows ∙ sym (append_assoc front (row 1 l t (length v) ∷ []) (laid l rest ++ behind))) f)
  where
    by_test : (b : Bool) → eqb t tag ≡ b → pick b true (holds tag rest) ≡ true
        → at ≡ pick b (length front) (find_from 1 l tag (length front + 1) (laid l rest))
        → (holds tag rest ≡ true → at ≡ find_from 1 l tag (length (front ++ (row 1 l t (length v) ∷ []))) (laid l rest)
        → row_bytes (row_at words at) ≡ size_under tag rest)
        → row_bytes (row_at words at) ≡ pick b (length (decimal t) + length v + 2) (size_under tag rest)
    by_test true e k f again =
        let one : rows_from (at + 1 - at) at words ≡ row 1 l t (length v) ∷ [] =
        rows_part words n at (at + 1) front (row 1 l t (length v) ∷ []) (laid l rest ++ behind) rows f (omega arith) in
        let s : at + 1 - at ≡ 1 = omega arith in
        let here : row_at words at ∷ [] ≡ row 1 l t (length v) ∷ [] = rw s at one in
        let same : row_at words at ≡ row 1 l t (length v) = cc in
        ap row_bytes same
    by_test false e k f again =
        again k (f ∙ ap (λ (i : ℕ). find_from 1 l tag i (laid l rest)) (sym (length-append front (row 1 l t (length v) ∷ []))))
size-row tag l (entry s d own rest) h front behind words n at rows found =
    let more : List Row = row 2 l s d ∷ laid (l + 1) own in
    let place : length (front ++ more) ≡ length front + 1 + length (laid (l + 1) own) = length-append front more ∙ omega arith in
    size-row tag l rest h (front ++ more) behind words n at
    (rows ∙ simp append_assoc)
    (found ∙ find_below l 1 tag own (l + 1) (length front + 1) (laid l rest) (omega arith) ∙ ap (λ (i : ℕ). find_from 1 l tag i (laid l rest)) (sym place))

module _ (words values : List ℕ) (part : Part) (m : Message) (i : In words values part m) where
  pub span_within : SpanWithin words (span_of part m)
  span_within = let g = span_grows words values part m i in record { whole = i.sized.whole; forwards = g.0; last = g.1; few = g.2 }

  ends : (span_of part m).to ≡ (span_of part m).from + length (laid 1 (part_of part m))
  ends = omega (arith, i.split.from, i.split.to)

  place-own : (tag : ℕ) → field_place (span_of part m) tag words ≡ find_from 1 1 tag (span_of part m).from (laid 1 (part_of part m))
  unfolding field_place
  place-own tag = ap (find_from 1 1 tag (span_of part m).from) (own_rows_lem words values part m i)

  pub held_is : (tag : ℕ) → held_at words (span_of part m) tag ≡ holds tag (part_of part m)
  unfolding held_at
  held_is tag = rw (place-own tag, ends) (field-there tag 1 (span_of part m).from (part_of part m))

  pub hung_is : (start : ℕ) → hung_at words (span_of part m) start ≡ hangs start (part_of part m)
  unfolding hung_at run_place
  hung_is start = rw (own_rows_lem words values part m i, ends) (run_place_lem start 1 (span_of part m).from (part_of part m))

  pub size-found : (tag : ℕ) → size_at words (span_of part m) tag ≡ size_under tag (part_of part m)
  unfolding size_at
  size-found tag = rw (held_is tag) (by_test (holds tag (part_of part m)) refl)
    where
      by_test : (b : Bool) → holds tag (part_of part m) ≡ b
          → pick b (row_bytes (row_at words (field_place (span_of part m) tag words))) 0 ≡ size_under tag (part_of part m)
      by_test true e =
          size-row tag 1 (part_of part m) e i.split.before i.split.behind words (row_count words) (field_place (span_of part m) tag words)
          (rows_all words values part m i)
          (place-own tag ∙ ap (λ (n : ℕ). find_from 1 1 tag n (laid 1 (part_of part m))) i.split.from)
      by_test false e = sym (size_absent tag (part_of part m) e)
