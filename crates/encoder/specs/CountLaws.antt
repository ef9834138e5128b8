-- Rows without their counts are runs without their counts: in a formed map no count stands behind its run, so what its rows have before an
-- entry is what the map has. And dropping a field takes the count from its own run alone.
use Rattle.std.specs.Prelude.{◌≡◌, refl, Bool, false, ℕ, ◌+◌, ◌≤◌, length, eqb}
use Rattle.std.proofs.Math.Path.{sym, ap}
use Rattle.std.proofs.Common.{◌∙◌, arith}
use Rattle.std.proofs.Math.Bool.{true}
use mathlib.Core.List.{List, [], ◌∷◌, ◌++◌, append_assoc}
use borrow.Author.Tests.{eqb-true, eq-eqb, ne_eqb, lt-ltb, le-ltb}
use Rattle.field_rules.specs.Choice.{pick}
use Rattle.message_maps.specs.Map.{Map, end, field, entry, holds, without_field, past_leading}
use Rattle.message_maps.specs.Rows.{Row, row, laid, level_of, matches}
use Rattle.message_lent_rules.specs.Lent.{held_before}
use Rattle.message_lent_rules.specs.Meaning.{Message, parts}
use Rattle.message_lent_rules.specs.Formed.{stands, is_formed, Formed}
use Rattle.message_lent_rules.specs.StandLaws.{nor, field_formed, entry_formed}
use Rattle.message_lent_rules.specs.AllowedLaws.{passed, passed-append, held_past}
use Rattle.message_rules.specs.PlaceLaws.{part_rows}
use Rattle.encode_rules.specs.Encoding.{dropped}
use Rattle.message_lent_rules.specs.Standing.{is_uncounted, uncounted}
use Rattle.encode_rules.specs.Encode.{lacks_count, has_uncounted}
use Rattle.encoder.specs.FoundLaws.{hangs}

-- what stands no more behind the entries of its tag is not held
not_held : (tag : ℕ) (m : Map) → stands tag m ≡ false → holds tag m ≡ false
unfolding stands holds
not_held tag end h = refl
not_held tag (field t v rest) h = rw (nor (eqb t tag) (stands tag rest) h).0 (not_held tag rest (nor (eqb t tag) (stands tag rest) h).1)
not_held tag (entry s d own rest) h = not_held tag rest (nor (eqb s tag) (stands tag rest) h).1

held_past_leading : (tag : ℕ) (m : Map) → holds tag (past_leading tag m) ≡ holds tag m
unfolding holds past_leading
held_past_leading tag end = refl
held_past_leading tag (field t v rest) = refl
held_past_leading tag (entry s d own rest) = by_test (eqb s tag) (held_past_leading tag rest)
  where
    by_test : (b : Bool) → holds tag (past_leading tag rest) ≡ holds tag rest → holds tag (pick b (past_leading tag rest) (entry s d own rest)) ≡ holds tag rest
    by_test true h = h
    by_test false h = refl

no_more : (tag : ℕ) (m : Map) → stands tag (past_leading tag m) ≡ false → holds tag m ≡ false
no_more tag m h = sym (held_past_leading tag m) ∙ not_held tag (past_leading tag m) h

-- a map of rows, with what is known of the counts before them
uncounted-map : (l : ℕ) (m map : Map) (before rest : List Row) → 1 ≤ l → is_formed m ≡ true
    → ((s : ℕ) → pick (held_before 1 l s before) true (holds s m) ≡ holds s map)
    → uncounted before (laid l m ++ rest) ≡ pick (lacks_count map m) true (uncounted (passed before (laid l m)) rest)
unfolding laid uncounted is_uncounted passed lacks_count holds
uncounted-map l end map before rest some formed known = refl
uncounted-map l (field t v more) map before rest some formed known =
    uncounted-map l more map (row 1 l t (length v) ∷ before) rest some (field_formed t v more formed).rest_formed (λ s. counted s ∙ known s)
  where
    swapped : (a b c : Bool) → pick (pick a true b) true c ≡ pick b true (pick a true c)
    swapped true true c = refl
    swapped true false c = refl
    swapped false b c = refl

    counted : (s : ℕ)
        → pick (held_before 1 l s (row 1 l t (length v) ∷ before)) true (holds s more)
        ≡ pick (held_before 1 l s before) true (pick (eqb t s) true (holds s more))
    counted s =
        unfold held_before matches level_of in rw (le-ltb l l (omega arith), eq-eqb l l refl) (swapped (eqb t s) (held_before 1 l s before) (holds s more))
uncounted-map l (entry s d own more) map before rest some formed known =
    let f = entry_formed s d own more formed in
    let head : List Row = row 2 l s d ∷ before in
    let below : (u : ℕ) → pick (held_before 1 (l + 1) u head) true (holds u own) ≡ holds u own =
    λ u. (unfold held_before level_of in rw (lt-ltb l (l + 1) (omega arith))) in
    let beside : (u : ℕ) → pick (held_before 1 l u (passed head (laid (l + 1) own))) true (holds u more) ≡ holds u map =
    λ u. rw (held_past l 1 u (l + 1) own head (omega arith)) (no_field u ∙ known u) in
    let count : held_before 1 l s before ≡ holds s map =
    sym (either_way (held_before 1 l s before)) ∙ ap (pick (held_before 1 l s before) true) (sym (no_more s more f.once)) ∙ known s in
    rw (
      ne_eqb l 0 (λ e. omega arith),
      count,
      append_assoc (laid (l + 1) own) (laid l more) rest,
      uncounted-map (l + 1) own own head (laid l more ++ rest) (omega arith) f.own_formed below,
      uncounted-map l more map (passed head (laid (l + 1) own)) rest some f.rest_formed beside,
      passed-append head (laid (l + 1) own) (laid l more),
    )
    (in_order (holds s map) (lacks_count own own) (lacks_count map more) (uncounted (passed (passed head (laid (l + 1) own)) (laid l more)) rest))
  where
    no_field : (u : ℕ) → pick (held_before 1 l u (row 2 l s d ∷ before)) true (holds u more) ≡ pick (held_before 1 l u before) true (holds u more)
    no_field u = unfold held_before matches level_of in rw (le-ltb l l (omega arith))

    either_way : (b : Bool) → pick b true false ≡ b
    either_way true = refl
    either_way false = refl

    in_order : (a b c e : Bool) → pick (pick a false true) true (pick b true (pick c true e)) ≡ pick (pick a (pick b true c) true) true e
    in_order true true c e = refl
    in_order true false c e = refl
    in_order false b c e = refl

-- the rows of a formed message
pub uncounted_is : (m : Message) → Formed m → uncounted [] (laid 0 (parts m)) ≡ has_uncounted m
unfolding uncounted is_uncounted has_uncounted
uncounted_is m f =
    rw (part_rows m, part-uncounted m.header 1 [] _ f.header, part-uncounted m.body 2 _ _ f.body, part-uncounted m.trailer 3 _ [] f.trailer)
    (ap (λ (b : Bool). pick (lacks_count m.header m.header) true (pick (lacks_count m.body m.body) true b))
    (no_more_rows (lacks_count m.trailer m.trailer)))
  where
    no_more_rows : (b : Bool) → pick b true false ≡ b
    no_more_rows true = refl
    no_more_rows false = refl

    part-uncounted : (map : Map) (part : ℕ) (before rest : List Row) → is_formed map ≡ true
        → uncounted (row 2 0 part 0 ∷ before) (laid 1 map ++ rest)
        ≡ pick (lacks_count map map) true (uncounted (passed (row 2 0 part 0 ∷ before) (laid 1 map)) rest)
    part-uncounted map part before rest formed =
        uncounted-map 1 map map (row 2 0 part 0 ∷ before) rest (omega arith) formed (λ s. (unfold held_before level_of in refl))

-- a dropped field is held no more, and every other is
pub gone_once : (tag : ℕ) (m : Map) → is_formed m ≡ true → holds tag (without_field tag m) ≡ false
unfolding holds without_field
gone_once tag end formed = refl
gone_once tag (field t v rest) formed = by_test (eqb t tag) refl (gone_once tag rest (field_formed t v rest formed).rest_formed)
  where
    by_test : (b : Bool) → eqb t tag ≡ b → holds tag (without_field tag rest) ≡ false → holds tag (pick b rest (field t v (without_field tag rest))) ≡ false
    by_test true e h = ap (λ (n : ℕ). holds n rest) (sym (eqb-true t tag e)) ∙ no_more t rest (field_formed t v rest formed).once
    by_test false e h = rw e h
gone_once tag (entry s d own rest) formed = gone_once tag rest (entry_formed s d own rest formed).rest_formed

holds-other : (tag gone : ℕ) (m : Map) → eqb tag gone ≡ false → holds tag (without_field gone m) ≡ holds tag m
unfolding holds without_field
holds-other tag gone end h = refl
holds-other tag gone (field t v rest) h = by_tests (eqb t gone) (eqb t tag) refl refl (holds-other tag gone rest h)
  where
    by_tests : (a b : Bool) → eqb t gone ≡ a → eqb t tag ≡ b → holds tag (without_field gone rest) ≡ holds tag rest
        → holds tag (pick a rest (field t v (without_field gone rest))) ≡ pick b true (holds tag rest)
    by_tests true true e f k =
        let z : ◌≡◌ {A = Bool} true false = sym e ∙ ap (λ (n : ℕ). eqb n gone) (eqb-true t tag f) ∙ h in
        let w : ◌≡◌ {A = ℕ} 0 1 = cc in
        absurd (omega arith)
    by_tests true false e f k = refl
    by_tests false true e f k = rw f
    by_tests false false e f k = rw f k
holds-other tag gone (entry s d own rest) h = holds-other tag gone rest h

lacks_gone : (tag : ℕ) (map m : Map) → lacks_count map (without_field tag m) ≡ lacks_count map m
unfolding lacks_count without_field
lacks_gone tag map end = refl
lacks_gone tag map (field t v rest) = by_test (eqb t tag) (lacks_gone tag map rest)
  where
    by_test : (b : Bool) → lacks_count map (without_field tag rest) ≡ lacks_count map rest
        → lacks_count map (pick b rest (field t v (without_field tag rest))) ≡ lacks_count map rest
    by_test true h = refl
    by_test false h = h
lacks_gone tag map (entry s d own rest) = rw (lacks_gone tag map rest)

lacks_hung : (tag : ℕ) (map m : Map) → holds tag map ≡ false → hangs tag m ≡ true → lacks_count map m ≡ true
unfolding lacks_count hangs
lacks_hung tag map end none h = let z : ◌≡◌ {A = ℕ} 0 1 = cc in absurd (omega arith)
lacks_hung tag map (field t v rest) none h = lacks_hung tag map rest none h
lacks_hung tag map (entry s d own rest) none h = by_test (eqb s tag) refl h (lacks_hung tag map rest none)
  where
    whichever : (a b : Bool) → pick a (pick b true true) true ≡ true
    whichever true true = refl
    whichever true false = refl
    whichever false b = refl

    by_test : (b : Bool) → eqb s tag ≡ b → pick b true (hangs tag rest) ≡ true → (hangs tag rest ≡ true → lacks_count map rest ≡ true)
        → pick (holds s map) (pick (lacks_count own own) true (lacks_count map rest)) true ≡ true
    by_test true e k again = rw (ap (λ (n : ℕ). holds n map) (eqb-true s tag e) ∙ none)
    by_test false e k again = rw (again k) (whichever (holds s map) (lacks_count own own))

lacks_other : (tag : ℕ) (map m : Map) → hangs tag m ≡ false → lacks_count (without_field tag map) m ≡ lacks_count map m
unfolding lacks_count hangs
lacks_other tag map end h = refl
lacks_other tag map (field t v rest) h = lacks_other tag map rest h
lacks_other tag map (entry s d own rest) h =
    let n = nor (eqb s tag) (hangs tag rest) h in
    rw (holds-other s tag map n.0, lacks_other tag map rest n.1)

-- runs once the trailer's 10 is dropped
pub dropped-uncounted : (m : Message) → is_formed m.trailer ≡ true → has_uncounted (dropped m) ≡ pick (hangs 10 m.trailer) true (has_uncounted m)
unfolding has_uncounted dropped
dropped-uncounted m formed = rw (lacks_gone 10 (without_field 10 m.trailer) m.trailer) (by_test (hangs 10 m.trailer) refl)
  where
    whichever : (a b : Bool) → pick a true (pick b true true) ≡ true
    whichever true b = refl
    whichever false true = refl
    whichever false false = refl

    by_test : (b : Bool) → hangs 10 m.trailer ≡ b
        → pick (lacks_count m.header m.header) true (pick (lacks_count m.body m.body) true (lacks_count (without_field 10 m.trailer) m.trailer))
        ≡ pick b true (pick (lacks_count m.header m.header) true (pick (lacks_count m.body m.body) true (lacks_count m.trailer m.trailer)))
    by_test true e =
        rw (lacks_hung 10 (without_field 10 m.trailer) m.trailer (gone_once 10 m.trailer formed) e)
        (whichever (lacks_count m.header m.header) (lacks_count m.body m.body))
    by_test false e = rw (lacks_other 10 m.trailer m.trailer e)
