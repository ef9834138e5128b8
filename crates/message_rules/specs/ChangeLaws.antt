-- One law for each way that a change goes.
use Rattle.std.specs.Prelude.{◌≡◌, refl, Bool, true, false, List, [], ◌∷◌, ◌++◌, ℕ, ◌+◌, ◌-◌, ◌*◌, ◌≤◌, ◌<◌, length, set, leb, ltb, eqb, Some, None}
use Rattle.std.proofs.Common.{sym, ◌∙◌, arith}
use Rattle.std.proofs.Math.Path.{ap}
use borrow.Author.Tests.{le-leb, lt-leb, eq-eqb, ne_eqb, lt-ltb, le-ltb}
use Rattle.field_rules.specs.Choice.{pick}
use Rattle.message_maps.specs.Map.{Map, end, entry, values_in, without_field, stored}
use Rattle.message_maps.specs.Rows.{laid, flat, part, padded, spliced, rows_from, find_from, run_end_from, message_words}
use Rattle.message_lent_rules.specs.Lent.{is_message}
use Rattle.message_lent_rules.specs.Meaning.{Message, parts, words_of, value_bytes_of, message_in}
use Rattle.message_rules.specs.Changes.{After, after, of_message, part_of, with_part, judged, no_fields, of_store, emptying, storing, removing}
use Rattle.message_rules.specs.RowChanges.{place_of, Cuttable, cut_size, cut_words, cut_values, changed_at, span_of, located_in, field_row, field_place, run_place, run_stop, one_row, run_last, put_at, Ready}
use Rattle.message_rules.specs.PlaceLaws.{place_grows}
use Rattle.message_rules.specs.declared.Change.TheVariants.{Made, NoMessage, NotStorable, NoRun, TooManyFields}
use Rattle.message_rules.specs.declared.Cut.{Cut}
use Rattle.message_rules.specs.declared.Span.{Span}
use Rattle.message_rules.specs.declared.Part.{Part}

module _ (words values : List ℕ) (cut : Cut) (rows : List ℕ) (added : ℕ) (bytes : List ℕ) (whole : Bool) (fields : ℕ) where
  pub change_large : leb (cut_size words cut + length bytes) 8192 ≡ false → changed_at cut rows added bytes whole fields words values ≡ after NotStorable words values
  unfolding changed_at
  change_large h = rw h

  pub change_run : leb (cut_size words cut + length bytes) 8192 ≡ true → whole ≡ false → changed_at cut rows added bytes whole fields words values ≡ after NoRun words values
  unfolding changed_at
  change_run h w = rw (h, w)

  pub change_many : leb (cut_size words cut + length bytes) 8192 ≡ true → whole ≡ true → 1024 < fields → changed_at cut rows added bytes whole fields words values ≡ after TooManyFields words values
  unfolding changed_at
  change_many h w f = rw (h, w, lt-leb _ _ f)

  pub change_made : leb (cut_size words cut + length bytes) 8192 ≡ true → whole ≡ true → fields ≤ 1024
      → changed_at cut rows added bytes whole fields words values ≡ after Made (cut_words cut rows added words) (cut_values cut bytes words values)
  unfolding changed_at
  change_made h w f = rw (h, w, le-leb _ _ f)

-- the places of a cut, in their order
pub record Places (words : List ℕ) (cut : Cut) (first second third fourth used : ℕ) : Type 0 where
  pub forwards : first ≤ third
  pub back : third ≤ second
  pub on : second ≤ fourth
  pub last : fourth ≤ used
  pub within : used ≤ 8192

pub places_of : (words values : List ℕ) (cut : Cut) (rows : List ℕ) (added fields first second third fourth used : ℕ) → Cuttable words values cut rows added fields
    → first ≡ place_of words cut.from → second ≡ place_of words cut.to → third ≡ place_of words cut.kept → fourth ≡ place_of words cut.until → used ≡ place_of words cut.count
    → Places words cut first second third fourth used
places_of words values cut rows added fields first second third fourth used c f s t u n =
    record {
      forwards = omega (arith, place_grows words cut.from cut.kept c.forwards);
      back = omega (arith, place_grows words cut.kept cut.to c.back);
      on = omega (arith, place_grows words cut.to cut.until c.on);
      last = omega (arith, place_grows words cut.until cut.count c.last);
      within = omega (arith, c.within);
    }

-- "27 first"
pub no_message : (words values : List ℕ) (next : Message → After) → is_message words values ≡ false → of_message words values next ≡ after NoMessage words values
unfolding of_message
no_message words values next h = rw h

pub of_message_lem : (words values : List ℕ) (next : Message → After) → is_message words values ≡ true → of_message words values next ≡ next (message_in words values)
unfolding of_message
of_message_lem words values next h = rw h

-- a field is put in its place, or last
module _ (words values : List ℕ) (span : Span) (tag : ℕ) (value : List ℕ) (fields : ℕ) where
  pub put-place : (at : ℕ) → at ≡ field_place span tag words → at < span.to
      → changed_at (record { from = at; to = at + 1; kept = at + 1; until = at + 1; count = span.count }) (1 ∷ 1 ∷ tag ∷ length value ∷ []) 1 value true fields words values ≡ put_at span tag value fields words values
  unfolding put_at one_row field_row
  put-place at e h = rw (← e, lt-ltb _ _ h)

  pub able_place : Ready words values span tag value fields → (at : ℕ) → at ≡ field_place span tag words → at < span.to
      → Cuttable words values (record { from = at; to = at + 1; kept = at + 1; until = at + 1; count = span.count }) (1 ∷ 1 ∷ tag ∷ length value ∷ []) 1 fields
  unfolding one_row field_row
  able_place r at e h = rw e (r.replaces (rw e at h))

  module _ (at first last : ℕ) (found : at ≡ field_place span tag words) (past : span.to ≤ at)
      (begins : first ≡ find_from 2 1 tag span.from (rows_from (span.to - span.from) span.from words)) (ends : last ≡ run_end_from 1 tag first (rows_from (span.to - first) first words)) where
    begins-place : first ≡ run_place span tag words
    unfolding run_place
    begins-place = begins

    ends-stop : last ≡ run_stop span tag words
    unfolding run_stop
    ends-stop = ends ∙ ap (λ (n : ℕ). run_end_from 1 tag n (rows_from (span.to - n) n words)) begins-place

    pub put_last : changed_at (record { from = first; to = last; kept = first; until = span.to; count = span.count }) (1 ∷ 1 ∷ tag ∷ length value ∷ []) 1 value true (fields + 1) words values ≡ put_at span tag value fields words values
    unfolding put_at run_last field_row
    put_last = rw (begins-place, ends-stop, ← found, le-ltb _ _ past)

    pub able_last : Ready words values span tag value fields → Cuttable words values (record { from = first; to = last; kept = first; until = span.to; count = span.count }) (1 ∷ 1 ∷ tag ∷ length value ∷ []) 1 (fields + 1)
    unfolding run_last field_row
    able_last r = rw (begins-place, ends-stop) (r.appends (rw found at past))

-- where a part was located
pub located_no : (part : Part) (words values : List ℕ) → located_in part words values ≡ None → is_message words values ≡ false
unfolding located_in
located_no part words values h = by_test (is_message words values) refl h
  where
    by_test : (b : Bool) → is_message words values ≡ b → pick b (Some (span_of part (message_in words values))) None ≡ None → b ≡ false
    by_test true e k = let z : ◌≡◌ {A = ℕ} 0 1 = cc in absurd (omega arith)
    by_test false e k = refl

pub located_at : (part : Part) (words values : List ℕ) (span : Span) → located_in part words values ≡ Some span → (is_message words values ≡ true) × (span ≡ span_of part (message_in words values))
unfolding located_in
located_at part words values span h = by_test (is_message words values) refl h
  where
    by_test : (b : Bool) → is_message words values ≡ b → pick b (Some (span_of part (message_in words values))) None ≡ Some span → (b ≡ true) × (span ≡ span_of part (message_in words values))
    by_test true e k = (refl, cc)
    by_test false e k = let z : ◌≡◌ {A = ℕ} 0 1 = cc in absurd (omega arith)

module _ (part : Part) (tag : ℕ) (words values : List ℕ) where
  pub store_zero : (value : List ℕ) → is_message words values ≡ true → tag ≡ 0 → storing part tag value words values ≡ after NotStorable words values
  unfolding storing
  store_zero value h e = of_message_lem words values _ h ∙ rw (eq-eqb tag 0 e)

  pub store-on : (value : List ℕ) → is_message words values ≡ true → (tag ≡ 0 → ⊥) → storing part tag value words values ≡ judged words values true (with_part part (stored tag value (part_of part (message_in words values))) (message_in words values))
  unfolding storing
  store-on value h e = of_message_lem words values _ h ∙ rw (ne_eqb tag 0 e)

  pub remove-on : is_message words values ≡ true → removing part tag words values ≡ judged words values true (with_part part (without_field tag (part_of part (message_in words values))) (message_in words values))
  unfolding removing
  remove-on h = of_message_lem words values _ h

-- an empty message takes the place of what was there
pub empty-words : (words spliced-words : List ℕ) → length words ≡ message_words → spliced-words ≡ padded message_words (spliced 1 1 1 1 1 (2 ∷ 0 ∷ 1 ∷ 0 ∷ 2 ∷ 0 ∷ 2 ∷ 0 ∷ 2 ∷ 0 ∷ 3 ∷ 0 ∷ []) words) → set spliced-words 0 3 ≡ words_of no_fields
unfolding words_of no_fields parts laid flat spliced part padded
empty-words [] s h e = absurd (omega arith)
empty-words (w ∷ words) s h e = ap (λ (l : List ℕ). set l 0 3) e

pub empty-values : (values left : List ℕ) → left ≡ padded 8192 (spliced 0 0 0 0 0 [] values) → left ≡ value_bytes_of no_fields
unfolding value_bytes_of no_fields parts values_in spliced part padded
empty-values values left e = e

module _ (words values : List ℕ) where
  pub empty-short : (length words ≡ message_words → ⊥) → emptying words values ≡ after NoMessage words values
  unfolding emptying of_store
  empty-short h = rw (ne_eqb _ _ h)

  pub empty-store : length words ≡ message_words → (length values ≡ 8192 → ⊥) → emptying words values ≡ after NoMessage words values
  unfolding emptying of_store
  empty-store h k = rw (eq-eqb _ _ h, ne_eqb _ _ k)

  pub empty-made : length words ≡ message_words → length values ≡ 8192 → emptying words values ≡ after Made (words_of no_fields) (value_bytes_of no_fields)
  unfolding emptying of_store
  empty-made h k = rw (eq-eqb _ _ h, eq-eqb _ _ k)
