-- A map that stands at level 1 between other rows, a part of a message or an entry that is made: storing, removing and hanging are cuts of
-- its rows, whatever stands around it.
use Rattle.std.proofs.Math.Path.{◌≡◌, refl, sym, ap}
use Rattle.std.proofs.Common.{◌∙◌, arith, ltb-true, ltb-false}
use Rattle.std.specs.Prelude.{Bool, ℕ, zero, suc, ◌+◌, ◌-◌, ◌*◌, ◌≤◌, ◌<◌, length, take, leb, eqb}
use Rattle.std.proofs.Math.Bool.{true, false}
use mathlib.Core.List.{List, [], ◌∷◌, ◌++◌, append_assoc, append-nil}
use Rattle.std.proofs.Math.Nat.{sub-zero}
use Rattle.std.proofs.Math.ListN.{length-append}
use Rattle.std.proofs.Math.Dec.{ltb}
use Rattle.std.proofs.lemmas.Bool.{lt-leb}
use Rattle.field_rules.specs.Choice.{pick}
use Rattle.message_maps.specs.Map.{Map, end, field, entry, joined, holds, holds_any, replaced, without_field, leading, past_leading, run_on, without_run, stored, hung_on_count, hung_alone, hung, field_count, values_in}
use Rattle.message_maps.specs.Rows.{Row, row, laid, flat, rows_from, sizes, size_of, matches, find_from, run_end_from, message_rows}
use Rattle.message_lent_rules.specs.Lent.{row_count, rows_of}
use Rattle.message_rules.specs.Changes.{After, after, judged_map}
use Rattle.message_rules.specs.RowChanges.{Cuttable, changed_at, field_row, field_place, run_place, run_stop, held_rows, one_row, run_last, put_at, Ready}
use Rattle.message_rules.specs.LayoutLaws.{joined_assoc, laid-joined, values-joined, count-joined, sizes-append, sizes-laid}
use Rattle.message_rules.specs.SplitLaws.{FieldSplit, field_split, field_absent, field_gone, RunSplit, run_split, leading-joined, leading-ends}
use Rattle.message_rules.specs.PlaceLaws.{rows_length, rows_part}
use Rattle.message_rules.specs.CutLaws.{Sized, Cutting, cut_judged, cut_able}
use Rattle.message_rules.specs.declared.Cut.{Cut}
use Rattle.message_rules.specs.declared.Span.{Span}

-- the map, with any other in its place, and the number of fields that there are then
pub record Frame (words values : List ℕ) (span : Span) (own : Map) (whole : Map → Map) (total : Map → ℕ) : Type 0 where
  pub sized : Sized words values
  pub before : List Row
  pub behind : List Row
  pub values-before : List ℕ
  pub values-behind : List ℕ
  pub rows : rows_of words ≡ before ++ (laid 1 own ++ behind)
  pub texts : take (sizes (rows_of words)) values ≡ values-before ++ (values_in own ++ values-behind)
  pub new_rows : (x : Map) → laid 0 (whole x) ≡ before ++ (laid 1 x ++ behind)
  pub new_texts : (x : Map) → values_in (whole x) ≡ values-before ++ (values_in x ++ values-behind)
  pub size-before : sizes before ≡ length values-before
  pub size-behind : sizes behind ≡ length values-behind
  pub from : span.from ≡ length before
  pub to : span.to ≡ length before + length (laid 1 own)
  pub count : span.count ≡ length before + length (laid 1 own) + length behind
  pub few : (x : Map) → total x ≤ 1024 → length (laid 0 (whole x)) ≤ message_rows

-- a cut that leaves a map: it can be made, and is judged as that map is
pub record Leaves (words values : List ℕ) (cut : Cut) (rows : List ℕ) (added : ℕ) (bytes : List ℕ) (fields : ℕ) (map : Map) : Type 0 where
  pub able : Cuttable words values cut rows added fields
  pub done : (whole : Bool) → changed_at cut rows added bytes whole fields words values ≡ judged_map words values whole fields map

leaves : (words values : List ℕ) (cut : Cut) (a b c d e : List Row) (va vb vc vd ve : List ℕ) (map : Map) (fields : ℕ) (x : List Row) (bytes : List ℕ)
    → Cutting words values cut a b c d e va vb vc vd ve → (fields ≤ 1024 → length (laid 0 map) ≤ message_rows)
    → laid 0 map ≡ a ++ (d ++ (x ++ (c ++ e))) → values_in map ≡ va ++ (vd ++ (bytes ++ (vc ++ ve)))
    → Leaves words values cut (flat x) (length x) bytes fields map
leaves words values cut a b c d e va vb vc vd ve map fields x bytes k few rows texts =
    record {
      able = cut_able words values cut a b c d e va vb vc vd ve k map fields few x bytes rows texts;
      done = cut_judged words values cut a b c d e va vb vc vd ve k map fields few x bytes rows texts;
    }

-- what is looked for is found no later than at the end
find_short : (kind level tag at : ℕ) (rows : List Row) → find_from kind level tag at rows ≤ at + length rows
unfolding find_from
find_short kind level tag at [] = omega arith
find_short kind level tag at (r ∷ rows) = by_test (matches kind level tag r) (find_short kind level tag (at + 1) rows)
  where
    by_test : (b : Bool) → find_from kind level tag (at + 1) rows ≤ at + 1 + length rows → pick b at (find_from kind level tag (at + 1) rows) ≤ at + suc (length rows)
    by_test true h = omega arith
    by_test false h = omega arith

pub find_within : (kind level tag at to : ℕ) (words : List ℕ) → at ≤ to → find_from kind level tag at (rows_from (to - at) at words) ≤ to
find_within kind level tag at to words h =
    omega (arith, find_short kind level tag at (rows_from (to - at) at words), rows_length (to - at) at words)

field_rows : (l tag : ℕ) (value : List ℕ) (m : Map) → length (laid l (field tag value m)) ≡ suc (length (laid l m))
unfolding laid
field_rows l tag value m = refl

module _ (words values : List ℕ) (span : Span) (own : Map) (whole : Map → Map) (total : Map → ℕ) (i : Frame words values span own whole total) where
  pub rows_all : rows_from (row_count words) 0 words ≡ i.before ++ (laid 1 own ++ i.behind)
  unfolding rows_of
  rows_all = ap (λ (n : ℕ). rows_from n 0 words) (sym (sub-zero (row_count words))) ∙ i.rows

  pub own_rows_lem : rows_from (span.to - span.from) span.from words ≡ laid 1 own
  own_rows_lem = rows_part words (row_count words) _ _ i.before (laid 1 own) i.behind rows_all i.from i.to

  pub count_is : span.count ≡ row_count words
  count_is =
      i.count
      ∙ sym (sym (rows_length (row_count words) 0 words) ∙ ap length rows_all ∙ simp length-append (omega arith))

  pub span_grows : (span.from ≤ span.to) × (span.to ≤ span.count) × (span.count ≤ message_rows)
  span_grows = (omega (arith, i.from, i.to), omega (arith, i.to, i.count), omega (arith, count_is, i.sized.counted))

  module _ (tag at : ℕ) (found : at ≡ find_from 1 1 tag span.from (rows_from (span.to - span.from) span.from words)) where
    pub at_own : at ≡ find_from 1 1 tag span.from (laid 1 own)
    at_own = found ∙ ap (find_from 1 1 tag span.from) own_rows_lem

    pub is_held : at < span.to → holds tag own ≡ true
    is_held h = by_test (holds tag own) refl
      where
        by_test : (b : Bool) → holds tag own ≡ b → b ≡ true
        by_test true e = refl
        by_test false e = absurd (omega (arith, at_own, field_absent tag own e 1 span.from, i.from, i.to))

    pub is_absent : span.to ≤ at → holds tag own ≡ false
    is_absent h = by_test (holds tag own) refl
      where
        by_test : (b : Bool) → holds tag own ≡ b → b ≡ false
        by_test true e =
            let s = field_split tag own e in
            absurd (omega (arith, at_own, s.place 1 span.from, i.from, i.to, ap (λ (m : Map). length (laid 1 m)) s.whole, ap length (laid-joined 1 s.front (field tag s.value s.back)), length-append (laid 1 s.front) (laid 1 (field tag s.value s.back)), field_rows 1 tag s.value s.back))
        by_test false e = refl

  -- a run in the map, or where it would stand last
  module _ (tag : ℕ) where
    split_rows : (s : RunSplit tag own) → (laid 1 own ≡ laid 1 s.front ++ (laid 1 s.run ++ laid 1 s.back)) × (values_in own ≡ values_in s.front ++ (values_in s.run ++ values_in s.back))
        × (length (laid 1 own) ≡ length (laid 1 s.front) + (length (laid 1 s.run) + length (laid 1 s.back)))
    split_rows s =
        let rows : laid 1 own ≡ laid 1 s.front ++ (laid 1 s.run ++ laid 1 s.back) = ap (laid 1) s.whole ∙ laid-joined 1 s.front (joined s.run s.back) ∙ ap (λ (t : List Row). laid 1 s.front ++ t) (laid-joined 1 s.run s.back) in (
          rows,
          ap values_in s.whole ∙ values-joined s.front (joined s.run s.back) ∙ ap (λ (t : List ℕ). values_in s.front ++ t) (values-joined s.run s.back),
          ap length rows ∙ simp length-append,
        )

    module _ (first : ℕ) (begins : first ≡ find_from 2 1 tag span.from (rows_from (span.to - span.from) span.from words)) where
      pub run-begins : first ≡ span.from + length (laid 1 (run_split tag own).front)
      run-begins = begins ∙ ap (find_from 2 1 tag span.from) own_rows_lem ∙ (run_split tag own).begins 1 span.from

      pub run_ends : (last : ℕ) → last ≡ run_end_from 1 tag first (rows_from (span.to - first) first words) → last ≡ first + length (laid 1 (run_split tag own).run)
      run_ends last ends =
          let s = run_split tag own in
          let w = split_rows s in
          let r = laid 1 s.run in
          let b = laid 1 s.back in
          let front = i.before ++ laid 1 s.front in
          let rest : rows_from (span.to - first) first words ≡ r ++ b =
          rows_part words (row_count words) first span.to front (r ++ b) i.behind (rows_all ∙ rw w.0 (simp append_assoc))
          (omega (arith, run-begins, i.from, length-append i.before (laid 1 s.front))) (omega (arith, i.to, w.2, length-append i.before (laid 1 s.front), length-append r b)) in
          ends ∙ ap (run_end_from 1 tag first) (rest ∙ sym (laid-joined 1 s.run s.back)) ∙ s.ends 1 first

  -- rows in the middle of the map, with others in their place
  pub middle-leaves : (f m b : List Row) (vf vm vb : List ℕ) (at stop : ℕ) (new : Map) (x : List Row) (bytes : List ℕ)
      → laid 1 own ≡ f ++ (m ++ b) → values_in own ≡ vf ++ (vm ++ vb) → sizes f ≡ length vf → sizes m ≡ length vm → sizes b ≡ length vb
      → at ≡ span.from + length f → stop ≡ at + length m → laid 1 new ≡ f ++ (x ++ b) → values_in new ≡ vf ++ (bytes ++ vb)
      → Leaves words values (record { from = at; to = stop; kept = stop; until = stop; count = span.count }) (flat x) (length x) bytes (total new) (whole new)
  middle-leaves f m b vf vm vb at stop new x bytes own-laid own-values size-f size-m size-b place ends new-laid new-values =
      let size-own : length (laid 1 own) ≡ length f + (length m + length b) = ap length own-laid ∙ simp length-append in
      leaves words values (record { from = at; to = stop; kept = stop; until = stop; count = span.count })
      (i.before ++ f) m [] [] (b ++ i.behind) (i.values-before ++ vf) vm [] [] (vb ++ i.values-behind) (whole new) (total new) x bytes
      (record {
        laid_out = i.sized;
        rows = i.rows ∙ rw own-laid (simp append_assoc);
        texts = i.texts ∙ rw own-values (simp append_assoc);
        size-a = omega (arith, sizes-append i.before f, i.size-before, length-append i.values-before vf);
        size-b = size-m;
        size-c = unfold sizes in refl;
        size_d = unfold sizes in refl;
        size_e = omega (arith, sizes-append b i.behind, i.size-behind, length-append vb i.values-behind);
        from = omega (arith, i.from, length-append i.before f);
        kept = omega (arith, i.from, length-append i.before f);
        to = omega (arith, i.from, length-append i.before f);
        until = omega (arith, i.from, length-append i.before f);
        count = omega (arith, i.count, i.from, size-own, length-append i.before f, length-append b i.behind);
      })
      (i.few new) (i.new_rows new ∙ rw new-laid (simp append_assoc)) (i.new_texts new ∙ rw new-values (simp append_assoc))

  -- a held field, with what is new in its place
  module _ (tag at : ℕ) (found : at ≡ find_from 1 1 tag span.from (rows_from (span.to - span.from) span.from words))
      (held : holds tag own ≡ true) where
    field-leaves : (new : Map) (x : List Row) (bytes : List ℕ) → ((s : FieldSplit tag own) → laid 1 new ≡ laid 1 s.front ++ (x ++ laid 1 s.back))
        → ((s : FieldSplit tag own) → values_in new ≡ values_in s.front ++ (bytes ++ values_in s.back))
        → Leaves words values (record { from = at; to = at + 1; kept = at + 1; until = at + 1; count = span.count }) (flat x) (length x) bytes (total new) (whole new)
    field-leaves new x bytes new_rows new-values =
        let s = field_split tag own held in
        middle-leaves (laid 1 s.front) (row 1 1 tag (length s.value) ∷ []) (laid 1 s.back) (values_in s.front) s.value (values_in s.back) at (at + 1) new x bytes
        (ap (laid 1) s.whole ∙ laid-joined 1 s.front (field tag s.value s.back) ∙ (unfold laid in refl))
        (ap values_in s.whole ∙ values-joined s.front (field tag s.value s.back) ∙ (unfold values_in in refl))
        (sizes-laid 1 s.front) (unfold sizes size_of in omega arith) (sizes-laid 1 s.back)
        (at_own tag at found ∙ s.place 1 span.from) refl (new_rows s) (new-values s)

    -- the value is replaced
    pub replace_leaves : (value : List ℕ) → Leaves words values (record { from = at; to = at + 1; kept = at + 1; until = at + 1; count = span.count }) (1 ∷ 1 ∷ tag ∷ length value ∷ []) 1 value (total (stored tag value own)) (whole (stored tag value own))
    unfolding flat
    replace_leaves value =
        field-leaves (stored tag value own) (row 1 1 tag (length value) ∷ []) value
        (λ s. ap (laid 1) (stored-held s) ∙ laid-joined 1 s.front (field tag value s.back) ∙ (unfold laid in refl))
        (λ s. ap values_in (stored-held s) ∙ values-joined s.front (field tag value s.back) ∙ (unfold values_in in refl))
      where
        stored-held : (s : FieldSplit tag own) → stored tag value own ≡ joined s.front (field tag value s.back)
        stored-held s = unfold stored in (rw held (s.put value))

    -- the field is removed
    held-leaves : Leaves words values (record { from = at; to = at + 1; kept = at + 1; until = at + 1; count = span.count }) [] 0 [] (total (without_field tag own)) (whole (without_field tag own))
    unfolding flat
    held-leaves =
        field-leaves (without_field tag own) [] []
        (λ s. ap (laid 1) s.gone ∙ laid-joined 1 s.front s.back)
        (λ s. ap values_in s.gone ∙ values-joined s.front s.back)

  -- a field is removed; where it isn't held, no row is cut
  module _ (tag at : ℕ) (found : at ≡ find_from 1 1 tag span.from (rows_from (span.to - span.from) span.from words)) where
    absent_leaves : holds tag own ≡ false → Leaves words values (record { from = at; to = at + 0; kept = at + 0; until = at + 0; count = span.count }) [] 0 [] (total (without_field tag own)) (whole (without_field tag own))
    unfolding flat sizes
    absent_leaves absent =
        let same = field_gone tag own absent in
        middle-leaves (laid 1 own) [] [] (values_in own) [] [] at (at + 0) (without_field tag own) [] [] (sym (append-nil (laid 1 own))) (sym (append-nil (values_in own)))
        (sizes-laid 1 own) refl refl (at_own tag at found ∙ field_absent tag own absent 1 span.from) refl
        (ap (laid 1) same ∙ sym (append-nil (laid 1 own))) (ap values_in same ∙ sym (append-nil (values_in own)))

    pub remove-leaves : (held : ℕ) → held ≡ held_rows at span.to
        → Leaves words values (record { from = at; to = at + held; kept = at + held; until = at + held; count = span.count }) [] 0 [] (total (without_field tag own)) (whole (without_field tag own))
    unfolding held_rows
    remove-leaves held e = rw e (by_test (ltb at span.to) refl)
      where
        by_test : (b : Bool) → ltb at span.to ≡ b
            → Leaves words values (record { from = at; to = at + pick b 1 0; kept = at + pick b 1 0; until = at + pick b 1 0; count = span.count }) [] 0 [] (total (without_field tag own)) (whole (without_field tag own))
        by_test true e = held-leaves tag at found (is_held tag at found (ltb-true _ _ e))
        by_test false e = absent_leaves (is_absent tag at found (ltb-false _ _ e))

    pub held_rows_lem : (held : ℕ) → held ≡ held_rows at span.to → held ≡ pick (holds tag own) 1 0
    unfolding held_rows
    held_rows_lem held e = e ∙ by_test (ltb at span.to) refl
      where
        by_test : (b : Bool) → ltb at span.to ≡ b → ◌≡◌ {A = ℕ} (pick b 1 0) (pick (holds tag own) 1 0)
        by_test true e = rw (is_held tag at found (ltb-true _ _ e))
        by_test false e = rw (is_absent tag at found (ltb-false _ _ e))

  -- a new field comes last, and takes its run along
  pub append-leaves : (tag : ℕ) → holds tag own ≡ false → (value : List ℕ) (first last : ℕ)
      → first ≡ find_from 2 1 tag span.from (rows_from (span.to - span.from) span.from words)
      → last ≡ run_end_from 1 tag first (rows_from (span.to - first) first words)
      → Leaves words values (record { from = first; to = last; kept = first; until = span.to; count = span.count }) (1 ∷ 1 ∷ tag ∷ length value ∷ []) 1 value (total (stored tag value own)) (whole (stored tag value own))
  unfolding flat
  append-leaves tag absent value first last begins ends =
      let s = run_split tag own in
      let f = laid 1 s.front in
      let r = laid 1 s.run in
      let b = laid 1 s.back in
      let w = split_rows tag s in
      let place = run-begins tag first begins in
      let stop = run_ends tag first begins last ends in
      let new : stored tag value own ≡ joined (joined s.front s.back) (field tag value s.run) = unfold stored in rw (absent, s.gone, s.taken) in
      leaves words values (record { from = first; to = last; kept = first; until = span.to; count = span.count })
      (i.before ++ f) [] r b i.behind
      (i.values-before ++ values_in s.front) [] (values_in s.run) (values_in s.back) i.values-behind (whole (stored tag value own)) (total (stored tag value own)) (row 1 1 tag (length value) ∷ []) value
      (record {
        laid_out = i.sized;
        rows = i.rows ∙ rw w.0 (simp append_assoc);
        texts = i.texts ∙ rw w.1 (simp append_assoc);
        size-a = omega (arith, sizes-append i.before f, i.size-before, sizes-laid 1 s.front, length-append i.values-before (values_in s.front));
        size-b = unfold sizes in refl;
        size-c = sizes-laid 1 s.run;
        size_d = sizes-laid 1 s.back;
        size_e = i.size-behind;
        from = omega (arith, place, i.from, length-append i.before f);
        kept = omega (arith, place, i.from, length-append i.before f);
        to = omega (arith, stop, place, i.from, length-append i.before f);
        until = omega (arith, i.to, w.2, length-append i.before f);
        count = omega (arith, i.count, w.2, length-append i.before f);
      })
      (i.few (stored tag value own))
      (i.new_rows (stored tag value own) ∙ rw (new, laid-joined 1 (joined s.front s.back) (field tag value s.run), laid-joined 1 s.front s.back) (unfold laid in simp append_assoc))
      (i.new_texts (stored tag value own) ∙ rw (new, values-joined (joined s.front s.back) (field tag value s.run), values-joined s.front s.back) (unfold values_in in simp append_assoc))

  -- storing is judged by what it would leave
  module _ (tag : ℕ) (value : List ℕ) (fields : ℕ) (kept : holds tag own ≡ true → total (stored tag value own) ≡ fields) (more : holds tag own ≡ false → total (stored tag value own) ≡ fields + 1) where
    pub put_ready : length value ≤ 8192 → fields < 8192 → Ready words values span tag value fields
    unfolding field_place run_place run_stop one_row run_last field_row
    put_ready small counted =
        record {
          whole = i.sized.whole;
          forwards = span_grows.0;
          last = span_grows.1;
          few = span_grows.2;
          small = small;
          counted = counted;
          replaces = λ h.
              let held = is_held tag _ refl h in
              rw (kept held) at (replace_leaves tag _ refl held value).able;
          appends = λ h.
              let absent = is_absent tag _ refl h in
              rw (more absent) at (append-leaves tag absent value _ _ refl refl).able;
        }

    pub put-judged : put_at span tag value fields words values ≡ judged_map words values true (total (stored tag value own)) (whole (stored tag value own))
    unfolding put_at field_place run_place run_stop one_row run_last field_row
    put-judged = by_test (ltb (field_place span tag words) span.to) refl
      where
        by_test : (b : Bool) → ltb (field_place span tag words) span.to ≡ b
            → pick b
            (changed_at (one_row (field_place span tag words) span.count) (field_row tag value) 1 value true fields words values)
            (changed_at (run_last (run_place span tag words) (run_stop span tag words) span) (field_row tag value) 1 value true (fields + 1) words values)
            ≡ judged_map words values true (total (stored tag value own)) (whole (stored tag value own))
        by_test true e =
            let held = is_held tag _ refl (ltb-true _ _ e) in
            ap (λ (n : ℕ). changed_at (one_row (field_place span tag words) span.count) (field_row tag value) 1 value true n words values) (sym (kept held))
            ∙ (replace_leaves tag _ refl held value).done true
        by_test false e =
            let absent = is_absent tag _ refl (ltb-false _ _ e) in
            ap (λ (n : ℕ). changed_at (run_last (run_place span tag words) (run_stop span tag words) span) (field_row tag value) 1 value true n words values) (sym (more absent))
            ∙ (append-leaves tag absent value _ _ refl refl).done true
