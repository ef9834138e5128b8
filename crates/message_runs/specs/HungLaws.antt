-- Hanging a run in a map that stands at level 1: the rows of the run on its start tag are cut out for it, behind its count where there is
-- one.
use Rattle.std.specs.Prelude.{◌≡◌, Bool, true, false, ℕ, ◌+◌, ◌-◌, ◌≤◌, ◌<◌, ltb}
use Rattle.std.proofs.Math.Path.{refl, sym, ap}
use Rattle.std.proofs.Common.{◌∙◌, arith, ltb-true, ltb-false}
use mathlib.Core.List.{List, [], ◌++◌, append_assoc, append-nil}
use Rattle.std.proofs.Math.ListN.{length, length-append}
use Rattle.message_maps.specs.Map.{Map, end, field, joined, holds, leading, past_leading, hung_on_count, hung_alone, hung, field_count, values_in}
use Rattle.message_maps.specs.Rows.{Row, laid, flat, rows_from, run_end_from}
use Rattle.message_lent_rules.specs.Lent.{row_count, fields_in}
use Rattle.message_lent_rules.specs.LaidLaws.{fields_laid, shallow}
use Rattle.message_rules.specs.RowChanges.{field_place, run_place}
use Rattle.message_rules.specs.LayoutLaws.{joined_assoc, laid-joined, values-joined, count-joined, sizes-laid}
use Rattle.message_rules.specs.SplitLaws.{field_split, run_split, leading-joined, leading-ends}
use Rattle.message_rules.specs.PlaceLaws.{rows_part}
use Rattle.message_rules.specs.FrameLaws.{Frame, Leaves}
use Rattle.message_rules.specs.FrameLaws as frame
use Rattle.message_rules.specs.declared.Span.{Span}
use Rattle.message_hung_rows.specs.Hanging.{hung_place, hung_stop, hung_cut, replaced_fields}
use Rattle.message_hung_rows.specs.RowLaws.{place-count, place-run}

behind-field : (a : Map) (t : ℕ) (v : List ℕ) (b : Map) → joined a (field t v b) ≡ joined (joined a (field t v end)) b
behind-field a t v b = sym (joined_assoc a (field t v end) b ∙ (unfold joined in refl))

hung-held : (start : ℕ) (run m : Map) → holds start m ≡ true → hung start run m ≡ hung_on_count start run m
unfolding hung
hung-held start run m h = rw h

hung_absent : (start : ℕ) (run m : Map) → holds start m ≡ false → hung start run m ≡ hung_alone start run m
unfolding hung
hung_absent start run m h = rw h

stop_is : (span : Span) (start : ℕ) (words : List ℕ) (rows : List Row)
    → rows_from (span.to - hung_place span start words) (hung_place span start words) words ≡ rows
    → hung_stop span start words ≡ run_end_from 1 start (hung_place span start words) rows
unfolding hung_stop
stop_is span start words rows e = rw e

module _ (words values : List ℕ) (span : Span) (own : Map) (whole : Map → Map) (total : Map → ℕ) (i : Frame words values span own whole total) (start : ℕ)
    (run : Map) where
  -- what stands before the place, what is cut out, and what stands behind
  pub record HungAt : Type 0 where
    pub front : Map
    pub old : Map
    pub back : Map
    pub own_is : own ≡ joined front (joined old back)
    pub hung_is : hung start run own ≡ joined front (joined run back)
    pub place : hung_place span start words ≡ span.from + length (laid 1 front)
    pub stop : hung_stop span start words ≡ hung_place span start words + length (laid 1 old)

  rest_rows : (front rest : Map) (at : ℕ) → own ≡ joined front rest → at ≡ span.from + length (laid 1 front)
      → rows_from (span.to - at) at words ≡ laid 1 rest
  rest_rows front rest at e f =
      let own-laid : laid 1 own ≡ laid 1 front ++ laid 1 rest = ap (laid 1) e ∙ laid-joined 1 front rest in
      rows_part words (row_count words) at span.to (i.before ++ laid 1 front) (laid 1 rest) i.behind
      (frame.rows_all _ _ _ _ _ _ i ∙ rw own-laid (simp append_assoc))
      (simp length-append (omega (arith, i.from)))
      (simp length-append (omega (arith, i.to, ap length own-laid, length-append (laid 1 front) (laid 1 rest))))

  on_count_lem : field_place span start words < span.to → HungAt
  on_count_lem below =
      let held = frame.is_held _ _ _ _ _ _ i start (field_place span start words) (unfold field_place in refl) below in
      let s = field_split start own held in
      let front = joined s.front (field start s.value end) in
      let at : field_place span start words ≡ span.from + length (laid 1 s.front) =
      frame.at_own _ _ _ _ _ _ i start (field_place span start words) (unfold field_place in refl) ∙ s.place 1 span.from in
      let size : length (laid 1 front) ≡ length (laid 1 s.front) + 1 =
      ap length (laid-joined 1 s.front (field start s.value end)) ∙ simp length-append (unfold laid in omega arith) in
      let place : hung_place span start words ≡ span.from + length (laid 1 front) =
      place-count span start words (field_place span start words) refl below ∙ omega (arith, at, size) in
      let own_is : own ≡ joined front s.back = s.whole ∙ behind-field s.front start s.value s.back in
      record {
        front = front;
        old = leading start s.back;
        back = past_leading start s.back;
        own_is = own_is ∙ ap (joined front) (leading-joined start s.back);
        hung_is = hung-held start run own held ∙ s.hangs run ∙ behind-field s.front start s.value (joined run (past_leading start s.back));
        place = place;
        stop =
            stop_is span start words _ (rest_rows front s.back (hung_place span start words) own_is place)
            ∙ leading-ends start s.back 1 (hung_place span start words);
      }

  alone : span.to ≤ field_place span start words → HungAt
  alone past =
      let absent = frame.is_absent _ _ _ _ _ _ i start (field_place span start words) (unfold field_place in refl) past in
      let s = run_split start own in
      let place : hung_place span start words ≡ span.from + length (laid 1 s.front) =
      place-run span start words (field_place span start words) refl past (run_place span start words) refl
      ∙ frame.run-begins _ _ _ _ _ _ i start (run_place span start words) (unfold run_place in refl) in
      record {
        front = s.front;
        old = s.run;
        back = s.back;
        own_is = s.whole;
        hung_is = hung_absent start run own absent ∙ s.hangs run;
        place = place;
        stop =
            stop_is span start words _ (rest_rows s.front (joined s.run s.back) (hung_place span start words) s.whole place)
            ∙ s.ends 1 (hung_place span start words);
      }

  pub hung_at : HungAt
  hung_at = by_test (ltb (field_place span start words) span.to) refl
    where
      by_test : (b : Bool) → ltb (field_place span start words) span.to ≡ b → HungAt
      by_test true e = on_count_lem (ltb-true _ _ e)
      by_test false e = alone (ltb-false _ _ e)

  pub hung-leaves : Leaves words values (hung_cut span start words) (flat (laid 1 run)) (length (laid 1 run)) (values_in run) (total (hung start run own))
      (whole (hung start run own))
  unfolding hung_cut
  hung-leaves =
      let h = hung_at in
      frame.middle-leaves _ _ _ _ _ _ i (laid 1 h.front) (laid 1 h.old) (laid 1 h.back) (values_in h.front) (values_in h.old)
      (values_in h.back)
      (hung_place span start words) (hung_stop span start words) (hung start run own) (laid 1 run) (values_in run)
      (ap (laid 1) h.own_is ∙ laid-joined 1 h.front (joined h.old h.back)
      ∙ ap (λ (r : List Row). laid 1 h.front ++ r) (laid-joined 1 h.old h.back))
      (ap values_in h.own_is ∙ values-joined h.front (joined h.old h.back)
      ∙ ap (λ (r : List ℕ). values_in h.front ++ r) (values-joined h.old h.back))
      (sizes-laid 1 h.front) (sizes-laid 1 h.old) (sizes-laid 1 h.back) h.place h.stop
      (ap (laid 1) h.hung_is ∙ laid-joined 1 h.front (joined run h.back)
      ∙ ap (λ (r : List Row). laid 1 h.front ++ r) (laid-joined 1 run h.back))
      (ap values_in h.hung_is ∙ values-joined h.front (joined run h.back)
      ∙ ap (λ (r : List ℕ). values_in h.front ++ r) (values-joined run h.back))

  -- the fields of the run that is replaced
  pub hung-replaced : replaced_fields span start words ≡ field_count hung_at.old
  unfolding replaced_fields
  hung-replaced =
      let h = hung_at in
      let own-laid : laid 1 own ≡ laid 1 h.front ++ (laid 1 h.old ++ laid 1 h.back) =
      ap (laid 1) h.own_is ∙ laid-joined 1 h.front (joined h.old h.back)
      ∙ ap (λ (r : List Row). laid 1 h.front ++ r) (laid-joined 1 h.old h.back) in
      let rows : rows_from (hung_stop span start words - hung_place span start words) (hung_place span start words) words ≡ laid 1 h.old =
      rows_part words (row_count words) (hung_place span start words) (hung_stop span start words) (i.before ++ laid 1 h.front) (laid 1 h.old)
      (laid 1 h.back ++ i.behind)
      (frame.rows_all _ _ _ _ _ _ i ∙ rw own-laid (simp append_assoc)) (simp length-append (omega (arith, i.from, h.place)))
      (simp length-append (omega (arith, i.from, h.place, h.stop))) in
      ap (fields_in 1) (rows ∙ sym (append-nil (laid 1 h.old))) ∙ fields_laid 1 1 h.old [] (omega arith) (unfold shallow in refl)
      ∙ (unfold fields_in in omega arith)

  pub hung-count : field_count (hung start run own) + field_count hung_at.old ≡ field_count own + field_count run
  hung-count =
      let h = hung_at in
      omega (
        arith,
        ap field_count h.own_is,
        ap field_count h.hung_is,
        count-joined h.front (joined h.old h.back),
        count-joined h.old h.back,
        count-joined h.front (joined run h.back),
        count-joined run h.back,
      )
