-- Hanging a draft is judged by what it would leave.
use Rattle.std.specs.Prelude.{◌≡◌, refl, Bool, true, false, List, ◌∷◌, ◌++◌, ℕ, zero, suc, ◌+◌, ◌-◌, ◌≤◌, length, eqb}
use Rattle.std.proofs.Common.{sym, ◌∙◌, length-append, eq-eqb}
use Rattle.std.proofs.Math.Path.{ap}
use native.Mathlib.Omega.{arith}
use Rattle.field_rules.specs.Choice.{pick}
use Rattle.message_maps.specs.Map.{Map, end, field, entry, joined, holds, holds_any, past_leading, hung_on_count, hung_alone, hung, field_count, values_in}
use Rattle.message_maps.specs.Rows.{Row, row, laid, flat, row_at, rows_from, message_rows}
use Rattle.message_lent_rules.specs.Lent.{row_count, rows_of, fields_in}
use Rattle.message_lent_rules.specs.Formed.{is_run}
use Rattle.message_rules.specs.Changes.{judged_map}
use Rattle.message_rules.specs.RowChanges.{changed_at}
use Rattle.message_rules.specs.LayoutLaws.{joined_end, laid-joined, count-joined}
use Rattle.message_rules.specs.FrameLaws.{Frame, Leaves}
use Rattle.message_rules.specs.FrameLaws as frame
use Rattle.message_rules.specs.declared.Span.{Span}
use Rattle.message_hung_rows.specs.Hanging.{raised, all_of, hung_cut, replaced_fields, hung_fields, start_of, delimiter_of_lem, hang_at}
use Rattle.message_hung_rows.specs.Hanging.{Lent, Hangable}
use Rattle.message_hung_rows.specs.RowLaws.{hang-some}
use Rattle.message_hung_rows.specs.RaiseLaws.{raised-length}
use Rattle.message_rules.specs.Runs.{is_empty, is_whole, hung_run}
use Rattle.message_runs.specs.RunLaws.{only_entries, raised-laid, within-laid, all_laid}
use Rattle.message_rules.proofs.Drafts.{fields-run}
use Rattle.message_runs.specs.DraftLaws.{Draft}
use Rattle.message_runs.specs.EnterLaws.{count_rows}
use Rattle.message_runs.specs.HungLaws.{hung_at, hung-leaves, hung-replaced, hung-count}

-- a run brings no field of the map itself
any-behind : (run m : Map) → only_entries run ≡ true → holds_any (joined run m) ≡ holds_any m
unfolding only_entries holds_any joined
any-behind end m h = refl
any-behind (field t v rest) m h = let z : ◌≡◌ {A = ℕ} 0 1 = cc in absurd (omega arith)
any-behind (entry s d own rest) m h = any-behind rest m h

any_past : (start : ℕ) (m : Map) → holds_any (past_leading start m) ≡ holds_any m
unfolding holds_any past_leading
any_past start end = refl
any_past start (field t v rest) = refl
any_past start (entry s d own rest) = by_test (eqb s start) (any_past start rest)
  where
    by_test : (b : Bool) → holds_any (past_leading start rest) ≡ holds_any rest → holds_any (pick b (past_leading start rest) (entry s d own rest)) ≡ holds_any rest
    by_test true e = e
    by_test false e = refl

any-count : (start : ℕ) (run m : Map) → holds_any (hung_on_count start run m) ≡ holds_any m
unfolding holds_any hung_on_count
any-count start run end = refl
any-count start run (field t v rest) = by_test (eqb t start)
  where
    by_test : (b : Bool) → holds_any (pick b (field t v (joined run (past_leading start rest))) (field t v (hung_on_count start run rest))) ≡ true
    by_test true = refl
    by_test false = refl
any-count start run (entry s d own rest) = any-count start run rest

any-alone : (start : ℕ) (run m : Map) → only_entries run ≡ true → holds_any (hung_alone start run m) ≡ holds_any m
unfolding holds_any hung_alone
any-alone start run end h = ap holds_any (sym (joined_end run)) ∙ any-behind run end h
any-alone start run (field t v rest) h = refl
any-alone start run (entry s d own rest) h = by_test (eqb s start) (any-alone start run rest h)
  where
    by_test : (b : Bool) → holds_any (hung_alone start run rest) ≡ holds_any rest
        → holds_any (pick b (joined run (past_leading start rest)) (entry s d own (hung_alone start run rest))) ≡ holds_any rest
    by_test true e = any-behind run (past_leading start rest) h ∙ any_past start rest
    by_test false e = e

pub hung-any : (start : ℕ) (run m : Map) → only_entries run ≡ true → holds_any (hung start run m) ≡ holds_any m
unfolding hung
hung-any start run m h = by_test (holds start m)
  where
    by_test : (b : Bool) → holds_any (pick b (hung_on_count start run m) (hung_alone start run m)) ≡ holds_any m
    by_test true = any-count start run m
    by_test false = any-alone start run m h

-- a draft is lent
pub draft_lent : (run_words run_values : List ℕ) (run : Map) → Draft run_words run_values run → Lent run_words run_values
draft_lent run_words run_values run d =
    record {
      whole = d.sized.whole;
      store = d.sized.store;
      counted = d.sized.counted;
      sized = d.sized.within;
      near = rw d.rows (within-laid message_rows 0 run (omega (arith, count_rows run_words run_values run d, d.sized.counted)));
      fields = omega (arith, ap (fields_in 0) d.rows, fields-run run, d.few);
    }

-- the tags of its first entry
first-row : (n : ℕ) (words : List ℕ) (r : Row) (rows : List Row) → rows_from n 0 words ≡ r ∷ rows → row_at words 0 ≡ r
unfolding rows_from
first-row zero words r rows e = let z : ◌≡◌ {A = ℕ} 0 1 = cc in absurd (omega arith)
first-row (suc n) words r rows e = cc

row-tags : (words : List ℕ) (s t : ℕ) → row_at words 0 ≡ row 2 0 s t → (start_of words ≡ s) × (delimiter_of_lem words ≡ t)
unfolding row_at start_of delimiter_of_lem
row-tags words s t e = (cc, cc)

pub first-tags : (run_words run_values : List ℕ) (s t : ℕ) (own rest : Map) → Draft run_words run_values (entry s t own rest)
    → (start_of run_words ≡ s) × (delimiter_of_lem run_words ≡ t)
unfolding rows_of laid
first-tags run_words run_values s t own rest d =
    row-tags run_words s t (first-row (row_count run_words - 0) run_words (row 2 0 s t) (laid 1 own ++ laid 0 rest) d.rows)

whole-first : (s t : ℕ) (own rest : Map) → is_run s t (entry s t own rest) ≡ is_whole (entry s t own rest)
unfolding is_run is_whole
whole-first s t own rest = rw (eq-eqb s s refl, eq-eqb t t refl)

not_empty : is_empty end ≡ false → ⊥
unfolding is_empty
not_empty h = let n : ◌≡◌ {A = ℕ} 0 1 = cc in omega arith

no_field : (t : ℕ) (v : List ℕ) (rest : Map) → only_entries (field t v rest) ≡ true → ⊥
unfolding only_entries
no_field t v rest h = let n : ◌≡◌ {A = ℕ} 0 1 = cc in omega arith

hung-entry : (s t : ℕ) (o rest own : Map) → hung s (entry s t o rest) own ≡ hung_run (entry s t o rest) own
unfolding hung_run
hung-entry s t o rest own = refl

rows_some : (m : Map) → is_empty m ≡ false → length (laid 0 m) ≡ 0 → ⊥
unfolding is_empty laid
rows_some end h e = let n : ◌≡◌ {A = ℕ} 0 1 = cc in omega arith
rows_some (field t v rest) h e = omega arith
rows_some (entry s d own rest) h e = omega arith

module _ (words values : List ℕ) (span : Span) (own : Map) (whole : Map → Map) (total : Map → ℕ) (i : Frame words values span own whole total)
    (run_words run_values : List ℕ) (run : Map) (d : Draft run_words run_values run)
    (fields : ℕ) (adds : (x : Map) → holds_any x ≡ holds_any own → total x + field_count own ≡ fields + field_count x) (most : field_count own ≤ fields)
    (counted : fields ≤ 1024) where
  old_few : replaced_fields span (start_of run_words) words ≤ fields
  old_few =
      let h = hung_at words values span own whole total i (start_of run_words) run in
      omega (
        arith,
        hung-replaced words values span own whole total i (start_of run_words) run,
        ap field_count h.own_is,
        count-joined h.front (joined h.old h.back),
        count-joined h.old h.back,
      )

  hung_fields_lem : total (hung (start_of run_words) run own) ≡ hung_fields span (start_of run_words) run_words fields words
  unfolding hung_fields
  hung_fields_lem =
      omega (
        arith,
        adds (hung (start_of run_words) run own) (hung-any (start_of run_words) run own d.only),
        hung-count words values span own whole total i (start_of run_words) run,
        hung-replaced words values span own whole total i (start_of run_words) run,
        old_few,
        ap (fields_in 0) d.rows,
        fields-run run,
      )

  run-flat : flat (raised (rows_of run_words)) ≡ flat (laid 1 run)
  run-flat = ap flat (ap raised d.rows ∙ raised-laid 0 run)

  run-count : row_count run_words ≡ length (laid 1 run)
  run-count = count_rows run_words run_values run d ∙ sym (raised-length (laid 0 run)) ∙ ap length (raised-laid 0 run)

  pub hang_able : Hangable words values span run_words run_values fields
  hang_able =
      let g = frame.span_grows _ _ _ _ _ _ i in
      let h = hung_at words values span own whole total i (start_of run_words) run in
      let size : length (laid 1 own) ≡ length (laid 1 h.front) + length (laid 1 (joined h.old h.back)) =
      ap (λ (m : Map). length (laid 1 m)) h.own_is ∙ ap length (laid-joined 1 h.front (joined h.old h.back))
      ∙ length-append (laid 1 h.front) (laid 1 (joined h.old h.back)) in
      record {
        run = draft_lent run_words run_values run d;
        whole = i.sized.whole;
        forwards = g.0;
        last = g.1;
        few = g.2;
        counted = counted;
        placed = omega (arith, h.place, i.from, i.to, size);
        replaced = old_few;
        able = rw (run-flat, run-count, ← hung_fields_lem) (hung-leaves words values span own whole total i (start_of run_words) run).able;
      }

  hung-first : is_empty run ≡ false
      → (hung (start_of run_words) run own ≡ hung_run run own) × (all_of (start_of run_words) (delimiter_of_lem run_words) (laid 0 run) ≡ is_whole run)
  hung-first some = by_run run refl
    where
      by_run : (m : Map) → run ≡ m
          → (hung (start_of run_words) m own ≡ hung_run m own) × (all_of (start_of run_words) (delimiter_of_lem run_words) (laid 0 m) ≡ is_whole m)
      by_run end e = absurd (not_empty (rw e at some))
      by_run (field t v rest) e = absurd (no_field t v rest (rw e at d.only))
      by_run (entry s t o rest) e =
          let k = first-tags run_words run_values s t o rest (rw e at d) in
          let only : only_entries (entry s t o rest) ≡ true = rw e at d.only in
          (rw k.0 (hung-entry s t o rest own), rw (k.0, k.1) (all_laid s t (entry s t o rest) only ∙ whole-first s t o rest))

  pub hang-judged : is_empty run ≡ false
      → hang_at span fields run_words run_values words values ≡ judged_map words values (is_whole run) (total (hung_run run own)) (whole (hung_run run own))
  hang-judged some =
      let f = hung-first some in
      let rows : row_count run_words ≡ 0 → ⊥ = λ z. no_rows some (sym (count_rows run_words run_values run d) ∙ z) in
      hang-some span fields run_words run_values words values rows
      ∙ rw (run-flat, run-count, d.texts, ← hung_fields_lem)
      (ap (λ (b : Bool). changed_at (hung_cut span (start_of run_words) words) (flat (laid 1 run)) (length (laid 1 run)) (values_in run) b
      (total (hung (start_of run_words) run own)) words values) (ap (all_of (start_of run_words) (delimiter_of_lem run_words)) d.rows ∙ f.1))
      ∙ (hung-leaves words values span own whole total i (start_of run_words) run).done (is_whole run)
      ∙ ap (λ (m : Map). judged_map words values (is_whole run) (total m) (whole m)) f.0
    where
      no_rows : is_empty run ≡ false → length (laid 0 run) ≡ 0 → ⊥
      no_rows h e = rows_some run h e
