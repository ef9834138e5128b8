-- An entry that is added stands behind all rows of its draft, and brings no value.
use Rattle.std.specs.Prelude.{◌≡◌, refl, ℕ, ◌+◌, ◌-◌}
use Rattle.std.proofs.Math.Path.{sym, ap}
use Rattle.std.proofs.Common.{◌∙◌, arith}
use Rattle.std.proofs.Math.Bool.{true}
use mathlib.Core.List.{List, [], ◌∷◌, ◌++◌, append-nil}
use Rattle.std.proofs.Math.Nat.{sub-zero}
use Rattle.std.proofs.Math.ListN.{length}
use Rattle.message_maps.specs.Map.{Map, end, entry, joined, holds_any, field_count, values_in}
use Rattle.message_maps.specs.Rows.{row, laid, flat, rows_from, sizes}
use Rattle.message_lent_rules.specs.Lent.{row_count, rows_of, fields_in}
use Rattle.message_rules.specs.Changes.{judged_map}
use Rattle.message_rules.specs.RowChanges.{Cuttable, changed_at}
use Rattle.message_rules.specs.LayoutLaws.{laid-joined, values-joined, count-joined, sizes-laid}
use Rattle.message_rules.specs.PlaceLaws.{rows_length}
use Rattle.message_rules.specs.CutLaws.{Cutting, cut_judged, cut_able}
use Rattle.message_rules.specs.Runs.{judged_run}
use Rattle.message_rules.proofs.Drafts.{fields-run, few_rows}
use Rattle.message_runs.specs.DraftLaws.{Draft}

module _ (words values : List ℕ) (run : Map) (d : Draft words values run) where
  pub count_rows : row_count words ≡ length (laid 0 run)
  unfolding rows_of
  count_rows = sym (rows_length (row_count words - 0) 0 words ∙ sub-zero (row_count words)) ∙ ap length d.rows

  pub fields_now : (count : ℕ) → count ≡ row_count words → fields_in 0 (rows_from (count - 0) 0 words) ≡ field_count run
  unfolding rows_of
  fields_now count e = rw e (ap (fields_in 0) d.rows ∙ fields-run run)

  module _ (start delimiter : ℕ) where
    entered : Map
    entered = joined run (entry start delimiter end end)

    pub enter_fields : field_count (joined run (entry start delimiter end end)) ≡ field_count run + 1
    enter_fields = count-joined run (entry start delimiter end end) ∙ (unfold field_count holds_any in omega arith)

    behind-all : (count : ℕ) → count ≡ row_count words → Cutting words values (record { from = count; to = count; kept = count; until = count; count = count }) (laid 0 run) [] [] [] [] (values_in run) [] [] [] []
    behind-all count e =
        record {
          laid_out = d.sized;
          rows = d.rows ∙ sym (append-nil (laid 0 run));
          texts = d.texts ∙ sym (append-nil (values_in run));
          size-a = sizes-laid 0 run;
          size-b = unfold sizes in refl;
          size-c = unfold sizes in refl;
          size_d = unfold sizes in refl;
          size_e = unfold sizes in refl;
          from = e ∙ count_rows;
          kept = omega (arith, e, count_rows);
          to = omega (arith, e, count_rows);
          until = omega (arith, e, count_rows);
          count = omega (arith, e, count_rows);
        }

    enter_rows : laid 0 (joined run (entry start delimiter end end)) ≡ laid 0 run ++ (row 2 0 start delimiter ∷ [])
    enter_rows = laid-joined 0 run (entry start delimiter end end) ∙ (unfold laid in refl)

    enter_values : values_in (joined run (entry start delimiter end end)) ≡ values_in run ++ []
    enter_values = values-joined run (entry start delimiter end end) ∙ (unfold values_in in refl)

    pub enter_able : (count fields : ℕ) → count ≡ row_count words → fields ≡ field_count run + 1
        → Cuttable words values (record { from = count; to = count; kept = count; until = count; count = count }) (2 ∷ 0 ∷ start ∷ delimiter ∷ []) 1 fields
    unfolding flat
    enter_able count fields e f =
        cut_able words values _ (laid 0 run) [] [] [] [] (values_in run) [] [] [] [] (behind-all count e) (joined run (entry start delimiter end end)) fields
        (λ h. few_rows (joined run (entry start delimiter end end)) (omega (arith, enter_fields))) (row 2 0 start delimiter ∷ []) [] enter_rows enter_values

    pub enter_done : (count fields : ℕ) → count ≡ row_count words → fields ≡ field_count run + 1
        → changed_at (record { from = count; to = count; kept = count; until = count; count = count }) (2 ∷ 0 ∷ start ∷ delimiter ∷ []) 1 [] true fields words values
        ≡ judged_run words values true (joined run (entry start delimiter end end))
    unfolding flat judged_run
    enter_done count fields e f =
        cut_judged words values _ (laid 0 run) [] [] [] [] (values_in run) [] [] [] [] (behind-all count e) (joined run (entry start delimiter end end)) fields
        (λ h. few_rows (joined run (entry start delimiter end end)) (omega (arith, enter_fields))) (row 2 0 start delimiter ∷ []) [] enter_rows enter_values true
        ∙ ap (λ (n : ℕ). judged_map words values true n (joined run (entry start delimiter end end))) (f ∙ sym enter_fields)
