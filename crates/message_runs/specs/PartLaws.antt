-- Hanging on a part of a message, and in the last entry of a draft: one law for each way.
use Rattle.std.specs.Prelude.{◌≡◌, refl, Bool, true, false, List, ℕ, ◌+◌, ◌-◌, ◌≤◌, length}
use Rattle.std.proofs.Common.{sym, ◌∙◌, arith, le-leb}
use Rattle.std.proofs.Math.Path.{ap}
use Rattle.message_maps.specs.Map.{Map, end, field, entry, holds_any, field_count}
use Rattle.message_maps.specs.Rows.{laid, rows_from, sizes}
use Rattle.message_lent_rules.specs.Lent.{row_count, rows_of, is_message}
use Rattle.message_lent_rules.specs.Meaning.{Message, parts, message_in}
use Rattle.message_rules.specs.Changes.{after, part_of, with_part, field_total, value_total, judged}
use Rattle.message_rules.specs.RowChanges.{span_of}
use Rattle.message_rules.specs.ChangeLaws.{of_message_lem}
use Rattle.message_rules.specs.LayoutLaws.{sizes-laid}
use Rattle.message_rules.specs.StoreLaws.{lent_in, part_frame, fields_of, few-fields, judged-parts}
use Rattle.message_rules.specs.PartLaws.{part_split}
use Rattle.message_rules.specs.declared.Part.{Part}
use Rattle.message_rules.specs.declared.Change.TheVariants.{NoMessage, NotStorable, NoRun}
use Rattle.message_hung_rows.specs.Hanging.{untagged_in, hang_at, Hangable}
use Rattle.message_hung_rows.specs.RowLaws.{hang-none}
use Rattle.message_rules.specs.Runs.{is_draft, run_in, is_empty, is_whole, hung_run, has_untagged, hanging}
use Rattle.message_runs.specs.RunLaws.{untagged_laid}
use Rattle.message_runs.specs.DraftLaws.{draft_of, draft_no, draft_yes}
use Rattle.message_runs.specs.EnterLaws.{count_rows}
use Rattle.message_runs.specs.HangLaws.{hang_able, hang-judged}

-- the tags of a draft that is lent
pub draft_tags : (run_words run_values : List ℕ) (count : ℕ) → is_draft run_words run_values ≡ true → count ≡ row_count run_words
    → untagged_in (rows_from (count - 0) 0 run_words) ≡ has_untagged (run_in run_words run_values)
unfolding rows_of
draft_tags run_words run_values count h e =
    let d = draft_of run_words run_values h in rw e (ap untagged_in d.rows ∙ untagged_laid (run_in run_words run_values) d.only)

-- an empty run has no rows
pub empty-run : (run : Map) → is_empty run ≡ true → (length (laid 0 run) ≡ 0) × (is_whole run ≡ false) × ((m : Map) → hung_run run m ≡ m)
unfolding is_empty laid is_whole hung_run
empty-run end h = (refl, refl, λ m. refl)
empty-run (field t v rest) h = let z : ◌≡◌ {A = ℕ} 0 1 = cc in absurd (omega arith)
empty-run (entry s d own rest) h = let z : ◌≡◌ {A = ℕ} 0 1 = cc in absurd (omega arith)

judged-none : (words values : List ℕ) (m : Message) → value_total m ≤ 8192 → judged words values false m ≡ after NoRun words values
unfolding judged
judged-none words values m h = rw (le-leb _ _ h)

module _ (part : Part) (words values run_words run_values : List ℕ) (lent : is_message words values ≡ true) where
  pub hang_no_run : is_draft run_words run_values ≡ false → hanging part run_words run_values words values ≡ after NoMessage words values
  unfolding hanging
  hang_no_run h = of_message_lem words values _ lent ∙ draft_no run_words run_values _ _ h

  module _ (drafted : is_draft run_words run_values ≡ true) where
    pub hang_untagged : has_untagged (run_in run_words run_values) ≡ true → hanging part run_words run_values words values ≡ after NotStorable words values
    unfolding hanging
    hang_untagged h = of_message_lem words values _ lent ∙ draft_yes run_words run_values _ _ drafted ∙ rw h

    pub hang-on : has_untagged (run_in run_words run_values) ≡ false
        → hanging part run_words run_values words values
        ≡ judged words values (is_whole (run_in run_words run_values)) (with_part part (hung_run (run_in run_words run_values) (part_of part (message_in words values)))
        (message_in words values))
    unfolding hanging
    hang-on h = of_message_lem words values _ lent ∙ draft_yes run_words run_values _ _ drafted ∙ rw h

    adds : (x : Map) → holds_any x ≡ holds_any (part_of part (message_in words values))
        → field_total (with_part part x (message_in words values)) + field_count (part_of part (message_in words values))
        ≡ field_total (message_in words values) + field_count x
    adds x e = fields_of words values part (message_in words values) (lent_in words values part lent) x

    most : field_count (part_of part (message_in words values)) ≤ field_total (message_in words values)
    most = let s = part_split part (message_in words values) in omega (arith, s.fields (part_of part (message_in words values)), ap field_total s.same)

    pub part_able : Hangable words values (span_of part (message_in words values)) run_words run_values (field_total (message_in words values))
    part_able =
        hang_able words values _ _ _ _ (part_frame words values part (message_in words values) (lent_in words values part lent)) run_words run_values
        (run_in run_words run_values) (draft_of run_words run_values drafted)
        (field_total (message_in words values)) adds most (few-fields words values lent)

    pub part-judged : hang_at (span_of part (message_in words values)) (field_total (message_in words values)) run_words run_values words values
        ≡ judged words values (is_whole (run_in run_words run_values)) (with_part part (hung_run (run_in run_words run_values) (part_of part (message_in words values)))
        (message_in words values))
    part-judged = by_run (is_empty (run_in run_words run_values)) refl
      where
        m : Message
        m = message_in words values

        small : value_total (message_in words values) ≤ 8192
        small =
            let i = lent_in words values part lent in
            unfold value_total in omega (arith, sizes-laid 0 (parts (message_in words values)), ap sizes i.all, i.sized.within)

        by_run : (b : Bool) → is_empty (run_in run_words run_values) ≡ b
            → hang_at (span_of part (message_in words values)) (field_total (message_in words values)) run_words run_values words values
            ≡ judged words values (is_whole (run_in run_words run_values))
            (with_part part (hung_run (run_in run_words run_values) (part_of part (message_in words values))) (message_in words values))
        by_run true e =
            let q = empty-run (run_in run_words run_values) e in
            hang-none _ _ _ _ _ _ (count_rows run_words run_values _ (draft_of run_words run_values drafted) ∙ q.0)
            ∙ sym (rw (q.1, q.2 (part_of part (message_in words values)), (part_split part (message_in words values)).same)
            (judged-none words values (message_in words values) small))
        by_run false e =
            hang-judged words values _ _ _ _ (part_frame words values part (message_in words values) (lent_in words values part lent)) run_words run_values
            (run_in run_words run_values) (draft_of run_words run_values drafted)
            (field_total (message_in words values)) adds most (few-fields words values lent) e
            ∙ judged-parts words values _ _
