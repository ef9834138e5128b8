-- Hanging in the last entry of a draft: one law for each way.
use Rattle.std.specs.Prelude.{◌≡◌, refl, Bool, true, false, List, ℕ, ◌+◌, ◌≤◌, length}
use Rattle.std.proofs.Common.{sym, ◌∙◌, arith, le-leb}
use Rattle.std.proofs.Math.Path.{ap}
use Rattle.field_rules.specs.Choice.{pick}
use Rattle.message_maps.specs.Map.{Map, end, entry, joined, holds_any, field_count, values_in}
use Rattle.message_maps.specs.Rows.{laid, sizes}
use Rattle.message_lent_rules.specs.Lent.{row_count}
use Rattle.message_rules.specs.Changes.{after, judged_map}
use Rattle.message_rules.specs.LayoutLaws.{sizes-laid}
use Rattle.message_rules.specs.declared.Change.TheVariants.{NoMessage, NotStorable, NoRun}
use Rattle.message_hung_rows.specs.Hanging.{hang_at, Hangable}
use Rattle.message_hung_rows.specs.RowLaws.{hang-none}
use Rattle.message_rules.specs.Runs.{is_draft, run_in, judged_run, is_empty, is_whole, in_last, hung_run, has_untagged, hanging_last}
use Rattle.message_runs.specs.RunLaws.{LastSplit}
use Rattle.message_runs.specs.DraftLaws.{Draft, draft_of, draft_no, draft_yes}
use Rattle.message_runs.specs.EnterLaws.{count_rows}
use Rattle.message_runs.specs.LastLaws.{entry_frame, last-fields}
use Rattle.message_runs.specs.HangLaws.{hang_able, hang-judged}
use Rattle.message_runs.specs.PartLaws.{empty-run}

judged-none : (words values : List ℕ) (run : Map) → length (values_in run) ≤ 8192 → judged_run words values false run ≡ after NoRun words values
unfolding judged_run judged_map
judged-none words values run h = rw (le-leb _ _ h)

module _ (words values run_words run_values : List ℕ) (lent : is_draft words values ≡ true) where
  pub last_no_run : is_draft run_words run_values ≡ false → hanging_last run_words run_values words values ≡ after NoMessage words values
  unfolding hanging_last
  last_no_run h = draft_yes words values _ _ lent ∙ draft_no run_words run_values _ _ h

  module _ (drafted : is_draft run_words run_values ≡ true) where
    pub last_untagged : has_untagged (run_in run_words run_values) ≡ true → hanging_last run_words run_values words values ≡ after NotStorable words values
    unfolding hanging_last
    last_untagged h = draft_yes words values _ _ lent ∙ draft_yes run_words run_values _ _ drafted ∙ rw h

    pub last-nowhere : has_untagged (run_in run_words run_values) ≡ false → is_empty (run_in words values) ≡ true
        → hanging_last run_words run_values words values ≡ after NoRun words values
    unfolding hanging_last
    last-nowhere h e = draft_yes words values _ _ lent ∙ draft_yes run_words run_values _ _ drafted ∙ rw (h, e)

    pub last_on : has_untagged (run_in run_words run_values) ≡ false → is_empty (run_in words values) ≡ false
        → hanging_last run_words run_values words values ≡ judged_run words values (is_whole (run_in run_words run_values))
        (in_last (hung_run (run_in run_words run_values)) (run_in words values))
    unfolding hanging_last
    last_on h e = draft_yes words values _ _ lent ∙ draft_yes run_words run_values _ _ drafted ∙ rw (h, e)

    module _ (s : LastSplit (run_in words values)) (count from : ℕ) (counted : count ≡ row_count words) (starts : from ≡ length (laid 0 s.front) + 1) where
      outer : Draft words values (run_in words values)
      outer = draft_of words values lent

      same_total : field_count (run_in words values) ≡ field_count s.front + (pick (holds_any s.own) 0 1 + field_count s.own)
      same_total = ap field_count s.whole ∙ last-fields words values (run_in words values) outer s count from counted starts s.own

      adds : (x : Map) → holds_any x ≡ holds_any s.own
          → field_count (joined s.front (entry s.start s.delimiter x end)) + field_count s.own ≡ field_count (run_in words values) + field_count x
      adds x e =
          let t = last-fields words values (run_in words values) outer s count from counted starts x in
          let p : ◌≡◌ {A = ℕ} (pick (holds_any x) 0 1) (pick (holds_any s.own) 0 1) = ap {B = ℕ} (λ (b : Bool). pick b 0 1) e in
          omega (arith, t, p, same_total)

      most : field_count s.own ≤ field_count (run_in words values)
      most = omega (arith, same_total)

      pub last_able : Hangable words values (record { from = from; to = count; count = count }) run_words run_values (field_count (run_in words values))
      last_able =
          hang_able words values _ _ _ _ (entry_frame words values (run_in words values) outer s count from counted starts) run_words run_values
          (run_in run_words run_values) (draft_of run_words run_values drafted)
          (field_count (run_in words values)) adds most outer.few

      pub last-hung : hang_at (record { from = from; to = count; count = count }) (field_count (run_in words values)) run_words run_values words values
          ≡ judged_run words values (is_whole (run_in run_words run_values)) (in_last (hung_run (run_in run_words run_values)) (run_in words values))
      last-hung = by_run (is_empty (run_in run_words run_values)) refl
        where
          small : length (values_in (run_in words values)) ≤ 8192
          small = omega (arith, sizes-laid 0 (run_in words values), ap sizes outer.rows, outer.sized.within)

          by_run : (b : Bool) → is_empty (run_in run_words run_values) ≡ b
              → hang_at (record { from = from; to = count; count = count }) (field_count (run_in words values)) run_words run_values words values
              ≡ judged_run words values (is_whole (run_in run_words run_values)) (in_last (hung_run (run_in run_words run_values)) (run_in words values))
          by_run true e =
              let q = empty-run (run_in run_words run_values) e in
              let same : in_last (hung_run (run_in run_words run_values)) (run_in words values) ≡ run_in words values =
              s.changed (hung_run (run_in run_words run_values)) ∙ ap (λ (x : Map). joined s.front (entry s.start s.delimiter x end)) (q.2 s.own)
              ∙ sym s.whole in
              hang-none _ _ _ _ _ _ (count_rows run_words run_values _ (draft_of run_words run_values drafted) ∙ q.0)
              ∙ sym (rw (q.1, same) (judged-none words values (run_in words values) small))
          by_run false e =
              hang-judged words values _ _ _ _ (entry_frame words values (run_in words values) outer s count from counted starts) run_words run_values
              (run_in run_words run_values) (draft_of run_words run_values drafted)
              (field_count (run_in words values)) adds most outer.few e
              ∙ (unfold judged_run in ap (λ (m : Map). judged_map words values (is_whole (run_in run_words run_values)) (field_count m) m)
              (sym (s.changed (hung_run (run_in run_words run_values)))))
