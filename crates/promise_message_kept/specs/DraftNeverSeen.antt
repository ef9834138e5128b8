-- Nor is it in a draft: on two memories that lay out the same run a call answers the same, and where it answers 0 it leaves the same words and
-- the same values; and hung from either, the run leaves the same.
use Rattle.std.specs.Prelude.{◌≡◌, refl, Bool, false, List, ℕ, length, eqb, leb}
use Rattle.std.proofs.Common.{sym, ◌∙◌, subst, arith}
use Rattle.std.proofs.Math.Bool.{true}
use borrow.Author.Tests.{eq-eqb}
use Rattle.message_maps.specs.Map.{Map, end, entry, joined, stored, field_count, values_in}
use Rattle.message_maps.specs.Rows.{message_words}
use Rattle.message_lent_rules.specs.Meaning.{LaysOut}
use Rattle.message_rules.specs.Changes.{after, of_store, judged_map, map_words, map_values}
use Rattle.message_rules.specs.Runs.{is_draft, run_in, judged_run, of_draft, starting, entering, is_empty, in_last, storing_last, has_untagged, is_whole, hung_run, hanging_last, hanging}
use Rattle.message_rules.proofs.Drafts.{RunWithin, lent-run, lays_draft, run-meant}
use Rattle.message_rules.specs.declared.Part.{Part}
use Rattle.message_rules.specs.declared.Change.TheVariants.{NoRun}
use Rattle.promise_message_kept.specs.Calls.{DraftCall, start, add-entry, store-last, hang-last, called_draft}
use Rattle.promise_message_kept.specs.NeverSeen.{Alike, Same, same-made, same-refused, same_by, no_message, not_storable, same-judged, change_alike}

module _ (words values words' values' : List ℕ) (run : Map) (l : LaysOut run words values) (l' : LaysOut run words' values') where
  -- the same run is lent, or none
  same-run : run_in words values ≡ run_in words' values'
  same-run = run-meant words values run l ∙ sym (run-meant words' values' run l')

  same_test : is_draft words values ≡ is_draft words' values'
  same_test = by_tests (is_draft words values) (is_draft words' values') refl refl
    where
      lent : (w v x y : List ℕ) → LaysOut run w v → LaysOut run x y → is_draft w v ≡ true → is_draft x y ≡ true
      lent w v x y k n h = lays_draft x y run (subst RunWithin (run-meant w v run k) (lent-run w v h)) n

      by_tests : (a b : Bool) → is_draft words values ≡ a → is_draft words' values' ≡ b → a ≡ b
      by_tests true b h k = sym (lent words values words' values' l l' h) ∙ k
      by_tests false true h k = sym h ∙ lent words' values' words values l' l k
      by_tests false false h k = refl

  -- hung from either memory, the run leaves the same
  pub hung_never_seen : (part : Part) (lent_words lent_values : List ℕ) → hanging part words values lent_words lent_values ≡ hanging part words' values' lent_words lent_values
  unfolding hanging of_draft
  hung_never_seen part lent_words lent_values = rw (same_test, same-run)

  pub hung-last_never_seen : (draft_words draft_values : List ℕ) → hanging_last words values draft_words draft_values ≡ hanging_last words' values' draft_words draft_values
  unfolding hanging_last of_draft
  hung-last_never_seen draft_words draft_values = rw (same_test, same-run)

  run-judged : (whole : Bool) (r : Map) → Same words values words' values' (judged_run words values whole r) (judged_run words' values' whole r)
  unfolding judged_run judged_map
  run-judged whole r = same-judged words values words' values' (length (values_in r)) whole (field_count r) (map_words r) (map_values r)

  no_run : Same words values words' values' (after NoRun words values) (after NoRun words' values')
  no_run = same-refused NoRun (λ e. let z : ◌≡◌ {A = ℕ} 0 1 = cc in omega arith)

  start_alike : Same words values words' values' (starting words values) (starting words' values')
  unfolding starting of_store
  start_alike =
      rw (eq-eqb (length words) message_words l.words_lent, eq-eqb (length words') message_words l'.words_lent, eq-eqb (length values) 8192 l.values-lent, eq-eqb (length values') 8192 l'.values-lent)
      (same-made (map_words end) (map_values end))

  enter_alike : (s d : ℕ) → Same words values words' values' (entering s d words values) (entering s d words' values')
  unfolding entering of_draft
  enter_alike s d =
      rw (same_test, same-run)
      (same_by words values words' values' (is_draft words' values') (run-judged true (joined (run_in words' values') (entry s d end end))) (no_message words values words' values'))

  store-last_alike : (tag : ℕ) (value : List ℕ) → Same words values words' values' (storing_last tag value words values) (storing_last tag value words' values')
  unfolding storing_last of_draft
  store-last_alike tag value =
      rw (same_test, same-run)
      (same_by words values words' values' (is_draft words' values')
      (same_by words values words' values' (eqb tag 0) (not_storable words values words' values')
      (same_by words values words' values' (leb (length value) 8192)
      (same_by words values words' values' (is_empty (run_in words' values')) no_run (run-judged true (in_last (stored tag value) (run_in words' values'))))
      (not_storable words values words' values')))
      (no_message words values words' values'))

  hang-last_alike : (run_words run_values : List ℕ) → Same words values words' values' (hanging_last run_words run_values words values) (hanging_last run_words run_values words' values')
  unfolding hanging_last of_draft
  hang-last_alike run_words run_values =
      let inner = run_in run_words run_values in
      rw (same_test, same-run)
      (same_by words values words' values' (is_draft words' values')
      (same_by words values words' values' (is_draft run_words run_values)
      (same_by words values words' values' (has_untagged inner) (not_storable words values words' values')
      (same_by words values words' values' (is_empty (run_in words' values')) no_run (run-judged (is_whole inner) (in_last (hung_run inner) (run_in words' values')))))
      (no_message words values words' values'))
      (no_message words values words' values'))

  -- the law, for each call
  pub draft_never_seen : (c : DraftCall) → Alike true words values words' values' (called_draft c words values) (called_draft c words' values')
  unfolding called_draft
  draft_never_seen start = change_alike words values words' values' start_alike
  draft_never_seen (add-entry s d) = change_alike words values words' values' (enter_alike s d)
  draft_never_seen (store-last tag value) = change_alike words values words' values' (store-last_alike tag value)
  draft_never_seen (hang-last run_words run_values) = change_alike words values words' values' (hang-last_alike run_words run_values)
