-- "27 first" for drafts, exactly: words and values are a draft where they lay out a run within the limits, and nowhere else. Such a run has
-- entries alone, each of a formed map; their start and delimiter tags may be any, 0 and mixed ones too, and there may be none. That run is the
-- only one that they lay out; what stands behind its rows and behind its values is never looked at.
use Rattle.std.specs.Prelude.{◌≡◌, refl, ◌↔◌, Bool, true, false, ℕ, ◌+◌, ◌*◌, ◌≤◌, length}
use Rattle.std.proofs.Common.{sym, ◌∙◌, arith}
use Rattle.std.proofs.Math.Path.{ap}
use mathlib.Core.List.{List, [], append-nil}
use borrow.Author.Tests.{leb-true, le-leb}
use Rattle.field_rules.specs.Choice.{pick}
use Rattle.message_maps.specs.Map.{Map, holds_any, field_count, values_in}
use Rattle.message_maps.specs.Rows.{laid, sizes, message_rows}
use Rattle.message_lent_rules.specs.Lent.{rows_allowed, rows_of, fields_in, is_laid}
use Rattle.message_lent_rules.specs.LentLaws.{both, laid_out}
use Rattle.message_lent_rules.specs.LaidLaws.{sizes-laid, fields_laid, rows_few, shallow}
use Rattle.message_lent_rules.specs.Meaning.{LaysOut}
use Rattle.message_lent_rules.proofs.MeaningLaws.{laid_means, lent_laid}
use Rattle.message_lent_rules.proofs.MeantLaws.{rows_laid, map-meant}
use Rattle.message_lent_rules.specs.Formed.{entries_formed}
use Rattle.message_lent_rules.proofs.FormedLaws.{entries_formed_lem, lays_laid, padded_lays}
use Rattle.message_rules.specs.Changes.{map_words, map_values}
use Rattle.message_rules.specs.Runs.{is_draft, run_in}

-- a run within the limits
pub record RunWithin (run : Map) : Type 0 where
  pub entries : entries_formed run ≡ true
  pub small : length (values_in run) ≤ 8192
  pub few : field_count run ≤ 1024

-- such a run that words and values lay out
pub record DraftLaid (words values : List ℕ) : Type 0 where
  pub run : Map
  pub within : RunWithin run
  pub layout : LaysOut run words values

-- the fields that rows count are those of the run, and it has at most two rows for each
pub fields-run : (run : Map) → fields_in 0 (laid 0 run) ≡ field_count run
unfolding fields_in shallow
fields-run run = ap (fields_in 0) (sym (append-nil (laid 0 run))) ∙ fields_laid 0 0 run [] (omega arith) refl ∙ omega arith

pub few_rows : (m : Map) → field_count m ≤ 1024 → length (laid 0 m) ≤ message_rows
few_rows m h = by_any (holds_any m) (rows_few 0 m)
  where
    by_any : (b : Bool) → length (laid 0 m) + pick b 1 0 ≤ 2 * field_count m → length (laid 0 m) ≤ message_rows
    by_any true k = omega arith
    by_any false k = omega arith

module _ (words values : List ℕ) where
  -- what is lent as a draft lays out the run that it means
  pub lent-run : is_draft words values ≡ true → RunWithin (run_in words values)
  unfolding is_draft run_in
  lent-run h =
      let k = both (is_laid words values) _ h in
      let l = laid_out words values k.0 in
      let m = laid_means words values l in
      record {
        entries = entries_formed_lem _ [] (sym (ap (rows_allowed []) m.0) ∙ l.allowed);
        small = omega (arith, l.within, ap sizes m.0, sizes-laid 0 (run_in words values));
        few = omega (arith, leb-true (fields_in 0 (rows_of words)) 1024 k.1, ap (fields_in 0) m.0, fields-run (run_in words values));
      }

  pub run_layout : is_draft words values ≡ true → LaysOut (run_in words values) words values
  unfolding is_draft run_in
  run_layout h = lent_laid words values (laid_out words values (both (is_laid words values) _ h).0)

  pub lays_draft : (run : Map) → RunWithin run → LaysOut run words values → is_draft words values ≡ true
  unfolding is_draft
  lays_draft run w l =
      rw (lays_laid run words values l w.entries, rows_laid run words values l)
      (le-leb (fields_in 0 (laid 0 run)) 1024 (omega (arith, fields-run run, w.few)))

  pub draft_exact : (is_draft words values ≡ true) ↔ DraftLaid words values
  draft_exact = (
    λ h. record { run = run_in words values; within = lent-run h; layout = run_layout h },
    λ l. lays_draft l.run l.within l.layout,
  )

  -- there is no second one
  pub run-meant : (run : Map) → LaysOut run words values → run_in words values ≡ run
  unfolding run_in
  run-meant run l = map-meant run words values l

  pub draft_only : (l : DraftLaid words values) → l.run ≡ run_in words values
  draft_only l = sym (run-meant l.run l.layout)

-- what is lent holds a draft, which it means
pub record LendsDraft (words values : List ℕ) (run : Map) : Type 0 where
  pub is_draft : is_draft words values ≡ true
  pub meant : run_in words values ≡ run

-- the layout of a run within the limits, with zeros behind its rows and behind its values
pub record IsRunLayout (run : Map) (words values : List ℕ) : Type 0 where
  pub within : RunWithin run
  pub words_are : words ≡ map_words run
  pub values_are : values ≡ map_values run

pub run_layout_lends : (run : Map) (words values : List ℕ) → IsRunLayout run words values → LendsDraft words values run
run_layout_lends run words values i =
    let l : LaysOut run (map_words run) (map_values run) = unfold map_words map_values in padded_lays run (few_rows run i.within.few) i.within.small in
    rw (i.words_are, i.values_are)
    (record { is_draft = lays_draft (map_words run) (map_values run) run i.within l; meant = run-meant (map_words run) (map_values run) run l })
