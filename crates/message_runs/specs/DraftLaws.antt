-- A draft that is lent has the rows and values of its run; and the map of its last entry stands at level 1, behind all others.
use Rattle.std.specs.Prelude.{◌≡◌, refl, true, false, List, [], ◌∷◌, ◌++◌, ℕ, ◌+◌, ◌-◌, ◌≤◌, take, set}
use Rattle.std.proofs.Math.Path.{sym, ap}
use Rattle.std.proofs.Common.{◌∙◌, append_assoc, arith}
use Rattle.std.proofs.Math.Nat.{sub-zero}
use Rattle.std.proofs.Math.ListN.{length, length-append}
use borrow.Author.Tests.{eq-eqb, ne_eqb}
use Rattle.message_maps.specs.Map.{Map, end, entry, joined, field_count, values_in}
use Rattle.message_maps.specs.Rows.{Row, row, laid, flat, part, padded, spliced, sizes, size_of, message_words}
use Rattle.message_lent_rules.specs.Lent.{row_count, rows_of, is_laid}
use Rattle.message_lent_rules.specs.LentLaws.{both, laid_out}
use Rattle.message_lent_rules.proofs.MeaningLaws.{laid_means}
use Rattle.message_rules.specs.Changes.{After, after, of_store, map_words, map_values}
use Rattle.message_rules.specs.LayoutLaws.{laid-joined, values-joined, sizes-append, sizes-laid}
use Rattle.message_rules.specs.PlaceLaws.{rows_length}
use Rattle.message_rules.specs.CutLaws.{Sized, laid_sized}
use Rattle.message_rules.specs.FrameLaws.{Frame}
use Rattle.message_rules.specs.declared.Span.{Span}
use Rattle.message_rules.specs.declared.Change.TheVariants.{Made, NoMessage}
use Rattle.message_rules.specs.Runs.{is_draft, run_in, of_draft, starting}
use Rattle.message_rules.proofs.Drafts.{lent-run, few_rows}
use Rattle.message_runs.specs.RunLaws.{only_entries, entries_only, LastSplit}

-- what is known of a draft
pub record Draft (words values : List ℕ) (run : Map) : Type 0 where
  pub sized : Sized words values
  pub rows : rows_of words ≡ laid 0 run
  pub texts : take (sizes (rows_of words)) values ≡ values_in run
  pub only : only_entries run ≡ true
  pub few : field_count run ≤ 1024

pub draft_of : (words values : List ℕ) → is_draft words values ≡ true → Draft words values (run_in words values)
unfolding is_draft run_in
draft_of words values h =
    let l = laid_out words values (both (is_laid words values) _ h).0 in
    let m = laid_means words values l in
    let w = lent-run words values h in
    record {
      sized = laid_sized words values l;
      rows = m.0;
      texts = m.1;
      only = entries_only _ w.entries;
      few = w.few;
    }

module _ (words values : List ℕ) (refused : After) (then : Map → After) where
  pub draft_no : is_draft words values ≡ false → of_draft words values refused then ≡ refused
  unfolding of_draft
  draft_no h = rw h

  pub draft_yes : is_draft words values ≡ true → of_draft words values refused then ≡ then (run_in words values)
  unfolding of_draft
  draft_yes h = rw h

-- a run without any entry takes the place of what was there
pub empty-words : (words left : List ℕ) → length words ≡ message_words → left ≡ padded message_words (spliced 1 1 1 1 1 [] words) → set left 0 0 ≡ map_words end
unfolding map_words laid flat spliced part padded
empty-words [] left h e = absurd (omega arith)
empty-words (w ∷ words) left h e = ap (λ (l : List ℕ). set l 0 0) e

pub empty-values : (values left : List ℕ) → left ≡ padded 8192 (spliced 0 0 0 0 0 [] values) → left ≡ map_values end
unfolding map_values values_in spliced part padded
empty-values values left e = e

module _ (words values : List ℕ) where
  pub start-short : (length words ≡ message_words → ⊥) → starting words values ≡ after NoMessage words values
  unfolding starting of_store
  start-short h = rw (ne_eqb _ _ h)

  pub start-store : length words ≡ message_words → (length values ≡ 8192 → ⊥) → starting words values ≡ after NoMessage words values
  unfolding starting of_store
  start-store h k = rw (eq-eqb _ _ h, ne_eqb _ _ k)

  pub start-made : length words ≡ message_words → length values ≡ 8192 → starting words values ≡ after Made (map_words end) (map_values end)
  unfolding starting of_store
  start-made h k = rw (eq-eqb _ _ h, eq-eqb _ _ k)

-- the map of the last entry, with any other in its place
module _ (words values : List ℕ) (run : Map) (d : Draft words values run) (s : LastSplit run) where
  before : List Row
  before = laid 0 s.front ++ (row 2 0 s.start s.delimiter ∷ [])

  last_rows : (x : Map) → laid 0 (joined s.front (entry s.start s.delimiter x end)) ≡ (laid 0 s.front ++ (row 2 0 s.start s.delimiter ∷ [])) ++ (laid 1 x ++ [])
  last_rows x = laid-joined 0 s.front (entry s.start s.delimiter x end) ∙ (unfold laid in sym (append_assoc (laid 0 s.front) (row 2 0 s.start s.delimiter ∷ []) (laid 1 x ++ [])))

  last_texts : (x : Map) → values_in (joined s.front (entry s.start s.delimiter x end)) ≡ values_in s.front ++ (values_in x ++ [])
  last_texts x = values-joined s.front (entry s.start s.delimiter x end) ∙ (unfold values_in in refl)

  pub last_frame : (span : Span) → span.from ≡ length (laid 0 s.front) + 1 → span.to ≡ row_count words → span.count ≡ row_count words
      → Frame words values span s.own (λ x. joined s.front (entry s.start s.delimiter x end)) (λ x. field_count (joined s.front (entry s.start s.delimiter x end)))
  last_frame span from to count =
      let all : rows_of words ≡ (laid 0 s.front ++ (row 2 0 s.start s.delimiter ∷ [])) ++ (laid 1 s.own ++ []) = d.rows ∙ ap (laid 0) s.whole ∙ last_rows s.own in
      let n : row_count words ≡ length (rows_of words) = unfold rows_of in (sym (rows_length (row_count words - 0) 0 words ∙ sub-zero (row_count words))) in
      let size : length (rows_of words) ≡ length (laid 0 s.front) + 1 + length (laid 1 s.own) = ap length all ∙ simp length-append (omega arith) in
      record {
        sized = d.sized;
        before = laid 0 s.front ++ (row 2 0 s.start s.delimiter ∷ []);
        behind = [];
        values-before = values_in s.front;
        values-behind = [];
        rows = all;
        texts = d.texts ∙ ap values_in s.whole ∙ last_texts s.own;
        new_rows = last_rows;
        new_texts = last_texts;
        size-before = unfold sizes size_of in omega (arith, sizes-append (laid 0 s.front) (row 2 0 s.start s.delimiter ∷ []), sizes-laid 0 s.front);
        size-behind = unfold sizes in refl;
        from = simp length-append (omega arith);
        to = simp length-append (omega arith);
        count = simp length-append (omega arith);
        few = λ x h. few_rows (joined s.front (entry s.start s.delimiter x end)) h;
      }
