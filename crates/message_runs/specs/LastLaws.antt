-- Storing in the last entry: its map stands at level 1 behind all others, and with a field it counts no more for itself.
use Rattle.std.specs.Prelude.{◌≡◌, refl, Bool, false, List, [], ◌∷◌, ◌++◌, ℕ, ◌+◌, ◌-◌, ◌≤◌, ◌<◌, length}
use Rattle.std.proofs.Common.{sym, ◌∙◌, append-nil, arith}
use Rattle.std.proofs.Math.Path.{ap}
use Rattle.std.proofs.Math.Bool.{true}
use Rattle.std.proofs.Math.Nat.{sub-zero}
use borrow.Author.Tests.{eq-eqb, ne_eqb, le-leb, lt-leb}
use Rattle.field_rules.specs.Choice.{pick}
use Rattle.message_maps.specs.Map.{Map, end, field, entry, joined, holds, holds_any, replaced, without_run, run_on, stored, field_count, values_in}
use Rattle.message_maps.specs.Rows.{row, laid, rows_from}
use Rattle.message_lent_rules.specs.Lent.{row_count, rows_of, fields_in}
use Rattle.message_lent_rules.specs.LaidLaws.{fields_laid, shallow}
use Rattle.message_rules.specs.Changes.{after, judged_map}
use Rattle.message_rules.specs.RowChanges.{put_at, Ready}
use Rattle.message_rules.specs.LayoutLaws.{laid-joined, count-joined}
use Rattle.message_rules.specs.SplitLaws.{field_split}
use Rattle.message_rules.specs.PlaceLaws.{rows_part}
use Rattle.message_rules.specs.StoreLaws.{stored-holds, stored-adds}
use Rattle.message_rules.specs.FrameLaws.{Frame}
use Rattle.message_rules.specs.FrameLaws as frame
use Rattle.message_rules.specs.declared.Change.TheVariants.{NotStorable, NoRun}
use Rattle.message_rules.specs.Runs.{is_draft, run_in, judged_run, is_empty, in_last, last_from, storing_last}
use Rattle.message_runs.specs.RunLaws.{LastSplit, Last, none_last, one_last, last_of}
use Rattle.message_rules.proofs.Drafts.{fields-run}
use Rattle.message_runs.specs.DraftLaws.{Draft, draft_yes, last_frame}

-- a map in which a field was stored has one
any-joined : (a : Map) (t : ℕ) (v : List ℕ) (b : Map) → holds_any (joined a (field t v b)) ≡ true
unfolding holds_any joined
any-joined end t v b = refl
any-joined (field x w rest) t v b = refl
any-joined (entry s d own rest) t v b = any-joined rest t v b

stored-any : (tag : ℕ) (value : List ℕ) (m : Map) → holds_any (stored tag value m) ≡ true
unfolding stored
stored-any tag value m = by_test (holds tag m) refl
  where
    by_test : (b : Bool) → holds tag m ≡ b → holds_any (pick b (replaced tag value m) (joined (without_run tag m) (field tag value (run_on tag m)))) ≡ true
    by_test true e = let s = field_split tag m e in ap holds_any (s.put value) ∙ any-joined s.front tag value s.back
    by_test false e = any-joined (without_run tag m) tag value (run_on tag m)

entry-values : (start delimiter : ℕ) (x : Map) → values_in (entry start delimiter x end) ≡ values_in x
unfolding values_in
entry-values start delimiter x = append-nil (values_in x)

-- what the start of the last entry tells
pub data LastAt (run : Map) (from : ℕ) : Type 0 where
  no_entry : from ≡ 0 → is_empty run ≡ true → LastAt run from
  an_entry : (s : LastSplit run) → from ≡ length (laid 0 s.front) + 1 → LastAt run from

pub last-at : (words values : List ℕ) (run : Map) → Draft words values run → (count from : ℕ) → count ≡ row_count words → from ≡ last_from 0 0 (rows_from (count - 0) 0 words) → LastAt run from
unfolding rows_of
last-at words values run d count from e f = by_last (last_of run d.only)
  where
    found : from ≡ last_from 0 0 (laid 0 run)
    found = f ∙ rw e (ap (last_from 0 0) d.rows)

    by_last : Last run → LastAt run from
    by_last (none_last z) = no_entry (found ∙ rw z (unfold last_from laid in refl)) (rw z (unfold is_empty in refl))
    by_last (one_last s) = an_entry s (found ∙ s.last 0 0 ∙ omega arith)

pub record HasEntry (run : Map) (from : ℕ) : Type 0 where
  pub split : LastSplit run
  pub starts : from ≡ length (laid 0 split.front) + 1

pub some-entry : (run : Map) (from : ℕ) → LastAt run from → (from ≡ 0 → ⊥) → HasEntry run from
some-entry run from (no_entry z e) n = absurd (n z)
some-entry run from (an_entry s e) n = record { split = s; starts = e }

pub none-entry : (run : Map) (from : ℕ) → LastAt run from → from ≡ 0 → is_empty run ≡ true
none-entry run from (no_entry z e) n = e
none-entry run from (an_entry s e) n = absurd (omega arith)

module _ (words values : List ℕ) (run : Map) (d : Draft words values run) (s : LastSplit run) (count from : ℕ) (counted : count ≡ row_count words) (starts : from ≡ length (laid 0 s.front) + 1) where
  pub entry_frame : Frame words values (record { from = from; to = count; count = count }) s.own (λ x. joined s.front (entry s.start s.delimiter x end)) (λ x. field_count (joined s.front (entry s.start s.delimiter x end)))
  entry_frame = last_frame words values run d s (record { from = from; to = count; count = count }) starts counted counted

  pub last-fields : (x : Map) → field_count (joined s.front (entry s.start s.delimiter x end)) ≡ field_count s.front + (pick (holds_any x) 0 1 + field_count x)
  last-fields x = count-joined s.front (entry s.start s.delimiter x end) ∙ (unfold field_count in omega arith)

  all_rows : rows_from (row_count words) 0 words ≡ laid 0 s.front ++ (row 2 0 s.start s.delimiter ∷ (laid 1 s.own ++ []))
  unfolding rows_of
  all_rows =
      ap (λ (n : ℕ). rows_from n 0 words) (sym (sub-zero (row_count words))) ∙ d.rows ∙ ap (laid 0) s.whole
      ∙ laid-joined 0 s.front (entry s.start s.delimiter s.own end) ∙ (unfold laid in refl)

  -- the fields of the other entries, and its own
  pub front-fields : fields_in 0 (rows_from (from - 1 - 0) 0 words) ≡ field_count s.front
  front-fields =
      ap (fields_in 0) (rows_part words (row_count words) 0 (from - 1) [] (laid 0 s.front) (row 2 0 s.start s.delimiter ∷ (laid 1 s.own ++ [])) all_rows refl (omega arith))
      ∙ fields-run s.front

  pub own-fields : fields_in 1 (rows_from (count - from) from words) ≡ field_count s.own
  own-fields =
      ap (fields_in 1) (frame.own_rows_lem _ _ _ _ _ _ entry_frame ∙ sym (append-nil (laid 1 s.own)))
      ∙ fields_laid 1 1 s.own [] (omega arith) (unfold shallow in refl) ∙ (unfold fields_in in omega arith)

  -- storing in it is judged by what it would leave
  module _ (tag : ℕ) (value : List ℕ) (fields : ℕ) (base : fields ≡ field_count s.front + field_count s.own) where
    stored-fields : field_count (joined s.front (entry s.start s.delimiter (stored tag value s.own) end)) ≡ field_count s.front + field_count (stored tag value s.own)
    stored-fields = last-fields (stored tag value s.own) ∙ rw (stored-any tag value s.own) (omega arith)

    kept : holds tag s.own ≡ true → field_count (joined s.front (entry s.start s.delimiter (stored tag value s.own) end)) ≡ fields
    kept h = omega (arith, stored-fields, stored-holds tag value s.own h, base)

    more : holds tag s.own ≡ false → field_count (joined s.front (entry s.start s.delimiter (stored tag value s.own) end)) ≡ fields + 1
    more h = omega (arith, stored-fields, stored-adds tag value s.own h, base)

    pub last_ready : length value ≤ 8192 → fields < 8192 → Ready words values (record { from = from; to = count; count = count }) tag value fields
    last_ready = frame.put_ready _ _ _ _ _ _ entry_frame tag value fields kept more

    pub last-judged : put_at (record { from = from; to = count; count = count }) tag value fields words values ≡ judged_run words values true (in_last (stored tag value) run)
    unfolding judged_run
    last-judged =
        frame.put-judged _ _ _ _ _ _ entry_frame tag value fields kept more
        ∙ ap (λ (m : Map). judged_map words values true (field_count m) m) (sym (s.changed (stored tag value)))

-- one law for each way that storing goes
module _ (words values : List ℕ) (tag : ℕ) (value : List ℕ) (lent : is_draft words values ≡ true) where
  pub store_untagged : tag ≡ 0 → storing_last tag value words values ≡ after NotStorable words values
  unfolding storing_last
  store_untagged e = draft_yes words values _ _ lent ∙ rw (eq-eqb tag 0 e)

  -- "41, 42": before it is asked whether there is an entry
  pub store_large : (tag ≡ 0 → ⊥) → 8192 < length value → storing_last tag value words values ≡ after NotStorable words values
  unfolding storing_last
  store_large e l = draft_yes words values _ _ lent ∙ rw (ne_eqb tag 0 e, lt-leb (length value) 8192 l)

  pub store-nowhere : (tag ≡ 0 → ⊥) → length value ≤ 8192 → is_empty (run_in words values) ≡ true → storing_last tag value words values ≡ after NoRun words values
  unfolding storing_last
  store-nowhere e l h = draft_yes words values _ _ lent ∙ rw (ne_eqb tag 0 e, le-leb (length value) 8192 l, h)

  pub store-last : (tag ≡ 0 → ⊥) → length value ≤ 8192 → is_empty (run_in words values) ≡ false →
      storing_last tag value words values ≡ judged_run words values true (in_last (stored tag value) (run_in words values))
  unfolding storing_last
  store-last e l h = draft_yes words values _ _ lent ∙ rw (ne_eqb tag 0 e, le-leb (length value) 8192 l, h)
