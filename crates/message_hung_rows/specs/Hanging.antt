-- The layer of rows: where a run hangs, what is cut out for it, and its rows one level deeper.
use Rattle.std.specs.Prelude.{ℕ, zero, suc, ◌+◌, ◌-◌, ◌*◌, ◌≤◌, ◌≡◌, Bool, true, false, List, [], ◌∷◌, length, get_or, set, take, eqb, ltb, leb}
use Rattle.field_rules.specs.Choice.{pick}
use Rattle.message_maps.specs.Rows.{Row, row, flat, rows_from, level_of, sizes, run_end_from, message_words, message_rows}
use Rattle.message_lent_rules.specs.Lent.{row_count, rows_of, fields_in}
use Rattle.message_rules.specs.Changes.{After, after}
use Rattle.message_rules.specs.RowChanges.{Cuttable, changed_at, field_place, run_place}
use Rattle.message_rules.specs.declared.Change.TheVariants.{NoRun}
use Rattle.message_rules.specs.declared.Cut.{Cut}
use Rattle.message_rules.specs.declared.Span.{Span}

-- rows one level deeper
unfoldable pub raised : List Row → List Row
raised [] = []
raised (row k l t x ∷ rows) = row k (l + 1) t x ∷ raised rows

unfoldable pub raised_from : ℕ → ℕ → List ℕ → List ℕ
raised_from zero i words = words
raised_from (suc n) i words = raised_from n (i + 1) (set words (4 * i + 2) (get_or words (4 * i + 2) 0 + 1))

-- whether levels are within a bound
unfoldable pub within : ℕ → List Row → Bool
within bound [] = true
within bound (r ∷ rows) = pick (leb (level_of r) bound) (within bound rows) false

-- a tag 0 at the top level
unfoldable pub is_untagged : Row → Bool
is_untagged (row k l t x) = pick (eqb l 0) (pick (eqb t 0) true (eqb x 0)) false

unfoldable pub untagged_in : List Row → Bool
untagged_in [] = false
untagged_in (r ∷ rows) = pick (is_untagged r) true (untagged_in rows)

-- entries of one start tag and one delimiter at the top level
unfoldable pub is_of : ℕ → ℕ → Row → Bool
is_of start delimiter (row k l t x) = pick (eqb l 0) (pick (eqb t start) (eqb x delimiter) false) true

unfoldable pub all_of : ℕ → ℕ → List Row → Bool
all_of start delimiter [] = true
all_of start delimiter (r ∷ rows) = pick (is_of start delimiter r) (all_of start delimiter rows) false

-- a run stands behind its count, or where the run before stood, or last
unfoldable pub hung_place : Span → ℕ → List ℕ → ℕ
hung_place span start words =
    pick (ltb (field_place span start words) span.to) (field_place span start words + 1) (run_place span start words)

unfoldable pub hung_stop : Span → ℕ → List ℕ → ℕ
hung_stop span start words =
    run_end_from 1 start (hung_place span start words) (rows_from (span.to - hung_place span start words) (hung_place span start words) words)

unfoldable pub hung_cut : Span → ℕ → List ℕ → Cut
hung_cut span start words =
    record {
      from = hung_place span start words;
      to = hung_stop span start words;
      kept = hung_stop span start words;
      until = hung_stop span start words;
      count = span.count;
    }

-- how many fields the run has that is replaced, and how many there are then
unfoldable pub replaced_fields : Span → ℕ → List ℕ → ℕ
replaced_fields span start words =
    fields_in 1 (rows_from (hung_stop span start words - hung_place span start words) (hung_place span start words) words)

unfoldable pub hung_fields : Span → ℕ → List ℕ → ℕ → List ℕ → ℕ
hung_fields span start run_words fields words =
    fields - replaced_fields span start words + fields_in 0 (rows_of run_words)

-- the tags of a run's first entry
unfoldable pub start_of : List ℕ → ℕ
start_of run_words = get_or run_words 3 0

unfoldable pub delimiter_of_lem : List ℕ → ℕ
delimiter_of_lem run_words = get_or run_words 4 0

unfoldable pub hang_at : Span → ℕ → List ℕ → List ℕ → List ℕ → List ℕ → After
hang_at span fields run_words run_values words values =
    pick (eqb (row_count run_words) 0) (after NoRun words values)
    (changed_at (hung_cut span (start_of run_words) words) (flat (raised (rows_of run_words))) (row_count run_words) (take (sizes (rows_of run_words)) run_values)
    (all_of (start_of run_words) (delimiter_of_lem run_words) (rows_of run_words)) (hung_fields span (start_of run_words) run_words fields words) words values)

-- a run that is lent: its lengths and limits
pub record Lent (run_words run_values : List ℕ) : Type 0 where
  pub whole : length run_words ≡ message_words
  pub store : length run_values ≡ 8192
  pub counted : row_count run_words ≤ message_rows
  pub sized : sizes (rows_of run_words) ≤ 8192
  pub near : within message_rows (rows_of run_words) ≡ true
  pub fields : fields_in 0 (rows_of run_words) ≤ 1024

-- a place for it
pub record Hangable (words values : List ℕ) (span : Span) (run_words run_values : List ℕ) (fields : ℕ) : Type 0 where
  pub run : Lent run_words run_values
  pub whole : length words ≡ message_words
  pub forwards : span.from ≤ span.to
  pub last : span.to ≤ span.count
  pub few : span.count ≤ message_rows
  pub counted : fields ≤ 1024
  pub placed : hung_place span (start_of run_words) words ≤ span.to
  pub replaced : replaced_fields span (start_of run_words) words ≤ fields
  pub able : Cuttable words values (hung_cut span (start_of run_words) words) (flat (raised (rows_of run_words))) (row_count run_words) (hung_fields span (start_of run_words) run_words fields words)
