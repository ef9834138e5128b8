-- Storing and removing a field: each is a cut of the rows in the part that it changes.
use Rattle.std.specs.Prelude.{◌≡◌, refl, Bool, true, false, List, [], ◌∷◌, ◌++◌, ℕ, zero, suc, ◌+◌, ◌-◌, ◌*◌, ◌≤◌, ◌<◌, take, leb, ltb, eqb}
use Rattle.std.proofs.Common.{sym, ◌∙◌, append_assoc, append-nil, arith, ltb-true, ltb-false}
use Rattle.std.proofs.Math.Path.{ap}
use Rattle.std.proofs.Math.Nat.{sub-zero}
use Rattle.std.proofs.Math.ListN.{length, length-append}
use Rattle.std.proofs.lemmas.Bool.{lt-leb}
use Rattle.field_rules.specs.Choice.{pick}
use Rattle.message_maps.specs.Map.{Map, end, field, entry, joined, holds, replaced, without_field, run_on, without_run, stored, field_count, values_in}
use Rattle.message_maps.specs.Rows.{Row, laid, rows_from, sizes, find_from, end_from, message_words, message_rows}
use Rattle.message_lent_rules.specs.Lent.{row_count, rows_of, is_message, fields_in}
use Rattle.message_lent_rules.specs.LaidLaws.{rows_parts}
use Rattle.message_lent_rules.specs.LentLaws.{message-held}
use Rattle.message_lent_rules.specs.Meaning.{Message, parts, words_of, value_bytes_of, message_in}
use Rattle.message_lent_rules.proofs.MeaningLaws.{means}
use Rattle.message_rules.specs.Changes.{after, part_of, with_part, field_total, value_total, map_words, map_values, judged_map, judged}
use Rattle.message_rules.specs.RowChanges.{Cuttable, changed_at, body_head, trailer_head, span_of, held_rows, put_at, Ready}
use Rattle.message_rules.specs.LayoutLaws.{values-joined, count-joined}
use Rattle.message_rules.specs.SplitLaws.{field_split, field_gone, run_split}
use Rattle.message_rules.specs.CutLaws.{Sized, laid_sized}
use Rattle.message_rules.specs.FrameLaws.{Frame, Leaves}
use Rattle.message_rules.specs.FrameLaws as frame
use Rattle.message_rules.specs.PlaceLaws.{parts_at}
use Rattle.message_rules.specs.PartLaws.{PartSplit, part_split, total-laid}
use Rattle.message_rules.specs.declared.Part.{Part}
use Rattle.message_rules.specs.declared.Change.TheVariants.{NotStorable}
use Rattle.message_rules.specs.declared.Cut.{Cut}

-- what is known of a message that words and values hold, and of a part of it
pub record In (words values : List ℕ) (part : Part) (m : Message) : Type 0 where
  pub sized : Sized words values
  pub all : rows_of words ≡ laid 0 (parts m)
  pub split : PartSplit part m
  pub rows : rows_of words ≡ split.before ++ (laid 1 (part_of part m) ++ split.behind)
  pub texts : take (sizes (rows_of words)) values ≡ split.values-before ++ (values_in (part_of part m) ++ split.values-behind)

pub part_in : (words values : List ℕ) (part : Part) (m : Message) → Sized words values → rows_of words ≡ laid 0 (parts m) → take (sizes (rows_of words)) values ≡ values_in (parts m) → In words values part m
part_in words values part m sized rows texts =
    let s = part_split part m in
    record {
      sized = sized;
      all = rows;
      split = s;
      rows = rows ∙ ap (λ (n : Message). laid 0 (parts n)) (sym s.same) ∙ s.rows (part_of part m);
      texts = texts ∙ ap (λ (n : Message). values_in (parts n)) (sym s.same) ∙ s.texts (part_of part m);
    }

-- the message that is lent
pub lent_in : (words values : List ℕ) (part : Part) → is_message words values ≡ true → In words values part (message_in words values)
lent_in words values part h =
    let held = message-held words values h in
    let same = means words values held in
    part_in words values part (message_in words values) (laid_sized words values held.laid) same.rows same.texts

-- where the heads of its parts stand
pub record Heads (words : List ℕ) (m : Message) : Type 0 where
  pub whole : length words ≡ message_words
  pub few : row_count words ≤ message_rows
  pub count : row_count words ≡ length (laid 0 (parts m))
  pub past_header : 1 ≤ body_head m
  pub past_body : body_head m + 1 ≤ trailer_head m
  pub last : trailer_head m + 1 ≤ row_count words
  pub body : end_from 0 1 (rows_from (row_count words - 1) 1 words) ≡ body_head m
  pub trailer : end_from 0 (body_head m + 1) (rows_from (row_count words - (body_head m + 1)) (body_head m + 1) words) ≡ trailer_head m

pub heads-of : (words values : List ℕ) → is_message words values ≡ true → Heads words (message_in words values)
unfolding body_head trailer_head
heads-of words values h =
    let held = message-held words values h in
    let s = parts_at words (message_in words values) (means words values held).rows in
    record {
      whole = held.laid.whole;
      few = held.laid.counted;
      count = s.count;
      past_header = omega arith;
      past_body = omega arith;
      last = omega (arith, s.total);
      body = s.first;
      trailer = s.second;
    }

-- a message that is lent has at most 1,024 fields
pub few-fields : (words values : List ℕ) → is_message words values ≡ true → field_total (message_in words values) ≤ 1024
few-fields words values h =
    let held = message-held words values h in
    omega (arith, held.few, ap (fields_in 1) (means words values held).rows, total-laid (message_in words values))

-- a value that is stored is among the values
pub stored_long : (tag : ℕ) (value : List ℕ) (m : Map) → length value ≤ length (values_in (stored tag value m))
unfolding stored values_in
stored_long tag value m = by_test (holds tag m) refl
  where
    by_test : (b : Bool) → holds tag m ≡ b → length value ≤ length (values_in (pick b (replaced tag value m) (joined (without_run tag m) (field tag value (run_on tag m)))))
    by_test true e =
        let s = field_split tag m e in
        omega (arith, ap (λ (n : Map). length (values_in n)) (s.put value), ap length (values-joined s.front (field tag value s.back)), length-append (values_in s.front) (value ++ values_in s.back), length-append value (values_in s.back))
    by_test false e =
        omega (arith, ap length (values-joined (without_run tag m) (field tag value (run_on tag m))), length-append (values_in (without_run tag m)) (value ++ values_in (run_on tag m)), length-append value (values_in (run_on tag m)))

-- storing and removing change the number of fields by one, or not at all
pub stored-holds : (tag : ℕ) (value : List ℕ) (m : Map) → holds tag m ≡ true → field_count (stored tag value m) ≡ field_count m
unfolding stored field_count
stored-holds tag value m held =
    let s = field_split tag m held in
    rw held (ap field_count (s.put value) ∙ count-joined s.front (field tag value s.back) ∙ sym (ap field_count s.whole ∙ count-joined s.front (field tag s.value s.back)))

pub stored-adds : (tag : ℕ) (value : List ℕ) (m : Map) → holds tag m ≡ false → field_count (stored tag value m) ≡ field_count m + 1
unfolding field_count
stored-adds tag value m absent =
    let s = run_split tag m in
    let new : stored tag value m ≡ joined (joined s.front s.back) (field tag value s.run) = unfold stored in rw (absent, s.gone, s.taken) in
    omega (arith, ap field_count new, count-joined (joined s.front s.back) (field tag value s.run), count-joined s.front s.back, ap field_count s.whole, count-joined s.front (joined s.run s.back), count-joined s.run s.back)

pub count_without : (tag : ℕ) (m : Map) → field_count (without_field tag m) + pick (holds tag m) 1 0 ≡ field_count m
unfolding field_count
count_without tag m = by_test (holds tag m) refl
  where
    by_test : (b : Bool) → holds tag m ≡ b → field_count (without_field tag m) + pick b 1 0 ≡ field_count m
    by_test true e =
        let s = field_split tag m e in
        omega (arith, ap field_count s.gone, count-joined s.front s.back, ap field_count s.whole, count-joined s.front (field tag s.value s.back))
    by_test false e = omega (arith, ap field_count (field_gone tag m e))

-- removing leaves no more values
pub values_without : (tag : ℕ) (m : Map) → length (values_in (without_field tag m)) ≤ length (values_in m)
unfolding without_field values_in
values_without tag end = omega arith
values_without tag (field t v rest) = by_test (eqb t tag) (values_without tag rest)
  where
    by_test : (b : Bool) → length (values_in (without_field tag rest)) ≤ length (values_in rest) → length (values_in (pick b rest (field t v (without_field tag rest)))) ≤ length (v ++ values_in rest)
    by_test true h = omega (arith, length-append v (values_in rest))
    by_test false h = omega (arith, length-append v (values_in rest), length-append v (values_in (without_field tag rest)))
values_without tag (entry s d own rest) =
    omega (arith, values_without tag rest, length-append (values_in own) (values_in rest), length-append (values_in own) (values_in (without_field tag rest)))

-- a message is judged as the map of its parts
pub judged-parts : (words values : List ℕ) (whole : Bool) (m : Message) → judged_map words values whole (field_total m) (parts m) ≡ judged words values whole m
unfolding judged judged_map map_words map_values value_total words_of value_bytes_of
judged-parts words values whole m = refl

-- a cut that leaves a message
pub record LeavesMessage (words values : List ℕ) (cut : Cut) (rows : List ℕ) (added : ℕ) (bytes : List ℕ) (m : Message) : Type 0 where
  pub able : Cuttable words values cut rows added (field_total m)
  pub done : (whole : Bool) → changed_at cut rows added bytes whole (field_total m) words values ≡ judged words values whole m

pub leaves-message : (words values : List ℕ) (cut : Cut) (rows : List ℕ) (added : ℕ) (bytes : List ℕ) (m : Message) → Leaves words values cut rows added bytes (field_total m) (parts m) → LeavesMessage words values cut rows added bytes m
leaves-message words values cut rows added bytes m l = record { able = l.able; done = λ whole. l.done whole ∙ judged-parts words values whole m }

module _ (words values : List ℕ) (part : Part) (m : Message) (i : In words values part m) where
  pub few_rows : (x : Map) → field_total (with_part part x m) ≤ 1024 → length (laid 0 (parts (with_part part x m))) ≤ message_rows
  unfolding field_total
  few_rows x h = omega (arith, rows_parts (with_part part x m))

  -- a part stands at level 1 between other rows
  unfoldable pub part_frame : Frame words values (span_of part m) (part_of part m) (λ x. parts (with_part part x m)) (λ x. field_total (with_part part x m))
  part_frame =
      let s = i.split in
      record {
        sized = i.sized;
        before = s.before;
        behind = s.behind;
        values-before = s.values-before;
        values-behind = s.values-behind;
        rows = i.rows;
        texts = i.texts;
        new_rows = s.rows;
        new_texts = s.texts;
        size-before = s.size-before;
        size-behind = s.size-behind;
        from = s.from;
        to = s.to;
        count = s.count;
        few = few_rows;
      }

  pub rows_all : rows_from (row_count words) 0 words ≡ i.split.before ++ (laid 1 (part_of part m) ++ i.split.behind)
  unfolding part_frame
  rows_all = frame.rows_all _ _ _ _ _ _ part_frame

  pub own_rows_lem : rows_from ((span_of part m).to - (span_of part m).from) (span_of part m).from words ≡ laid 1 (part_of part m)
  own_rows_lem = frame.own_rows_lem _ _ _ _ _ _ part_frame

  pub count_is : (span_of part m).count ≡ row_count words
  count_is = frame.count_is _ _ _ _ _ _ part_frame

  pub span_grows : ((span_of part m).from ≤ (span_of part m).to) × ((span_of part m).to ≤ (span_of part m).count) × ((span_of part m).count ≤ message_rows)
  span_grows = frame.span_grows _ _ _ _ _ _ part_frame

  pub fields_now : fields_in 1 (rows_from ((span_of part m).count - 0) 0 words) ≡ field_total m
  unfolding rows_of
  fields_now =
      ap (λ (n : ℕ). fields_in 1 (rows_from (n - 0) 0 words)) count_is
      ∙ ap (fields_in 1) i.all
      ∙ total-laid m

  pub fields_of : (x : Map) → field_total (with_part part x m) + field_count (part_of part m) ≡ field_total m + field_count x
  fields_of x = omega (arith, i.split.fields x, i.split.fields (part_of part m), ap field_total i.split.same)

  module _ (tag at : ℕ) (found : at ≡ find_from 1 1 tag (span_of part m).from (rows_from ((span_of part m).to - (span_of part m).from) (span_of part m).from words)) where
    -- the field is removed, or nothing where it isn't held
    module _ (held : ℕ) (rows-held : held ≡ held_rows at (span_of part m).to) where
      pub remove-leaves : LeavesMessage words values (record { from = at; to = at + held; kept = at + held; until = at + held; count = (span_of part m).count }) [] 0 [] (with_part part (without_field tag (part_of part m)) m)
      remove-leaves = leaves-message _ _ _ _ _ _ _ (frame.remove-leaves _ _ _ _ _ _ part_frame tag at found held rows-held)

      pub remove-fields : field_total (with_part part (without_field tag (part_of part m)) m) + held ≡ field_total m
      remove-fields = omega (arith, fields_of (without_field tag (part_of part m)), count_without tag (part_of part m), frame.held_rows_lem _ _ _ _ _ _ part_frame tag at found held rows-held)

  -- storing in a part is judged by the message that it would leave
  module _ (tag : ℕ) (value : List ℕ) where
    kept-fields : holds tag (part_of part m) ≡ true → field_total (with_part part (stored tag value (part_of part m)) m) ≡ field_total m
    kept-fields h = omega (arith, fields_of (stored tag value (part_of part m)), stored-holds tag value (part_of part m) h)

    more-fields : holds tag (part_of part m) ≡ false → field_total (with_part part (stored tag value (part_of part m)) m) ≡ field_total m + 1
    more-fields h = omega (arith, fields_of (stored tag value (part_of part m)), stored-adds tag value (part_of part m) h)

    pub put_ready : length value ≤ 8192 → field_total m ≤ 1024 → Ready words values (span_of part m) tag value (field_total m)
    put_ready small few = frame.put_ready _ _ _ _ _ _ part_frame tag value (field_total m) kept-fields more-fields small (omega arith)

    pub put-judged : put_at (span_of part m) tag value (field_total m) words values ≡ judged words values true (with_part part (stored tag value (part_of part m)) m)
    put-judged = frame.put-judged _ _ _ _ _ _ part_frame tag value (field_total m) kept-fields more-fields ∙ judged-parts words values true (with_part part (stored tag value (part_of part m)) m)

    -- a value over the limit is never storable
    pub put_large : 8192 < length value → judged words values true (with_part part (stored tag value (part_of part m)) m) ≡ after NotStorable words values
    unfolding judged value_total
    put_large h =
        let n : length value ≤ length (values_in (stored tag value (part_of part m))) = stored_long tag value (part_of part m) in
        rw (lt-leb (length (values_in (parts (with_part part (stored tag value (part_of part m)) m)))) 8192
        (omega (arith, ap length (i.split.texts (stored tag value (part_of part m))), length-append i.split.values-before (values_in (stored tag value (part_of part m)) ++ i.split.values-behind), length-append (values_in (stored tag value (part_of part m))) i.split.values-behind)))
