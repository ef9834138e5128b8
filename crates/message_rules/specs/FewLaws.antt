-- A change is judged alike by any two numbers of fields within the limit, so that a message of few rows needn't be counted.
use Rattle.std.specs.Prelude.{◌≡◌, Bool, List, [], ℕ, ◌+◌, ◌-◌, ◌≤◌, ◌<◌, length, leb}
use Rattle.std.proofs.Math.Path.{refl}
use Rattle.std.proofs.Common.{sym, ap, ◌∙◌, arith}
use Rattle.std.proofs.Math.Bool.{true, false}
use Rattle.std.proofs.Math.Dec.{ltb}
use borrow.Author.Tests.{le-leb, ltb-true}
use Rattle.field_rules.specs.Choice.{pick}
use Rattle.message_maps.specs.Rows.{rows_from}
use Rattle.message_maps.specs.Map.{stored}
use Rattle.message_lent_rules.specs.Lent.{fields_in}
use Rattle.message_lent_rules.specs.LentLaws.{fields-few}
use Rattle.message_lent_rules.specs.Meaning.{Message}
use Rattle.message_lent_rules.proofs.MeaningLaws.{rows_length}
use Rattle.message_rules.specs.Changes.{After, part_of, with_part, field_total, judged}
use Rattle.message_rules.specs.RowChanges.{Cuttable, changed_at, field_place, span_of, put_at, Ready, counted_fields}
use Rattle.message_rules.specs.StoreLaws.{In, fields_now, put_ready, put-judged}
use Rattle.message_rules.specs.declared.Part.{Part}
use Rattle.message_rules.specs.declared.Cut.{Cut}
use Rattle.message_rules.specs.declared.Span.{Span}

module _ (words values : List ℕ) where
  pub cut_any : (cut : Cut) (rows : List ℕ) (added f g : ℕ) → f ≤ 1024 → Cuttable words values cut rows added f → Cuttable words values cut rows added g
  cut_any cut rows added f g few c =
      record {
        whole = c.whole;
        store = c.store;
        forwards = c.forwards;
        back = c.back;
        on = c.on;
        last = c.last;
        few = c.few;
        four = c.four;
        room = λ h. c.room few;
        within = c.within;
      }

  pub changed-any : (cut : Cut) (rows : List ℕ) (added : ℕ) (bytes : List ℕ) (whole : Bool) (f g : ℕ) → f ≤ 1024 → g ≤ 1024 → changed_at cut rows added bytes whole g words values ≡ changed_at cut rows added bytes whole f words values
  unfolding changed_at
  changed-any cut rows added bytes whole f g few small = rw (le-leb f 1024 few, le-leb g 1024 small)

  module _ (span : Span) (tag : ℕ) (value : List ℕ) (f : ℕ) (few : f < 1024) where
    ready_any : Ready words values span tag value f → Ready words values span tag value 0
    ready_any r =
        record {
          whole = r.whole;
          forwards = r.forwards;
          last = r.last;
          few = r.few;
          small = r.small;
          counted = omega arith;
          replaces = λ h. cut_any _ _ _ f 0 (omega arith) (r.replaces h);
          appends = λ h. cut_any _ _ _ (f + 1) (0 + 1) (omega arith) (r.appends h);
        }

    put-any : put_at span tag value 0 words values ≡ put_at span tag value f words values
    unfolding put_at
    put-any = rw (changed-any _ _ 1 value true f 0 (omega arith) (omega arith), changed-any _ _ 1 value true (f + 1) (0 + 1) (omega arith) (omega arith))

-- of a message that is lent
module _ (words values : List ℕ) (part : Part) (m : Message) (i : In words values part m) where
  few_rows : (span_of part m).count < 1024 → field_total m < 1024
  few_rows h =
      let n = (span_of part m).count in
      omega (arith, fields_now words values part m i, fields-few 1 (rows_from (n - 0) 0 words), rows_length (n - 0) 0 words)

  module _ (tag : ℕ) (value : List ℕ) where
    pub counted_ready : length value ≤ 8192 → field_total m ≤ 1024 → Ready words values (span_of part m) tag value (counted_fields words (span_of part m).count)
    unfolding counted_fields
    counted_ready small few = by_test (ltb (span_of part m).count 1024) refl
      where
        by_test : (b : Bool) → ltb (span_of part m).count 1024 ≡ b → Ready words values (span_of part m) tag value (pick b 0 (fields_in 1 (rows_from ((span_of part m).count - 0) 0 words)))
        by_test true e = ready_any words values _ tag value (field_total m) (few_rows (ltb-true _ _ e)) (put_ready words values part m i tag value small few)
        by_test false e = rw (fields_now words values part m i) (put_ready words values part m i tag value small few)

    pub counted-judged : put_at (span_of part m) tag value (counted_fields words (span_of part m).count) words values ≡ judged words values true (with_part part (stored tag value (part_of part m)) m)
    unfolding counted_fields
    counted-judged = by_test (ltb (span_of part m).count 1024) refl ∙ put-judged words values part m i tag value
      where
        by_test : (b : Bool) → ltb (span_of part m).count 1024 ≡ b → put_at (span_of part m) tag value (pick b 0 (fields_in 1 (rows_from ((span_of part m).count - 0) 0 words))) words values ≡ put_at (span_of part m) tag value (field_total m) words values
        by_test true e = put-any words values _ tag value (field_total m) (few_rows (ltb-true _ _ e))
        by_test false e = rw (fields_now words values part m i)
