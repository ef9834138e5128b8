-- One law for each way that taking over goes.
use Rattle.std.specs.Prelude.{◌≡◌, Bool, true, false, ℕ, ◌/◌, ◌≤◌, ◌<◌, length, eqb, leb}
use Rattle.std.proofs.Math.Path.{sym}
use Rattle.std.proofs.Common.{◌∙◌, arith}
use mathlib.Core.List.{List, []}
use borrow.Author.Tests.{le-leb, lt-leb, eq-eqb, ne_eqb}
use Rattle.field_rules.specs.Choice.{pick, pick_same}
use Rattle.build_records.specs.Records.{records_of, between, stride}
use Rattle.build_records.proofs.WordLaws.{records_length}
use Rattle.build_records.specs.declared.Record.{Record}
use Rattle.message_maps.specs.Rows.{padded, message_words}
use Rattle.message_maps.specs.RowsLaws.{padded-length}
use Rattle.message_lent_rules.specs.Lent.{row_count, is_laid, is_message}
use Rattle.message_lent_rules.specs.LentLaws.{message-held}
use Rattle.message_take_over.specs.declared.Taken.TheVariants.{Made, NoMessage}
use Rattle.message_take_over.specs.Taking.{rows_of, values_at, layout_from, after, judged, taking_over}
use Rattle.message_take_over.specs.Laying.{RowsLaid}
use Rattle.message_take_over.specs.Written.{BlankBehind, laid-blank}
use Rattle.message_take_over.specs.Storing.{values_fit}

-- a message's values may be any bytes
message-any : (words values others : List ℕ) → length values ≡ length others → is_message words values ≡ is_message words others
unfolding is_message is_laid
message-any words values others e = rw e

-- the words of a message have nothing behind their rows
pub take-blank : {size : ℕ} {rs : List Record} {done : Bool} {words : List ℕ} → RowsLaid size rs done words → done ≡ true → (values : List ℕ) → is_message words values ≡ true → BlankBehind words
take-blank {rs = rs} {words = words} laid d values m = laid-blank (rows_of rs) words (laid.laid d) (unfold row_count in (message-held words values m).laid.counted)

module _ (records : List ℕ) (count : ℕ) (bytes words values : List ℕ) where
  pub take_short : (length words ≡ message_words → ⊥) → taking_over records count bytes words values ≡ after NoMessage words values
  unfolding taking_over
  take_short h = rw (ne_eqb _ _ h)

  pub take-store : (length values ≡ 8192 → ⊥) → taking_over records count bytes words values ≡ after NoMessage words values
  unfolding taking_over
  take-store h = rw (ne_eqb _ _ h) (pick_same (eqb (length words) message_words) _)

  pub take_past : length records / stride < count → taking_over records count bytes words values ≡ after NoMessage words values
  unfolding taking_over
  take_past h =
      rw (lt-leb count (length (records_of records)) (omega (arith, records_length records)), pick_same (eqb (length values) 8192) (after NoMessage words values)) (pick_same (eqb (length words) message_words) _)

  pub take-many : 1024 < count → taking_over records count bytes words values ≡ after NoMessage words values
  unfolding taking_over
  take-many h =
      rw (lt-leb count 1024 h, pick_same (leb count (length (records_of records))) (after NoMessage words values), pick_same (eqb (length values) 8192) (after NoMessage words values))
      (pick_same (eqb (length words) message_words) _)

  module _ (whole : length words ≡ message_words) (store : length values ≡ 8192) (held : count ≤ length records / stride) (few : count ≤ 1024) where
    pub take-judged : taking_over records count bytes words values ≡ judged words values (layout_from bytes (between 0 count (records_of records)))
    unfolding taking_over
    take-judged = rw (eq-eqb _ _ whole, eq-eqb _ _ store, le-leb count (length (records_of records)) (omega (arith, records_length records)), le-leb _ _ few)

    module _ (done : Bool) (new_words : List ℕ) (laid : RowsLaid (length bytes) (between 0 count (records_of records)) done new_words) where
      pub take-refused : done ≡ false → taking_over records count bytes words values ≡ after NoMessage words values
      unfolding layout_from judged
      take-refused d = take-judged ∙ rw (← laid.told, d)

      texts : List ℕ
      texts = values_at bytes (between 0 count (records_of records))

      judged-laid : done ≡ true → taking_over records count bytes words values ≡ pick (is_message new_words (padded 8192 texts)) (after Made new_words (padded 8192 texts)) (after NoMessage words values)
      unfolding layout_from judged texts
      judged-laid d = take-judged ∙ rw (← laid.told, d, ← laid.laid d)

      -- whether it is a message shows before the values are written: only how many bytes there is room for is asked
      same-message : done ≡ true → is_message new_words (padded 8192 texts) ≡ is_message new_words values
      same-message d =
          message-any new_words (padded 8192 texts) values
          (padded-length 8192 texts (unfold texts in omega (arith, values_fit bytes 1 0 [] (between 0 count (records_of records)) (omega arith) (sym laid.told ∙ d))) ∙ sym store)

      pub take_no_message : done ≡ true → is_message new_words values ≡ false → taking_over records count bytes words values ≡ after NoMessage words values
      take_no_message d m = judged-laid d ∙ rw (same-message d, m)

      pub take-made : done ≡ true → is_message new_words values ≡ true → (words_after values_after : List ℕ)
          → words_after ≡ new_words → values_after ≡ padded 8192 (values_at bytes (between 0 count (records_of records)))
          → taking_over records count bytes words values ≡ after Made words_after values_after
      unfolding texts
      take-made d m words_after values_after w v =
          judged-laid d ∙ rw (same-message d, m, w, v)
