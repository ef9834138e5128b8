-- What taking over leaves is a message, with zeros behind it; what it refuses, for its records, leaves everything as it was.
use Rattle.std.specs.Prelude.{◌≡◌, refl, Bool, List, ℕ, length, eqb, leb}
use Rattle.std.proofs.Common.{sym, ap, ◌∙◌, arith}
use Rattle.std.proofs.Math.Bool.{true, false}
use Rattle.field_rules.specs.Choice.{pick}
use Rattle.build_records.specs.Records.{records_of, between}
use Rattle.message_maps.specs.Rows.{message_words}
use Rattle.message_lent_rules.specs.Lent.{is_message}
use Rattle.message_lent_rules.specs.LentLaws.{message-held}
use Rattle.message_lent_rules.specs.Meaning.{words_of, value_bytes_of, message_in}
use Rattle.message_lent_rules.proofs.FormedLaws.{IsLayout, layout_lends}
use Rattle.message_take_over.specs.Taking.{Layout, laid_out, no_records, layout_from, AfterTaking, after, judged, taking_over, number_of_taken}
use Rattle.message_take_over.proofs.TakenLaws.{stand_layout, stand_taken}
use Rattle.message_take_over.proofs.Theorem.{taken_keeps}
use Rattle.message_take_over.specs.declared.Taken.TheVariants.{Made, NoMessage}
use Rattle.promise_message_kept.specs.Calls.{taken, Takeable}
use Rattle.promise_message_kept.specs.Keeping.{Keeps, refused_keeps, made_keeps}

-- either everything as it was, or what the layout of the records is
data Takes (words values : List ℕ) (layout : Layout) : AfterTaking → Type 0 where
  as_it_was : Takes words values layout (after NoMessage words values)
  as_judged : (w v : List ℕ) → judged words values layout ≡ after Made w v → Takes words values layout (after Made w v)

judged-takes : (words values : List ℕ) (layout : Layout) → Takes words values layout (judged words values layout)
judged-takes words values no_records = unfold judged in as_it_was
judged-takes words values (laid_out new_words new_values) = by_message (is_message new_words new_values) refl
  where
    by_message : (b : Bool) → is_message new_words new_values ≡ b → Takes words values (laid_out new_words new_values) (judged words values (laid_out new_words new_values))
    by_message true h = let e : judged words values (laid_out new_words new_values) ≡ after Made new_words new_values = unfold judged in rw h in rw e (as_judged new_words new_values e)
    by_message false h = let e : judged words values (laid_out new_words new_values) ≡ after NoMessage words values = unfold judged in rw h in rw e as_it_was

module _ (records : List ℕ) (count : ℕ) (bytes words values : List ℕ) where
  takes : Takes words values (layout_from bytes (between 0 count (records_of records))) (taking_over records count bytes words values)
  unfolding taking_over
  takes = by_tests (eqb (length words) message_words) (eqb (length values) 8192) (leb count (length (records_of records))) (leb count 1024)
    where
      by_tests : (a b c d : Bool)
          → Takes words values (layout_from bytes (between 0 count (records_of records)))
          (pick a (pick b (pick c (pick d (judged words values (layout_from bytes (between 0 count (records_of records)))) (after NoMessage words values)) (after NoMessage words values)) (after NoMessage words values)) (after NoMessage words values))
      by_tests true true true true = judged-takes words values (layout_from bytes (between 0 count (records_of records)))
      by_tests true true true false = as_it_was
      by_tests true true false d = as_it_was
      by_tests true false c d = as_it_was
      by_tests false b c d = as_it_was

  -- what is left where 0 is answered
  taken_layout : (w v : List ℕ) → taking_over records count bytes words values ≡ after Made w v → judged words values (layout_from bytes (between 0 count (records_of records))) ≡ after Made w v
      → (is_message w v ≡ true) × IsLayout (message_in w v) w v
  taken_layout w v e j =
      let k = taken_keeps records count bytes words values w v e in
      let m = message_in w v in
      let same : after Made (words_of m) (value_bytes_of m) ≡ after Made w v =
      sym (ap (judged words values) (stand_layout bytes m (between 0 count (records_of records)) k.stand k.within) ∙ (unfold judged in rw (layout_lends m k.within).is_message)) ∙ j in
      (k.is_message, record { within = k.within; words_are = cc; values_are = cc })

  pub taken-kept : (zeroed : List ℕ → List ℕ → Type 0) → ((w v : List ℕ) → IsLayout (message_in w v) w v → zeroed w v)
      → Keeps is_message zeroed (Takeable records count bytes) words values (taken (taking_over records count bytes words values))
  taken-kept zeroed zeros = by_case (taking_over records count bytes words values) refl takes
    where
      fits : is_message words values ≡ true → Takeable records count bytes → taking_over records count bytes words values ≡ after NoMessage words values → ⊥
      fits h t e =
          let l = (message-held words values h).laid in
          let made = stand_taken records count bytes words values t.message l.whole l.store t.held t.few t.stand t.within in
          let z : ◌≡◌ {A = ℕ} 0 1 = cc in
          omega arith

      by_case : (o : AfterTaking) → taking_over records count bytes words values ≡ o → Takes words values (layout_from bytes (between 0 count (records_of records))) o
          → Keeps is_message zeroed (Takeable records count bytes) words values (taken o)
      by_case o e as_it_was = unfold taken number_of_taken in refused_keeps 27 (λ q. omega arith) (λ h t q. fits h t e)
      by_case o e (as_judged w v j) = let l = taken_layout w v e j in unfold taken number_of_taken in made_keeps w v l.0 (zeros w v l.1)
