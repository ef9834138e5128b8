-- Look-ups leave everything as it was, and answer 27 where no message is lent and 0 where one is: what is absent is no refusal.
use Rattle.std.specs.Prelude.{◌≡◌, Bool, true, false, List, ℕ, ◌+◌, ◌-◌, length, eqb}
use Rattle.std.proofs.Math.Path.{refl}
use Rattle.std.proofs.Common.{sym, ap, ◌∙◌, arith}
use Rattle.field_rules.specs.Choice.{pick}
use Rattle.message_maps.specs.Map.{Map, end, field, entry, Looked, none, some, values_in}
use Rattle.message_lent_rules.specs.Lent.{is_message}
use Rattle.message_lent_rules.specs.StandLaws.{never}
use Rattle.message_lent_rules.specs.Meaning.{parts, message_in}
use Rattle.message_rules.specs.LookUps.{number_of_value, number_of_map, Standing, standing, map_at, value_in, entry_in, value_of_map, entry_of, rows_in, part_found, field_found, entry_found}
use Rattle.message_rules.specs.declared.Part.{Part}
use Rattle.message_rules.specs.declared.FoundValue.TheVariants as value
use Rattle.message_rules.specs.declared.FoundMap.TheVariants as map
use Rattle.promise_message_kept.specs.Keeping.{Keeps}

-- a field that is looked for, and an entry, is found or absent
value_found : (tag place : ℕ) (own : Map) → number_of_value (value_in tag place own) ≡ 0
unfolding value_in number_of_value
value_found tag place end = refl
value_found tag place (field t v rest) = by_test (eqb t tag) (value_found tag (place + length v) rest)
  where
    by_test : (b : Bool) → number_of_value (value_in tag (place + length v) rest) ≡ 0 → number_of_value (pick b (value.At (record { place = place; size = length v })) (value_in tag (place + length v) rest)) ≡ 0
    by_test true again = refl
    by_test false again = again
value_found tag place (entry s d own rest) = value_found tag (place + length (values_in own)) rest

entry_found_lem : (start number row : ℕ) (own : Map) → number_of_map (entry_in start number row own) ≡ 0
unfolding entry_in number_of_map
entry_found_lem start number row end = refl
entry_found_lem start number row (field t v rest) = entry_found_lem start number (row + 1) rest
entry_found_lem start number row (entry s d own rest) =
    by_tests (eqb s start) (eqb number 0) (entry_found_lem start (number - 1) (row + 1 + rows_in own) rest) (entry_found_lem start number (row + 1 + rows_in own) rest)
  where
    by_tests : (b c : Bool) → number_of_map (entry_in start (number - 1) (row + 1 + rows_in own) rest) ≡ 0 → number_of_map (entry_in start number (row + 1 + rows_in own) rest) ≡ 0
        → number_of_map (pick b (pick c (map.At row) (entry_in start (number - 1) (row + 1 + rows_in own) rest)) (entry_in start number (row + 1 + rows_in own) rest)) ≡ 0
    by_tests true true next other = refl
    by_tests true false next other = next
    by_tests false c next other = other

value_answered : (tag : ℕ) (l : Looked Standing) → number_of_value (value_of_map tag l) ≡ 0
value_answered tag none = unfold value_of_map number_of_value in refl
value_answered tag (some (standing own place)) = unfold value_of_map in value_found tag place own

entry-answered : (start number row : ℕ) (l : Looked Standing) → number_of_map (entry_of start number row l) ≡ 0
entry-answered start number row none = unfold entry_of number_of_map in refl
entry-answered start number row (some (standing own place)) = unfold entry_of in entry_found_lem start number (row + 1) own

-- a look-up that answers so
module _ (words values : List ℕ) (zeroed : List ℕ → List ℕ → Type 0) (fit : Type 0) (zeros : (w v : List ℕ) → zeroed w v) where
  looked : (answer : ℕ) → (is_message words values ≡ true → answer ≡ 0) → (is_message words values ≡ false → answer ≡ 27) → Keeps is_message zeroed fit words values (record { answer = answer; words = words; values = values })
  looked answer found absent = by_message (is_message words values) refl
    where
      by_message : (b : Bool) → is_message words values ≡ b → Keeps is_message zeroed fit words values (record { answer = answer; words = words; values = values })
      by_message true h = record { made = λ e. h; kept = λ k. k; taken = λ k f e. omega (arith, found h); zeros = λ e. zeros words values }
      by_message false h = record { made = λ e. absurd (omega (arith, absent h)); kept = λ k. k; taken = λ k f e. never (sym k ∙ h); zeros = λ e. zeros words values }

  pub part-kept : (part : Part) → Keeps is_message zeroed fit words values (record { answer = number_of_map (part_found part words values); words = words; values = values })
  part-kept part = looked (number_of_map (part_found part words values)) (λ h. unfold part_found in rw h (unfold number_of_map in refl)) (λ h. unfold part_found in rw h (unfold number_of_map in refl))

  pub field-kept : (row tag : ℕ) → Keeps is_message zeroed fit words values (record { answer = number_of_value (field_found row tag words values); words = words; values = values })
  field-kept row tag =
      looked (number_of_value (field_found row tag words values))
      (λ h. unfold field_found in rw h (value_answered tag (map_at row 0 (parts (message_in words values)))))
      (λ h. unfold field_found in rw h (unfold number_of_value in refl))

  pub entry_kept : (row start number : ℕ) → Keeps is_message zeroed fit words values (record { answer = number_of_map (entry_found row start number words values); words = words; values = values })
  entry_kept row start number =
      looked (number_of_map (entry_found row start number words values))
      (λ h. unfold entry_found in rw h (entry-answered start number row (map_at row 0 (parts (message_in words values)))))
      (λ h. unfold entry_found in rw h (unfold number_of_map in refl))
