-- What a look-up answers lies within the limits: a row is one of the message's 2,051 at the most, a value lies in the store.
use Rattle.std.specs.Prelude.{◌≡◌, refl, Bool, true, false, ℕ, ◌+◌, ◌≤◌, ◌<◌, List, length}
use Rattle.std.proofs.Common.{sym, ◌∙◌, arith, length-append}
use Rattle.message_maps.specs.Map.{Map, end, field, entry}
use Rattle.message_maps.specs.Rows.{laid, message_rows}
use Rattle.message_lent_rules.specs.Lent.{is_message}
use Rattle.message_lent_rules.specs.LentLaws.{message-held}
use Rattle.message_lent_rules.specs.Meaning.{parts, message_in}
use Rattle.message_lent_rules.proofs.MeaningLaws.{means}
use Rattle.message_rules.specs.LookUps.{rows_in, part_found, field_found, entry_found}
use Rattle.message_rules.specs.LookUpNames.{named-row}
use Rattle.message_rules.proofs.LookUpMeaning.{Names, RowNames, names_map, names_nothing, row_names, field_no_message, field_no_map, field_looked_up, part_no_message, part_looked_up, entry_no_message, entry_no_map, entry_looked_up}
use Rattle.message_rules.specs.PlaceLaws.{parts_at}
use Rattle.message_rules.specs.declared.Part.{Part}
use Rattle.message_rules.specs.declared.Value.{Value}
use Rattle.message_rules.specs.declared.FoundValue.TheVariants as value
use Rattle.message_rules.specs.declared.FoundMap.TheVariants as map

-- as many rows as are laid out
pub rows_in_lem : (l : ℕ) (m : Map) → length (laid l m) ≡ rows_in m
unfolding laid rows_in
rows_in_lem l end = refl
rows_in_lem l (field t v rest) = omega (arith, rows_in_lem l rest)
rows_in_lem l (entry s d own rest) = omega (arith, length-append (laid (l + 1) own) (laid l rest), rows_in_lem (l + 1) own, rows_in_lem l rest)

module _ (words values : List ℕ) where
  -- a row that names a map is one of the message's
  pub names_few : (row : ℕ) (own : Map) → is_message words values ≡ true → Names words values row own → row < message_rows
  unfolding Names
  names_few row own lent names =
      let held = message-held words values lent in
      let m = message_in words values in
      let count = (parts_at words m (means words values held).rows).count in
      omega (arith, named-row names, rows_in_lem 0 (parts m), count, held.laid.counted)

  pub part-few : (part : Part) (row : ℕ) → part_found part words values ≡ map.At row → row < message_rows
  part-few part row e = by_test (is_message words values) refl
    where
      by_test : (b : Bool) → is_message words values ≡ b → row < message_rows
      by_test true lent =
          let p = part_looked_up words values part lent in
          let same = sym p.answer ∙ e in
          let is_row : p.row ≡ row = same_row same in
          omega (arith, names_few p.row _ lent p.names)
        where
          same_row : {a b : ℕ} → map.At a ≡ map.At b → a ≡ b
          same_row q = cc
      by_test false none_lent =
          let same = sym ((part_no_message words values part).1 none_lent) ∙ e in
          let z : ◌≡◌ {A = ℕ} 0 1 = cc in
          absurd (omega arith)

  pub entry-few : (row start number head : ℕ) → entry_found row start number words values ≡ map.At head → head < message_rows
  entry-few row start number head e = by_test (is_message words values) refl
    where
      by_names : is_message words values ≡ true → RowNames words values row → head < message_rows
      by_names lent (names_map own names) =
          let n = (entry_looked_up words values row start number own lent names).found head e in
          names_few head n.below lent n.names
      by_names lent (names_nothing nowhere) =
          let same = sym (entry_no_map words values row start number lent nowhere) ∙ e in
          let z : ◌≡◌ {A = ℕ} 0 1 = cc in
          absurd (omega arith)

      by_test : (b : Bool) → is_message words values ≡ b → head < message_rows
      by_test true lent = by_names lent (row_names words values row)
      by_test false none_lent =
          let same = sym ((entry_no_message words values row start number).1 none_lent) ∙ e in
          let z : ◌≡◌ {A = ℕ} 0 1 = cc in
          absurd (omega arith)

  pub value_within : (row tag : ℕ) (span : Value) → field_found row tag words values ≡ value.At span → span.place + span.size ≤ 8192
  value_within row tag span e = by_test (is_message words values) refl
    where
      by_names : is_message words values ≡ true → RowNames words values row → span.place + span.size ≤ 8192
      by_names lent (names_map own names) = ((field_looked_up words values row tag own lent names).found span e).0
      by_names lent (names_nothing nowhere) =
          let same = sym (field_no_map words values row tag lent nowhere) ∙ e in
          let z : ◌≡◌ {A = ℕ} 0 1 = cc in
          absurd (omega arith)

      by_test : (b : Bool) → is_message words values ≡ b → span.place + span.size ≤ 8192
      by_test true lent = by_names lent (row_names words values row)
      by_test false none_lent =
          let same = sym ((field_no_message words values row tag).1 none_lent) ∙ e in
          let z : ◌≡◌ {A = ℕ} 0 1 = cc in
          absurd (omega arith)
