-- What is found in the rows that were opened is what the definitions say of the message.
use Rattle.std.specs.Prelude.{◌≡◌, refl, Bool, true, false, List, ℕ, ◌+◌, ◌-◌, ◌≤◌}
use Rattle.std.proofs.Common.{arith}
use Rattle.message_maps.specs.Map.{none}
use Rattle.message_maps.specs.Rows.{rows_from, message_rows}
use Rattle.message_lent_rules.specs.Lent.{is_message}
use Rattle.message_lent_rules.specs.Meaning.{Message, parts, message_in}
use Rattle.message_rules.specs.RowChanges.{place_of, span_of}
use Rattle.message_rules.specs.declared.Part.{Part}
use Rattle.message_rules.specs.declared.Part.TheVariants.{Header, Body, Trailer}
use Rattle.message_rules.specs.LookUps.{map_at, part_row, value_of_map, entry_of, part_found, field_found, entry_found}
use Rattle.message_rules.proofs.LookUpLimits.{rows_in_lem}
use Rattle.message_look_ups.specs.Opening.{opened_at, value_from, entry_from}
use Rattle.message_look_ups.specs.RowLaws.{value_laid, entry-laid}
use Rattle.message_look_ups.specs.OpeningLaws.{Inside, Opens, shut, opened, opens, opened_no}
use Rattle.message_rules.specs.declared.FoundValue.TheVariants as value
use Rattle.message_rules.specs.declared.FoundMap.TheVariants as map
use Rattle.message_look_ups.specs.declared.Rows.{Rows}
use Rattle.message_look_ups.specs.declared.Opened.{Opened}
use Rattle.message_look_ups.specs.declared.Opened.TheVariants.{NoMessage, Absent, Within}

-- what an opening tells
pub data OpeningTold (head : ℕ) (words values : List ℕ) : Opened → Type 0 where
  no_message : is_message words values ≡ false → OpeningTold head words values NoMessage
  no_map : is_message words values ≡ true → map_at head 0 (parts (message_in words values)) ≡ none → OpeningTold head words values Absent
  a-map : {rows : Rows} → is_message words values ≡ true → Inside head rows words (parts (message_in words values)) → OpeningTold head words values (Within rows)

pub opening-told : (head : ℕ) (words values : List ℕ) (o : Opened) → opened_at head words values ≡ o → OpeningTold head words values o
opening-told head words values o same = rw same at (by_test (is_message words values) refl)
  where
    by_opens : (lent : is_message words values ≡ true) → Opens head words values lent → OpeningTold head words values (opened_at head words values)
    by_opens lent (shut e f) = rw e (no_map lent f)
    by_opens lent (opened e i) = rw e (a-map lent i)

    by_test : (b : Bool) → is_message words values ≡ b → OpeningTold head words values (opened_at head words values)
    by_test false e = rw (opened_no head words values e) (no_message e)
    by_test true e = by_opens e (opens head words values e)

module _ (head : ℕ) (words values : List ℕ) where
  -- no message, no map
  pub field-none : (tag : ℕ) → OpeningTold head words values NoMessage → field_found head tag words values ≡ value.NoMessage
  unfolding field_found
  field-none tag (no_message e) = rw e

  pub field_shut : (tag : ℕ) → OpeningTold head words values Absent → field_found head tag words values ≡ value.Absent
  unfolding field_found value_of_map
  field_shut tag (no_map e n) = rw (e, n)

  pub entry-none : (start number : ℕ) → OpeningTold head words values NoMessage → entry_found head start number words values ≡ map.NoMessage
  unfolding entry_found
  entry-none start number (no_message e) = rw e

  pub entry_shut : (start number : ℕ) → OpeningTold head words values Absent → entry_found head start number words values ≡ map.Absent
  unfolding entry_found entry_of
  entry_shut start number (no_map e n) = rw (e, n)

  -- the rows of the map that is named
  pub record Ranged (rows : Rows) : Type 0 where
    pub forwards : rows.from ≤ rows.to
    pub few : rows.to ≤ message_rows
    pub small : place_of words rows.from ≤ 8192
    pub lent : is_message words values ≡ true

  pub ranged : (rows : Rows) → OpeningTold head words values (Within rows) → Ranged rows
  ranged rows (a-map e i) =
      record { forwards = i.forwards; few = i.few; small = omega (arith, i.starts, i.small); lent = e }

  pub field_open : (tag : ℕ) (rows : Rows) → OpeningTold head words values (Within rows) → value_from rows.level tag (place_of words rows.from) (rows_from (rows.to - rows.from) rows.from words) ≡ field_found head tag words values
  unfolding field_found value_of_map
  field_open tag rows (a-map e i) = rw (e, i.named, i.own_rows_lem, i.starts) (value_laid rows.level tag i.place i.own)

  pub entry_open : (start number : ℕ) (rows : Rows) → OpeningTold head words values (Within rows) → entry_from rows.level start number rows.from (rows_from (rows.to - rows.from) rows.from words) ≡ entry_found head start number words values
  unfolding entry_found entry_of
  entry_open start number rows (a-map e i) = rw (e, i.named, i.own_rows_lem, i.from) (entry-laid rows.level start number (head + 1) i.own)

-- the row that names a part stands before its first
pub part_row_lem : (part : Part) (m : Message) → (span_of part m).from ≡ part_row part m + 1
unfolding span_of part_row
part_row_lem Header m = refl
part_row_lem Body m = omega (arith, rows_in_lem 1 m.header)
part_row_lem Trailer m = omega (arith, rows_in_lem 1 m.header, rows_in_lem 1 m.body)

pub part_none : (part : Part) (words values : List ℕ) → is_message words values ≡ false → part_found part words values ≡ map.NoMessage
unfolding part_found
part_none part words values e = rw e

pub part_at : (part : Part) (words values : List ℕ) (row : ℕ) → is_message words values ≡ true → row ≡ part_row part (message_in words values) → part_found part words values ≡ map.At row
unfolding part_found
part_at part words values row e r = rw (e, r)
