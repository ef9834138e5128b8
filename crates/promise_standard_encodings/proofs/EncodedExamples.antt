-- The conditions hold of a message with a group of two entries and with data that hold a delimiter; so its encoding is a message of the
-- standard, for the sample tables.
use Rattle.std.specs.Prelude.{◌≡◌, refl, Bool, true, false, List, [], ◌∷◌, ℕ, eqb}
use Rattle.std.proofs.Common.{sym, ap, ◌∙◌, arith, eqb-true}
use Rattle.field_rules.specs.Choice.{pick}
use Rattle.field_rules.specs.Text.{bytes}
use Rattle.field_rules.specs.CheckSum.{sum_of, checksum_digits}
use Rattle.field_rules.specs.Decimal.{decimal, decimal_within}
use Rattle.standard_rules.specs.Standard as standard
use Rattle.standard_rules.specs.Standard.{Body, All, placed, Value}
use Rattle.standard_rules.proofs.StandardLaws.{one_of}
use Rattle.standard_rules.proofs.Samples.{Sample, no_data, no_count, in_body_lem, of-group, int, value, outside}
use Rattle.message_maps.specs.Map.{Map, end, field, entry, joined, holds, replaced, without_field, past_leading, run_on, without_run, stored, some, value_under}
use Rattle.message_lent_rules.specs.Meaning.{Message}
use Rattle.message_lent_rules.specs.Formed.{stands, goes_on, is_formed}
use Rattle.encode_rules.specs.Encoding.{text, text_under, is_first, is_rest, header_text, message_text, bytes_of, dropped, body_length, measured, sum_digits, summed, encoding}
use Rattle.encoder.specs.FoundLaws.{hangs}
use Rattle.promise_standard_encodings.specs.EncodedMaps.{fields, Conforms, no_more, alone, with_data, counted, no_entry, one_entry, tags_of}
use Rattle.promise_standard_encodings.specs.EncodedHeader.{others_of}
use Rattle.promise_standard_encodings.specs.EncodedStandard.{Complete, Conformant}
use Rattle.promise_standard_encodings.proofs.EncodedStandardLaws.{encoding_standard}

abbrev allocations : Map → Map
allocations rest = field 78 (bytes "2") (entry 78 79 (field 79 (bytes "A") end) (entry 78 79 (field 79 (bytes "B") end) rest))

abbrev example : Message
example = record { header = field 8 (bytes "F") (field 35 (bytes "D") end); body = allocations (field 95 (bytes "3") (field 96 (bytes "a|b") end)); trailer = end }

pub example-written : encoding 1 example ≡ bytes "8=F|9=32|35=D|78=2|79=A|79=B|95=3|96=a|b|10=144|"
unfolding encoding summed sum_digits checksum_digits sum_of message_text header_text text_under text is_first is_rest measured dropped body_length bytes_of without_field stored joined holds replaced without_run run_on decimal decimal_within
example-written = refl

example-complete : Complete example
unfolding is_formed stands past_leading goes_on holds
example-complete = record { formed = record { header = refl; body = refl; trailer = refl }; begin_string = refl; msg_type = refl }

allocated : (v : List ℕ) → Value v → Conforms Sample Value (Body Sample) fields (field 79 v end)
allocated v is = alone (in_body_lem 79 refl refl) (no_count 79 refl) (no_data 79 refl) is no_more

body_conforms : Conforms Sample Value (Body Sample) fields example.body
unfolding tags_of
body_conforms =
    counted (in_body_lem 78 refl refl) refl (no_data 78 refl) (int (bytes "2") 2 refl)
    (one_entry (allocated _ (value (bytes "A") refl)) (of-group 78 (79 ∷ []) refl) (All.also refl All.none)
    (one_entry (allocated _ (value (bytes "B") refl)) (of-group 78 (79 ∷ []) refl) (All.also refl All.none)
    (no_entry (with_data {v = bytes "a|b"} (in_body_lem 95 refl refl) (no_count 95 refl) (in_body_lem 96 refl refl) (no_count 96 refl) refl (int (bytes "3") 3 refl) (omega arith) no_more))))

seen : (a b : List ℕ) → Value a → some a ≡ some b → Value b
seen a b v e = let same : a ≡ b = cc in rw (← same) v

no_placed : (tag : ℕ) → one_of placed tag ≡ true → holds tag example.body ≡ false
unfolding holds
no_placed tag p = by_tests (eqb 78 tag) (eqb 95 tag) (eqb 96 tag) refl refl refl
  where
    other : (t : ℕ) → eqb t tag ≡ true → one_of placed t ≡ false → ⊥
    other t e free = let z : ◌≡◌ {A = ℕ} 0 1 = (let q = ap (one_of placed) (eqb-true t tag e) in cc) in omega arith

    by_tests : (a b c : Bool) → eqb 78 tag ≡ a → eqb 95 tag ≡ b → eqb 96 tag ≡ c → pick a true (pick b true (pick c true false)) ≡ false
    by_tests true b c x y z = absurd (other 78 x refl)
    by_tests false true c x y z = absurd (other 95 y refl)
    by_tests false false true x y z = absurd (other 96 z refl)
    by_tests false false false x y z = refl

example_conforms : Conformant Sample Value example
unfolding without_field holds hangs value_under others_of tags_of
example_conforms = record {
  header = no_more;
  body = body_conforms;
  trailer = no_more;
  begin_string = λ v e. seen (bytes "F") v (value (bytes "F") refl) e;
  msg_type = λ v e. seen (bytes "D") v (value (bytes "D") refl) e;
  msg_type_no_data = no_data 35 refl;
  begin_string-alone = refl;
  body_length-alone = refl;
  msg_type-alone = refl;
  check-sum_in_header = refl;
  placed_in_body = no_placed;
  placed_in_trailer = λ tag p. refl;
  header-trailer = λ tag h. refl;
  outside_groups = outside (78 ∷ 95 ∷ 96 ∷ []) refl;
}

pub example_standard : standard.Message Sample (encoding 1 example)
example_standard = encoding_standard example example-complete example_conforms
