-- A built message that conforms is encoded to a message of the standard; where it is encoded to its own bytes, it is one itself. Its values were
-- read up to a separator, so they hold none: that they are not empty is all that is asked of them.
use Rattle.std.proofs.Math.Path.{◌≡◌}
use Rattle.std.specs.Prelude.{refl, Bool, List, [], ◌∷◌, ◌++◌, ℕ, ◌+◌, eqb}
use Rattle.std.proofs.Common.{sym, ◌∙◌, arith}
use Rattle.std.proofs.Math.Bool.{true, false}
use Rattle.field_rules.specs.Choice.{pick}
use Rattle.field_rules.proofs.FindLaws.{Absent}
use Rattle.field_rules.proofs.FindLaws as find
use Rattle.standard_rules.specs.Standard as standard
use Rattle.standard_rules.specs.Standard.{Tables, NotDelimiter, Value}
use Rattle.build_records.specs.Records.{value_at}
use Rattle.build_records.specs.declared.Record.{Record}
use Rattle.message_maps.specs.Map.{Map, end, field, entry, holds, without_field, some, value_under}
use Rattle.message_lent_rules.specs.Meaning.{Message}
use Rattle.build_nesting_laws.specs.Entries.{All}
use Rattle.message_read_laws.specs.ShapeLaws.{all_first, all_rest, all_left, all_right}
use Rattle.message_take_over.specs.Derived.{Stands, no_more as stands-none, own as stands-own, in_entry as stands-entry}
use Rattle.encode_rules.specs.Encoding.{encoding}
use Rattle.encode_rewriting_laws.proofs.EncodedBuilt.{Built, built_maps}
use Rattle.encode_rewriting_laws.proofs.ReadWritten.{Writable}
use Rattle.promise_standard_encodings.specs.EncodedMaps.{Values, none, one, within, Some}
use Rattle.promise_standard_encodings.proofs.EncodedMapsLaws.{of_field, of_entry, plain_conforms}
use Rattle.promise_standard_encodings.specs.EncodedHeader.{others_of}
use Rattle.promise_standard_encodings.specs.EncodedStandard.{Conformant}
use Rattle.promise_standard_encodings.proofs.EncodedStandardLaws.{encoding_standard}

-- no delimiter in a text
abbrev Plain : List ℕ → Type 0
Plain text = standard.All NotDelimiter text

absent_plain : (text : List ℕ) → Absent 1 text → Plain text
absent_plain [] find.none = standard.All.none
absent_plain (x ∷ text) (find.also n a) = standard.All.also n (absent_plain text a)

-- a value that was read with 0x01 between the fields
writable_plain : (bytes : List ℕ) (r : Record) → Writable 1 bytes r → Plain (value_at bytes r)
unfolding value_at
writable_plain bytes r w = absent_plain _ w.no_separator

-- the values of a map are those of the records that stand for it
stand_values : {bytes : List ℕ} {part depth number start entries : ℕ} {map : Map} {rs : List Record} → Stands bytes part depth number start entries map rs → All (Writable 1 bytes) rs → Values Plain map
stand_values stands-none w = none
stand_values {bytes} (stands-own r o more) w = one (writable_plain bytes r (all_first w)) (stand_values more (all_rest w))
stand_values {bytes} (stands-entry {rs = rs} {ss = ss} r o inner more) w =
    within (one (writable_plain bytes r (all_first w)) (stand_values inner (all_left rs ss (all_rest w)))) (stand_values more (all_right rs ss (all_rest w)))

module _ {P : List ℕ → Type 0} where
  -- also where a field is left out
  values_without : (tag : ℕ) (m : Map) → Values P m → Values P (without_field tag m)
  unfolding without_field
  values_without tag end p = none
  values_without tag (field t v rest) p = by_test (eqb t tag) (values_without tag rest (of_field p).1)
    where
      by_test : (b : Bool) → Values P (without_field tag rest) → Values P (pick b rest (field t v (without_field tag rest)))
      by_test true again = (of_field p).1
      by_test false again = one (of_field p).0 again
  values_without tag (entry s d own rest) p = within (of_entry p).0 (values_without tag rest (of_entry p).1)

  seen_value : (tag : ℕ) (value : List ℕ) (m : Map) → Values P m → value_under tag m ≡ some value → P value
  unfolding value_under
  seen_value tag value end p e = let z : ◌≡◌ {A = ℕ} 0 1 = cc in absurd (omega arith)
  seen_value tag value (field t v rest) p e = by_test (eqb t tag) e (seen_value tag value rest (of_field p).1)
    where
      by_test : (b : Bool) → pick b (some v) (value_under tag rest) ≡ some value → (value_under tag rest ≡ some value → P value) → P value
      by_test true q again = let same : v ≡ value = cc in rw (← same) (of_field p).0
      by_test false q again = again q
  seen_value tag value (entry s d own rest) p e = seen_value tag value rest (of_entry p).1 e

-- what conforms but for delimiters in its values conforms where they have none
plain_conformant : {T : Tables} (m : Message) → Values Plain m.header → Values Plain m.body → Values Plain m.trailer → Conformant T Some m → Conformant T Value m
plain_conformant m h b t c = record {
  header = plain_conforms c.header (unfold others_of in values_without 35 _ (values_without 8 _ (values_without 9 m.header h)));
  body = plain_conforms c.body b;
  trailer = plain_conforms c.trailer (values_without 10 m.trailer t);
  begin_string = λ v e. record { some = (c.begin_string v e).some; plain = seen_value 8 v m.header h e };
  msg_type = λ v e. record { some = (c.msg_type v e).some; plain = seen_value 35 v m.header h e };
  msg_type_no_data = c.msg_type_no_data;
  begin_string-alone = c.begin_string-alone;
  body_length-alone = c.body_length-alone;
  msg_type-alone = c.msg_type-alone;
  check-sum_in_header = c.check-sum_in_header;
  placed_in_body = c.placed_in_body;
  placed_in_trailer = c.placed_in_trailer;
  header-trailer = c.header-trailer;
  outside_groups = c.outside_groups;
}

module _ {bytes : List ℕ} {m : Message} {begin size type : Record} {others of_body : List Record} {check : Record} {of_trailer : List Record} (built : Built bytes m begin size type others of_body check of_trailer) where
  abbrev header : List Record
  header = begin ∷ size ∷ type ∷ others

  abbrev trailer : List Record
  trailer = check ∷ of_trailer

  -- 8 and 35 are held by the header
  held : (holds 8 m.header ≡ true) × (holds 35 m.header ≡ true)
  unfolding holds
  held = let d = built_maps built in rw d.header_is (refl, refl)

  -- a built message that is encoded to its own bytes
  pub built_standard : {T : Tables} → All (Writable 1 bytes) (header ++ (of_body ++ trailer)) → Conformant T Some m → bytes ≡ encoding 1 m → standard.Message T bytes
  built_standard writable c same =
      let behind = all_right header (of_body ++ trailer) writable in
      let conformant =
      plain_conformant m (stand_values built.header (all_left header (of_body ++ trailer) writable)) (stand_values built.body (all_left of_body trailer behind)) (stand_values built.trailer (all_right of_body trailer behind)) c in
      rw same (encoding_standard m (record { formed = built.within.formed; begin_string = held.0; msg_type = held.1 }) conformant)
