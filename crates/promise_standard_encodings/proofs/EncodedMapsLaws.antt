-- Laws of what specs/EncodedMaps.antt defines.
use Rattle.std.specs.Prelude.{◌≡◌, refl, true, false, ◌≢◌, ℕ, suc, ◌≤◌, length, get_or, eqb}
use Rattle.std.proofs.Common.{ap, ◌∙◌, arith, eq-eqb}
use mathlib.Core.List.{List, [], ◌∷◌, ◌++◌, append_assoc}
use Rattle.std.proofs.lemmas.Bool.{eqb-false}
use Rattle.field_rules.specs.Decimal.{decimal}
use Rattle.field_rules.proofs.DecimalLaws.{decimal-some, decimal_digits, decimal-worth, decimal_no_zero}
use Rattle.field_rules.specs.Field.{field_bytes}
use Rattle.standard_rules.specs.Standard as standard
use Rattle.standard_rules.specs.Standard.{Tables, All, NotDelimiter, Int, TagNum, Value, told, Distinct, Fields, Stands}
use Rattle.standard_rules.specs.Reading.{fields-append}
use Rattle.standard_rules.proofs.StandardLaws.{once_of}
use Rattle.message_maps.specs.Map.{Map, end, field, entry, holds, without_field}
use Rattle.message_lent_rules.specs.Formed.{is_formed}
use Rattle.message_lent_rules.specs.StandLaws.{nor, field_formed, entry_formed}
use Rattle.encode_rules.specs.Encoding.{text}
use Rattle.encoder.specs.CountLaws.{gone_once}
use Rattle.promise_standard.specs.Texts.{digits_int, int_value}
use Rattle.promise_standard_encodings.specs.EncodedMaps.{Conforms, EntriesOf, FieldsOf, Next, Some, Values, alone, counted, entries, fields, no_entry, no_more, none, one, one_entry, tags_of, with_data, within}

-- every tag of the map is of its part
pub tags-here : {T : Tables} {IsValue : List ℕ → Type 0} {Here : ℕ → Type 0} {next : Next} {m : Map} → Conforms T IsValue Here next m → All Here (tags_of m)
unfolding tags_of
tags-here no_more = All.none
tags-here (alone h n d v more) = All.also h (tags-here more)
tags-here (with_data h n k c p i s more) = All.also h (All.also k (tags-here more))
tags-here (counted h g d i more) = All.also h (tags-here more)
tags-here (no_entry more) = tags-here more
tags-here (one_entry own of free more) = tags-here more

module _ {P : List ℕ → Type 0} where
  pub of_field : {t : ℕ} {v : List ℕ} {rest : Map} → Values P (field t v rest) → P v × Values P rest
  of_field (one p more) = (p, more)

  pub of_entry : {s d : ℕ} {own rest : Map} → Values P (entry s d own rest) → Values P own × Values P rest
  of_entry (within own more) = (own, more)

-- a value that was read holds no delimiter, so it is one of the standard if it is not empty
pub plain_conforms : {T : Tables} {Here : ℕ → Type 0} {next : Next} {m : Map} → Conforms T Some Here next m → Values (All NotDelimiter) m → Conforms T Value Here next m
plain_conforms no_more p = no_more
plain_conforms (alone h n d v c) p = alone h n d (record { some = v.some; plain = (of_field p).0 }) (plain_conforms c (of_field p).1)
plain_conforms (with_data h n k o e i s c) p = with_data h n k o e i s (plain_conforms c (of_field (of_field p).1).1)
plain_conforms (counted h g d i c) p = counted h g d i (plain_conforms c (of_field p).1)
plain_conforms (no_entry c) p = no_entry (plain_conforms c p)
plain_conforms (one_entry first of free c) p = one_entry (plain_conforms first (of_entry p).0) of free (plain_conforms c (of_entry p).1)

-- ===== tags =====

pub tags_without : (tag : ℕ) (m : Map) → holds tag m ≡ false → All (λ t. t ≢ tag) (tags_of m)
unfolding holds tags_of
tags_without tag end h = All.none
tags_without tag (field t v rest) h = let n = nor (eqb t tag) (holds tag rest) h in All.also (eqb-false t tag n.0) (tags_without tag rest n.1)
tags_without tag (entry s d own rest) h = tags_without tag rest h

held_once : (t : ℕ) (v : List ℕ) (rest : Map) → is_formed (field t v rest) ≡ true → holds t rest ≡ false
unfolding without_field
held_once t v rest formed = rw (eq-eqb t t refl) at (gone_once t (field t v rest) formed)

pub tags_distinct : (m : Map) → is_formed m ≡ true → Distinct (tags_of m)
unfolding tags_of
tags_distinct end formed = Distinct.empty
tags_distinct (field t v rest) formed = Distinct.fresh (tags_without t rest (held_once t v rest formed)) (tags_distinct rest (field_formed t v rest formed).rest_formed)
tags_distinct (entry s d own rest) formed = tags_distinct rest (entry_formed s d own rest formed).rest_formed

-- the digits of a tag are a tag number
pub decimal_int : (n : ℕ) → Int (decimal n) n
decimal_int n = digits_int (decimal n) n (decimal-some n) (decimal_digits n) (decimal-worth n)

pub decimal-tag : (tag : ℕ) → tag ≢ 0 → TagNum (decimal tag) tag
decimal-tag tag some = by_form (decimal tag) refl
  where
    by_form : (s : List ℕ) → decimal tag ≡ s → TagNum (decimal tag) tag
    by_form [] e = absurd (omega (arith, decimal-some tag, ap length e))
    by_form (x ∷ s) e =
        record {
          highest = x;
          others = s;
          starts = e;
          no_leading_zero = λ z. let n : (tag ≡ 0) → ⊥ = some in decimal_no_zero tag (omega arith) (ap (λ (l : List ℕ). get_or l 0 0) e ∙ z);
          int = decimal_int tag;
        }

pub field_is : (tag : ℕ) (value : List ℕ) → tag ≢ 0 → Value value → standard.Field tag value (field_bytes 1 (decimal tag) value)
field_is tag value some v = record { text = decimal tag; is_tag = decimal-tag tag some; is_value = v; whole = refl }

abbrev Written : Tables → (ℕ → Type 0) → Next → Map → Type 0
Written T Here fields m = FieldsOf T Here m
Written T Here (entries s d n) m = EntriesOf T Here s d n m

-- a data field, and the length field before it
data_is : (l t : ℕ) (count v : List ℕ) → l ≢ 0 → t ≢ 0 → Int count (length v) → 1 ≤ length v → standard.DataField l count t v (field_bytes 1 (decimal l) count ++ field_bytes 1 (decimal t) v)
data_is l t count v some-length some-tag i s = record {
  length-bytes = field_bytes 1 (decimal l) count;
  text = decimal t;
  length-field = field_is l count some-length (int_value count (length v) i);
  counts = i;
  is_tag = decimal-tag t some-tag;
  some = s;
  whole = refl;
}

module _ {T : Tables} {Here : ℕ → Type 0} where
  written : (next : Next) (m : Map) → Conforms T Value Here next m → is_formed m ≡ true → Written T Here next m
  unfolding text tags_of
  written _ _ no_more formed = record { all = []; text_is = Fields.no_field; members_are = Stands.no_member }
  written _ _ (alone {t = t} {v = v} {rest = rest} here single no_data value more) formed =
      let f = field_formed t v rest formed in
      let r = written fields rest more f.rest_formed in
      record {
        all = told t v ∷ r.all;
        text_is = Fields.plain (field_is t v (eqb-false t 0 f.some) value) no_data r.text_is;
        members_are = Stands.field here single r.members_are;
      }
  written _ _ (with_data {l = l} {t = t} {count = count} {v = v} {rest = rest} here single there other pair i s more) formed =
      let f = field_formed l count (field t v rest) formed in
      let g = field_formed t v rest f.rest_formed in
      let r = written fields rest more g.rest_formed in
      let d = data_is l t count v (eqb-false l 0 f.some) (eqb-false t 0 g.some) i s in
      record {
        all = told l count ∷ (told t v ∷ r.all);
        text_is = rw (← append_assoc (field_bytes 1 (decimal l) count) (field_bytes 1 (decimal t) v) (text 1 rest)) (Fields.paired pair d r.text_is);
        members_are = Stands.field here single (Stands.field there other r.members_are);
      }
  written _ _ (counted {t = t} {d = d} {n = n} {v = v} {rest = rest} here opening no_data i more) formed =
      let f = field_formed t v rest formed in
      let r = written (entries t d (suc n)) rest more f.rest_formed in
      record {
        all = told t v ∷ (r.run ++ r.others);
        text_is = Fields.plain (field_is t v (eqb-false t 0 f.some) (int_value v (suc n) i)) no_data r.text_is;
        members_are = Stands.group here opening i r.entries_are r.members_are;
      }
  written _ _ (no_entry {rest = rest} more) formed =
      let r = written fields rest more formed in
      record { run = []; others = r.all; text_is = r.text_is; entries_are = Stands.no_entry; members_are = r.members_are }
  written _ _ (one_entry {s = s} {d = d} {n = n} {v = v} {inner = inner} {rest = rest} first of free more) formed =
      let f = entry_formed s d (field d v inner) rest formed in
      let o = written fields (field d v inner) first f.own_formed in
      let r = written (entries s d n) rest more f.rest_formed in
      record {
        run = o.all ++ r.run;
        others = r.others;
        text_is = rw (append_assoc o.all r.run r.others) (fields-append o.all (r.run ++ r.others) (text 1 (field d v inner)) (text 1 rest) o.text_is r.text_is);
        entries_are = Stands.entry o.members_are of (once_of (tags_distinct (field d v inner) f.own_formed) free) r.entries_are;
        members_are = r.members_are;
      }

  -- "each count followed by its entries"
  pub map-written : (m : Map) → Conforms T Value Here fields m → is_formed m ≡ true → FieldsOf T Here m
  map-written m c formed = written fields m c formed
