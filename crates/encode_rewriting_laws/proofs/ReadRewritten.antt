-- What an encoding of records comes to is sound, and reads as 8, 9, 35, a field for each further record, and 10: the fields have the
-- tags and values of the records.
use Rattle.std.specs.Prelude.{◌≡◌, refl, Bool, true, false, List, [], ◌∷◌, ◌++◌, ℕ, ◌+◌, ◌-◌, ◌/◌, ◌%◌, ◌≤◌, length, eqb}
use Rattle.std.proofs.Common.{sym, ◌∙◌, append_assoc, append-nil, arith, length-append, Some, Ok}
use Rattle.std.proofs.Math.Path.{ap}
use Rattle.build_records.specs.Records.{value_at}
use Rattle.field_rules.specs.declared.Mode.{Mode}
use Rattle.field_rules.specs.Choice.{pick}
use Rattle.field_rules.specs.CheckSum.{sum_of, checksum_of, checksum_digits}
use Rattle.field_rules.specs.Number.{is_digit, all_digits, number_in}
use Rattle.field_rules.specs.Decimal.{decimal, decimal_within}
use Rattle.field_rules.proofs.DecimalLaws.{digit_byte, last_digit, decimal_digits, number-reads, checksum_reads}
use Rattle.field_rules.specs.Field.{start_at, value_of}
use Rattle.field_rules.specs.Fields.{Fields, field, fields_from}
use Rattle.field_rules.specs.declared.Field.{Field}
use Rattle.build_integrity_rules.specs.Integrity.{integrity_of}
use Rattle.build_integrity_rules.specs.declared.Verified.{Verified}
use Rattle.build_records.specs.declared.Record.{Record}
use Rattle.build_nesting_laws.specs.Entries.{All}
use Rattle.encode_rules.specs.Encoding.{summed, sum_digits}
use Rattle.field_rules.specs.Separator.{is_refused_separator}
use Rattle.encode_rewriting_laws.proofs.Copied.{onto, Copied, CopiedAt, copied_read}
use Rattle.field_rules.proofs.SpelledLaws.{digits_absent}
use Rattle.encode_rewriting_laws.specs.ReadSound.{tagged, placed, framed, framed_fields, Unseparated, framed_sound, framed-start, framed-end}
use Rattle.encode_rewriting_laws.specs.ReadSound.{framed-begin, framed-type, framed-size, placed-tag, placed_first}
use Rattle.encode_rewriting_laws.proofs.ReadWritten.{Writable}
use Rattle.encode_rewriting_laws.specs.Written.{written, rewritten}

-- a separator that is not refused is no digit
pub no_digit : (separator : ℕ) → is_refused_separator separator ≡ false → is_digit separator ≡ false
unfolding is_refused_separator
no_digit separator e = by_test (eqb separator 61) e
  where
    by_test : (b : Bool) → pick b true (is_digit separator) ≡ false → is_digit separator ≡ false
    by_test true e = let z : ◌≡◌ {A = ℕ} 0 1 = cc in absurd (omega arith)
    by_test false e = e

sum-some : (s : List ℕ) → all_digits (sum_digits s) ≡ true
unfolding sum_digits checksum_digits
sum-some s =
    let n = sum_of s % 256 in
    digit_byte (n / 100) _ (omega arith) (digit_byte (n / 10 % 10) _ (omega arith) (last_digit (n % 10) (omega arith)))

sum_three : (s : List ℕ) → length (sum_digits s) ≡ 3
unfolding sum_digits checksum_digits
sum_three s = refl

sum-reads : (s : List ℕ) → checksum_of (sum_digits s) ≡ Some (sum_of s % 256)
unfolding sum_digits
sum-reads s = checksum_reads (sum_of s % 256) (omega arith)

-- a copy of records reads like them
pub record ReadsLike (mode : Mode) (bytes copy : List ℕ) (begin type : Record) (others : List Record) : Type 0 where
  pub verified : Verified
  pub sound : integrity_of mode copy ≡ Ok verified
  pub begin_tag : verified.begin_string.tag ≡ 8
  pub begin_value : value_of copy verified.begin_string ≡ value_at bytes begin
  pub length_tag : verified.body_length.tag ≡ 9
  pub type_tag : verified.msg_type.tag ≡ 35
  pub type_value : value_of copy verified.msg_type ≡ value_at bytes type
  pub sum_tag : verified.checksum.tag ≡ 10
  pub sum_first : verified.checksum.first ≡ length copy - 7
  pub fields : List Field
  pub copied : Copied bytes copy others fields
  pub end : Fields
  pub reads : fields_from mode copy (start_at 0)
      ≡ field verified.begin_string (field verified.body_length (field verified.msg_type (onto fields (field verified.checksum end))))

-- the text that is summed ends with 10
summed-text : (mode : Mode) (before : List ℕ) → summed mode.separator before ≡ before ++ (tagged mode.separator 10 (sum_digits before) ++ [])
unfolding summed tagged decimal decimal_within
summed-text mode before = ap (λ (l : List ℕ). before ++ l) (sym (append-nil _))

rewritten-text : (mode : Mode) (bytes : List ℕ) (begin type : Record) (others : List Record) → begin.tag ≡ 8 → type.tag ≡ 35
    → rewritten mode.separator bytes begin (type ∷ others)
    ≡ summed mode.separator (framed mode.separator (value_at bytes begin)
    (decimal (length (tagged mode.separator 35 (value_at bytes type) ++ written mode.separator bytes others)))
    (tagged mode.separator 35 (value_at bytes type) ++ written mode.separator bytes others))
unfolding rewritten written framed tagged
rewritten-text mode bytes begin type others eight thirty-five = rw (eight, thirty-five)

-- reading behind 35: a field for each further record, and 10
others-read : (mode : Mode) (bytes copy b n t s : List ℕ) (others : List Record) → All (Writable mode.separator bytes) others
    → copy ≡ framed mode.separator b n (tagged mode.separator 35 t ++ written mode.separator bytes others) ++ (tagged mode.separator 10 s ++ [])
    → CopiedAt mode bytes copy (length ((tagged mode.separator 8 b ++ tagged mode.separator 9 n) ++ tagged mode.separator 35 t)) others
unfolding framed
others-read mode bytes copy b n t s others writable whole =
    copied_read mode bytes others writable copy ((tagged mode.separator 8 b ++ tagged mode.separator 9 n) ++ tagged mode.separator 35 t)
    (tagged mode.separator 10 s ++ []) (whole ∙ simp append_assoc)

others-end : (separator : ℕ) (b n t rest : List ℕ)
    → length ((tagged separator 8 b ++ tagged separator 9 n) ++ tagged separator 35 t) + length rest
    ≡ length (framed separator b n (tagged separator 35 t ++ rest))
unfolding framed
others-end separator b n t rest = simp length-append (omega arith)

counted_fits : (separator : ℕ) (b n counted : List ℕ) → length counted ≤ length (framed separator b n counted)
unfolding framed
counted_fits separator b n counted = simp length-append (omega arith)

module _ (mode : Mode) (bytes copy n s : List ℕ) (begin type : Record) (others : List Record) (writable : All (Writable mode.separator bytes) others)
    (whole : copy ≡ framed mode.separator (value_at bytes begin) n (tagged mode.separator 35 (value_at bytes type)
    ++ written mode.separator bytes others) ++ (tagged mode.separator 10 s ++ []))
    (apart : Unseparated mode.separator (value_at bytes begin) n (value_at bytes type) s) (three : length s ≡ 3)
    (right_length : number_in n ≡ Some (length (tagged mode.separator 35 (value_at bytes type) ++ written mode.separator bytes others)))
    (right-sum : checksum_of s ≡ Some
    (sum_of (framed mode.separator (value_at bytes begin) n (tagged mode.separator 35 (value_at bytes type) ++ written mode.separator bytes others))
    % 256)) where
  framed_like : CopiedAt mode bytes copy
      (length ((tagged mode.separator 8 (value_at bytes begin) ++ tagged mode.separator 9 n) ++ tagged mode.separator 35 (value_at bytes type))) others
      → ReadsLike mode bytes copy begin type others
  unfolding framed_fields
  framed_like later =
      let rest = written mode.separator bytes others in
      let b = value_at bytes begin in
      let t = value_at bytes type in
      let size = framed-size mode copy b n t rest s whole apart three in
      record {
        verified = framed_fields mode.separator b n t rest s;
        sound = framed_sound mode copy b n t rest s whole apart three right_length right-sum;
        begin_tag = placed-tag _ 8 b;
        begin_value = framed-begin mode copy b n t rest s whole apart;
        length_tag = placed-tag _ 9 n;
        type_tag = placed-tag _ 35 t;
        type_value = framed-type mode copy b n t rest s whole apart;
        sum_tag = placed-tag _ 10 s;
        sum_first = placed_first (length (framed mode.separator b n (tagged mode.separator 35 t ++ rest))) 10 s ∙ omega (arith, size);
        fields = later.fields;
        copied = later.copied;
        end = fields_from mode copy (start_at (length (framed mode.separator b n (tagged mode.separator 35 t ++ rest) ++ tagged mode.separator 10 s)));
        reads =
            framed-start mode copy b n t rest s whole apart
            ∙ ap (λ (fs : Fields). field (placed 0 8 b)
            (field (placed (length (tagged mode.separator 8 b)) 9 n)
            (field (placed (length (tagged mode.separator 8 b ++ tagged mode.separator 9 n)) 35 t) fs)))
            (later.reads
            ∙ ap (λ (n : ℕ). onto later.fields (fields_from mode copy (start_at n))) (others-end mode.separator b n t rest)
            ∙ ap (onto later.fields) (framed-end mode copy b n t rest s whole apart));
      }

-- the encoding of records is sound, and reads like them
pub rewritten_sound : (mode : Mode) → is_digit mode.separator ≡ false → (bytes : List ℕ) (begin type : Record) (others : List Record) → begin.tag ≡ 8
    → type.tag ≡ 35
    → Writable mode.separator bytes begin → Writable mode.separator bytes type → All (Writable mode.separator bytes) others
    → length (rewritten mode.separator bytes begin (type ∷ others)) ≤ 8192
    → ReadsLike mode bytes (rewritten mode.separator bytes begin (type ∷ others)) begin type others
rewritten_sound mode other bytes begin type others eight thirty-five begins types writable small =
    let b = value_at bytes begin in
    let t = value_at bytes type in
    let counted = tagged mode.separator 35 t ++ written mode.separator bytes others in
    let n = decimal (length counted) in
    let before = framed mode.separator b n counted in
    let whole = rewritten-text mode bytes begin type others eight thirty-five ∙ summed-text mode before in
    let apart : Unseparated mode.separator b n t (sum_digits before) =
    record {
      begin = begins.no_separator;
      count = digits_absent mode.separator other n (decimal_digits (length counted));
      type = types.no_separator;
      sum = digits_absent mode.separator other (sum_digits before) (sum-some before);
    } in
    let size =
    framed-size mode (rewritten mode.separator bytes begin (type ∷ others)) b n t (written mode.separator bytes others) (sum_digits before) whole apart
    (sum_three before) in
    let few : length counted ≤ 4294967295 = omega (arith, size, small, counted_fits mode.separator b n counted) in
    framed_like mode bytes _ n (sum_digits before) begin type others writable whole apart (sum_three before) (number-reads (length counted) few)
    (sum-reads before)
    (others-read mode bytes _ b n t (sum_digits before) others writable whole)
