-- A text of 8, 9, 35, further bytes and 10 whose length and sum are right passes the integrity checks, and its four fields are read where
-- they were written.
use Rattle.std.specs.Prelude.{◌≡◌, refl, true, ℕ, ◌+◌, ◌-◌, ◌%◌, ◌≤◌, take, Some, Ok}
use Rattle.std.proofs.Common.{sym, ◌∙◌}
use Rattle.std.proofs.Math.Path.{ap}
use mathlib.Core.List.{List, [], ◌++◌, append_assoc, append-nil}
use native.Mathlib.Omega.{arith}
use Rattle.std.proofs.Math.ListN.{length, length-append}
use Rattle.std.proofs.Math.Seq.{take-append_seam}
use borrow.Author.Tests.{eq-eqb}
use Rattle.field_rules.specs.declared.Mode.{Mode}
use Rattle.field_rules.specs.CheckSum.{sum_of, checksum_of}
use Rattle.field_rules.specs.Number.{number_in}
use Rattle.field_rules.specs.Decimal.{decimal, decimal_within}
use Rattle.field_rules.proofs.DecimalLaws.{decimal_digits, decimal-reads}
use Rattle.field_rules.proofs.FindLaws.{Absent}
use Rattle.field_rules.specs.Field.{start_at, field_at, field_bytes, value_of}
use Rattle.field_rules.proofs.FieldTextLaws.{spelt, bytes-size}
use Rattle.field_rules.specs.Fields.{Fields, field, fields_from}
use Rattle.field_rules.specs.declared.Cursor.{Cursor}
use Rattle.field_rules.specs.declared.Field.{Field}
use Rattle.build_integrity_rules.specs.Integrity.{integrity_of, length_agrees, sum_agrees}
use Rattle.build_integrity_rules.proofs.IntegrityLaws.{begun-on, counted-on, summed-on, typed-on, length_is_lem, sum_is_lem}
use Rattle.build_integrity_rules.specs.declared.Verified.{Verified}
use Rattle.field_rules.proofs.SpelledLaws.{text-read, text_value, text-fields}

-- a field as bytes under its tag's own digits, kept shut so that no proof computes the digits
unfoldable pub tagged : ℕ → ℕ → List ℕ → List ℕ
tagged separator tag value = field_bytes separator (decimal tag) value

-- the field that such bytes at a place are read as
unfoldable pub placed : ℕ → ℕ → List ℕ → Field
placed at tag value = spelt at tag (decimal tag) value

-- the text of a field behind other bytes: it is read with its value, and reading goes on behind it
module _ (mode : Mode) (tag : ℕ) (copy pre value post : List ℕ) (whole : copy ≡ pre ++ (tagged mode.separator tag value ++ post)) (least : 1 ≤ tag)
    (most : tag ≤ 4294967295) (ends : Absent mode.separator value) where
  pub placed-read : field_at mode copy (start_at (length pre)) ≡ Ok (placed (length pre) tag value)
  unfolding tagged placed
  placed-read = text-read mode tag copy pre (decimal tag) value post whole (decimal-reads tag least most) (decimal_digits tag) ends

  pub placed_value : value_of copy (placed (length pre) tag value) ≡ value
  unfolding tagged placed
  placed_value = text_value mode tag copy pre (decimal tag) value post whole (decimal-reads tag least most) (decimal_digits tag) ends

  pub placed-fields : fields_from mode copy (start_at (length pre))
      ≡ field (placed (length pre) tag value) (fields_from mode copy (start_at (length (pre ++ tagged mode.separator tag value))))
  unfolding tagged placed
  placed-fields = text-fields mode tag copy pre (decimal tag) value post whole (decimal-reads tag least most) (decimal_digits tag) ends

pub placed-tag : (at tag : ℕ) (value : List ℕ) → (placed at tag value).tag ≡ tag
unfolding placed
placed-tag at tag value = refl

pub placed_first : (at tag : ℕ) (value : List ℕ) → (placed at tag value).first ≡ at
unfolding placed
placed_first at tag value = refl

-- a field ends where its text ends
pub placed-next : (separator tag : ℕ) (pre value : List ℕ) → (placed (length pre) tag value).next ≡ start_at (length (pre ++ tagged separator tag value))
unfolding placed tagged
placed-next separator tag pre value =
    let n : length pre + (length (decimal tag) + 1) + length value + 1 ≡ length (pre ++ field_bytes separator (decimal tag) value) =
    omega (arith, length-append pre (field_bytes separator (decimal tag) value), bytes-size separator (decimal tag) value) in
    ap (λ (n : ℕ). start_at n) n

-- all that the sum is made of
unfoldable pub framed : ℕ → List ℕ → List ℕ → List ℕ → List ℕ
framed separator b n counted = tagged separator 8 b ++ (tagged separator 9 n ++ counted)

-- the four fields of such a text
unfoldable pub framed_fields : ℕ → List ℕ → List ℕ → List ℕ → List ℕ → List ℕ → Verified
framed_fields separator b n t rest s =
    record {
      begin_string = placed 0 8 b;
      body_length = placed (length (tagged separator 8 b)) 9 n;
      checksum = placed (length (framed separator b n (tagged separator 35 t ++ rest))) 10 s;
      msg_type = placed (length (tagged separator 8 b ++ tagged separator 9 n)) 35 t;
    }

-- none of the values has the separator
pub record Unseparated (separator : ℕ) (b n t s : List ℕ) : Type 0 where
  pub begin : Absent separator b
  pub count : Absent separator n
  pub type : Absent separator t
  pub sum : Absent separator s

module _ (mode : Mode) (copy b n t rest s : List ℕ) (whole : copy ≡ framed mode.separator b n (tagged mode.separator 35 t ++ rest)
    ++ (tagged mode.separator 10 s ++ [])) (apart : Unseparated mode.separator b n t s) where
  begins-whole : copy ≡ [] ++ (tagged mode.separator 8 b
      ++ (tagged mode.separator 9 n ++ (tagged mode.separator 35 t ++ (rest ++ (tagged mode.separator 10 s ++ [])))))
  unfolding framed
  begins-whole = whole ∙ simp append_assoc

  counts_whole : copy ≡ tagged mode.separator 8 b
      ++ (tagged mode.separator 9 n ++ (tagged mode.separator 35 t ++ (rest ++ (tagged mode.separator 10 s ++ []))))
  counts_whole = begins-whole

  types_whole : copy ≡ (tagged mode.separator 8 b ++ tagged mode.separator 9 n)
      ++ (tagged mode.separator 35 t ++ (rest ++ (tagged mode.separator 10 s ++ [])))
  types_whole = begins-whole ∙ sym (append_assoc (tagged mode.separator 8 b) (tagged mode.separator 9 n) _)

  begins-read : field_at mode copy (start_at 0) ≡ Ok (placed 0 8 b)
  begins-read = placed-read mode 8 copy [] b _ begins-whole (omega arith) (omega arith) apart.begin

  begin-next : (placed 0 8 b).next ≡ start_at (length (tagged mode.separator 8 b))
  begin-next = placed-next mode.separator 8 [] b

  count_next : (placed (length (tagged mode.separator 8 b)) 9 n).next ≡ start_at (length (tagged mode.separator 8 b ++ tagged mode.separator 9 n))
  count_next = placed-next mode.separator 9 (tagged mode.separator 8 b) n

  counts-read : field_at mode copy (placed 0 8 b).next ≡ Ok (placed (length (tagged mode.separator 8 b)) 9 n)
  counts-read = rw begin-next (placed-read mode 9 copy (tagged mode.separator 8 b) n _ counts_whole (omega arith) (omega arith) apart.count)

  types_read : field_at mode copy (placed (length (tagged mode.separator 8 b)) 9 n).next
      ≡ Ok (placed (length (tagged mode.separator 8 b ++ tagged mode.separator 9 n)) 35 t)
  types_read =
      rw count_next (placed-read mode 35 copy (tagged mode.separator 8 b ++ tagged mode.separator 9 n) t _ types_whole (omega arith) (omega arith)
      apart.type)

  -- with the values that were written
  pub framed-begin : value_of copy (placed 0 8 b) ≡ b
  framed-begin = placed_value mode 8 copy [] b _ begins-whole (omega arith) (omega arith) apart.begin

  pub framed-type : value_of copy (placed (length (tagged mode.separator 8 b ++ tagged mode.separator 9 n)) 35 t) ≡ t
  framed-type =
      placed_value mode 35 copy (tagged mode.separator 8 b ++ tagged mode.separator 9 n) t _ types_whole (omega arith) (omega arith) apart.type

  module _ (three : length s ≡ 3) where
    ten_size : length (tagged mode.separator 10 s) ≡ 7
    unfolding tagged decimal decimal_within
    ten_size = omega (arith, bytes-size mode.separator (decimal 10) s, three)

    pub framed-size : length copy ≡ length (framed mode.separator b n (tagged mode.separator 35 t ++ rest)) + 7
    framed-size =
        omega (
          arith,
          ap length whole,
          length-append (framed mode.separator b n (tagged mode.separator 35 t ++ rest)) (tagged mode.separator 10 s ++ []),
          ap length (append-nil (tagged mode.separator 10 s)),
          ten_size,
        )

    sums_read : field_at mode copy (start_at (length copy - 7))
        ≡ Ok (placed (length (framed mode.separator b n (tagged mode.separator 35 t ++ rest))) 10 s)
    sums_read =
        let at : length copy - 7 ≡ length (framed mode.separator b n (tagged mode.separator 35 t ++ rest)) = omega (arith, framed-size) in
        rw at (placed-read mode 10 copy (framed mode.separator b n (tagged mode.separator 35 t ++ rest)) s [] whole (omega arith) (omega arith)
        apart.sum)

    module _ (right_length : number_in n ≡ Some (length (tagged mode.separator 35 t ++ rest)))
        (right-sum : checksum_of s ≡ Some (sum_of (framed mode.separator b n (tagged mode.separator 35 t ++ rest)) % 256)) where
      length_agrees_lem : length_agrees copy (placed (length (tagged mode.separator 8 b)) 9 n) ≡ true
      unfolding framed
      length_agrees_lem =
          let value = placed_value mode 9 copy (tagged mode.separator 8 b) n _ counts_whole (omega arith) (omega arith) apart.count in
          let next = ap (λ (c : Cursor). c.at) count_next in
          let right : length copy ≡ (placed (length (tagged mode.separator 8 b)) 9 n).next.at + length (tagged mode.separator 35 t ++ rest) + 7 =
          omega (
            arith,
            framed-size,
            next,
            ap length (append_assoc (tagged mode.separator 8 b) (tagged mode.separator 9 n) (tagged mode.separator 35 t ++ rest)),
            length-append (tagged mode.separator 8 b ++ tagged mode.separator 9 n) (tagged mode.separator 35 t ++ rest),
          ) in
          length_is_lem copy (placed (length (tagged mode.separator 8 b)) 9 n) _ (ap number_in value ∙ right_length)
          ∙ eq-eqb _ _ right

      sum_agrees_lem : sum_agrees copy (placed (length (framed mode.separator b n (tagged mode.separator 35 t ++ rest))) 10 s) ≡ true
      sum_agrees_lem =
          let before = framed mode.separator b n (tagged mode.separator 35 t ++ rest) in
          let value = placed_value mode 10 copy before s [] whole (omega arith) (omega arith) apart.sum in
          let front : take (placed (length before) 10 s).first copy ≡ before =
          ap (λ (n : ℕ). take n copy) (placed_first (length before) 10 s) ∙ ap (λ (l : List ℕ). take (length before) l) whole
          ∙ take-append_seam before (tagged mode.separator 10 s ++ []) in
          sum_is_lem copy (placed (length before) 10 s) _ (ap checksum_of value ∙ right-sum)
          ∙ eq-eqb _ _ (ap (λ (l : List ℕ). sum_of l % 256) (sym front))

      pub framed_sound : integrity_of mode copy ≡ Ok (framed_fields mode.separator b n t rest s)
      unfolding integrity_of framed_fields
      framed_sound =
          begun-on mode copy _ (placed 0 8 b) begins-read (placed-tag 0 8 b)
          ∙ counted-on mode copy _ (placed (length (tagged mode.separator 8 b)) 9 n) counts-read (placed 0 8 b) (placed-tag _ 9 n) length_agrees_lem
          ∙ summed-on mode copy _ _ sums_read (placed 0 8 b) (placed (length (tagged mode.separator 8 b)) 9 n) (placed-tag _ 10 s) sum_agrees_lem
          ∙ typed-on _ (placed 0 8 b) (placed (length (tagged mode.separator 8 b)) 9 n) _ _ types_read (placed-tag _ 35 t)

  -- the first three are read one behind the other
  pub framed-start : fields_from mode copy (start_at 0)
      ≡ field (placed 0 8 b) (field (placed (length (tagged mode.separator 8 b)) 9 n)
      (field (placed (length (tagged mode.separator 8 b ++ tagged mode.separator 9 n)) 35 t)
      (fields_from mode copy (start_at (length ((tagged mode.separator 8 b ++ tagged mode.separator 9 n) ++ tagged mode.separator 35 t))))))
  framed-start =
      placed-fields mode 8 copy [] b _ begins-whole (omega arith) (omega arith) apart.begin
      ∙ ap (λ (fs : Fields). field (placed 0 8 b) fs)
      (placed-fields mode 9 copy (tagged mode.separator 8 b) n _ counts_whole (omega arith) (omega arith) apart.count
      ∙ ap (λ (fs : Fields). field (placed (length (tagged mode.separator 8 b)) 9 n) fs)
      (placed-fields mode 35 copy (tagged mode.separator 8 b ++ tagged mode.separator 9 n) t _ types_whole (omega arith) (omega arith) apart.type))

  -- and the last behind all that the sum is made of
  pub framed-end : fields_from mode copy (start_at (length (framed mode.separator b n (tagged mode.separator 35 t ++ rest))))
      ≡ field (placed (length (framed mode.separator b n (tagged mode.separator 35 t ++ rest))) 10 s)
      (fields_from mode copy (start_at (length (framed mode.separator b n (tagged mode.separator 35 t ++ rest) ++ tagged mode.separator 10 s))))
  framed-end =
      placed-fields mode 10 copy (framed mode.separator b n (tagged mode.separator 35 t ++ rest)) s [] whole (omega arith) (omega arith) apart.sum
