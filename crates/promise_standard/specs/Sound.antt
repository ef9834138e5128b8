-- "a message of the standard within 8,192 bytes passes integrity, and its fields are read as the standard gives them".
-- Integrity looks at fields 1 to 3 and at the last one, which is seven bytes long; the other fields may be any.
use Rattle.std.specs.Prelude.{◌≡◌, refl, Bool, true, false, List, [], ◌∷◌, ◌++◌, ℕ, ◌+◌, ◌-◌, ◌%◌, ◌≤◌, length, take, eqb, Some, Ok}
use Rattle.std.proofs.Common.{sym, ap, ◌∙◌, append_assoc, append-nil, arith, length-append, take_at, eq-eqb}
use Rattle.promise_standard.specs.Reading.{standard_mode}
use Rattle.field_rules.specs.Number.{number_in}
use Rattle.field_rules.proofs.NumberLaws.{checksum_three}
use Rattle.field_rules.specs.CheckSum.{sum_of, checksum_of}
use Rattle.field_rules.specs.Field.{start_at, field_at, value_of}
use Rattle.field_rules.proofs.FieldLaws.{past_end}
use Rattle.field_rules.specs.Fields.{unreadable, fields_from}
use Rattle.field_rules.proofs.FieldsLaws.{fields-end, step-lies}
use Rattle.standard_rules.specs.Standard as standard
use Rattle.standard_rules.specs.Standard.{Tables, told, Message}
use Rattle.standard_rules.specs.Reading.{others}
use Rattle.standard_rules.proofs.FieldReads.{int_read}
use Rattle.field_rules.specs.declared.Cursor.{Cursor}
use Rattle.field_rules.specs.declared.Field.{Field}
use Rattle.field_rules.specs.declared.Cause.TheVariants.{NoEquals}
use Rattle.build_integrity_rules.specs.Integrity.{integrity_of, begun, counted, summed, typed, length_is, length_agrees, sum_is, sum_agrees}
use Rattle.build_integrity_rules.specs.declared.Verified.{Verified}
use Rattle.frame_parser_rules.proofs.MessageLaws.{seven_bytes}
use Rattle.promise_standard.specs.Texts.{sum_same}
use Rattle.promise_standard.specs.Reading.{ReadsAs, no_field, Readable, reads-one, reads_then, reads-append, fields_read, first_read}

-- integrity, where each field was read and each test passes
sound_steps : (message : List ℕ) (a b c t : Field) (n s : ℕ) → field_at standard_mode message (start_at 0) ≡ Ok a → a.tag ≡ 8 → field_at standard_mode message a.next ≡ Ok b → b.tag ≡ 9 → number_in (value_of message b) ≡ Some n → length message ≡ b.next.at + n + 7
    → field_at standard_mode message (start_at (length message - 7)) ≡ Ok c → c.tag ≡ 10 → checksum_of (value_of message c) ≡ Some s → s ≡ sum_of (take c.first message) % 256 → field_at standard_mode message b.next ≡ Ok t → t.tag ≡ 35
    → integrity_of standard_mode message ≡ Ok (record { begin_string = a; body_length = b; checksum = c; msg_type = t })
unfolding integrity_of begun counted summed typed length_is length_agrees sum_is sum_agrees
sound_steps message a b c t n s ra ta rb tb nb lb rc tc sc ec rt tt =
    rw (ra, eq-eqb _ _ ta, rb, eq-eqb _ _ tb, nb, eq-eqb _ _ lb, rc, eq-eqb _ _ tc, sc, eq-eqb _ _ ec, rt, eq-eqb _ _ tt)

-- what integrity answers to a message of the standard
pub record SoundAs {T : Tables} (bytes : List ℕ) (m : Message T bytes) : Type 0 where
  pub verified : Verified
  pub sound : integrity_of standard_mode bytes ≡ Ok verified
  pub begin_string : value_of bytes verified.begin_string ≡ m.begin_string
  pub body_length : value_of bytes verified.body_length ≡ m.body_length
  pub msg_type : value_of bytes verified.msg_type ≡ m.msg_type
  pub check-sum : value_of bytes verified.checksum ≡ m.check-sum

module _ {T : Tables} (bytes : List ℕ) (m : Message T bytes) (small : length bytes ≤ 8192) where
  abbrev a : ℕ
  a = length m.first

  abbrev b : ℕ
  b = a + length m.second

  abbrev c : ℕ
  c = b + length m.counted

  last-size : length m.last ≡ 7
  last-size = seven_bytes m.check-sum m.last m.last_is m.three_digits_lem

  all-size : length bytes ≡ c + 7
  all-size = ap length m.whole ∙ simp length-append (omega (arith, last-size))

  abbrev summed-bytes : List ℕ
  summed-bytes = m.first ++ (m.second ++ m.counted)

  at_second : bytes ≡ m.first ++ (m.second ++ (m.counted ++ m.last))
  at_second = m.whole

  at-counted : bytes ≡ (m.first ++ m.second) ++ (m.counted ++ m.last)
  at-counted = m.whole ∙ sym (append_assoc m.first m.second (m.counted ++ m.last))

  at_last : bytes ≡ summed-bytes ++ (m.last ++ [])
  at_last = m.whole ∙ simp (append_assoc, append-nil)

  first_field : (f : Field) × (field_at standard_mode bytes (start_at 0) ≡ Ok f) × (f.tag ≡ 8) × (value_of bytes f ≡ m.begin_string) × (f.next ≡ start_at a)
  first_field = reads-one bytes [] m.first (m.second ++ (m.counted ++ m.last)) 0 a 8 m.begin_string m.whole refl (omega arith) m.first_is (omega arith)

  second-field : (f : Field) × (field_at standard_mode bytes (start_at a) ≡ Ok f) × (f.tag ≡ 9) × (value_of bytes f ≡ m.body_length) × (f.next ≡ start_at b)
  second-field = reads-one bytes m.first m.second (m.counted ++ m.last) a b 9 m.body_length at_second refl refl m.second_is (omega arith)

  third_field : (f : Field) × (field_at standard_mode bytes (start_at b) ≡ Ok f) × (f.tag ≡ 35) × (value_of bytes f ≡ m.msg_type)
  third_field = first_read bytes 35 m.msg_type (others m) m.counted (m.first ++ m.second) m.last b at-counted (sym (length-append m.first m.second)) m.counted_is (omega arith)

  last-field : (f : Field) × (field_at standard_mode bytes (start_at c) ≡ Ok f) × (f.tag ≡ 10) × (value_of bytes f ≡ m.check-sum) × (f.next ≡ start_at (length bytes))
  last-field =
      let size : length summed-bytes ≡ c = simp length-append (omega arith) in
      reads-one bytes summed-bytes m.last [] c (length bytes) 10 m.check-sum at_last (sym size) (omega (arith, all-size, last-size)) m.last_is (omega arith)

  -- "passes integrity"
  pub standard_sound : SoundAs bytes m
  standard_sound =
      let f = first_field in
      let g = second-field in
      let h = third_field in
      let k = last-field in
      let place : c ≡ length bytes - 7 = omega (arith, all-size) in
      let starts : k.0.first ≡ c = (step-lies standard_mode bytes (start_at c) k.0 k.1).starts in
      let front : take k.0.first bytes ≡ summed-bytes = ap (λ (n : ℕ). take n bytes) starts ∙ ap (take c) at_last ∙ take_at summed-bytes (m.last ++ []) c (simp length-append (omega arith)) in
      let length-read : number_in (value_of bytes g.0) ≡ Some (length m.counted) = ap number_in g.3 ∙ int_read m.body_length (length m.counted) m.length_is_lem (omega (arith, all-size)) in
      let sum : ℕ = standard.total summed-bytes % 256 in
      let sum-read : checksum_of (value_of bytes k.0) ≡ Some sum = ap checksum_of k.3 ∙ checksum_three m.check-sum m.three_digits_lem ∙ int_read m.check-sum sum m.sum_is_lem (omega arith) in
      let sum-same-as : sum ≡ sum_of (take k.0.first bytes) % 256 = ap (λ (n : ℕ). n % 256) (sym (sum_same summed-bytes)) ∙ ap (λ (l : List ℕ). sum_of l % 256) (sym front) in
      record {
        verified = record { begin_string = f.0; body_length = g.0; checksum = k.0; msg_type = h.0 };
        sound = sound_steps bytes f.0 g.0 k.0 h.0 (length m.counted) sum f.1 f.2 (rw f.4 g.1) g.2 length-read (omega (arith, all-size, ap (λ (x : Cursor). x.at) g.4)) (rw (← place) k.1) k.2 sum-read sum-same-as (rw g.4 h.1) h.2;
        begin_string = f.3;
        body_length = g.3;
        msg_type = h.3;
        check-sum = k.3;
      }

  -- "and its fields are read as the standard gives them"
  pub standard_read : Readable (told 35 m.msg_type ∷ others m)
      → ReadsAs bytes (fields_from standard_mode bytes (start_at 0)) (told 8 m.begin_string ∷ (told 9 m.body_length ∷ ((told 35 m.msg_type ∷ others m) ++ (told 10 m.check-sum ∷ [])))) (unreadable NoEquals (length bytes))
  standard_read r =
      let size : b ≡ length (m.first ++ m.second) = sym (length-append m.first m.second) in
      let middle = fields_read bytes (told 35 m.msg_type ∷ others m) m.counted (m.first ++ m.second) m.last b c at-counted size refl m.counted_is r in
      let past : fields_from standard_mode bytes (start_at (length bytes)) ≡ unreadable NoEquals (length bytes) = fields-end standard_mode bytes (start_at (length bytes)) NoEquals (length bytes) (past_end standard_mode bytes (start_at (length bytes)) (omega arith)) in
      let end : ReadsAs bytes (fields_from standard_mode bytes (start_at c)) (told 10 m.check-sum ∷ []) (unreadable NoEquals (length bytes)) = reads_then bytes c (length bytes) 10 m.check-sum [] _ last-field (rw past no_field) in
      reads_then bytes 0 a 8 m.begin_string _ _ first_field
      (reads_then bytes a b 9 m.body_length _ _ second-field (reads-append bytes _ _ _ _ _ middle end))
