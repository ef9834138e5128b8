-- A BodyLength that integrity found right: where it is plain, its value is the digits that an encoding writes.
use Rattle.std.specs.Prelude.{◌≡◌, refl, true, List, ℕ, ◌+◌, length, eqb}
use Rattle.std.proofs.Common.{ap, ◌∙◌, arith, eqb-true, Option, Some, None, Ok}
use Rattle.field_rules.specs.declared.Mode.{Mode}
use Rattle.field_rules.specs.Number.{number_in}
use Rattle.field_rules.specs.Decimal.{decimal}
use Rattle.field_rules.specs.Field.{start_at, field_at, value_of}
use Rattle.field_rules.proofs.FieldsLaws.{fields-field}
use Rattle.field_rules.specs.Fields.{fields_from}
use Rattle.field_rules.specs.declared.Cursor.{Cursor}
use Rattle.field_rules.specs.declared.Field.{Field}
use Rattle.build_integrity_rules.specs.Integrity.{integrity_of, length_is, length_agrees}
use Rattle.build_integrity_rules.proofs.VerifiedLaws.{verified-read}
use Rattle.build_integrity_rules.specs.declared.Verified.{Verified}
use Rattle.encode_rewriting_laws.specs.Plain.{is_plain, plain_length}
use Rattle.encode_rewriting_laws.proofs.PlainLaws.{number_digits, plain_digits, plain_leads}
use Rattle.field_rules.proofs.SpelledLaws.{value_stands, value_size}

-- a BodyLength that is right
pub record RightLength (message : List ℕ) (f : Field) : Type 0 where
  pub number : ℕ
  pub reads : number_in (value_of message f) ≡ Some number
  pub right : length message ≡ f.next.at + number + 7

pub right_length : (message : List ℕ) (f : Field) → length_agrees message f ≡ true → RightLength message f
unfolding length_agrees length_is
right_length message f e = by_number (number_in (value_of message f)) refl e
  where
    by_number : (r : Option ℕ) → number_in (value_of message f) ≡ r → length_is message f r ≡ true → RightLength message f
    by_number None is e = let z : ◌≡◌ {A = ℕ} 0 1 = cc in absurd (omega arith)
    by_number (Some n) is e = record { number = n; reads = is; right = eqb-true (length message) (f.next.at + n + 7) e }

-- a plain BodyLength is the digits of its number
pub plain_value : (mode : Mode) (message : List ℕ) (c : Cursor) (f : Field) → field_at mode message c ≡ Ok f → (n : ℕ) → number_in (value_of message f) ≡ Some n → is_plain message f.place f.length ≡ true → value_of message f ≡ decimal n
plain_value mode message c f read n reads plain =
    let d = number_digits (value_of message f) n reads in
    plain_digits (value_of message f) n d
    (plain_leads message f.place (value_of message f) _ d.some (value_stands mode message c f read)
    (ap (λ (k : ℕ). is_plain message f.place k) (value_size mode message c f read) ∙ plain))

-- the plain BodyLength is that of the second field
pub plain_second : (mode : Mode) (message : List ℕ) (v : Verified) → integrity_of mode message ≡ Ok v → plain_length message (fields_from mode message (start_at 0)) ≡ true
    → is_plain message v.body_length.place v.body_length.length ≡ true
unfolding plain_length
plain_second mode message v sound plain =
    let r = verified-read mode message v sound in
    rw (fields-field mode message (start_at 0) v.begin_string r.begins, fields-field mode message v.begin_string.next v.body_length r.counts) at plain
