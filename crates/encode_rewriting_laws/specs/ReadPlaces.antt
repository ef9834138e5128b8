-- Fields that are read one behind the other stand at places of the message: what is left to read is told by the place where reading
-- stands, and that place only rises.
use Rattle.std.specs.Prelude.{◌≡◌, refl, List, ℕ, ◌+◌, ◌-◌, ◌≤◌, length, take, drop, Ok}
use Rattle.std.proofs.Common.{sym, ap, ◌∙◌, arith}
use Rattle.field_rules.proofs.PlaceLaws.{first_read, one-read}
use Rattle.field_rules.specs.declared.Mode.{Mode}
use Rattle.field_rules.specs.Fields.{Fields, field, fields_from}
use Rattle.field_rules.proofs.FieldsLaws.{step-lies, step_falls}
use Rattle.field_rules.specs.declared.Cursor.{Cursor}
use Rattle.field_rules.specs.declared.Field.{Field}
use Rattle.build_integrity_rules.specs.Integrity.{integrity_of}
use Rattle.build_integrity_rules.proofs.VerifiedLaws.{verified-read}
use Rattle.build_integrity_rules.specs.declared.Verified.{Verified}
use Rattle.build_records.specs.declared.Record.{Record}
use Rattle.build_order_laws.specs.Follows.{Follows, no_field, one_field}

module _ (mode : Mode) (message : List ℕ) where
  -- the fields that are left are read from a place that doesn't lie before
  pub record LeftAt (c : Cursor) (last : Fields) : Type 0 where
    pub cursor : Cursor
    pub left : last ≡ fields_from mode message cursor
    pub behind : c.at ≤ cursor.at
    pub within : c.at ≤ length message → cursor.at ≤ length message

  pub follows_cursor : {part : ℕ} {fields last : Fields} {rs : List Record} → Follows part fields rs last → (c : Cursor) → fields ≡ fields_from mode message c → LeftAt c last
  follows_cursor no_field c e = record { cursor = c; left = e; behind = omega arith; within = λ h. h }
  follows_cursor (one_field {f = f} {rest = rest} r of follows) c e =
      let first = first_read mode message c f rest e in
      let falls = step_falls mode message c f first.reads in
      let later = follows_cursor follows f.next first.others in
      record { cursor = later.cursor; left = later.left; behind = omega (arith, falls.0, later.behind); within = λ h. later.within falls.1 }

  -- a field that starts at length minus 7 is the CheckSum that was verified
  pub stop-verified : (v : Verified) → integrity_of mode message ≡ Ok v → (c : Cursor) (f : Field) (rest : Fields) → field f rest ≡ fields_from mode message c → f.first ≡ length message - 7 → f ≡ v.checksum
  stop-verified v sound c f rest e starts =
      let first = (first_read mode message c f rest e).reads in
      one-read mode message c _ f v.checksum first (verified-read mode message v sound).sums (sym (step-lies mode message c f first).starts ∙ starts)
