-- The fields that integrity verified were read at the message's start, one behind the other, and the CheckSum seven bytes before its end.
use Rattle.std.proofs.Math.Path.{◌≡◌, refl}
use Rattle.std.specs.Prelude.{Bool, true, false, List, ℕ, ◌-◌, length, eqb}
use Rattle.std.proofs.Common.{arith, Result, Ok, Err}
use Rattle.field_rules.specs.declared.Mode.{Mode}
use Rattle.field_rules.specs.Choice.{pick}
use Rattle.field_rules.specs.Field.{start_at, field_at}
use Rattle.field_rules.specs.declared.Field.{Field}
use Rattle.build_integrity_rules.specs.Integrity.{integrity_of, begun, counted, summed, typed, length_agrees, sum_agrees}
use Rattle.build_integrity_rules.specs.declared.GarbledReason.{GarbledReason}
use Rattle.build_integrity_rules.specs.declared.GarbledReason.TheVariants.{InvalidBeginString, InvalidBodyLength, InvalidMsgType, InvalidChecksum}
use Rattle.build_integrity_rules.specs.declared.Verified.{Verified}
use Rattle.field_rules.specs.declared.Cause.{Cause}

pub record VerifiedRead (mode : Mode) (message : List ℕ) (v : Verified) : Type 0 where
  pub begins : field_at mode message (start_at 0) ≡ Ok v.begin_string
  pub counts : field_at mode message v.begin_string.next ≡ Ok v.body_length
  pub types : field_at mode message v.body_length.next ≡ Ok v.msg_type
  pub sums : field_at mode message (start_at (length message - 7)) ≡ Ok v.checksum

module _ (mode : Mode) (message : List ℕ) (v : Verified) where
  passed : (b : Bool) (on : Result Verified GarbledReason) (reason : GarbledReason) → pick b on (Err reason) ≡ Ok v → on ≡ Ok v
  passed true on reason e = e
  passed false on reason e = let z : ◌≡◌ {A = ℕ} 0 1 = cc in absurd (omega arith)

  typed-read : (begin body check : Field) (r : Result Field (Cause × ℕ)) → field_at mode message body.next ≡ r → field_at mode message (start_at 0) ≡ Ok begin → field_at mode message begin.next ≡ Ok body
      → field_at mode message (start_at (length message - 7)) ≡ Ok check → typed begin body check r ≡ Ok v → VerifiedRead mode message v
  unfolding typed
  typed-read begin body check (Err (cause, place)) t b c s e = let z : ◌≡◌ {A = ℕ} 0 1 = cc in absurd (omega arith)
  typed-read begin body check (Ok f) t b c s e =
      let q : Ok (record { begin_string = begin; body_length = body; checksum = check; msg_type = f }) ≡ Ok v = passed (eqb f.tag 35) _ InvalidMsgType e in
      let w : record { begin_string = begin; body_length = body; checksum = check; msg_type = f } ≡ v = cc in
      rw (← w) (record { begins = b; counts = c; types = t; sums = s })

  summed-read : (begin body : Field) (r : Result Field (Cause × ℕ)) → field_at mode message (start_at (length message - 7)) ≡ r → field_at mode message (start_at 0) ≡ Ok begin → field_at mode message begin.next ≡ Ok body
      → summed mode message begin body r ≡ Ok v → VerifiedRead mode message v
  unfolding summed
  summed-read begin body (Err (cause, place)) s b c e = let z : ◌≡◌ {A = ℕ} 0 1 = cc in absurd (omega arith)
  summed-read begin body (Ok f) s b c e =
      typed-read begin body f (field_at mode message body.next) refl b c s (passed (sum_agrees message f) _ InvalidChecksum (passed (eqb f.tag 10) _ InvalidChecksum e))

  counted-read : (begin : Field) (r : Result Field (Cause × ℕ)) → field_at mode message begin.next ≡ r → field_at mode message (start_at 0) ≡ Ok begin → counted mode message begin r ≡ Ok v → VerifiedRead mode message v
  unfolding counted
  counted-read begin (Err (cause, place)) c b e = let z : ◌≡◌ {A = ℕ} 0 1 = cc in absurd (omega arith)
  counted-read begin (Ok f) c b e =
      summed-read begin f (field_at mode message (start_at (length message - 7))) refl b c (passed (length_agrees message f) _ InvalidBodyLength (passed (eqb f.tag 9) _ InvalidBodyLength e))

  begun-read : (r : Result Field (Cause × ℕ)) → field_at mode message (start_at 0) ≡ r → begun mode message r ≡ Ok v → VerifiedRead mode message v
  unfolding begun
  begun-read (Err (cause, place)) b e = let z : ◌≡◌ {A = ℕ} 0 1 = cc in absurd (omega arith)
  begun-read (Ok f) b e = counted-read f (field_at mode message f.next) refl b (passed (eqb f.tag 8) _ InvalidBeginString e)

  pub verified-read : integrity_of mode message ≡ Ok v → VerifiedRead mode message v
  unfolding integrity_of
  verified-read e = begun-read (field_at mode message (start_at 0)) refl e
