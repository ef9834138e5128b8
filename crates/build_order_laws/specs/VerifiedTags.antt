-- What integrity found right, taken apart: the four tags that it looks for, the length and the sum.
-- Each is what its test, which was passed, says.
use Rattle.std.specs.Prelude.{◌≡◌, refl, Bool, true, false, List, ℕ, eqb, Result, Ok, Err}
use Rattle.std.proofs.Common.{arith, eqb-true}
use Rattle.field_rules.specs.declared.Mode.{Mode}
use Rattle.field_rules.specs.Choice.{pick}
use Rattle.build_integrity_rules.specs.Integrity.{integrity_of, begun, counted, summed, typed, length_agrees, sum_agrees}
use Rattle.build_integrity_rules.proofs.VerifiedLaws.{verified-read}
use Rattle.build_integrity_rules.specs.declared.GarbledReason.{GarbledReason}
use Rattle.build_integrity_rules.specs.declared.GarbledReason.TheVariants.{InvalidBeginString, InvalidBodyLength, InvalidMsgType, InvalidChecksum}
use Rattle.build_integrity_rules.specs.declared.Verified.{Verified}

-- 8, 9 and 35 at the message's start, and 10 at its end
pub record VerifiedTags (v : Verified) : Type 0 where
  pub begins : v.begin_string.tag ≡ 8
  pub counts : v.body_length.tag ≡ 9
  pub types : v.msg_type.tag ≡ 35
  pub sums : v.checksum.tag ≡ 10

-- the checks that integrity made
pub record Checked (message : List ℕ) (v : Verified) : Type 0 where
  pub tags : VerifiedTags v
  pub length_right : length_agrees message v.body_length ≡ true
  pub sum_right : sum_agrees message v.checksum ≡ true

passes : (b : Bool) (on : Result Verified GarbledReason) (reason : GarbledReason) (v : Verified) → pick b on (Err reason) ≡ Ok v → (b ≡ true) × (on ≡ Ok v)
passes true on reason v e = (refl, e)
passes false on reason v e = let z : ◌≡◌ {A = ℕ} 0 1 = cc in absurd (omega arith)

pub verified-checked : (mode : Mode) (message : List ℕ) (v : Verified) → integrity_of mode message ≡ Ok v → Checked message v
unfolding integrity_of begun counted summed typed
verified-checked mode message v e =
    let r = verified-read mode message v e in
    let eight = passes (eqb v.begin_string.tag 8) _ InvalidBeginString v (rw r.begins at e) in
    let nine = passes (eqb v.body_length.tag 9) _ InvalidBodyLength v (rw r.counts at eight.1) in
    let long = passes (length_agrees message v.body_length) _ InvalidBodyLength v nine.1 in
    let ten = passes (eqb v.checksum.tag 10) _ InvalidChecksum v (rw r.sums at long.1) in
    let sum = passes (sum_agrees message v.checksum) _ InvalidChecksum v ten.1 in
    let typed = passes (eqb v.msg_type.tag 35) _ InvalidMsgType v (rw r.types at sum.1) in
    record {
      tags = record { begins = eqb-true _ _ eight.0; counts = eqb-true _ _ nine.0; types = eqb-true _ _ typed.0; sums = eqb-true _ _ ten.0 };
      length_right = long.0;
      sum_right = sum.0;
    }

pub verified-tags : (mode : Mode) (message : List ℕ) (v : Verified) → integrity_of mode message ≡ Ok v → VerifiedTags v
verified-tags mode message v e = (verified-checked mode message v e).tags
