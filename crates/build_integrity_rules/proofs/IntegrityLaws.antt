-- Each way through the checks of RULES.md, Integrity: one law for each way that the code goes.
use Rattle.std.proofs.Math.Path.{◌≡◌}
use Rattle.std.specs.Prelude.{false, List, ℕ, ◌+◌, ◌-◌, ◌%◌, ◌≤◌, take, eqb}
use Rattle.std.proofs.Common.{arith, Option, Some, None, Result, Ok, Err}
use Rattle.std.proofs.Math.Bool.{true}
use Rattle.std.proofs.Math.ListN.{length}
use borrow.Author.Tests.{eq-eqb, ne_eqb, eqb-true}
use Rattle.field_rules.specs.declared.Mode.{Mode}
use Rattle.field_rules.specs.Choice.{pick_same}
use Rattle.field_rules.specs.Number.{number_in}
use Rattle.field_rules.specs.CheckSum.{sum_of, checksum_of}
use Rattle.field_rules.specs.Field.{start_at, field_at, value_of}
use Rattle.field_rules.specs.declared.Field.{Field}
use Rattle.field_rules.specs.declared.Cause.{Cause}
use Rattle.build_integrity_rules.specs.declared.GarbledReason.TheVariants.{InvalidBeginString, InvalidBodyLength, InvalidMsgType, InvalidChecksum}
use Rattle.build_integrity_rules.specs.Integrity.{begun, counted, summed, typed, length_is, length_agrees, sum_is, sum_agrees}

module _ (mode : Mode) (message : List ℕ) (r : Result Field (Cause × ℕ)) where
  module _ (cause : Cause) (place : ℕ) (e : r ≡ Err (cause, place)) where
    pub begun-none : begun mode message r ≡ Err InvalidBeginString
    unfolding begun
    begun-none = rw e

    pub counted_none : (begin : Field) → counted mode message begin r ≡ Err InvalidBodyLength
    unfolding counted
    counted_none begin = rw e

    pub summed-none : (begin body : Field) → summed mode message begin body r ≡ Err InvalidChecksum
    unfolding summed
    summed-none begin body = rw e

  module _ (f : Field) (e : r ≡ Ok f) where
    pub begun-tag : (f.tag ≡ 8 → ⊥) → begun mode message r ≡ Err InvalidBeginString
    unfolding begun
    begun-tag h = rw (e, ne_eqb _ _ h)

    pub begun-on : f.tag ≡ 8 → begun mode message r ≡ counted mode message f (field_at mode message f.next)
    unfolding begun
    begun-on h = rw (e, eq-eqb _ _ h)

    pub counted-tag : (begin : Field) → (f.tag ≡ 9 → ⊥) → counted mode message begin r ≡ Err InvalidBodyLength
    unfolding counted
    counted-tag begin h = rw (e, ne_eqb _ _ h)

    pub counted-wrong : (begin : Field) → length_agrees message f ≡ false → counted mode message begin r ≡ Err InvalidBodyLength
    unfolding counted
    counted-wrong begin g = rw (e, g, pick_same)

    pub counted-on : (begin : Field) → f.tag ≡ 9 → length_agrees message f ≡ true → counted mode message begin r ≡ summed mode message begin f (field_at mode message (start_at (length message - 7)))
    unfolding counted
    counted-on begin h g = rw (e, eq-eqb _ _ h, g)

    pub summed-tag : (begin body : Field) → (f.tag ≡ 10 → ⊥) → summed mode message begin body r ≡ Err InvalidChecksum
    unfolding summed
    summed-tag begin body h = rw (e, ne_eqb _ _ h)

    pub summed-wrong : (begin body : Field) → sum_agrees message f ≡ false → summed mode message begin body r ≡ Err InvalidChecksum
    unfolding summed
    summed-wrong begin body g = rw (e, g, pick_same)

    pub summed-on : (begin body : Field) → f.tag ≡ 10 → sum_agrees message f ≡ true → summed mode message begin body r ≡ typed begin body f (field_at mode message body.next)
    unfolding summed
    summed-on begin body h g = rw (e, eq-eqb _ _ h, g)

module _ (r : Result Field (Cause × ℕ)) (begin body check : Field) where
  pub typed-none : (cause : Cause) (place : ℕ) → r ≡ Err (cause, place) → typed begin body check r ≡ Err InvalidMsgType
  unfolding typed
  typed-none cause place e = rw e

  pub typed-tag : (f : Field) → r ≡ Ok f → (f.tag ≡ 35 → ⊥) → typed begin body check r ≡ Err InvalidMsgType
  unfolding typed
  typed-tag f e h = rw (e, ne_eqb _ _ h)

  pub typed-on : (f : Field) → r ≡ Ok f → f.tag ≡ 35 → typed begin body check r ≡ Ok (record { begin_string = begin; body_length = body; checksum = check; msg_type = f })
  unfolding typed
  typed-on f e h = rw (e, eq-eqb _ _ h)

module _ (message : List ℕ) (f : Field) where
  pub length_none : number_in (value_of message f) ≡ None → length_agrees message f ≡ false
  unfolding length_agrees length_is
  length_none h = rw h

  pub length-other : (n : ℕ) → number_in (value_of message f) ≡ Some n → (length message ≡ f.next.at + n + 7 → ⊥) → length_agrees message f ≡ false
  unfolding length_agrees length_is
  length-other n h g = rw (h, ne_eqb _ _ g)

  pub length_is_lem : (n : ℕ) → number_in (value_of message f) ≡ Some n → length_agrees message f ≡ eqb (length message) (f.next.at + n + 7)
  unfolding length_agrees length_is
  length_is_lem n h = rw h

  -- where the length agrees the CheckSum has its seven bytes
  pub length-room : length_agrees message f ≡ true → f.next.at + 7 ≤ length message
  unfolding length_agrees length_is
  length-room h = by_number (number_in (value_of message f)) h
    where
      by_number : (n : Option ℕ) → length_is message f n ≡ true → f.next.at + 7 ≤ length message
      by_number None h = let z : ◌≡◌ {A = ℕ} 0 1 = cc in absurd (omega arith)
      by_number (Some n) h = omega (arith, eqb-true (length message) (f.next.at + n + 7) h)

  pub sum-other : checksum_of (value_of message f) ≡ None → sum_agrees message f ≡ true
  unfolding sum_agrees sum_is
  sum-other h = rw h

  pub sum_is_lem : (n : ℕ) → checksum_of (value_of message f) ≡ Some n → sum_agrees message f ≡ eqb n (sum_of (take f.first message) % 256)
  unfolding sum_agrees sum_is
  sum_is_lem n h = rw h
