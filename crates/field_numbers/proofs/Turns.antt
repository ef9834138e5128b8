-- Each turn writes one digit in its place: the digits that are ahead, written behind those that stand, make the output what it has to become.
-- At the first turn these are all digits of the number, behind the last one there are none.
use Rattle.std.proofs.Common.{◌≡◌, ℕ, zero, suc, ◌+◌, ◌*◌, ◌/◌, ◌%◌, ◌<◌, ◌≤◌, List, [], ◌∷◌, length, set, sym, ap, ◌∙◌, append_assoc, add-one, arith, length-set, take-append-drop, take-suc-set, drop-set-lt}
use Rattle.field_rules.specs.Decimal.{decimal, written_at}
use Rattle.field_rules.proofs.DecimalLaws.{written_fits}
use Rattle.field_numbers.specs.Fraction.{Ahead, one}
use Rattle.field_numbers.proofs.LastDigits.{last_digits, last-length, last-all, last-first}
use Rattle.field_numbers.proofs.Fraction.{ahead-taken}

-- bytes are written where the first stands in its place and the others are written behind it
pub written-first : (at byte : ℕ) (bytes output : List ℕ) → at + suc (length bytes) ≤ length output
    → written_at at (byte ∷ bytes) output ≡ written_at (at + 1) bytes (set output at byte)
written-first at byte bytes output fits =
    let behind : at + 1 + length bytes ≡ at + suc (length bytes) = omega arith in
    rw (
      written_fits at (byte ∷ bytes) output fits,
      written_fits (at + 1) bytes (set output at byte) (rw length-set (omega arith)),
      behind,
      drop-set-lt (at + suc (length bytes)) output at byte (omega arith),
      add-one,
      take-suc-set output at byte (omega arith),
      append_assoc,
    )

-- the digits that are ahead, written from a place on, make the output what it has to become
pub record Turn (whole output : List ℕ) (fraction place left : ℕ) : Type 0 where
  pub rest : ℕ
  pub ahead : Ahead rest left fraction
  pub room : place + left ≤ length output
  pub writes : whole ≡ written_at place (last_digits left rest) output

pub turn_start : (at n : ℕ) (output : List ℕ) (count fraction : ℕ) → count ≡ length (decimal n) → Ahead n count fraction
    → at + count ≤ length output → Turn (written_at at (decimal n) output) output fraction at count
turn_start at n output count fraction all ahead fits = record { rest = n; ahead = ahead; room = fits; writes = rw (all, last-all n) }

module _ (whole output : List ℕ) (fraction place : ℕ) where
  pub turn_digit : (left : ℕ) → Turn whole output fraction place left → 0 < left → fraction / one < 10
  turn_digit zero turn some = absurd (omega arith)
  turn_digit (suc left) turn some = (ahead-taken turn.rest left fraction turn.ahead).small

  pub turn_again : (left : ℕ) → Turn whole output fraction place (suc left)
      → Turn whole (set output place (48 + fraction / one)) (fraction % one * 10) (place + 1) left
  turn_again left turn =
      let taken = ahead-taken turn.rest left fraction turn.ahead in
      let digits = last_digits left taken.lower in
      let first : last_digits (suc left) turn.rest ≡ (48 + fraction / one) ∷ digits =
      ap (last_digits (suc left)) taken.parts ∙ last-first left _ taken.lower taken.small taken.ahead.digits in
      let fits : place + suc (length digits) ≤ length output = omega (arith, last-length left taken.lower, turn.room) in
      record {
        rest = taken.lower;
        ahead = taken.ahead;
        room = rw length-set (omega (arith, turn.room));
        writes = turn.writes ∙ rw first (written-first place _ digits output fits);
      }

  pub turn_end : (left : ℕ) → Turn whole output fraction place left → left ≤ 0 → output ≡ whole
  unfolding last_digits
  turn_end zero turn none =
      let end : place + 0 ≡ place = omega arith in
      sym (turn.writes ∙ rw (written_fits place [] output (omega (arith, turn.room)), end) (take-append-drop place output))
  turn_end (suc left) turn none = absurd (omega arith)
