use mathlib.Core.Path.{◌≡◌, refl, sym, ap, ◌∙◌}
use Prim.Native.Nat.{ℕ, ◌+◌, ◌*◌}
use native.Mathlib.Omega.{arith}
use lib.ListN.{take}
use Rattle.field_rules.proofs.FindLaws.{find_hit, find_miss, find_end}
use Rattle.field_rules.specs.Number.{all_digits, worth}
use Rattle.field_tagvalue.specs.Tagged.{tagged_at}
use Rattle.field_tagvalue.specs.TaggedLaws.{NoDigit, digits_tell, stray_spoils, large_spoils, digit_worth, digit_more, equals-behind}
use Rattle.field_tagvalue.proofs.read_tag.Goals as goal
use Rattle.field_tagvalue.proofs.read_tag.Goals.{After-from}
use Rattle.std.proofs.Common.{Some}

pub loop-i-init : goal.loop-i-init
unfolding all_digits worth
loop-i-init c = record { small = omega arith; none = refl; digits = refl; value = refl }

pub returns-then-byte-eq61 : goal.returns-then-byte-eq61
unfolding tagged_at
returns-then-byte-eq61 c = let found = c.loop-i.invariant.none ∙ find_hit _ _ _ c.loop-i-test.true c.if-byte-eq61.true in
    rw found (sym (ap (λ (tag : ℕ). Some (c.loop-i.i, tag)) (digits_tell _ _ c.loop-i.invariant.digits c.loop-i.invariant.value c.loop-i.invariant.small)))

pub untagged-requires-clause-by_index : goal.untagged-requires-clause-by_index
unfolding NoDigit
untagged-requires-clause-by_index c = let inside = c.loop-i-test.true in
    λ q found. stray_spoils _ _ inside q (equals-behind _ _ inside c.loop-i.invariant.none c.if-byte-eq61.false q found) c.if-not-is_ascii_digit.ensures.cases

-- the tag with the digit that is met
grown : (c : After-from) → worth 0 (take (c.loop-i.i + 1) c.args.rest.now) ≡ c.loop-i.tag * 10 + c.from.result
grown c = digit_worth _ _ c.loop-i-test.true ∙ rw (c.loop-i.invariant.value, c.from.ensures)

pub untagged-requires-then-tag-gt4294967295-clause-by_index : goal.untagged-requires-then-tag-gt4294967295-clause-by_index
untagged-requires-then-tag-gt4294967295-clause-by_index c = let inside = c.loop-i-test.true in
    λ q found. large_spoils _ _ inside q (equals-behind _ _ inside c.loop-i.invariant.none c.if-byte-eq61.false q found)
    (omega (arith, grown (goal.at.untagged-requires-then-tag-gt4294967295-clause-by_index c).After-from, c.if-tag-gt4294967295.true))

pub loop-i-preserved : goal.loop-i-preserved
loop-i-preserved c = let inside = c.loop-i-test.true in
    let digit = c.if-not-is_ascii_digit.ensures.cases in
    record {
      small = omega arith;
      none = c.loop-i.invariant.none ∙ find_miss _ _ _ inside c.if-byte-eq61.false;
      digits = digit_more _ _ inside c.loop-i.invariant.digits digit.0 digit.1;
      value = grown (goal.at.loop-i-preserved c).After-from;
    }

pub returns : goal.returns
unfolding tagged_at
returns c = rw (c.loop-i.invariant.none ∙ find_end _ _ _ c.loop-i-test.false)
