-- `length_agrees` meets its contract: the number is compared with what is left behind the field and before the CheckSum,
-- which no sum can overflow.
use mathlib.Core.Path.{◌≡◌, sym, ◌∙◌}
use Prim.Native.Nat.{◌+◌, ◌-◌}
use native.Mathlib.Omega.{arith}
use lib.ListN.{length}
use Rattle.field_rules.specs.Number.{number_in}
use Rattle.field_rules.specs.Field.{value_of}
use Rattle.build_integrity_rules.proofs.IntegrityLaws.{length_none, length-other, length_is_lem}
use Rattle.build_integrity.proofs.Tests.{eqb_same}
use Rattle.build_integrity.proofs.length_agrees.Goals as goal
use Rattle.build_integrity.proofs.length_agrees.Goals.{In-Some}
use Rattle.std.proofs.Common.{Some}

pub returns-in_default : goal.returns-in_default
returns-in_default c = sym (length_none _ _ (rw c.value_of.ensures at (sym c.number_of.ensures ∙ c.in_default.is)))

-- what the field's value is worth
number : (c : In-Some) → number_in (value_of c.args.message.now c.args.body_length) ≡ Some c.in-Some.n
number c = rw c.value_of.ensures at (sym c.number_of.ensures ∙ c.in-Some.is)

pub returns-then-message-after : goal.returns-then-message-after
returns-then-message-after c = sym (length-other _ _ _ (number (goal.at.returns-then-message-after c).In-Some) (λ e. omega arith))

pub returns-then-left-lt7 : goal.returns-then-left-lt7
returns-then-left-lt7 c = sym (length-other _ _ _ (number (goal.at.returns-then-left-lt7 c).In-Some) (λ e. omega arith))

pub returns : goal.returns
returns c = let n = c.in-Some.n in
    eqb_same (length c.args.message.now - c.args.body_length.next.at - 7) n (length c.args.message.now) (c.args.body_length.next.at + n + 7) (λ e. omega arith) (λ e. omega arith)
    ∙ sym (length_is_lem _ _ _ (number (goal.at.returns c).In-Some))
