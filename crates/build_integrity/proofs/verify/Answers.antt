-- `verify` meets its contract. At each station a lemma keeps the field that was read and what is left to check; each return cites the
-- law of its way.
use mathlib.Core.Path.{◌≡◌, sym, ◌∙◌}
use Prim.Native.Nat.{◌-◌}
use native.Mathlib.Omega.{arith}
use lib.ListN.{length}
use Rattle.field_rules.specs.Field.{start_at, field_at}
use Rattle.build_integrity_rules.specs.Integrity.{integrity_of, counted, summed, typed}
use Rattle.build_integrity_rules.proofs.IntegrityLaws.{begun-none, begun-tag, begun-on, counted_none, counted-tag, counted-wrong, counted-on, summed-none, summed-tag, summed-wrong, summed-on, typed-none, typed-tag, typed-on, length-room}
use Rattle.build_integrity.proofs.verify.Goals as goal
use Rattle.build_integrity.proofs.verify.Goals.{In-Ok, In-Ok-next_field, In-Ok-next_field-2, After-next_field-2, After-next_field-3, After-next_field-4}
use Rattle.std.proofs.Common.{Ok}

pub returns-in_default : goal.returns-in_default
unfolding integrity_of
returns-in_default c = sym (begun-none _ _ _ _ _ (sym (rw c.start_at-start.ensures at c.next_field.ensures) ∙ c.in_default.is))

read-begin : (c : In-Ok) → field_at c.args.mode c.args.message.now (start_at 0) ≡ Ok c.in-Ok.begin_string
read-begin c = sym (rw c.start_at-start.ensures at c.next_field.ensures) ∙ c.in-Ok.is

pub returns-then-begin_string-ne8 : goal.returns-then-begin_string-ne8
unfolding integrity_of
returns-then-begin_string-ne8 c = sym (begun-tag _ _ _ _ (read-begin (goal.at.returns-then-begin_string-ne8 c).In-Ok) c.if-begin_string-ne8.true)

left-begin : (c : After-next_field-2) → integrity_of c.args.mode c.args.message.now
    ≡ counted c.args.mode c.args.message.now c.in-Ok.begin_string (field_at c.args.mode c.args.message.now c.in-Ok.begin_string.next)
unfolding integrity_of
left-begin c = begun-on _ _ _ _ (sym (rw c.start_at-start.ensures at c.next_field.ensures) ∙ c.in-Ok.is) c.if-begin_string-ne8.false

pub returns-in_default-next_field : goal.returns-in_default-next_field
returns-in_default-next_field c =
    sym (left-begin (goal.at.returns-in_default-next_field c).After-next_field-2 ∙ counted_none _ _ _ _ _ (sym c.next_field-2.ensures ∙ c.in_default-next_field.is) _)

read_length : (c : In-Ok-next_field) → field_at c.args.mode c.args.message.now c.in-Ok.begin_string.next ≡ Ok c.in-Ok-next_field.body_length
read_length c = sym c.next_field-2.ensures ∙ c.in-Ok-next_field.is

pub returns-then-body_length-ne9 : goal.returns-then-body_length-ne9
returns-then-body_length-ne9 c =
    sym (left-begin (goal.at.returns-then-body_length-ne9 c).After-next_field-2 ∙ counted-tag _ _ _ _ (read_length (goal.at.returns-then-body_length-ne9 c).In-Ok-next_field) _ c.if-body_length-ne9.true)

pub returns-then-not-length_agrees : goal.returns-then-not-length_agrees
returns-then-not-length_agrees c =
    sym (left-begin (goal.at.returns-then-not-length_agrees c).After-next_field-2 ∙ counted-wrong _ _ _ _ (read_length (goal.at.returns-then-not-length_agrees c).In-Ok-next_field) _ (sym c.length_agrees.ensures ∙ c.if-not-length_agrees.true))

pub overflow_sub-message : goal.overflow_sub-message
overflow_sub-message c = omega (arith, length-room _ _ (sym c.length_agrees.ensures ∙ c.if-not-length_agrees.false))

left-length : (c : After-next_field-3) → integrity_of c.args.mode c.args.message.now
    ≡ summed c.args.mode c.args.message.now c.in-Ok.begin_string c.in-Ok-next_field.body_length (field_at c.args.mode c.args.message.now (start_at (length c.args.message.now - 7)))
unfolding integrity_of
left-length c =
    begun-on _ _ _ _ (sym (rw c.start_at-start.ensures at c.next_field.ensures) ∙ c.in-Ok.is) c.if-begin_string-ne8.false
    ∙ counted-on _ _ _ _ (sym c.next_field-2.ensures ∙ c.in-Ok-next_field.is) _ c.if-body_length-ne9.false (sym c.length_agrees.ensures ∙ c.if-not-length_agrees.false)

pub returns-in_default-next_field-2 : goal.returns-in_default-next_field-2
returns-in_default-next_field-2 c =
    sym (left-length (goal.at.returns-in_default-next_field-2 c).After-next_field-3 ∙ summed-none _ _ _ _ _ (sym (rw c.start_at-last.ensures at c.next_field-3.ensures) ∙ c.in_default-next_field-2.is) _ _)

read-sum : (c : In-Ok-next_field-2) → field_at c.args.mode c.args.message.now (start_at (length c.args.message.now - 7)) ≡ Ok c.in-Ok-next_field-2.checksum
read-sum c = sym (rw c.start_at-last.ensures at c.next_field-3.ensures) ∙ c.in-Ok-next_field-2.is

pub returns-then-checksum-ne10 : goal.returns-then-checksum-ne10
returns-then-checksum-ne10 c =
    sym (left-length (goal.at.returns-then-checksum-ne10 c).After-next_field-3 ∙ summed-tag _ _ _ _ (read-sum (goal.at.returns-then-checksum-ne10 c).In-Ok-next_field-2) _ _ c.if-checksum-ne10.true)

pub returns-then-not-sum_agrees : goal.returns-then-not-sum_agrees
returns-then-not-sum_agrees c =
    sym (left-length (goal.at.returns-then-not-sum_agrees c).After-next_field-3 ∙ summed-wrong _ _ _ _ (read-sum (goal.at.returns-then-not-sum_agrees c).In-Ok-next_field-2) _ _ (sym c.sum_agrees.ensures ∙ c.if-not-sum_agrees.true))

left-sum : (c : After-next_field-4) → integrity_of c.args.mode c.args.message.now
    ≡ typed c.in-Ok.begin_string c.in-Ok-next_field.body_length c.in-Ok-next_field-2.checksum (field_at c.args.mode c.args.message.now c.in-Ok-next_field.body_length.next)
unfolding integrity_of
left-sum c =
    begun-on _ _ _ _ (sym (rw c.start_at-start.ensures at c.next_field.ensures) ∙ c.in-Ok.is) c.if-begin_string-ne8.false
    ∙ counted-on _ _ _ _ (sym c.next_field-2.ensures ∙ c.in-Ok-next_field.is) _ c.if-body_length-ne9.false (sym c.length_agrees.ensures ∙ c.if-not-length_agrees.false)
    ∙ summed-on _ _ _ _ (sym (rw c.start_at-last.ensures at c.next_field-3.ensures) ∙ c.in-Ok-next_field-2.is) _ _ c.if-checksum-ne10.false (sym c.sum_agrees.ensures ∙ c.if-not-sum_agrees.false)

pub returns-in_default-next_field-3 : goal.returns-in_default-next_field-3
returns-in_default-next_field-3 c =
    sym (left-sum (goal.at.returns-in_default-next_field-3 c).After-next_field-4 ∙ typed-none _ _ _ _ _ _ (sym c.next_field-4.ensures ∙ c.in_default-next_field-3.is))

pub returns-then-msg_type-ne35 : goal.returns-then-msg_type-ne35
returns-then-msg_type-ne35 c =
    sym (left-sum (goal.at.returns-then-msg_type-ne35 c).After-next_field-4 ∙ typed-tag _ _ _ _ _ (sym c.next_field-4.ensures ∙ c.in-Ok-next_field-3.is) c.if-msg_type-ne35.true)

pub returns : goal.returns
returns c =
    sym (left-sum (goal.at.returns c).After-next_field-4 ∙ typed-on _ _ _ _ _ (sym c.next_field-4.ensures ∙ c.in-Ok-next_field-3.is) c.if-msg_type-ne35.false)
