-- `on_field` meets its contract: each return cites the law of its way.
use mathlib.Core.Path.{sym, ◌∙◌}
use Prim.Native.Nat.{ℕ, ◌+◌, ◌≤◌, ◌<◌}
use native.Mathlib.Omega.{arith}
use Rattle.dictionary_rules.specs.Step.{on_field, inside}
use Rattle.dictionary_rules.specs.StepLaws.{looks_known, field_unknown, field-many, field-goes}
use Rattle.dictionary_steps.proofs.on_field.Goals as goal

many : {n : ℕ} → 1024 ≤ n → 1024 < n + 1
many h = omega arith

few : {n : ℕ} → n < 1024 → n + 1 ≤ 1024
few h = omega arith

pub returns-in_default : goal.returns-in_default
unfolding on_field inside
returns-in_default c = rw c.in_default.is

pub returns-then-not-tag_known : goal.returns-then-not-tag_known
returns-then-not-tag_known c = sym (field_unknown _ _ _ c.in-Inside.is _ _
    (looks_known _ _ ∙ sym c.tag_known.ensures ∙ c.if-not-tag_known.true))

pub returns-then-thing-ge1024 : goal.returns-then-thing-ge1024
returns-then-thing-ge1024 c = sym (field-many _ _ _ c.in-Inside.is _ _ (looks_known _ _ ∙ sym c.tag_known.ensures
    ∙ c.if-not-tag_known.false) (many c.if-thing-ge1024.true))

pub returns : goal.returns
returns c = sym (field-goes _ _ _ c.in-Inside.is _ _ (looks_known _ _ ∙ sym c.tag_known.ensures ∙ c.if-not-tag_known.false)
    (few c.if-thing-ge1024.false) ∙ rw c.count_field.ensures)
