-- `stands_at` meets its contract: the law of each way, of the two components that were looked up.
use mathlib.Core.Path.{◌≡◌, sym, ap, ◌∙◌}
use Prim.Native.Nat.{ℕ, ◌+◌}
use Rattle.dictionary_rules.specs.Index.{component_at}
use Rattle.dictionary_meaning_rules.proofs.LayingLaws.{stands_missing, stands-empty, stands_lost, stands_somewhere}
use Rattle.dictionary_flattening.proofs.stands_at.Goals as goal
use Rattle.dictionary_flattening.proofs.stands_at.Goals.{In-Some}
use Rattle.std.proofs.Common.{Some}

pub returns-in_default : goal.returns-in_default
returns-in_default c = sym (stands_missing _ _ (sym c.component_of.ensures ∙ c.in_default.is))

looked : (c : In-Some) → component_at c.args.index.now c.args.number ≡ Some c.in-Some.component
looked c = sym c.component_of.ensures ∙ c.in-Some.is

pub returns-then-component-eq0 : goal.returns-then-component-eq0
returns-then-component-eq0 c = sym (stands-empty _ _ _ (looked (goal.at.returns-then-component-eq0 c).In-Some) c.if-component-eq0.true)

pub returns-in_default-component_of : goal.returns-in_default-component_of
returns-in_default-component_of c = sym (stands_lost _ _ _ (looked (goal.at.returns-in_default-component_of c).In-Some) c.if-component-eq0.false (sym c.component_of-2.ensures ∙ c.in_default-component_of.is))

pub returns : goal.returns
returns c = sym (stands_somewhere _ _ _ _ (looked (goal.at.returns c).In-Some) c.if-component-eq0.false (sym c.component_of-2.ensures ∙ c.in-Some-component_of.is) ∙ ap (λ (place : ℕ). Some (place + 3)) (sym c.from.ensures))
