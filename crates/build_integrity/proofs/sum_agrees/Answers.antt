-- `sum_agrees_lem` meets its contract: three digits are compared with the sum of all bytes before the field, anything else with nothing.
use mathlib.Core.Path.{◌≡◌, sym, ap, ◌∙◌}
use mathlib.Core.List.{List}
use Prim.Native.Nat.{ℕ, ◌%◌}
use lib.ListN.{take}
use lib.Dec.{eqb}
use Rattle.std.proofs.lemmas.List.{take_min}
use Rattle.field_rules.specs.CheckSum.{sum_of, checksum_of}
use Rattle.field_rules.specs.Field.{value_of}
use Rattle.build_integrity_rules.proofs.IntegrityLaws.{sum-other, sum_is_lem}
use Rattle.build_integrity.proofs.sum_agrees.Goals as goal
use Rattle.build_integrity.proofs.sum_agrees.Goals.{In-Some}
use Rattle.std.proofs.Common.{Some}

pub returns-in_default : goal.returns-in_default
returns-in_default c = sym (sum-other _ _ (rw c.value_of.ensures at (sym c.checksum_of.ensures ∙ c.in_default.is)))

-- what the field's value is worth
number : (c : In-Some) → checksum_of (value_of c.args.message.now c.args.checksum) ≡ Some c.in-Some.n
number c = rw c.value_of.ensures at (sym c.checksum_of.ensures ∙ c.in-Some.is)

pub returns : goal.returns
returns c = ap (λ (x : ℕ). eqb c.in-Some.n x) (c.from.ensures ∙ c.sum_of.ensures ∙ ap (λ (l : List ℕ). sum_of l % 256) (ap (λ (n : ℕ). take n c.args.message.now) c.min.ensures ∙ take_min _ _)) ∙ sym (sum_is_lem _ _ _ (number (goal.at.returns c).In-Some))
