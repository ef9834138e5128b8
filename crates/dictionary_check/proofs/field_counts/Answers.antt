-- `field_counts` meets its contract: the item is whole, its tag is known, and it is not one too many.
use mathlib.Core.Path.{◌≡◌, sym, ◌∙◌}
use mathlib.Core.Bool.{true, false}
use Prim.Native.Nat.{ℕ}
use native.Mathlib.Omega.{arith}
use Rattle.dictionary_rules.proofs.PassingLaws.{passed-field}
use Rattle.dictionary_check.proofs.field_counts.Goals as goal

refuses : {A : Type 0} → false ≡ true → A
refuses h = let z : ◌≡◌ {A = ℕ} 0 1 = cc in absurd (omega arith)

pub returns-in-Some : goal.returns-in-Some
returns-in-Some c known = let few = c.if-thing-ge1024.false in
    (few, passed-field _ c.in-Some.ensures (sym c.tag_known.ensures ∙ known) few)

pub returns-then-thing-ge1024 : goal.returns-then-thing-ge1024
returns-then-thing-ge1024 c h = refuses h

pub returns-in-None : goal.returns-in-None
returns-in-None c h = refuses h
