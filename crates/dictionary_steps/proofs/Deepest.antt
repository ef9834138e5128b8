-- The deeper of two is the larger.
use Rattle.std.proofs.Common.{◌≡◌, refl, ℕ, Bool, true, false, max, arith}
use Rattle.std.specs.Prelude.{ltb}
use borrow.Author.Tests.{ltb-true, ltb-false}
use Rattle.dictionary_rules.specs.Step.{deeper}

by_test : (a b : ℕ) (less : Bool) → ltb a b ≡ less → max a b ≡ deeper a b
unfolding deeper
by_test a b true e = rw e (omega (arith, ltb-true a b e))
by_test a b false e = rw e (omega (arith, ltb-false a b e))

pub deeper_max : (a b : ℕ) → max a b ≡ deeper a b
deeper_max a b = by_test a b (ltb a b) refl
