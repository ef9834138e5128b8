-- "Two results that satisfy it are shown equal": a contract as the prover reads it from the code, and what it is that it leaves no freedom.
use mathlib.Core.Path.{◌≡◌, sym, ◌∙◌}
use mathlib.Core.List.{List}
use Prim.Native.Nat.{ℕ}
use contract.Lifetimes.{Lfts}
use denote.Triple.Clauses.{AtExit}
use borrow.Fn.Kind.{ParamKind, ResultKind}
use borrow.Fn.Kinds.{Out, Dens, res_t, ended_of}

pub same : {A : Type 0} {x y d : A} → x ≡ d → y ≡ d → x ≡ y
same p q = p ∙ sym q

-- Two results of one call, each with what it leaves of what was lent, that both satisfy the contract: they are the same. What is left has a
-- place for each parameter, in the signature's order.
abbrev pub NoFreedom : (n : ℕ) (ps : List (ParamKind n)) (r : ResultKind n) → Out n ps r → ((κs : Lfts n) → (res_t r κs).Denot → (res_t r κs).Denot → AtExit (ended_of n ps r) κs → AtExit (ended_of n ps r) κs → Type 0) → Type 0
NoFreedom n ps r contract Same =
    (κs : Lfts n) (a : Dens κs ps) (x y : (res_t r κs).Denot) (left other : AtExit (ended_of n ps r) κs) → contract κs a x left → contract κs a y other → Same κs x y left other
