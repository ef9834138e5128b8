-- What it is that an export over lent structs ensures a record: the generated clause states one plain fact of the values, in every model,
-- and that fact is the record, no less and no more.
use mathlib.Core.Path.{◌≡◌}
use seplogic.Ra.Ura.{Ura}
use base.Logic.{SProp}
use prog.Memory.{Memory}
use prog.Routine.{Routine}
use types.Logic.{Logic}
use contract.Monad.{Fun, fact}
use contract.Lifetimes.{Lfts}
use denote.Triple.Entry.{Args, Res}
use denote.Triple.Clauses.{AtExit, Ended, Clauses}

-- what the clause states is found by unification and so never said twice; the record follows from it, and it from the record
pub record Ensures (T : Ended) (contract : (M : Type 1) (𝓤 : Ura M) (𝓛 : Logic 𝓤) → (Memory → SProp 𝓤) → (Routine → Fun 𝓤) → Clauses 𝓤 T)
    (Record : (κs : Lfts T.signature.lifetimes) → Args T.signature κs → Res T.signature κs → AtExit T κs → Type 0) : Type 2 where
  pub Said : (κs : Lfts T.signature.lifetimes) → Args T.signature κs → Res T.signature κs → AtExit T κs → Type 0
  pub states : (M : Type 1) (𝓤 : Ura M) (𝓛 : Logic 𝓤) (mem : Memory → SProp 𝓤) (run : Routine → Fun 𝓤) (κs : Lfts T.signature.lifetimes)
      (a : Args T.signature κs) (g : (contract M 𝓤 𝓛 mem run κs a).ghost) (x : Res T.signature κs) (left : AtExit T κs)
      → (contract M 𝓤 𝓛 mem run κs a).ensures g x left ≡ fact 𝓤 (Said κs a x left)
  pub gives : (κs : Lfts T.signature.lifetimes) (a : Args T.signature κs) (x : Res T.signature κs) (left : AtExit T κs) → Said κs a x left
      → Record κs a x left
  pub back : (κs : Lfts T.signature.lifetimes) (a : Args T.signature κs) (x : Res T.signature κs) (left : AtExit T κs) → Record κs a x left
      → Said κs a x left
