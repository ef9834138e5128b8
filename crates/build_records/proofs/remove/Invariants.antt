-- `remove` meets its contract. The loop's invariant: pulling the records that are still to be moved comes to the whole.
use mathlib.Core.Path.{◌≡◌}
use Prim.Native.Nat.{◌-◌}
use Rattle.build_records.specs.Records.{on_records, removed}
use Rattle.build_records.proofs.RecordLaws.{pulling}
use Rattle.build_records.proofs.remove.Given as goal

abbrev pub invariant-loop-at : goal.invariant-loop-at
invariant-loop-at l = on_records (removed l.n l.i l.k) l.initial.words ≡ on_records (pulling (l.n - l.k) l.k l.at) l.words
