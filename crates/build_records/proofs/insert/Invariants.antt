-- `insert` meets its contract. The loop's invariant: what was carried so far, pushed in from here on, comes to the whole.
use mathlib.Core.Path.{◌≡◌}
use Rattle.build_records.specs.Records.{on_records, inserted}
use Rattle.build_records.proofs.RecordLaws.{pushing}
use Rattle.build_records.proofs.insert.Given as goal

abbrev pub invariant-loop-at : goal.invariant-loop-at
invariant-loop-at l = on_records (inserted l.n l.i l.initial.carried) l.initial.words ≡ on_records (pushing l.n l.at l.carried) l.words
