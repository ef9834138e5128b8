-- `has_run` meets its contract: the row that is found is one of the span.
use mathlib.Core.Path.{ap}
use Prim.Native.Nat.{ℕ}
use lib.Dec.{ltb}
use Rattle.message_rules.specs.RowChanges.{run_place}
use Rattle.encoder.specs.Judging.{hung_at}
use Rattle.encoder.proofs.has_run.Goals as goal

pub returns : goal.returns
unfolding hung_at run_place
returns c = ap (λ (n : ℕ). ltb n c.args.span.to) c.find_row.ensures
