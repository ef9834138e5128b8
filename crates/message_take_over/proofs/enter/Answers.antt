-- `enter` meets its contract: one word is written, at the record's depth.
use mathlib.Core.Path.{ap}
use native.Mathlib.Omega.{arith}
use Rattle.build_records.specs.declared.Record.{Record}
use Rattle.message_take_over.proofs.enter.Goals as goal

pub bounds-last-entered : goal.bounds-last-entered
bounds-last-entered c = let e = ap (λ (q : Record). q.depth) c.record_at-entered.ensures in omega (arith, e)

pub returns : goal.returns
returns c = rw (c.record_at-entered.ensures)
