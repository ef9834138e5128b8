-- `lay_records` meets its contract. The invariant: what is laid and what is still to come make the whole, and the newest of each depth is kept.
use Rattle.build_records.specs.Records.{records_of}
use Rattle.message_take_over.specs.Newest.{Newest}
use Rattle.message_take_over.specs.GoingLaws.{Going}
use Rattle.message_take_over.proofs.lay_records.Given as goal

abbrev pub invariant-loop-i : goal.invariant-loop-i
invariant-loop-i l = Going l.size (records_of l.records) l.count l.i l.words l.laying × Newest (records_of l.records) l.i l.last
