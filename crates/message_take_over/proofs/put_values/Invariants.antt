-- `put_values` meets its contract. The invariant: the values of the records passed stand in front, and those of the rest have room.
use Rattle.build_records.specs.Records.{records_of}
use Rattle.message_take_over.specs.Storing.{Storing}
use Rattle.message_take_over.proofs.put_values.Given as goal

abbrev pub invariant-loop-i : goal.invariant-loop-i
invariant-loop-i l = Storing l.bytes (records_of l.records) l.count l.i l.used l.values
