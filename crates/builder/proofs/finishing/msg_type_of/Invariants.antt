-- `msg_type_of` meets its contract. The loop's invariant: MsgType's record from here on is that of the whole header.
use mathlib.Core.Path.{◌≡◌}
use Rattle.build_records.specs.Records.{records_of, between}
use Rattle.build_parts.specs.Parts.{part_of}
use Rattle.build_rules.specs.Beginning.{msg_type_record}
use Rattle.builder.proofs.finishing.msg_type_of.Given as goal

abbrev pub invariant-loop-i : goal.invariant-loop-i
invariant-loop-i l = msg_type_record (part_of 0 l.count l.words) ≡ msg_type_record (between l.i l.count (records_of l.words))
