-- `read_trailer` meets its contract. The loop's invariant: what is left of the trailer comes to the whole, records and room never grow,
-- and nothing happens to the records before the trailer. The measure is the room.
use mathlib.Core.Path.{◌≡◌}
use Prim.Native.Nat.{◌+◌, ◌≤◌}
use lib.ListN.{length}
use Rattle.field_rules.specs.Fields.{fields_from, field as then, Inside}
use Rattle.build_parts.specs.Parts.{part_of}
use Rattle.build_parts.specs.Trailer.{trailer_from}
use Rattle.build_parts.proofs.read_trailer.Given as goal

abbrev pub invariant-loop-config : goal.invariant-loop-config
invariant-loop-config l = (length l.words ≡ length l.initial.words) × (l.records + l.room ≤ l.initial.records + l.initial.room) × (l.from ≤ l.records) × (Inside l.message l.field) × (part_of 0 l.from l.words ≡ part_of 0 l.from l.initial.words)
    × (trailer_from (then l.initial.field (fields_from l.config.mode l.message l.initial.field.next)) (l.initial.room + 1) (part_of l.from l.initial.records l.initial.words) ≡ trailer_from (then l.field (fields_from l.config.mode l.message l.field.next)) (l.room + 1) (part_of l.from l.records l.words))

abbrev pub decreases-loop-config : goal.decreases-loop-config
decreases-loop-config l = l.room
