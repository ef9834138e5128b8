-- `read_header` meets its contract. The loop's invariant: what is left of the header comes to the whole, and records and room never grow.
-- The measure is the room.
use mathlib.Core.Path.{◌≡◌}
use Prim.Native.Nat.{◌+◌, ◌≤◌}
use lib.ListN.{length}
use Rattle.field_rules.specs.Fields.{fields_from}
use Rattle.dictionary_tables_rules.specs.Tags.{tags_found}
use Rattle.build_parts.specs.Parts.{part_of}
use Rattle.build_parts.specs.Header.{header_from}
use Rattle.build_parts.proofs.read_header.Given as goal

abbrev pub invariant-loop-answer : goal.invariant-loop-answer
invariant-loop-answer l = (length l.words ≡ length l.initial.words) × (l.records + l.room ≤ l.initial.records + l.initial.room) × (l.room ≤ l.initial.room) × (header_from (tags_found l.header_tags) (fields_from l.config.mode l.message l.initial.at) l.initial.room (part_of 0 l.initial.records l.initial.words) ≡ header_from (tags_found l.header_tags) (fields_from l.config.mode l.message l.at) l.room (part_of 0 l.records l.words))

abbrev pub decreases-loop-answer : goal.decreases-loop-answer
decreases-loop-answer l = l.room
