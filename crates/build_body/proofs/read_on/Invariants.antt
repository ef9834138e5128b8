-- `read_on` meets its contract. The loop's invariant: whatever tags may follow, what is left of the body from where reading stands comes to
-- the whole, and nothing happens to the records before it; every tag that was stored has its cell set. The measure is the room.
use mathlib.Core.Path.{◌≡◌}
use mathlib.Core.List.{List}
use Prim.Native.Nat.{ℕ}
use lib.ListN.{length}
use Rattle.dictionary_rules.specs.Index.{tag_at}
use Rattle.build_group_rules.specs.Reading.{table_rules}
use Rattle.build_required_rules.specs.Checking.{table_demands}
use Rattle.build_parts.specs.Parts.{Stays}
use Rattle.build_body_rules.proofs.BodyReading.{part_room, left}
use Rattle.build_body_rules.specs.Seen.{Follows}
use Rattle.build_body.proofs.read_on.Given as goal

abbrev pub invariant-loop-reading : goal.invariant-loop-reading
invariant-loop-reading l = (length l.words ≡ length l.initial.words) × (Stays l.message l.initial.words l.words l.from (part_room l.initial.reading) l.reading)
    × ((trailers : List ℕ) → left (table_rules l.config l.table (tag_at l.index)) (table_demands l.table) l.config.mode l.message l.from trailers l.level l.initial.reading l.initial.words
    ≡ left (table_rules l.config l.table (tag_at l.index)) (table_demands l.table) l.config.mode l.message l.from trailers l.level l.reading l.words)
    × (length l.seen ≡ length l.initial.seen) × (Follows l.seen l.from l.reading l.words)

abbrev pub decreases-loop-reading : goal.decreases-loop-reading
decreases-loop-reading l = part_room l.reading
