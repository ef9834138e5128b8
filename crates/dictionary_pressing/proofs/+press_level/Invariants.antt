-- `press_level` meets its contract. The invariant: for every layout that the rows hold, what is left of it goes to the words that are left, and that
-- makes what the whole makes. The levels within have fewer rows; a level's items are linked once all of them are written.
use Rattle.std.proofs.Common.{◌-◌, ◌≡◌, ◌/◌, ◌≤◌, length}
use Rattle.dictionary_pressing.specs.Pressing.{Pressing, Forward}
use Rattle.dictionary_pressing.proofs.+press_level.Given as goal

abbrev pub decreases-press_level : goal.decreases-press_level
decreases-press_level l = l.stop - l.first

abbrev pub invariant-loop-at : goal.invariant-loop-at
invariant-loop-at l =
    ((x : Pressing l.rows l.first l.stop (length l.initial.table) l.level) →
    Forward l.rows l.initial.table l.table l.first l.stop l.level l.at l.slot l.free x.layout) ×
    (l.stop ≤ length l.rows / 4) ×
    (length l.table ≡ length l.initial.table)

abbrev pub decreases-loop-at : goal.decreases-loop-at
decreases-loop-at l = l.stop - l.at
