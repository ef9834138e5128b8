-- `next_required` meets its contract. The invariant: what is asked from the link on has the answer of the whole.
-- An item lies in the table if there is room for it, and the link behind it rises or is 0.
use mathlib.Core.Path.{◌≡◌}
use Rattle.dictionary_tables_rules.specs.Table.{mark_from}
use Rattle.dictionary_tables_rules.proofs.MarkLaws.{links_left}
use Rattle.dictionary_tables.proofs.next_required.Given as goal

abbrev pub invariant-loop-link : goal.invariant-loop-link
invariant-loop-link l = mark_from l.table l.level l.first ≡ mark_from l.table l.level l.link

abbrev pub decreases-loop-link : goal.decreases-loop-link
decreases-loop-link l = links_left l.room l.link
