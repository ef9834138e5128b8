-- `table_size` meets its contract. The invariant: what was summed up and the parts behind the rows that are left are the whole.
-- No part has more words than one of 1,024 items, whatever the rows hold.
use Rattle.std.proofs.Common.{◌≡◌, ◌+◌, ◌-◌, ◌*◌, ◌≤◌}
use Rattle.dictionary_pressing.specs.Sizing.{parts_from, size_in}
use Rattle.dictionary_pressing.proofs.table_size.Given as goal

abbrev pub invariant-loop-row : goal.invariant-loop-row
invariant-loop-row l = (l.size ≤ 5249 * (l.row + 1)) × (size_in l.rows l.count ≡ l.size + parts_from (l.count - l.row) l.rows l.row l.count)
