-- `link_items` meets its contract. The invariant: the items from `i` on are linked, and those before stand as they were written.
-- A turn's four stores link one item more, whose group `last_group` finds through the chain of those behind it.
use mathlib.Core.Path.{◌≡◌}
use Prim.Native.Nat.{◌+◌, ◌*◌, ◌≤◌, ◌<◌}
use lib.ListN.{length}
use Rattle.dictionary_tables_rules.specs.Table.{heads_for}
use Rattle.dictionary_pressing.specs.Linking.{Linking}
use Rattle.dictionary_pressing.proofs.link_items.Given as goal

abbrev pub invariant-loop-i : goal.invariant-loop-i
invariant-loop-i l = Linking l.initial.table l.table l.level l.count l.i l.marked × (l.level + 1 + l.heads + 5 * l.count ≤ length l.initial.table) × (l.heads ≡ heads_for l.count) × (0 < l.heads)
