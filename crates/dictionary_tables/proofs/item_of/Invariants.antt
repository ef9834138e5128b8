-- `item_of` meets its contract. The invariant: following the chain from the link on gives what the tag is at the level.
-- A link is a word and rises with each item, whatever the words are.
use mathlib.Core.Path.{◌≡◌}
use Prim.Native.Nat.{◌+◌, ◌-◌, ◌≤◌}
use lib.ListN.{length}
use Rattle.dictionary_tables_rules.specs.Table.{followed, item_of}
use Rattle.dictionary_tables.proofs.item_of.Given as goal

abbrev pub invariant-loop-link : goal.invariant-loop-link
invariant-loop-link l = (l.from ≤ length l.table + 128) × (l.link ≤ 65535) × (item_of l.table l.level l.tag ≡ followed l.table l.from l.tag l.link)

abbrev pub decreases-loop-link : goal.decreases-loop-link
decreases-loop-link l = 65536 - l.link
