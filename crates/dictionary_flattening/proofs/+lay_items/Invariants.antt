-- `lay_items` meets its contract. Invariant: what is left from the record that is looked at has the outcome of the whole.
-- A call for what lies within has one less of depth, and its contract is the definition's `inner`; each return cites the law of its way, and
-- all along what the leaps say is so.
use Rattle.std.proofs.Common.{◌-◌, ◌≡◌, ◌≤◌, length}
use Rattle.dictionary_rules.specs.Index.{component_at}
use Rattle.dictionary_meaning_rules.specs.Laying.{items_from, lay_items}
use Rattle.dictionary_flattening.specs.Leaps.{Leaps}
use Rattle.dictionary_flattening.proofs.+lay_items.Given as goal

abbrev pub decreases-lay_items : goal.decreases-lay_items
decreases-lay_items l = l.depth

abbrev pub invariant-loop-record : goal.invariant-loop-record
invariant-loop-record l =
    (l.row ≤ 1024) × (length l.leaps ≡ length l.initial.leaps) × Leaps l.bytes (component_at l.index) l.leaps
    × (lay_items l.depth l.bytes (component_at l.index) l.from l.first l.initial.table ≡
    items_from (lay_items (l.depth - 1) l.bytes (component_at l.index)) l.bytes (component_at l.index) l.at l.row l.table)

abbrev pub decreases-loop-record : goal.decreases-loop-record
decreases-loop-record l = length l.bytes - l.at
