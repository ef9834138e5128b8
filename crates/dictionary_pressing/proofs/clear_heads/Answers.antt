-- `clear_heads` meets its contract: behind the level's first word as many words as there are heads are filled with zero.
use Rattle.std.proofs.Common.{◌≡◌, ◌+◌, ◌-◌, ◌≤◌, ℕ, List, length, take, drop, replicate, ◌∙◌, arith, drop-drop, length-set, length-drop, length-take-le}
use Rattle.std.specs.Prelude.{set}
use borrow.Rule.Slice.PartMut.{put_mid}
use Rattle.dictionary_tables_rules.specs.Table.{heads_for}
use Rattle.dictionary_tables_rules.specs.Laid.{part_size}
use Rattle.dictionary_pressing.specs.Linking.{cleared}
use Rattle.dictionary_pressing.specs.ClearLaws.{cleared_to, clear_all}
use Rattle.dictionary_pressing.proofs.clear_heads.Goals as goal

pub bounds-table-level : goal.bounds-table-level
unfolding part_size
bounds-table-level c = omega arith

pub overflow_add-first-2 : goal.overflow_add-first-2
unfolding part_size
overflow_add-first-2 c = omega (arith, c.heads_for.ensures)

pub slice_bounds-fill-end : goal.slice_bounds-fill-end
unfolding part_size
slice_bounds-fill-end c = simp length-set (omega (arith, c.heads_for.ensures))

-- zeros in the place of the heads
zeros_put : (table zeros : List ℕ) (level count heads : ℕ) → heads ≡ heads_for count → level + part_size count ≤ length table →
    zeros ≡ replicate (length (take (level + 1 + heads - (level + 1)) (drop (level + 1) (set table level count)))) 0 →
    put_mid (level + 1) (level + 1 + heads - (level + 1)) (set table level count) zeros ≡ cleared table level count
unfolding part_size cleared_to
zeros_put table zeros level count heads h room z =
    let words : List ℕ = set table level count in
    let some : level + 1 + heads - (level + 1) ≡ heads = omega arith in
    let kept : length words ≡ length table = length-set table level count in
    let long : length (take heads (drop (level + 1) words)) ≡ heads = length-take-le heads (drop (level + 1) words) (omega (arith, h, room, kept, length-drop (level + 1) words)) in
    let same : zeros ≡ replicate heads 0 = z ∙ rw (some, long) in
    rw (some, same, drop-drop heads (level + 1) words, h) (clear_all table level count (omega (arith, room)))

pub returns : goal.returns
returns c = zeros_put _ _ _ _ _ c.heads_for.ensures c.requires.0 (c.fill.ensures.after (λ y h. h))
