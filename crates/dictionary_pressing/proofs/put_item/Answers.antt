-- `put_item` meets its contract: five stores. The two halves make a tag of which they are the halves, and a mark is stored as 1 or 0.
use mathlib.Core.Path.{◌≡◌}
use Prim.Native.Nat.{◌+◌, ◌*◌, ◌/◌, ◌%◌}
use native.Mathlib.Omega.{arith}
use lib.ListN.{length-set}
use Rattle.dictionary_pressing.specs.Pressing.{put_item}
use Rattle.dictionary_pressing.proofs.Stored.{stored-mark}
use Rattle.dictionary_pressing.proofs.put_item.Goals as goal

pub bounds-table-at-2 : goal.bounds-table-at-2
bounds-table-at-2 c = simp length-set (omega arith)

pub bounds-table-at-3 : goal.bounds-table-at-3
bounds-table-at-3 c = simp length-set (omega arith)

pub bounds-table-at-4 : goal.bounds-table-at-4
bounds-table-at-4 c = simp length-set (omega arith)

pub bounds-table-at-5 : goal.bounds-table-at-5
bounds-table-at-5 c = simp length-set (omega arith)

pub returns : goal.returns
unfolding put_item
returns c = let low : (c.args.low + 65536 * c.args.high) % 65536 ≡ c.args.low = omega arith in
    let high : (c.args.low + 65536 * c.args.high) / 65536 ≡ c.args.high = omega arith in
    rw (low, high, stored-mark c.args.required)
