-- `write_header` meets its contract: after each piece, what is left on what is written is the whole. `start-2` is the beginning of the code as
-- seen from its second call.
use mathlib.Core.Path.{◌∙◌}
use mathlib.Core.List.{List, ◌++◌}
use Prim.Native.Nat.{ℕ, ◌+◌, ◌≤◌}
use native.Mathlib.Omega.{arith}
use native.Mathlib.Nat.{zero-add}
use lib.ListN.{length}
use Rattle.encode_rows.specs.Writing.{items_at, header_at}
use Rattle.encode_rows.specs.WritingLaws.{Rest, rest-start, rest-step, rest-room, rest-last, rest-done}
use Rattle.encode_rows.proofs.write_header.Goals as goal

pub write_items-first-requires : goal.write_items-first-requires
unfolding items_at
write_items-first-requires c =
    let items : ℕ → List ℕ = λ which. items_at c.args.words.now c.args.values.now c.args.head which c.args.separator in
    let room : 0 + length (header_at c.args.words.now c.args.values.now c.args.head c.args.separator) ≤ length c.args.output.now = omega (arith, c.requires.separator_in_bounds) in
    let Left : List ℕ → ℕ → List ℕ → Type 0 = λ output next left. Rest 0 (header_at c.args.words.now c.args.values.now c.args.head c.args.separator) c.args.output.now output next left in
    let none_written : Left c.args.output.now 0 (items 8 ++ (items 9 ++ (items 35 ++ items 1))) = unfold header_at in rest-start 0 (header_at c.args.words.now c.args.values.now c.args.head c.args.separator) c.args.output.now in
    (c.requires.stands.grows, c.requires.stands.within, c.requires.stands.whole, c.requires.stands.place, rest-room 0 _ _ _ 0 (room) (items 8) _ (none_written))

pub write_items-second-requires : goal.write_items-second-requires
unfolding items_at
write_items-second-requires c =
    let items : ℕ → List ℕ = λ which. items_at c.args.words.now c.args.values.now c.args.head which c.args.separator in
    let room : 0 + length (header_at c.args.words.now c.args.values.now c.args.head c.args.separator) ≤ length c.args.output.now = omega (arith, c.requires.separator_in_bounds) in
    let Left : List ℕ → ℕ → List ℕ → Type 0 = λ output next left. Rest 0 (header_at c.args.words.now c.args.values.now c.args.head c.args.separator) c.args.output.now output next left in
    let none_written : Left c.args.output.now 0 (items 8 ++ (items 9 ++ (items 35 ++ items 1))) = unfold header_at in rest-start 0 (header_at c.args.words.now c.args.values.now c.args.head c.args.separator) c.args.output.now in
    let left-1 : Left c.write_items-first.new.output c.write_items-first.result (items 9 ++ (items 35 ++ items 1)) = unfold items_at in rest-step 0 _ _ _ 0 (room) (items 8) _ (none_written) _ _ c.write_items-first.ensures.value c.write_items-first.ensures.output_after in
    (c.requires.stands.grows, c.requires.stands.within, c.requires.stands.whole, c.requires.stands.place, rest-room 0 _ _ _ _ (room) (items 9) _ (left-1))

pub write_items-third-requires : goal.write_items-third-requires
unfolding items_at
write_items-third-requires c =
    let items : ℕ → List ℕ = λ which. items_at c.args.words.now c.args.values.now c.args.head which c.args.separator in
    let room : 0 + length (header_at c.args.words.now c.args.values.now c.args.head c.args.separator) ≤ length c.args.output.now = omega (arith, c.requires.separator_in_bounds) in
    let Left : List ℕ → ℕ → List ℕ → Type 0 = λ output next left. Rest 0 (header_at c.args.words.now c.args.values.now c.args.head c.args.separator) c.args.output.now output next left in
    let none_written : Left c.args.output.now 0 (items 8 ++ (items 9 ++ (items 35 ++ items 1))) = unfold header_at in rest-start 0 (header_at c.args.words.now c.args.values.now c.args.head c.args.separator) c.args.output.now in
    let left-1 : Left c.write_items-first.new.output c.write_items-first.result (items 9 ++ (items 35 ++ items 1)) = unfold items_at in rest-step 0 _ _ _ 0 (room) (items 8) _ (none_written) _ _ c.write_items-first.ensures.value c.write_items-first.ensures.output_after in
    let left-2 : Left c.write_items-second.new.output c.write_items-second.result (items 35 ++ items 1) = unfold items_at in rest-step 0 _ _ _ _ (room) (items 9) _ (left-1) _ _ c.write_items-second.ensures.value c.write_items-second.ensures.output_after in
    (c.requires.stands.grows, c.requires.stands.within, c.requires.stands.whole, c.requires.stands.place, rest-room 0 _ _ _ _ (room) (items 35) _ (left-2))

pub write_items-requires : goal.write_items-requires
unfolding items_at
write_items-requires c =
    let items : ℕ → List ℕ = λ which. items_at c.args.words.now c.args.values.now c.args.head which c.args.separator in
    let room : 0 + length (header_at c.args.words.now c.args.values.now c.args.head c.args.separator) ≤ length c.args.output.now = omega (arith, c.requires.separator_in_bounds) in
    let Left : List ℕ → ℕ → List ℕ → Type 0 = λ output next left. Rest 0 (header_at c.args.words.now c.args.values.now c.args.head c.args.separator) c.args.output.now output next left in
    let none_written : Left c.args.output.now 0 (items 8 ++ (items 9 ++ (items 35 ++ items 1))) = unfold header_at in rest-start 0 (header_at c.args.words.now c.args.values.now c.args.head c.args.separator) c.args.output.now in
    let left-1 : Left c.write_items-first.new.output c.write_items-first.result (items 9 ++ (items 35 ++ items 1)) = unfold items_at in rest-step 0 _ _ _ 0 (room) (items 8) _ (none_written) _ _ c.write_items-first.ensures.value c.write_items-first.ensures.output_after in
    let left-2 : Left c.write_items-second.new.output c.write_items-second.result (items 35 ++ items 1) = unfold items_at in rest-step 0 _ _ _ _ (room) (items 9) _ (left-1) _ _ c.write_items-second.ensures.value c.write_items-second.ensures.output_after in
    let left-3 : Left c.write_items-third.new.output c.write_items-third.result (items 1) = unfold items_at in rest-step 0 _ _ _ _ (room) (items 35) _ (left-2) _ _ c.write_items-third.ensures.value c.write_items-third.ensures.output_after in
    (c.requires.stands.grows, c.requires.stands.within, c.requires.stands.whole, c.requires.stands.place, rest-last 0 _ _ _ _ (room) (items 1) (left-3))

pub returns : goal.returns
unfolding items_at
returns c =
    let items : ℕ → List ℕ = λ which. items_at c.args.words.now c.args.values.now c.args.head which c.args.separator in
    let room : 0 + length (header_at c.args.words.now c.args.values.now c.args.head c.args.separator) ≤ length c.args.output.now = omega (arith, c.requires.separator_in_bounds) in
    let Left : List ℕ → ℕ → List ℕ → Type 0 = λ output next left. Rest 0 (header_at c.args.words.now c.args.values.now c.args.head c.args.separator) c.args.output.now output next left in
    let none_written : Left c.args.output.now 0 (items 8 ++ (items 9 ++ (items 35 ++ items 1))) = unfold header_at in rest-start 0 (header_at c.args.words.now c.args.values.now c.args.head c.args.separator) c.args.output.now in
    let left-1 : Left c.write_items-first.new.output c.write_items-first.result (items 9 ++ (items 35 ++ items 1)) = unfold items_at in rest-step 0 _ _ _ 0 (room) (items 8) _ (none_written) _ _ c.write_items-first.ensures.value c.write_items-first.ensures.output_after in
    let left-2 : Left c.write_items-second.new.output c.write_items-second.result (items 35 ++ items 1) = unfold items_at in rest-step 0 _ _ _ _ (room) (items 9) _ (left-1) _ _ c.write_items-second.ensures.value c.write_items-second.ensures.output_after in
    let left-3 : Left c.write_items-third.new.output c.write_items-third.result (items 1) = unfold items_at in rest-step 0 _ _ _ _ (room) (items 35) _ (left-2) _ _ c.write_items-third.ensures.value c.write_items-third.ensures.output_after in
    let done = rest-done 0 _ _ _ _ (room) (items 1) (left-3) _ _ c.write_items.ensures.value c.write_items.ensures.output_after in
    record { value = done.0 ∙ zero-add _; output_after = done.1 }
