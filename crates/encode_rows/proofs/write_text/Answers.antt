-- `write_text` meets its contract: after each part, what is left on what is written is the whole. `start-1` is the beginning of the code as seen
-- from its first call.
use mathlib.Core.Path.{◌∙◌}
use mathlib.Core.List.{List, ◌++◌}
use Prim.Native.Nat.{ℕ, ◌+◌, ◌≤◌}
use native.Mathlib.Omega.{arith}
use native.Mathlib.Nat.{zero-add}
use lib.ListN.{length}
use Rattle.message_rules.specs.declared.Span.{Span}
use Rattle.encode_rows.specs.Writing.{items_at, header_at, text_at}
use Rattle.encode_rows.specs.WritingLaws.{Rest, rest-start, rest-step, rest-room, rest-last, rest-done}
use Rattle.encode_rows.proofs.write_text.Goals as goal

pub write_header-first-requires : goal.write_header-first-requires
write_header-first-requires c =
    let room : 0 + length (text_at c.args.words.now c.args.values.now c.args.head c.args.middle c.args.tail c.args.separator) ≤ length c.args.output.now = omega (arith, c.requires.room) in
    let items : Span → List ℕ = λ span. items_at c.args.words.now c.args.values.now span 0 c.args.separator in
    let Left : List ℕ → ℕ → List ℕ → Type 0 = λ output next left. Rest 0 (text_at c.args.words.now c.args.values.now c.args.head c.args.middle c.args.tail c.args.separator) c.args.output.now output next left in
    let none_written : Left c.args.output.now 0 ((header_at c.args.words.now c.args.values.now c.args.head c.args.separator) ++ (items c.args.middle ++ items c.args.tail)) = unfold text_at in rest-start 0 (text_at c.args.words.now c.args.values.now c.args.head c.args.middle c.args.tail c.args.separator) c.args.output.now in
    record { stands = c.requires.header; separator_in_bounds = omega (arith, rest-room 0 _ _ _ 0 (room) (header_at c.args.words.now c.args.values.now c.args.head c.args.separator) _ (none_written)) }

pub write_items-second-requires : goal.write_items-second-requires
unfolding items_at
write_items-second-requires c =
    let items : Span → List ℕ = λ span. items_at c.args.words.now c.args.values.now span 0 c.args.separator in
    let room : 0 + length (text_at c.args.words.now c.args.values.now c.args.head c.args.middle c.args.tail c.args.separator) ≤ length c.args.output.now = omega (arith, c.requires.room) in
    let Left : List ℕ → ℕ → List ℕ → Type 0 = λ output next left. Rest 0 (text_at c.args.words.now c.args.values.now c.args.head c.args.middle c.args.tail c.args.separator) c.args.output.now output next left in
    let none_written : Left c.args.output.now 0 ((header_at c.args.words.now c.args.values.now c.args.head c.args.separator) ++ (items c.args.middle ++ items c.args.tail)) = unfold text_at in rest-start 0 (text_at c.args.words.now c.args.values.now c.args.head c.args.middle c.args.tail c.args.separator) c.args.output.now in
    let left-1 : Left c.write_header-first.new.output c.write_header-first.result (items c.args.middle ++ items c.args.tail) = rest-step 0 _ _ _ 0 (room) (header_at c.args.words.now c.args.values.now c.args.head c.args.separator) _ (none_written) _ _ (omega (arith, c.write_header-first.ensures.value)) c.write_header-first.ensures.output_after in
    (c.requires.body.grows, c.requires.body.within, c.requires.body.whole, c.requires.body.place, rest-room 0 _ _ _ _ (room) (items c.args.middle) _ (left-1))

pub write_items-requires : goal.write_items-requires
unfolding items_at
write_items-requires c =
    let items : Span → List ℕ = λ span. items_at c.args.words.now c.args.values.now span 0 c.args.separator in
    let room : 0 + length (text_at c.args.words.now c.args.values.now c.args.head c.args.middle c.args.tail c.args.separator) ≤ length c.args.output.now = omega (arith, c.requires.room) in
    let Left : List ℕ → ℕ → List ℕ → Type 0 = λ output next left. Rest 0 (text_at c.args.words.now c.args.values.now c.args.head c.args.middle c.args.tail c.args.separator) c.args.output.now output next left in
    let none_written : Left c.args.output.now 0 ((header_at c.args.words.now c.args.values.now c.args.head c.args.separator) ++ (items c.args.middle ++ items c.args.tail)) = unfold text_at in rest-start 0 (text_at c.args.words.now c.args.values.now c.args.head c.args.middle c.args.tail c.args.separator) c.args.output.now in
    let left-1 : Left c.write_header-first.new.output c.write_header-first.result (items c.args.middle ++ items c.args.tail) = rest-step 0 _ _ _ 0 (room) (header_at c.args.words.now c.args.values.now c.args.head c.args.separator) _ (none_written) _ _ (omega (arith, c.write_header-first.ensures.value)) c.write_header-first.ensures.output_after in
    let left-2 : Left c.write_items-second.new.output c.write_items-second.result (items c.args.tail) = unfold items_at in rest-step 0 _ _ _ _ (room) (items c.args.middle) _ (left-1) _ _ c.write_items-second.ensures.value c.write_items-second.ensures.output_after in
    (c.requires.trailer.grows, c.requires.trailer.within, c.requires.trailer.whole, c.requires.trailer.place, rest-last 0 _ _ _ _ (room) (items c.args.tail) (left-2))

pub returns : goal.returns
unfolding items_at
returns c =
    let items : Span → List ℕ = λ span. items_at c.args.words.now c.args.values.now span 0 c.args.separator in
    let room : 0 + length (text_at c.args.words.now c.args.values.now c.args.head c.args.middle c.args.tail c.args.separator) ≤ length c.args.output.now = omega (arith, c.requires.room) in
    let Left : List ℕ → ℕ → List ℕ → Type 0 = λ output next left. Rest 0 (text_at c.args.words.now c.args.values.now c.args.head c.args.middle c.args.tail c.args.separator) c.args.output.now output next left in
    let none_written : Left c.args.output.now 0 ((header_at c.args.words.now c.args.values.now c.args.head c.args.separator) ++ (items c.args.middle ++ items c.args.tail)) = unfold text_at in rest-start 0 (text_at c.args.words.now c.args.values.now c.args.head c.args.middle c.args.tail c.args.separator) c.args.output.now in
    let left-1 : Left c.write_header-first.new.output c.write_header-first.result (items c.args.middle ++ items c.args.tail) = rest-step 0 _ _ _ 0 (room) (header_at c.args.words.now c.args.values.now c.args.head c.args.separator) _ (none_written) _ _ (omega (arith, c.write_header-first.ensures.value)) c.write_header-first.ensures.output_after in
    let left-2 : Left c.write_items-second.new.output c.write_items-second.result (items c.args.tail) = unfold items_at in rest-step 0 _ _ _ _ (room) (items c.args.middle) _ (left-1) _ _ c.write_items-second.ensures.value c.write_items-second.ensures.output_after in
    let tail = items c.args.tail in
    let done = rest-done 0 _ _ _ _ (room) tail (left-2) _ _ c.write_items.ensures.value c.write_items.ensures.output_after in
    record { value = done.0 ∙ zero-add _; output_after = done.1 }
