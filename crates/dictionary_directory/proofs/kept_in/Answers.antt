-- `kept_in` meets its contract: each return cites the law of its way. What the directory says is kept in a lemma typed by its place.
use mathlib.Core.Path.{◌≡◌, sym, ap, ◌∙◌}
use Prim.Native.Nat.{ℕ, ◌+◌, ◌*◌, ◌<◌}
use native.Mathlib.Omega.{arith}
use Rattle.dictionary_directory.specs.Directory.{block_at, kept_in}
use Rattle.dictionary_directory.proofs.KeptLaws.{block_none, block_cut, block_other, block_long, block_found}
use Rattle.dictionary_directory.proofs.kept_in.Goals as goal
use Rattle.dictionary_directory.proofs.kept_in.Goals.{After-from-block}
use Rattle.std.proofs.Common.{Some}

-- a word of the directory is small, and so is what a block says of its size
small : (c : After-from-block) → c.from-block.result < 65536
small c = omega (arith, c.from-block.ensures, c.shared_slice_known-2-1.given c.args.slot)

pub overflow_mul-block : goal.overflow_mul-block
overflow_mul-block c = omega (arith, small c)

block_here : (c : After-from-block) → kept_in c.args.tables.now c.args.place (block_at c.args.tables.now c.args.slot) ≡ kept_in c.args.tables.now c.args.place (8 * c.from-block.result)
unfolding block_at
block_here c = ap (λ (n : ℕ). kept_in c.args.tables.now c.args.place (8 * n)) (sym c.from-block.ensures)

pub returns-then-block-eq0 : goal.returns-then-block-eq0
returns-then-block-eq0 c = sym (block_here (goal.at.returns-then-block-eq0 c).After-from-block ∙ block_none _ _ _ c.if-block-eq0.true)

pub overflow_add-block : goal.overflow_add-block
overflow_add-block c = omega (arith, small (goal.at.overflow_add-block c).After-from-block)

pub returns-then-tables-block : goal.returns-then-tables-block
returns-then-tables-block c = sym (block_here (goal.at.returns-then-tables-block c).After-from-block ∙ block_cut _ _ _ c.if-block-eq0.false c.if-tables-block.true)

pub returns-then-from-place : goal.returns-then-from-place
returns-then-from-place c = sym (block_here (goal.at.returns-then-from-place c).After-from-block ∙ block_other _ _ _ c.if-block-eq0.false c.if-tables-block.false (λ e. c.if-from-place.true (c.from.ensures ∙ e)))

pub overflow_add-block-4 : goal.overflow_add-block-4
overflow_add-block-4 c = omega (arith, small (goal.at.overflow_add-block-4 c).After-from-block, c.from-size.ensures, c.shared_slice_known-4-1.given (8 * c.from-block.result))

pub returns-then-tables-block-2 : goal.returns-then-tables-block-2
returns-then-tables-block-2 c = sym (block_here (goal.at.returns-then-tables-block-2 c).After-from-block
    ∙ block_long _ _ _ c.if-block-eq0.false c.if-tables-block.false (sym c.from.ensures ∙ c.if-from-place.false) (rw c.from-size.ensures at c.if-tables-block-2.true))

pub returns : goal.returns
returns c = sym (block_here (goal.at.returns c).After-from-block
    ∙ block_found _ _ _ c.if-block-eq0.false c.if-tables-block.false (sym c.from.ensures ∙ c.if-from-place.false) (rw c.from-size.ensures at c.if-tables-block-2.false)
    ∙ ap (λ (size : ℕ). Some (8 * c.from-block.result + 2, size)) (sym c.from-size.ensures))
