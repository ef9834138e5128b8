use Rattle.std.proofs.Common.{sym, ◌∙◌, arith}
use Rattle.build_records.proofs.Turns.{remove_past, remove-many, remove-starts, remove_turn, remove-ends}
use Rattle.build_records.proofs.remove.Goals as goal

pub returns-then-words-n : goal.returns-then-words-n
returns-then-words-n c = sym (remove_past _ _ _ _ c.if-words-n.true)

pub returns-then-n-k : goal.returns-then-n-k
returns-then-n-k c = sym (remove-many _ _ _ _ c.if-n-k.true)

pub loop-at-init : goal.loop-at-init
loop-at-init c = remove-starts _ _ _ _ c.if-words-n.false c.if-n-k.false

pub loop-at-preserved : goal.loop-at-preserved
loop-at-preserved c = c.loop-at.invariant ∙ remove_turn _ _ _ _ c.loop-at-test.true (omega arith) ∙ rw (c.replace.ensures, c.record_at-moved.ensures)

pub returns : goal.returns
returns c = sym (c.loop-at.invariant ∙ remove-ends _ _ _ _ c.loop-at-test.false)
