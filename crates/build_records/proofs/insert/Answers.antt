use Rattle.std.proofs.Common.{sym, ◌∙◌, arith}
use Rattle.build_records.proofs.Turns.{insert_past, insert_full, insert-starts, insert_turn, insert-ends}
use Rattle.build_records.proofs.insert.Goals as goal

pub returns-then-n-i : goal.returns-then-n-i
returns-then-n-i c = sym (insert_past _ _ _ _ c.if-n-i.true)

pub returns-then-words-n : goal.returns-then-words-n
returns-then-words-n c = sym (insert_full _ _ _ _ c.if-words-n.true)

pub loop-at-init : goal.loop-at-init
loop-at-init c = insert-starts _ _ _ _ c.if-n-i.false c.if-words-n.false

pub loop-at-preserved : goal.loop-at-preserved
loop-at-preserved c = c.loop-at.invariant ∙ insert_turn _ _ _ _ c.loop-at-test.true (omega arith) ∙ rw (c.replace.ensures, c.record_at-moved.ensures)

pub returns : goal.returns
returns c = c.replace-2.ensures ∙ sym (c.loop-at.invariant ∙ insert-ends _ _ _ _ (omega arith) (omega arith))
