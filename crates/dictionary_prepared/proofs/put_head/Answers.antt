-- `put_head` meets its contract: three words are stored, and the index is copied behind them.
use Rattle.std.proofs.Common.{arith, length-set}
use Rattle.dictionary_prepared.proofs.MemoryLaws.{head_put}
use Rattle.dictionary_prepared.proofs.put_head.Goals as goal

pub bounds-memory-1 : goal.bounds-memory-1
bounds-memory-1 c = simp length-set (omega arith)

pub bounds-memory-2 : goal.bounds-memory-2
bounds-memory-2 c = simp length-set (omega arith)

pub returns : goal.returns
returns c = rw c.copy_from_slice.ensures.after (head_put c.args.size c.args.index.now c.args.memory.now 96154 (omega arith))
