-- `record_at` meets its contract: a record's words stand where its index says.
use mathlib.Core.Path.{sym}
use native.Mathlib.Omega.{arith}
use Rattle.build_records.proofs.WordLaws.{record_words, record_past}
use Rattle.build_records.proofs.record_at.Goals as goal

pub returns-then-words-i : goal.returns-then-words-i
returns-then-words-i c = sym (record_past _ _ c.if-words-i.true)

pub returns : goal.returns
returns c = sym (record_words _ _ (omega arith))
