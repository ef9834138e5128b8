-- `replace` meets its contract: storing a record's words replaces it, and past the lent words nothing happens.
-- Each store keeps the length.
use mathlib.Core.Path.{sym}
use native.Mathlib.Omega.{arith}
use lib.ListN.{length-set}
use Rattle.build_records.proofs.WordLaws.{replaced-words, replaced_past}
use Rattle.build_records.proofs.replace.Goals as goal

pub returns-then-words-i : goal.returns-then-words-i
returns-then-words-i c = sym (replaced_past _ _ _ c.if-words-i.true)

pub bounds-words-at-2 : goal.bounds-words-at-2
bounds-words-at-2 c = simp length-set (omega arith)

pub bounds-words-at-3 : goal.bounds-words-at-3
bounds-words-at-3 c = simp length-set (omega arith)

pub bounds-words-at-4 : goal.bounds-words-at-4
bounds-words-at-4 c = simp length-set (omega arith)

pub bounds-words-at-5 : goal.bounds-words-at-5
bounds-words-at-5 c = simp length-set (omega arith)

pub bounds-words-at-6 : goal.bounds-words-at-6
bounds-words-at-6 c = simp length-set (omega arith)

pub returns : goal.returns
returns c = replaced-words _ _ _ (omega arith)
