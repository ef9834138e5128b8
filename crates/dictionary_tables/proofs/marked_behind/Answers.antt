-- `marked_behind` meets its contract: the law of each way.
use mathlib.Core.Path.{sym}
use native.Mathlib.Omega.{arith}
use Rattle.dictionary_tables_rules.proofs.MarkLaws.{behind_rises, behind-ends}
use Rattle.dictionary_tables.proofs.marked_behind.Goals as goal

pub returns-then-behind-link : goal.returns-then-behind-link
returns-then-behind-link c = sym (behind-ends c.args.link c.args.word (omega (arith, c.if-behind-link.true)))

pub returns : goal.returns
returns c = sym (behind_rises c.args.link c.args.word (omega (arith, c.if-behind-link.false)))
