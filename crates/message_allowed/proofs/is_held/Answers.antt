-- `is_held` meets its contract, by the law of the table.
use mathlib.Core.Path.{sym}
use native.Mathlib.Omega.{arith}
use Rattle.message_maps.specs.Rows.{rows_before}
use Rattle.message_allowed.specs.DistinctLaws.{held-latest}
use Rattle.message_allowed.proofs.is_held.Goals as goal

pub bounds-table-tops : goal.bounds-table-tops
bounds-table-tops c = omega (arith, c.requires.3.near)

pub returns : goal.returns
returns c = rw (c.requires.3.opens c.args.level c.requires.4, c.requires.5) (sym (held-latest c.args.level c.args.tag (rows_before c.args.row c.args.words.now)))
