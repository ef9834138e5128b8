use mathlib.Core.Path.{sym, ◌∙◌}
use Rattle.field_rules.proofs.FindLaws.{find_hit, find_miss, find_end}
use Rattle.field_tagvalue.proofs.find_from.Goals as goal

pub returns-then-bytes-i : goal.returns-then-bytes-i
returns-then-bytes-i c = sym (c.loop-i.invariant ∙ find_hit _ _ _ c.loop-i-test.true c.if-bytes-i.true)

pub loop-i-preserved : goal.loop-i-preserved
loop-i-preserved c = c.loop-i.invariant ∙ find_miss _ _ _ c.loop-i-test.true c.if-bytes-i.false

pub returns : goal.returns
returns c = sym (c.loop-i.invariant ∙ find_end _ _ _ c.loop-i-test.false)
