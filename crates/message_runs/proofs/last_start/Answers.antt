use mathlib.Core.Path.{sym, ◌∙◌}
use Rattle.message_runs.specs.RowLaws.{last-here, last_on, last_end}
use Rattle.message_runs.proofs.last_start.Goals as goal
use Rattle.message_runs.proofs.last_start.Goals.{then-level_of-eq0, else-level_of-eq0}

pub loop-i-preserved : goal.loop-i-preserved
loop-i-preserved c = let h = c.loop-i-test.true in
    let e = c.level_of.ensures in
    c.loop-i.invariant ∙ elim c.if-level_of-eq0.branch [ then-level_of-eq0 w ↦ last-here _ _ _ h _ (sym e ∙ w.if-level_of-eq0.true) ∙ rw w.start-is | else-level_of-eq0 w ↦ last_on _ _ _ h _ (λ z. w.if-level_of-eq0.false (e ∙ z)) ∙ rw w.start-is ]

pub returns : goal.returns
returns c = sym (c.loop-i.invariant ∙ last_end _ _ _ c.loop-i-test.false _)
