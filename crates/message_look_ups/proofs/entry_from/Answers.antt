use mathlib.Core.Path.{sym, ◌∙◌}
use Rattle.message_look_ups.specs.OpeningLaws.{entry_here, entry_next, entry-on, entry-end}
use Rattle.message_look_ups.proofs.entry_from.Goals as goal
use Rattle.message_look_ups.proofs.entry_from.Goals.{then-is_row+else-left-eq0, else-is_row}

pub returns-then-left-eq0 : goal.returns-then-left-eq0
returns-then-left-eq0 c = sym (c.loop-i.invariant ∙ entry_here _ _ _ c.loop-i-test.true _ _ _ (sym c.is_row.ensures ∙ c.if-is_row.true) c.if-left-eq0.true)

pub loop-i-preserved : goal.loop-i-preserved
loop-i-preserved c = let h = c.loop-i-test.true in
    let e = c.is_row.ensures in
    c.loop-i.invariant ∙ elim c.if-is_row.branch [ then-is_row+else-left-eq0 w ↦ entry_next _ _ _ h _ _ _ (sym e ∙ w.if-is_row.true) w.if-left-eq0.false ∙ rw w.left-is | else-is_row w ↦ entry-on _ _ _ h _ _ _ (sym e ∙ w.if-is_row.false) ∙ rw w.left-is ]

pub returns : goal.returns
returns c = sym (c.loop-i.invariant ∙ entry-end _ _ _ c.loop-i-test.false _ _ _)
