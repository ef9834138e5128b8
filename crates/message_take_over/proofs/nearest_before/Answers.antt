-- `nearest_before` meets its contract: the record before, or where that is too deep what is kept of the depth.
use mathlib.Core.Path.{sym, ap, ◌∙◌}
use native.Mathlib.Omega.{arith}
use Rattle.build_records.specs.declared.Record.{Record}
use Rattle.message_take_over.specs.JoinLaws.{nearest_here, nearest_none}
use Rattle.message_take_over.specs.Newest.{newest_told}
use Rattle.message_take_over.proofs.nearest_before.Goals as goal
use Rattle.std.proofs.Common.{Some}

pub returns-then-to-eq0 : goal.returns-then-to-eq0
returns-then-to-eq0 c = sym (nearest_none _ _ _ c.if-to-eq0.true)

pub returns-then-before-depth : goal.returns-then-before-depth
returns-then-before-depth c = let e = c.record_at-before.ensures in
    ap Some e ∙ sym (nearest_here _ _ _ (omega arith) (omega (arith, ap (λ (q : Record). q.depth) e)))

pub bounds-last-depth : goal.bounds-last-depth
bounds-last-depth c = let e = ap (λ (q : Record). q.depth) c.record_at-before.ensures in
    omega (arith, (newest_told c.requires c.args.depth (omega arith) (omega (arith, e))).0, c.requires.room)

pub returns : goal.returns
returns c = let e = ap (λ (q : Record). q.depth) c.record_at-before.ensures in
    ap Some c.record_at.ensures ∙ (sym (newest_told c.requires c.args.depth (omega arith) (omega (arith, e))).1)
