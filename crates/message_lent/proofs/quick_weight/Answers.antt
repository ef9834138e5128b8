-- `quick_weight` meets its contract: each return is by the law of its case.
use mathlib.Core.Path.{sym, ◌∙◌}
use native.Mathlib.Omega.{arith}
use Rattle.message_lent.specs.WeightLaws.{field_told, above_told, last-told, none_told, bare-told, own-told}
use Rattle.message_lent.proofs.quick_weight.Goals as goal

pub returns-then-kind_of-eq1 : goal.returns-then-kind_of-eq1
returns-then-kind_of-eq1 c = field_told c.args.words.now c.args.row c.args.to c.args.floor (sym c.kind_of.ensures ∙ c.if-kind_of-eq1.true)

pub returns-then-level-floor : goal.returns-then-level-floor
returns-then-level-floor c =
    above_told c.args.words.now c.args.row c.args.to c.args.floor (λ e. c.if-kind_of-eq1.false (c.kind_of.ensures ∙ e))
    (omega (arith, c.level_of-level.ensures, c.if-level-floor.true))

pub returns-then-next-to : goal.returns-then-next-to
returns-then-next-to c =
    last-told c.args.words.now c.args.row c.args.to c.args.floor (λ e. c.if-kind_of-eq1.false (c.kind_of.ensures ∙ e)) (omega (arith, c.level_of-level.ensures, c.if-level-floor.false)) (omega arith)

pub returns-then-level_of-level : goal.returns-then-level_of-level
returns-then-level_of-level c =
    bare-told c.args.words.now c.args.row c.args.to c.args.floor (λ e. c.if-kind_of-eq1.false (c.kind_of.ensures ∙ e)) (omega (arith, c.level_of-level.ensures, c.if-level-floor.false)) (omega arith)
    (omega (arith, c.level_of.ensures, c.level_of-level.ensures, c.if-level_of-level.true))

pub returns-then-is_own : goal.returns-then-is_own
returns-then-is_own c =
    own-told c.args.words.now c.args.row c.args.to c.args.floor (λ e. c.if-kind_of-eq1.false (c.kind_of.ensures ∙ e)) (omega (arith, c.level_of-level.ensures, c.if-level-floor.false)) (omega arith)
    (omega (arith, c.level_of.ensures, c.level_of-level.ensures, c.if-level_of-level.false))
    (sym (rw c.level_of-level.ensures at c.is_own.ensures) ∙ c.if-is_own.true)

pub returns : goal.returns
returns c =
    none_told c.args.words.now c.args.row c.args.to c.args.floor (λ e. c.if-kind_of-eq1.false (c.kind_of.ensures ∙ e)) (omega (arith, c.level_of-level.ensures, c.if-level-floor.false))
