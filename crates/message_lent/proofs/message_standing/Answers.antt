-- `message_standing` meets its contract, by its tests in their order.
use mathlib.Core.Path.{◌≡◌, sym, ap, ◌∙◌}
use mathlib.Core.Bool.{Bool, true, false}
use mathlib.Core.List.{List}
use Prim.Native.Nat.{ℕ, ◌+◌, ◌≤◌, ◌<◌}
use native.Mathlib.Omega.{arith}
use lib.Dec.{ltb}
use borrow.Author.Tests.{le-leb, lt-leb, ltb-true, ltb-false}
use Rattle.message_lent_rules.specs.Lent.{rows_of, is_laid, fields_in}
use Rattle.message_lent_rules.specs.LentLaws.{laid_out}
use Rattle.message_lent_rules.specs.Standing.{is_standing, laid_standing}
use Rattle.message_lent_rules.specs.declared.Standing.{Standing}
use Rattle.message_lent_rules.proofs.StandingLaws.{laid-stands, not_laid, no_parts, too_many, stands-message}
use Rattle.message_lent.proofs.message_standing.Goals as goal

-- whether the rows are laid out is what `is_standing` answers
laid-told : (words values : List ℕ) (s : Standing) (answer : Bool) → answer ≡ is_standing s → s ≡ laid_standing words values → is_laid words values ≡ answer
laid-told words values s answer e f = sym (e ∙ ap is_standing f ∙ laid-stands words values)

pub returns-then-not-is_standing : goal.returns-then-not-is_standing
returns-then-not-is_standing c =
    not_laid _ _ (laid-told c.args.words.now c.args.values.now _ _ c.is_standing.ensures c.laid_standing-standing.ensures ∙ c.if-not-is_standing.true)

pub row_count-count-requires : goal.row_count-count-requires
row_count-count-requires c =
    let laid-at : is_laid c.args.words.now c.args.values.now ≡ true = laid-told _ _ _ _ c.is_standing.ensures c.laid_standing-standing.ensures ∙ c.if-not-is_standing.false in
    (laid_out _ _ (laid-at)).whole

pub has_parts-requires : goal.has_parts-requires
has_parts-requires c =
    let laid-at : is_laid c.args.words.now c.args.values.now ≡ true = laid-told _ _ _ _ c.is_standing.ensures c.laid_standing-standing.ensures ∙ c.if-not-is_standing.false in
    let l = laid_out _ _ (laid-at) in (omega (arith, l.counted, c.row_count-count.ensures), l.whole)

pub returns-then-not-has_parts : goal.returns-then-not-has_parts
unfolding rows_of
returns-then-not-has_parts c =
    let laid-at : is_laid c.args.words.now c.args.values.now ≡ true = laid-told _ _ _ _ c.is_standing.ensures c.laid_standing-standing.ensures ∙ c.if-not-is_standing.false in
    no_parts _ _ (laid-at) (sym (rw c.row_count-count.ensures at c.has_parts.ensures) ∙ c.if-not-has_parts.true)

pub passes_limit-requires : goal.passes_limit-requires
passes_limit-requires c =
    let laid-at : is_laid c.args.words.now c.args.values.now ≡ true = laid-told _ _ _ _ c.is_standing.ensures c.laid_standing-standing.ensures ∙ c.if-not-is_standing.false in
    let l = laid_out _ _ (laid-at) in (omega (arith, l.counted, c.row_count-count.ensures), omega arith, l.whole)

pub returns-then-passes_limit : goal.returns-then-passes_limit
unfolding rows_of
returns-then-passes_limit c =
    let laid-at : is_laid c.args.words.now c.args.values.now ≡ true = laid-told _ _ _ _ c.is_standing.ensures c.laid_standing-standing.ensures ∙ c.if-not-is_standing.false in
    let limit-at : c.passes_limit.result ≡ ltb 1024 (fields_in 1 (rows_of c.args.words.now) + 0) = unfold rows_of in rw c.row_count-count.ensures at c.passes_limit.ensures in
    too_many _ _ (laid-at) (sym (rw c.row_count-count.ensures at c.has_parts.ensures) ∙ c.if-not-has_parts.false)
    (let rows = rows_of c.args.words.now in
    let e : ltb 1024 (fields_in 1 rows + 0) ≡ true = sym (limit-at) ∙ c.if-passes_limit.true in
    let h : 1024 < fields_in 1 rows = omega (arith, ltb-true 1024 (fields_in 1 rows + 0) e) in
    lt-leb _ _ h)

pub returns : goal.returns
unfolding rows_of
returns c =
    let laid-at : is_laid c.args.words.now c.args.values.now ≡ true = laid-told _ _ _ _ c.is_standing.ensures c.laid_standing-standing.ensures ∙ c.if-not-is_standing.false in
    let limit-at : c.passes_limit.result ≡ ltb 1024 (fields_in 1 (rows_of c.args.words.now) + 0) = unfold rows_of in rw c.row_count-count.ensures at c.passes_limit.ensures in
    c.laid_standing-standing.ensures
    ∙ stands-message _ _ (laid-at) (sym (rw c.row_count-count.ensures at c.has_parts.ensures) ∙ c.if-not-has_parts.false)
    (let rows = rows_of c.args.words.now in
    let e : ltb 1024 (fields_in 1 rows + 0) ≡ false = sym (limit-at) ∙ c.if-passes_limit.false in
    let h : fields_in 1 rows ≤ 1024 = omega (arith, ltb-false 1024 (fields_in 1 rows + 0) e) in
    le-leb _ _ h)
