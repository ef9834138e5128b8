use mathlib.Core.Path.{◌≡◌, sym, ap, ◌∙◌}
use mathlib.Core.Bool.{true}
use mathlib.Core.List.{List}
use Prim.Native.Nat.{ℕ}
use native.Mathlib.Omega.{arith}
use lib.ListN.{get_or}
use Rattle.field_rules.specs.Choice.{pick}
use Rattle.message_maps.specs.Rows.{row_at, rows_before, level_of}
use Rattle.message_lent_rules.specs.Lent.{row_allowed}
use Rattle.message_allowed.specs.Distinct.{latest, starts_run}
use Rattle.message_allowed.specs.Branch.{cell_of, tag_of}
use Rattle.message_allowed.proofs.TurnLaws.{turn_start, turn_end, turn_sized, turn_refused, turn_inside, turn_deep, turn_on}
use Rattle.message_allowed.proofs.judge.Goals as goal
use Rattle.message_allowed.proofs.judge.Goals.{After-cell_of-cell, then-loose, else-loose}

same-cell : (table words : List ℕ) (l m t u : ℕ) → l ≡ m → t ≡ u → cell_of table words l t ≡ cell_of table words m u
same-cell table words l m t u e g = rw (e, g)

found : (c : After-cell_of-cell) → c.cell_of-cell.result ≡ cell_of c.loop-i.table c.args.words.now (level_of (row_at c.args.words.now c.loop-i.i)) (tag_of (row_at c.args.words.now c.loop-i.i))
unfolding tag_of row_at
found c = c.cell_of-cell.ensures.value ∙ same-cell _ _ _ _ _ _ c.level_of.ensures c.tag_of.ensures

pub loop-i-init : goal.loop-i-init
loop-i-init c = turn_start c.args.words.now c.args.tops c.args.to c.requires.0 c.requires.2 c.requires.3 c.args.table.now c.requires.4 c.requires.5

pub cell_of-cell-requires : goal.cell_of-cell-requires
cell_of-cell-requires c = (omega arith, c.requires.1, omega (arith, c.loop-i.invariant.room), c.loop-i.invariant.known.tree)

pub offset_bounds-table-cell : goal.offset_bounds-table-cell
offset_bounds-table-cell c = omega (arith, c.cell_of-cell.ensures.upper_bound)

pub bounds-table-cell : goal.bounds-table-cell
bounds-table-cell c = omega (arith, c.cell_of-cell.ensures.upper_bound, c.loop-i.invariant.room)

pub row_allowed-requires : goal.row_allowed-requires
row_allowed-requires c =
    let newest : get_or c.loop-i.table c.cell_of-cell.result 0 ≡ latest (level_of (row_at c.args.words.now c.loop-i.i)) (tag_of (row_at c.args.words.now c.loop-i.i)) (rows_before c.loop-i.i c.args.words.now) = ap (λ (k : ℕ). get_or c.loop-i.table k 0) (found (goal.at.row_allowed-requires c).After-cell_of-cell) ∙ c.loop-i.invariant.known.finds _ _ in (
      omega arith,
      c.requires.1,
      turn_sized c.args.words.now c.args.tops c.args.to c.requires.0 c.requires.2 c.requires.3 c.loop-i.table c.loop-i.loose c.loop-i.i
          c.loop-i.invariant c.loop-i-test.true,
      c.loop-i.invariant.known,
      newest,
    )

pub returns-then-not-row_allowed : goal.returns-then-not-row_allowed
returns-then-not-row_allowed c = turn_refused c.args.words.now c.args.tops c.args.to c.requires.0 c.requires.2 c.requires.3 c.loop-i.table c.loop-i.loose c.loop-i.i
    c.loop-i.invariant c.loop-i-test.true (sym c.row_allowed.ensures ∙ c.if-not-row_allowed.true)

pub starts_run-starts-requires : goal.starts_run-starts-requires
starts_run-starts-requires c =
    let newest : get_or c.loop-i.table c.cell_of-cell.result 0 ≡ latest (level_of (row_at c.args.words.now c.loop-i.i)) (tag_of (row_at c.args.words.now c.loop-i.i)) (rows_before c.loop-i.i c.args.words.now) = ap (λ (k : ℕ). get_or c.loop-i.table k 0) (found (goal.at.starts_run-starts-requires c).After-cell_of-cell) ∙ c.loop-i.invariant.known.finds _ _ in
    let passed : row_allowed (rows_before c.loop-i.i c.args.words.now) (row_at c.args.words.now c.loop-i.i) ≡ true = sym c.row_allowed.ensures ∙ c.if-not-row_allowed.false in (
      omega arith,
      c.requires.1,
      turn_sized c.args.words.now c.args.tops c.args.to c.requires.0 c.requires.2 c.requires.3 c.loop-i.table c.loop-i.loose c.loop-i.i
          c.loop-i.invariant c.loop-i-test.true,
      c.loop-i.invariant.known,
      turn_inside c.args.words.now c.args.tops c.args.to c.requires.0 c.requires.2 c.requires.3 c.loop-i.table c.loop-i.loose c.loop-i.i
          c.loop-i.invariant c.loop-i-test.true (passed),
      newest,
    )

pub enter-requires : goal.enter-requires
enter-requires c =
    let passed : row_allowed (rows_before c.loop-i.i c.args.words.now) (row_at c.args.words.now c.loop-i.i) ≡ true = sym c.row_allowed.ensures ∙ c.if-not-row_allowed.false in (
      omega arith,
      c.requires.1,
      turn_sized c.args.words.now c.args.tops c.args.to c.requires.0 c.requires.2 c.requires.3 c.loop-i.table c.loop-i.loose c.loop-i.i
          c.loop-i.invariant c.loop-i-test.true,
      turn_deep c.args.words.now c.args.tops c.args.to c.requires.0 c.requires.2 c.requires.3 c.loop-i.table c.loop-i.loose c.loop-i.i
          c.loop-i.invariant c.loop-i-test.true (passed),
      c.cell_of-cell.ensures.upper_bound,
    )

pub loop-i-preserved : goal.loop-i-preserved
loop-i-preserved c =
    let passed : row_allowed (rows_before c.loop-i.i c.args.words.now) (row_at c.args.words.now c.loop-i.i) ≡ true = sym c.row_allowed.ensures ∙ c.if-not-row_allowed.false in
    let told : c.if-loose.loose ≡ pick c.loop-i.loose true (starts_run (rows_before c.loop-i.i c.args.words.now) (row_at c.args.words.now c.loop-i.i)) =
    elim c.if-loose.branch [
      | then-loose w ↦ rw (w.loose-is, w.if-loose.true)
      | else-loose w ↦ rw (w.loose-is, w.if-loose.false) c.starts_run-starts.ensures
    ] in
    turn_on c.args.words.now c.args.tops c.args.to c.requires.0 c.requires.2 c.requires.3 c.loop-i.table c.loop-i.loose c.loop-i.i
    c.loop-i.invariant c.loop-i-test.true passed c.cell_of-cell.result _ (found (goal.at.loop-i-preserved c).After-cell_of-cell) c.enter.ensures _ told

pub returns : goal.returns
returns c = c.standing_of.ensures ∙ turn_end c.args.words.now c.args.tops c.args.to c.requires.0 c.requires.2 c.requires.3 c.loop-i.table
    c.loop-i.loose c.loop-i.i c.loop-i.invariant (omega (arith, c.loop-i-test.false))
