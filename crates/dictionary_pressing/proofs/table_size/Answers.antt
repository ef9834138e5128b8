use Rattle.std.proofs.Common.{◌≡◌, refl, ap, ◌∙◌, ℕ, ◌+◌, ◌≤◌, List, length, min, Bool, true, false, arith}
use Rattle.std.specs.Prelude.{ltb}
use borrow.Author.Tests.{ltb-true, ltb-false}
use Rattle.field_rules.specs.Choice.{pick}
use Rattle.dictionary_layout_rules.specs.Table.{siblings_from, link_at}
use Rattle.dictionary_tables_rules.specs.Laid.{part_size}
use Rattle.dictionary_layout_rules.proofs.TabledLaws.{stands-length}
use Rattle.dictionary_pressing.specs.Sizing.{least, size_rows, size-start, counted_most, part_most, parts-on, parts_in, parts-end}
use Rattle.dictionary_pressing.proofs.table_size.Goals as goal
use Rattle.dictionary_pressing.proofs.table_size.Goals.{After-own_count-then-rows-row-eq1, then-rows-row-eq1, else-rows-row-eq1}

pub returns-then-count-gt1024 : goal.returns-then-count-gt1024
returns-then-count-gt1024 c = λ layout t few. absurd (omega (arith, t.ends, c.if-count-gt1024.true))

pub returns-then-rows-count : goal.returns-then-rows-count
returns-then-rows-count c = λ layout t few. absurd (omega (arith, t.ends, stands-length _ 0 layout t.stands, c.if-rows-count.true))

pub part_size-size-requires : goal.part_size-size-requires
part_size-size-requires c = omega (arith, c.own_count.ensures, counted_most c.args.rows.now 0 c.args.count)

pub loop-row-init : goal.loop-row-init
loop-row-init c = (
  omega (arith, c.part_size-size.ensures, part_most c.own_count.result, c.own_count.ensures, counted_most c.args.rows.now 0 c.args.count),
  size-start c.args.rows.now c.args.count ∙ rw (c.part_size-size.ensures, c.own_count.ensures),
)

-- the level of a group has no more items than there are rows
few : (c : After-own_count-then-rows-row-eq1) → c.own_count-then-rows-row-eq1.result ≤ 1024
few c = omega (
  arith,
  c.own_count-then-rows-row-eq1.ensures,
  counted_most c.args.rows.now (c.loop-row.row + 1) c.min-stop.result,
  c.min-stop.ensures,
)

pub own_count-requires-then-rows-row-eq1 : goal.own_count-requires-then-rows-row-eq1
own_count-requires-then-rows-row-eq1 c = omega (arith, c.min-stop.ensures)

pub part_size-size-requires-then-rows-row-eq1 : goal.part_size-size-requires-then-rows-row-eq1
part_size-size-requires-then-rows-row-eq1 c = omega (arith, few c)

pub overflow_add-size : goal.overflow_add-size
overflow_add-size c = omega (arith, few (goal.at.overflow_add-size c).After-own_count-then-rows-row-eq1, c.part_size-size-then-rows-row-eq1.ensures, part_most c.own_count-then-rows-row-eq1.result)

least-min : (one other : ℕ) → min one other ≡ least one other
unfolding least
least-min one other = go (ltb one other) refl
  where
    go : (t : Bool) → ltb one other ≡ t → min one other ≡ pick t one other
    go true e = omega (arith, ltb-true one other e)
    go false e = omega (arith, ltb-false one other e)

-- a group's row adds the part of its level, and a field's row nothing
pub loop-row-preserved : goal.loop-row-preserved
loop-row-preserved c =
    let rows : List ℕ = c.args.rows.now in
    let row : ℕ = c.loop-row.row in
    let count : ℕ = c.args.count in
    elim c.if-rows-row-eq1.branch [
      | then-rows-row-eq1 w ↦
          let stop : w.min-stop.result ≡ least (link_at rows row) count = w.min-stop.ensures ∙ least-min _ _ ∙ ap (λ (n : ℕ). least n count) w.from.ensures in
          let own = w.own_count-then-rows-row-eq1.ensures in
          let part : w.part_size-size-then-rows-row-eq1.result ≡ part_size (length (siblings_from rows (row + 1) (least (link_at rows row) count))) =
          w.part_size-size-then-rows-row-eq1.ensures ∙ ap part_size (own ∙ ap (λ (n : ℕ). length (siblings_from rows (row + 1) n)) stop) in
          let few-items : w.own_count-then-rows-row-eq1.result ≤ 1024 = omega (arith, own, counted_most rows (row + 1) w.min-stop.result, w.min-stop.ensures) in (
            omega (arith, few-items, w.size-is, w.part_size-size-then-rows-row-eq1.ensures, part_most w.own_count-then-rows-row-eq1.result),
            omega (arith, c.loop-row.invariant.1, w.size-is, part, parts_in rows row count c.loop-row-test.true w.if-rows-row-eq1.true),
          )
      | else-rows-row-eq1 w ↦ (
        omega (arith, w.size-is),
        omega (arith, c.loop-row.invariant.1, w.size-is, parts-on rows row count c.loop-row-test.true w.if-rows-row-eq1.false),
      )
    ]

pub returns : goal.returns
returns c = λ layout t few. omega (arith, c.loop-row.invariant.1, parts-end c.args.rows.now c.loop-row.row c.args.count c.loop-row-test.false, size_rows c.args.rows.now c.args.count layout t)
