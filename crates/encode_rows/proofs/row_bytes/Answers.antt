-- `row_bytes` meets its contract: only a field is written.
use mathlib.Core.Path.{sym, ◌∙◌}
use Prim.Native.Nat.{◌≤◌}
use native.Mathlib.Omega.{arith}
use borrow.Author.Tests.{eq-eqb, ne_eqb}
use Rattle.message_maps.specs.Rows.{row_at}
use Rattle.field_rules.proofs.DecimalLaws.{decimal-length}
use Rattle.encode_rows.specs.Writing.{row_bytes}
use Rattle.encode_rows.proofs.row_bytes.Goals as goal
use Rattle.encode_rows.proofs.row_bytes.Goals.{After-digit_count}

digits-at : (c : After-digit_count) → c.digit_count.result ≤ 10
digits-at c = omega (arith, c.digit_count.ensures, decimal-length c.tag_of.result (omega arith))

pub overflow_add-result : goal.overflow_add-result
overflow_add-result c = let d = digits-at (goal.at.overflow_add-result c).After-digit_count in omega (arith, d)

pub overflow_add-result-then-kind_of-eq1 : goal.overflow_add-result-then-kind_of-eq1
overflow_add-result-then-kind_of-eq1 c = let d = digits-at (goal.at.overflow_add-result-then-kind_of-eq1 c).After-digit_count in omega (arith, d)

pub returns-then-kind_of-eq1 : goal.returns-then-kind_of-eq1
unfolding row_at row_bytes
returns-then-kind_of-eq1 c = let d = digits-at (goal.at.returns-then-kind_of-eq1 c).After-digit_count in record {
  value = rw (
    eq-eqb _ 1 (sym c.kind_of.ensures ∙ c.if-kind_of-eq1.true),
    ← c.tag_of.ensures,
    ← c.digit_count.ensures,
    ← c.extra_of.ensures,
  );
  upper_bound = omega (arith, d);
}

pub returns : goal.returns
unfolding row_at row_bytes
returns c = record { value = rw (ne_eqb _ 1 (λ e. c.if-kind_of-eq1.false (c.kind_of.ensures ∙ e))); upper_bound = omega arith }
