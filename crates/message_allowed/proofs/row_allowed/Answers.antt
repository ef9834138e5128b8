-- `row_allowed` meets its contract, by what the row is.
use mathlib.Core.Path.{sym, ◌∙◌}
use native.Mathlib.Omega.{arith}
use Rattle.message_maps.specs.Rows.{row_at, rows_before, level_of}
use Rattle.message_lent_rules.specs.LentLaws.{too_deep, as_field, as_head, as_none}
use Rattle.message_allowed.specs.Branch.{tag_of}
use Rattle.message_allowed.specs.DistinctLaws.{same-latest, deepest-reach}
use Rattle.message_allowed.proofs.row_allowed.Goals as goal

pub returns-then-deepest_at-level : goal.returns-then-deepest_at-level
unfolding row_at level_of
returns-then-deepest_at-level c = sym (too_deep _ _ _ _ _ (omega (arith, c.deepest_at.ensures, c.level_of-level.ensures)))

pub field_allowed-requires : goal.field_allowed-requires
unfolding tag_of row_at
field_allowed-requires c = (
  c.requires.0,
  c.requires.1,
  c.requires.2,
  c.requires.3,
  omega (
    arith,
    c.if-deepest_at-level.false,
    c.deepest_at.ensures,
    deepest-reach (rows_before c.args.row c.args.words.now),
  ),
  c.requires.4 ∙ sym (same-latest (rows_before c.args.row c.args.words.now) c.level_of-level.ensures c.tag_of-tag.ensures),
)

pub returns-then-kind-eq1 : goal.returns-then-kind-eq1
unfolding row_at level_of
returns-then-kind-eq1 c = (rw (c.level_of-level.ensures, c.tag_of-tag.ensures) at c.field_allowed.ensures)
    ∙ sym (as_field _ _ _ _ _ (omega (arith, c.deepest_at.ensures, c.level_of-level.ensures))
    (sym c.kind_of-kind.ensures ∙ c.if-kind-eq1.true))

pub head_allowed-requires : goal.head_allowed-requires
unfolding tag_of row_at
head_allowed-requires c = (
  c.requires.0,
  c.requires.1,
  c.requires.2,
  c.requires.3,
  omega (arith, c.if-deepest_at-level.false, c.deepest_at.ensures, deepest-reach (rows_before c.args.row c.args.words.now)),
  c.requires.4 ∙ sym (same-latest (rows_before c.args.row c.args.words.now) c.level_of-level.ensures c.tag_of-tag.ensures),
)

pub returns-then-kind-eq2 : goal.returns-then-kind-eq2
unfolding row_at level_of
returns-then-kind-eq2 c = (rw (c.level_of-level.ensures, c.tag_of-tag.ensures, c.extra_of.ensures) at c.head_allowed.ensures)
    ∙ sym (as_head _ _ _ _ _ (omega (arith, c.deepest_at.ensures, c.level_of-level.ensures))
    (λ e. c.if-kind-eq1.false (c.kind_of-kind.ensures ∙ e)) (sym c.kind_of-kind.ensures ∙ c.if-kind-eq2.true))

pub returns : goal.returns
unfolding row_at level_of
returns c = sym (as_none _ _ _ _ _ (omega (arith, c.deepest_at.ensures, c.level_of-level.ensures))
    (λ e. c.if-kind-eq1.false (c.kind_of-kind.ensures ∙ e)) (λ e. c.if-kind-eq2.false (c.kind_of-kind.ensures ∙ e)))
