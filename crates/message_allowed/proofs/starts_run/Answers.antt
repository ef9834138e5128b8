-- `starts_run` meets its contract, by its three cases.
use mathlib.Core.Path.{sym, ap, ◌∙◌}
use mathlib.Core.Bool.{not}
use native.Mathlib.Omega.{arith}
use Rattle.message_maps.specs.Rows.{row_at, rows_before, level_of}
use Rattle.message_allowed.specs.Branch.{tag_of}
use Rattle.message_allowed.specs.DistinctLaws.{same-latest, starts_none, starts-part, starts-held}
use Rattle.message_allowed.proofs.starts_run.Goals as goal

pub returns-then-kind_of-ne2 : goal.returns-then-kind_of-ne2
unfolding row_at
returns-then-kind_of-ne2 c = sym (starts_none _ _ _ _ _ (λ e. c.if-kind_of-ne2.true (c.kind_of.ensures ∙ e)))

pub returns-then-level-eq0 : goal.returns-then-level-eq0
unfolding row_at level_of
returns-then-level-eq0 c = sym (starts-part _ _ _ _ _ (sym c.kind_of.ensures ∙ c.if-kind_of-ne2.false)
    (sym c.level_of-level.ensures ∙ c.if-level-eq0.true))

pub is_held-requires : goal.is_held-requires
unfolding tag_of row_at
is_held-requires c = (
  c.requires.0,
  c.requires.1,
  c.requires.2,
  c.requires.3,
  omega (arith, c.requires.4, c.level_of-level.ensures),
  c.requires.5 ∙ sym (same-latest (rows_before c.args.row c.args.words.now) c.level_of-level.ensures c.tag_of-tag.ensures),
)

pub returns : goal.returns
unfolding row_at level_of
returns c = ap not (rw (c.level_of-level.ensures, c.tag_of-tag.ensures) at c.is_held.ensures)
    ∙ sym (starts-held _ _ _ _ _ (sym c.kind_of.ensures ∙ c.if-kind_of-ne2.false) (λ e. c.if-level-eq0.false (c.level_of-level.ensures ∙ e)))
