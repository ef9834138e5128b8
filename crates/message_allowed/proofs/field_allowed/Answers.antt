-- `field_allowed` meets its contract, by its three cases.
use borrow.Author.Tests.{eq-eqb, ne_eqb}
use Rattle.message_maps.specs.Rows.{rows_before}
use Rattle.message_allowed.specs.Distinct.{held}
use Rattle.message_allowed.specs.DistinctLaws.{field-held, not_pick}
use Rattle.message_allowed.proofs.field_allowed.Goals as goal

pub returns-then-level-eq0 : goal.returns-then-level-eq0
returns-then-level-eq0 c = rw (field-held (rows_before c.args.row c.args.words.now) c.args.level c.args.tag, eq-eqb _ 0 c.if-level-eq0.true)

pub returns-then-tag-eq0 : goal.returns-then-tag-eq0
returns-then-tag-eq0 c = rw (
  field-held (rows_before c.args.row c.args.words.now) c.args.level c.args.tag,
  ne_eqb _ 0 c.if-level-eq0.false,
  eq-eqb _ 0 c.if-tag-eq0.true,
)

pub returns : goal.returns
returns c = rw (
  field-held (rows_before c.args.row c.args.words.now) c.args.level c.args.tag,
  ne_eqb _ 0 c.if-level-eq0.false,
  ne_eqb _ 0 c.if-tag-eq0.false,
  c.is_held.ensures,
) (not_pick (held c.args.level c.args.tag (rows_before c.args.row c.args.words.now)))
