-- `head_allowed` meets its contract, by its five cases.
use mathlib.Core.Path.{sym, ◌∙◌}
use borrow.Author.Tests.{eq-eqb, ne_eqb}
use Rattle.message_maps.specs.Rows.{rows_before}
use Rattle.message_allowed.specs.DistinctLaws.{held-within, head_held}
use Rattle.message_allowed.proofs.head_allowed.Goals as goal

pub returns-then-level-eq0 : goal.returns-then-level-eq0
returns-then-level-eq0 c = rw (
  head_held (rows_before c.args.row c.args.words.now) c.args.level c.args.start c.args.delimiter,
  eq-eqb _ 0 c.if-level-eq0.true,
)

pub returns-then-start-eq0 : goal.returns-then-start-eq0
returns-then-start-eq0 c = rw (
  head_held (rows_before c.args.row c.args.words.now) c.args.level c.args.start c.args.delimiter,
  ne_eqb _ 0 c.if-level-eq0.false,
  eq-eqb _ 0 c.if-start-eq0.true,
)

pub returns-then-delimiter-eq0 : goal.returns-then-delimiter-eq0
returns-then-delimiter-eq0 c = rw (
  head_held (rows_before c.args.row c.args.words.now) c.args.level c.args.start c.args.delimiter,
  ne_eqb _ 0 c.if-level-eq0.false,
  ne_eqb _ 0 c.if-start-eq0.false,
  eq-eqb _ 0 c.if-delimiter-eq0.true,
)

pub follows_on-requires : goal.follows_on-requires
follows_on-requires c = (c.requires.0, c.requires.1, c.requires.2, c.requires.3, held-within c.args.level c.args.start _ (sym c.is_held.ensures ∙ c.if-is_held.true))

pub returns-then-is_held : goal.returns-then-is_held
returns-then-is_held c = rw (
  head_held (rows_before c.args.row c.args.words.now) c.args.level c.args.start c.args.delimiter,
  ne_eqb _ 0 c.if-level-eq0.false,
  ne_eqb _ 0 c.if-start-eq0.false,
  ne_eqb _ 0 c.if-delimiter-eq0.false,
  sym c.is_held.ensures
      ∙ c.if-is_held.true,
) c.follows_on.ensures

pub returns : goal.returns
returns c = rw (
  head_held (rows_before c.args.row c.args.words.now) c.args.level c.args.start c.args.delimiter,
  ne_eqb _ 0 c.if-level-eq0.false,
  ne_eqb _ 0 c.if-start-eq0.false,
  ne_eqb _ 0 c.if-delimiter-eq0.false,
  sym c.is_held.ensures ∙ c.if-is_held.false,
)
