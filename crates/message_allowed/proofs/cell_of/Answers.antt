use mathlib.Core.Path.{refl, sym, ◌∙◌}
use native.Mathlib.Omega.{arith}
use Rattle.message_allowed.proofs.KnownLaws.{way_start, way_end, way_small, way_few, way_rise, way_hit, way_on}
use Rattle.message_allowed.proofs.cell_of.Goals as goal

pub bounds-table-cell : goal.bounds-table-cell
bounds-table-cell c = omega (arith, c.bucket_of-cell.ensures.upper_bound)

pub loop-link-init : goal.loop-link-init
loop-link-init c =
    let way = way_start c.args.table.now c.args.words.now c.args.row c.args.level c.args.tag c.requires.3 (omega (arith, c.requires.0)) _ _ c.bucket_of-cell.ensures.value c.rest_of-rest.ensures in
    (way, refl, way_few c.args.table.now c.args.words.now c.args.row c.args.level c.args.tag c.requires.3 (omega (arith, c.requires.0)) _ _ _ way refl)

pub returns-then-is_tagged : goal.returns-then-is_tagged
returns-then-is_tagged c = record {
  value = sym (way_hit c.args.table.now c.args.words.now c.args.row c.args.level c.args.tag c.requires.3 (omega (arith, c.requires.0))
      c.loop-link.cell c.loop-link.rest c.loop-link.link c.loop-link.invariant.0 c.loop-link.invariant.1 c.loop-link-test.true
      (sym c.is_tagged.ensures ∙ c.if-is_tagged.true));
  upper_bound = omega (
    arith,
    (way_rise c.args.table.now c.args.words.now c.args.row c.args.level c.args.tag c.requires.3 (omega (arith, c.requires.0))
        c.loop-link.cell c.loop-link.rest c.loop-link.link c.loop-link.invariant.0 c.loop-link.invariant.1 c.loop-link-test.true).1,
  );
}

pub bounds-table-cell-in-loop-link : goal.bounds-table-cell-in-loop-link
bounds-table-cell-in-loop-link c = omega (
  arith,
  (way_rise c.args.table.now c.args.words.now c.args.row c.args.level c.args.tag c.requires.3 (omega (arith, c.requires.0))
      c.loop-link.cell c.loop-link.rest c.loop-link.link c.loop-link.invariant.0 c.loop-link.invariant.1 c.loop-link-test.true).1,
)

pub loop-link-smaller : goal.loop-link-smaller
loop-link-smaller c = omega (
  arith,
  (way_rise c.args.table.now c.args.words.now c.args.row c.args.level c.args.tag c.requires.3 (omega (arith, c.requires.0))
      c.loop-link.cell c.loop-link.rest c.loop-link.link c.loop-link.invariant.0 c.loop-link.invariant.1 c.loop-link-test.true).0,
  (way_rise c.args.table.now c.args.words.now c.args.row c.args.level c.args.tag c.requires.3 (omega (arith, c.requires.0))
      c.loop-link.cell c.loop-link.rest c.loop-link.link c.loop-link.invariant.0 c.loop-link.invariant.1 c.loop-link-test.true).1,
)

pub loop-link-preserved : goal.loop-link-preserved
loop-link-preserved c =
    let way =
    way_on c.args.table.now c.args.words.now c.args.row c.args.level c.args.tag c.requires.3 (omega (arith, c.requires.0)) c.loop-link.cell c.loop-link.rest c.loop-link.link c.loop-link.invariant.0 c.loop-link.invariant.1 c.loop-link-test.true
    (sym c.is_tagged.ensures ∙ c.if-is_tagged.false) in
    (way, refl, way_few c.args.table.now c.args.words.now c.args.row c.args.level c.args.tag c.requires.3 (omega (arith, c.requires.0)) _ _ _ way refl)

pub returns : goal.returns
returns c = record {
  value = sym (way_end c.args.table.now c.args.words.now c.args.row c.args.level c.args.tag c.requires.3 (omega (arith, c.requires.0))
      c.loop-link.cell c.loop-link.rest c.loop-link.link c.loop-link.invariant.0 c.loop-link.invariant.1 c.loop-link-test.false);
  upper_bound = way_small c.args.table.now c.args.words.now c.args.row c.args.level c.args.tag c.requires.3 (omega (arith, c.requires.0))
      c.loop-link.cell c.loop-link.rest c.loop-link.link c.loop-link.invariant.0 c.loop-link.invariant.1;
}
