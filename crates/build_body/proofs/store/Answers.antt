-- `store` meets its contract: where the tag's cell is set the map is looked through, and where it isn't the record is the last.
-- Either way the cell is set then.
use mathlib.Core.Path.{refl, sym, ◌∙◌}
use native.Mathlib.Omega.{arith}
use Rattle.build_parts.specs.Parts.{part_of}
use Rattle.build_body_rules.specs.Seen.{is_seen, noted}
use Rattle.build_body_rules.proofs.SeenLaws.{noted_again, new-held, new-words}
use Rattle.build_body.proofs.store.Goals as goal

pub bounds-seen-cell : goal.bounds-seen-cell
bounds-seen-cell c = omega (arith, c.requires.covers.whole)

pub bounds-seen-cell-2 : goal.bounds-seen-cell-2
bounds-seen-cell-2 c = omega (arith, c.requires.covers.whole)

pub returns-then-seen-cell : goal.returns-then-seen-cell
unfolding part_of is_seen
returns-then-seen-cell c = record { value = c.store.ensures.value; words_after = c.store.ensures.words_after; seen_after = sym (noted_again _ _ c.if-seen-cell.true) }

pub returns : goal.returns
unfolding part_of is_seen noted
returns c = record { value = sym (new-held _ _ _ _ c.args.stored c.requires.covers c.requires.records_in_bounds.1 c.if-seen-cell.false); words_after = c.replace.ensures ∙ new-words _ _ _ _ _ c.requires.covers c.requires.records_in_bounds.1 c.if-seen-cell.false (omega arith); seen_after = refl }
