use mathlib.Core.Path.{◌≡◌, sym, ap, ◌∙◌}
use native.Mathlib.Omega.{arith}
use lib.ListN.{length}
use Rattle.dictionary_chains.specs.Chain.{index_words}
use Rattle.dictionary_rules.specs.Record.{record_at}
use Rattle.dictionary_rules.specs.RecordsLaws.{record_falls}
use Rattle.dictionary_rules.specs.declared.RecordRead.TheVariants.{Whole}
use Rattle.dictionary_rules.specs.Check.{outcome}
use Rattle.dictionary_rules.specs.CheckLaws.{walk_end, walk-bad, walk-refuses}
use Rattle.dictionary_rules.specs.Passing.{Passed}
use Rattle.dictionary_rules.proofs.PassingLaws.{passed_none, passed_on, passed-step}
use Rattle.dictionary_rules.specs.declared.State.TheVariants.{TopLevel}
use Rattle.dictionary_check.proofs.walk.Goals as goal
use Rattle.dictionary_check.proofs.walk.Goals.{After-pass-reached, In-Whole}

pub loop-index-init : goal.loop-index-init
loop-index-init c = (c.requires.1, passed_none (omega arith))

pub pass-reached-requires : goal.pass-reached-requires
pass-reached-requires c = (c.loop-index.invariant.1.within, c.requires.0, c.loop-index.invariant.0)

-- what was passed up to the record that is looked at
reached : (c : After-pass-reached) → let index = c.pass-reached.new.index in
    (length index ≡ index_words) × (Passed c.args.dictionary.now 0 TopLevel c.args.index.now c.pass-reached.result.at c.pass-reached.result.state index)
reached c = (c.pass-reached.auto.index ∙ c.loop-index.invariant.0, passed_on c.loop-index.invariant.1 c.pass-reached.ensures)

-- a whole record there
whole-at : (c : In-Whole) → record_at c.args.dictionary.now c.pass-reached.result.at ≡ Whole c.in-Whole.read c.in-Whole.behind
whole-at c = sym c.record_at.ensures ∙ c.in-Whole.is

pub at_end-requires : goal.at_end-requires
at_end-requires c = (reached (goal.at.at_end-requires c).After-pass-reached).0

pub returns-in-End : goal.returns-in-End
returns-in-End c =
    ap (λ x. outcome x c.pass-reached.new.index) c.at_end.ensures
    ∙ sym ((reached (goal.at.returns-in-End c).After-pass-reached).1.same ∙ walk_end _ _ _ _ _ _ (sym c.record_at.ensures ∙ c.in-End.is))

pub returns-in-Bad : goal.returns-in-Bad
returns-in-Bad c =
    sym ((reached (goal.at.returns-in-Bad c).After-pass-reached).1.same ∙ walk-bad _ _ _ _ _ _ (sym c.record_at.ensures ∙ c.in-Bad.is))

pub step_of-requires : goal.step_of-requires
step_of-requires c = (reached (goal.at.step_of-requires c).After-pass-reached).0

pub returns-in-Err : goal.returns-in-Err
returns-in-Err c =
    sym ((reached (goal.at.returns-in-Err c).After-pass-reached).1.same ∙ walk-refuses _ _ _ _ _ _ _ _ _ (whole-at (goal.at.returns-in-Err c).In-Whole) (rw c.step_of.ensures at c.in-Err.is))

pub take_note-requires : goal.take_note-requires
take_note-requires c = (reached (goal.at.take_note-requires c).After-pass-reached).0

pub loop-index-smaller : goal.loop-index-smaller
loop-index-smaller c =
    omega (arith, c.pass-reached.ensures.onward, record_falls _ _ _ _ (whole-at (goal.at.loop-index-smaller c).In-Whole))

pub loop-index-preserved : goal.loop-index-preserved
loop-index-preserved c =
    let step = rw c.step_of.ensures at c.in-Ok.is in (
      c.take_note.auto.index ∙ (reached (goal.at.loop-index-preserved c).After-pass-reached).0,
      passed_on (reached (goal.at.loop-index-preserved c).After-pass-reached).1 (rw c.take_note.ensures (passed-step (whole-at (goal.at.loop-index-preserved c).In-Whole) step)),
    )
