use Rattle.std.proofs.Common.{◌≡◌, sym, ap, ◌∙◌, arith}
use Rattle.build_records.proofs.WordLaws.{records_length}
use Rattle.build_required_rules.specs.Required.{shallow}
use Rattle.build_required_rules.specs.RequiredLaws.{end-here, end_later, end-over, shallow-here, shallow_not}
use Rattle.build_required.proofs.run_end.Goals as goal

pub returns-then-record_at-depth : goal.returns-then-record_at-depth
returns-then-record_at-depth c = sym (c.loop-at.invariant.end ∙ end-here _ _ _ _ (omega arith) (omega (arith, records_length c.args.words.now)) (ap (shallow c.args.depth) (sym c.record_at.ensures) ∙ shallow-here _ _ c.if-record_at-depth.true))

pub loop-at-preserved : goal.loop-at-preserved
loop-at-preserved c = record {
  within = omega arith;
  end = c.loop-at.invariant.end ∙ end_later _ _ _ _ (omega arith) (omega (arith, records_length c.args.words.now)) (ap (shallow c.args.depth) (sym c.record_at.ensures) ∙ shallow_not _ _ c.if-record_at-depth.false);
}

pub returns : goal.returns
returns c =
    let last : c.max.result ≡ c.loop-at.at = omega (arith, c.max.ensures, c.loop-at.invariant.within, c.loop-at-test.false) in
    last ∙ sym (c.loop-at.invariant.end ∙ end-over _ _ _ _ c.loop-at-test.false)
