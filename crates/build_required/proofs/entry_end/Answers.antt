use Rattle.std.proofs.Common.{◌≡◌, sym, ap, ◌∙◌, arith}
use Rattle.build_records.proofs.WordLaws.{records_length}
use Rattle.build_required_rules.specs.Checking.{starts_at}
use Rattle.build_required_rules.specs.RequiredLaws.{end-here, end_later, end-over}
use Rattle.build_required.proofs.entry_end.Goals as goal

pub returns-then-starts : goal.returns-then-starts
returns-then-starts c = sym (c.loop-at.invariant.end ∙ end-here _ _ _ _ (omega arith) (omega (arith, records_length c.args.words.now)) (ap (starts_at c.args.table.now c.args.group) (sym c.record_at.ensures) ∙ sym c.starts.ensures ∙ c.if-starts.true))

pub loop-at-preserved : goal.loop-at-preserved
loop-at-preserved c = record {
  within = omega arith;
  end = c.loop-at.invariant.end ∙ end_later _ _ _ _ (omega arith) (omega (arith, records_length c.args.words.now)) (ap (starts_at c.args.table.now c.args.group) (sym c.record_at.ensures) ∙ sym c.starts.ensures ∙ c.if-starts.false);
}

pub returns : goal.returns
returns c =
    let last : c.max.result ≡ c.loop-at.at = omega (arith, c.max.ensures, c.loop-at.invariant.within, c.loop-at-test.false) in
    last ∙ sym (c.loop-at.invariant.end ∙ end-over _ _ _ _ c.loop-at-test.false)
