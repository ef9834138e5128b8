use Rattle.std.proofs.Common.{◌≡◌, ℕ, sym, ap, ◌∙◌, arith}
use Rattle.build_records.proofs.WordLaws.{records_length}
use Rattle.build_records.specs.declared.Record.{Record}
use Rattle.build_parts.specs.Parts.{part_of}
use Rattle.build_body_rules.proofs.RunLaws.{behind-on, behind-here, behind-end}
use Rattle.build_body.proofs.run_end.Goals as goal

pub returns-then-found-eq0 : goal.returns-then-found-eq0
unfolding part_of
returns-then-found-eq0 c = record {
  behind = sym (c.loop-end.invariant ∙ behind-here _ _ _ (omega arith) (omega (arith, records_length c.args.words.now)) (ap (λ (r : Record). r.depth) (sym c.record_at-found.ensures) ∙ c.if-found-eq0.true));
  from = omega arith;
  to = omega arith;
}

pub loop-end-preserved : goal.loop-end-preserved
unfolding part_of
loop-end-preserved c =
    c.loop-end.invariant ∙ behind-on _ _ _ (omega arith) (omega (arith, records_length c.args.words.now)) (λ d. c.if-found-eq0.false (ap (λ (r : Record). r.depth) c.record_at-found.ensures ∙ d))

pub returns : goal.returns
unfolding part_of
returns c =
    let last : c.loop-end.end ≡ c.args.records = omega arith in
    record { behind = ap (λ (k : ℕ). part_of k c.args.records c.args.words.now) (sym last) ∙ sym (c.loop-end.invariant ∙ behind-end _ _ _ (omega arith)); from = omega arith; to = omega arith }
