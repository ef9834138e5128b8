use mathlib.Core.Path.{refl, sym, ap, ◌∙◌}
use native.Mathlib.Omega.{arith}
use Rattle.build_records.proofs.WordLaws.{records_length}
use Rattle.build_records.specs.declared.Record.{Record}
use Rattle.build_parts.specs.Parts.{part_of}
use Rattle.builder.proofs.HeadedLaws.{type-here, type-later, type-nowhere}
use Rattle.builder.proofs.finishing.msg_type_of.Goals as goal

pub loop-i-init : goal.loop-i-init
unfolding part_of
loop-i-init c = refl

pub returns-then-found-eq-MSG_TYPE : goal.returns-then-found-eq-MSG_TYPE
returns-then-found-eq-MSG_TYPE c = let e = c.record_at-found.ensures in
    e ∙ sym (c.loop-i.invariant ∙ type-here _ _ _ (omega arith) (omega (arith, records_length c.args.words.now)) (ap (λ (r : Record). r.tag) (sym e) ∙ c.if-found-eq-MSG_TYPE.true))

pub loop-i-preserved : goal.loop-i-preserved
loop-i-preserved c = let e = c.record_at-found.ensures in
    c.loop-i.invariant ∙ type-later _ _ _ (omega arith) (omega (arith, records_length c.args.words.now)) (λ t. c.if-found-eq-MSG_TYPE.false (ap (λ (r : Record). r.tag) e ∙ t))

pub returns : goal.returns
returns c = c.record_at.ensures ∙ sym (c.loop-i.invariant ∙ type-nowhere _ _ _ (omega arith) _ (omega (arith, records_length c.args.words.now)))
