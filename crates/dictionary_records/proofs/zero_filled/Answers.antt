use Rattle.std.proofs.Common.{sym, ◌∙◌}
use Rattle.dictionary_rules.specs.RecordLaws.{fill_zero, fill_text, fill_after, fill_end}
use Rattle.dictionary_records.proofs.zero_filled.Goals as goal
use Rattle.dictionary_records.proofs.zero_filled.Goals.{then-byte-eq0, else-byte-eq0+else-ended}

pub returns-then-ended : goal.returns-then-ended
returns-then-ended c = sym (c.loop-byte.invariant ∙ fill_after _ _ _ c.loop-byte-test.true c.if-byte-eq0.false c.if-ended.true)

pub loop-byte-preserved : goal.loop-byte-preserved
loop-byte-preserved c =
    let here = c.loop-byte-test.true in
    c.loop-byte.invariant
    ∙ elim c.if-byte-eq0.branch [
      | then-byte-eq0 w ↦ fill_zero _ _ _ here w.if-byte-eq0.true ∙ rw w.ended-is
      | else-byte-eq0+else-ended w ↦ fill_text _ _ _ here w.if-byte-eq0.false w.if-ended.false ∙ rw w.ended-is
    ]

pub returns : goal.returns
returns c = sym (c.loop-byte.invariant ∙ fill_end _ _ _ c.loop-byte-test.false)
