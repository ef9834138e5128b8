use Rattle.std.proofs.Common.{sym, ap, ◌∙◌, ⊎_elim, arith}
use Rattle.std.proofs.lemmas.Bool.{cases_lt}
use Rattle.build_records.proofs.WordLaws.{records_length}
use Rattle.build_records.specs.declared.Record.{Record}
use Rattle.build_records.proofs.RecordLaws.{held-here, held-shallow, held-other, held_past, held-end}
use Rattle.build_records.proofs.held.Goals as goal
use Rattle.build_records.proofs.held.Goals.{else-found-depth-via-then-found-depth+else-found-tag, else-found-depth-via-else-found-depth}

pub returns-then-found-tag : goal.returns-then-found-tag
returns-then-found-tag c = sym (c.loop-at.invariant ∙ held-here _ _ _ _ _ (omega arith) (omega (arith, records_length c.args.words.now))
    (ap (λ (r : Record). r.depth) (sym c.record_at-found.ensures) ∙ c.if-found-depth.true)
    (ap (λ (r : Record). r.tag) (sym c.record_at-found.ensures) ∙ c.if-found-tag.true))

pub loop-at-preserved : goal.loop-at-preserved
loop-at-preserved c = let e = c.record_at-found.ensures in
    let h = records_length c.args.words.now in
    c.loop-at.invariant
    ∙ elim c.else-found-depth.branch [
      | else-found-depth-via-then-found-depth+else-found-tag w ↦ held-other _ _ _ _ _ (omega arith) (omega (arith, h)) (λ t. w.if-found-tag.false (ap (λ (r : Record). r.tag) e ∙ t))
      | else-found-depth-via-else-found-depth w ↦ held-shallow _ _ _ _ _ (omega arith) (omega (arith, h)) (λ d. w.if-found-depth.false (ap (λ (r : Record). r.depth) e ∙ d))
    ]

-- the end is where the map ends, or where the words do
pub returns : goal.returns
returns c = sym (c.loop-at.invariant ∙ ⊎_elim
    (λ h. held_past _ _ _ _ _ (omega (arith, h, records_length c.args.words.now)))
    (λ h. held-end _ _ _ _ _ h)
    (cases_lt c.loop-at.at c.args.to))
