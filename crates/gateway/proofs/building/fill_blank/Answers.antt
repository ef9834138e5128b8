-- A blank record behind those that were stored, and all of them at the end.
use Rattle.std.proofs.Common.{ℕ, ◌≡◌, ◌-◌, ◌∙◌, ap, arith, set, List}
use Rattle.face_messages.specs.declared.FieldRecord.{FieldRecord}
use Rattle.face_messages.specs.Lent.{blank_field}
use Rattle.gateway.specs.FillingLaws.{blanks, blanks_at, blanks-all}
use Rattle.gateway.proofs.building.fill_blank.Goals as goal

pub loop-i-preserved : goal.loop-i-preserved
loop-i-preserved c =
    ap (λ (xs : List FieldRecord). set xs c.loop-i.i blank_field) c.loop-i.invariant
    ∙ blanks_at c.args.from c.args.written c.args.records.now c.requires.1 c.loop-i.i (omega arith) (omega arith)

pub returns : goal.returns
returns c =
    let e : c.loop-i.i ≡ c.args.written = omega arith in
    let blank_all =
    c.loop-i.invariant ∙ ap (λ (i : ℕ). blanks c.args.from c.args.written c.args.records.now (i - c.args.from)) e
    ∙ blanks-all c.args.from c.args.written c.args.records.now c.requires.0 in blank_all
