-- What is shown stands at the start, and blank records behind it.
use Rattle.std.proofs.Common.{ℕ, ◌≡◌, ◌∙◌, ap, arith, List}
use Rattle.face_messages.specs.declared.FieldRecord.{FieldRecord}
use Rattle.face_messages.specs.Lent.{field_record_at, filled, blanked}
use Rattle.gateway.specs.Sets.{sets, sets-part}
use Rattle.gateway.specs.FillingLaws.{filled-blanked}
use Rattle.gateway.proofs.building.fill.Goals as goal

pub returns : goal.returns
unfolding filled
returns c =
    let e : c.loop-i.i ≡ c.min-count.result = omega arith in
    c.fill_blank.ensures
    ∙ ap (blanked c.min-count.result c.args.written)
    (c.loop-i.invariant ∙ ap (sets (field_record_at c.args.words.now c.args.shown) c.args.records.now) e
    ∙ sets-part (field_record_at c.args.words.now c.args.shown) c.args.records.now c.min-count.result (omega arith))
    ∙ filled-blanked c.args.words.now c.args.shown c.args.written c.args.records.now c.min-count.result c.min-count.ensures c.requires
