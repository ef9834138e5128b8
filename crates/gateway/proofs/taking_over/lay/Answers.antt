-- A lent record behind those that were put into the words.
use Rattle.std.proofs.Common.{ℕ, suc, ◌+◌, ◌≡◌, ◌∙◌, ap, sym, refl, arith, get_or}
use Rattle.build_records.specs.Records.{on_records, replaced}
use Rattle.face_messages.specs.Lent.{put_fields, record_of_lent, blank_field}
use Rattle.gateway.specs.TakingLaws.{put_next}
use Rattle.gateway.proofs.taking_over.lay.Goals as goal

pub loop-i-init : goal.loop-i-init
unfolding put_fields
loop-i-init c = refl

pub loop-i-preserved : goal.loop-i-preserved
loop-i-preserved c =
    let more : suc c.loop-i.i ≡ c.loop-i.i + 1 = omega arith in
    c.put_field.ensures ∙ ap (on_records (replaced c.loop-i.i (record_of_lent (get_or c.args.records.now c.loop-i.i blank_field)))) c.loop-i.invariant
    ∙ put_next c.args.records.now c.loop-i.i c.args.words.now ∙ ap (λ (i : ℕ). put_fields c.args.records.now i c.args.words.now) more
