-- `lay_record` meets its contract: a record that may not come next is refused before anything is laid.
use mathlib.Core.Path.{refl, sym, ap, ◌∙◌}
use native.Mathlib.Omega.{arith}
use Rattle.message_take_over.specs.Taking.{is_joined}
use Rattle.message_take_over.specs.StepLaws.{room-both, joined-reach, next-back, next-fourth, next-crowded, next-joined, step-refused, step-laid}
use Rattle.build_records.specs.Records.{records_of, record_at}
use Rattle.message_take_over.specs.Taking.{records_before}
use Rattle.message_take_over.proofs.lay_record.Goals as goal

pub returns-then-taken-laying : goal.returns-then-taken-laying
returns-then-taken-laying c = record { value = (step-refused c.args.size (records_before c.args.at (records_of c.args.records.now)) c.args.laying c.record_at-taken.result (record_at c.args.at (records_of c.args.records.now)) c.args.words.now c.record_at-taken.ensures (next-back _ _ _ _ _ c.if-taken-laying.true)).0; adds_rows = (step-refused c.args.size (records_before c.args.at (records_of c.args.records.now)) c.args.laying c.record_at-taken.result (record_at c.args.at (records_of c.args.records.now)) c.args.words.now c.record_at-taken.ensures (next-back _ _ _ _ _ c.if-taken-laying.true)).1 }

pub returns-then-taken-gt3 : goal.returns-then-taken-gt3
returns-then-taken-gt3 c = record { value = (step-refused c.args.size (records_before c.args.at (records_of c.args.records.now)) c.args.laying c.record_at-taken.result (record_at c.args.at (records_of c.args.records.now)) c.args.words.now c.record_at-taken.ensures (next-fourth _ _ _ _ _ c.if-taken-gt3.true)).0; adds_rows = (step-refused c.args.size (records_before c.args.at (records_of c.args.records.now)) c.args.laying c.record_at-taken.result (record_at c.args.at (records_of c.args.records.now)) c.args.words.now c.record_at-taken.ensures (next-fourth _ _ _ _ _ c.if-taken-gt3.true)).1 }

pub has_room-requires : goal.has_room-requires
has_room-requires c = c.requires.0.within

pub returns-then-not-has_room : goal.returns-then-not-has_room
returns-then-not-has_room c = record {
  value = (step-refused c.args.size (records_before c.args.at (records_of c.args.records.now)) c.args.laying c.record_at-taken.result (record_at c.args.at (records_of c.args.records.now)) c.args.words.now c.record_at-taken.ensures
      (next-crowded _ _ _ _ _ c.if-taken-laying.false c.if-taken-gt3.false (sym c.has_room.ensures ∙ c.if-not-has_room.true))).0;
  adds_rows = (step-refused c.args.size (records_before c.args.at (records_of c.args.records.now)) c.args.laying c.record_at-taken.result (record_at c.args.at (records_of c.args.records.now)) c.args.words.now c.record_at-taken.ensures
      (next-crowded _ _ _ _ _ c.if-taken-laying.false c.if-taken-gt3.false (sym c.has_room.ensures ∙ c.if-not-has_room.true))).1;
}

pub returns-then-not-is_joined : goal.returns-then-not-is_joined
returns-then-not-is_joined c = record {
  value = (step-refused c.args.size (records_before c.args.at (records_of c.args.records.now)) c.args.laying c.record_at-taken.result (record_at c.args.at (records_of c.args.records.now)) c.args.words.now c.record_at-taken.ensures
      (next-joined _ _ _ _ _ c.if-taken-laying.false c.if-taken-gt3.false (sym c.has_room.ensures ∙ c.if-not-has_room.false)
      ∙ ap is_joined (sym c.joins_of-joined.ensures) ∙ sym c.is_joined.ensures ∙ c.if-not-is_joined.true)).0;
  adds_rows = (step-refused c.args.size (records_before c.args.at (records_of c.args.records.now)) c.args.laying c.record_at-taken.result (record_at c.args.at (records_of c.args.records.now)) c.args.words.now c.record_at-taken.ensures
      (next-joined _ _ _ _ _ c.if-taken-laying.false c.if-taken-gt3.false (sym c.has_room.ensures ∙ c.if-not-has_room.false)
      ∙ ap is_joined (sym c.joins_of-joined.ensures) ∙ sym c.is_joined.ensures ∙ c.if-not-is_joined.true)).1;
}

pub lay_rows-rows-requires : goal.lay_rows-rows-requires
lay_rows-rows-requires c = let reached =
    joined-reach _ _ (ap is_joined (sym c.joins_of-joined.ensures) ∙ sym c.is_joined.ensures
    ∙ c.if-not-is_joined.false) in
    (omega arith, omega arith, omega (arith, c.requires.0.few), omega (arith, reached, c.requires.0.shallow), c.requires.0.whole)

pub overflow_add-result : goal.overflow_add-result
overflow_add-result c = let room = room-both _ _ _ (sym c.has_room.ensures ∙ c.if-not-has_room.false) in
    omega (arith, room.1)

pub shape_of-words : goal.shape_of-words
shape_of-words c = c.lay_rows-rows.ensures.whole

pub returns : goal.returns
returns c = let next =
    next-joined _ _ _ _ _ c.if-taken-laying.false c.if-taken-gt3.false (sym c.has_room.ensures ∙ c.if-not-has_room.false) ∙ ap is_joined (sym c.joins_of-joined.ensures)
    ∙ sym c.is_joined.ensures ∙ c.if-not-is_joined.false in
    record { value = (step-laid _ _ _ _ _ _ _ _ _ _ c.record_at-taken.ensures c.joins_of-joined.ensures refl next c.lay_rows-rows.ensures).0; adds_rows = (step-laid _ _ _ _ _ _ _ _ _ _ c.record_at-taken.ensures c.joins_of-joined.ensures refl next c.lay_rows-rows.ensures).1 }
