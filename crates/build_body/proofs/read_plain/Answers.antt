-- `read_plain` meets its contract: the field is stored, and the next one read.
use mathlib.Core.Path.{◌≡◌, sym, ap, ◌∙◌}
use native.Mathlib.Omega.{arith}
use Rattle.build_records.specs.declared.Record.{Record}
use Rattle.build_parts.specs.Parts.{part_record, part_told}
use Rattle.build_parts.specs.PartLaws.{Taken, taken, stays-refused, stays_at}
use Rattle.build_body_rules.proofs.BodyLaws.{next_missing, next-found}
use Rattle.build_body_rules.specs.Seen.{noted}
use Rattle.build_body.proofs.read_plain.Goals as goal
use Rattle.build_body.proofs.read_plain.Goals.{In-Ok}

pub record_of-requires : goal.record_of-requires
record_of-requires c = (omega (arith, c.requires.message_len_bound.1.within), omega (arith, c.requires.message_len_bound.1.within))

pub keep-records-requires : goal.keep-records-requires
unfolding part_record
keep-records-requires c = record { from_le_records = (omega arith, omega arith, ap (λ (r : Record). r.depth) c.record_of.ensures); covers = c.requires.covers }

-- the next field
got : (c : In-Ok) → Taken c.args.config.mode c.args.message.now c.args.plain.next c.args.progress.room c.in-Ok.field
got c = taken _ _ _ _ _ (sym c.next_field.ensures ∙ c.in-Ok.is)

pub overflow_sub-result : goal.overflow_sub-result
overflow_sub-result c = omega (arith, (got (goal.at.overflow_sub-result c).In-Ok).one_less)

pub returns-in-Err : goal.returns-in-Err
unfolding part_told
returns-in-Err c =
    let seen : c.keep-records.new.seen ≡ noted c.args.plain.tag c.args.seen.now = unfold part_record in c.keep-records.ensures.seen_after ∙ ap (λ (r : Record). noted r.tag c.args.seen.now) c.record_of.ensures in
    record { words_after = sym (rw (← c.record_of.ensures, ← c.keep-records.ensures.kept.part) (next_missing _ _ _ _ _ _ (sym c.next_field.ensures ∙ c.in-Err.is))); stays = stays-refused _ _ _ _ _ c.keep-records.ensures.kept.before _; seen_after = seen }

pub returns-in-Ok : goal.returns-in-Ok
unfolding part_told
returns-in-Ok c =
    let seen : c.keep-records.new.seen ≡ noted c.args.plain.tag c.args.seen.now = unfold part_record in c.keep-records.ensures.seen_after ∙ ap (λ (r : Record). noted r.tag c.args.seen.now) c.record_of.ensures in
    record { words_after = sym (rw (← c.record_of.ensures, ← c.keep-records.ensures.kept.part) (next-found _ _ _ _ _ _ (sym c.next_field.ensures ∙ c.in-Ok.is))); stays = stays_at _ _ _ _ _ c.keep-records.ensures.kept.before _ _ (record { fits = omega (arith, (got (goal.at.returns-in-Ok c).In-Ok).one_less, c.keep-records.ensures.kept.by_one, c.requires.message_len_bound.3); inside = (got (goal.at.returns-in-Ok c).In-Ok).inside; starts = omega (arith, c.keep-records.ensures.kept.grows, c.requires.message_len_bound.2); falls = omega (arith, (got (goal.at.returns-in-Ok c).In-Ok).one_less) }); seen_after = seen }
