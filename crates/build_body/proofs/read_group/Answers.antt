-- `read_group` meets its contract: the count is stored, its run read in behind it, and its entries checked. At each station a lemma keeps
-- what the run came to; each return cites the law of its way.
use mathlib.Core.Path.{◌≡◌, ap, ◌∙◌}
use Prim.Native.Nat.{◌+◌, ◌/◌, ◌≤◌}
use native.Mathlib.Omega.{arith}
use lib.ListN.{length}
use Rattle.build_records.specs.Records.{stride}
use Rattle.build_records.specs.declared.Record.{Record}
use Rattle.build_group_rules.specs.Reading.{Fits}
use Rattle.build_parts.specs.Parts.{part_record}
use Rattle.build_body_rules.specs.Seen.{noted}
use Rattle.build_body_rules.proofs.GroupReading.{run_fits, answers-stopped, answers_lack, answers-complete}
use Rattle.build_body.proofs.read_group.Goals as goal

pub record_of-requires : goal.record_of-requires
record_of-requires c = (omega (arith, c.requires.message_len_bound.1.within), omega (arith, c.requires.message_len_bound.1.within))

pub open_run-opening-requires : goal.open_run-opening-requires
unfolding part_record
open_run-opening-requires c = record { from_le_records = (c.requires.message_len_bound.2, omega (arith, c.requires.message_len_bound.3), ap (λ (r : Record). r.depth) c.record_of.ensures); covers = c.requires.covers }

pub read_run-requires : goal.read_run-requires
read_run-requires c =
    let fits : Fits c.args.message.now (record { room = c.args.progress.room; records = c.open_run-opening.result.records; place = c.open_run-opening.result.place }) = record { short = c.requires.message_len_bound.0; counted = omega (arith, c.open_run-opening.ensures.opened.by_one, c.requires.message_len_bound.3, c.requires.message_len_bound.4); placed = omega (arith, c.open_run-opening.ensures.opened.by_one, c.open_run-opening.ensures.opened.within, c.requires.message_len_bound.3, c.requires.message_len_bound.4) } in
    record { fits = fits; index_len = c.requires.index_len }

pub check_run-requires : goal.check_run-requires
check_run-requires c =
    let fits : Fits c.args.message.now (record { room = c.args.progress.room; records = c.open_run-opening.result.records; place = c.open_run-opening.result.place }) = record { short = c.requires.message_len_bound.0; counted = omega (arith, c.open_run-opening.ensures.opened.by_one, c.requires.message_len_bound.3, c.requires.message_len_bound.4); placed = omega (arith, c.open_run-opening.ensures.opened.by_one, c.open_run-opening.ensures.opened.within, c.requires.message_len_bound.3, c.requires.message_len_bound.4) } in
    let words_left : c.open_run-opening.result.records + c.args.progress.room ≤ length c.open_run-opening.new.words / stride = omega (arith, c.open_run-opening.ensures.opened.by_one, c.open_run-opening.auto.words, c.requires.message_len_bound.3) in
    run_fits _ _ _ _ _ _ _ _ _ _ _ _ _ _ _ c.open_run-opening.ensures.opened c.open_run-opening.auto.words c.read_run.auto.words (words_left) (fits) _ _ _ c.in-Ok.is c.read_run.ensures

pub returns-in-Err : goal.returns-in-Err
returns-in-Err c =
    let seen : c.open_run-opening.new.seen ≡ noted c.args.count.tag c.args.seen.now = unfold part_record in c.open_run-opening.ensures.seen_after ∙ ap (λ (r : Record). noted r.tag c.args.seen.now) c.record_of.ensures in
    let words_left : c.open_run-opening.result.records + c.args.progress.room ≤ length c.open_run-opening.new.words / stride = omega (arith, c.open_run-opening.ensures.opened.by_one, c.open_run-opening.auto.words, c.requires.message_len_bound.3) in
    let a = answers-stopped _ _ _ _ _ _ _ _ _ _ _ _ _ _ _ c.open_run-opening.ensures.opened c.open_run-opening.auto.words c.read_run.auto.words (words_left) _ c.record_of.ensures _ _ c.in-Err.is c.read_run.ensures in
    record { words_after = rw c.answer_of.ensures (a.0); stays = rw c.answer_of.ensures (a.1); seen_after = seen }

pub returns-in-Missing : goal.returns-in-Missing
returns-in-Missing c =
    let seen : c.open_run-opening.new.seen ≡ noted c.args.count.tag c.args.seen.now = unfold part_record in c.open_run-opening.ensures.seen_after ∙ ap (λ (r : Record). noted r.tag c.args.seen.now) c.record_of.ensures in
    let fits : Fits c.args.message.now (record { room = c.args.progress.room; records = c.open_run-opening.result.records; place = c.open_run-opening.result.place }) = record { short = c.requires.message_len_bound.0; counted = omega (arith, c.open_run-opening.ensures.opened.by_one, c.requires.message_len_bound.3, c.requires.message_len_bound.4); placed = omega (arith, c.open_run-opening.ensures.opened.by_one, c.open_run-opening.ensures.opened.within, c.requires.message_len_bound.3, c.requires.message_len_bound.4) } in
    let words_left : c.open_run-opening.result.records + c.args.progress.room ≤ length c.open_run-opening.new.words / stride = omega (arith, c.open_run-opening.ensures.opened.by_one, c.open_run-opening.auto.words, c.requires.message_len_bound.3) in
    let a = answers_lack _ _ _ _ _ _ _ _ _ _ _ _ _ _ _ c.open_run-opening.ensures.opened c.open_run-opening.auto.words c.read_run.auto.words (words_left) (fits) _ _ _ c.in-Ok.is c.read_run.ensures _ c.record_of.ensures _ c.check_run.ensures _ _ c.in-Missing.is in
    record { words_after = a.0; stays = a.1; seen_after = seen }

pub returns-in-Complete : goal.returns-in-Complete
returns-in-Complete c =
    let seen : c.open_run-opening.new.seen ≡ noted c.args.count.tag c.args.seen.now = unfold part_record in c.open_run-opening.ensures.seen_after ∙ ap (λ (r : Record). noted r.tag c.args.seen.now) c.record_of.ensures in
    let fits : Fits c.args.message.now (record { room = c.args.progress.room; records = c.open_run-opening.result.records; place = c.open_run-opening.result.place }) = record { short = c.requires.message_len_bound.0; counted = omega (arith, c.open_run-opening.ensures.opened.by_one, c.requires.message_len_bound.3, c.requires.message_len_bound.4); placed = omega (arith, c.open_run-opening.ensures.opened.by_one, c.open_run-opening.ensures.opened.within, c.requires.message_len_bound.3, c.requires.message_len_bound.4) } in
    let words_left : c.open_run-opening.result.records + c.args.progress.room ≤ length c.open_run-opening.new.words / stride = omega (arith, c.open_run-opening.ensures.opened.by_one, c.open_run-opening.auto.words, c.requires.message_len_bound.3) in
    let a = answers-complete _ _ _ _ _ _ _ _ _ _ _ _ _ _ _ c.open_run-opening.ensures.opened c.open_run-opening.auto.words c.read_run.auto.words (words_left) (fits) _ _ _ c.in-Ok.is c.read_run.ensures _ c.record_of.ensures _ c.check_run.ensures c.in-Complete.is in
    record { words_after = a.0; stays = a.1; seen_after = seen }
