-- The run check and the entry check meet their contracts.
use Rattle.std.proofs.Common.{◌≤◌, length, sym, ◌∙◌, arith}
use Rattle.build_records.specs.Records.{records_of}
use Rattle.build_records.proofs.WordLaws.{records_length}
use Rattle.build_required_rules.specs.RequiredLaws.{else_missing, else_complete}
use Rattle.build_required.proofs.Turns.{run-deep, run-entries, entry_missing, entry-nested, nested-over-all, entries-over-all, entries_from, turn_empty, turn_plain, turn_run, turn_entry, end_fits}
use Rattle.build_required.proofs.+checking.Goals as goal

pub check_entry-returns-in_default : goal.check_entry-returns-in_default
check_entry-returns-in_default t c = entry_missing _ _ _ _ c.check_fields-own.ensures _ _ c.in_default.is

pub check_entry-loop-at-preserved-then-at-count : goal.check_entry-loop-at-preserved-then-at-count
check_entry-loop-at-preserved-then-at-count t c =
    let long : c.args.to ≤ length (records_of c.args.words.now) = omega (arith, records_length c.args.words.now, c.requires.0) in
    c.loop-at.invariant ∙ turn_empty _ c.args.group _ _ _ c.loop-at-test.true long _ c.run_end-at.ensures c.if-at-count.true

pub check_entry-loop-at-smaller-then-level-eq0 : goal.check_entry-loop-at-smaller-then-level-eq0
check_entry-loop-at-smaller-then-level-eq0 t c =
    omega (arith, (end_fits _ _ _ _ _ c.loop-at-test.true c.requires.0 c.run_end-at.ensures).0)

pub check_entry-loop-at-preserved-then-level-eq0 : goal.check_entry-loop-at-preserved-then-level-eq0
check_entry-loop-at-preserved-then-level-eq0 t c =
    let long : c.args.to ≤ length (records_of c.args.words.now) = omega (arith, records_length c.args.words.now, c.requires.0) in
    c.loop-at.invariant
    ∙ turn_plain _ _ _ _ _ c.loop-at-test.true long _ c.run_end-at.ensures _ c.record_at-found.ensures _ c.count_at-level.ensures c.if-level-eq0.true

pub check_entry-check_run-lack-requires : goal.check_entry-check_run-lack-requires
check_entry-check_run-lack-requires t c = (
  omega (arith, c.decreases, c.requires.1),
  (end_fits _ _ _ _ _ c.loop-at-test.true c.requires.0 c.run_end-at.ensures).1,
)

pub check_entry-loop-at-smaller : goal.check_entry-loop-at-smaller
check_entry-loop-at-smaller t c =
    omega (arith, (end_fits _ _ _ _ _ c.loop-at-test.true c.requires.0 c.run_end-at.ensures).0)

pub check_entry-loop-at-preserved : goal.check_entry-loop-at-preserved
check_entry-loop-at-preserved t c =
    let long : c.args.to ≤ length (records_of c.args.words.now) = omega (arith, records_length c.args.words.now, c.requires.0) in
    let turn = turn_run _ _ _ _ _ c.loop-at-test.true long _ c.run_end-at.ensures _ c.record_at-found.ensures _ c.count_at-level.ensures c.if-level-eq0.false _ c.check_run-lack.ensures in
    c.loop-at.invariant ∙ turn ∙ else_complete _ _ c.in-Complete-lack.is

pub check_entry-returns-in_default-lack : goal.check_entry-returns-in_default-lack
check_entry-returns-in_default-lack t c =
    let long : c.args.to ≤ length (records_of c.args.words.now) = omega (arith, records_length c.args.words.now, c.requires.0) in
    let whole = entry-nested _ _ _ _ c.check_fields-own.ensures c.in-Complete.is in
    let turn = turn_run _ _ _ _ _ c.loop-at-test.true long _ c.run_end-at.ensures _ c.record_at-found.ensures _ c.count_at-level.ensures c.if-level-eq0.false _ c.check_run-lack.ensures in
    sym (whole ∙ c.loop-at.invariant ∙ turn ∙ else_missing _ _ _ _ c.in_default-lack.is)

pub check_entry-returns : goal.check_entry-returns
check_entry-returns t c =
    let whole = entry-nested _ _ _ _ c.check_fields-own.ensures c.in-Complete.is in
    sym (whole ∙ c.loop-at.invariant ∙ nested-over-all _ c.args.group _ _ _ c.loop-at-test.false)

pub check_run-returns-then-group-gt-LEVELS : goal.check_run-returns-then-group-gt-LEVELS
check_run-returns-then-group-gt-LEVELS t c = sym (run-deep _ _ _ c.if-group-gt-LEVELS.true)

pub check_run-loop-at-init : goal.check_run-loop-at-init
check_run-loop-at-init t c =
    let long : c.args.to ≤ length (records_of c.args.words.now) = omega (arith, records_length c.args.words.now, c.requires) in
    let from = entries_from _ _ _ _ _ long _ c.entry_end-at.ensures in
    record { left = from.0; starts = from.1 }

pub check_run-check_entry-lack-requires : goal.check_run-check_entry-lack-requires
check_run-check_entry-lack-requires t c = (
  omega (arith, c.decreases),
  ((end_fits _ _ _ _ _ c.loop-at-test.true c.requires c.entry_end-at-in-loop-at.ensures).1, c.if-group-gt-LEVELS.false),
)

pub check_run-loop-at-smaller : goal.check_run-loop-at-smaller
check_run-loop-at-smaller t c =
    omega (arith, (end_fits _ _ _ _ _ c.loop-at-test.true c.requires c.entry_end-at-in-loop-at.ensures).0)

pub check_run-loop-at-preserved : goal.check_run-loop-at-preserved
check_run-loop-at-preserved t c =
    let i = c.loop-at.invariant in
    let long : c.args.to ≤ length (records_of c.args.words.now) = omega (arith, records_length c.args.words.now, c.requires) in
    let within = c.loop-at-test.true in
    let turn = turn_entry _ _ _ _ _ within long (i.starts within) _ c.entry_end-at-in-loop-at.ensures _ c.check_entry-lack.ensures in
    record {
      left = i.left ∙ turn ∙ else_complete _ _ c.in-Complete.is;
      starts = (entries_from _ _ _ _ _ long _ c.entry_end-at-in-loop-at.ensures).1;
    }

pub check_run-returns-in_default : goal.check_run-returns-in_default
check_run-returns-in_default t c =
    let i = c.loop-at.invariant in
    let long : c.args.to ≤ length (records_of c.args.words.now) = omega (arith, records_length c.args.words.now, c.requires) in
    let within = c.loop-at-test.true in
    let turn = turn_entry _ _ _ _ _ within long (i.starts within) _ c.entry_end-at-in-loop-at.ensures _ c.check_entry-lack.ensures in
    sym (run-entries _ _ _ c.if-group-gt-LEVELS.false ∙ i.left ∙ turn ∙ else_missing _ _ _ _ c.in_default.is)

pub check_run-returns : goal.check_run-returns
check_run-returns t c =
    sym (run-entries _ _ _ c.if-group-gt-LEVELS.false ∙ c.loop-at.invariant.left ∙ entries-over-all _ c.args.group _ _ _ c.loop-at-test.false)
