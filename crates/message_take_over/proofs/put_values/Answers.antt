-- `put_values` meets its contract: each value is copied behind those before it, and zeros behind them all.
use mathlib.Core.Path.{ap}
use native.Mathlib.Omega.{arith}
use lib.ListN.{length}
use Rattle.build_records.proofs.WordLaws.{records_length}
use Rattle.build_records.specs.declared.Record.{Record}
use Rattle.message_take_over.specs.Storing.{storing-start, storing_fits, storing-on, storing-done}
use Rattle.message_maps.specs.Rows.{part}
use Rattle.message_take_over.specs.Written.{written_part, filled-behind}
use Rattle.message_take_over.proofs.put_values.Goals as goal

pub loop-i-init : goal.loop-i-init
loop-i-init c = storing-start _ _ _ _ c.requires.2 c.requires.1

pub slice_bounds-copy_from_slice-end : goal.slice_bounds-copy_from_slice-end
slice_bounds-copy_from_slice-end c =
    let fits = storing_fits _ _ _ c.loop-i.invariant c.loop-i-test.true (omega (arith, c.requires.0, records_length c.args.records.now)) in
    let l = ap (λ (q : Record). q.length) c.record_at-taken.ensures in
    omega (arith, fits.1, l, c.loop-i.invariant.store)

pub slice_bounds-copy_from_slice-end-in-loop-i : goal.slice_bounds-copy_from_slice-end-in-loop-i
slice_bounds-copy_from_slice-end-in-loop-i c =
    let fits = storing_fits _ _ _ c.loop-i.invariant c.loop-i-test.true (omega (arith, c.requires.0, records_length c.args.records.now)) in
    let p = ap (λ (q : Record). q.place) c.record_at-taken.ensures in
    let l = ap (λ (q : Record). q.length) c.record_at-taken.ensures in
    omega (arith, fits.0, p, l)

pub loop-i-preserved : goal.loop-i-preserved
unfolding part
loop-i-preserved c =
    let fits = storing_fits _ _ _ c.loop-i.invariant c.loop-i-test.true (omega (arith, c.requires.0, records_length c.args.records.now)) in
    let p = ap (λ (q : Record). q.place) c.record_at-taken.ensures in
    let l = ap (λ (q : Record). q.length) c.record_at-taken.ensures in
    storing-on _ _ _ c.loop-i.invariant c.loop-i-test.true (omega (arith, c.requires.0, records_length c.args.records.now)) _ _ _ _ p l
    (omega arith) (written_part c.loop-i.used _ c.loop-i.values _ _ c.copy_from_slice.ensures.after (omega (arith, ap length c.copy_from_slice.ensures.after, c.copy_from_slice.ensures.len)) (omega (arith, fits.1, l, c.loop-i.invariant.store)))

pub returns : goal.returns
returns c = storing-done _ _ _ c.loop-i.invariant c.loop-i-test.false _
    (filled-behind 8192 c.loop-i.used c.loop-i.values c.fill.new.self c.loop-i.invariant.store c.loop-i.invariant.within (c.fill.ensures.after (λ _ e. e)))
