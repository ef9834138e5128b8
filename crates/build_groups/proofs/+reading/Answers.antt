-- The run reader and the entry reader meet their contracts.
use Rattle.std.proofs.Common.{◌≡◌, suc, refl, sym, ap, ◌∙◌, arith}
use Rattle.build_group_rules.proofs.ReadingLaws.{room_of, makes_one, next_follows}
use Rattle.build_groups.proofs.Turns.{run-starts, entry-starts, left-refused, left-ends, left-wrong, turn_joins, turn_plain, turn_count, turn_entry, left-first, left_over, count-below, entry_follows, room_falls, stored_fits, stored_follows, count_follows}
use Rattle.build_groups.proofs.+reading.Goals as goal

pub read_entry-loop-reading-init : goal.read_entry-loop-reading-init
read_entry-loop-reading-init t c = record {
  fits = (stored_follows _ _ _ _ _ _ 1 _ (omega arith) c.requires.fits_at c.add-begun.ensures.value c.next_field-reading.ensures).fits;
  left = refl;
}

pub read_entry-returns-in_default : goal.read_entry-returns-in_default
read_entry-returns-in_default t c =
    left-refused _ _ _ _ _ _ _ _ c.in_default.is
    ∙ sym (entry-starts _ _ _ _ _ _ _ _ _ _ _ _ _ c.record_of.ensures c.add-begun.ensures.value c.add-begun.ensures.words_after c.next_field-reading.ensures ∙ c.loop-reading.invariant.left)

pub read_entry-loop-reading-smaller-in-Plain : goal.read_entry-loop-reading-smaller-in-Plain
read_entry-loop-reading-smaller-in-Plain t c =
    let fits = c.loop-reading.invariant.fits _ _ c.in-Ok.is in
    room_falls _ _ _ _ _ c.in-Ok.is (stored_follows _ _ _ _ _ _ 1 _ (omega arith) fits c.add-stored.ensures.value c.next_field-reading-in-Plain.ensures)

pub read_entry-loop-reading-preserved-in-Plain : goal.read_entry-loop-reading-preserved-in-Plain
read_entry-loop-reading-preserved-in-Plain t c =
    let i = c.loop-reading.invariant in
    record {
      fits = (stored_follows _ _ _ _ _ _ 1 _ (omega arith) (i.fits _ _ c.in-Ok.is) c.add-stored.ensures.value c.next_field-reading-in-Plain.ensures).fits;
      left = i.left ∙ turn_plain _ _ _ _ _ _ _ _ _ _ c.in-Ok.is _ _ _ c.kind_of.ensures _ c.record_of-record.ensures _ _ _
          c.add-stored.ensures.value c.add-stored.ensures.words_after _ c.in-Plain.is c.next_field-reading-in-Plain.ensures;
    }

pub read_entry-overflow_add-nested : goal.read_entry-overflow_add-nested
read_entry-overflow_add-nested t c = omega (arith, count-below _ _ _ _ _ _ _ _ _ c.kind_of.ensures c.in-Count.is)

pub read_entry-read_run-reading-requires : goal.read_entry-read_run-reading-requires
read_entry-read_run-reading-requires t c = (
  omega (arith, count-below _ _ _ _ _ _ _ _ _ c.kind_of.ensures c.in-Count.is, c.decreases),
  (stored_fits _ _ _ _ 1 (omega arith) (c.loop-reading.invariant.fits _ _ c.in-Ok.is) c.add-stored-in-Count.ensures.value, c.requires.index_len),
)

pub read_entry-loop-reading-smaller-in-Count : goal.read_entry-loop-reading-smaller-in-Count
read_entry-loop-reading-smaller-in-Count t c =
    let fits = c.loop-reading.invariant.fits _ _ c.in-Ok.is in
    room_falls _ _ _ _ _ c.in-Ok.is (count_follows _ _ _ _ _ _ _ _ _ fits c.add-stored-in-Count.ensures.value _ _ c.read_run-reading.ensures)

pub read_entry-loop-reading-preserved-in-Count : goal.read_entry-loop-reading-preserved-in-Count
read_entry-loop-reading-preserved-in-Count t c =
    let i = c.loop-reading.invariant in
    record {
      fits = (count_follows _ _ _ _ _ _ _ _ _ (i.fits _ _ c.in-Ok.is) c.add-stored-in-Count.ensures.value _ _ c.read_run-reading.ensures).fits;
      left = i.left ∙ turn_count _ _ _ _ _ _ _ _ _ _ c.in-Ok.is _ _ _ c.kind_of.ensures _ c.record_of-record.ensures _ _ _
          c.add-stored-in-Count.ensures.value c.add-stored-in-Count.ensures.words_after _ _ c.in-Count.is _ c.read_run-reading.ensures;
    }

pub read_entry-loop-reading-smaller : goal.read_entry-loop-reading-smaller
read_entry-loop-reading-smaller t c =
    let fits = c.loop-reading.invariant.fits _ _ c.in-Ok.is in
    room_falls _ _ _ _ _ c.in-Ok.is (stored_follows _ _ _ _ _ _ _ _ (makes_one _) fits c.join-stored.ensures.value c.next_field-reading-in-Joins.ensures)

pub read_entry-loop-reading-preserved : goal.read_entry-loop-reading-preserved
read_entry-loop-reading-preserved t c =
    let i = c.loop-reading.invariant in
    record {
      fits = (stored_follows _ _ _ _ _ _ _ _ (makes_one _) (i.fits _ _ c.in-Ok.is) c.join-stored.ensures.value c.next_field-reading-in-Joins.ensures).fits;
      left = i.left ∙ turn_joins _ _ _ _ _ _ _ _ _ _ c.in-Ok.is _ _ _ c.kind_of.ensures _ c.record_of-record.ensures _ _ _
          c.in-Joins.is c.join-stored.ensures.value c.join-stored.ensures.words_after c.next_field-reading-in-Joins.ensures;
    }

pub read_entry-returns-in-Wrong : goal.read_entry-returns-in-Wrong
read_entry-returns-in-Wrong t c =
    left-wrong _ _ _ _ _ _ _ _ _ _ c.in-Ok.is _ _ _ c.kind_of.ensures c.in-Wrong.is
    ∙ sym (entry-starts _ _ _ _ _ _ _ _ _ _ _ _ _ c.record_of.ensures c.add-begun.ensures.value c.add-begun.ensures.words_after c.next_field-reading.ensures ∙ c.loop-reading.invariant.left)

pub read_entry-returns-in-Ends : goal.read_entry-returns-in-Ends
read_entry-returns-in-Ends t c =
    left-ends _ _ _ _ _ _ _ _ _ _ c.in-Ok.is _ _ _ c.kind_of.ensures c.in-Ends.is
    ∙ sym (entry-starts _ _ _ _ _ _ _ _ _ _ _ _ _ c.record_of.ensures c.add-begun.ensures.value c.add-begun.ensures.words_after c.next_field-reading.ensures ∙ c.loop-reading.invariant.left)

pub read_run-loop-reading-init : goal.read_run-loop-reading-init
read_run-loop-reading-init t c = record {
  counted = omega arith;
  fits = rw c.next_field-reading.ensures (next_follows _ _ _ _ c.requires.fits).fits;
  left = refl;
}

pub read_run-returns-in_default : goal.read_run-returns-in_default
read_run-returns-in_default t c =
    left-refused _ _ _ _ _ _ _ _ c.in_default.is ∙ sym (run-starts _ _ _ _ _ _ _ _ _ c.next_field-reading.ensures ∙ c.loop-reading.invariant.left)

pub read_run-returns-then-number-eq0 : goal.read_run-returns-then-number-eq0
read_run-returns-then-number-eq0 t c =
    left-first _ _ _ _ _ _ _ _ _ _ c.in-Ok.is (sym c.opens.ensures ∙ c.if-not-opens.true) c.if-number-eq0.true
    ∙ sym (run-starts _ _ _ _ _ _ _ _ _ c.next_field-reading.ensures ∙ c.loop-reading.invariant.left)

pub read_run-returns-then-not-opens : goal.read_run-returns-then-not-opens
read_run-returns-then-not-opens t c =
    left_over _ _ _ _ _ _ _ _ _ _ c.in-Ok.is (sym c.opens.ensures ∙ c.if-not-opens.true) c.if-number-eq0.false
    ∙ sym (run-starts _ _ _ _ _ _ _ _ _ c.next_field-reading.ensures ∙ c.loop-reading.invariant.left)

-- entries are fewer than the fields that could be read
pub read_run-overflow_add-number : goal.read_run-overflow_add-number
read_run-overflow_add-number t c =
    let fits = c.requires.fits in
    let first = (next_follows c.args.config.mode c.args.message.now c.args.cursor c.args.progress fits).falls in
    let here : room_of c.loop-reading.reading ≡ suc c.in-Ok.so_far.room = ap room_of c.in-Ok.is ∙ unfold room_of in refl in
    omega (arith, c.loop-reading.invariant.counted, fits.counted, ap room_of c.next_field-reading.ensures, first)

pub read_run-loop-reading-smaller : goal.read_run-loop-reading-smaller
read_run-loop-reading-smaller t c =
    let fits = c.loop-reading.invariant.fits _ _ c.in-Ok.is in
    room_falls _ _ _ _ _ c.in-Ok.is (entry_follows _ _ _ _ _ _ _ _ _ fits _ _ c.read_entry-reading.ensures)

pub read_run-loop-reading-preserved : goal.read_run-loop-reading-preserved
read_run-loop-reading-preserved t c =
    let i = c.loop-reading.invariant in
    let follows = entry_follows _ _ _ _ _ _ _ _ _ (i.fits _ _ c.in-Ok.is) _ _ c.read_entry-reading.ensures in
    record {
      counted = omega (arith, i.counted, room_falls _ _ _ _ _ c.in-Ok.is follows);
      fits = follows.fits;
      left = i.left ∙ turn_entry _ _ _ _ _ _ _ _ _ _ c.in-Ok.is (sym c.opens.ensures ∙ c.if-not-opens.false) _ _ c.read_entry-reading.ensures;
    }
