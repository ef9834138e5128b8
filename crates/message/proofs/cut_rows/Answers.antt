-- `cut_rows` meets its contract: the sizes of rows are places of values, and both splices are the cut.
use mathlib.Core.Path.{◌≡◌, sym, ◌∙◌}
use mathlib.Core.Bool.{true}
use Prim.Native.Nat.{◌+◌, ◌-◌, ◌≤◌}
use native.Mathlib.Omega.{arith}
use lib.ListN.{length}
use lib.Dec.{leb}
use borrow.Author.Tests.{leb-true}
use Rattle.message_rules.specs.RowChanges.{BlankFrom, cut_rows, cut_size, cut_words, cut_values}
use Rattle.message_rules.specs.ChangeLaws.{change_large, change_run, change_many, change_made, Places, places_of}
use Rattle.message.proofs.cut_rows.Goals as goal
use Rattle.message.proofs.cut_rows.Goals.{After-places_of-places}

places-at : (c : After-places_of-places) → Places c.args.words.now c.args.cut c.places_of-places.result.from c.places_of-places.result.to c.places_of-places.result.kept c.places_of-places.result.until
    c.places_of-places.result.used
places-at c = places_of _ _ _ _ _ _ _ _ _ _ _ c.requires.cuttable c.places_of-places.ensures.0 c.places_of-places.ensures.2 c.places_of-places.ensures.1 c.places_of-places.ensures.3 c.places_of-places.ensures.4

pub overflow_sub-fourth : goal.overflow_sub-fourth
overflow_sub-fourth c = let p = places-at c in omega (arith, p.forwards, p.back, p.on, p.last, p.within)

pub overflow_add-first : goal.overflow_add-first
overflow_add-first c = let p = places-at c in omega (arith, p.forwards, p.back, p.on, p.last, p.within)

pub overflow_sub-second : goal.overflow_sub-second
overflow_sub-second c = let p = places-at c in omega (arith, p.forwards, p.back, p.on, p.last, p.within)

pub overflow_add-first-2 : goal.overflow_add-first-2
overflow_add-first-2 c = let p = places-at c in omega (arith, p.forwards, p.back, p.on, p.last, p.within)

pub overflow_sub-used : goal.overflow_sub-used
overflow_sub-used c = let p = places-at c in omega (arith, p.forwards, p.back, p.on, p.last, p.within)

pub overflow_add-first-3 : goal.overflow_add-first-3
overflow_add-first-3 c = let p = places-at c in omega (arith, p.forwards, p.back, p.on, p.last, p.within)

pub returns-then-not-fits : goal.returns-then-not-fits
returns-then-not-fits c =
    let size-at : leb (cut_size c.args.words.now c.args.cut + length c.args.bytes.now) 8192 ≡ c.fits.result = unfold cut_size in sym (rw (c.places_of-places.ensures.0, c.places_of-places.ensures.1, c.places_of-places.ensures.2, c.places_of-places.ensures.3, c.places_of-places.ensures.4) at c.fits.ensures) in
    sym (change_large _ _ _ _ _ _ _ _ (size-at ∙ c.if-not-fits.true))

pub returns-then-not-whole : goal.returns-then-not-whole
returns-then-not-whole c =
    let size-at : leb (cut_size c.args.words.now c.args.cut + length c.args.bytes.now) 8192 ≡ c.fits.result = unfold cut_size in sym (rw (c.places_of-places.ensures.0, c.places_of-places.ensures.1, c.places_of-places.ensures.2, c.places_of-places.ensures.3, c.places_of-places.ensures.4) at c.fits.ensures) in
    sym (change_run _ _ _ _ _ _ _ _ (size-at ∙ c.if-not-fits.false) (c.if-not-whole.true))

pub returns-then-fields-gt1024 : goal.returns-then-fields-gt1024
returns-then-fields-gt1024 c =
    let size-at : leb (cut_size c.args.words.now c.args.cut + length c.args.bytes.now) 8192 ≡ c.fits.result = unfold cut_size in sym (rw (c.places_of-places.ensures.0, c.places_of-places.ensures.1, c.places_of-places.ensures.2, c.places_of-places.ensures.3, c.places_of-places.ensures.4) at c.fits.ensures) in
    sym (change_many _ _ _ _ _ _ _ _ (size-at ∙ c.if-not-fits.false) (c.if-not-whole.false)
    c.if-fields-gt1024.true)

pub splice_words-requires : goal.splice_words-requires
unfolding BlankFrom
splice_words-requires c = let room = c.requires.cuttable.room c.if-fields-gt1024.false in record {
  from_le_to = (
    omega (arith, c.requires.cuttable.forwards, c.requires.cuttable.back),
    omega (arith, c.requires.cuttable.back),
    omega (arith, c.requires.cuttable.on),
    omega (arith, c.requires.cuttable.last),
    omega (arith, c.requires.cuttable.few),
    c.requires.cuttable.whole,
    omega (arith, room, c.requires.cuttable.four, c.requires.cuttable.forwards, c.requires.cuttable.back, c.requires.cuttable.on, c.requires.cuttable.last, c.requires.cuttable.few),
  );
  words_value = λ e. (c.requires.blank_from e).0;
}

pub overflow_add-words : goal.overflow_add-words
overflow_add-words c = let room = c.requires.cuttable.room c.if-fields-gt1024.false in omega (arith, room, c.requires.cuttable.forwards, c.requires.cuttable.back, c.requires.cuttable.on, c.requires.cuttable.last, c.requires.cuttable.few)

pub overflow_cast-words : goal.overflow_cast-words
overflow_cast-words c = let room = c.requires.cuttable.room c.if-fields-gt1024.false in omega (arith, room, c.requires.cuttable.forwards, c.requires.cuttable.back, c.requires.cuttable.on, c.requires.cuttable.last, c.requires.cuttable.few)

pub splice_bytes-requires : goal.splice_bytes-requires
unfolding BlankFrom
splice_bytes-requires c =
    let room_at : c.fits.result ≡ true → c.places_of-places.result.from + (c.places_of-places.result.until - c.places_of-places.result.to) + (c.places_of-places.result.to - c.places_of-places.result.kept) + (c.places_of-places.result.used - c.places_of-places.result.until) + length c.args.bytes.now ≤ 8192 = λ h. leb-true _ _ (sym c.fits.ensures ∙ h) in
    let p = places-at (goal.at.splice_bytes-requires c).After-places_of-places in
    let s = room_at (c.if-not-fits.false) in record { from_le_to = (omega (arith, p.forwards, p.back), p.back, p.on, p.last, p.within, c.requires.cuttable.store, omega (arith, s, p.forwards, p.back, p.on, p.last)); values_value = λ e. rw c.places_of-places.ensures.4 (c.requires.blank_from e).1 }

pub returns : goal.returns
returns c =
    let size-at : leb (cut_size c.args.words.now c.args.cut + length c.args.bytes.now) 8192 ≡ c.fits.result = unfold cut_size in sym (rw (c.places_of-places.ensures.0, c.places_of-places.ensures.1, c.places_of-places.ensures.2, c.places_of-places.ensures.3, c.places_of-places.ensures.4) at c.fits.ensures) in
    sym
    (change_made _ _ _ _ _ _ _ _ (size-at ∙ c.if-not-fits.false) (c.if-not-whole.false) c.if-fields-gt1024.false
    ∙ (unfold cut_words cut_values cut_rows in rw (← c.places_of-places.ensures.0, ← c.places_of-places.ensures.1, ← c.places_of-places.ensures.2, ← c.places_of-places.ensures.3, ← c.places_of-places.ensures.4, ← c.splice_words.ensures, ← c.splice_bytes.ensures)))
