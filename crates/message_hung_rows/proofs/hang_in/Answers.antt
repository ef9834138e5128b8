-- `hang_in` meets its contract: the rows between its place and where the run on its start tag ends are cut out for it.
use mathlib.Core.Path.{◌≡◌, refl, sym, ap, ◌∙◌}
use Prim.Native.Nat.{ℕ, ◌+◌, ◌-◌, ◌≤◌}
use native.Mathlib.Omega.{arith}
use lib.ListN.{take}
use Rattle.message_maps.specs.Rows.{flat, sizes}
use Rattle.message_lent_rules.specs.Lent.{row_count, rows_of, fields_in}
use Rattle.message_rules.specs.Changes.{after}
use Rattle.message_rules.specs.RowChanges.{Cuttable, changed_at}
use Rattle.message_hung_rows.specs.Hanging.{raised, all_of, hung_place, hung_stop, hung_cut, replaced_fields, hung_fields, start_of, delimiter_of_lem}
use Rattle.message_hung_rows.specs.RowLaws.{hang-none, hang-some}
use Rattle.message_hung_rows.proofs.hang_in.Goals as goal
use Rattle.message_hung_rows.proofs.hang_in.Goals.{After-hung_place-from, After-tag_of-start}

pub returns-then-run_count-eq0 : goal.returns-then-run_count-eq0
returns-then-run_count-eq0 c = sym (hang-none _ _ _ _ _ _ (sym c.row_count-run_count.ensures ∙ c.if-run_count-eq0.true))

pub all_of-whole-requires : goal.all_of-whole-requires
all_of-whole-requires c = (omega (arith, c.row_count-run_count.ensures, c.requires.run.counted), c.requires.run.whole)

start-at : (c : After-tag_of-start) → c.tag_of-start.result ≡ start_of c.args.run_words.now
unfolding start_of
start-at c = c.tag_of-start.ensures

pub run_end-to-requires : goal.run_end-to-requires
run_end-to-requires c =
    let place_at : c.hung_place-from.result ≡ hung_place c.args.span (start_of c.args.run_words.now) c.args.words.now = c.hung_place-from.ensures ∙ ap (λ (t : ℕ). hung_place c.args.span t c.args.words.now) (start-at (goal.at.run_end-to-requires c).After-tag_of-start) in
    (omega (arith, place_at, c.requires.placed), omega (arith, c.requires.last, c.requires.few), c.requires.whole)

ordered : (c : After-hung_place-from) → (hung_place c.args.span (start_of c.args.run_words.now) c.args.words.now ≤ hung_stop c.args.span (start_of c.args.run_words.now) c.args.words.now)
    × (hung_stop c.args.span (start_of c.args.run_words.now) c.args.words.now ≤ c.args.span.count)
unfolding hung_cut
ordered c = (c.requires.able.forwards, c.requires.able.last)

pub fields_in-replaced-requires : goal.fields_in-replaced-requires
unfolding hung_stop
fields_in-replaced-requires c =
    let place_at : c.hung_place-from.result ≡ hung_place c.args.span (start_of c.args.run_words.now) c.args.words.now = c.hung_place-from.ensures ∙ ap (λ (t : ℕ). hung_place c.args.span t c.args.words.now) (start-at (goal.at.fields_in-replaced-requires c).After-tag_of-start) in
    let stop-at : c.run_end-to.result ≡ hung_stop c.args.span (start_of c.args.run_words.now) c.args.words.now = rw (place_at, start-at (goal.at.fields_in-replaced-requires c).After-tag_of-start) at c.run_end-to.ensures in
    let s = stop-at in let o = ordered (goal.at.fields_in-replaced-requires c).After-hung_place-from in (omega (arith, place_at, s, o.0), omega (arith, s, o.1, c.requires.few), c.requires.whole)

pub fields_in-added-requires : goal.fields_in-added-requires
fields_in-added-requires c = (omega arith, omega (arith, c.row_count-run_count.ensures, c.requires.run.counted), c.requires.run.whole)

pub overflow_sub-fields : goal.overflow_sub-fields
unfolding hung_stop replaced_fields
overflow_sub-fields c =
    let place_at : c.hung_place-from.result ≡ hung_place c.args.span (start_of c.args.run_words.now) c.args.words.now = c.hung_place-from.ensures ∙ ap (λ (t : ℕ). hung_place c.args.span t c.args.words.now) (start-at (goal.at.overflow_sub-fields c).After-tag_of-start) in
    let stop-at : c.run_end-to.result ≡ hung_stop c.args.span (start_of c.args.run_words.now) c.args.words.now = rw (place_at, start-at (goal.at.overflow_sub-fields c).After-tag_of-start) at c.run_end-to.ensures in
    let replaced-at : c.fields_in-replaced.result ≡ replaced_fields c.args.span (start_of c.args.run_words.now) c.args.words.now = rw (place_at, stop-at) at c.fields_in-replaced.ensures in
    omega (arith, replaced-at, c.requires.replaced)

pub overflow_add-fields : goal.overflow_add-fields
unfolding rows_of
overflow_add-fields c =
    let added-at : c.fields_in-added.result ≡ fields_in 0 (rows_of c.args.run_words.now) = rw c.row_count-run_count.ensures at c.fields_in-added.ensures in
    omega (arith, c.requires.counted, added-at, c.requires.run.fields)

pub insert_run-requires : goal.insert_run-requires
unfolding hung_stop replaced_fields rows_of hung_cut hung_fields
insert_run-requires c =
    let place_at : c.hung_place-from.result ≡ hung_place c.args.span (start_of c.args.run_words.now) c.args.words.now = c.hung_place-from.ensures ∙ ap (λ (t : ℕ). hung_place c.args.span t c.args.words.now) (start-at (goal.at.insert_run-requires c).After-tag_of-start) in
    let stop-at : c.run_end-to.result ≡ hung_stop c.args.span (start_of c.args.run_words.now) c.args.words.now = rw (place_at, start-at (goal.at.insert_run-requires c).After-tag_of-start) at c.run_end-to.ensures in
    let replaced-at : c.fields_in-replaced.result ≡ replaced_fields c.args.span (start_of c.args.run_words.now) c.args.words.now = rw (place_at, stop-at) at c.fields_in-replaced.ensures in
    let added-at : c.fields_in-added.result ≡ fields_in 0 (rows_of c.args.run_words.now) = rw c.row_count-run_count.ensures at c.fields_in-added.ensures in
    let able-at : Cuttable c.args.words.now c.args.values.now
    (record { from = c.hung_place-from.result; to = c.run_end-to.result; kept = c.run_end-to.result; until = c.run_end-to.result; count = c.args.span.count })
    (flat (raised (rows_of c.args.run_words.now))) (row_count c.args.run_words.now) (c.args.fields - c.fields_in-replaced.result + c.fields_in-added.result) = rw (place_at, stop-at, replaced-at, added-at) c.requires.able in
    (c.requires.run, refl, refl, able-at)

pub returns : goal.returns
unfolding hung_stop replaced_fields rows_of delimiter_of_lem hung_cut hung_fields
returns c =
    let place_at : c.hung_place-from.result ≡ hung_place c.args.span (start_of c.args.run_words.now) c.args.words.now = c.hung_place-from.ensures ∙ ap (λ (t : ℕ). hung_place c.args.span t c.args.words.now) (start-at (goal.at.returns c).After-tag_of-start) in
    let stop-at : c.run_end-to.result ≡ hung_stop c.args.span (start_of c.args.run_words.now) c.args.words.now = rw (place_at, start-at (goal.at.returns c).After-tag_of-start) at c.run_end-to.ensures in
    let replaced-at : c.fields_in-replaced.result ≡ replaced_fields c.args.span (start_of c.args.run_words.now) c.args.words.now = rw (place_at, stop-at) at c.fields_in-replaced.ensures in
    let added-at : c.fields_in-added.result ≡ fields_in 0 (rows_of c.args.run_words.now) = rw c.row_count-run_count.ensures at c.fields_in-added.ensures in
    let whole-at : c.all_of-whole.result ≡ all_of (start_of c.args.run_words.now) (delimiter_of_lem c.args.run_words.now) (rows_of c.args.run_words.now) = rw (c.row_count-run_count.ensures, start-at (goal.at.returns c).After-tag_of-start, c.extra_of-delimiter.ensures) at c.all_of-whole.ensures in
    let done_at : after c.insert_run.result c.insert_run.new.words c.insert_run.new.values
    ≡ changed_at (hung_cut c.args.span (start_of c.args.run_words.now) c.args.words.now) (flat (raised (rows_of c.args.run_words.now))) (row_count c.args.run_words.now)
    (take (sizes (rows_of c.args.run_words.now)) c.args.run_values.now)
    (all_of (start_of c.args.run_words.now) (delimiter_of_lem c.args.run_words.now) (rows_of c.args.run_words.now))
    (hung_fields c.args.span (start_of c.args.run_words.now) c.args.run_words.now c.args.fields c.args.words.now) c.args.words.now c.args.values.now = rw (place_at, stop-at, replaced-at, added-at, whole-at) at
    c.insert_run.ensures in
    let row_count =
    c.row_count-run_count in
    done_at ∙ sym (hang-some _ _ _ _ _ _ (λ e. c.if-run_count-eq0.false (row_count.ensures ∙ e)))
