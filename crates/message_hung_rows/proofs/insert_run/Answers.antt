-- `insert_run` meets its contract: what is refused is refused whatever rows are inserted, and what is inserted is raised where it stands.
use mathlib.Core.Path.{◌≡◌, refl, sym, ap, ◌∙◌}
use mathlib.Core.List.{List}
use Prim.Native.Nat.{ℕ, ◌+◌, ◌-◌, ◌*◌, ◌≤◌}
use native.Mathlib.Omega.{arith}
use lib.ListN.{length, take, drop}
use lib.Seq.{length-take-le}
use Rattle.message_maps.specs.Rows.{flat, sizes, message_rows}
use Rattle.message_lent_rules.specs.Lent.{row_count, rows_of}
use Rattle.message_lent_rules.proofs.MeaningLaws.{flat-length}
use Rattle.message_rules.specs.Changes.{after}
use Rattle.message_rules.specs.RowChanges.{Cuttable, cut_words, changed_at}
use Rattle.message_rules.specs.PlaceLaws.{rows_length}
use Rattle.message_rules.specs.declared.Change.TheVariants.{Made, NoMessage, NotStorable, NoRun, TooManyFields}
use Rattle.message_hung_rows.specs.Hanging.{raised}
use Rattle.message_hung_rows.specs.RaiseLaws.{raise_cut, low_cut, cut_others, refused-same, made-others, run_rows}
use Rattle.message_rules.specs.BlankLaws.{not_blank}
use Rattle.message_hung_rows.proofs.insert_run.Goals as goal
use Rattle.message_hung_rows.proofs.insert_run.Goals.{After-row_count-count, After-size_between-size}

pub size_between-size-requires : goal.size_between-size-requires
size_between-size-requires c = (omega arith, omega (arith, c.row_count-count.ensures, c.requires.0.counted), c.requires.0.whole)

pub overflow_mul-end : goal.overflow_mul-end
overflow_mul-end c = omega (arith, c.row_count-count.ensures, c.requires.0.counted)

pub overflow_add-end : goal.overflow_add-end
overflow_add-end c = omega (arith, c.row_count-count.ensures, c.requires.0.counted)

pub slice_bounds-cut_rows-start : goal.slice_bounds-cut_rows-start
slice_bounds-cut_rows-start c = omega (arith, c.row_count-count.ensures, c.requires.0.counted, c.requires.0.whole)

pub slice_bounds-cut_rows-end : goal.slice_bounds-cut_rows-end
slice_bounds-cut_rows-end c = omega (arith, c.row_count-count.ensures, c.requires.0.counted, c.requires.0.whole)

size-at : (c : After-size_between-size) → c.size_between-size.result ≡ sizes (rows_of c.args.run_words.now)
unfolding rows_of
size-at c = rw c.row_count-count.ensures at c.size_between-size.ensures

rows_at : (c : After-size_between-size) → take (4 * c.row_count-count.result + 1 - 1) (drop 1 c.args.run_words.now) ≡ flat (rows_of c.args.run_words.now)
rows_at c = run_rows c.args.run_words.now _ _ c.requires.0.whole c.requires.0.counted c.row_count-count.ensures refl

flat_rows : (c : After-size_between-size) → length (flat (rows_of c.args.run_words.now)) ≡ 4 * c.row_count-count.result
unfolding rows_of
flat_rows c = flat-length _ ∙ rw (rows_length, c.row_count-count.ensures) (omega arith)

pub slice_bounds-cut_rows-end-2 : goal.slice_bounds-cut_rows-end-2
slice_bounds-cut_rows-end-2 c = sym (length-take-le _ _ (omega (arith, size-at (goal.at.slice_bounds-cut_rows-end-2 c).After-size_between-size, c.requires.0.sized, c.requires.0.store)))

count_at : (c : After-row_count-count) → length (rows_of c.args.run_words.now) ≡ c.row_count-count.result
unfolding rows_of
count_at c = omega (arith, rows_length (row_count c.args.run_words.now - 0) 0 c.args.run_words.now, c.row_count-count.ensures)

able-at : (c : After-row_count-count) → Cuttable c.args.words.now c.args.values.now c.args.cut (flat (raised (rows_of c.args.run_words.now))) c.row_count-count.result c.args.fields
able-at c = rw c.row_count-count.ensures c.requires.3

pub cut_rows-change-requires : goal.cut_rows-change-requires
cut_rows-change-requires c = record { cuttable = cut_others _ _ _ _ _ _ _ (ap length (rows_at (goal.at.cut_rows-change-requires c).After-size_between-size) ∙ flat_rows (goal.at.cut_rows-change-requires c).After-size_between-size) (able-at (goal.at.cut_rows-change-requires c).After-row_count-count); blank_from = not_blank _ _ _ }

pub overflow_add-from : goal.overflow_add-from
overflow_add-from c =
    let cut_at : after c.cut_rows-change.result c.cut_rows-change.new.words c.cut_rows-change.new.values
    ≡ changed_at c.args.cut (flat (rows_of c.args.run_words.now)) (row_count c.args.run_words.now) (take (sizes (rows_of c.args.run_words.now)) c.args.run_values.now)
    c.args.whole c.args.fields c.args.words.now c.args.values.now = rw (rows_at (goal.at.overflow_add-from c).After-size_between-size, size-at (goal.at.overflow_add-from c).After-size_between-size, c.row_count-count.ensures) at c.cut_rows-change.ensures in
    let made_at : (c.cut_rows-change.new.words ≡ cut_words c.args.cut (flat (rows_of c.args.run_words.now)) (row_count c.args.run_words.now) c.args.words.now)
    × (after Made (cut_words c.args.cut (flat (raised (rows_of c.args.run_words.now))) (row_count c.args.run_words.now) c.args.words.now)
    c.cut_rows-change.new.values ≡ changed_at c.args.cut (flat (raised (rows_of c.args.run_words.now))) (row_count c.args.run_words.now)
    (take (sizes (rows_of c.args.run_words.now)) c.args.run_values.now) c.args.whole c.args.fields c.args.words.now c.args.values.now)
    × (c.args.fields ≤ 1024) = made-others _ _ _ _ _ _ _ _ _ _ _ (rw c.in-Made.is at (cut_at)) in
    let few-at : c.args.cut.from + c.row_count-count.result ≤ message_rows = omega (arith, c.requires.3.room (made_at).2, c.row_count-count.ensures) in
    omega (arith, few-at)

pub raise_rows-requires : goal.raise_rows-requires
raise_rows-requires c =
    let cut_at : after c.cut_rows-change.result c.cut_rows-change.new.words c.cut_rows-change.new.values
    ≡ changed_at c.args.cut (flat (rows_of c.args.run_words.now)) (row_count c.args.run_words.now) (take (sizes (rows_of c.args.run_words.now)) c.args.run_values.now)
    c.args.whole c.args.fields c.args.words.now c.args.values.now = rw (rows_at (goal.at.raise_rows-requires c).After-size_between-size, size-at (goal.at.raise_rows-requires c).After-size_between-size, c.row_count-count.ensures) at c.cut_rows-change.ensures in
    let made_at : (c.cut_rows-change.new.words ≡ cut_words c.args.cut (flat (rows_of c.args.run_words.now)) (row_count c.args.run_words.now) c.args.words.now)
    × (after Made (cut_words c.args.cut (flat (raised (rows_of c.args.run_words.now))) (row_count c.args.run_words.now) c.args.words.now)
    c.cut_rows-change.new.values ≡ changed_at c.args.cut (flat (raised (rows_of c.args.run_words.now))) (row_count c.args.run_words.now)
    (take (sizes (rows_of c.args.run_words.now)) c.args.run_values.now) c.args.whole c.args.fields c.args.words.now c.args.values.now)
    × (c.args.fields ≤ 1024) = made-others _ _ _ _ _ _ _ _ _ _ _ (rw c.in-Made.is at (cut_at)) in
    let few-at : c.args.cut.from + c.row_count-count.result ≤ message_rows = omega (arith, c.requires.3.room (made_at).2, c.row_count-count.ensures) in
    let f = few-at in (
      omega arith,
      omega (arith, f),
      c.cut_rows-change.auto.words ∙ c.requires.3.whole,
      λ j a b. rw (made_at).0 (low_cut _ _ c.requires.1 c.requires.2 (rows_of c.args.run_words.now) c.requires.3.whole
          (omega (arith, f)) message_rows _ j c.requires.0.near a (omega (arith, b, count_at (goal.at.raise_rows-requires c).After-row_count-count))),
    )

pub returns-in-Made : goal.returns-in-Made
returns-in-Made c =
    let cut_at : after c.cut_rows-change.result c.cut_rows-change.new.words c.cut_rows-change.new.values
    ≡ changed_at c.args.cut (flat (rows_of c.args.run_words.now)) (row_count c.args.run_words.now) (take (sizes (rows_of c.args.run_words.now)) c.args.run_values.now)
    c.args.whole c.args.fields c.args.words.now c.args.values.now = rw (rows_at (goal.at.returns-in-Made c).After-size_between-size, size-at (goal.at.returns-in-Made c).After-size_between-size, c.row_count-count.ensures) at c.cut_rows-change.ensures in
    let made_at : (c.cut_rows-change.new.words ≡ cut_words c.args.cut (flat (rows_of c.args.run_words.now)) (row_count c.args.run_words.now) c.args.words.now)
    × (after Made (cut_words c.args.cut (flat (raised (rows_of c.args.run_words.now))) (row_count c.args.run_words.now) c.args.words.now)
    c.cut_rows-change.new.values ≡ changed_at c.args.cut (flat (raised (rows_of c.args.run_words.now))) (row_count c.args.run_words.now)
    (take (sizes (rows_of c.args.run_words.now)) c.args.run_values.now) c.args.whole c.args.fields c.args.words.now c.args.values.now)
    × (c.args.fields ≤ 1024) = made-others _ _ _ _ _ _ _ _ _ _ _ (rw c.in-Made.is at (cut_at)) in
    let few-at : c.args.cut.from + c.row_count-count.result ≤ message_rows = omega (arith, c.requires.3.room (made_at).2, c.row_count-count.ensures) in
    let m = made_at in
    let n : c.args.cut.from + c.row_count-count.result - c.args.cut.from ≡ length (rows_of c.args.run_words.now) =
    omega (arith, count_at (goal.at.returns-in-Made c).After-row_count-count) in
    ap (λ (w : List ℕ). after Made w c.cut_rows-change.new.values)
    (c.raise_rows.ensures
    ∙ rw (n, m.0) (raise_cut _ _ c.requires.1 c.requires.2 (rows_of c.args.run_words.now) c.requires.3.whole (omega (arith, few-at)) _))
    ∙ m.1

pub returns-in-NoMessage : goal.returns-in-NoMessage
returns-in-NoMessage c =
    let cut_at : after c.cut_rows-change.result c.cut_rows-change.new.words c.cut_rows-change.new.values
    ≡ changed_at c.args.cut (flat (rows_of c.args.run_words.now)) (row_count c.args.run_words.now) (take (sizes (rows_of c.args.run_words.now)) c.args.run_values.now)
    c.args.whole c.args.fields c.args.words.now c.args.values.now = rw (rows_at (goal.at.returns-in-NoMessage c).After-size_between-size, size-at (goal.at.returns-in-NoMessage c).After-size_between-size, c.row_count-count.ensures) at c.cut_rows-change.ensures in
    refused-same _ _ _ _ _ _ _ _ _ _ _ NoMessage (λ e. let z : ◌≡◌ {A = ℕ} 0 1 = cc in omega arith) (rw c.in-NoMessage.is at (cut_at))

pub returns-in-NotStorable : goal.returns-in-NotStorable
returns-in-NotStorable c =
    let cut_at : after c.cut_rows-change.result c.cut_rows-change.new.words c.cut_rows-change.new.values
    ≡ changed_at c.args.cut (flat (rows_of c.args.run_words.now)) (row_count c.args.run_words.now) (take (sizes (rows_of c.args.run_words.now)) c.args.run_values.now)
    c.args.whole c.args.fields c.args.words.now c.args.values.now = rw (rows_at (goal.at.returns-in-NotStorable c).After-size_between-size, size-at (goal.at.returns-in-NotStorable c).After-size_between-size, c.row_count-count.ensures) at c.cut_rows-change.ensures in
    refused-same _ _ _ _ _ _ _ _ _ _ _ NotStorable (λ e. let z : ◌≡◌ {A = ℕ} 0 1 = cc in
    omega arith) (rw c.in-NotStorable.is at (cut_at))

pub returns-in-NoRun : goal.returns-in-NoRun
returns-in-NoRun c =
    let cut_at : after c.cut_rows-change.result c.cut_rows-change.new.words c.cut_rows-change.new.values
    ≡ changed_at c.args.cut (flat (rows_of c.args.run_words.now)) (row_count c.args.run_words.now) (take (sizes (rows_of c.args.run_words.now)) c.args.run_values.now)
    c.args.whole c.args.fields c.args.words.now c.args.values.now = rw (rows_at (goal.at.returns-in-NoRun c).After-size_between-size, size-at (goal.at.returns-in-NoRun c).After-size_between-size, c.row_count-count.ensures) at c.cut_rows-change.ensures in
    refused-same _ _ _ _ _ _ _ _ _ _ _ NoRun (λ e. let z : ◌≡◌ {A = ℕ} 0 1 = cc in omega arith) (rw c.in-NoRun.is at (cut_at))

pub returns-in-TooManyFields : goal.returns-in-TooManyFields
returns-in-TooManyFields c =
    let cut_at : after c.cut_rows-change.result c.cut_rows-change.new.words c.cut_rows-change.new.values
    ≡ changed_at c.args.cut (flat (rows_of c.args.run_words.now)) (row_count c.args.run_words.now) (take (sizes (rows_of c.args.run_words.now)) c.args.run_values.now)
    c.args.whole c.args.fields c.args.words.now c.args.values.now = rw (rows_at (goal.at.returns-in-TooManyFields c).After-size_between-size, size-at (goal.at.returns-in-TooManyFields c).After-size_between-size, c.row_count-count.ensures) at c.cut_rows-change.ensures in
    refused-same _ _ _ _ _ _ _ _ _ _ _ TooManyFields (λ e. let z : ◌≡◌ {A = ℕ} 0 1 = cc in
    omega arith) (rw c.in-TooManyFields.is at (cut_at))
