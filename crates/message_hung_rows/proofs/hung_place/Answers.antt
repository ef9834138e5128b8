-- `hung_place` meets its contract: behind the count where there is one.
use mathlib.Core.Path.{◌≡◌, sym}
use Rattle.message_rules.specs.RowChanges.{field_place, run_place}
use Rattle.message_hung_rows.specs.RowLaws.{place-count, place-run}
use Rattle.message_hung_rows.proofs.hung_place.Goals as goal
use Rattle.message_hung_rows.proofs.hung_place.Goals.{After-find_row}

pub returns-then-at-to : goal.returns-then-at-to
returns-then-at-to c =
    let place_at : c.find_row-at.result ≡ field_place c.args.span c.args.start c.args.words.now = unfold field_place in c.find_row-at.ensures in
    sym (place-count _ _ _ _ (place_at) c.if-at-to.true)

run_at : (c : After-find_row) → c.find_row.result ≡ run_place c.args.span c.args.start c.args.words.now
unfolding run_place
run_at c = c.find_row.ensures

pub returns : goal.returns
returns c =
    let place_at : c.find_row-at.result ≡ field_place c.args.span c.args.start c.args.words.now = unfold field_place in c.find_row-at.ensures in
    sym (place-run _ _ _ _ (place_at) c.if-at-to.false _ (run_at c))
