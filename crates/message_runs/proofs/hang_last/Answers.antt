-- `hang_last` meets its contract: the map of the last entry is judged by what would be left of its run.
use mathlib.Core.Path.{◌≡◌, sym, ◌∙◌}
use mathlib.Core.Bool.{true, false}
use native.Mathlib.Omega.{arith}
use Rattle.message_maps.specs.Map.{field_count}
use Rattle.message_rules.specs.Runs.{is_draft, has_untagged, run_in, hanging_last}
use Rattle.message_runs.specs.DraftLaws.{draft_of, draft_no}
use Rattle.message_runs.specs.EnterLaws.{fields_now}
use Rattle.message_runs.specs.LastLaws.{LastAt, last-at, HasEntry, some-entry, none-entry}
use Rattle.message_runs.specs.PartLaws.{draft_tags}
use Rattle.message_runs.specs.LastHangLaws.{last_no_run, last_untagged, last-nowhere, last_on, last_able, last-hung}
use Rattle.message_runs.proofs.hang_last.Goals as goal

pub returns-then-not-is_draft : goal.returns-then-not-is_draft
unfolding hanging_last
returns-then-not-is_draft c = sym (draft_no _ _ _ _ (sym c.is_draft.ensures ∙ c.if-not-is_draft.true))

pub returns-then-not-is_draft-2 : goal.returns-then-not-is_draft-2
returns-then-not-is_draft-2 c =
    let is_at : is_draft c.args.words.now c.args.values.now ≡ true = sym c.is_draft.ensures ∙ c.if-not-is_draft.false in
    sym (last_no_run _ _ _ _ (is_at) (sym c.is_draft-2.ensures ∙ c.if-not-is_draft-2.true))

pub row_count-requires : goal.row_count-requires
row_count-requires c =
    let run_at : is_draft c.args.run_words.now c.args.run_values.now ≡ true = sym c.is_draft-2.ensures ∙ c.if-not-is_draft-2.false in
    (draft_of _ _ (run_at)).sized.whole

pub has_untagged-requires : goal.has_untagged-requires
has_untagged-requires c =
    let run_at : is_draft c.args.run_words.now c.args.run_values.now ≡ true = sym c.is_draft-2.ensures ∙ c.if-not-is_draft-2.false in
    let d = draft_of _ _ (run_at) in (omega (arith, c.row_count.ensures, d.sized.counted), d.sized.whole)

pub returns-then-has_untagged : goal.returns-then-has_untagged
returns-then-has_untagged c =
    let is_at : is_draft c.args.words.now c.args.values.now ≡ true = sym c.is_draft.ensures ∙ c.if-not-is_draft.false in
    let run_at : is_draft c.args.run_words.now c.args.run_values.now ≡ true = sym c.is_draft-2.ensures ∙ c.if-not-is_draft-2.false in
    let tags-at : c.has_untagged.result ≡ has_untagged (run_in c.args.run_words.now c.args.run_values.now) = c.has_untagged.ensures ∙ draft_tags _ _ _ (run_at) c.row_count.ensures in
    sym (last_untagged _ _ _ _ (is_at) (run_at) (sym (tags-at) ∙ c.if-has_untagged.true))

pub row_count-count-requires : goal.row_count-count-requires
row_count-count-requires c =
    let is_at : is_draft c.args.words.now c.args.values.now ≡ true = sym c.is_draft.ensures ∙ c.if-not-is_draft.false in
    (draft_of _ _ (is_at)).sized.whole

pub last_start-from-requires : goal.last_start-from-requires
last_start-from-requires c =
    let is_at : is_draft c.args.words.now c.args.values.now ≡ true = sym c.is_draft.ensures ∙ c.if-not-is_draft.false in
    let d = draft_of _ _ (is_at) in (omega (arith, c.row_count-count.ensures, d.sized.counted), d.sized.whole)

pub returns-then-from-eq0 : goal.returns-then-from-eq0
returns-then-from-eq0 c =
    let is_at : is_draft c.args.words.now c.args.values.now ≡ true = sym c.is_draft.ensures ∙ c.if-not-is_draft.false in
    let run_at : is_draft c.args.run_words.now c.args.run_values.now ≡ true = sym c.is_draft-2.ensures ∙ c.if-not-is_draft-2.false in
    let tags-at : c.has_untagged.result ≡ has_untagged (run_in c.args.run_words.now c.args.run_values.now) = c.has_untagged.ensures ∙ draft_tags _ _ _ (run_at) c.row_count.ensures in
    let tagged-at : has_untagged (run_in c.args.run_words.now c.args.run_values.now) ≡ false = sym (tags-at) ∙ c.if-has_untagged.false in
    let told_at : LastAt (run_in c.args.words.now c.args.values.now) c.last_start-from.result = last-at _ _ _ (draft_of _ _ (is_at)) _ _ c.row_count-count.ensures c.last_start-from.ensures in
    sym (last-nowhere _ _ _ _ (is_at) (run_at) (tagged-at) (none-entry _ _ (told_at) c.if-from-eq0.true))

pub fields_in-fields-requires : goal.fields_in-fields-requires
fields_in-fields-requires c =
    let is_at : is_draft c.args.words.now c.args.values.now ≡ true = sym c.is_draft.ensures ∙ c.if-not-is_draft.false in
    let d = draft_of _ _ (is_at) in (omega arith, omega (arith, c.row_count-count.ensures, d.sized.counted), d.sized.whole)

pub hang_in-requires : goal.hang_in-requires
hang_in-requires c =
    let is_at : is_draft c.args.words.now c.args.values.now ≡ true = sym c.is_draft.ensures ∙ c.if-not-is_draft.false in
    let run_at : is_draft c.args.run_words.now c.args.run_values.now ≡ true = sym c.is_draft-2.ensures ∙ c.if-not-is_draft-2.false in
    let told_at : LastAt (run_in c.args.words.now c.args.values.now) c.last_start-from.result = last-at _ _ _ (draft_of _ _ (is_at)) _ _ c.row_count-count.ensures c.last_start-from.ensures in
    let entry-at : HasEntry (run_in c.args.words.now c.args.values.now) c.last_start-from.result = some-entry _ _ (told_at) c.if-from-eq0.false in
    let fields_at : c.fields_in-fields.result ≡ field_count (run_in c.args.words.now c.args.values.now) = c.fields_in-fields.ensures ∙ fields_now _ _ _ (draft_of _ _ (is_at)) _ c.row_count-count.ensures in
    let e = entry-at in
    rw (fields_at) (last_able _ _ _ _ (is_at) (run_at) e.split _ _ c.row_count-count.ensures e.starts)

pub returns : goal.returns
returns c =
    let is_at : is_draft c.args.words.now c.args.values.now ≡ true = sym c.is_draft.ensures ∙ c.if-not-is_draft.false in
    let run_at : is_draft c.args.run_words.now c.args.run_values.now ≡ true = sym c.is_draft-2.ensures ∙ c.if-not-is_draft-2.false in
    let tags-at : c.has_untagged.result ≡ has_untagged (run_in c.args.run_words.now c.args.run_values.now) = c.has_untagged.ensures ∙ draft_tags _ _ _ (run_at) c.row_count.ensures in
    let tagged-at : has_untagged (run_in c.args.run_words.now c.args.run_values.now) ≡ false = sym (tags-at) ∙ c.if-has_untagged.false in
    let told_at : LastAt (run_in c.args.words.now c.args.values.now) c.last_start-from.result = last-at _ _ _ (draft_of _ _ (is_at)) _ _ c.row_count-count.ensures c.last_start-from.ensures in
    let entry-at : HasEntry (run_in c.args.words.now c.args.values.now) c.last_start-from.result = some-entry _ _ (told_at) c.if-from-eq0.false in
    let fields_at : c.fields_in-fields.result ≡ field_count (run_in c.args.words.now c.args.values.now) = c.fields_in-fields.ensures ∙ fields_now _ _ _ (draft_of _ _ (is_at)) _ c.row_count-count.ensures in
    let e = entry-at in
    rw (fields_at) at c.hang_in.ensures
    ∙ last-hung _ _ _ _ (is_at) (run_at) e.split _ _ c.row_count-count.ensures e.starts
    ∙ sym (last_on _ _ _ _ (is_at) (run_at) (tagged-at) e.split.some)
