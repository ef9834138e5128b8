-- `store_last` meets its contract: the map of the last entry is judged by what would be left of its run.
use mathlib.Core.Path.{◌≡◌, sym, ap, ◌∙◌}
use mathlib.Core.Bool.{true}
use Prim.Native.Nat.{◌+◌, ◌≤◌}
use native.Mathlib.Omega.{arith}
use Rattle.message_maps.specs.Rows.{message_rows}
use Rattle.message_maps.specs.Map.{field_count}
use Rattle.message_rules.specs.Runs.{is_draft, run_in, storing_last}
use Rattle.message_runs.specs.DraftLaws.{Draft, draft_of, draft_no}
use Rattle.message_runs.specs.LastLaws.{LastAt, last-at, HasEntry, some-entry, none-entry, entry_frame, last-fields, front-fields, own-fields}
use Rattle.message_runs.specs.LastLaws.{last_ready, last-judged, store_untagged, store_large, store-nowhere, store-last}
use Rattle.message_rules.specs.FrameLaws as frame
use Rattle.message_rules.specs.BlankLaws.{not_blank}
use Rattle.message_runs.proofs.store_last.Goals as goal

pub returns-then-not-is_draft : goal.returns-then-not-is_draft
unfolding storing_last
returns-then-not-is_draft c = sym (draft_no _ _ _ _ (sym c.is_draft.ensures ∙ c.if-not-is_draft.true))

pub returns-then-tag-eq0 : goal.returns-then-tag-eq0
returns-then-tag-eq0 c =
    let is_at : is_draft c.args.words.now c.args.values.now ≡ true = sym c.is_draft.ensures ∙ c.if-not-is_draft.false in
    sym (store_untagged _ _ _ _ (is_at) c.if-tag-eq0.true)

pub returns-then-value-gt8192 : goal.returns-then-value-gt8192
returns-then-value-gt8192 c =
    let is_at : is_draft c.args.words.now c.args.values.now ≡ true = sym c.is_draft.ensures ∙ c.if-not-is_draft.false in
    sym (store_large _ _ _ _ (is_at) c.if-tag-eq0.false c.if-value-gt8192.true)

pub row_count-count-requires : goal.row_count-count-requires
row_count-count-requires c =
    let is_at : is_draft c.args.words.now c.args.values.now ≡ true = sym c.is_draft.ensures ∙ c.if-not-is_draft.false in
    let draft-at : Draft c.args.words.now c.args.values.now (run_in c.args.words.now c.args.values.now) = draft_of _ _ (is_at) in
    (draft-at).sized.whole

pub last_start-from-requires : goal.last_start-from-requires
last_start-from-requires c =
    let is_at : is_draft c.args.words.now c.args.values.now ≡ true = sym c.is_draft.ensures ∙ c.if-not-is_draft.false in
    let draft-at : Draft c.args.words.now c.args.values.now (run_in c.args.words.now c.args.values.now) = draft_of _ _ (is_at) in
    let d = draft-at in (omega (arith, c.row_count-count.ensures, d.sized.counted), d.sized.whole)

pub returns-then-from-eq0 : goal.returns-then-from-eq0
returns-then-from-eq0 c =
    let is_at : is_draft c.args.words.now c.args.values.now ≡ true = sym c.is_draft.ensures ∙ c.if-not-is_draft.false in
    let draft-at : Draft c.args.words.now c.args.values.now (run_in c.args.words.now c.args.values.now) = draft_of _ _ (is_at) in
    let told_at : LastAt (run_in c.args.words.now
    c.args.values.now) c.last_start-from.result = last-at _ _ _ (draft-at) _ _ c.row_count-count.ensures c.last_start-from.ensures in
    sym (store-nowhere _ _ _ _ (is_at) c.if-tag-eq0.false c.if-value-gt8192.false (none-entry _ _ (told_at) c.if-from-eq0.true))

pub fields_in-others-requires : goal.fields_in-others-requires
fields_in-others-requires c =
    let is_at : is_draft c.args.words.now c.args.values.now ≡ true = sym c.is_draft.ensures ∙ c.if-not-is_draft.false in
    let draft-at : Draft c.args.words.now c.args.values.now (run_in c.args.words.now c.args.values.now) = draft_of _ _ (is_at) in
    let told_at : LastAt (run_in c.args.words.now
    c.args.values.now) c.last_start-from.result = last-at _ _ _ (draft-at) _ _ c.row_count-count.ensures c.last_start-from.ensures in
    let entry-at : HasEntry (run_in c.args.words.now
    c.args.values.now) c.last_start-from.result = some-entry _ _ (told_at) c.if-from-eq0.false in
    let grows_at : (c.last_start-from.result ≤ c.row_count-count.result) × (c.row_count-count.result ≤ message_rows) = let e = entry-at in
    let g = frame.span_grows _ _ _ _ _ _ (entry_frame _ _ _ (draft-at) e.split _ _ c.row_count-count.ensures e.starts) in
    (g.0, g.2) in
    let d = draft-at in let g = grows_at in (omega arith, omega (arith, g.0, g.1), d.sized.whole)

pub fields_in-own-requires : goal.fields_in-own-requires
fields_in-own-requires c =
    let is_at : is_draft c.args.words.now c.args.values.now ≡ true = sym c.is_draft.ensures ∙ c.if-not-is_draft.false in
    let draft-at : Draft c.args.words.now c.args.values.now (run_in c.args.words.now c.args.values.now) = draft_of _ _ (is_at) in
    let told_at : LastAt (run_in c.args.words.now
    c.args.values.now) c.last_start-from.result = last-at _ _ _ (draft-at) _ _ c.row_count-count.ensures c.last_start-from.ensures in
    let entry-at : HasEntry (run_in c.args.words.now
    c.args.values.now) c.last_start-from.result = some-entry _ _ (told_at) c.if-from-eq0.false in
    let grows_at : (c.last_start-from.result ≤ c.row_count-count.result) × (c.row_count-count.result ≤ message_rows) = let e = entry-at in
    let g = frame.span_grows _ _ _ _ _ _ (entry_frame _ _ _ (draft-at) e.split _ _ c.row_count-count.ensures e.starts) in
    (g.0, g.2) in
    let d = draft-at in let g = grows_at in (g.0, g.1, d.sized.whole)

pub overflow_add-others : goal.overflow_add-others
overflow_add-others c =
    let is_at : is_draft c.args.words.now c.args.values.now ≡ true = sym c.is_draft.ensures ∙ c.if-not-is_draft.false in
    let draft-at : Draft c.args.words.now c.args.values.now (run_in c.args.words.now c.args.values.now) = draft_of _ _ (is_at) in
    let told_at : LastAt (run_in c.args.words.now
    c.args.values.now) c.last_start-from.result = last-at _ _ _ (draft-at) _ _ c.row_count-count.ensures c.last_start-from.ensures in
    let entry-at : HasEntry (run_in c.args.words.now
    c.args.values.now) c.last_start-from.result = some-entry _ _ (told_at) c.if-from-eq0.false in
    let base-at : (c.fields_in-others.result + c.fields_in-own.result ≡ field_count (entry-at).split.front
    + field_count (entry-at).split.own) × (c.fields_in-others.result + c.fields_in-own.result ≤ 1024) = let e = entry-at in
    let d = draft-at in
    let n = c.row_count-count.ensures in
    let a = c.fields_in-others.ensures ∙ front-fields _ _ _ d e.split _ _ n e.starts in
    let b = c.fields_in-own.ensures ∙ own-fields _ _ _ d e.split _ _ n e.starts in
    (omega (arith, a, b), omega (arith, a, b, d.few, ap field_count e.split.whole, last-fields _ _ _ d e.split _ _ n e.starts e.split.own)) in
    omega (arith, base-at)

pub put_field-requires : goal.put_field-requires
put_field-requires c =
    let is_at : is_draft c.args.words.now c.args.values.now ≡ true = sym c.is_draft.ensures ∙ c.if-not-is_draft.false in
    let draft-at : Draft c.args.words.now c.args.values.now (run_in c.args.words.now c.args.values.now) = draft_of _ _ (is_at) in
    let told_at : LastAt (run_in c.args.words.now
    c.args.values.now) c.last_start-from.result = last-at _ _ _ (draft-at) _ _ c.row_count-count.ensures c.last_start-from.ensures in
    let entry-at : HasEntry (run_in c.args.words.now
    c.args.values.now) c.last_start-from.result = some-entry _ _ (told_at) c.if-from-eq0.false in
    let base-at : (c.fields_in-others.result + c.fields_in-own.result ≡ field_count (entry-at).split.front
    + field_count (entry-at).split.own) × (c.fields_in-others.result + c.fields_in-own.result ≤ 1024) = let e = entry-at in
    let d = draft-at in
    let n = c.row_count-count.ensures in
    let a = c.fields_in-others.ensures ∙ front-fields _ _ _ d e.split _ _ n e.starts in
    let b = c.fields_in-own.ensures ∙ own-fields _ _ _ d e.split _ _ n e.starts in
    (omega (arith, a, b), omega (arith, a, b, d.few, ap field_count e.split.whole, last-fields _ _ _ d e.split _ _ n e.starts e.split.own)) in
    let e = entry-at in
    let b = base-at in
    record { ready = last_ready _ _ _ (draft-at) e.split _ _ c.row_count-count.ensures e.starts _ _ _ b.0 c.if-value-gt8192.false (omega (arith, b.1)); blank_from = not_blank _ _ _ }

pub returns : goal.returns
returns c =
    let is_at : is_draft c.args.words.now c.args.values.now ≡ true = sym c.is_draft.ensures ∙ c.if-not-is_draft.false in
    let draft-at : Draft c.args.words.now c.args.values.now (run_in c.args.words.now c.args.values.now) = draft_of _ _ (is_at) in
    let told_at : LastAt (run_in c.args.words.now
    c.args.values.now) c.last_start-from.result = last-at _ _ _ (draft-at) _ _ c.row_count-count.ensures c.last_start-from.ensures in
    let entry-at : HasEntry (run_in c.args.words.now
    c.args.values.now) c.last_start-from.result = some-entry _ _ (told_at) c.if-from-eq0.false in
    let base-at : (c.fields_in-others.result + c.fields_in-own.result ≡ field_count (entry-at).split.front
    + field_count (entry-at).split.own) × (c.fields_in-others.result + c.fields_in-own.result ≤ 1024) = let e = entry-at in
    let d = draft-at in
    let n = c.row_count-count.ensures in
    let a = c.fields_in-others.ensures ∙ front-fields _ _ _ d e.split _ _ n e.starts in
    let b = c.fields_in-own.ensures ∙ own-fields _ _ _ d e.split _ _ n e.starts in
    (omega (arith, a, b), omega (arith, a, b, d.few, ap field_count e.split.whole, last-fields _ _ _ d e.split _ _ n e.starts e.split.own)) in
    let e = entry-at in
    let b = base-at in
    let judged = last-judged _ _ _ (draft-at) e.split _ _ c.row_count-count.ensures e.starts _ _ _ b.0 in
    c.put_field.ensures ∙ judged ∙ sym (store-last _ _ _ _ (is_at) c.if-tag-eq0.false c.if-value-gt8192.false e.split.some)
