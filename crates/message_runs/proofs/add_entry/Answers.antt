-- `add_entry` meets its contract: the head of the entry is inserted behind all rows.
use mathlib.Core.Path.{◌≡◌, sym, ap, ◌∙◌}
use mathlib.Core.Bool.{true}
use Prim.Native.Nat.{ℕ, ◌+◌}
use native.Mathlib.Omega.{arith}
use Rattle.message_maps.specs.Map.{end, entry, joined, field_count}
use Rattle.message_rules.specs.Runs.{is_draft, run_in, judged_run, entering}
use Rattle.message_runs.specs.DraftLaws.{Draft, draft_of, draft_no, draft_yes}
use Rattle.message_runs.specs.EnterLaws.{fields_now, enter_able, enter_done}
use Rattle.message_rules.specs.BlankLaws.{not_blank}
use Rattle.message_runs.proofs.add_entry.Goals as goal

pub returns-then-not-is_draft : goal.returns-then-not-is_draft
unfolding entering
returns-then-not-is_draft c = sym (draft_no _ _ _ _ (sym c.is_draft.ensures ∙ c.if-not-is_draft.true))

pub row_count-count-requires : goal.row_count-count-requires
row_count-count-requires c =
    let is_at : is_draft c.args.words.now c.args.values.now ≡ true = sym c.is_draft.ensures ∙ c.if-not-is_draft.false in
    let draft-at : Draft c.args.words.now c.args.values.now (run_in c.args.words.now c.args.values.now) = draft_of _ _ (is_at) in
    (draft-at).sized.whole

pub fields_in-fields-requires : goal.fields_in-fields-requires
fields_in-fields-requires c =
    let is_at : is_draft c.args.words.now c.args.values.now ≡ true = sym c.is_draft.ensures ∙ c.if-not-is_draft.false in
    let draft-at : Draft c.args.words.now c.args.values.now (run_in c.args.words.now c.args.values.now) = draft_of _ _ (is_at) in
    let d = draft-at in (omega arith, omega (arith, c.row_count-count.ensures, d.sized.counted), d.sized.whole)

pub overflow_add-fields : goal.overflow_add-fields
overflow_add-fields c =
    let is_at : is_draft c.args.words.now c.args.values.now ≡ true = sym c.is_draft.ensures ∙ c.if-not-is_draft.false in
    let draft-at : Draft c.args.words.now c.args.values.now (run_in c.args.words.now c.args.values.now) = draft_of _ _ (is_at) in
    let fields_at : c.fields_in-fields.result ≡ field_count (run_in c.args.words.now c.args.values.now) = c.fields_in-fields.ensures ∙ fields_now _ _ _ (draft-at) _ c.row_count-count.ensures in
    let d = draft-at in omega (arith, fields_at, d.few)

pub cut_rows-requires : goal.cut_rows-requires
cut_rows-requires c =
    let is_at : is_draft c.args.words.now c.args.values.now ≡ true = sym c.is_draft.ensures ∙ c.if-not-is_draft.false in
    let draft-at : Draft c.args.words.now c.args.values.now (run_in c.args.words.now c.args.values.now) = draft_of _ _ (is_at) in
    let fields_at : c.fields_in-fields.result ≡ field_count (run_in c.args.words.now c.args.values.now) = c.fields_in-fields.ensures ∙ fields_now _ _ _ (draft-at) _ c.row_count-count.ensures in
    record { cuttable = enter_able _ _ _ (draft-at) _ _ _ _ c.row_count-count.ensures (ap (λ (n : ℕ). n + 1) (fields_at)); blank_from = not_blank _ _ _ }

pub returns : goal.returns
unfolding entering
returns c =
    let is_at : is_draft c.args.words.now c.args.values.now ≡ true = sym c.is_draft.ensures ∙ c.if-not-is_draft.false in
    let draft-at : Draft c.args.words.now c.args.values.now (run_in c.args.words.now c.args.values.now) = draft_of _ _ (is_at) in
    let entered_at : entering c.args.start c.args.delimiter c.args.words.now c.args.values.now
    ≡ judged_run c.args.words.now c.args.values.now true (joined (run_in c.args.words.now c.args.values.now) (entry c.args.start c.args.delimiter end end)) = draft_yes _ _ _ _ (is_at) in
    let fields_at : c.fields_in-fields.result ≡ field_count (run_in c.args.words.now c.args.values.now) = c.fields_in-fields.ensures ∙ fields_now _ _ _ (draft-at) _ c.row_count-count.ensures in
    c.cut_rows.ensures
    ∙ enter_done _ _ _ (draft-at) _ _ _ _ c.row_count-count.ensures (ap (λ (n : ℕ). n + 1) (fields_at))
    ∙ sym (entered_at)
