-- `hang` meets its contract: the part that is located is judged by the message that would be left.
use mathlib.Core.Path.{◌≡◌, sym, ap, ◌∙◌}
use mathlib.Core.Bool.{true}
use Prim.Native.Nat.{◌-◌}
use native.Mathlib.Omega.{arith}
use Rattle.message_maps.specs.Rows.{rows_from}
use Rattle.message_lent_rules.specs.Lent.{is_message, fields_in}
use Rattle.message_lent_rules.specs.Meaning.{message_in}
use Rattle.message_rules.specs.Changes.{field_total}
use Rattle.message_rules.specs.RowChanges.{span_of}
use Rattle.message_rules.specs.declared.Span.{Span}
use Rattle.message_rules.specs.ChangeLaws.{located_no, located_at, no_message}
use Rattle.message_rules.specs.StoreLaws.{lent_in, fields_now, span_grows}
use Rattle.message_rules.specs.Runs.{is_draft, has_untagged, run_in, hanging}
use Rattle.message_runs.specs.DraftLaws.{draft_of}
use Rattle.message_runs.specs.PartLaws.{draft_tags, hang_no_run, hang_untagged, hang-on, part_able, part-judged}
use Rattle.message_runs.proofs.hang.Goals as goal
use Rattle.message_runs.proofs.hang.Goals.{In-Some}

pub returns-in_default : goal.returns-in_default
unfolding hanging
returns-in_default c = sym (no_message _ _ _ (located_no _ _ _ (sym c.locate.ensures ∙ c.in_default.is)))

is_at : (c : In-Some) → (is_message c.args.words.now c.args.values.now ≡ true) × (c.in-Some.span ≡ span_of c.args.part (message_in c.args.words.now c.args.values.now))
is_at c = located_at _ _ _ _ (sym c.locate.ensures ∙ c.in-Some.is)

pub returns-then-not-is_draft : goal.returns-then-not-is_draft
returns-then-not-is_draft c = sym (hang_no_run _ _ _ _ _ (is_at (goal.at.returns-then-not-is_draft c).In-Some).0 (sym c.is_draft.ensures ∙ c.if-not-is_draft.true))

pub row_count-requires : goal.row_count-requires
row_count-requires c =
    let run_at : is_draft c.args.run_words.now c.args.run_values.now ≡ true = sym c.is_draft.ensures ∙ c.if-not-is_draft.false in
    (draft_of _ _ (run_at)).sized.whole

pub has_untagged-requires : goal.has_untagged-requires
has_untagged-requires c =
    let run_at : is_draft c.args.run_words.now c.args.run_values.now ≡ true = sym c.is_draft.ensures ∙ c.if-not-is_draft.false in
    let d = draft_of _ _ (run_at) in (omega (arith, c.row_count.ensures, d.sized.counted), d.sized.whole)

pub returns-then-has_untagged : goal.returns-then-has_untagged
returns-then-has_untagged c =
    let run_at : is_draft c.args.run_words.now c.args.run_values.now ≡ true = sym c.is_draft.ensures ∙ c.if-not-is_draft.false in
    let tags-at : c.has_untagged.result ≡ has_untagged (run_in c.args.run_words.now c.args.run_values.now) = c.has_untagged.ensures ∙ draft_tags _ _ _ (run_at) c.row_count.ensures in
    sym (hang_untagged _ _ _ _ _ (is_at (goal.at.returns-then-has_untagged c).In-Some).0 (run_at) (sym (tags-at) ∙ c.if-has_untagged.true))

pub fields_in-fields-requires : goal.fields_in-fields-requires
fields_in-fields-requires c = let i = lent_in _ _ _ (is_at (goal.at.fields_in-fields-requires c).In-Some).0 in let g = span_grows _ _ _ _ i in (omega arith, rw (is_at (goal.at.fields_in-fields-requires c).In-Some).1 g.2, i.sized.whole)

pub hang_in-requires : goal.hang_in-requires
hang_in-requires c =
    let run_at : is_draft c.args.run_words.now c.args.run_values.now ≡ true = sym c.is_draft.ensures ∙ c.if-not-is_draft.false in
    let fields_at : c.fields_in-fields.result ≡ field_total (message_in c.args.words.now c.args.values.now) = c.fields_in-fields.ensures
    ∙ ap (λ (s : Span). fields_in 1 (rows_from (s.count - 0) 0 c.args.words.now)) (is_at (goal.at.hang_in-requires c).In-Some).1
    ∙ fields_now _ _ _ _ (lent_in _ _ c.args.part (is_at (goal.at.hang_in-requires c).In-Some).0) in
    rw ((is_at (goal.at.hang_in-requires c).In-Some).1, fields_at) (part_able _ _ _ _ _ (is_at (goal.at.hang_in-requires c).In-Some).0 (run_at))

pub returns : goal.returns
returns c =
    let run_at : is_draft c.args.run_words.now c.args.run_values.now ≡ true = sym c.is_draft.ensures ∙ c.if-not-is_draft.false in
    let tags-at : c.has_untagged.result ≡ has_untagged (run_in c.args.run_words.now c.args.run_values.now) = c.has_untagged.ensures ∙ draft_tags _ _ _ (run_at) c.row_count.ensures in
    let fields_at : c.fields_in-fields.result ≡ field_total (message_in c.args.words.now c.args.values.now) = c.fields_in-fields.ensures
    ∙ ap (λ (s : Span). fields_in 1 (rows_from (s.count - 0) 0 c.args.words.now)) (is_at (goal.at.returns c).In-Some).1
    ∙ fields_now _ _ _ _ (lent_in _ _ c.args.part (is_at (goal.at.returns c).In-Some).0) in
    rw ((is_at (goal.at.returns c).In-Some).1, fields_at) at c.hang_in.ensures
    ∙ part-judged _ _ _ _ _ (is_at (goal.at.returns c).In-Some).0 (run_at)
    ∙ sym (hang-on _ _ _ _ _ (is_at (goal.at.returns c).In-Some).0 (run_at) (sym (tags-at) ∙ c.if-has_untagged.false))
