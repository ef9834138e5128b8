-- `verdict_of` meets its contract. Each stage that ended keeps what was read in a lemma typed by its place in the code; each return cites
-- the law of `HeadStages` for its way.
use mathlib.Core.Path.{sym, ◌∙◌}
use native.Mathlib.Omega.{arith}
use Rattle.frame_verdict_rules.specs.Frame.{begin_tag}
use Rattle.frame_verdict.proofs.Places.{Reached, refused}
use Rattle.frame_verdict.proofs.HeadStages.{whole, after_open, open_refused, open_read, begin-refused, Begun, begin_read_lem, number-refused, Numbered}
use Rattle.frame_verdict.proofs.HeadStages.{number_read, Body, length-read, length-refused, length_waits, as_whole, as_body}
use Rattle.frame_verdict.proofs.verdict_of.Goals as goal
use Rattle.frame_verdict.proofs.verdict_of.Goals.{In-On, In-On-begun, In-On-numbered}

pub returns-in_default : goal.returns-in_default
returns-in_default c = as_whole _ _ _ c.verdict_from.ensures (open_refused _ _ c.literal_at-opened.ensures (refused _ c.in_default.not-On))

opened : (c : In-On) → let s = c.args.bytes.now in
    Reached (whole s) s after_open begin_tag c.in-On.begin
opened c = open_read _ _ (sym c.in-On.is ∙ c.literal_at-opened.ensures)

pub begin_string_at-begun-requires : goal.begin_string_at-begun-requires
begin_string_at-begun-requires c = (opened c).inside

pub returns-in_default-begun : goal.returns-in_default-begun
returns-in_default-begun c = as_whole _ _ _ c.verdict_from-in_default-begun.ensures (begin-refused _ _ (opened (goal.at.returns-in_default-begun c).In-On) _ c.begin_string_at-begun.ensures
    (refused _ c.in_default-begun.not-On))

begun : (c : In-On-begun) → Begun c.args.bytes.now c.in-On-begun.tag
begun c = begin_read_lem _ _ _ (open_read _ _ (sym c.in-On.is ∙ c.literal_at-opened.ensures)) (sym c.in-On-begun.is ∙ c.begin_string_at-begun.ensures)

pub literal_at-numbered-requires : goal.literal_at-numbered-requires
literal_at-numbered-requires c = (begun (goal.at.literal_at-numbered-requires c).In-On-begun).reached.inside

pub returns-in_default-numbered : goal.returns-in_default-numbered
returns-in_default-numbered c =
    as_whole _ _ _ c.verdict_from-in_default-numbered.ensures (number-refused _ _ (begun (goal.at.returns-in_default-numbered c).In-On-begun) _ c.literal_at-numbered.ensures
    (refused _ c.in_default-numbered.not-On))

numbered : (c : In-On-numbered) → Numbered c.args.bytes.now c.in-On-numbered.digits
numbered c =
    let begun = begin_read_lem _ _ _ (open_read _ _ (sym c.in-On.is ∙ c.literal_at-opened.ensures)) (sym c.in-On-begun.is ∙ c.begin_string_at-begun.ensures) in
    number_read _ _ _ begun (sym c.in-On-numbered.is ∙ c.literal_at-numbered.ensures)

pub overflow_sub-digits : goal.overflow_sub-digits
overflow_sub-digits c = (numbered (goal.at.overflow_sub-digits c).In-On-numbered).wide.1

pub body_length_at-announced-requires : goal.body_length_at-announced-requires
body_length_at-announced-requires c =
    let numbered = numbered (goal.at.body_length_at-announced-requires c).In-On-numbered in (numbered.reached.inside, numbered.wide.0, omega arith)

pub verdict_of_body-requires : goal.verdict_of_body-requires
verdict_of_body-requires c =
    let body : Body c.args.bytes.now c.in-Announced.n c.in-Announced.body = length-read _ _ (numbered (goal.at.verdict_of_body-requires c).In-On-numbered) _ _ (sym c.in-Announced.is ∙ c.body_length_at-announced.ensures) in
    (body.inside, body.early, body.least, body.most)

pub returns-in-Announced : goal.returns-in-Announced
returns-in-Announced c =
    let body : Body c.args.bytes.now c.in-Announced.n c.in-Announced.body = length-read _ _ (numbered (goal.at.returns-in-Announced c).In-On-numbered) _ _ (sym c.in-Announced.is ∙ c.body_length_at-announced.ensures) in
    as_body _ _ _ _ body c.verdict_of_body.ensures

pub returns-in-BadLength : goal.returns-in-BadLength
returns-in-BadLength c =
    length-refused _ _ (numbered (goal.at.returns-in-BadLength c).In-On-numbered) (sym c.in-BadLength.is ∙ c.body_length_at-announced.ensures)

pub returns-in-ShortLength : goal.returns-in-ShortLength
returns-in-ShortLength c =
    length_waits _ _ (numbered (goal.at.returns-in-ShortLength c).In-On-numbered) (sym c.in-ShortLength.is ∙ c.body_length_at-announced.ensures)
