-- `verdict_of_body` meets its contract. Each stage that ended keeps its place in a lemma typed by the place in the code; each return cites
-- the law of `BodyStages` for its way.
use mathlib.Core.Path.{◌≡◌, sym, ap, ◌∙◌}
use mathlib.Core.List.{List, [], ◌∷◌}
use Prim.Native.Nat.{ℕ, ◌+◌, ◌-◌, ◌%◌}
use native.Mathlib.Omega.{arith}
use lib.ListN.{drop, length-take}
use Rattle.field_rules.specs.CheckSum.{sum_of, checksum_digits}
use Rattle.frame_verdict_rules.specs.Frame.{separator, type_tag, sum_tag}
use Rattle.frame_verdict_rules.specs.Readers.{literal}
use Rattle.frame_verdict_rules.specs.Verdict.{checksum_for, stage_of, as_verdict}
use Rattle.frame_verdict_rules.specs.declared.Stage.TheVariants.{On}
use Rattle.frame_verdict.proofs.Places.{refused}
use Rattle.frame_verdict.proofs.BodyStages.{all, type-refused, middle-short, end_refused, end-inside, summed, tag-refused, tag-inside, sum-refused}
use Rattle.frame_verdict.proofs.BodyStages.{sum_inside, closed}
use Rattle.frame_verdict.proofs.verdict_of_body.Goals as goal
use Rattle.frame_verdict.proofs.verdict_of_body.Goals.{In-On, In-On-ended, In-On-tagged, After-literal_at-summed}

pub returns-in_default : goal.returns-in_default
returns-in_default c = c.verdict_from.ensures ∙ ap as_verdict (type-refused _ _ _ c.requires.0 c.requires.2 _ c.literal_at-typed.ensures
    (refused _ c.in_default.not-On))

-- `35=` was read
type-on : (c : In-On) → On c.in-On.field-0 ≡ stage_of c.args.bytes.now (literal type_tag (drop c.args.body c.args.bytes.now))
type-on c = sym c.in-On.is ∙ c.literal_at-typed.ensures

pub returns-then-bytes-last : goal.returns-then-bytes-last
returns-then-bytes-last c = middle-short _ _ _ c.requires.0 c.requires.2 _ (type-on (goal.at.returns-then-bytes-last c).In-On) (omega arith)

pub returns-in_default-ended : goal.returns-in_default-ended
returns-in_default-ended c = c.verdict_from-in_default-ended.ensures ∙ ap as_verdict (end_refused _ _ _ c.requires.0 c.requires.2 _ (type-on (goal.at.returns-in_default-ended c).In-On) (omega arith) _
    c.literal_at-ended.ensures (refused _ c.in_default-ended.not-On))

-- the separator that ends the N bytes was read
end_on : (c : In-On-ended) → On c.in-On-ended.tag ≡ stage_of c.args.bytes.now (literal (separator ∷ []) (drop (c.args.body + c.args.n - 1) c.args.bytes.now))
end_on c = sym c.in-On-ended.is ∙ c.literal_at-ended.ensures

pub literal_at-tagged-requires : goal.literal_at-tagged-requires
literal_at-tagged-requires c = end-inside _ _ _ c.requires.0 c.requires.2 _ (type-on (goal.at.literal_at-tagged-requires c).In-On) (omega arith) _ (end_on (goal.at.literal_at-tagged-requires c).In-On-ended)

pub returns-in_default-tagged : goal.returns-in_default-tagged
returns-in_default-tagged c = c.verdict_from-in_default-tagged.ensures ∙ ap as_verdict (tag-refused _ _ _ c.requires.0 c.requires.2 _ (type-on (goal.at.returns-in_default-tagged c).In-On) (omega arith) _
    (end_on (goal.at.returns-in_default-tagged c).In-On-ended) _ c.literal_at-tagged.ensures (refused _ c.in_default-tagged.not-On))

-- `10=` was read
tag-on : (c : In-On-tagged) → On c.in-On-tagged.sum ≡ stage_of c.args.bytes.now (literal sum_tag (drop c.in-On-ended.tag c.args.bytes.now))
tag-on c = sym c.in-On-tagged.is ∙ c.literal_at-tagged.ensures

pub slice_bounds-sum_of-end : goal.slice_bounds-sum_of-end
slice_bounds-sum_of-end c = simp length-take (omega (arith, end-inside _ _ _ c.requires.0 c.requires.2 _ (type-on (goal.at.slice_bounds-sum_of-end c).In-On) (omega arith) _ (end_on (goal.at.slice_bounds-sum_of-end c).In-On-ended)))

pub literal_at-summed-requires : goal.literal_at-summed-requires
literal_at-summed-requires c = tag-inside _ _ _ c.requires.0 c.requires.2 _ (type-on (goal.at.literal_at-summed-requires c).In-On) (omega arith) _ (end_on (goal.at.literal_at-summed-requires c).In-On-ended) _ (tag-on (goal.at.literal_at-summed-requires c).In-On-tagged)

-- the digits that are wanted are those of the sum
summed_lem : (c : After-literal_at-summed) → c.literal_at-summed.result ≡ stage_of c.args.bytes.now (literal (checksum_for (all c.args.bytes.now c.args.body c.args.n)) (drop c.in-On-tagged.sum c.args.bytes.now))
unfolding checksum_for
summed_lem c =
    let bytes = summed _ _ _ c.requires.0 c.requires.2 _ (sym c.in-On.is ∙ c.literal_at-typed.ensures) (omega arith) _ (sym c.in-On-ended.is ∙ c.literal_at-ended.ensures) in
    let digits = c.checksum_digits-digits.ensures ∙ ap checksum_digits (c.sum_of.ensures ∙ ap (λ (x : List ℕ). sum_of x % 256) bytes) in
    c.literal_at-summed.ensures ∙ ap (λ (wanted : List ℕ). stage_of c.args.bytes.now (literal wanted (drop c.in-On-tagged.sum c.args.bytes.now))) digits

pub returns-in_default-summed : goal.returns-in_default-summed
returns-in_default-summed c =
    c.verdict_from-in_default-summed.ensures ∙ ap as_verdict (sum-refused _ _ _ c.requires.0 c.requires.2 _ (type-on (goal.at.returns-in_default-summed c).In-On) (omega arith) _
    (end_on (goal.at.returns-in_default-summed c).In-On-ended) _ (tag-on (goal.at.returns-in_default-summed c).In-On-tagged) _ (summed_lem (goal.at.returns-in_default-summed c).After-literal_at-summed) (refused _ c.in_default-summed.not-On))

pub literal_at-requires : goal.literal_at-requires
literal_at-requires c =
    sum_inside _ _ _ c.requires.0 c.requires.2 _ (type-on (goal.at.literal_at-requires c).In-On) (omega arith) _ (end_on (goal.at.literal_at-requires c).In-On-ended) _ (tag-on (goal.at.literal_at-requires c).In-On-tagged) _
    (sym c.in-On-summed.is ∙ summed_lem (goal.at.literal_at-requires c).After-literal_at-summed)

pub returns : goal.returns
returns c =
    c.verdict_from-2.ensures ∙ ap as_verdict (closed _ _ _ c.requires.0 c.requires.2 _ (type-on (goal.at.returns c).In-On) (omega arith) _
    (end_on (goal.at.returns c).In-On-ended) _ (tag-on (goal.at.returns c).In-On-tagged) _ (sym c.in-On-summed.is ∙ summed_lem (goal.at.returns c).After-literal_at-summed) _ c.literal_at.ensures)
