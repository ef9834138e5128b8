-- `announced_in` meets its contract. Each let-else keeps what was found in a lemma typed by its place.
-- The sum of the message end is made only where it is small; where it is not, the definition says so without making it.
use Rattle.std.proofs.Common.{◌≡◌, ℕ, ◌+◌, sym, ap, ◌∙◌, arith, Some}
use Rattle.frame_parser_rules.specs.Announced.{value_from, message_end, limited, announced_in}
use Rattle.frame_parser_rules.specs.AnnouncedLaws.{value_in, announced_no_first, announced_no_second, announced_second, limit_over, limit_ends}
use Rattle.frame_parser_rules.specs.declared.Announced.TheVariants.{Ends}
use Rattle.frame_parser.proofs.announced_in.Goals as goal
use Rattle.frame_parser.proofs.announced_in.Goals.{In-Some, In-Some-value_from, After-nominal_length-length}

pub returns-in_default : goal.returns-in_default
returns-in_default c = sym (announced_no_first _ (sym c.value_from.ensures ∙ c.in_default.is))

-- the first value
first-at : (c : In-Some) → value_from 0 c.args.held.now ≡ Some (c.in-Some.field-0-0, c.in-Some.begin_end)
first-at c = sym c.value_from.ensures ∙ c.in-Some.is

pub overflow_add-begin_end : goal.overflow_add-begin_end
overflow_add-begin_end c = omega (arith, value_in _ _ _ _ (first-at c))

pub returns-in_default-value_from : goal.returns-in_default-value_from
returns-in_default-value_from c = sym (announced_no_second _ _ _ (first-at (goal.at.returns-in_default-value_from c).In-Some) (sym c.value_from-2.ensures ∙ c.in_default-value_from.is))

-- the second value
second_at : (c : In-Some-value_from) → value_from (c.in-Some.begin_end + 1) c.args.held.now ≡ Some (c.in-Some-value_from.first, c.in-Some-value_from.last)
second_at c = sym c.value_from-2.ensures ∙ c.in-Some-value_from.is

pub slice_bounds-nominal_length-count : goal.slice_bounds-nominal_length-count
slice_bounds-nominal_length-count c = omega (arith, value_in _ _ _ _ (second_at c))

pub slice_bounds-nominal_length-start : goal.slice_bounds-nominal_length-start
slice_bounds-nominal_length-start c = omega (arith, value_in _ _ _ _ (second_at c))

pub slice_bounds-nominal_length-end : goal.slice_bounds-nominal_length-end
slice_bounds-nominal_length-end c = omega (arith, value_in _ _ _ _ (second_at c))

pub overflow_add-head : goal.overflow_add-head
overflow_add-head c = omega (arith, value_in _ _ _ _ (second_at (goal.at.overflow_add-head c).In-Some-value_from))

pub overflow_add-head-2 : goal.overflow_add-head-2
overflow_add-head-2 c = omega (arith, value_in _ _ _ _ (second_at (goal.at.overflow_add-head-2 c).In-Some-value_from))

-- what is announced, by the length that was read
announced-at : (c : After-nominal_length-length) → announced_in c.args.held.now ≡ limited (message_end c.in-Some-value_from.last c.nominal_length-length.result)
announced-at c = announced_second _ _ _ (sym c.value_from.ensures ∙ c.in-Some.is) _ _ (sym c.value_from-2.ensures ∙ c.in-Some-value_from.is)
    ∙ ap (λ (n : ℕ). limited (message_end c.in-Some-value_from.last n)) (sym c.nominal_length-length.ensures)

pub returns-then-head-gt-MESSAGE_LIMIT : goal.returns-then-head-gt-MESSAGE_LIMIT
unfolding message_end
returns-then-head-gt-MESSAGE_LIMIT c = sym (announced-at (goal.at.returns-then-head-gt-MESSAGE_LIMIT c).After-nominal_length-length ∙ limit_over _ (omega arith))

pub returns-then-head-length : goal.returns-then-head-length
unfolding message_end
returns-then-head-length c = sym (announced-at (goal.at.returns-then-head-length c).After-nominal_length-length ∙ limit_over _ (omega arith))

pub returns : goal.returns
unfolding message_end
returns c = sym (announced-at (goal.at.returns c).After-nominal_length-length ∙ limit_ends _ (omega arith) ∙ ap Ends (omega arith))
