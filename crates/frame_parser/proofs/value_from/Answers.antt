-- `value_from` meets its contract: `=` from the place on, then the separator behind it.
-- Each return cites the law of its way.
use Rattle.std.proofs.Common.{◌≡◌, sym, ◌∙◌, arith, Some}
use Rattle.frame_parser_rules.specs.Announced.{find_from}
use Rattle.frame_parser_rules.specs.AnnouncedLaws.{from_in, value_no_equals, value_no_separator, value_between}
use Rattle.frame_parser.proofs.value_from.Goals as goal
use Rattle.frame_parser.proofs.value_from.Goals.{In-Some}

pub returns-in_default : goal.returns-in_default
returns-in_default c = sym (value_no_equals _ _ (sym c.find_from.ensures ∙ c.in_default.is))

-- the place of `=`
equals-at : (c : In-Some) → find_from 61 c.args.at c.args.held.now ≡ Some c.in-Some.equals
equals-at c = sym c.find_from.ensures ∙ c.in-Some.is

pub overflow_add-first : goal.overflow_add-first
overflow_add-first c = omega (arith, from_in _ _ _ _ (equals-at c))

pub returns-in_default-find_from : goal.returns-in_default-find_from
returns-in_default-find_from c = sym (value_no_separator _ _ _ (equals-at (goal.at.returns-in_default-find_from c).In-Some) (sym c.find_from-2.ensures ∙ c.in_default-find_from.is))

pub returns : goal.returns
returns c = sym (value_between _ _ _ _ (equals-at (goal.at.returns c).In-Some) (sym c.find_from-2.ensures ∙ c.in-Some-find_from.is))
