-- `find_from` meets its contract: finding in the part from the place on, and counting from the start again.
-- Past the end there is nothing to find.
use Rattle.std.proofs.Common.{◌≡◌, ◌+◌, sym, ◌∙◌, arith, Some}
use Rattle.field_rules.proofs.FindLaws.{rest_part}
use Rattle.frame_parser_rules.specs.Announced.{find_from}
use Rattle.frame_parser_rules.specs.AnnouncedLaws.{from_past, from-none, from_offset, from_in}
use Rattle.frame_parser.proofs.find_from.Goals as goal
use Rattle.frame_parser.proofs.find_from.Goals.{In-Some}

pub returns-then-bytes-at : goal.returns-then-bytes-at
returns-then-bytes-at c = sym (from_past _ _ _ c.if-bytes-at.true)

pub returns-in_default : goal.returns-in_default
returns-in_default c = sym (from-none _ _ _ (rw rest_part at (sym c.find.ensures ∙ c.in_default.is)))

-- the byte is found in the part from the place on
offset_at : (c : In-Some) → find_from c.args.wanted c.args.at c.args.bytes.now ≡ Some (c.args.at + c.in-Some.offset)
offset_at c = from_offset _ _ _ _ (rw rest_part at (sym c.find.ensures ∙ c.in-Some.is))

pub overflow_add-result : goal.overflow_add-result
overflow_add-result c = omega (arith, from_in _ _ _ _ (offset_at c))

pub returns : goal.returns
returns c = sym (offset_at c)
