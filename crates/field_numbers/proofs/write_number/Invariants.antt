-- `write_number` meets its contract: at each turn the digits that are ahead, written behind those that stand, make the output what it has to become.
-- Both refusals are one: the digits, of which there is at least one, reach past the output's end.
use Rattle.std.proofs.Common.{◌+◌, ◌-◌}
use Rattle.field_rules.specs.Decimal.{decimal, written_at}
use Rattle.field_numbers.proofs.Turns.{Turn}
use Rattle.field_numbers.proofs.write_number.Given as goal

abbrev pub invariant-loop-place : goal.invariant-loop-place
invariant-loop-place l = Turn (written_at l.at (decimal l.n) l.initial.output) l.output l.fraction l.place (l.at + l.count - l.place)
