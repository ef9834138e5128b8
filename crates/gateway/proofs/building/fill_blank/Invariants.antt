-- Blank records are stored one after the other, from `from` on.
use Rattle.std.proofs.Common.{◌-◌, ◌≡◌}
use Rattle.gateway.specs.FillingLaws.{blanks}
use Rattle.gateway.proofs.building.fill_blank.Given as goal

abbrev pub invariant-loop-i : goal.invariant-loop-i
invariant-loop-i l = l.records ≡ blanks l.fn.from l.written l.fn.records (l.i - l.fn.from)
