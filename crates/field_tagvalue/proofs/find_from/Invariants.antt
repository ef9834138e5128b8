-- `find_from` meets its contract. The invariant: what is left has the outcome of the whole.
use mathlib.Core.Path.{◌≡◌}
use lib.ListN.{drop}
use Rattle.field_rules.specs.Find.{find_in}
use Rattle.field_tagvalue.proofs.find_from.Given as goal

abbrev pub invariant-loop-i : goal.invariant-loop-i
invariant-loop-i l = find_in l.wanted l.start (drop l.start l.bytes) ≡ find_in l.wanted l.i (drop l.i l.bytes)
