-- `read_tag` meets its contract. The invariant: no `=` stands before the place, and what stands there is digits worth the tag so far.
use mathlib.Core.Path.{◌≡◌}
use mathlib.Core.Bool.{true}
use Prim.Native.Nat.{◌≤◌}
use lib.ListN.{drop, take}
use Rattle.field_rules.specs.Find.{find_in}
use Rattle.field_rules.specs.Number.{all_digits, worth}
use Rattle.field_tagvalue.proofs.read_tag.Given as goal

abbrev pub invariant-loop-i : goal.invariant-loop-i
invariant-loop-i l = record {
  small : l.tag ≤ 4294967295;
  none : find_in 61 0 l.rest ≡ find_in 61 l.i (drop l.i l.rest);
  digits : all_digits (take l.i l.rest) ≡ true;
  value : worth 0 (take l.i l.rest) ≡ l.tag;
}
