-- `number_of` meets its contract. The invariant: what is left of the text decides whether all of it is digits, and what it is worth
-- after n. A number past the limit stays past it, whatever follows.
use Rattle.std.proofs.Common.{◌≡◌, ◌≤◌, drop}
use Rattle.field_rules.specs.Number.{worth, all_digits}
use Rattle.field_numbers.proofs.number_of.Given as goal

abbrev pub invariant-loop-byte : goal.invariant-loop-byte
invariant-loop-byte l = record {
  small : l.n ≤ 4294967295;
  digits : all_digits l.text ≡ all_digits (drop l.byte-index l.text);
  value : worth 0 l.text ≡ worth l.n (drop l.byte-index l.text);
}
