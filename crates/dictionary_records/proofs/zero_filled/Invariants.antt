-- `zero_filled` meets its contract. The invariant: what is left, after a zero or not, decides as the whole does.
use Rattle.std.proofs.Common.{◌≡◌, false, drop}
use Rattle.dictionary_rules.specs.Record.{zero_filled}
use Rattle.dictionary_records.proofs.zero_filled.Given as goal

abbrev pub invariant-loop-byte : goal.invariant-loop-byte
invariant-loop-byte l = zero_filled false l.text ≡ zero_filled l.ended (drop l.byte-index l.text)
