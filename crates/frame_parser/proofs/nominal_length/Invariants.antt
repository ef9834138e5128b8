-- `nominal_length` meets its contract. The invariant: what is left of the text makes, after n, the number of the whole text.
-- A turn is one step of the definition.
use Rattle.std.proofs.Common.{◌≡◌, drop}
use Rattle.frame_parser_rules.specs.Announced.{nominal}
use Rattle.frame_parser.proofs.nominal_length.Given as goal

abbrev pub invariant-loop-byte : goal.invariant-loop-byte
invariant-loop-byte l = nominal 0 l.text ≡ nominal l.n (drop l.byte-index l.text)
