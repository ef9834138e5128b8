-- `checksum_of` meets its contract, by its two cases.
use Rattle.std.proofs.Common.{sym, ◌∙◌}
use Rattle.field_rules.proofs.NumberLaws.{checksum_other, checksum_three}
use Rattle.field_numbers.proofs.checksum_of.Goals as goal

pub returns-then-value-ne3 : goal.returns-then-value-ne3
returns-then-value-ne3 c = sym (checksum_other _ c.if-value-ne3.true)

pub returns : goal.returns
returns c = c.number_of.ensures ∙ sym (checksum_three _ c.if-value-ne3.false)
