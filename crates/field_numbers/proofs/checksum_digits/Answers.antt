-- `checksum_digits` meets its contract: its code is the definition.
use Rattle.std.proofs.Common.{refl}
use Rattle.field_rules.specs.CheckSum.{checksum_digits}
use Rattle.field_numbers.proofs.checksum_digits.Goals as goal

pub returns : goal.returns
unfolding checksum_digits
returns c = refl
