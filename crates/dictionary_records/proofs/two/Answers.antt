-- `two` meets its contract: two bytes, low byte first.
use Rattle.std.proofs.Common.{arith}
use Rattle.dictionary_rules.specs.RecordLaws.{low-two}
use Rattle.dictionary_records.proofs.two.Goals as goal

pub returns : goal.returns
returns c = omega (arith, c.from_le_bytes.ensures, low-two c.args.bytes.now c.args.at (omega arith))
