-- `eight` meets its contract: four bytes and four, low half first.
use Rattle.std.proofs.Common.{arith}
use Rattle.dictionary_rules.specs.RecordLaws.{low-four, low-whole}
use Rattle.dictionary_records.proofs.eight.Goals as goal

pub returns : goal.returns
returns c =
    omega (
      arith,
      c.from_le_bytes.ensures,
      low-whole c.args.bytes.now (omega arith),
      low-four c.args.bytes.now 0 (omega arith),
      low-four c.args.bytes.now 4 (omega arith),
    )
