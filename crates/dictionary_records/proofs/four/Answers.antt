-- `four` meets its contract: four bytes, low byte first.
use Rattle.std.proofs.Common.{◌≡◌, ◌+◌, arith}
use Rattle.dictionary_rules.specs.RecordLaws.{low-four}
use Rattle.dictionary_records.proofs.four.Goals as goal

pub returns : goal.returns
returns c =
    let last : c.args.at + 2 + 1 ≡ c.args.at + 3 = omega arith in
    omega (arith, c.from_le_bytes.ensures, rw last at (low-four c.args.bytes.now c.args.at (omega arith)))
