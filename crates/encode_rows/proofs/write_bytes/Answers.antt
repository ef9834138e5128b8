-- `write_bytes` meets its contract: what is copied is what is written.
use mathlib.Core.Path.{refl}
use Rattle.encode_rows.specs.WritingLaws.{bytes-written}
use Rattle.encode_rows.proofs.write_bytes.Goals as goal

pub returns : goal.returns
returns c = record { value = refl; output_after = bytes-written c.args.at c.args.text.now c.args.output.now _ c.requires c.copy.ensures.target_after }
