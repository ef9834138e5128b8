-- `close` meets its contract: the verified CheckSum is kept behind the body, and the trailer is read behind it. Each return cites the law of its way.
use mathlib.Core.Path.{◌∙◌}
use native.Mathlib.Omega.{arith}
use Rattle.builder.specs.Finishing.{stopped-counts, unstopped-counts, close-stopped, close-unstopped, close-crowded}
use Rattle.builder.proofs.finishing.close.Goals as goal

-- the verified CheckSum lies in the message
pub record_of-checksum-requires : goal.record_of-checksum-requires
record_of-checksum-requires c = (omega (arith, c.requires.0, c.requires.2.within), omega (arith, c.requires.0, c.requires.2.within))

pub keep-requires : goal.keep-requires
keep-requires c = (omega arith, omega (arith, c.requires.3.fits))

pub read_trailer-requires : goal.read_trailer-requires
read_trailer-requires c = (c.requires.0, c.requires.3.inside, c.keep.ensures.grows, omega (arith, c.requires.3.fits, c.keep.ensures.by_one, c.keep.auto.words))

pub returns-in-Stopped : goal.returns-in-Stopped
returns-in-Stopped c = let n = stopped-counts c.args.reached.records _ _ _ c.in-Stopped.is in record {
  words_after = close-stopped _ _ _ c.args.headed.checksum _ c.args.first c.args.reached c.requires.3.starts _
      c.record_of-checksum.ensures _ _ _ c.keep.ensures c.read_trailer.ensures.words_unchanged _ c.read_trailer.ensures.words_after _ _
      c.in-Stopped.is (omega (arith, n, c.read_trailer.ensures.from_bound.0));
  records_le_record_room = omega (arith, n, c.read_trailer.ensures.from_bound.1, c.requires.3.fits, c.requires.1, c.keep.ensures.by_one);
}

pub returns-in-Unstopped : goal.returns-in-Unstopped
returns-in-Unstopped c = let n = unstopped-counts c.args.reached.records _ _ c.in-Unstopped.is in record {
  words_after = close-unstopped _ _ _ c.args.headed.checksum _ c.args.first c.args.reached c.requires.3.starts _
      c.record_of-checksum.ensures _ _ _ c.keep.ensures c.read_trailer.ensures.words_unchanged _ c.read_trailer.ensures.words_after _
      c.in-Unstopped.is (omega (arith, n, c.read_trailer.ensures.from_bound.0));
  records_le_record_room = omega (arith, n, c.read_trailer.ensures.from_bound.1, c.requires.3.fits, c.requires.1, c.keep.ensures.by_one);
}

pub returns-in-TooManyFields : goal.returns-in-TooManyFields
returns-in-TooManyFields c = record {
  words_after = c.refused.ensures.0 _
      ∙ close-crowded _ _ _ c.args.headed.checksum _ c.args.first c.args.reached c.requires.3.starts _
      c.record_of-checksum.ensures _ _ _ c.keep.ensures c.read_trailer.ensures.words_unchanged _ c.read_trailer.ensures.words_after
      c.in-TooManyFields.is;
  records_le_record_room = omega (arith, c.refused.ensures.1, c.requires.3.starts, c.requires.3.fits, c.requires.1);
}
