-- `begin` meets its contract: integrity verifies the first fields, and the rest of the header is read behind them. Each return cites the law
-- of its way; every field that was read lies in the message, MsgType and CheckSum too.
use mathlib.Core.Path.{◌≡◌, sym, ◌∙◌}
use native.Mathlib.Omega.{arith}
use Rattle.build_integrity_rules.specs.Integrity.{integrity_of}
use Rattle.field_rules.proofs.FieldsLaws.{step-inside}
use Rattle.builder.specs.MsgTypeLaws.{msg_type-inside}
use Rattle.build_integrity_rules.proofs.VerifiedLaws.{verified-read}
use Rattle.builder.specs.BeginningLaws.{verified-inside, start_garbled, start-refused, start-headed, header-ended, begins-refused, begins-headed}
use Rattle.builder.proofs.beginning.begin.Goals as goal
use Rattle.builder.proofs.beginning.begin.Goals.{In-Ok}
use Rattle.std.proofs.Common.{Ok}

-- the frame is sound
sound : (c : In-Ok) → integrity_of c.args.config.mode c.args.message.now ≡ Ok c.in-Ok.verified
sound c = sym c.verify.ensures ∙ c.in-Ok.is

pub keep_verified-requires : goal.keep_verified-requires
keep_verified-requires c = (omega (arith, c.requires.1), verified-inside _ _ _ (sound (goal.at.keep_verified-requires c).In-Ok) c.requires.0)

pub read_header-requires : goal.read_header-requires
read_header-requires c = (c.requires.0, omega (arith, c.requires.1, c.keep_verified.ensures.1, c.keep_verified.auto.words))

pub returns-in-Err : goal.returns-in-Err
returns-in-Err c = record { words_after = start_garbled _ _ _ _ _ (sym c.verify.ensures ∙ c.in-Err.is); begins = begins-refused _ _ _ }

pub returns-in-Err-read_header : goal.returns-in-Err-read_header
returns-in-Err-read_header c = record { words_after = start-refused _ _ _ _ _ _ _ c.keep_verified.ensures.0 _ c.read_header.ensures.words_after (sound (goal.at.returns-in-Err-read_header c).In-Ok) _ c.in-Err-read_header.is; begins = begins-refused _ _ _ }

pub returns-in-Ok-read_header : goal.returns-in-Ok-read_header
returns-in-Ok-read_header c = let ends = c.read_header.ensures.stays.ends _ _ c.in-Ok-read_header.is in record {
  words_after = start-headed _ _ _ _ _ _ _ c.keep_verified.ensures.0 _ c.read_header.ensures.words_after (sound (goal.at.returns-in-Ok-read_header c).In-Ok) _ _ c.in-Ok-read_header.is;
  begins = begins-headed _ _ _ (record {
    stops = ends.inside;
    sums = step-inside _ _ _ _ (verified-read _ _ _ (sound (goal.at.returns-in-Ok-read_header c).In-Ok)).sums;
    fits = omega (arith, ends.fits, c.read_header.auto.words);
    types = msg_type-inside _ c.args.config _ _ _ _ _ _ (sound (goal.at.returns-in-Ok-read_header c).In-Ok) (header-ended _ _ _ _ _ _ _ c.keep_verified.ensures.0 _ c.read_header.ensures.words_after _ _ c.in-Ok-read_header.is);
  });
}
