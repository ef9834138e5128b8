-- `known_tag_at` meets its contract: a tag that is not 0 is that of a whole record.
use Rattle.std.proofs.Common.{arith}
use Rattle.std.proofs.lemmas.Option.{IfSome_then}
use Rattle.dictionary_rules.specs.RecordLaws.{at-known_tag}
use Rattle.dictionary_check.proofs.known_tag_at.Goals as goal

pub returns : goal.returns
returns c = IfSome_then _ c.tag_behind.ensures (λ tag told. at-known_tag c.args.dictionary.now c.args.place tag (omega arith) c.if-dictionary-place-ne1.false told.0 told.1)
