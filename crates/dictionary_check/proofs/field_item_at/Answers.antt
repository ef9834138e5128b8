-- `field_item_at` meets its contract: a tag that is not 0 is that of a whole record.
use Rattle.std.proofs.Common.{arith}
use Rattle.std.proofs.lemmas.Option.{IfSome_then}
use Rattle.dictionary_rules.specs.RecordLaws.{at-field_item}
use Rattle.dictionary_check.proofs.field_item_at.Goals as goal

pub returns : goal.returns
returns c =
    IfSome_then _ c.tag_behind.ensures
    (λ tag told. at-field_item c.args.dictionary.now c.args.place tag (omega arith) c.if-dictionary-place-ne4.false told.0 told.1 c.if-dictionary-place-gt1.false)
