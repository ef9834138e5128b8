-- What is told is what the outcome of the build over memory holds, of its words those of the records.
use Rattle.std.proofs.Common.{◌≡◌, List, ℕ, subst}
use Rattle.build_config.specs.declared.Config.{Config}
use Rattle.builder.specs.Build.{built_told, shown_words}
use Rattle.builder.specs.Through.{build_over}
use Rattle.face_messages.specs.BuiltLaws.{unblanked_told}
use Rattle.face_messages.proofs.build_prepared.Goals as goal

pub returns : goal.returns
returns c =
    let built = c.build_unblanked.result in
    let words = c.build_unblanked.new.words in
    unblanked_told built words _
    (subst
    (λ (config : Config). built_told built (shown_words built words) ≡ build_over c.args.message.now config c.args.copy.now c.args.memory.now c.args.lent c.args.words.now)
    c.config_of-config.ensures c.build_unblanked.ensures.words_after)
    c.build_unblanked.ensures.records_le_record_room _ c.tell_built.ensures.value _ c.tell_built.ensures.out_after
