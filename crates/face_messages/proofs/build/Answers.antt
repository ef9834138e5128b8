-- What is told is what the build's outcome holds.
use Rattle.std.proofs.Common.{◌≡◌, List, ℕ, subst}
use Rattle.build_config.specs.declared.Config.{Config}
use Rattle.builder.specs.Build.{built_told, build_of}
use Rattle.face_messages.specs.BuiltLaws.{built_told_lem}
use Rattle.face_messages.proofs.build.Goals as goal

pub returns : goal.returns
returns c =
    built_told_lem c.build.result c.build.new.words _
    (subst
    (λ (config : Config). built_told c.build.result c.build.new.words ≡ build_of c.args.message.now config c.args.dictionary.now c.args.lent c.args.words.now)
    c.config_of-config.ensures c.build.ensures)
    _ c.tell_built.ensures.value _ c.tell_built.ensures.out_after
