-- The caller reads what the core says, where the lent records are filled from the core's words.
use Rattle.std.proofs.Common.{List, ℕ, length, subst}
use Rattle.build_config.specs.Settings.{config_of}
use Rattle.builder.specs.Build.{build_of}
use Rattle.face_messages.specs.Lent.{built_from}
use Rattle.face_messages.specs.LentLaws.{Reads, said_whole, said_within, said_reads, written-lent}
use Rattle.gateway.proofs.building.gateway_build.Goals as goal

pub fill-requires : goal.fill-requires
fill-requires c = said_within _ _ _ _ (said_whole _ _ _ _ c.build-built.ensures) _ (written-lent _ _ _ _ _)

pub returns : goal.returns
unfolding built_from
returns c =
    let read =
    subst
    (λ (words : List ℕ). Reads (build_of c.args.message.now (config_of c.args.settings c.args.separator) c.args.dictionary.now (length c.args.records.now) words)
    c.args.records.now c.build-built.result.number c.fill.new.records c.build-built.new.out)
    c.blank_words-words.ensures (said_reads _ _ _ _ (said_whole _ _ _ _ c.build-built.ensures) _ _ c.fill.ensures) in read
