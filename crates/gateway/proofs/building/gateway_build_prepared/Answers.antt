-- The caller reads what the core says, where the lent records are filled from those of the core's words that are shown.
use Rattle.std.proofs.Common.{List, ℕ, length, subst}
use Rattle.build_config.specs.Settings.{config_of}
use Rattle.builder.specs.Through.{build_over}
use Rattle.face_messages.specs.Lent.{built_over}
use Rattle.face_messages.specs.LentLaws.{Reads, said_within, said_reads, written_over}
use Rattle.gateway.proofs.building.gateway_build_prepared.Goals as goal

pub fill-requires : goal.fill-requires
fill-requires c = said_within _ _ _ _ c.build_prepared-built.ensures _ (written_over _ _ _ _ _ _)

pub returns : goal.returns
unfolding built_over
returns c =
    let read =
    subst
    (λ (words : List ℕ). Reads (build_over c.args.message.now (config_of c.args.settings c.args.separator) c.args.copy.now c.args.memory.now (length c.args.records.now) words)
    c.args.records.now c.build_prepared-built.result.number c.fill.new.records c.build_prepared-built.new.out)
    c.blank_words-words.ensures (said_reads _ _ _ _ c.build_prepared-built.ensures _ _ c.fill.ensures) in read
