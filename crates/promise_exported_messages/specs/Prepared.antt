-- THEOREM 7 through the exports: a build over memory that was prepared is the build with the dictionary that was prepared there. So what is promised
-- of `gateway_build` (theorems 1, 2 and 5) is promised of `gateway_build_prepared`.
use Rattle.std.specs.Prelude.{ℕ, ◌≡◌, refl, List, length, replicate}
use Rattle.std.proofs.Common.{sym, ap, ◌∙◌}
use Rattle.build_config.specs.Settings.{config_of}
use Rattle.build_records.specs.Records.{record_words}
use Rattle.build_answers.specs.Answer.{number_of, values_of}
use Rattle.builder.specs.Build.{BuildOutcome}
use Rattle.builder.proofs.ThroughLaws.{over_means}
use Rattle.dictionary_meaning_rules.proofs.MsgTypeText.{Bytes}
use Rattle.dictionary_prepared.specs.Memory.{preparation, prepared, preparing_of, copy_of, memory_of}
use Rattle.dictionary_prepared.proofs.MemoryLaws.{zero_ready}
use Rattle.dictionary_prepared.specs.declared.Preparing.TheVariants.{Ready}
use Rattle.face_told.specs.Told.{told}
use Rattle.face_messages.specs.declared.FieldRecord.{FieldRecord}
use Rattle.face_messages.specs.Lent.{built_from, built_over, records_lent}
use Rattle.promise_exported_messages.specs.Exports.{Builds, Prepares, BuildsPrepared}

module _ (dictionary copy memory : List ℕ) (c m told₁ : List ℕ) (p : Prepares dictionary copy memory 0 c m told₁) (bytes : Bytes dictionary) where
  -- what an answer of 0 left
  ready : prepared Ready c m ≡ preparation dictionary copy memory
  ready =
      ap (λ (l : List ℕ). prepared Ready l m) p.leaves-copy
      ∙ ap (λ (l : List ℕ). prepared Ready (copy_of (preparation dictionary copy memory)) l) p.leaves-memory
      ∙ zero_ready dictionary copy memory (sym p.answers)

  pub prepared_builds : (message : List ℕ) → Bytes message → (separator settings : ℕ) (records : List FieldRecord) (number : ℕ) (left : List FieldRecord) (out : List ℕ)
      → BuildsPrepared message separator settings c m records number left out → Builds message separator settings dictionary records number left out
  prepared_builds message text separator settings records number left out b = record {
    answers = b.answers ∙ ap (λ (o : BuildOutcome). number_of o.answer) same;
    fills = b.fills ∙ ap (λ (o : BuildOutcome). records_lent o records) same;
    tells = b.tells ∙ ap (λ (o : BuildOutcome). told o.records (values_of o.answer)) same;
  }
    where
      same : built_over message separator settings c m (length records) ≡ built_from message separator settings dictionary (length records)
      same = unfold built_over built_from in over_means dictionary copy memory c m ready bytes message text (config_of settings separator) (length records) (replicate record_words 0)
