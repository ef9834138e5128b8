-- Each field that integrity verified was read in the message, so a record can hold it. Stored in their order these records start the header,
-- and what the code reads behind them is the rest of it.
use Rattle.std.specs.Prelude.{◌≡◌, List, ℕ, ◌<◌, ◌^◌, length, Result, Ok, Err}
use Rattle.std.proofs.Math.Path.{sym}
use Rattle.std.proofs.Common.{◌∙◌, arith}
use Rattle.field_rules.specs.declared.Mode.{Mode}
use Rattle.build_config.specs.declared.Config.{Config}
use Rattle.field_rules.specs.Fields.{fields_from}
use Rattle.field_rules.specs.declared.Field.{Field}
use Rattle.build_integrity_rules.specs.Integrity.{integrity_of}
use Rattle.build_integrity_rules.proofs.VerifiedLaws.{verified-read}
use Rattle.build_integrity_rules.specs.declared.GarbledReason.{GarbledReason}
use Rattle.build_integrity_rules.specs.declared.Verified.{Verified}
use Rattle.build_records.specs.declared.Record.{Record}
use Rattle.build_answers.specs.declared.Answer.{Answer}
use Rattle.build_answers.specs.declared.Answer.TheVariants.{Garbled as garbled}
use Rattle.build_parts.specs.declared.Progress.{Progress}
use Rattle.build_parts.specs.Parts.{ended, part_record, part_of, part_told, Kept}
use Rattle.field_rules.proofs.FieldsLaws.{step-inside}
use Rattle.build_parts.specs.Header.{header_from}
use Rattle.builder.specs.declared.Headed.{Headed}
use Rattle.build_rules.specs.Beginning.{verified_records, room_behind, header_of, with_checksum, started_by, start_of}
use Rattle.builder.specs.Reading.{VerifiedInside, start_told, HeaderEnds, Begins}
use Rattle.builder.specs.Finishing.{part-empty}

-- a record can hold the fields that were verified
pub verified-inside : (mode : Mode) (message : List ℕ) (v : Verified) → integrity_of mode message ≡ Ok v → length message < 2 ^ 32 → VerifiedInside v
verified-inside mode message v sound short =
    let read = verified-read mode message v sound in
    let begins = step-inside mode message _ _ read.begins in
    let counts = step-inside mode message _ _ read.counts in
    let types = step-inside mode message _ _ read.types in
    record {
      begins = (omega (arith, begins.within), omega (arith, begins.within));
      counts = (omega (arith, counts.within), omega (arith, counts.within));
      types = (omega (arith, types.within), omega (arith, types.within));
    }

-- stored one behind the other they are the header's first records
pub verified-kept : (v : Verified) (begin body type : Record) → begin ≡ part_record 1 v.begin_string → body ≡ part_record 1 v.body_length → type ≡ part_record 1 v.msg_type →
    (entry one two exit : List ℕ) (first second third : ℕ) → Kept entry one 0 0 begin first → Kept one two 0 first body second → Kept two exit 0 second type third →
    part_of 0 third exit ≡ verified_records v
unfolding verified_records
verified-kept v begin body type b l t entry one two exit first second third k m n =
    n.part ∙ rw (m.part, k.part, part-empty 0 entry, b, l, t)

module _ (tags : List ℕ) (config : Config) (message : List ℕ) where
  -- the frame is not sound
  pub start_garbled : (reason : GarbledReason) (words : List ℕ) → integrity_of config.mode message ≡ Err reason → start_told config.mode message (Err (garbled reason)) words ≡ start_of tags config message
  unfolding start_told start_of started_by
  start_garbled reason words e = rw e

  module _ (v : Verified) (kept exit : List ℕ) (count : ℕ) (keeps : part_of 0 count kept ≡ verified_records v)
      (reading : Result (Field × Progress) Answer) (told : part_told config.mode message 0 reading exit ≡ header_from tags (fields_from config.mode message v.msg_type.next) room_behind (part_of 0 count kept)) where
    header_is : header_of tags config message v ≡ part_told config.mode message 0 reading exit
    unfolding header_of
    header_is = rw (told, keeps)

    pub header-ended : (f : Field) (p : Progress) → reading ≡ Ok (f, p) → header_of tags config message v ≡ ended f (fields_from config.mode message f.next) p.room (part_of 0 p.records exit)
    unfolding part_told
    header-ended f p e = header_is ∙ rw e

    module _ (sound : integrity_of config.mode message ≡ Ok v) where
      start_is : start_of tags config message ≡ with_checksum v.checksum (part_told config.mode message 0 reading exit)
      unfolding start_of started_by
      start_is = rw (sound, header_is)

      -- the header was refused
      pub start-refused : (answer : Answer) → reading ≡ Err answer → start_told config.mode message (Err answer) exit ≡ start_of tags config message
      unfolding start_told with_checksum part_told
      start-refused answer e = sym (start_is ∙ rw e)

      -- the header ended
      pub start-headed : (f : Field) (p : Progress) → reading ≡ Ok (f, p) → start_told config.mode message (Ok (record { stop = f; progress = p; checksum = v.checksum })) exit ≡ start_of tags config message
      unfolding start_told with_checksum part_told
      start-headed f p e = sym (start_is ∙ rw e)

module _ (message words : List ℕ) where
  pub begins-refused : (answer : Answer) → Begins message words (Err answer)
  begins-refused answer = record { ends = λ h e. let z : ◌≡◌ {A = ℕ} 0 1 = cc in absurd (omega arith) }

  pub begins-headed : (h : Headed) → HeaderEnds message words h → Begins message words (Ok h)
  begins-headed h ends = record { ends = λ g e. let same : h ≡ g = cc in rw (← same) ends }
