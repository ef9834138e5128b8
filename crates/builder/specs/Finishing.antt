-- The records of header, body and trailer stand one behind the other, so what is left of a message after its body is what the code leaves.
use Rattle.std.specs.Prelude.{◌≡◌, Some, None}
use Rattle.std.proofs.Math.Path.{sym, ap}
use Rattle.std.proofs.Common.{◌∙◌}
use mathlib.Core.List.{List, [], ◌∷◌, ◌++◌, append_assoc}
use Prim.Native.Nat.{ℕ, suc, ◌+◌, ◌≤◌}
use native.Mathlib.Omega.{arith}
use Rattle.field_rules.specs.declared.Mode.{Mode}
use Rattle.field_rules.specs.Fields.{field, fields_from}
use Rattle.field_rules.specs.declared.Field.{Field}
use Rattle.build_records.specs.Records.{records_of, stored}
use Rattle.build_records.proofs.RecordLaws.{between-end}
use Rattle.build_records.specs.declared.Record.{Record}
use Rattle.build_answers.specs.declared.Answer.TheVariants.{Valid, TooManyFields}
use Rattle.build_parts.specs.declared.Progress.{Progress}
use Rattle.build_parts.specs.declared.TrailerRead.{TrailerRead}
use Rattle.build_parts.specs.declared.TrailerRead.TheVariants.{Stopped, Unstopped, TooManyFields as Crowded}
use Rattle.build_parts.specs.Parts.{ended, part_record, part_of, Kept}
use Rattle.build_body_rules.proofs.RunLaws.{between_split}
use Rattle.build_body_rules.proofs.GroupReading.{front_is, front-parts}
use Rattle.build_parts.specs.Trailer.{trailer_from, trailer_told, trailer_counts}
use Rattle.build_rules.specs.Message.{Outcome, refusal, after_trailer, after_body}
use Rattle.builder.specs.Reading.{read_told}

-- a part that ends where it starts is empty
pub part-empty : (n : ℕ) (words : List ℕ) → part_of n n words ≡ []
unfolding part_of
part-empty n words = between-end n n (records_of words) (omega arith)

pub stopped-counts : (from : ℕ) (trailer : TrailerRead) (stop : Field) (all : ℕ) → trailer ≡ Stopped stop all → trailer_counts from trailer ≡ all
unfolding trailer_counts
stopped-counts from trailer stop all e = rw e

pub unstopped-counts : (from : ℕ) (trailer : TrailerRead) (all : ℕ) → trailer ≡ Unstopped all → trailer_counts from trailer ≡ all
unfolding trailer_counts
unstopped-counts from trailer all e = rw e

module _ (mode : Mode) (message : List ℕ) (header : ℕ) (checksum : Field) (entry : List ℕ) (f : Field) (p : Progress) (starts : header ≤ p.records)
    (r : Record) (is : r ≡ part_record 3 checksum) (kept exit : List ℕ) (count : ℕ) (keeps : Kept entry kept p.records p.records r count)
    (front : part_of 0 p.records exit ≡ part_of 0 p.records kept) (trailer : TrailerRead)
    (taken : trailer_told trailer p.records exit
    ≡ trailer_from (field f (fields_from mode message f.next)) (p.room + 1) (part_of p.records count kept)) where
  -- what is left of the message where the body ended
  abbrev whole : Outcome
  whole = after_body (part_of 0 header entry) checksum (ended f (fields_from mode message f.next) p.room (part_of header p.records entry))

  left : whole ≡ after_trailer (part_of 0 header entry) (part_of header p.records entry) (trailer_told trailer p.records exit)
  unfolding after_body stored
  left =
      let one : p.room + 1 ≡ suc p.room = omega arith in
      let first : part_of p.records count kept ≡ part_record 3 checksum ∷ [] = keeps.part ∙ rw (part-empty p.records entry, is) in
      rw (taken, one, first)

  -- the parts stand one behind the other
  parts : (all : ℕ) → p.records ≤ all → part_of 0 all exit ≡ part_of 0 header entry ++ (part_of header p.records entry ++ part_of p.records all exit)
  unfolding part_of
  parts all h =
      between_split (records_of exit) 0 p.records all (omega arith) h
      ∙ ap (λ (l : List Record). l ++ part_of p.records all exit)
      (front ∙ keeps.before ∙ between_split (records_of entry) 0 header p.records (omega arith) starts)
      ∙ append_assoc (part_of 0 header entry) (part_of header p.records entry) (part_of p.records all exit)

  -- the header's records are where they were
  header-stays : part_of 0 header exit ≡ part_of 0 header entry
  unfolding part_of
  header-stays =
      front-parts (records_of exit) (records_of entry) header p.records starts
      (sym (front_is p.records (records_of exit)) ∙ front ∙ keeps.before ∙ front_is p.records (records_of entry))

  pub close-stopped : (stop : Field) (all : ℕ) → trailer ≡ Stopped stop all → p.records ≤ all →
      read_told (record { answer = Valid; stop = Some stop; records = all }) exit ≡ whole
  unfolding read_told after_trailer trailer_told
  close-stopped stop all t h = sym (left ∙ rw (t, parts all h))

  pub close-unstopped : (all : ℕ) → trailer ≡ Unstopped all → p.records ≤ all →
      read_told (record { answer = Valid; stop = None; records = all }) exit ≡ whole
  unfolding read_told after_trailer trailer_told
  close-unstopped all t h = sym (left ∙ rw (t, parts all h))

  pub close-crowded : trailer ≡ Crowded → refusal TooManyFields (part_of 0 header exit) ≡ whole
  unfolding after_trailer trailer_told
  close-crowded t = sym (left ∙ rw (t, header-stays))
