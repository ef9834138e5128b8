-- How the code's answers on its way are told, and what holds where it calls the next function.
use Rattle.std.specs.Prelude.{ℕ, ◌+◌, ◌≤◌, ◌<◌, ◌/◌, ◌^◌, ◌≡◌, List, length, take, drop, leb, Option, Some, None, Result, Ok, Err}
use Rattle.dictionary_chains.specs.Chain.{index_words}
use Rattle.build_records.specs.Records.{stride}
use Rattle.field_rules.specs.Choice.{pick}
use Rattle.field_rules.specs.Fields.{fields_from, Inside}
use Rattle.field_rules.specs.declared.Mode.{Mode}
use Rattle.build_integrity_rules.specs.declared.Verified.{Verified}
use Rattle.dictionary_tables_rules.specs.Tags.{tags_found}
use Rattle.dictionary_directory.specs.Directory.{tags_listed, tags_at}
use Rattle.dictionary_rules.specs.Check.{check_of, store_of, prepared_of}
use Rattle.dictionary_rules.specs.declared.Checked.TheVariants.{Passes}
use Rattle.build_answers.specs.declared.Answer.{Answer}
use Rattle.build_answers.specs.Answer.{number_of}
use Rattle.build_parts.specs.Parts.{part_of, part_told}
use Rattle.build_body_rules.specs.Body.{must_follow}
use Rattle.builder.specs.declared.Headed.{Headed}
use Rattle.builder.specs.declared.Tags.{Tags}
use Rattle.builder.specs.declared.Tags.TheVariants.{Both, Listed}
use Rattle.builder.specs.declared.Read.{Read}
use Rattle.build_rules.specs.Beginning.{Start, started, unsound, msg_type_record}
use Rattle.build_rules.specs.Message.{Outcome, after_body}
use Rattle.build_parts.specs.declared.Progress.{Progress}
use Rattle.field_rules.specs.declared.Field.{Field}

-- a record can hold the places of the fields that were verified
pub record VerifiedInside (v : Verified) : Type 0 where
  pub begins : (v.begin_string.place < 2 ^ 32) × (v.begin_string.length < 2 ^ 32)
  pub counts : (v.body_length.place < 2 ^ 32) × (v.body_length.length < 2 ^ 32)
  pub types : (v.msg_type.place < 2 ^ 32) × (v.msg_type.length < 2 ^ 32)

-- what the code answers at the end of the header, with the words that it leaves
unfoldable pub start_told : Mode → List ℕ → Result Headed Answer → List ℕ → Start
start_told mode message (Ok h) words =
    started h.stop (fields_from mode message h.stop.next) h.progress.room (part_of 0 h.progress.records words) h.checksum
start_told mode message (Err answer) words = unsound answer

-- what the code answers behind a header, with the words that it leaves: the body, judged by the tags that may follow it, and its trailer
unfoldable pub body_told : Mode → List ℕ → Headed → Result (Field × Progress) Answer → List ℕ → List ℕ → Outcome
body_told mode message h r words trailers =
    after_body (part_of 0 h.progress.records words) h.checksum (must_follow trailers (part_told mode message h.progress.records r words))

-- two tables of tags that are kept, both or none
unfoldable pub both_of : Option (ℕ × ℕ) → Option (ℕ × ℕ) → Tags
both_of (Some (from, size)) (Some (start, long)) = Both from size start long
both_of (Some (from, size)) None = Listed
both_of None trailers = Listed

unfoldable pub tags_kept : List ℕ → Tags
tags_kept tables = both_of (tags_at tables 0) (tags_at tables 1)

-- the tags of header and trailer, of their tables or else as they are listed of the records
module _ (records index tables : List ℕ) where
  unfoldable pub headers_by : Tags → List ℕ
  headers_by (Both from size start long) = tags_found (take size (drop from tables))
  headers_by Listed = tags_listed records index 0

  unfoldable pub trailers_by : Tags → List ℕ
  trailers_by (Both from size start long) = tags_found (take long (drop start tables))
  trailers_by Listed = tags_listed records index 1

-- where the header ended: the fields lie in the message, MsgType's value too, and there are words for all that may still be read
pub record HeaderEnds (message words : List ℕ) (h : Headed) : Type 0 where
  pub stops : Inside message h.stop
  pub sums : Inside message h.checksum
  pub fits : h.progress.records + h.progress.room < length words / stride
  pub types : (msg_type_record (part_of 0 h.progress.records words)).place + (msg_type_record (part_of 0 h.progress.records words)).length ≤ length message

pub record Begins (message words : List ℕ) (r : Result Headed Answer) : Type 0 where
  pub ends : (h : Headed) → r ≡ Ok h → HeaderEnds message words h

-- a dictionary that passed its check, and the index that the check left
pub record Prepared (dictionary index : List ℕ) : Type 0 where
  pub passes : check_of dictionary ≡ Passes
  pub before : List ℕ
  pub size : length before ≡ index_words
  pub made : index ≡ store_of (prepared_of dictionary before)

-- "1 to 4 also header records"
unfoldable pub shown_count : Answer → ℕ → ℕ
shown_count answer header = pick (leb 1 (number_of answer)) (pick (leb (number_of answer) 4) header 0) 0

-- what was read, with the words that it left
unfoldable pub read_told : Read → List ℕ → Outcome
read_told r words = record { answer = r.answer; records = part_of 0 r.records words; stop = r.stop }
