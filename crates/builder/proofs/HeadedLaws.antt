-- What reading behind a header rests on: MsgType's record is the first under 35, and body and trailer are read by the table of its value, which
-- means the layout that it was laid from.
use Rattle.std.proofs.Math.Path.{◌≡◌, refl}
use Rattle.std.proofs.Common.{sym, ap, ◌∙◌, arith, Option, Some, None, Result, Err}
use Rattle.std.specs.Prelude.{List, [], ◌∷◌, ℕ, suc, ◌+◌, ◌-◌, ◌≤◌, ◌<◌, length, get_or, take, drop, replicate}
use borrow.Author.Tests.{eq-eqb, ne_eqb}
use Rattle.std.proofs.Math.ListN.{get_or-eq_default}
use Rattle.build_config.specs.declared.Config.{Config}
use Rattle.field_rules.specs.Fields.{Fields, field, fields_from}
use Rattle.field_rules.specs.declared.Mode.{Mode}
use Rattle.field_rules.specs.declared.Field.{Field}
use Rattle.build_records.specs.Records.{record_at, between, blank, value_at}
use Rattle.build_records.proofs.RecordLaws.{between-on, between-end}
use Rattle.build_records.specs.declared.Record.{Record}
use Rattle.dictionary_rules.specs.Index.{tag_at}
use Rattle.dictionary_layout_rules.specs.RowsLayout.{layout_in}
use Rattle.dictionary_tables_rules.specs.Laid.{table_size, table_of}
use Rattle.dictionary_tables_rules.proofs.Tabled.{tabled_whole}
use Rattle.dictionary_directory.specs.Directory.{kept_at, laid_alone}
use Rattle.dictionary_meaning_rules.proofs.MsgTypeText.{Bytes, no_bytes, a_byte}
use Rattle.dictionary_meaning_rules.specs.MessageTable.{Tabling, tabling, place_of, placed_table}
use Rattle.dictionary_meaning_rules.specs.declared.MessageTable.TheVariants.{Rows, NoMessage, Unprepared}
use Rattle.build_group_rules.specs.Groups.{Rules}
use Rattle.build_group_rules.specs.Reading.{table_rules}
use Rattle.build_required_rules.specs.Required.{Demands}
use Rattle.build_required_rules.specs.Checking.{table_demands}
use Rattle.build_answers.specs.declared.Answer.TheVariants.{InvalidMsgType}
use Rattle.build_parts.specs.Parts.{part_of, part_told}
use Rattle.build_body_rules.specs.Body.{must_follow, body_from}
use Rattle.build_body_rules.specs.Kinds.{body_of}
use Rattle.build_body_rules.proofs.Meaning.{body_means}
use Rattle.builder.specs.declared.Headed.{Headed}
use Rattle.build_rules.specs.Beginning.{msg_type_record}
use Rattle.build_rules.specs.Message.{after_body}
use Rattle.builder.specs.Finishing.{part-empty}
use Rattle.builder.specs.Reading.{body_told}
use Rattle.builder.specs.Through.{unknown_type, after_level, after_table, after_kept, after_placed}
use Rattle.build_answers.specs.declared.Answer.{Answer}
use Rattle.build_parts.specs.declared.Progress.{Progress}

module _ (i count : ℕ) (rs : List Record) where
  pub type-here : i < count → i < length rs → (record_at i rs).tag ≡ 35 → msg_type_record (between i count rs) ≡ record_at i rs
  unfolding msg_type_record
  type-here h l t = rw (between-on i count rs h l, eq-eqb _ _ t)

  pub type-later : i < count → i < length rs → ((record_at i rs).tag ≡ 35 → ⊥) → msg_type_record (between i count rs) ≡ msg_type_record (between (i + 1) count rs)
  unfolding msg_type_record
  type-later h l t = rw (between-on i count rs h l, ne_eqb _ _ t)

  -- a record from behind the records is blank, as MsgType's is where none is under 35
  pub type-nowhere : count ≤ i → (behind : ℕ) → length rs ≤ behind → msg_type_record (between i count rs) ≡ record_at behind rs
  unfolding msg_type_record record_at
  type-nowhere h behind l = rw (between-end i count rs h) (sym (get_or-eq_default rs blank l))

-- what the code knows of each element of a text
pub bytes_of : (s : List ℕ) → ((i : ℕ) → get_or s i 0 < 256) → Bytes s
bytes_of [] h = no_bytes
bytes_of (b ∷ s) h = a_byte (h 0) (bytes_of s (λ i. h (suc i)))

pub type-inside : (message : List ℕ) (r kind : Record) → r ≡ kind → kind.place + kind.length ≤ length message → r.place + r.length ≤ length message
type-inside message r kind e h = rw e h

-- the place of the message of MsgType's value, by its record
pub type-placed : (index message : List ℕ) (r kind : Record) → r ≡ kind → (found : Option ℕ) → found ≡ place_of index (take (r.place + r.length - r.place) (drop r.place message)) →
    place_of index (value_at message kind) ≡ found
unfolding value_at
type-placed index message r kind e found h =
    let long : r.place + r.length - r.place ≡ r.length = omega arith in
    sym (rw long at h ∙ rw e)

module _ (mode : Mode) (message : List ℕ) (h : Headed) where
  -- the header's records, and the fields from the one on that ended it
  abbrev header : List ℕ → List Record
  header words = part_of 0 h.progress.records words

  abbrev rest : Fields
  rest = fields_from mode message h.stop.next

  -- "and then MsgType must be in the dictionary, else 3"
  pub unknown : (words : List ℕ) (r : Record) → r ≡ msg_type_record (header words) → (trailers : List ℕ) →
      body_told mode message h (Err (InvalidMsgType r.place r.length)) words trailers ≡ unknown_type (header words)
  unfolding body_told part_told must_follow after_body unknown_type
  unknown words r is trailers = rw is

  -- a body of no records yet, read by what a level asks for
  pub level_told : {L : Type 0} (rules : Rules L) (demands : Demands L) (level : L) (entry exit : List ℕ) (r : Result (Field × Progress) Answer) → header exit ≡ header entry →
      ((trailers : List ℕ) → must_follow trailers (part_told mode message h.progress.records r exit)
      ≡ body_from (body_of rules demands trailers level) (field h.stop rest) (suc h.progress.room)
      (part_of h.progress.records h.progress.records entry)) →
      (trailers : List ℕ) → body_told mode message h r exit trailers
      ≡ after_level trailers h.stop rest h.progress.room (header entry) h.checksum rules demands level
  unfolding body_told
  level_told rules demands level entry exit r before told trailers = rw (before, told trailers, part-empty h.progress.records entry)

module _ (trailers : List ℕ) (f : Field) (rest : Fields) (room : ℕ) (header : List Record) (checksum : Field) (records index : List ℕ) (config : Config) where
  -- a table that is just a layout's is read as the layout
  pub layout_after : (table : List ℕ) {told : Tabling} (count : ℕ) (rows : List ℕ) → told ≡ tabling (Rows count) rows → table ≡ table_of (layout_in rows count) →
      after_level trailers f rest room header checksum (table_rules config table (tag_at index)) (table_demands table) 0 ≡ after_table trailers f rest room header checksum records index config told
  unfolding after_table
  layout_after table count rows is t =
      rw (is, t)
      (ap (after_body header checksum)
      (body_means config (table_of (layout_in rows count)) (tag_at index) (tag_at index) (λ tag. refl) 0 (layout_in rows count) (tabled_whole (layout_in rows count)) trailers (field f rest) (suc room) []))

  -- where none is laid
  pub unlaid_after : (told : Tabling) → None ≡ laid_alone told → unknown_type header ≡ after_table trailers f rest room header checksum records index config told
  unfolding after_table
  unlaid_after (tabling NoMessage rows) e = refl
  unlaid_after (tabling Unprepared rows) e = refl
  unlaid_after (tabling (Rows n) rows) e =
      let s : ◌≡◌ {A = Option (ℕ × ℕ)} None (Some (0, table_size (layout_in rows n))) = unfold laid_alone in e in
      let z : ◌≡◌ {A = ℕ} 0 1 = cc in absurd (omega arith)

  -- a message without a place, with a table that is kept for its place, and with one that is laid
  module _ (tables : List ℕ) {found : Option ℕ} where
    pub placed-none : found ≡ None → unknown_type header ≡ after_placed trailers f rest room header checksum records index config tables found
    unfolding after_placed
    placed-none e = rw e

    module _ (place : ℕ) (is : found ≡ Some place) where
      pub placed-kept : (from size n : ℕ) → Some (from, size) ≡ kept_at tables place → n ≡ size →
          after_level trailers f rest room header checksum (table_rules config (take n (drop from tables)) (tag_at index)) (table_demands (take n (drop from tables))) 0
          ≡ after_placed trailers f rest room header checksum records index config tables found
      unfolding after_placed after_kept
      placed-kept from size n e long = rw (is, ← e, long)

      pub placed-laid : None ≡ kept_at tables place →
          after_table trailers f rest room header checksum records index config (placed_table records index (Some place) (replicate 4096 0)) ≡ after_placed trailers f rest room header checksum records index config tables found
      unfolding after_placed after_kept
      placed-laid e = rw (is, ← e)
