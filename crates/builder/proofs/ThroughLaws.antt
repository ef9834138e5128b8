-- Records that are a dictionary which passed its check, with the index that the check left and tables that were laid from them, are read as what the
-- dictionary means; so a build over memory that `prepare` left is the build with that dictionary.
use Rattle.std.specs.Prelude.{◌≡◌, Bool, true, false, length, take, drop, replicate}
use Rattle.std.proofs.Math.Path.{refl}
use Rattle.std.proofs.Common.{sym, ap, ◌∙◌, arith, take_at, Option, Some, None, ℕ}
use mathlib.Core.List.{List, []}
use Prim.Native.Nat.{ℕ, suc}
use Rattle.std.proofs.Math.ListN.{length-replicate}
use Rattle.field_rules.specs.Fields.{Fields, field}
use Rattle.field_rules.specs.declared.Field.{Field}
use Rattle.build_config.specs.declared.Config.{Config}
use Rattle.build_records.specs.Records.{value_at}
use Rattle.build_records.specs.declared.Record.{Record}
use Rattle.dictionary_chains.specs.Chain.{index_words}
use Rattle.dictionary_rules.specs.Check.{check_of, number_of_check}
use Rattle.dictionary_rules.specs.Index.{tag_at}
use Rattle.dictionary_layout_rules.specs.Layout.{Layout, items}
use Rattle.dictionary_layout_rules.proofs.RowsLayoutLaws.{layout_held}
use Rattle.dictionary_layout_rules.specs.Tree.{Choice, knows, header_tags_lem, trailer_tags_lem, layout_of}
use Rattle.dictionary_tables_rules.specs.Laid.{table_of}
use Rattle.dictionary_tables_rules.proofs.Tabled.{tabled_whole}
use Rattle.dictionary_tables_rules.proofs.TagsLaws.{tags_found_lem}
use Rattle.dictionary_directory.specs.Directory.{kept_at, listed_tags, tags_listed, tags_at, lay_tables}
use Rattle.dictionary_directory.proofs.KeptLaws.{kept-short, tags-short}
use Rattle.dictionary_directory.proofs.DirectoryLaws.{Leads, nowhere, a-table as leads-table, laid_leads, TagsLead, tags-nowhere, a-tags-table, tags-lead}
use Rattle.dictionary_prepared.specs.Memory.{head_words, is_prepared, records_in, index_in, tables_in, index_for, preparation, prepared}
use Rattle.build_answers.specs.declared.Answer.TheVariants.{NotPrepared}
use Rattle.dictionary_prepared.proofs.MemoryLaws.{ready_passes, ready_stands, ready_records, ready_index, ready_tables}
use Rattle.dictionary_prepared.specs.declared.Preparing.TheVariants.{Ready}
use Rattle.dictionary_meaning_rules.specs.Meaning.{dictionary_of}
use Rattle.dictionary_meaning_rules.proofs.MsgTypeText.{Bytes, take-bytes, drop-bytes}
use Rattle.dictionary_meaning_rules.specs.MessageTable.{Tabling, place_of, placed_table, message_table}
use Rattle.dictionary_meaning_rules.proofs.TagsMeant.{header-listed, trailer-listed}
use Rattle.dictionary_meaning_rules.proofs.Theorem.{TableOf, no_table, a-table, tables_mean_tree}
use Rattle.dictionary_meaning_rules.proofs.KnownTags.{tags-known}
use Rattle.build_group_rules.specs.Reading.{accepted, table_rules, layout_rules}
use Rattle.build_required_rules.specs.Checking.{table_demands, layout_demands}
use Rattle.build_body_rules.specs.Kinds.{body_of}
use Rattle.build_body_rules.specs.Body.{body_from}
use Rattle.build_body_rules.proofs.Meaning.{body_means}
use Rattle.build_rules.specs.Beginning.{Start, started, unsound, start_of, msg_type_record}
use Rattle.build_rules.specs.Message.{after_body, after_type, after_header, message_read}
use Rattle.builder.specs.Build.{untouched, judged, build_of, checked_read}
use Rattle.builder.specs.BuildLaws.{check-reads}
use Rattle.builder.proofs.HeadedLaws.{layout_after}
use Rattle.builder.specs.Reading.{Prepared}
use Rattle.builder.specs.Through.{unknown_type, after_level, after_table, after_kept, after_placed, after_start, message_by, message_listed, message_kept, message_through, build_over}

-- each table that is kept is the one that would be laid
pub record Sound (d index tables : List ℕ) : Type 0 where
  pub tabled : (place : ℕ) → Leads d index tables place (kept_at tables place)
  pub listed : (number : ℕ) → TagsLead d index tables number (tags_at tables number)

-- then the tags that are kept are those that are listed
kept-listed : (d index tables : List ℕ) (config : Config) (message : List ℕ) {header trailer : Option (ℕ × ℕ)} → TagsLead d index tables 0 header → TagsLead d index tables 1 trailer →
    message_kept d index tables config message header trailer ≡ message_listed d index tables config message
unfolding message_kept
kept-listed d index tables config message tags-nowhere t = refl
kept-listed d index tables config message (a-tags-table e lies) tags-nowhere = refl
kept-listed d index tables config message (a-tags-table e lies) (a-tags-table g within) = rw (e, g, tags_found_lem (tags_listed d index 0), tags_found_lem (tags_listed d index 1))

module _ (d index : List ℕ) (p : Prepared d index) where
  -- what is listed of component 0 and of component 1
  header_through : tags_listed d index 0 ≡ header_tags_lem (dictionary_of d)
  unfolding tags_listed listed_tags
  header_through =
      let tags : List ℕ = header_tags_lem (dictionary_of d) in
      rw (p.made, header-listed d p.passes p.before p.size (replicate 1024 0) (omega (arith, length-replicate {A = ℕ} 1024 0)))
      (take_at tags (drop (length tags) (replicate 1024 0)) (length tags) refl)

  trailer_through : tags_listed d index 1 ≡ trailer_tags_lem (dictionary_of d)
  unfolding tags_listed listed_tags
  trailer_through =
      let tags : List ℕ = trailer_tags_lem (dictionary_of d) in
      rw (p.made, trailer-listed d p.passes p.before p.size (replicate 1024 0) (omega (arith, length-replicate {A = ℕ} 1024 0)))
      (take_at tags (drop (length tags) (replicate 1024 0)) (length tags) refl)

  known_same : (tag : ℕ) → tag_at index tag ≡ knows (dictionary_of d) tag
  known_same tag = rw p.made (tags-known d p.passes p.before p.size tag)

  module _ (config : Config) (f : Field) (rest : Fields) (room : ℕ) (header : List Record) (checksum : Field) where
    -- a layout is read alike by what the index knows and by what the dictionary does
    known-after : (trailers : List ℕ) (layout : Layout) → after_level trailers f rest room header checksum (layout_rules (accepted config (tag_at index))) layout_demands layout
        ≡ after_level trailers f rest room header checksum (layout_rules (accepted config (knows (dictionary_of d)))) layout_demands layout
    known-after trailers layout =
        ap (after_body header checksum) (sym (by (tag_at index) (λ tag. refl)) ∙ by (knows (dictionary_of d)) known_same)
      where
        by : (has : ℕ → Bool) → ((tag : ℕ) → tag_at index tag ≡ has tag) →
            body_from (body_of (table_rules config (table_of layout) (tag_at index)) (table_demands (table_of layout)) trailers 0) (field f rest) (suc room) []
            ≡ body_from (body_of (layout_rules (accepted config has)) layout_demands trailers layout) (field f rest) (suc room) []
        by has same = body_means config (table_of layout) (tag_at index) has same 0 layout (tabled_whole layout) trailers (field f rest) (suc room) []

    -- body and trailer are read by what is laid as by the layout that the tree has for MsgType
    table-after : (table : List ℕ) {choice : Choice} {told : Tabling} → TableOf table choice told →
        after_table (tags_listed d index 1) f rest room header checksum d index config told ≡ after_type (dictionary_of d) config f rest room header checksum choice
    unfolding after_table after_type unknown_type
    table-after table no_table = refl
    table-after table (a-table {layout} {rows} limit long tabled) =
        rw (trailer_through, layout_held rows (items layout) layout tabled) (known-after (trailer_tags_lem (dictionary_of d)) layout)

    -- and so by the table that is kept, where that is the one that would be laid
    kept-after : (trailers tables : List ℕ) (place : ℕ) {kept : Option (ℕ × ℕ)} → Leads d index tables place kept →
        after_kept trailers f rest room header checksum d index config tables place kept ≡ after_table trailers f rest room header checksum d index config (placed_table d index (Some place) (replicate 4096 0))
    unfolding after_kept
    kept-after trailers tables place nowhere = refl
    kept-after trailers tables place (leads-table {count} {rows} laid table lies) = layout_after trailers f rest room header checksum d index config _ count rows laid table

    placed-after : (trailers tables : List ℕ) → ((place : ℕ) → Leads d index tables place (kept_at tables place)) → (placed : Option ℕ) →
        after_placed trailers f rest room header checksum d index config tables placed ≡ after_table trailers f rest room header checksum d index config (placed_table d index placed (replicate 4096 0))
    unfolding after_placed
    placed-after trailers tables leads None = unfold placed_table after_table in refl
    placed-after trailers tables leads (Some place) = kept-after trailers tables place (leads place)

  -- with the tags that are listed
  listed_means : Bytes d → (tables : List ℕ) → Sound d index tables → (message : List ℕ) → Bytes message → (config : Config) → message_listed d index tables config message ≡ message_read (dictionary_of d) config message
  unfolding message_by message_read
  listed_means bytes tables sound message text config = rw header_through (go (start_of (header_tags_lem (dictionary_of d)) config message))
    where
      tabled : (value : List ℕ) → Bytes value → TableOf (replicate 4096 0) (layout_of (dictionary_of d) value) (message_table d index value (replicate 4096 0))
      tabled value v = rw p.made (tables_mean_tree d bytes p.passes p.before p.size value (replicate 4096 0) v (omega (arith, length-replicate {A = ℕ} 4096 0)))

      go : (start : Start) → after_start d index tables config message (tags_listed d index 1) start ≡ after_header (dictionary_of d) config message start
      go (unsound answer) = unfold after_start after_header in refl
      go (started f rest room header checksum) =
          unfold after_start after_header value_at in
          placed-after config f rest room header checksum (tags_listed d index 1) tables sound.tabled (place_of index (take (msg_type_record header).length (drop (msg_type_record header).place message)))
          ∙ table-after config f rest room header checksum (replicate 4096 0)
          (unfold message_table in tabled (take (msg_type_record header).length (drop (msg_type_record header).place message)) (take-bytes (msg_type_record header).length (drop-bytes (msg_type_record header).place text)))

  -- whatever tables there are, if each is the one that would be laid
  pub through_means : Bytes d → (tables : List ℕ) → Sound d index tables → (message : List ℕ) → Bytes message → (config : Config) → message_through d index tables config message ≡ message_read (dictionary_of d) config message
  unfolding message_through
  through_means bytes tables sound message text config =
      kept-listed d index tables config message (sound.listed 0) (sound.listed 1) ∙ listed_means bytes tables sound message text config

-- no tables, and those that were laid
pub sound_none : (d index : List ℕ) → Sound d index []
sound_none d index = record { tabled = λ place. rw (kept-short [] place (omega arith)) nowhere; listed = λ number. rw (tags-short [] number (omega arith)) tags-nowhere }

sound_laid : (d index tables : List ℕ) → Sound d index (lay_tables d index tables)
sound_laid d index tables = record { tabled = laid_leads d index tables; listed = tags-lead d index tables }

-- each way of a build over memory
module _ (message : List ℕ) (config : Config) (copy memory : List ℕ) (lent : ℕ) (words : List ℕ) where
  pub over_none : is_prepared copy memory ≡ false → build_over message config copy memory lent words ≡ untouched NotPrepared words
  unfolding build_over
  over_none e = rw e

  pub over-some : is_prepared copy memory ≡ true → build_over message config copy memory lent words ≡ judged message config lent words (message_through (records_in copy memory) (index_in memory) (tables_in memory) config message)
  unfolding build_over
  over-some e = rw e

-- "build over prepared memory equals the plain build"
pub over_means : (dictionary copy memory c m : List ℕ) → prepared Ready c m ≡ preparation dictionary copy memory → Bytes dictionary → (message : List ℕ) → Bytes message → (config : Config) (lent : ℕ) (words : List ℕ) →
    build_over message config c m lent words ≡ build_of message config dictionary lent words
unfolding build_over build_of
over_means dictionary copy memory c m ready bytes message text config lent words =
    let passes = ready_passes dictionary copy memory c m ready in
    let index = ready_index dictionary copy memory c m ready in
    let p : Prepared dictionary (index_for dictionary) = record { passes = passes; before = replicate index_words 0; size = length-replicate {A = ℕ} index_words 0; made = refl } in
    rw (
      ready_stands dictionary copy memory c m ready,
      ready_records dictionary copy memory c m ready,
      index,
      ready_tables dictionary copy memory c m ready,
      through_means dictionary (index_for dictionary) p bytes (lay_tables dictionary (index_for dictionary) (drop head_words memory)) (sound_laid dictionary (index_for dictionary) (drop head_words memory)) message text config,
    )
    (ap (judged message config lent words) (sym reads))
  where
    reads : checked_read message config dictionary (check_of dictionary) ≡ message_read (dictionary_of dictionary) config message
    reads = rw (ready_passes dictionary copy memory c m ready) (check-reads message config dictionary _ (unfold number_of_check in refl))
