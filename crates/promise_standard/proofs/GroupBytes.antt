-- The same of the bytes of a message and of the code's own definition: a group's fields as the standard writes them are read as its entries,
-- and the run that `read_run`'s contract cites, which looks levels up in a table and keeps records as words, ends with these records.
use Rattle.std.specs.Prelude.{◌≡◌, refl, Bool, List, [], ◌∷◌, ◌++◌, ℕ, suc, ◌+◌, length}
use Rattle.std.proofs.Common.{ap, ◌∙◌, Ok}
use Rattle.promise_standard.specs.Reading.{standard_mode}
use Rattle.field_rules.specs.Field.{start_at, field_at}
use Rattle.field_rules.specs.Fields.{Fields, field, fields_from}
use Rattle.field_rules.proofs.FieldsLaws.{fields-field}
use Rattle.standard_rules.specs.Standard as standard
use Rattle.standard_rules.specs.Standard.{Tables, Told, entries, Stands}
use Rattle.field_rules.specs.declared.Cursor.{Cursor}
use Rattle.field_rules.specs.declared.Field.{Field}
use Rattle.build_config.specs.declared.Config.{Config}
use Rattle.dictionary_layout_rules.specs.Layout.{Layout}
use Rattle.dictionary_tables_rules.proofs.Tabled.{Tabled}
use Rattle.build_records.specs.declared.Record.{Record}
use Rattle.build_group_rules.specs.Groups.{run, outermost, ended, walk}
use Rattle.build_group_rules.proofs.Alike.{on_level, OutcomeAlike}
use Rattle.build_group_rules.proofs.Meaning.{Holds, Lays, run_means}
use Rattle.build_group_rules.specs.Reading.{accepted, layout_rules, list_store, memory, open_group, run_of}
use Rattle.build_group_rules.specs.declared.Group.{Group}
use Rattle.build_group_rules.specs.declared.Progress.{Progress}
use Rattle.promise_standard.specs.Reading.{ReadsAs, Readable, fields_read}
use Rattle.promise_standard.specs.Groups.{numbered, records_as, entries_of, Leaves, Fits}
use Rattle.promise_standard.proofs.GroupReading.{group-read, layout_group-read}

module _ {T : Tables} {Here : ℕ → Type 0} {c d n : ℕ} {gs : List Told} (s : Stands T Here (entries c d (suc n)) gs) (layout : Layout) (message : List ℕ) (left : ℕ) (x : Field) where
  -- the bytes of a group's entries, wherever they stand in a message
  pub group-bytes-read : (accepts : ℕ → Bool) (tag : ℕ) (before bytes after : List ℕ) → message ≡ before ++ (bytes ++ after) → standard.Fields T gs bytes → Readable gs → field_at standard_mode message (start_at (length before + length bytes)) ≡ Ok x
      → Fits (layout_rules accepts) (entries_of layout 1) x.tag (entries c d (suc n)) gs s → Leaves (layout_rules accepts) layout x.tag
      → walk (layout_rules accepts) list_store (length gs + suc left) (run (outermost tag layout) 0 ∷ []) [] (fields_from standard_mode message (start_at (length before)))
      ≡ ended x (fields_from standard_mode message x.next) left (records_as (numbered 1 0 s) (fields_from standard_mode message (start_at (length before))))
  group-bytes-read accepts tag before bytes after whole fields readable next fits leaves =
      let reads : ReadsAs message (fields_from standard_mode message (start_at (length before))) gs (fields_from standard_mode message (start_at (length before + length bytes))) = fields_read message gs bytes before after (length before) (length before + length bytes) whole refl refl fields readable in
      layout_group-read message accepts s layout tag left _ x (fields_from standard_mode message x.next) fits leaves (rw (fields-field standard_mode message (start_at (length before + length bytes)) x next) at reads)

  -- what the code reads of a table into words
  pub run-read : (config : Config) (table : List ℕ) (known has : ℕ → Bool) → ((tag : ℕ) → known tag ≡ has tag) → (group : Group) → Tabled table group.level layout → (cursor : Cursor) (progress : Progress) (words : List ℕ) (done after : List Record) (tail : List ℕ) → Holds after tail progress.room (memory progress words) done
      → (rest : Fields) → progress.room ≡ length gs + suc left → ReadsAs message (fields_from config.mode message cursor) gs (field x rest)
      → Fits (layout_rules (accepted config has)) (entries_of layout group.depth) x.tag (entries c d (suc n)) gs s → Leaves (layout_rules (accepted config has)) layout x.tag
      → OutcomeAlike (Holds after tail) (Lays after tail) (run_of message config table known group cursor progress words) (ended x rest left (done ++ records_as (numbered group.depth 0 s) (fields_from config.mode message cursor)))
  run-read config table known has same group tabled cursor progress words done after tail holds rest room reads fits leaves =
      let means = run_means message config table known has same group layout tabled cursor progress words done after tail holds in
      let read = group-read (layout_rules (accepted config has)) message _ _ s (on_level layout (open_group group)) left done (fields_from config.mode message cursor) x rest fits leaves reads in
      rw (ap (λ (k : ℕ). walk (layout_rules (accepted config has)) list_store k (run (on_level layout (open_group group)) 0 ∷ []) done (fields_from config.mode message cursor)) room ∙ read) at means
