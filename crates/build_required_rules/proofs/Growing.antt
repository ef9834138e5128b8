-- How the tree of a run grows while the run is read: an entry comes last, a field comes last in its entry with the run that hangs on it, and a
-- user tag is stored among the entry's own fields. Its records grow along, and it keeps to its level.
use Rattle.std.specs.Prelude.{◌≡◌, Bool, List, [], ◌∷◌, ◌++◌, ℕ, suc}
use Rattle.std.proofs.Math.Path.{refl, sym}
use Rattle.std.proofs.Common.{ap, ◌∙◌, subst, append_assoc, append-nil, arith, eq-eqb, ne_eqb, eqb-true}
use Rattle.std.proofs.Math.Bool.{true, false}
use Rattle.std.proofs.Math.Dec.{eqb}
use Rattle.field_rules.specs.Choice.{pick}
use Rattle.build_records.specs.Records.{stored}
use Rattle.build_records.specs.declared.Record.{Record}
use Rattle.build_required_rules.specs.Required.{Demands}
use Rattle.build_required_rules.specs.Tree.{Run, no_entry, entry, Entry, no_field, field, laid, laid_fields, RunKeeps, keeps_none, keeps_entry, FieldsKeep}
use Rattle.build_required_rules.specs.Tree.{keep-none, keep-field, Hangs, hangs-none}
use Rattle.build_required_rules.proofs.TreeLaws.{Each, each_none, each_more, Below, hangs-deeper}

unfoldable pub with_entry : Run → Entry → Run
with_entry no_entry fields = entry fields no_entry
with_entry (entry first later) fields = entry first (with_entry later fields)

unfoldable pub with_field : Entry → Record → Run → Entry
with_field no_field r hanging = field r hanging no_field
with_field (field x run later) r hanging = field x run (with_field later r hanging)

-- "storing a held tag replaces the value and keeps the position"
unfoldable pub with_stored : Record → Entry → Entry
with_stored r no_field = field r no_entry no_field
with_stored r (field x run later) = pick (eqb x.tag r.tag) (field r run later) (field x run (with_stored r later))

pub laid-entry : (run : Run) (fields : Entry) → laid (with_entry run fields) ≡ laid run ++ laid_fields fields
unfolding with_entry laid
laid-entry no_entry fields = append-nil (laid_fields fields)
laid-entry (entry first later) fields = rw (laid-entry later fields) (sym (append_assoc (laid_fields first) (laid later) (laid_fields fields)))

pub laid-field : (fields : Entry) (r : Record) (hanging : Run) → laid_fields (with_field fields r hanging) ≡ (laid_fields fields ++ (r ∷ [])) ++ laid hanging
unfolding with_field laid
laid-field no_field r hanging = ap (λ (l : List Record). r ∷ l) (append-nil (laid hanging))
laid-field (field x run later) r hanging = rw (laid-field later r hanging) (simp append_assoc)

-- what is stored among fields of a depth passes over deeper records
stored-below : (r : Record) (depth : ℕ) → r.depth ≡ depth → {rs : List Record} (more : List Record) → Each (Below depth) rs →
    stored r (rs ++ more) ≡ rs ++ stored r more
unfolding stored
stored-below r depth d more each_none = refl
stored-below r depth d more (each_more {r = x} b a) =
    rw (ne_eqb x.depth r.depth (λ same. omega (arith, b.below))) (ap (λ (l : List Record). x ∷ l) (stored-below r depth d more a))

module _ {L : Type 0} (demands : Demands L) where
  -- an entry: it starts with the delimiter, and none of its later fields is one
  pub data EntryKeeps : ℕ → L → ℕ → Entry → Type 0 where
    keeps_fields : {levels depth : ℕ} {level : L} {r : Record} {hanging : Run} {fields : Entry} → r.depth ≡ depth → demands.opens level r.tag ≡ true →
        Hangs demands levels level depth r.tag hanging →
        FieldsKeep demands levels level depth fields → EntryKeeps levels level depth (field r hanging fields)

  pub run_grows : {levels depth : ℕ} {level : L} {run : Run} {fields : Entry} → RunKeeps demands (suc levels) level depth run →
      EntryKeeps levels level depth fields → RunKeeps demands (suc levels) level depth (with_entry run fields)
  unfolding with_entry
  run_grows keeps_none (keeps_fields d o hang fs) = keeps_entry d o hang fs keeps_none
  run_grows (keeps_entry d o hang fs later) e = keeps_entry d o hang fs (run_grows later e)

  module _ {levels depth : ℕ} {level : L} (r : Record) (d : r.depth ≡ depth) (o : demands.opens level r.tag ≡ false) where
    fields_grow : {hanging : Run} {fields : Entry} → Hangs demands levels level depth r.tag hanging → FieldsKeep demands levels level depth fields →
        FieldsKeep demands levels level depth (with_field fields r hanging)
    unfolding with_field
    fields_grow hang keep-none = keep-field d o hang keep-none
    fields_grow hang (keep-field e p run later) = keep-field e p run (fields_grow hang later)

    pub entry_grows : {hanging : Run} {fields : Entry} → Hangs demands levels level depth r.tag hanging → EntryKeeps levels level depth fields →
        EntryKeeps levels level depth (with_field fields r hanging)
    unfolding with_field
    entry_grows hang (keeps_fields e p run later) = keeps_fields e p run (fields_grow hang later)

    -- a field that replaces another of its tag has the run that hung on that
    fields-store : {fields : Entry} → FieldsKeep demands levels level depth fields → FieldsKeep demands levels level depth (with_stored r fields)
    unfolding with_stored
    fields-store keep-none = keep-field d o hangs-none keep-none
    fields-store (keep-field {r = x} {hanging = run} {later = later} e p hang fs) = by_test (eqb x.tag r.tag) refl (fields-store fs)
      where
        by_test : (b : Bool) → eqb x.tag r.tag ≡ b → FieldsKeep demands levels level depth (with_stored r later) →
            FieldsKeep demands levels level depth (pick b (field r run later) (field x run (with_stored r later)))
        by_test true same f = keep-field d o (subst (λ (tag : ℕ). Hangs demands levels level depth tag run) (eqb-true _ _ same) hang) fs
        by_test false other f = keep-field e p hang f

    pub entry_stores : {fields : Entry} → EntryKeeps levels level depth fields → EntryKeeps levels level depth (with_stored r fields)
    unfolding with_stored
    entry_stores (keeps_fields {r = x} {hanging = run} {fields = fields} e p hang fs) = by_test (eqb x.tag r.tag) refl
      where
        by_test : (b : Bool) → eqb x.tag r.tag ≡ b → EntryKeeps levels level depth (pick b (field r run fields) (field x run (with_stored r fields)))
        by_test true same =
            keeps_fields d (subst (λ (tag : ℕ). demands.opens level tag ≡ true) (eqb-true _ _ same) p)
            (subst (λ (tag : ℕ). Hangs demands levels level depth tag run) (eqb-true _ _ same) hang) fs
        by_test false other = keeps_fields e p hang (fields-store fs)

  module _ {levels depth : ℕ} {level : L} (r : Record) (d : r.depth ≡ depth) where
    stored-step : (x : Record) {run : Run} (later : Entry) → x.depth ≡ depth → Hangs demands levels level depth x.tag run →
        laid_fields (with_stored r later) ≡ stored r (laid_fields later) →
        laid_fields (with_stored r (field x run later)) ≡ stored r (laid_fields (field x run later))
    unfolding with_stored laid stored
    stored-step x {run} later e hang same =
        rw (eq-eqb x.depth r.depth (e ∙ sym d), stored-below r depth d (laid_fields later) (hangs-deeper demands hang), ← same)
        (by_test (eqb x.tag r.tag))
      where
        by_test : (b : Bool) →
            laid_fields (pick b (field r run later) (field x run (with_stored r later)))
            ≡ pick b (r ∷ (laid run ++ laid_fields later)) (x ∷ (laid run ++ laid_fields (with_stored r later)))
        by_test true = refl
        by_test false = refl

    fields_laid : {fields : Entry} → FieldsKeep demands levels level depth fields → laid_fields (with_stored r fields) ≡ stored r (laid_fields fields)
    unfolding with_stored laid stored
    fields_laid keep-none = refl
    fields_laid (keep-field {r = x} {later = later} e p hang fs) = stored-step x later e hang (fields_laid fs)

    pub entry-laid : {fields : Entry} → EntryKeeps levels level depth fields → laid_fields (with_stored r fields) ≡ stored r (laid_fields fields)
    entry-laid (keeps_fields {r = x} {fields = fields} e p hang fs) = stored-step x fields e hang (fields_laid fs)
