-- What was read is a tree: the records of a run that was read to its end are those of a tree that keeps to its level, so what the required check
-- answers on them is what it answers on the tree. The tree is grown along the form that `run_formed` gives to the records.
use Rattle.std.specs.Prelude.{◌≡◌, Bool, true, false, ℕ, zero, suc, ◌+◌, ◌<◌, Some, None}
use Rattle.std.proofs.Math.Path.{refl, ap}
use Rattle.std.proofs.Common.{Option, sym, ◌∙◌, arith}
use mathlib.Core.List.{List, [], ◌∷◌, ◌++◌, append-nil}
use Rattle.field_rules.specs.Fields.{Fields}
use Rattle.field_rules.specs.declared.Field.{Field}
use Rattle.dictionary_layout_rules.specs.Layout.{Layout}
use Rattle.build_records.specs.Records.{stored}
use Rattle.build_records.specs.declared.Record.{Record}
use Rattle.build_group_rules.specs.Groups.{opened, Rules, opens, run, outermost, RunOutcome, walk}
use Rattle.build_group_rules.specs.Groups.{ended as ran, refused as stops}
use Rattle.build_group_rules.specs.Reading.{layout_rules, list_store, answer_of}
use Rattle.build_group_rules.specs.declared.Refusal.{Refusal}
use Rattle.build_nesting_laws.specs.Formed.{Part, entries_of, fields_of, Formed, no_entry as formed_none, next-entry, starts, rises, hangs, user}
use Rattle.build_nesting_laws.specs.Nesting.{run_formed}
use Rattle.build_nesting_laws.specs.Entries.{layout_first}
use Rattle.build_required_rules.specs.Required.{Demands, run_lack}
use Rattle.build_required_rules.specs.Checking.{layout_demands}
use Rattle.build_required_rules.specs.Tree.{Run, no_entry, Entry, no_field, field, tree_lack, laid, laid_fields, RunKeeps, keeps_none, keep-none, hangs-none}
use Rattle.build_required_rules.specs.Tree.{hangs-run}
use Rattle.build_required_rules.proofs.TreeLaws.{tree_lack_lem}
use Rattle.build_required_rules.proofs.Growing.{with_entry, with_field, with_stored, laid-entry, laid-field, EntryKeeps, keeps_fields, run_grows, entry_grows}
use Rattle.build_required_rules.proofs.Growing.{entry_stores, entry-laid}
use Rattle.build_parts.specs.Parts.{Reading, refused}
use Rattle.build_body_rules.specs.Kinds.{checked, ran_as, run_from}

-- what is read and what is demanded of a level are of one layout: its delimiter, which has the first position, and its groups
pub record OneLayout {L : Type 0} (rules : Rules L) (demands : Demands L) : Type 0 where
  pub same_delimiter : (level : L) (tag : ℕ) → demands.opens level tag ≡ opens rules level tag
  pub same-group : (level : L) (tag : ℕ) → demands.group level tag ≡ rules.group level tag
  pub delimiter_first : (level : L) (tag : ℕ) → opens rules level tag ≡ true → rules.position level tag ≡ Some 0

module _ {L : Type 0} (demands : Demands L) where
  -- records that are those of a run's tree, or of an entry's
  pub record RunTree (levels : ℕ) (level : L) (depth : ℕ) (rs : List Record) : Type 0 where
    pub tree : Run
    pub keeps : RunKeeps demands levels level depth tree
    pub laid_out : laid tree ≡ rs

  record EntryTree (levels : ℕ) (level : L) (depth : ℕ) (rs : List Record) : Type 0 where
    fields : Entry
    keeps_entry : EntryKeeps demands levels level depth fields
    laid-fields : laid_fields fields ≡ rs

  -- at a depth so many levels are left of the four
  abbrev TreeOf : Part L → List Record → Type 0
  TreeOf (entries_of level depth entries) rs = (levels : ℕ) → levels + depth ≡ 4 → RunTree (suc levels) level depth rs
  TreeOf (fields_of level depth number last) rs = (levels : ℕ) → levels + depth ≡ 4 → EntryTree levels level depth rs

module _ {L : Type 0} (rules : Rules L) (demands : Demands L) (inner : L) (tag : ℕ) (fields : Fields) (room : ℕ) where
  -- "When the whole run of a body's count has ended": a refusal stands; else its records are those of a tree, and the answer is what that lacks
  pub data ByTree : Reading → Type 0 where
    run-refused : {refusal : Refusal} {rs : List Record} → walk rules list_store room (run (outermost tag inner) 0 ∷ []) [] fields ≡ stops refusal rs →
        ByTree (refused (answer_of refusal))
    run-read : {f : Field} {rest : Fields} {left : ℕ} (tree : Run) →
        walk rules list_store room (run (outermost tag inner) 0 ∷ []) [] fields ≡ ran f rest left (laid tree) → RunKeeps demands 4 inner 1 tree →
        ByTree (checked f rest left (laid tree) (tree_lack demands inner tag tree))

module _ {L : Type 0} (rules : Rules L) (demands : Demands L) (one : OneLayout rules demands) where
  -- no tag behind the first position, or without one, is the delimiter
  later-tag : (level : L) (tag position : ℕ) → rules.position level tag ≡ Some position → 0 < position → demands.opens level tag ≡ false
  later-tag level tag position p l = one.same_delimiter level tag ∙ by_test (opens rules level tag) refl
    where
      by_test : (b : Bool) → opens rules level tag ≡ b → b ≡ false
      by_test true e = let z : Some 0 ≡ Some position = sym (one.delimiter_first level tag e) ∙ p in let same : 0 ≡ position = cc in absurd (omega arith)
      by_test false e = refl

  user-tag : (level : L) (tag : ℕ) → rules.position level tag ≡ None → demands.opens level tag ≡ false
  user-tag level tag p = one.same_delimiter level tag ∙ by_test (opens rules level tag) refl
    where
      by_test : (b : Bool) → opens rules level tag ≡ b → b ≡ false
      by_test true e = let q : ◌≡◌ {A = Option ℕ} (Some 0) None = sym (one.delimiter_first level tag e) ∙ p in let z : ◌≡◌ {A = ℕ} 0 1 = cc in absurd (omega arith)
      by_test false e = refl

  -- a count comes last in its entry, with its run; less than four levels are open, so one is left for the run
  hang_tree : (level : L) (depth : ℕ) (c : Record) → c.depth ≡ depth → demands.opens level c.tag ≡ false → depth < 4 → {inner : L} →
      demands.group level c.tag ≡ opened inner → (levels : ℕ) → levels + depth ≡ 4 →
      {rs nested : List Record} → EntryTree demands levels level depth rs →
      ((left : ℕ) → left + (depth + 1) ≡ 4 → RunTree demands (suc left) inner (depth + 1) nested) →
      EntryTree demands levels level depth ((rs ++ (c ∷ [])) ++ nested)
  hang_tree level depth c d o w g zero e before hanging = absurd (omega arith)
  hang_tree level depth c d o w g (suc left) e before hanging =
      let below = hanging left (omega arith) in
      record {
        fields = with_field before.fields c below.tree;
        keeps_entry = entry_grows demands c d o (hangs-run g below.keeps) before.keeps_entry;
        laid-fields = laid-field before.fields c below.tree ∙ rw (before.laid-fields, below.laid_out);
      }

  -- the tree grows by what comes last
  formed_tree : {part : Part L} {rs : List Record} → Formed rules part rs → TreeOf demands part rs
  unfolding laid
  formed_tree formed_none = λ levels e. record { tree = no_entry; keeps = keeps_none; laid_out = refl }
  formed_tree (next-entry f g) = λ levels e.
      let first = formed_tree f levels e in
      let last = formed_tree g levels e in
      record {
        tree = with_entry first.tree last.fields;
        keeps = run_grows demands first.keeps last.keeps_entry;
        laid_out = laid-entry first.tree last.fields ∙ rw (first.laid_out, last.laid-fields);
      }
  formed_tree (starts {level = level} {r = r} o own) = λ levels e.
      record {
        fields = field r no_entry no_field;
        keeps_entry = keeps_fields own.deep (one.same_delimiter level r.tag ∙ o) hangs-none keep-none;
        laid-fields = refl;
      }
  formed_tree (rises {level = level} position {r = r} f p l own) = λ levels e.
      let before = formed_tree f levels e in
      record {
        fields = with_field before.fields r no_entry;
        keeps_entry = entry_grows demands r own.deep (later-tag level r.tag position p (omega arith)) hangs-none before.keeps_entry;
        laid-fields = laid-field before.fields r no_entry ∙ append-nil _ ∙ ap (λ (rs : List Record). rs ++ (r ∷ [])) before.laid-fields;
      }
  formed_tree (hangs {level = level} {depth = depth} position c f p l own w g m) = λ levels e.
      hang_tree level depth c own.deep (later-tag level c.tag position p (omega arith)) w (one.same-group level c.tag ∙ g) levels e
      (formed_tree f levels e) (formed_tree m)
  formed_tree (user {level = level} {r = r} f p a own) = λ levels e.
      let before = formed_tree f levels e in
      record {
        fields = with_stored r before.fields;
        keeps_entry = entry_stores demands r own.deep (user-tag level r.tag p) before.keeps_entry;
        laid-fields = entry-laid demands r own.deep before.keeps_entry ∙ ap (stored r) before.laid-fields;
      }

  -- a run of the body that was read to its end
  pub read_tree : (inner : L) (tag room : ℕ) (fields : Fields) (f : Field) (rest : Fields) (left : ℕ) (rs : List Record) →
      walk rules list_store room (run (outermost tag inner) 0 ∷ []) [] fields ≡ ran f rest left rs → RunTree demands 4 inner 1 rs
  read_tree inner tag room fields f rest left rs w =
      let read = run_formed rules [] (outermost tag inner) room fields f rest left rs w in
      rw read.whole (formed_tree read.formed 3 refl)

  module _ (inner : L) (tag : ℕ) (fields : Fields) (room : ℕ) where
    -- whatever the fields are, the run of a count comes to what its tree says
    pub run_by_tree : ByTree rules demands inner tag fields room (run_from rules demands inner tag fields room)
    unfolding run_from
    run_by_tree = by_outcome (walk rules list_store room (run (outermost tag inner) 0 ∷ []) [] fields) refl
      where
        by_laid : (f : Field) (rest : Fields) (left : ℕ) (rs : List Record) (tree : Run) → RunKeeps demands 4 inner 1 tree → laid tree ≡ rs →
            walk rules list_store room (run (outermost tag inner) 0 ∷ []) [] fields ≡ ran f rest left rs →
            ByTree rules demands inner tag fields room (checked f rest left rs (run_lack demands 4 inner tag 1 rs))
        by_laid f rest left rs tree keeps l w = rw (← l, tree_lack_lem demands keeps tag) (run-read {f = f} {rest = rest} {left = left} tree (rw l w) keeps)

        by_outcome : (o : RunOutcome (List Record) (List Record)) → walk rules list_store room (run (outermost tag inner) 0 ∷ []) [] fields ≡ o →
            ByTree rules demands inner tag fields room (ran_as rules demands inner tag o)
        by_outcome (stops refusal rs) w = unfold ran_as in run-refused w
        by_outcome (ran f rest left rs) w =
            let read = read_tree inner tag room fields f rest left rs w in
            unfold ran_as in by_laid f rest left rs read.tree read.keeps read.laid_out w

-- levels that are layouts, as a buyer reads them
pub layouts_one : (accepts : ℕ → Bool) → OneLayout (layout_rules accepts) layout_demands
layouts_one accepts =
    record {
      same_delimiter = λ level tag. unfold opens layout_rules layout_demands in refl;
      same-group = λ level tag. unfold layout_rules layout_demands in refl;
      delimiter_first = layout_first accepts;
    }

pub layout_run_by_tree : (accepts : ℕ → Bool) (inner : Layout) (tag : ℕ) (fields : Fields) (room : ℕ) →
    ByTree (layout_rules accepts) layout_demands inner tag fields room (run_from (layout_rules accepts) layout_demands inner tag fields room)
layout_run_by_tree accepts = run_by_tree (layout_rules accepts) layout_demands (layouts_one accepts)
