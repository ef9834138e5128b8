-- RULES.md, Groups, "Required fields (4)", over a run as the tree that it is: "for each entry first its required tags in layout order, counts of
-- nested groups among them, then its nested runs in the order in which they stand. The first lack is the answer, with the missing tag and the
-- tag of the group that requires it." No depth is compared here; `Required` says it over a run's flat records, and `TreeLaws` that the two agree.
use Rattle.std.specs.Prelude.{ℕ, suc, ◌+◌, ◌≡◌, List, [], ◌∷◌, ◌++◌, Bool, true, false, eqb}
use Rattle.field_rules.specs.Choice.{pick}
use Rattle.build_records.specs.declared.Record.{Record}
use Rattle.build_group_rules.specs.Groups.{Opened, none, opened}
use Rattle.build_required_rules.specs.Required.{Demands}
use Rattle.build_required_rules.specs.declared.Lack.{Lack}
use Rattle.build_required_rules.specs.declared.Lack.TheVariants.{Missing, Complete}

mutual
  -- a run: its entries, one after the other
  pub data Run : Type 0 where
    no_entry : Run
    entry : Entry → Run → Run

  -- an entry: its own fields, one after the other, each with the run that hangs on it; where none does, that has no entry
  pub data Entry : Type 0 where
    no_field : Entry
    field : Record → Run → Entry → Entry

-- a lack: "the missing tag and the tag of the group that requires it"
abbrev Lacked : Type 0
Lacked = ℕ × ℕ

-- one of the entry's own fields has the tag
unfoldable pub holds : ℕ → Entry → Bool
holds tag no_field = false
holds tag (field r hanging later) = pick (eqb r.tag tag) true (holds tag later)

-- "its required tags in layout order, counts of nested groups among them": those that none of its own fields has
unfoldable pub own_lacks : List ℕ → ℕ → Entry → List Lacked
own_lacks [] group fields = []
own_lacks (tag ∷ tags) group fields = pick (holds tag fields) (own_lacks tags group fields) ((tag, group) ∷ own_lacks tags group fields)

-- a run is judged by the level that its tag has; a tag without one has no run
unfoldable pub by_level : {L : Type 0} → Opened L → (L → List Lacked) → List Lacked
by_level none judged = []
by_level (opened level) judged = judged level

module _ {L : Type 0} (demands : Demands L) where
  unfoldable mutual
    -- "for each entry first its required tags .., then its nested runs"
    pub run_lacks : Run → L → ℕ → List Lacked
    run_lacks no_entry level group = []
    run_lacks (entry fields later) level group = (own_lacks (demands.required level) group fields ++ nested_lacks fields level) ++ run_lacks later level group

    -- "its nested runs in the order in which they stand"
    pub nested_lacks : Entry → L → List Lacked
    nested_lacks no_field level = []
    nested_lacks (field r hanging later) level = by_level (demands.group level r.tag) (λ inner. run_lacks hanging inner r.tag) ++ nested_lacks later level

-- "The first lack is the answer"
unfoldable pub first_lack : List Lacked → Lack
first_lack [] = Complete
first_lack ((tag, group) ∷ later) = Missing tag group

-- what the run of a count's tag comes to at a level
unfoldable pub tree_lack : {L : Type 0} → Demands L → L → ℕ → Run → Lack
tree_lack demands level group tree = first_lack (run_lacks demands tree level group)

unfoldable mutual
  -- the records of a run as they stand in a message: entry by entry
  pub laid : Run → List Record
  laid no_entry = []
  laid (entry fields later) = laid_fields fields ++ laid later

  -- each own field, and behind it the run that hangs on it
  pub laid_fields : Entry → List Record
  laid_fields no_field = []
  laid_fields (field r hanging later) = r ∷ (laid hanging ++ laid_fields later)

-- a tree keeps to a level: so many levels may be open, the level, and the depth of the records
module _ {L : Type 0} (demands : Demands L) where
  mutual
    -- a run: each entry starts with a field whose tag is the delimiter, and no later field of its own has that tag
    pub data RunKeeps : ℕ → L → ℕ → Run → Type 0 where
      keeps_none : {levels depth : ℕ} {level : L} → RunKeeps levels level depth no_entry
      keeps_entry : {levels depth : ℕ} {level : L} {r : Record} {hanging later : Run} {fields : Entry} →
          r.depth ≡ depth → demands.opens level r.tag ≡ true → Hangs levels level depth r.tag hanging → FieldsKeep levels level depth fields →
          RunKeeps (suc levels) level depth later → RunKeeps (suc levels) level depth (entry (field r hanging fields) later)

    -- the fields behind the delimiter: they have the depth of the run
    pub data FieldsKeep : ℕ → L → ℕ → Entry → Type 0 where
      keep-none : {levels depth : ℕ} {level : L} → FieldsKeep levels level depth no_field
      keep-field : {levels depth : ℕ} {level : L} {r : Record} {hanging : Run} {later : Entry} →
          r.depth ≡ depth → demands.opens level r.tag ≡ false → Hangs levels level depth r.tag hanging → FieldsKeep levels level depth later →
          FieldsKeep levels level depth (field r hanging later)

    -- a run hangs only on a tag that the level has as a group, and its records stand one depth deeper
    pub data Hangs : ℕ → L → ℕ → ℕ → Run → Type 0 where
      hangs-none : {levels depth tag : ℕ} {level : L} → Hangs levels level depth tag no_entry
      hangs-run : {levels depth tag : ℕ} {level inner : L} {run : Run} →
          demands.group level tag ≡ opened inner → RunKeeps levels inner (depth + 1) run → Hangs levels level depth tag run
